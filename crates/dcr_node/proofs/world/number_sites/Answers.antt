use Rattle.std.proofs.Common.{◌∷◌, [], ◌++◌, subst, sym, ap, ◌∙◌, arith}
use Rattle.dcr_node.specs.Parts.{AreNumbered}
use Rattle.dcr_node.proofs.WorldLemmas.{numbered_none, numbered_more}
use Rattle.dcr_node.proofs.world.number_sites.Goals as goal

pub loop-member-init : goal.loop-member-init
loop-member-init c = subst (AreNumbered []) (sym c.in_ok-nodes.ensures.items) numbered_none

pub loop-member-preserved : goal.loop-member-preserved
loop-member-preserved c =
    let nodes = c.loop-member.nodes.items in
    subst (AreNumbered (c.loop-member.yielded ++ c.in-Some.member ∷ []))
    (sym (c.in_ok-push.ensures.items ∙ ap (λ n. nodes ++ n ∷ []) c.new.ensures))
    (numbered_more c.loop-member.yielded nodes c.in-Some.member c.len-in-loop-member.result c.loop-member.invariant (omega (arith, c.loop-member.nodes.ok.0)))
