use Rattle.std.proofs.Common.{◌≡◌, ◌++◌, ◌∷◌, [], List, Bool, length, ap, sym, ◌∙◌, arith}
use Rattle.std.proofs.lemmas.List.FromFn.{length-map-range_with_len}
use Rattle.dcr_nest.specs.Tree.{is_at_or_below}
use Rattle.dcr_nest.proofs.MarkLemmas.{marks_more}
use Rattle.dcr_nest.proofs.tree.below_marks.Goals as goal

pub is_below-requires : goal.is_below-requires
is_below-requires c = λ p here.
    let before = c.requires.earlier c.loop-x.x p here in
    let many : length c.deref.result.now ≡ c.loop-x.x =
    ap (λ (ms : List Bool). length ms) (c.deref.ensures.value ∙ c.loop-x.invariant) ∙ length-map-range_with_len (λ x. is_at_or_below c.args.parents.now x c.args.node) 0 c.loop-x.x in
    omega arith

pub loop-x-preserved : goal.loop-x-preserved
loop-x-preserved c =
    marks_more c.args.parents.now c.args.node c.loop-x.x c.deref.result.now c.push.new.self.items c.is_below.result c.requires.earlier
    (c.deref.ensures.value ∙ c.loop-x.invariant) c.is_below.ensures
    (c.in_ok-push.ensures.items ∙ ap (λ (marks : List Bool). marks ++ c.is_below.result ∷ []) (sym c.deref.ensures.value))
