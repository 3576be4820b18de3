use Rattle.std.proofs.Common.{◌<◌, length, get_or, ap, sym, ◌∙◌}
use Rattle.std.specs.List.{list_any}
use Rattle.std.proofs.lemmas.List.{get_or_default, take_all}
use Rattle.dcr_set.specs.EventSet.{those, union}
use Rattle.dcr_set.proofs.SetLemmas.{length-those}
use Rattle.dcr_graph.specs.Rows.{leads}
use Rattle.dcr_graph.proofs.TableLemmas.{row_read}
use Rattle.dcr_policy.proofs.SetsLemmas.{gained_more}
use Rattle.dcr_policy.proofs.sets.joined.Goals as goal

pub union_with-requires : goal.union_with-requires
union_with-requires c =
    let sets = c.args.sets.now in
    let role = get_or c.args.roles.now c.loop-role.role-index 0 in
    let known : role < length sets = c.requires.known c.loop-role.role-index 0 c.loop-role-test.true in
    ap (λ s. length s) c.loop-role.invariant
    ∙ length-those c.args.room _
    ∙ sym (ap (λ s. length s) (row_read sets role c.index-sets-role.result known c.index-sets-role.is) ∙ c.requires.rooms role known)

pub loop-role-preserved : goal.loop-role-preserved
loop-role-preserved c =
    let sets = c.args.sets.now in
    let roles = c.args.roles.now in
    let i = c.loop-role.role-index in
    let role = get_or roles i 0 in
    let known : role < length sets = c.requires.known i 0 c.loop-role-test.true in
    c.union_with.ensures.joined
    ∙ ap (union c.loop-role.set) (row_read sets role c.index-sets-role.result known c.index-sets-role.is)
    ∙ gained_more c.args.room sets roles i role c.loop-role.set c.loop-role.invariant c.loop-role-test.true (get_or_default roles i 0 role c.loop-role-test.true) (c.requires.rooms role known)

pub returns : goal.returns
returns c =
    c.loop-role.invariant
    ∙ ap (λ roles. those c.args.room (λ a. list_any (λ role. leads c.args.sets.now role a) roles)) (take_all c.loop-role.role-index c.args.roles.now c.loop-role-test.false)
