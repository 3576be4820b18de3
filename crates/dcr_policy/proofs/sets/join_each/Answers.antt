use Rattle.std.proofs.Common.{◌+◌, ◌<◌, length, get_or, set, take, ap, sym, subst, ◌∙◌, arith}
use Rattle.std.proofs.lemmas.List.{get_or_default}
use Rattle.dcr_set.specs.EventSet.{Set, union}
use Rattle.dcr_graph.proofs.TableLemmas.{row_read}
use Rattle.dcr_policy.specs.Sets.{AreJoined}
use Rattle.dcr_policy.proofs.SetsLemmas.{joined_more}
use Rattle.dcr_policy.proofs.sets.join_each.Goals as goal

pub loop-role-preserved : goal.loop-role-preserved
loop-role-preserved c =
    let old = c.args.sets.now.items in
    let now = c.loop-role.sets.items in
    let roles = c.args.roles.now in
    let more = c.args.more.now in
    let i = c.loop-role.role-index in
    let role = get_or roles i 0 in
    let inv = c.loop-role.invariant in
    let known : role < length old = c.requires.known i 0 c.loop-role-test.true in
    let here : role < length now = (let many = inv.many in omega arith) in
    let P : Set → Type 0 = λ s. AreJoined old (take (i + 1) roles) more (set now role s) in
    subst P
    (sym (c.union_with.ensures.joined ∙ ap (λ s. union s more) (row_read now role c.index_mut-set.result.now here c.index_mut-set.ensures.value)))
    (joined_more old now roles more i role inv c.loop-role-test.true (get_or_default roles i 0 role c.loop-role-test.true) here (inv.rooms role ∙ c.requires.rooms role known))
