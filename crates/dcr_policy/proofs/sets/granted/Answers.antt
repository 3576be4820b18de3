use Rattle.std.proofs.Common.{ℕ, List, [], ◌∷◌, ◌++◌, map, take, ap, sym, ◌∙◌}
use Rattle.std.specs.List.{list_any}
use Rattle.std.proofs.lemmas.List.{get_or_read, map_more}
use Rattle.dcr_set.specs.EventSet.{Set, those}
use Rattle.dcr_graph.specs.Rows.{leads}
use Rattle.dcr_policy.proofs.sets.granted.Goals as goal

pub loop-roles-preserved : goal.loop-roles-preserved
loop-roles-preserved c =
    let users = c.args.users.now in
    let i = c.loop-roles.roles-index in
    let of : List ℕ → Set = λ roles. those c.args.room (λ a. list_any (λ role. leads c.args.asking.now role a) roles) in
    c.in_ok-push.ensures.items
    ∙ ap (λ sets. sets ++ c.joined.result ∷ []) c.loop-roles.invariant
    ∙ ap (λ set. map of (take i users) ++ set ∷ []) (c.joined.ensures ∙ ap of (c.all.ensures ∙ get_or_read users i c.roles-item.result c.loop-roles-test.true c.roles-item.is []))
    ∙ sym (map_more of users i [] c.loop-roles-test.true)
