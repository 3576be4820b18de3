use Rattle.std.proofs.Common.{◌≡◌, ℕ, ◌<◌, length, get_or, map, ap, sym, subst, ◌∙◌, arith}
use Rattle.std.specs.List.{list_any, range_with_len}
use Rattle.std.proofs.lemmas.List.{length-map}
use Rattle.std.proofs.lemmas.List.FromFn.{get_or-map-range_with_len, length-map-range_with_len}
use Rattle.dcr_set.specs.EventSet.{those}
use Rattle.dcr_graph.specs.Rows.{leads}
use Rattle.dcr_nest.specs.Nest.{parents_of}
use Rattle.dcr_nest.specs.Tree.{atoms, atoms_below}
use Rattle.dcr_nest.specs.declared.node.Node.{Node}
use Rattle.dcr_nest.proofs.FlatLemmas.{room-atoms_below}
use Rattle.dcr_policy.specs.Sets.{AreAsking}
use Rattle.dcr_policy.proofs.SetsLemmas.{all_granted}
use Rattle.dcr_policy.proofs.kept.prepare.Goals as goal

pub asking-requires-clause-as_many : goal.asking-requires-clause-as_many
asking-requires-clause-as_many c =
    let nodes = c.args.nested.now.nodes in
    ap (λ sets. length sets) (c.deref.ensures.value ∙ c.in_ok-below.ensures.below)
    ∙ length-map-range_with_len (atoms_below (parents_of nodes)) 0 (length nodes) ∙ sym c.requires.as_many

pub asking-requires-clause-rooms : goal.asking-requires-clause-rooms
asking-requires-clause-rooms c = λ k d within.
    let nodes = c.args.nested.now.nodes in
    let parents = parents_of nodes in
    let seen = c.deref.ensures.value ∙ c.in_ok-below.ensures.below in
    let many = ap (λ sets. length sets) seen ∙ length-map-range_with_len (atoms_below parents) 0 (length nodes) in
    let node : k < length nodes = omega arith in
    let room : length (atoms parents) ≡ c.len-room.result = omega (arith, ap (λ xs. length xs) (c.in_ok-nodes.ensures ∙ ap (λ ns. atoms (parents_of ns)) c.nodes-2.ensures.nodes), c.in_ok-nodes.nodes.ok.0, c.len-room.ensures) in
    ap (λ sets. length (get_or sets k d)) seen
    ∙ ap (λ s. length s) (get_or-map-range_with_len (atoms_below parents) 0 (length nodes) k k d node (omega arith))
    ∙ room-atoms_below parents k ∙ room

pub returns-clause-may : goal.returns-clause-may
returns-clause-may c =
    let nodes = c.args.nested.now.nodes in
    let parents = parents_of nodes in
    let own = c.args.own.now in
    let users = c.args.users.now in
    let below = c.deref.result.now in
    let sets = c.in_ok-sets.sets.items in
    let as_many : length parents ≡ length nodes = length-map nodes (λ (node : Node). node.parent) in
    let room : c.len-room.result ≡ length (atoms parents) = omega (arith, ap (λ xs. length xs) (c.in_ok-nodes.ensures ∙ ap (λ ns. atoms (parents_of ns)) c.nodes-2.ensures.nodes), c.in_ok-nodes.nodes.ok.0, c.len-room.ensures) in
    let A : ℕ → Type 0 = λ n. AreAsking own below (range_with_len 0 (length own)) c.args.count n sets in
    c.in_ok-may.ensures
    ∙ ap (λ n. map (λ roles. those n (λ a. list_any (λ role. leads c.deref-2.result.now role a) roles)) users) room
    ∙ ap (λ rows. map (λ roles. those (length (atoms parents)) (λ a. list_any (λ role. leads rows role a) roles)) users) c.deref-2.ensures.value
    ∙ all_granted parents own users below sets c.args.count (c.requires.as_many ∙ sym as_many)
    (c.deref.ensures.value ∙ c.in_ok-below.ensures.below ∙ ap (λ n. map (atoms_below parents) (range_with_len 0 n)) (sym as_many))
    (subst A room c.in_ok-sets.ensures) c.requires.users
