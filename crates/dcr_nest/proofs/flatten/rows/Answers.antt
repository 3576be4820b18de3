use Rattle.std.proofs.Common.{◌≡◌, ℕ, ◌<◌, ◌||◌, List, [], false, length, get_or, map, replicate, IfOk, ap, sym, subst, ◌∙◌, arith}
use Rattle.std.specs.List.{list_any}
use Rattle.std.proofs.lemmas.List.{length-replicate, get_or-replicate}
use Rattle.std.proofs.lemmas.List.FromFn.{length-map-range_with_len}
use Rattle.dcr_graph.proofs.TableLemmas.{leads-none}
use Rattle.dcr_graph.specs.Rows.{row, leads}
use Rattle.dcr_set.specs.EventSet.{Set, no_event}
use Rattle.dcr_set.proofs.SetLemmas.{length-those}
use Rattle.dcr_nest.specs.FlatRelation.{gathers}
use Rattle.dcr_nest.specs.Tree.{Parents, meets, atoms, atoms_below}
use Rattle.dcr_nest.proofs.AtomLemmas.{atoms-within}
use Rattle.dcr_nest.proofs.FlatLemmas.{row_below, room-atoms_below, spread_is_related}
use Rattle.dcr_nest.proofs.flatten.rows.Goals as goal
use Rattle.dcr_nest.proofs.flatten.rows.Goals.{In_ok-spread}

-- the rows are empty at first
start : (c : In_ok-spread) → c.in_ok-spread.spread.items ≡ replicate (length c.args.tree.now) (no_event (length (atoms c.args.tree.now)))
start c =
    c.in_ok-spread.ensures
    ∙ ap (λ (parents : Parents). replicate (length parents) (no_event (length c.atoms.result.now))) c.parents.ensures.parents
    ∙ ap (λ (nodes : List ℕ). replicate (length c.args.tree.now) (no_event (length nodes))) c.atoms.ensures.atoms

many_below : (c : In_ok-spread) → length c.args.below.now ≡ length c.args.tree.now
many_below c = ap (λ (sets : List Set). length sets) c.requires.below ∙ length-map-range_with_len (atoms_below c.args.tree.now) 0 (length c.args.tree.now)

many_rows : (c : In_ok-spread) → length c.in_ok-spread.spread.items ≡ length c.args.tree.now
many_rows c = ap (λ (sets : List Set). length sets) (start c) ∙ length-replicate (length c.args.tree.now) (no_event (length (atoms c.args.tree.now)))

room : (c : In_ok-spread) (x : ℕ) → x < length c.args.tree.now → length (row c.in_ok-spread.spread.items x) ≡ length (atoms c.args.tree.now)
room c x within =
    ap (λ (rows : List Set). length (row rows x)) (start c)
    ∙ ap (λ (s : Set). length s) (get_or-replicate (length c.args.tree.now) x (no_event (length (atoms c.args.tree.now))) [] within)
    ∙ length-those (length (atoms c.args.tree.now)) (λ _. false)

pub gather-requires-clause-many : goal.gather-requires-clause-many
gather-requires-clause-many c =
    let s = (goal.at.gather-requires-clause-many c).In_ok-spread in
    many_rows s ∙ sym (many_below s)

pub gather-requires-clause-ends : goal.gather-requires-clause-ends
gather-requires-clause-ends c = λ k d within.
    let ends = c.requires.ends k d within in let one = ends.0 in let other = ends.1 in let many = many_below (goal.at.gather-requires-clause-ends c).In_ok-spread in
    (omega arith, omega arith)

pub gather-requires-clause-rooms : goal.gather-requires-clause-rooms
gather-requires-clause-rooms c = λ x y inside within.
    let s = (goal.at.gather-requires-clause-rooms c).In_ok-spread in
    let many = many_below s in
    room s x (omega arith)
    ∙ sym (ap (λ (s : Set). length s) (row_below c.args.tree.now c.args.below.now y c.requires.below (omega arith)) ∙ room-atoms_below c.args.tree.now y)

pub at-requires : goal.at-requires
at-requires c = λ k d within.
    let tree = c.args.tree.now in
    let many = many_rows (goal.at.at-requires c).In_ok-spread in
    let gathered = c.gather.ensures.many in
    let handed = c.hand_down.ensures.many in
    let these = ap (λ (rows : List Set). length rows) c.deref.ensures.value in
    let nodes = c.atoms-2.ensures.atoms in
    let inside : get_or (atoms tree) k d < length tree = atoms-within tree k d (let many = ap (λ (xs : List ℕ). length xs) nodes in omega arith) in
    let same = ap (λ (xs : List ℕ). get_or xs k d) nodes in
    omega arith

pub returns-clause-related : goal.returns-clause-related
returns-clause-related c =
    let s = (goal.at.returns-clause-related c).In_ok-spread in
    let tree = c.args.tree.now in
    let P : List Set → Type 0 = λ all. IfOk c.at.result (λ rows. rows.items ≡ all) in
    subst P (
    ap (λ rows. map (row rows) c.atoms-2.result.now) c.deref.ensures.value
    ∙ ap (map (row c.hand_down.new.rows.items)) c.atoms-2.ensures.atoms
    ∙ spread_is_related tree c.args.relations.now c.args.kind c.args.below.now c.gather.new.rows.items c.hand_down.new.rows.items c.requires.below c.requires.ends
    (λ x b.
    c.gather.ensures.gathered x b
    ∙ ap (λ t. t || list_any (gathers c.args.below.now c.args.kind x b) c.args.relations.now)
    (ap (λ (rows : List Set). leads rows x b) (start s) ∙ leads-none (length tree) (length (atoms tree)) x b))
    (λ x b within.
    c.hand_down.ensures.handed x b (let many = ap (λ (parents : Parents). length parents) c.parents-2.ensures.parents in omega arith)
    ∙ ap (λ parents. meets parents (λ z. leads c.gather.new.rows.items z b) (length parents) x) c.parents-2.ensures.parents)
    (λ x within. c.hand_down.ensures.rooms x ∙ c.gather.ensures.rooms x ∙ room s x within))
    c.at.ensures
