-- The marks that are written of a nested graph open it as they were.
use Rattle.std.proofs.Common.{◌≡◌, ℕ, ◌<◌, inl, inr, Bool, true, false, not, List, length, get_or, Some, unwrap_or, refl, sym, ap, ◌∙◌, arith}
use Rattle.std.specs.List.{All}
use Rattle.std.proofs.lemmas.Bool.{cases_lt, not-true}
use Rattle.std.proofs.lemmas.List.{length-map}
use Rattle.serde_json.specs.Data.{Data}
use Rattle.dcr_set.specs.EventSet.{Set, has}
use Rattle.dcr_set.proofs.SetLemmas.{those-ext}
use Rattle.dcr_set.proofs.ToldLemmas.{told_by_members}
use Rattle.dcr_graph.specs.Names.{is_label}
use Rattle.dcr_graph.specs.Projection.{HasRoom}
use Rattle.dcr_graph.specs.declared.marking.Marking.{Marking}
use Rattle.dcr_nest.specs.Nest.{Nest, labels_of, names_of, parents_of, IsNested}
use Rattle.dcr_nest.specs.Tree.{Parents, atoms, atom_number, is_parent}
use Rattle.dcr_nest.specs.declared.node.Node.{Node}
use Rattle.dcr_nest.proofs.AtomLemmas.{atoms-ascend, atoms-within, number-some, picked-passes, picked-place}
use Rattle.dcr_format.specs.Texts.{AreAllNames}
use Rattle.dcr_graph_json.specs.Build.{has_mark, marked, opening_in, opening_with}
use Rattle.dcr_graph_json.specs.Shape.{written_in}
use Rattle.dcr_graph_json.specs.Text.{event_value_at, event_values, graph_value, marks_of, no_node, relation_values, unusual}
use Rattle.dcr_graph_json.specs.Written.{event_at}
use Rattle.dcr_graph_json.specs.declared.opening.Mark.{Mark}
use Rattle.dcr_graph_json.specs.declared.opening.Mark.TheVariants.{Executed, Pending, Included}
use Rattle.dcr_graph_json.specs.declared.text.Marks.{Marks}
use Rattle.dcr_graph_json.proofs.RoundLemmas.{at_event, same_nodes, written_is}
use Rattle.dcr_graph_json.proofs.TextLemmas.{reads_executed, reads_included, reads_pending}

-- ---- the number of an atom

-- atoms at two places are two
one_atom : (parents : Parents) (a b : ℕ) → a < length (atoms parents) → b < length (atoms parents) → get_or (atoms parents) a 0 ≡ get_or (atoms parents) b 0 → a ≡ b
one_atom parents a b l m same = elim (cases_lt a b) [
  | inl less ↦ absurd (let below = atoms-ascend parents a b 0 less m in omega arith)
  | inr not_less ↦ elim (cases_lt b a) [
    | inl more ↦ absurd (let below = atoms-ascend parents b a 0 more l in omega arith)
    | inr not_more ↦ omega arith
  ]
]

-- the atom at a place has the place for its number
number_is : (parents : Parents) (a : ℕ) → a < length (atoms parents) → atom_number parents (get_or (atoms parents) a 0) ≡ Some a
unfolding atoms
number_is parents a l = at (picked-passes (λ x. not (is_parent parents x)) (length parents) a 0 l)
  where
    placed : (k : ℕ) → k < length (atoms parents) → get_or (atoms parents) k 0 ≡ get_or (atoms parents) a 0 → atom_number parents (get_or (atoms parents) a 0) ≡ Some k → atom_number parents (get_or (atoms parents) a 0) ≡ Some a
    placed k m same e = e ∙ ap Some (one_atom parents k a m l same)

    at : (get_or (atoms parents) a 0 < length parents) × (not (is_parent parents (get_or (atoms parents) a 0)) ≡ true) → atom_number parents (get_or (atoms parents) a 0) ≡ Some a
    at passes =
        let x = get_or (atoms parents) a 0 in
        let place = picked-place (λ y. not (is_parent parents y)) (length parents) x 0 passes.0 passes.1 in
        placed _ place.0 place.1 (number-some parents x passes.0 (not-true (is_parent parents x) passes.1))

-- ---- the marks

back : (usual mark : Bool) → unwrap_or (unusual usual mark) usual ≡ mark
back true true = refl
back true false = refl
back false true = refl
back false false = refl

module _ (N : Nest) (M : Marking) (nested : IsNested N) (are : AreAllNames (names_of N.nodes)) (labels : All (λ label. is_label label ≡ true) (labels_of N.nodes)) (room : HasRoom (length (atoms (parents_of N.nodes))) M) where
  abbrev parents : Parents
  parents = parents_of N.nodes

  abbrev events : List Data
  events = event_values N (Some M)

  abbrev node : ℕ → Node
  node x = get_or N.nodes x no_node

  abbrev marks : ℕ → Marks
  marks x = marks_of (Some M) (atom_number parents x)

  set_back : (mark : Mark) (usual : Bool) (set : Set) → length set ≡ length (atoms parents) → ((x a : ℕ) → x < length N.nodes → atom_number parents x ≡ Some a → has_mark mark (event_value_at N (Some M) x) ≡ unwrap_or (unusual usual (has set a)) usual)
      → marked mark (atoms parents) events ≡ set
  set_back mark usual set long told =
      those-ext (length (atoms parents)) (λ a. has_mark mark (event_at events (get_or (atoms parents) a 0))) (has set) (λ a l.
      let x = get_or (atoms parents) a 0 in
      let within : x < length N.nodes = (let below = atoms-within parents a 0 l in omega (arith, length-map N.nodes (λ (n : Node). n.parent))) in
      ap (has_mark mark) (at_event N (Some M) nested are labels x within) ∙ told x a within (number_is parents a l) ∙ back usual (has set a))
      ∙ sym (told_by_members (length (atoms parents)) set long)

  pub same_opening : opening_in (record { version = N.version; events = events; relations = relation_values (names_of N.nodes) N.relations }) ≡ M
  unfolding opening_in
  same_opening =
      ap (λ nodes. opening_with (atoms (parents_of nodes)) events) (same_nodes N (Some M) nested are labels)
      ∙ ap (λ s. joined s (marked Pending (atoms parents) events) (marked Included (atoms parents) events)) (set_back Executed false M.executed room.executed (λ x a l e. ap (λ o. unwrap_or o false) (reads_executed (names_of N.nodes) (node x) (marks x) ∙ ap (λ o. (marks_of (Some M) o).executed) e)))
      ∙ ap (λ s. joined M.executed s (marked Included (atoms parents) events)) (set_back Pending false M.pending room.pending (λ x a l e. ap (λ o. unwrap_or o false) (reads_pending (names_of N.nodes) (node x) (marks x) ∙ ap (λ o. (marks_of (Some M) o).pending) e)))
      ∙ ap (joined M.executed M.pending) (set_back Included true M.included room.included (λ x a l e. ap (λ o. unwrap_or o true) (reads_included (names_of N.nodes) (node x) (marks x) ∙ ap (λ o. (marks_of (Some M) o).included) e)))
    where
      joined : Set → Set → Set → Marking
      joined a b c = record { executed = a; pending = b; included = c }

  pub opening_read : opening_in (written_in N.version (Some (graph_value N (Some M)))) ≡ M
  opening_read = ap opening_in (written_is N (Some M) nested are labels) ∙ same_opening
