-- The opening that a graph writes is over its atoms.
use Rattle.std.proofs.Common.{◌≡◌, ℕ, List, length, ap, sym, subst, ◌∙◌}
use Rattle.serde_json.specs.Data.{Data}
use Rattle.dcr_set.proofs.SetLemmas.{length-those}
use Rattle.dcr_graph.specs.Projection.{HasRoom}
use Rattle.dcr_graph.specs.declared.marking.Marking.{Marking}
use Rattle.dcr_nest.specs.Nest.{Nest, names_of, parents_of}
use Rattle.dcr_nest.specs.Tree.{atoms}
use Rattle.dcr_nest.proofs.FlatLemmas.{length-of_atoms}
use Rattle.dcr_graph_json.specs.Build.{atom_names, nest_in, opening_in, opening_with}
use Rattle.dcr_graph_json.specs.Written.{Written}

pub room_with : (places : List ℕ) (events : List Data) → HasRoom (length places) (opening_with places events)
room_with places events = record {
  executed = length-those (length places) _;
  pending = length-those (length places) _;
  included = length-those (length places) _;
}

pub room_in : (w : Written) → HasRoom (length (atoms (parents_of (nest_in w).nodes))) (opening_in w)
unfolding nest_in opening_in
room_in w = room_with (atoms (parents_of (nest_in w).nodes)) w.events

-- the same of a marking and of the names of atoms that are these
pub opening_room : (w : Written) (N : Nest) (names : List (List ℕ)) (M : Marking) → N ≡ nest_in w → names ≡ atom_names N → M ≡ opening_in w → HasRoom (length names) M
opening_room w N names M nested named opens =
    let many : length (atoms (parents_of (nest_in w).nodes)) ≡ length names =
    ap (λ (P : Nest). length (atoms (parents_of P.nodes))) (sym nested) ∙ sym (length-of_atoms (parents_of N.nodes) (names_of N.nodes)) ∙ ap (λ (ns : List (List ℕ)). length ns) (sym named) in
    subst (λ n. HasRoom n M) many (subst (HasRoom (length (atoms (parents_of (nest_in w).nodes)))) (sym opens) (room_in w))
