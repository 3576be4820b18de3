-- The least pair of atoms that is both included and excluded, and its names.
use Rattle.std.proofs.Common.{◌≡◌, ◌≢◌, ℕ, ◌<◌, Option, Some, None, [], length, get_or, option_map, refl, sym, ap, subst, ◌∙◌}
use Rattle.std.specs.Option.{option_and_then}
use Rattle.std.proofs.lemmas.Option.{same_Some}
use Rattle.dcr_set.specs.Least.{least, some_below}
use Rattle.dcr_set.proofs.LeastLemmas.{least-some}
use Rattle.dcr_graph.specs.Rules.{Rules}
use Rattle.dcr_graph.specs.Pairs.{clashes, first_clash, TellsClash}
use Rattle.dcr_graph.specs.declared.graph.GraphStop.{GraphStop}
use Rattle.dcr_graph.specs.declared.graph.GraphStop.TheVariants as graph
use Rattle.dcr_nest.specs.FlatRelation.{flat_relation}
use Rattle.dcr_nest.specs.Nest.{Nest, names_of, parents_of}
use Rattle.dcr_nest.proofs.FlatLemmas.{length-of_atoms}
use Rattle.dcr_format.specs.declared.stop.CaseStop.{CaseStop}
use Rattle.dcr_format.specs.declared.stop.CaseStop.TheVariants.{Clash, NoMemory}
use Rattle.dcr_graph_json.specs.Build.{atom_names, clash_fact}

-- both are atoms
clash_atoms : (G : Rules) (a b : ℕ) → first_clash G ≡ Some (a, b) → (a < G.atoms) × (b < G.atoms)
clash_atoms G a b e = outer (least G.atoms (λ x. some_below G.atoms (clashes G x))) refl e
  where
    inner : (x : ℕ) → least G.atoms (λ x. some_below G.atoms (clashes G x)) ≡ Some x → (o : Option ℕ) → least G.atoms (clashes G x) ≡ o → option_map {U = ℕ × ℕ} (λ y. (x, y)) o ≡ Some (a, b) → (a < G.atoms) × (b < G.atoms)
    inner x f None g h = absurd cc
    inner x f (Some y) g h =
        let one : ℕ × ℕ = (x, y) in
        let other : ℕ × ℕ = (a, b) in
        let pair : one ≡ other = same_Some one other h in
        let P : ℕ × ℕ → Type 0 = λ p. (p.0 < G.atoms) × (p.1 < G.atoms) in
        subst P pair ((least-some G.atoms (λ x. some_below G.atoms (clashes G x)) x f).below, (least-some G.atoms (clashes G x) y g).below)

    outer : (o : Option ℕ) → least G.atoms (λ x. some_below G.atoms (clashes G x)) ≡ o → option_and_then (λ x. option_map {U = ℕ × ℕ} (λ y. (x, y)) (least G.atoms (clashes G x))) o ≡ Some (a, b) → (a < G.atoms) × (b < G.atoms)
    outer None f h = absurd cc
    outer (Some x) f h = inner x f (least G.atoms (clashes G x)) refl h

pub atoms_within : (N : Nest) (a b : ℕ) → first_clash (flat_relation N) ≡ Some (a, b) → (a < length (atom_names N)) × (b < length (atom_names N))
atoms_within N a b e =
    let below = clash_atoms (flat_relation N) a b e in
    let room = sym (length-of_atoms (parents_of N.nodes) (names_of N.nodes)) in
    (subst (λ n. a < n) room below.0, subst (λ n. b < n) room below.1)

clash_told : (N : Nest) (a b : ℕ) (stop : CaseStop) → first_clash (flat_relation N) ≡ Some (a, b) → stop ≡ Clash (get_or (atom_names N) a []) (get_or (atom_names N) b []) → clash_fact N ≡ Some stop
clash_told N a b stop e is = ap (option_map (λ (pair : ℕ × ℕ). Clash (get_or (atom_names N) pair.0 []) (get_or (atom_names N) pair.1 []))) e ∙ ap Some (sym is)

pub unclashed : (N : Nest) → clash_fact N ≡ None → first_clash (flat_relation N) ≡ None
unclashed N e = at (first_clash (flat_relation N)) e
  where
    at : (o : Option (ℕ × ℕ)) → option_map (λ (pair : ℕ × ℕ). Clash (get_or (atom_names N) pair.0 []) (get_or (atom_names N) pair.1 [])) o ≡ None → o ≡ None
    at None h = refl
    at (Some pair) h = absurd cc

-- what was told of a flattening that gave up
pub stop_told : (N : Nest) (stop : GraphStop) (result : CaseStop) → TellsClash (first_clash (flat_relation N)) stop
    → ((a b : ℕ) → stop ≡ graph.Clash a b → result ≡ Clash (get_or (atom_names N) a []) (get_or (atom_names N) b [])) → (stop ≡ graph.NoMemory → result ≡ NoMemory) → result ≢ NoMemory → clash_fact N ≡ Some result
stop_told N (graph.Clash a b) result told clash memory other = clash_told N a b result told (clash a b refl)
stop_told N graph.NoMemory result told clash memory other = absurd (other (memory refl))
