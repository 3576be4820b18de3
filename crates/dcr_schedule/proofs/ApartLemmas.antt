-- A run at sites apart, from its opening on.
use Rattle.std.proofs.Common.{◌≡◌, ◌≤◌, List, [], length, sym, subst, ap, arith}
use Rattle.std.specs.List.{All}
use Rattle.dcr_set.specs.EventSet.{Set}
use Rattle.dcr_graph.specs.Rules.{Rules}
use Rattle.dcr_graph.specs.declared.marking.Marking.{Marking}
use Rattle.dcr_journal.specs.Run.{IsInRange, numbered, told}
use Rattle.dcr_journal.specs.declared.call.Call.{Call}
use Rattle.dcr_journal.specs.declared.call.Entry.{Entry}
use Rattle.dcr_proj.specs.CoverValue.{atoms_of}
use Rattle.dcr_node.specs.Right.{IsRight}
use Rattle.dcr_node.specs.WorldState.{WorldState}
use Rattle.dcr_node.proofs.RightLemmas.{right_atoms}
use Rattle.dcr_schedule.specs.Executions.{exec_calls}
use Rattle.dcr_schedule.proofs.PlayingLemmas.{length-fold_told}

-- the calls are in the range of a right world's sites and atoms
pub in_range_apart : (G : Rules) (C : List Set) (M : Marking) (sessions : List (List Call)) (w : WorldState) → IsRight G C M w
    → All (λ calls. All (IsInRange (length C) G.atoms) calls) sessions
    → All (λ calls. All (IsInRange (length w.sites) (atoms_of w.journal.alphabets)) calls) sessions
in_range_apart G C M sessions w right calls =
    subst (λ n. All (λ (cs : List Call). All (IsInRange n (atoms_of w.journal.alphabets)) cs) sessions) (sym right.as_many)
    (subst (λ n. All (λ (cs : List Call). All (IsInRange (length C) n) cs) sessions) (sym (right_atoms G C M w right)) calls)

-- as many entries as executions
pub entries_apart : (G : Rules) (C : List Set) (M : Marking) (sessions : List (List Call)) (made : List Entry) → made ≡ told G C M (exec_calls sessions) → length (numbered 0 (exec_calls sessions)) ≤ 200000
    → length made ≤ 200000
entries_apart G C M sessions made is few =
    let many = ap (λ (K : List Entry). length K) is in let all = length-fold_told G C M (numbered 0 (exec_calls sessions)) [] in omega (arith, many, all, few)
