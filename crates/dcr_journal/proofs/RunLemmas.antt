-- The marking after one entry more.
use Rattle.std.proofs.Common.{◌≡◌, List, [], ◌∷◌, ◌++◌}
use Rattle.std.proofs.lemmas.List.Sums.{fold_push}
use Rattle.dcr_graph.specs.Rules.{Rules}
use Rattle.dcr_graph.specs.declared.marking.Marking.{Marking}
use Rattle.dcr_journal.specs.Run.{stepped_by, after}
use Rattle.dcr_journal.specs.declared.call.Entry.{Entry}

pub after_next : (G : Rules) (M : Marking) (J : List Entry) (entry : Entry) → after G M (J ++ entry ∷ []) ≡ stepped_by G (after G M J) entry.call entry.outcome
after_next G M J entry = fold_push (λ N (e : Entry). stepped_by G N e.call e.outcome) M J entry
