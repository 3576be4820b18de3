use Rattle.std.proofs.Common.{◌≤◌, vec_len}
use Rattle.dcr_graph_rows.proofs.names.a_text_has_the_number_of_the_first_that_is_it.Given as goal

abbrev pub invariant-loop-text : goal.invariant-loop-text
invariant-loop-text g l = vec_len l.texts ≤ l.text-index
