use Rattle.std.proofs.Common.{ℕ, ◌≤◌, List, length, ap, subst, ◌∙◌, sum_by}
use Rattle.serde_json.specs.View.{view}
use Rattle.dcr_nest.specs.Nest.{parents_of, names_of}
use Rattle.dcr_nest.proofs.FlatLemmas.{length-of_atoms}
use Rattle.dcr_graph.specs.Projection.{HasRoom}
use Rattle.dcr_session_json.specs.Accepted.{IsAcceptedSessions}
use Rattle.dcr_json.specs.Built.{case_of, IsCase}
use Rattle.dcr_json.specs.Case.{case_in}
use Rattle.dcr_json.specs.declared.case.Case.{Case}
use Rattle.dcr_json.proofs.RoundLemmas.{IsWritable, case_read, written_text}
use Rattle.dcr_json.proofs.text.case_text.Goals as goal

-- a case of few calls can be written
writable : (case : Case) → IsCase case → sum_by length case.sessions ≤ 20000 → IsWritable (case_of case)
writable case is few =
    let N = case.nested in
    let many = ap (λ (names : List (List ℕ)). length names) is.flat.names in
    record {
      graph = is.accepted_graph;
      cover = is.accepted_cover;
      opening = subst (λ n. HasRoom n case.opening) (many ∙ length-of_atoms (parents_of N.nodes) (names_of N.nodes)) is.opening;
      sessions = subst (λ n. IsAcceptedSessions (length case.cover.names) n case.sessions) many (record { most_sessions = is.most_sessions; most_calls = is.most_calls; in_range = is.calls_in_range });
      few_calls = few;
    }

pub returns-clause-text : goal.returns-clause-text
returns-clause-text c =
    let case = c.args.case.now in
    written_text (case_of case) (writable case c.requires.fits c.requires.few_calls) (view c.in_ok-value.value) c.in_ok-to_vec.field-0.items c.in_ok-value.ensures c.in_ok-to_vec.ensures.text

pub returns-clause-reads_back : goal.returns-clause-reads_back
returns-clause-reads_back c =
    let case = c.args.case.now in
    let fits = writable case c.requires.fits c.requires.few_calls in
    ap case_in (written_text (case_of case) fits (view c.in_ok-value.value) c.in_ok-to_vec.field-0.items c.in_ok-value.ensures c.in_ok-to_vec.ensures.text) ∙ case_read (case_of case) fits
