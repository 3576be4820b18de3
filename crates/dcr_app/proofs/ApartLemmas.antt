-- What is known of a case that was run at sites apart.
use Rattle.std.proofs.Common.{◌≡◌, ℕ, ◌<◌, ◌≤◌, List, length, Option, Some, None, Ok, sym, ap, subst, ◌∙◌}
use Rattle.std.specs.Prelude.{false}
use Rattle.std.specs.List.{All}
use Rattle.std.proofs.lemmas.List.{length-map}
use Rattle.dcr_base.specs.Disk.{DiskView}
use Rattle.dcr_base.specs.Side.{Side}
use Rattle.dcr_base.specs.declared.status.Status.{Status}
use Rattle.dcr_base.specs.declared.status.Status.TheVariants.{Done}
use Rattle.dcr_graph.specs.Cause.{waits}
use Rattle.dcr_graph.specs.GraphValue.{rules_of}
use Rattle.dcr_graph.specs.Projection.{HasRoom}
use Rattle.dcr_graph.specs.Rules.{Rules}
use Rattle.dcr_graph.specs.declared.marking.Marking.{Marking}
use Rattle.dcr_journal.specs.Run.{IsLegal, after, marks_at, told}
use Rattle.dcr_journal.specs.declared.call.Entry.{Entry}
use Rattle.dcr_journal.specs.declared.closed.Closed.{Closed}
use Rattle.dcr_laws.specs.Laws.{ToldHasNoOtherSession}
use Rattle.dcr_node.specs.WorldState.{WorldState}
use Rattle.dcr_schedule.specs.Apart.{HasRunApart}
use Rattle.dcr_schedule.specs.Executions.{exec_calls}
use Rattle.dcr_json.specs.Built.{IsCase, case_of}
use Rattle.dcr_json.specs.declared.case.Case.{Case}
use Rattle.dcr_report.specs.Report.{report_text}
use Rattle.dcr_roles.specs.Accepted.{case_accepted}
use Rattle.dcr_app.specs.Answers.{IsAnsweredCase, IsOr, TellsApart, TellsNodes}
use Rattle.dcr_app.specs.Outside.{Wrote}
use Rattle.dcr_app.specs.Stored.{IsRunOn}
use Rattle.dcr_app.specs.declared.command.Command.TheVariants.{Read}
use Rattle.dcr_app.specs.declared.command.Reading.TheVariants.{Nodes}
use Rattle.dcr_app.proofs.OutsideLemmas.{IsEnded, ended_with}
use Rattle.dcr_app.proofs.RunLemmas.{CasesAreAccepted, report_of_run}
use Rattle.dcr_app.proofs.SaysLemmas.{SaysAt}

module _ (case : Case) (is : IsCase case) (world : WorldState) (closed : Closed) (ran : HasRunApart (rules_of case.graph) case.cover.owned case.opening case.sessions world closed) where
  abbrev G : Rules
  G = rules_of case.graph

  abbrev M : Marking
  M = case.opening

  pub run_apart : IsRunOn case.graph case.cover.owned closed
  run_apart =
      let J = ap (λ h. h.entries) ran.closes.history in let C = case.cover.owned in let opening = ran.closes.opening in record {
        room = subst (HasRoom G.atoms) (sym opening) is.opening;
        legal = subst (λ (N : Marking). IsLegal G C N closed.history.entries) (sym opening) (subst (λ (K : List Entry). IsLegal G C M K) (sym J) ran.right.sound.legal);
        marks = ran.closes.marks ∙ (ap (λ (K : List Entry). marks_at G C (after G M K)) (sym J) ∙ ap (λ (N : Marking). marks_at G C (after G N closed.history.entries)) (sym opening));
        waits = ran.closes.waits ∙ (ap (λ (K : List Entry). waits G.atoms (after G M K)) (sym J) ∙ ap (λ (N : Marking). waits G.atoms (after G N closed.history.entries)) (sym opening));
      }

  -- the entries that are told
  told_apart : closed.history.entries ≡ told G case.cover.owned M (exec_calls case.sessions)
  told_apart = ap (λ h. h.entries) ran.closes.history ∙ ran.told

  pub tells_apart : CasesAreAccepted → ToldHasNoOtherSession → (bytes : List ℕ) (had took : Side) (status : Status) → case_accepted bytes ≡ Ok (case_of case)
      → Wrote Done (report_text case.nested case.cover closed.opening closed.history.entries) status had took → TellsApart bytes had took status closed world
  tells_apart accepts law bytes had took status spelled report =
      let C = case.cover.owned in
      let only : All (λ (entry : Entry). entry.session < length (exec_calls case.sessions)) closed.history.entries =
      subst (λ (J : List Entry). All (λ (entry : Entry). entry.session < length (exec_calls case.sessions)) J) (sym told_apart) (law G C M (exec_calls case.sessions)) in
      let many : length (exec_calls case.sessions) ≤ 1024 = subst (λ n. n ≤ 1024) (sym (length-map case.sessions _)) is.most_sessions in
      let entries : length closed.history.entries ≤ 200000 = subst (λ (J : List Entry). length J ≤ 200000) (sym (ap (λ h. h.entries) ran.closes.history)) ran.most_entries in
      record {
        case = case_of case;
        accepts = (accepts bytes (case_of case)).0 spelled;
        ran = subst (λ (R : Rules). HasRunApart R C M case.sessions world closed) is.flat.related ran;
        report = report;
        history = told_apart ∙ ap (λ (R : Rules). told R C M (exec_calls case.sessions)) is.flat.related;
        legal = report_of_run case closed (length (exec_calls case.sessions)) is run_apart many only entries;
      }

-- ---- how it ended

pub apart_ended : CasesAreAccepted → (number : ℕ) (before after : DiskView) (left : Option (List ℕ)) (bytes : List ℕ) (had took : Side) (status : Status) (closed_run : Option Closed) (world : Option WorldState)
    → TellsNodes bytes had took status closed_run world
    → IsEnded ⊥ (SaysAt (Some (Read (Nodes number))) before after left had took closed_run) (IsAnsweredCase (IsOr Done) false before (case_accepted bytes) status) status had took
apart_ended law number before after left bytes had took status (Some closed) (Some world) it =
    ended_with ⊥ (SaysAt (Some (Read (Nodes number))) before after left had took (Some closed)) (IsAnsweredCase (IsOr Done) false before (case_accepted bytes) status) tt tt tt it.report
    (λ adds. (report_text it.case.nested it.case.cover closed.opening closed.history.entries, adds.0, it.legal))
    (λ _ _ or. subst (λ r. IsAnsweredCase (IsOr Done) false before r status) (sym ((law bytes it.case).1 it.accepts)) or)
apart_ended law number before after left bytes had took status None (Some world) it = elim it [ ]
apart_ended law number before after left bytes had took status None None it = elim it [ ]
apart_ended law number before after left bytes had took status (Some closed) None it = elim it [ ]
