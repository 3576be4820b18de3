use Rattle.std.proofs.Common.{◌≡◌, ℕ, ◌<◌, arith, List, Option, Ok, IfSome, length, inl, inr, subst, sym}
use Rattle.std.specs.Option.{ForSome}
use Rattle.std.specs.Prelude.{⊤}
use Rattle.dcr_base.specs.declared.status.Status.TheVariants.{Done}
use Rattle.dcr_graph.specs.GraphValue.{rules_of}
use Rattle.dcr_journal.specs.Run.{after}
use Rattle.dcr_journal.specs.declared.closed.Closed.{Closed}
use Rattle.dcr_json.specs.Built.{case_of}
use Rattle.dcr_json.specs.Case.{case_in}
use Rattle.dcr_load.specs.Load.{load}
use Rattle.dcr_report.proofs.LegalLemmas.{waits-below}
use Rattle.dcr_app.specs.Adapted.{RanAlone}
use Rattle.dcr_app.specs.Loaded.{load_line}
use Rattle.dcr_app.proofs.LoadLemmas.{tells_load}
use Rattle.dcr_app.specs.Outside.{write_starved}
use Rattle.dcr_app.proofs.OutsideLemmas.{any_ok, told_line}
use Rattle.dcr_app.proofs.RunLemmas.{one_ok}
use Rattle.dcr_app.proofs.load.load.Goals.{In-Some}
use Rattle.dcr_app.proofs.load.load.Goals as goal

ran : (g : _) (c : In-Some g) → RanAlone c.in-Ok-read_case.case.graph c.in-Ok-read_case.case.cover.owned c.in-Ok-read_case.case.opening c.in-Ok-read_case.case.sessions c.in-Some.closed
ran g c =
    let case = c.in-Ok-read_case.case in
    subst (λ (o : Option Closed). IfSome o (RanAlone case.graph case.cover.owned case.opening case.sessions)) c.in-Some.is c.run_alone-ran.ensures.ran

-- what is waited for is an atom
pub line_of-line-requires : goal.line_of-line-requires
line_of-line-requires g c =
    let case = c.in-Ok-read_case.case in let closed = c.in-Some.closed in
    subst (λ (waited : Option ℕ). ForSome waited (λ e. e < length case.graph.names)) (sym (ran g (goal.at.line_of-line-requires g c).In-Some).run.waits)
    (waits-below (length case.graph.names) (after (rules_of case.graph) closed.opening closed.history.entries))

pub returns-clause-answers : goal.returns-clause-answers
returns-clause-answers g c =
    let case = c.in-Ok-read_case.case in let closed = c.in-Some.closed in let number = c.args.number in let had = g.O.Sink.takes c.args.output.now in let took = g.O.Sink.takes c.tell-status.new.output in
    let same : case_of case ≡ load number = one_ok (case_in c.in-Ok.text.items) (case_of case) (load number) (subst (λ (b : List ℕ). case_in b ≡ Ok (case_of case)) c.deref.ensures.value c.in-Ok-read_case.ensures.says) c.in-Ok.ensures.reads_as_load in
    let text = load_line number case.graph.names closed.history.entries closed.waits in
    tells_load c.loads_are_large.ensures.calls number case closed had took c.tell-status.result c.in-Ok-read_case.ensures.fits same (ran g (goal.at.returns-clause-answers g c).In-Some)
    (elim (told_line c.line_of-line.result (λ line. line.items) text ⊤ Done c.tell-status.result had took c.line_of-line.ensures (any_ok c.line_of-line.result) c.tell-status.ensures) [
      | inl starved ↦ write_starved starved.0 (record { count = 0; fewer = omega arith; wrote = starved.1.0 }) starved.1.1
      | inr it ↦ it.1
    ])
