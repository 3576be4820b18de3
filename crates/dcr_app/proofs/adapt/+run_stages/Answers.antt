use Rattle.std.proofs.Common.{◌≡◌, ◌≢◌, List, [], ◌∷◌, map, Option, IfSome, ap, subst}
use Rattle.std.specs.List.{All}
use Rattle.std.proofs.lemmas.List.{nil_from_length}
use Rattle.std.proofs.lemmas.List.Elements.{All-head, All-tail}
use Rattle.dcr_base.specs.declared.status.Status.{Status}
use Rattle.dcr_base.specs.declared.status.Status.TheVariants.{Done}
use Rattle.dcr_journal.specs.declared.closed.Closed.{Closed}
use Rattle.dcr_json.specs.Built.{IsCase, case_of}
use Rattle.dcr_json.specs.declared.case.Case.{Case}
use Rattle.dcr_report.specs.Report.{report_text}
use Rattle.dcr_app.specs.Adapted.{RanAlone}
use Rattle.dcr_app.specs.Outside.{Wrote}
use Rattle.dcr_app.proofs.AdaptLemmas.{carries_here, ends_here, goes_on_here, runs_none, starves_here, stops_here}
use Rattle.dcr_app.proofs.adapt.+run_stages.Goals.{in-Done, in_default-matches}
use Rattle.dcr_app.proofs.adapt.+run_stages.Goals as goal

pub returns-in_default-clause-runs : goal.returns-in_default-clause-runs
returns-in_default-clause-runs g n c = runs_none (case_of c.args.case.now) c.args.opening.now (map case_of c.args.rest.now) c.args.before (g.O.Sink.takes c.args.output.now)

pub returns-then-not-matches-clause-runs : goal.returns-then-not-matches-clause-runs
returns-then-not-matches-clause-runs g n c =
    let closed = c.in-Some.closed in let case = c.args.case.now in
    let ran = subst (λ (o : Option Closed). IfSome o (RanAlone case.graph case.cover.owned c.args.opening.now case.sessions)) c.in-Some.is c.run_alone-ran.ensures.ran in
    let other : c.report-status.result ≢ Done = λ done. elim c.match-matches.branch [
      | in-Done w ↦ absurd (let yes = c.if-not-matches.true in let is = w.matches-is in cc)
      | in_default-matches w ↦ absurd (w.in_default-matches.not-Done done)
    ] in
    stops_here case c.args.opening.now closed c.requires.case ran c.args.before (map case_of c.args.rest.now) (g.O.Sink.takes c.args.output.now) (g.O.Sink.takes c.report-status.new.output) c.report-status.result
    c.report-status.ensures other

pub returns-in_default-split_first-clause-runs : goal.returns-in_default-split_first-clause-runs
returns-in_default-split_first-clause-runs g n c =
    let closed = c.in-Some.closed in let case = c.args.case.now in let had = g.O.Sink.takes c.args.output.now in let took = g.O.Sink.takes c.report-status.new.output in
    let ran = subst (λ (o : Option Closed). IfSome o (RanAlone case.graph case.cover.owned c.args.opening.now case.sessions)) c.in-Some.is c.run_alone-ran.ensures.ran in
    let done : c.report-status.result ≡ Done = (elim c.match-matches.branch [
      | in-Done w ↦ w.in-Done.is
      | in_default-matches w ↦ absurd (let no = c.if-not-matches.false in let is = w.matches-is in cc)
    ]) in
    let none : c.args.rest.now ≡ [] = nil_from_length c.args.rest.now c.in_default-split_first.ensures.cases in
    ends_here case c.args.opening.now closed c.requires.case ran c.args.before (map case_of c.args.rest.now) had took (ap (λ (l : List Case). map case_of l) none)
    (subst (λ (s : Status). Wrote Done (report_text case.nested case.cover closed.opening closed.history.entries) s had took) done c.report-status.ensures)

pub returns-in_default-carry-clause-runs : goal.returns-in_default-carry-clause-runs
returns-in_default-carry-clause-runs g n c =
    let closed = c.in-Some.closed in let case = c.args.case.now in let had = g.O.Sink.takes c.args.output.now in let took = g.O.Sink.takes c.report-status.new.output in
    let ran = subst (λ (o : Option Closed). IfSome o (RanAlone case.graph case.cover.owned c.args.opening.now case.sessions)) c.in-Some.is c.run_alone-ran.ensures.ran in
    let done : c.report-status.result ≡ Done = (elim c.match-matches.branch [
      | in-Done w ↦ w.in-Done.is
      | in_default-matches w ↦ absurd (let no = c.if-not-matches.false in let is = w.matches-is in cc)
    ]) in
    let next = c.in-Some-split_first.next.now in let behind = c.in-Some-split_first.behind.now in
    let same : c.args.rest.now ≡ next ∷ behind = c.in-Some-split_first.ensures.cases.0 in
    starves_here case c.args.opening.now closed c.requires.case ran c.args.before (map case_of c.args.rest.now) (case_of next) (map case_of behind) had took (ap (λ (l : List Case). map case_of l) same)
    (subst (λ (s : Status). Wrote Done (report_text case.nested case.cover closed.opening closed.history.entries) s had took) done c.report-status.ensures)

pub run_stages-requires-clause-case : goal.run_stages-requires-clause-case
run_stages-requires-clause-case g n c κs within =
    let next = c.in-Some-split_first.next.now in let behind = c.in-Some-split_first.behind.now in
    All-head IsCase next behind (subst (λ (l : List Case). All IsCase l) c.in-Some-split_first.ensures.cases.0 c.requires.rest)

pub run_stages-requires-clause-rest : goal.run_stages-requires-clause-rest
run_stages-requires-clause-rest g n c κs within =
    let next = c.in-Some-split_first.next.now in let behind = c.in-Some-split_first.behind.now in
    All-tail IsCase next behind (subst (λ (l : List Case). All IsCase l) c.in-Some-split_first.ensures.cases.0 c.requires.rest)

pub returns-clause-runs : goal.returns-clause-runs
returns-clause-runs g n c =
    let closed = c.in-Some.closed in let case = c.args.case.now in let had = g.O.Sink.takes c.args.output.now in let mid = g.O.Sink.takes c.report-status.new.output in
    let ran = subst (λ (o : Option Closed). IfSome o (RanAlone case.graph case.cover.owned c.args.opening.now case.sessions)) c.in-Some.is c.run_alone-ran.ensures.ran in
    let done : c.report-status.result ≡ Done = (elim c.match-matches.branch [
      | in-Done w ↦ w.in-Done.is
      | in_default-matches w ↦ absurd (let no = c.if-not-matches.false in let is = w.matches-is in cc)
    ]) in
    let next = c.in-Some-split_first.next.now in let behind = c.in-Some-split_first.behind.now in
    let same : c.args.rest.now ≡ next ∷ behind = c.in-Some-split_first.ensures.cases.0 in
    let is_next : IsCase next = All-head IsCase next behind (subst (λ (l : List Case). All IsCase l) same c.requires.rest) in
    goes_on_here case c.args.opening.now closed c.requires.case ran c.args.before (map case_of c.args.rest.now) next (map case_of behind)
    c.in-Ok.carried had mid (g.O.Sink.takes c.run_stages.new.output) c.run_stages.result.0 c.run_stages.result.1 (ap (λ (l : List Case). map case_of l) same)
    (carries_here case c.args.opening.now closed c.requires.case ran c.args.before next c.in-Ok.carried is_next c.in-Ok.ensures.carried)
    (subst (λ (s : Status). Wrote Done (report_text case.nested case.cover closed.opening closed.history.entries) s had mid) done c.report-status.ensures)
    c.run_stages.ensures.runs
