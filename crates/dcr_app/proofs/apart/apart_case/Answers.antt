use Rattle.std.proofs.Common.{List, refl, subst}
use Rattle.dcr_graph.specs.GraphValue.{rules_of}
use Rattle.dcr_journal.specs.declared.call.Call.{Call}
use Rattle.dcr_schedule.specs.Apart.{HasRunApart}
use Rattle.dcr_app.specs.Answers.{bytes_starved, bytes_told}
use Rattle.dcr_app.proofs.ApartLemmas.{run_apart, tells_apart}
use Rattle.dcr_app.proofs.OutsideLemmas.{adds_nothing}
use Rattle.dcr_app.proofs.RunLemmas.{cases_are_accepted}
use Rattle.dcr_app.proofs.apart.apart_case.Goals.{In-Ok}
use Rattle.dcr_app.proofs.apart.apart_case.Goals as goal

-- the sessions that were lent are those of the case
ran : (g : _) (c : In-Ok g) → HasRunApart (rules_of c.args.case.now.graph) c.args.case.now.cover.owned c.args.case.now.opening c.args.case.now.sessions c.in-Ok.world c.in-Ok.closed
ran g c =
    let case = c.args.case.now in
    subst (λ (s : List (List Call)). HasRunApart (rules_of case.graph) case.cover.owned case.opening s c.in-Ok.world c.in-Ok.closed) c.all.ensures c.in-Ok.ensures

pub returns-in_default : goal.returns-in_default
returns-in_default g c = λ bytes spelled. bytes_starved (refl, refl) (refl, adds_nothing (g.O.Sink.takes c.args.output.now))

pub report-status-requires-clause-run : goal.report-status-requires-clause-run
report-status-requires-clause-run g c κs within = run_apart c.args.case.now c.requires c.in-Ok.world c.in-Ok.closed (ran g (goal.at.report-status-requires-clause-run g c).In-Ok)

pub returns : goal.returns
returns g c = λ bytes spelled. bytes_told
    (tells_apart c.args.case.now c.requires c.in-Ok.world c.in-Ok.closed (ran g (goal.at.returns g c).In-Ok) (cases_are_accepted c.when_each_refusal_comes.ensures.accepted) c.told_has_each_call.ensures.sessions bytes
    (g.O.Sink.takes c.args.output.now) (g.O.Sink.takes c.report-status.new.output) c.report-status.result spelled c.report-status.ensures)
