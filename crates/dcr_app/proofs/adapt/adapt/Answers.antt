use Rattle.std.proofs.Common.{◌≡◌, ◌≢◌, ◌∷◌, List, length, map, Ok, refl, sym, ap, subst, ◌∙◌}
use Rattle.std.specs.List.{All, IsFirstAndRest}
use Rattle.std.specs.Prelude.{MatchOption}
use Rattle.std.proofs.lemmas.List.Elements.{All-head, All-tail}
use Rattle.dcr_base.specs.declared.status.Status.TheVariants.{Refused}
use Rattle.dcr_json.specs.Built.{IsCase, case_of}
use Rattle.dcr_json.specs.declared.case.Case.{Case}
use Rattle.dcr_adapt.specs.declared.stop.StageStop.TheVariants as stage
use Rattle.dcr_app.specs.Adapted.{stage_line}
use Rattle.dcr_app.specs.declared.command.Reading.TheVariants.{Adapt}
use Rattle.dcr_app.proofs.AdaptLemmas.{told_stages}
use Rattle.dcr_app.proofs.AnswerLemmas.{refused_by}
use Rattle.dcr_app.proofs.OutsideLemmas.{told_line}
use Rattle.dcr_app.proofs.adapt.adapt.Goals.{After-unwrap}
use Rattle.dcr_app.proofs.adapt.adapt.Goals as goal

pub returns-in-Err-clause-answers : goal.returns-in-Err-clause-answers
returns-in-Err-clause-answers g c =
    let stop = c.in-Err.stop in let had = g.O.Sink.takes c.args.output.now in let took = g.O.Sink.takes c.tell-status.new.output in
    refused_by Adapt c.args.bytes.now (stage_line stop) had took (stop ≢ stage.NoMemory) _
    ((refl, refl), told_line c.line_of_stage.result (λ line. line.items) (stage_line stop) (stop ≢ stage.NoMemory) Refused c.tell-status.result had took c.line_of_stage.ensures.line c.line_of_stage.ensures.had c.tell-status.ensures)
    (λ other. (stop, c.in-Err.ensures.says other, other, refl))

-- the cases that were read are a first one and those behind it
split : (g : _) (c : After-unwrap g) → c.in-Ok.cases.items ≡ c.unwrap.result.0.now ∷ c.unwrap.result.1.now
split g c =
    sym c.deref.ensures.value ∙ (subst (λ o. MatchOption o (length c.deref.result.now ≡ 0) (λ p. IsFirstAndRest c.deref.result.now p.0.now p.1.now)) c.unwrap.ensures c.split_first.ensures.cases).0

fit : (g : _) (c : After-unwrap g) → All IsCase (c.unwrap.result.0.now ∷ c.unwrap.result.1.now)
fit g c = subst (λ (l : List Case). All IsCase l) (split g c) c.in-Ok.ensures.fits

pub run_stages-status-requires-clause-case : goal.run_stages-status-requires-clause-case
run_stages-status-requires-clause-case g c κs within = All-head IsCase c.unwrap.result.0.now c.unwrap.result.1.now (fit g (goal.at.run_stages-status-requires-clause-case g c).After-unwrap)

pub run_stages-status-requires-clause-rest : goal.run_stages-status-requires-clause-rest
run_stages-status-requires-clause-rest g c κs within = All-tail IsCase c.unwrap.result.0.now c.unwrap.result.1.now (fit g (goal.at.run_stages-status-requires-clause-rest g c).After-unwrap)

pub run_stages-status-requires-clause-room : goal.run_stages-status-requires-clause-room
run_stages-status-requires-clause-room g c κs within = (All-head IsCase c.unwrap.result.0.now c.unwrap.result.1.now (fit g (goal.at.run_stages-status-requires-clause-room g c).After-unwrap)).opening

pub returns-in-Ok-clause-answers : goal.returns-in-Ok-clause-answers
returns-in-Ok-clause-answers g c =
    let first = c.unwrap.result.0.now in let rest = c.unwrap.result.1.now in
    told_stages c.args.bytes.now (case_of first) (map case_of rest) (g.O.Sink.takes c.args.output.now) (g.O.Sink.takes c.run_stages-status.new.output) c.run_stages-status.result.0 c.run_stages-status.result.1
    (c.in-Ok.ensures.says ∙ ap (λ (l : List Case). Ok (map case_of l)) (split g (goal.at.returns-in-Ok-clause-answers g c).After-unwrap)) c.run_stages-status.ensures.runs
