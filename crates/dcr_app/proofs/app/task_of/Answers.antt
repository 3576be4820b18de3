use Rattle.std.proofs.Common.{Option, sym, subst, ◌∙◌}
use Rattle.dcr_app.specs.Answers.{IsTask}
use Rattle.dcr_app.specs.Command.{command_in}
use Rattle.dcr_app.specs.declared.command.Command.{Command}
use Rattle.dcr_app.specs.declared.command.Command.TheVariants.{Read}
use Rattle.dcr_app.proofs.AnswerLemmas.{load_task, usage_task}
use Rattle.dcr_app.proofs.CommandLemmas.{has_numbers}
use Rattle.dcr_app.proofs.app.task_of.Goals as goal

pub returns-in-None-clause-task : goal.returns-in-None-clause-task
returns-in-None-clause-task g c =
    usage_task (command_in c.args.words.now) (g.I.Source.gives c.args.input.now) (g.I.Source.has_ended c.args.input.now) (g.O.Sink.takes c.args.output.now) (g.O.Sink.takes c.say-status.new.output) c.say-status.result
    (sym c.in-None.is ∙ c.command_of.ensures) c.say-status.ensures.told c.say-status.ensures.wrote

pub returns-in-Some-Load-clause-task : goal.returns-in-Some-Load-clause-task
returns-in-Some-Load-clause-task g c =
    load_task (command_in c.args.words.now) c.in-Some-Load.number (g.I.Source.gives c.args.input.now) (g.I.Source.has_ended c.args.input.now) (g.O.Sink.takes c.args.output.now) (g.O.Sink.takes c.load-answer.new.output)
    c.load-answer.result.0 (sym (rw c.in-Some-Load.field-0-is at c.in-Some-Load.is) ∙ c.command_of.ensures) c.load-answer.ensures.answers c.load-answer.ensures.world

pub read_input-requires-clause-numbers : goal.read_input-requires-clause-numbers
read_input-requires-clause-numbers g c κs within = has_numbers c.args.words.now (Read c.in-Some-Read.reading) (sym c.command_of.ensures ∙ rw c.in-Some-Read.field-0-is at c.in-Some-Read.is)

pub returns-in-Some-Read-clause-task : goal.returns-in-Some-Read-clause-task
returns-in-Some-Read-clause-task g c =
    subst (λ (command : Option Command). IsTask command (g.I.Source.gives c.args.input.now) (g.I.Source.gives c.read_input.new.input) (g.I.Source.has_ended c.read_input.new.input) (g.O.Sink.takes c.args.output.now)
    (g.O.Sink.takes c.read_input.new.output) c.read_input.result.0) (sym (rw c.in-Some-Read.field-0-is at c.in-Some-Read.is) ∙ c.command_of.ensures) c.read_input.ensures.task
