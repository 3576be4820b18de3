use Rattle.dcr_app.specs.Answers.{Answers, AnswersWith, Executed, is_stored}
use Rattle.dcr_app.specs.Command.{command_in}
use Rattle.dcr_app.specs.Outside.{LeavesInput, limit_in}
use Rattle.dcr_app.specs.Stored.{LeavesDisk}
use Rattle.dcr_app.specs.Telling.{LeavesDoor}
use Rattle.dcr_app.proofs.AnswerLemmas.{disk_plain, door_plain, executed, more_answered, task_answered, task_executed}
use Rattle.dcr_app.proofs.app.answer.Goals.{After-execute, In-Answered}
use Rattle.dcr_app.proofs.app.answer.Goals as goal

-- the command was answered
plain : (g : _) (c : In-Answered g)
    → AnswersWith (λ way store bytes. ⊥) (command_in c.args.words.now) (g.I.Source.gives c.args.input.now).bytes (g.I.Source.has_ended c.task_of-task.new.input) (g.O.Sink.takes c.args.output.now)
    (g.O.Sink.takes c.task_of-task.new.output) c.in-Answered.answer.0 c.in-Answered.answer.1 c.in-Answered.answer.2
    × LeavesInput (limit_in (command_in c.args.words.now)) (g.I.Source.gives c.args.input.now) (g.I.Source.gives c.task_of-task.new.input) (g.I.Source.has_ended c.task_of-task.new.input) c.in-Answered.answer.0
plain g c =
    task_answered (command_in c.args.words.now) (g.I.Source.gives c.args.input.now) (g.I.Source.gives c.task_of-task.new.input) (g.I.Source.has_ended c.task_of-task.new.input) (g.O.Sink.takes c.args.output.now)
    (g.O.Sink.takes c.task_of-task.new.output) c.task_of-task.result.0 c.in-Answered.answer c.in-Answered.is c.task_of-task.ensures.task

pub returns-in-Answered-clause-answers : goal.returns-in-Answered-clause-answers
returns-in-Answered-clause-answers g c =
    let answer = c.in-Answered.answer in let had = g.O.Sink.takes c.args.output.now in let took = g.O.Sink.takes c.task_of-task.new.output in
    more_answered had took (g.I.Source.gives c.args.input.now).bytes (g.I.Source.has_ended c.task_of-task.new.input) answer.0 answer.1 answer.2
    (Executed g.D.Disk.view g.D.Disk.faults g.B.Door.tells c.args.door c.args.disk had took
    (record { status = answer.0; closed = answer.1; door = c.args.door; disk = c.task_of-task.result.1; ends = c.new.result; world = answer.2 }))
    (command_in c.args.words.now) (plain g (goal.at.returns-in-Answered-clause-answers g c).In-Answered).0

pub returns-in-Answered-clause-input : goal.returns-in-Answered-clause-input
returns-in-Answered-clause-input g c = (plain g (goal.at.returns-in-Answered-clause-input g c).In-Answered).1

pub returns-in-Answered-clause-disk : goal.returns-in-Answered-clause-disk
returns-in-Answered-clause-disk g c =
    let answer = c.in-Answered.answer in
    disk_plain (g.O.Sink.takes c.args.output.now) (g.O.Sink.takes c.task_of-task.new.output) (g.I.Source.gives c.args.input.now).bytes (g.I.Source.has_ended c.task_of-task.new.input) answer.0 answer.1 answer.2
    g.D.Disk.view g.D.Disk.faults c.args.disk c.task_of-task.result.1 c.task_of-task.ensures.disk (command_in c.args.words.now) (plain g (goal.at.returns-in-Answered-clause-disk g c).In-Answered).0

pub returns-in-Answered-clause-door : goal.returns-in-Answered-clause-door
returns-in-Answered-clause-door g c =
    let answer = c.in-Answered.answer in
    door_plain (g.O.Sink.takes c.args.output.now) (g.O.Sink.takes c.task_of-task.new.output) (g.I.Source.gives c.args.input.now).bytes (g.I.Source.has_ended c.task_of-task.new.input) answer.0 answer.1 answer.2
    g.B.Door.tells c.args.door c.new.result.items c.new.ensures.items (command_in c.args.words.now) (plain g (goal.at.returns-in-Answered-clause-door g c).In-Answered).0

-- the case was executed
end : (g : _) (c : After-execute g)
    → Answers g.D.Disk.view g.D.Disk.faults g.B.Door.tells (command_in c.args.words.now) c.args.door c.args.disk (g.I.Source.gives c.args.input.now).bytes (g.I.Source.has_ended c.task_of-task.new.input)
    (g.O.Sink.takes c.args.output.now) (g.O.Sink.takes c.execute.new.output) c.execute.result
    × LeavesInput (limit_in (command_in c.args.words.now)) (g.I.Source.gives c.args.input.now) (g.I.Source.gives c.task_of-task.new.input) (g.I.Source.has_ended c.task_of-task.new.input) c.execute.result.status
    × LeavesDisk (is_stored (command_in c.args.words.now)) g.D.Disk.view g.D.Disk.faults (g.I.Source.gives c.args.input.now).bytes c.args.disk c.execute.result.disk c.execute.result.status c.execute.result.closed
    × LeavesDoor g.B.Door.tells (command_in c.args.words.now) c.execute.result.closed c.args.door c.execute.result.door c.execute.result.ends.items c.execute.result.status
end g c =
    let left = g.I.Source.gives c.args.input.now in let rest = g.I.Source.gives c.task_of-task.new.input in let has_ended = g.I.Source.has_ended c.task_of-task.new.input in
    let had = g.O.Sink.takes c.args.output.now in let mid = g.O.Sink.takes c.task_of-task.new.output in
    let it = task_executed (command_in c.args.words.now) left rest has_ended had mid c.task_of-task.result.0 c.in-Execute.way c.in-Execute.store c.in-Execute.accepted c.in-Execute.is c.task_of-task.ensures.task in
    executed g.D.Disk.view g.D.Disk.faults g.B.Door.tells c.args.door c.args.disk had (g.O.Sink.takes c.execute.new.output) c.execute.result c.in-Execute.way c.in-Execute.store c.task_of-task.result.1 mid
    c.task_of-task.ensures.disk it.1.2.nothing (command_in c.args.words.now) left rest has_ended it.1.0 it.0 it.1.1 (c.execute.ensures.told it.1.0 it.1.2.spelled) c.execute.ensures.door

pub returns-in-Execute-clause-answers : goal.returns-in-Execute-clause-answers
returns-in-Execute-clause-answers g c = (end g (goal.at.returns-in-Execute-clause-answers g c).After-execute).0

pub returns-in-Execute-clause-input : goal.returns-in-Execute-clause-input
returns-in-Execute-clause-input g c = (end g (goal.at.returns-in-Execute-clause-input g c).After-execute).1

pub returns-in-Execute-clause-disk : goal.returns-in-Execute-clause-disk
returns-in-Execute-clause-disk g c = (end g (goal.at.returns-in-Execute-clause-disk g c).After-execute).2

pub returns-in-Execute-clause-door : goal.returns-in-Execute-clause-door
returns-in-Execute-clause-door g c = (end g (goal.at.returns-in-Execute-clause-door g c).After-execute).3
