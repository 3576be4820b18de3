use Rattle.dcr_app.specs.Answers.{is_stored}
use Rattle.dcr_app.specs.Command.{command_in}
use Rattle.dcr_app.specs.Telling.{served_by}
use Rattle.dcr_app.proofs.AnswerLemmas.{converse_by, disk_failed_by, door_failed_by, ended, ends_by, headline_by, read_failed_by, says_told}
use Rattle.dcr_app.proofs.app.dcr.Goals as goal

pub returns-clause-headline : goal.returns-clause-headline
returns-clause-headline g c =
    headline_by g.D.Disk.view g.D.Disk.faults g.B.Door.tells c.args.door c.args.disk (g.O.Sink.takes c.args.output.now) (g.O.Sink.takes c.answer.new.output) c.answer.result (g.I.Source.gives c.args.input.now).bytes (g.I.Source.has_ended c.answer.new.input)
    (command_in c.args.words.now) c.answer.ensures.answers

pub returns-clause-says : goal.returns-clause-says
returns-clause-says g c =
    says_told g.D.Disk.view g.D.Disk.faults g.B.Door.tells c.args.door c.args.disk (g.O.Sink.takes c.args.output.now) (g.O.Sink.takes c.answer.new.output) c.answer.result (g.I.Source.gives c.args.input.now).bytes (g.I.Source.has_ended c.answer.new.input)
    c.a_text_has_one_verdict.ensures c.when_each_refusal_comes.ensures.accepted c.one_list.ensures c.no_cause.ensures (command_in c.args.words.now) c.answer.ensures.answers

pub returns-clause-converse : goal.returns-clause-converse
returns-clause-converse g c =
    converse_by g.D.Disk.view g.D.Disk.faults g.B.Door.tells c.args.door c.args.disk (g.O.Sink.takes c.args.output.now) (g.O.Sink.takes c.answer.new.output) c.answer.result (g.I.Source.gives c.args.input.now).bytes (g.I.Source.has_ended c.answer.new.input)
    c.when_each_refusal_comes.ensures.accepted c.ordered_is_told.ensures (command_in c.args.words.now) c.answer.ensures.answers

pub returns-clause-output : goal.returns-clause-output
returns-clause-output g c =
    (ended g.D.Disk.view g.D.Disk.faults g.B.Door.tells c.args.door c.args.disk (g.O.Sink.takes c.args.output.now) (g.O.Sink.takes c.answer.new.output) c.answer.result (g.I.Source.gives c.args.input.now).bytes (g.I.Source.has_ended c.answer.new.input)
    c.a_text_has_one_verdict.ensures c.when_each_refusal_comes.ensures.accepted c.one_list.ensures c.no_cause.ensures (command_in c.args.words.now) c.answer.ensures.answers).writes

pub returns-clause-ends : goal.returns-clause-ends
returns-clause-ends g c =
    let end = c.answer.result in let command = command_in c.args.words.now in let doors = g.B.Door.tells in
    ends_by g.D.Disk.view g.D.Disk.faults doors c.args.door c.args.disk (g.O.Sink.takes c.args.output.now) (g.O.Sink.takes c.answer.new.output) end (g.I.Source.gives c.args.input.now).bytes (g.I.Source.has_ended c.answer.new.input)
    c.a_text_has_one_verdict.ensures c.when_each_refusal_comes.ensures.accepted c.one_list.ensures c.no_cause.ensures _ _ _ _
    (read_failed_by _ _ _ _ end.status c.answer.ensures.input) (returns-clause-output g c).1 command
    (disk_failed_by g.D.Disk.view g.D.Disk.faults (is_stored command) (g.I.Source.gives c.args.input.now).bytes c.args.disk end.disk end.status end.closed c.answer.ensures.disk)
    (door_failed_by doors (served_by command) end.closed c.args.door end.door end.ends.items end.status c.answer.ensures.door) c.answer.ensures.answers
