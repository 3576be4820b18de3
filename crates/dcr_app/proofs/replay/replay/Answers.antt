use Rattle.std.specs.Prelude.{⊤}
use Rattle.dcr_app.specs.Answers.{verdict_line}
use Rattle.dcr_app.proofs.OutsideLemmas.{any_ok, told_line}
use Rattle.dcr_app.proofs.ReplayLemmas.{told_verdict}
use Rattle.dcr_app.proofs.replay.replay.Goals as goal

pub returns : goal.returns
returns g c =
    let v = c.in-Ok.verdict in let due = c.status_of.result in let status = c.tell-status.result in let had = g.O.Sink.takes c.args.output.now in let took = g.O.Sink.takes c.tell-status.new.output in
    told_verdict c.args.bytes.now v had took due status c.in-Ok.ensures.verdict c.status_of.ensures
    (told_line c.line_of.result (λ line. line.items) (verdict_line v) ⊤ due status had took c.line_of.ensures (any_ok c.line_of.result) c.tell-status.ensures)
