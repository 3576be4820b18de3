use Rattle.std.proofs.Common.{sym, subst}
use Rattle.dcr_tape.specs.Found.{IsRecord}
use Rattle.dcr_tape.proofs.record.judge.Goals as goal

pub returns-in-Eight : goal.returns-in-Eight
returns-in-Eight c = subst (λ width. IsRecord c.args.bytes.now width c.args.number 0 c.judge_eight.result) (sym c.in-Eight.is) (c.judge_eight.ensures c.args.number)
