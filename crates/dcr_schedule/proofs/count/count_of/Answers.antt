use Rattle.std.proofs.Common.{true, false, sym, ap, ◌∙◌}
use Rattle.std.specs.Option.{option_copied}
use Rattle.dcr_schedule.proofs.PlayingLemmas.{count_next}
use Rattle.dcr_schedule.proofs.count.count_of.Goals.{then-is_exec, else-is_exec}
use Rattle.dcr_schedule.proofs.count.count_of.Goals as goal

pub loop-place-preserved : goal.loop-place-preserved
loop-place-preserved c =
    let here = sym c.get.ensures ∙ ap option_copied c.unwrap.ensures in
    elim c.if-is_exec.branch [
      | then-is_exec w ↦ count_next c.args.calls.now c.loop-place.place c.loop-place.count c.if-is_exec.count c.unwrap.result.now true here (sym w.if-is_exec.true ∙ c.is_exec.ensures) w.count-is c.loop-place.invariant
      | else-is_exec w ↦ count_next c.args.calls.now c.loop-place.place c.loop-place.count c.if-is_exec.count c.unwrap.result.now false here (sym w.if-is_exec.false ∙ c.is_exec.ensures) w.count-is c.loop-place.invariant
    ]
