use Rattle.std.proofs.Common.{ℕ, sym, subst, refl}
use Rattle.std.specs.Fn.{FnOnceReturnsAtMut}
use Rattle.dcr_lock.proofs.row.Row.change.Goals as goal

pub unlock-requires : goal.unlock-requires
unlock-requires g c =
    let called : FnOnceReturnsAtMut g.F.FnOnce c.args.change c.lock-held.result.value c.change-answer.result c.change-answer.new.arg2 =
    record { shown = c.value.result; shows = c.value.ensures.value; left = _; met = c.change-answer.ensures; leaves = refl } in
    subst (λ (place : ℕ). g.T.Placed.belongs place c.change-answer.new.arg2) (sym c.lock-held.ensures.place) (c.requires.belongs _ _ _ c.lock-held.ensures.belongs called)

pub returns : goal.returns
returns g c =
    let called : FnOnceReturnsAtMut g.F.FnOnce c.args.change c.lock-held.result.value c.change-answer.result c.change-answer.new.arg2 =
    record { shown = c.value.result; shows = c.value.ensures.value; left = _; met = c.change-answer.ensures; leaves = refl } in
    (c.lock-held.result.value, c.change-answer.new.arg2, c.lock-held.ensures.belongs, called)
