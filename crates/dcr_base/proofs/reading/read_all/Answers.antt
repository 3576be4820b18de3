use Rattle.std.proofs.Common.{ℕ, arith}
use Rattle.std.proofs.lemmas.List.{length-take}
use Rattle.dcr_base.proofs.KnownBytes.{left_after, lost_within, OnErr-of}
use Rattle.dcr_base.proofs.reading.read_all.Goals as goal

pub returns-in-Ok-clause-one_too_many : goal.returns-in-Ok-clause-one_too_many
returns-in-Ok-clause-one_too_many g c = λ _. left_after _ _ _ _ _ _
    c.loop-bytes.invariant.taken c.in-Ok.ensures.moved.0 (omega (arith, length-take {A = ℕ}, c.in-Ok.ensures.within))

pub returns-in-Ok-clause-lost : goal.returns-in-Ok-clause-lost
returns-in-Ok-clause-lost g c = lost_within _ _ _ _ _ _
    c.loop-bytes.invariant.taken c.in-Ok.ensures.moved.0 (omega (arith, length-take {A = ℕ}, c.in-Ok.ensures.within))

pub returns-in_err-extend_from_slice-in-Ok-2-clause-lost :
    goal.returns-in_err-extend_from_slice-in-Ok-2-clause-lost
returns-in_err-extend_from_slice-in-Ok-2-clause-lost g c = OnErr-of c.from_residual.result _ (lost_within _ _ _ _ _ _
    c.loop-bytes.invariant.taken c.in-Ok.ensures.moved.0 (omega (arith, length-take {A = ℕ}, c.in-Ok.ensures.within)))
