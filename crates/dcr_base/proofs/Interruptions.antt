-- A reader or writer that was interrupted so many times in a row.
use Rattle.std.proofs.Common.{◌≡◌, ℕ, ◌+◌, suc, Result, Err, refl, arith}
use Rattle.std.specs.IoError.{error_kind}
use Rattle.std.specs.declared.io.Error.{Error}
use Rattle.std.specs.declared.io.ErrorKind.TheVariants.{Interrupted}
use Rattle.dcr_base.specs.Asked.{WasInterrupted}

pub not_asked : {R : Type 0} (answered : R → Result ℕ Error → R → Type 0) (reader : R) → WasInterrupted answered 0 reader reader
unfolding WasInterrupted
not_asked answered reader = refl

pub once_more : {R : Type 0} (answered : R → Result ℕ Error → R → Type 0) (times : ℕ) (before between after : R) (e : Error)
    → WasInterrupted answered times before between → answered between (Err e) after → error_kind e ≡ Interrupted
    → WasInterrupted answered (times + 1) before after
unfolding WasInterrupted
once_more answered times before between after e so_far asked interrupted =
    let one : times + 1 ≡ suc times = omega arith in
    rw one (between, e, so_far, asked, interrupted)
