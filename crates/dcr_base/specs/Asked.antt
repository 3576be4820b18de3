-- What an adapter asked of a reader or writer of std, and what it made of the answers.
use Rattle.std.specs.Prelude.{◌≡◌, ◌≢◌, ◌⊎◌, ◌<◌, ◌-◌, ◌^◌, ℕ, zero, suc, Result, Ok, Err}
use Rattle.std.specs.IoError.{error_kind}
use Rattle.std.specs.declared.io.Error.{Error}
use Rattle.std.specs.declared.io.ErrorKind.TheVariants.{Interrupted}
use Rattle.dcr_base.specs.declared.failed.Failed.{Failed}

-- it was asked so many times, and each time it was interrupted
unfoldable pub WasInterrupted : {R : Type 0} → (R → Result ℕ Error → R → Type 0) → ℕ → R → R → Type 0
WasInterrupted answered zero before after = after ≡ before
WasInterrupted answered (suc times) before after =
    (between : _) × (e : Error) × WasInterrupted answered times before between × answered between (Err e) after
    × (error_kind e ≡ Interrupted)

-- it was interrupted as often as it was, asked once more, and answered this
abbrev pub Answered : {R : Type 0} → (R → Result ℕ Error → R → Type 0) → R → Result ℕ Error → R → Type 0
Answered answered before answer after =
    (times : ℕ) × (between : _) × WasInterrupted answered times before between × answered between answer after

-- it answered by an error that is no interruption, or was interrupted 2^64 - 1 times in a row
abbrev pub GaveUp : {R : Type 0} → (R → Result ℕ Error → R → Type 0) → R → R → Type 0
GaveUp answered before after =
    ((e : Error) × Answered answered before (Err e) after × (error_kind e ≢ Interrupted))
    ⊎ WasInterrupted answered (2 ^ 64 - 1) before after

-- The reader was asked until it was not interrupted. The first other answer is told: a number of bytes as it is, and an
-- error as a failure, after which it was not asked again.
abbrev pub ToldRead : {R : Type 0} → (R → Result ℕ Error → R → Type 0) → R → Result ℕ Failed → R → Type 0
ToldRead answered before (Ok n) after = Answered answered before (Ok n) after
ToldRead answered before (Err failed) after = GaveUp answered before after

-- The same of a writer that was given so many bytes, of which it may also have taken none.
abbrev pub ToldWrite : {W : Type 0} → (W → Result ℕ Error → W → Type 0) → ℕ → W → Result ℕ Failed → W → Type 0
ToldWrite answered len before (Ok n) after = Answered answered before (Ok n) after
ToldWrite answered len before (Err failed) after = GaveUp answered before after ⊎ ((0 < len) × Answered answered before (Ok 0) after)
