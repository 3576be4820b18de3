-- What was read of a source by who wanted so many bytes.
use Rattle.std.specs.Prelude.{◌≡◌, ℕ, Result, Ok, Err}
use Rattle.dcr_base.specs.Count.{Fails}
use Rattle.dcr_porter.specs.declared.filling.Unfilled.{Unfilled}
use Rattle.dcr_porter.specs.declared.filling.Unfilled.TheVariants.{Ended, Failed}

-- how many bytes came before the source ended or failed
abbrev pub came : Unfilled → ℕ
came (Ended read) = read
came (Failed read) = read

-- a fault was counted exactly where a read failed
abbrev pub CountsFilling : Result Unit Unfilled → ℕ → ℕ → Type 0
CountsFilling (Ok done) old new = new ≡ old
CountsFilling (Err (Ended read)) old new = new ≡ old
CountsFilling (Err (Failed read)) old new = Fails old new
