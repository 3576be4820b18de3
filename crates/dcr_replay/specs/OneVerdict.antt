-- That a text has one verdict.
use Rattle.std.specs.Prelude.{◌≡◌, ℕ, List}
use Rattle.dcr_replay.specs.FirstWrong.{IsVerdict}
use Rattle.dcr_replay.specs.declared.verdict.Verdict.{Verdict}

abbrev pub VerdictIsOne : Type 0
VerdictIsOne = (bytes : List ℕ) (v w : Verdict) → IsVerdict bytes v → IsVerdict bytes w → v ≡ w
