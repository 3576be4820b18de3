-- That each text has a verdict as a report.
use Rattle.std.specs.Prelude.{ℕ, List}
use Rattle.dcr_replay.specs.FirstWrong.{IsVerdict}
use Rattle.dcr_replay.specs.declared.verdict.Verdict.{Verdict}

-- a text is valid, or one of its lines is the first wrong one
abbrev pub EachHasAVerdict : Type 0
EachHasAVerdict = (bytes : List ℕ) → (verdict : Verdict) × IsVerdict bytes verdict
