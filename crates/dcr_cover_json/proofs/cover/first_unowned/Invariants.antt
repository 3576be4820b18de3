use Rattle.std.proofs.Common.{◌≡◌, ℕ, ◌<◌, true}
use Rattle.dcr_proj.specs.CoverValue.{is_owned}
use Rattle.dcr_cover_json.proofs.cover.first_unowned.Given as goal

-- each atom before this one is owned
abbrev pub invariant-loop-number : goal.invariant-loop-number
invariant-loop-number l = (k : ℕ) → k < l.number → is_owned l.owned k ≡ true
