-- The calls that a fake has had, as contracts see them.
use Rattle.std.specs.Prelude.{ℕ, ◌+◌, List, Contains}
use Rattle.std.specs.Io.Iter.{u64_saturate}

pub record CallLog : Type 0 where
  -- the numbers of the calls that fail, counted from 1
  pub failing : List ℕ
  -- how many calls there were
  pub made : ℕ
  -- how many of them failed
  pub faults : ℕ

-- no call yet
abbrev pub no_calls : List ℕ → CallLog
no_calls failing = record { failing = failing; made = 0; faults = 0 }

-- one more call; its number is `made` from here on, and stops at the largest `u64`, which is above all numbers in
-- `failing`
abbrev pub counted : CallLog → CallLog
counted log = record log { made = u64_saturate (log.made + 1) }

-- the call in hand failed
abbrev pub faulted : CallLog → CallLog
faulted log = record log { faults = u64_saturate (log.faults + 1) }

-- the next call is one of those that fail
abbrev pub FailsNext : CallLog → Type 0
FailsNext log = Contains log.failing (counted log).made
