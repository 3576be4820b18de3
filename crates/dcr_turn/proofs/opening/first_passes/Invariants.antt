use Rattle.std.proofs.Common.{◌≡◌, ◌≤◌, ◌-◌, vec_len, vec_capacity}
use Rattle.dcr_turn.specs.PassValue.{new_passes}
use Rattle.dcr_turn.specs.Records.{journal_and_sessions}
use Rattle.dcr_turn.proofs.opening.first_passes.Given as goal

-- the sessions before this one have their passes, and the records of the others are left
abbrev pub invariant-loop-k : goal.invariant-loop-k
invariant-loop-k g l = record {
  passes : l.passes.items ≡ new_passes l.k;
  count : vec_len l.passes ≡ l.k;
  room : l.sessions ≤ vec_capacity l.passes;
  records : l.records ≡ journal_and_sessions l.k (l.sessions - l.k);
}
