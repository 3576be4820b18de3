use Rattle.std.proofs.Common.{◌≡◌, take}
use Rattle.dcr_journal.proofs.journal.Journal.copy.Given as goal

-- the entries so far, and the same capacity
abbrev pub invariant-loop-place : goal.invariant-loop-place
invariant-loop-place l = record { entries : l.copy.entries ≡ take l.place l.self.entries; capacity : l.copy.capacity ≡ l.self.capacity }
