-- What was counted and what is still to be counted are all.
use Rattle.std.proofs.Common.{◌≡◌, ◌+◌, ◌≤◌, drop}
use Rattle.dcr_app.specs.Loaded.{count_done}
use Rattle.dcr_app.proofs.load.count_done.Given as goal

abbrev pub invariant-loop-place : goal.invariant-loop-place
invariant-loop-place l = record {
  counted : l.done + count_done (drop l.place l.history.entries) ≡ count_done l.history.entries;
  few : l.done ≤ l.place;
}
