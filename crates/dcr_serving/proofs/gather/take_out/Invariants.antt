use Rattle.std.proofs.Common.{◌≡◌, ◌≤◌, ◌++◌, ℕ, map, take, vec_capacity}
use Rattle.std.specs.Prelude.{slice_get}
use Rattle.dcr_serving.specs.Placing.{filled}
use Rattle.dcr_serving.proofs.gather.take_out.Given as goal

abbrev pub invariant-loop-i : goal.invariant-loop-i
invariant-loop-i g l = record {
  slots : (j : ℕ) → l.i ≤ j → slice_get l.slots j ≡ slice_get l.initial.slots j;
  passes : l.passes.items ≡ l.initial.passes.items ++ map (λ one. one.pass) (filled (take l.i l.initial.slots));
  ends : l.ends.items ≡ l.initial.ends.items ++ map (λ one. one.end) (filled (take l.i l.initial.slots));
  passes_room : vec_capacity l.passes ≡ vec_capacity l.initial.passes;
  ends_room : vec_capacity l.ends ≡ vec_capacity l.initial.ends;
}
