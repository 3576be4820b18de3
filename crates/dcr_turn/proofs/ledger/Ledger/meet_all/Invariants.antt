use Rattle.std.proofs.Common.{◌≡◌, List, ◌++◌, vec_len}
use Rattle.std.specs.List.{All}
use Rattle.dcr_turn.specs.PassValue.{PassValue, HasMadeAll}
use Rattle.dcr_turn.proofs.ledger.Ledger.meet_all.Given as goal

-- the passes that were taken from the end have made all
abbrev pub invariant-loop-pass : goal.invariant-loop-pass
invariant-loop-pass g l = record {
  same : l.self ≡ l.initial.self;
  taken : List PassValue;
  whole : l.initial.passes.items ≡ l.passes.items ++ taken;
  seen : All (λ (pass : PassValue). HasMadeAll pass l.initial.self.entries) taken;
}

abbrev pub decreases-loop-pass : goal.decreases-loop-pass
decreases-loop-pass g l = vec_len l.passes
