use Rattle.std.proofs.Common.{◌≡◌, List, ◌++◌, vec_len}
use Rattle.std.specs.List.{All}
use Rattle.dcr_turn.specs.FrontValue.{FrontValue, HasMissedNone}
use Rattle.dcr_turn.proofs.ledger.Ledger.enlist_all.Given as goal

-- the fronts that were taken from the end have missed nothing
abbrev pub invariant-loop-front : goal.invariant-loop-front
invariant-loop-front g l = record {
  entries : l.self.entries ≡ l.initial.self.entries;
  taken : List FrontValue;
  whole : l.initial.fronts.items ≡ l.fronts.items ++ taken;
  seen : All (λ (front : FrontValue). HasMissedNone g.N.TurnName.turn front l.initial.self.entries) taken;
}

abbrev pub decreases-loop-front : goal.decreases-loop-front
decreases-loop-front g l = vec_len l.fronts
