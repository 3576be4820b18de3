-- Executions were told, so many more than at first.
use Rattle.std.proofs.Common.{◌≡◌, ◌+◌, ◌-◌, ◌≤◌, ℕ, length}
use Rattle.dcr_node.specs.JournalState.{stream_of}
use Rattle.dcr_seat.specs.Asking.{Writes}
use Rattle.dcr_seat.specs.InStep.{told_of}
use Rattle.dcr_seat.proofs.seat.Seat.bring.Given as goal

abbrev pub invariant-loop-self : goal.invariant-loop-self
invariant-loop-self g l =
    (l.self.number ≡ l.initial.self.number) × (g.L.Source.gives l.self.link ≡ g.L.Source.gives l.initial.self.link) × (l.self.told ≤ length (stream_of l.node l.site))
    × ((count : ℕ) × Writes (told_of l.node l.site l.initial.self.told count) (g.L.Sink.takes l.initial.self.link) (g.L.Sink.takes l.self.link) × (l.self.told ≡ l.initial.self.told + count))

abbrev pub decreases-loop-self : goal.decreases-loop-self
decreases-loop-self g l = length (stream_of l.node l.site) - l.self.told
