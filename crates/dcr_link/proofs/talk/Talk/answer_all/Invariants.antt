-- The lines that end in the front of the piece are answered.
use Rattle.std.proofs.Common.{◌≡◌, ◌+◌, ◌-◌, ◌≤◌, ◌++◌, ℕ, List, length, take}
use Rattle.std.specs.Io.KnownBytes.{Appends}
use Rattle.dcr_turn.specs.PassValue.{PassValue}
use Rattle.dcr_link.specs.Talking.{Going, bytes_spare}
use Rattle.dcr_link.proofs.talk.Talk.answer_all.Given as goal

abbrev pub invariant-loop-used : goal.invariant-loop-used
invariant-loop-used g l = record {
  within : l.used ≤ length l.piece;
  terms : l.self.terms ≡ l.initial.self.terms;
  session : l.pass.session ≡ l.initial.pass.session;
  no_fewer : l.initial.pass.made ≤ l.pass.made;
  going : (before : PassValue) (came written : List ℕ)
      → Going g.N.ClusterName.cluster g.N.StoreName.first g.N.TurnName.capacity l.initial.self.terms before l.initial.pass l.initial.self came written
      → (more : List ℕ) × Appends (g.L.Sink.takes l.initial.link).bytes (g.L.Sink.takes l.link).bytes more
      × Going g.N.ClusterName.cluster g.N.StoreName.first g.N.TurnName.capacity l.initial.self.terms before l.pass l.self (came ++ take l.used l.piece) (written ++ more);
  spare : bytes_spare l.self + l.used ≤ bytes_spare l.initial.self;
  apart : g.L.Sink.source_side l.link ≡ g.L.Sink.source_side l.initial.link;
  no_fault : (g.L.Sink.takes l.link).faults ≡ (g.L.Sink.takes l.initial.link).faults;
}

abbrev pub decreases-loop-used : goal.decreases-loop-used
decreases-loop-used g l = length l.piece - l.used
