-- All lines that came were answered.
use Rattle.std.proofs.Common.{◌≡◌, ◌≤◌}
use Rattle.std.specs.Prelude.{IsSome}
use Rattle.dcr_link.specs.Talking.{bytes_spare}
use Rattle.dcr_link.proofs.HoldLemmas.{Held}
use Rattle.dcr_link.proofs.talk.Talk.hold.Given as goal

abbrev pub invariant-loop-n : goal.invariant-loop-n
invariant-loop-n g l = record {
  terms : l.self.terms ≡ l.initial.self.terms;
  session : l.pass.session ≡ l.initial.pass.session;
  no_fewer : l.initial.pass.made ≤ l.pass.made;
  held : Held g.N.ClusterName.cluster g.N.StoreName.first g.N.TurnName.capacity l.initial.self.terms l.initial.pass l.pass l.self
      (g.L.Source.gives l.initial.link).bytes (g.L.Source.gives l.link).bytes (g.L.Sink.takes l.initial.link).bytes (g.L.Sink.takes l.link).bytes;
  told : IsSome (g.L.Source.gives l.initial.link).bytes → IsSome (g.L.Source.gives l.link).bytes;
  no_read_fault : (g.L.Source.gives l.link).faults ≡ (g.L.Source.gives l.initial.link).faults;
  no_write_fault : (g.L.Sink.takes l.link).faults ≡ (g.L.Sink.takes l.initial.link).faults;
}

abbrev pub decreases-loop-n : goal.decreases-loop-n
decreases-loop-n g l = bytes_spare l.self
