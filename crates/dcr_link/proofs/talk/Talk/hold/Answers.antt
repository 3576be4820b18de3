use Rattle.std.proofs.Common.{ℕ, List, take, refl, sym, subst, ◌∙◌, arith, inl, inr}
use Rattle.std.specs.Prelude.{Option, IsSome}
use Rattle.std.specs.Io.KnownBytes.{Consumes}
use Rattle.dcr_base.specs.Count.{Rose}
use Rattle.dcr_link.proofs.HoldLemmas.{bytes_stay, cause_counts, consumed_told, faults_stay, goes_named, held_end, held_fault, held_input, held_none, held_on}
use Rattle.dcr_link.proofs.talk.Talk.hold.Goals as goal

pub loop-n-init : goal.loop-n-init
loop-n-init g c = record {
  terms = refl;
  session = refl;
  no_fewer = omega arith;
  held = held_none g.N.ClusterName.cluster g.N.StoreName.first g.N.TurnName.capacity c.args.self.now.terms c.args.pass.now c.args.self.now _ _ c.requires.counted c.requires.new.0 (c.requires.new.1, c.requires.new.2, c.requires.new.3);
  told = λ told. told;
  no_read_fault = refl;
  no_write_fault = refl;
}

pub returns-in-Err-clause-serves : goal.returns-in-Err-clause-serves
returns-in-Err-clause-serves g c =
    held_fault g.N.ClusterName.cluster g.N.StoreName.first g.N.TurnName.capacity c.args.self.now.terms c.args.pass.now c.loop-n.pass c.loop-n.self
    (g.L.Source.gives c.args.link.now).bytes (g.L.Source.gives c.loop-n.link).bytes (g.L.Source.gives c.read.new.self).bytes (g.L.Sink.takes c.args.link.now).bytes (g.L.Sink.takes c.loop-n.link).bytes (g.L.Sink.takes c.read.new.self).bytes
    c.loop-n.invariant.held (bytes_stay g.L.Source.sink_side g.L.Sink.takes g.met.L.Link.sink_is c.loop-n.link c.read.new.self c.read.ensures.apart) _
    c.in-Err.ensures.moved (inl (subst (λ (n : ℕ). Rose n (g.L.Source.gives c.read.new.self).faults) c.loop-n.invariant.no_read_fault c.in-Err.ensures.counts.1))

pub returns-in-Ok-eq0-clause-serves : goal.returns-in-Ok-eq0-clause-serves
returns-in-Ok-eq0-clause-serves g c =
    held_input g.N.ClusterName.cluster g.N.StoreName.first g.N.TurnName.capacity c.args.self.now.terms c.args.pass.now c.loop-n.pass c.loop-n.self
    (g.L.Source.gives c.args.link.now).bytes (g.L.Source.gives c.loop-n.link).bytes (g.L.Source.gives c.read.new.self).bytes (g.L.Sink.takes c.args.link.now).bytes (g.L.Sink.takes c.loop-n.link).bytes (g.L.Sink.takes c.read.new.self).bytes
    c.loop-n.invariant.held (bytes_stay g.L.Source.sink_side g.L.Sink.takes g.met.L.Link.sink_is c.loop-n.link c.read.new.self c.read.ensures.apart) _
    (subst (λ (n : ℕ). Consumes (g.L.Source.gives c.loop-n.link).bytes (g.L.Source.gives c.read.new.self).bytes (take n c.read.new.buf)) c.in-Ok-eq0.field-0-test c.in-Ok-eq0.ensures.moved.0)
    (c.in-Ok-eq0.ensures.moved.1 c.in-Ok-eq0.field-0-test (omega arith))

pub returns-in-Some-clause-serves : goal.returns-in-Some-clause-serves
returns-in-Some-clause-serves g c =
    held_end g.N.ClusterName.cluster g.N.StoreName.first g.N.TurnName.capacity c.args.self.now.terms c.args.pass.now c.loop-n.pass c.answer_all.new.pass c.loop-n.self c.answer_all.new.self (take c.in-Ok.n c.read.new.buf)
    (g.L.Source.gives c.args.link.now).bytes (g.L.Source.gives c.loop-n.link).bytes (g.L.Source.gives c.read.new.self).bytes (g.L.Sink.takes c.args.link.now).bytes (g.L.Sink.takes c.loop-n.link).bytes (g.L.Sink.takes c.read.new.self).bytes (g.L.Sink.takes c.answer_all.new.link).bytes
    _ c.answer_all.result c.loop-n.invariant.held c.in-Ok.ensures.moved.0
    (bytes_stay g.L.Source.sink_side g.L.Sink.takes g.met.L.Link.sink_is c.loop-n.link c.read.new.self c.read.ensures.apart)
    (goes_named g.N.ClusterName.cluster g.N.StoreName.first g.N.TurnName.capacity c.args.self.now.terms c.loop-n.self.terms c.loop-n.pass c.answer_all.new.pass c.loop-n.self c.answer_all.new.self
    (take c.in-Ok.n c.read.new.buf) (g.L.Sink.takes c.read.new.self).bytes (g.L.Sink.takes c.answer_all.new.link).bytes _ c.answer_all.result c.loop-n.invariant.terms c.answer_all.ensures.goes_on)
    c.in-Some.cause _ c.in-Some.is
    (λ (fault : Rose (g.L.Sink.takes c.read.new.self).faults (g.L.Sink.takes c.answer_all.new.link).faults). inr (subst (λ (n : ℕ). Rose n (g.L.Sink.takes c.answer_all.new.link).faults)
    (faults_stay g.L.Source.sink_side g.L.Sink.takes g.met.L.Link.sink_is c.loop-n.link c.read.new.self c.read.ensures.apart ∙ c.loop-n.invariant.no_write_fault) fault))

pub loop-n-preserved : goal.loop-n-preserved
loop-n-preserved g c = record {
  terms = c.answer_all.ensures.terms ∙ c.loop-n.invariant.terms;
  session = c.answer_all.ensures.session ∙ c.loop-n.invariant.session;
  no_fewer = let a = c.answer_all.ensures.no_fewer in let b = c.loop-n.invariant.no_fewer in omega arith;
  held = held_on g.N.ClusterName.cluster g.N.StoreName.first g.N.TurnName.capacity c.args.self.now.terms c.args.pass.now c.loop-n.pass c.answer_all.new.pass c.loop-n.self c.answer_all.new.self (take c.in-Ok.n c.read.new.buf)
      (g.L.Source.gives c.args.link.now).bytes (g.L.Source.gives c.loop-n.link).bytes (g.L.Source.gives c.read.new.self).bytes (g.L.Sink.takes c.args.link.now).bytes (g.L.Sink.takes c.loop-n.link).bytes (g.L.Sink.takes c.read.new.self).bytes (g.L.Sink.takes c.answer_all.new.link).bytes
      _ c.answer_all.result c.loop-n.invariant.held c.in-Ok.ensures.moved.0
      (bytes_stay g.L.Source.sink_side g.L.Sink.takes g.met.L.Link.sink_is c.loop-n.link c.read.new.self c.read.ensures.apart)
      (goes_named g.N.ClusterName.cluster g.N.StoreName.first g.N.TurnName.capacity c.args.self.now.terms c.loop-n.self.terms c.loop-n.pass c.answer_all.new.pass c.loop-n.self c.answer_all.new.self
      (take c.in-Ok.n c.read.new.buf) (g.L.Sink.takes c.read.new.self).bytes (g.L.Sink.takes c.answer_all.new.link).bytes _ c.answer_all.result c.loop-n.invariant.terms c.answer_all.ensures.goes_on)
      (g.L.Source.gives c.answer_all.new.link).bytes
      (bytes_stay g.L.Sink.source_side g.L.Source.gives g.met.L.Link.source_is c.read.new.self c.answer_all.new.link c.answer_all.ensures.apart) c.in_default.is;
  told = λ told. subst (λ (l : Option (List ℕ)). IsSome l)
      (sym (bytes_stay g.L.Sink.source_side g.L.Source.gives g.met.L.Link.source_is c.read.new.self c.answer_all.new.link c.answer_all.ensures.apart))
      (consumed_told (g.L.Source.gives c.loop-n.link).bytes (g.L.Source.gives c.read.new.self).bytes (take c.in-Ok.n c.read.new.buf) c.in-Ok.ensures.moved.0 (c.loop-n.invariant.told told));
  no_read_fault = faults_stay g.L.Sink.source_side g.L.Source.gives g.met.L.Link.source_is c.read.new.self c.answer_all.new.link c.answer_all.ensures.apart
      ∙ c.in-Ok.ensures.counts ∙ c.loop-n.invariant.no_read_fault;
  no_write_fault = (rw c.in_default.is at c.answer_all.ensures.counts)
      ∙ faults_stay g.L.Source.sink_side g.L.Sink.takes g.met.L.Link.sink_is c.loop-n.link c.read.new.self c.read.ensures.apart ∙ c.loop-n.invariant.no_write_fault;
}

pub returns-in-Err-clause-counts : goal.returns-in-Err-clause-counts
returns-in-Err-clause-counts g c =
    let reads = c.loop-n.invariant.no_read_fault in
    let fails = c.in-Err.ensures.counts in
    let writes = faults_stay g.L.Source.sink_side g.L.Sink.takes g.met.L.Link.sink_is c.loop-n.link c.read.new.self c.read.ensures.apart ∙ c.loop-n.invariant.no_write_fault in
    (omega (arith, reads, fails.0), omega (arith, writes), inl (subst (λ (n : ℕ). Rose n (g.L.Source.gives c.read.new.self).faults) reads fails.1))

pub returns-in-Ok-eq0-clause-counts : goal.returns-in-Ok-eq0-clause-counts
returns-in-Ok-eq0-clause-counts g c = (
  c.in-Ok-eq0.ensures.counts ∙ c.loop-n.invariant.no_read_fault,
  faults_stay g.L.Source.sink_side g.L.Sink.takes g.met.L.Link.sink_is c.loop-n.link c.read.new.self c.read.ensures.apart ∙ c.loop-n.invariant.no_write_fault,
)

pub returns-in-Some-clause-counts : goal.returns-in-Some-clause-counts
returns-in-Some-clause-counts g c =
    cause_counts c.in-Some.cause (g.L.Source.gives c.args.link.now).faults (g.L.Source.gives c.answer_all.new.link).faults (g.L.Sink.takes c.args.link.now).faults
    (g.L.Sink.takes c.read.new.self).faults (g.L.Sink.takes c.answer_all.new.link).faults
    (faults_stay g.L.Sink.source_side g.L.Source.gives g.met.L.Link.source_is c.read.new.self c.answer_all.new.link c.answer_all.ensures.apart ∙ c.in-Ok.ensures.counts ∙ c.loop-n.invariant.no_read_fault)
    (faults_stay g.L.Source.sink_side g.L.Sink.takes g.met.L.Link.sink_is c.loop-n.link c.read.new.self c.read.ensures.apart ∙ c.loop-n.invariant.no_write_fault)
    (rw c.in-Some.is at c.answer_all.ensures.counts)
