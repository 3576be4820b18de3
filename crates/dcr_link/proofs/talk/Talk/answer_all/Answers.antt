use Rattle.std.proofs.Common.{rules, ◌≤◌, ◌+◌, drop, refl, sym, ap, subst, ◌∙◌, arith}
use Rattle.dcr_link.specs.TalkModel.{TalkValue}
use Rattle.dcr_text.specs.declared.cutter.Cut.{Cut}
use Rattle.dcr_link.specs.Talking.{CutsNext, bytes_spare}
use Rattle.dcr_link.proofs.PieceLemmas.{answered_as, end_line, end_long, end_many, going_first, going_last, risen, spare_line, spare_more, spare_then, still_line, still_more, whole_piece}
use Rattle.dcr_link.proofs.talk.Talk.answer_all.Goals as goal

pub loop-used-init : goal.loop-used-init
loop-used-init g c = record {
  within = omega arith;
  terms = refl;
  session = refl;
  no_fewer = omega arith;
  going = λ before came written going. going_first g.N.ClusterName.cluster g.N.StoreName.first g.N.TurnName.capacity c.args.self.now.terms before c.args.pass.now c.args.self.now
      c.args.piece.now came written (g.L.Sink.takes c.args.link.now).bytes (g.L.Sink.takes c.args.link.now).bytes going;
  spare = omega arith;
  apart = refl;
  no_fault = refl;
}

pub returns-then-is_full-clause-goes_on : goal.returns-then-is_full-clause-goes_on
returns-then-is_full-clause-goes_on g c = λ before came written going.
    end_many g.N.ClusterName.cluster g.N.StoreName.first g.N.TurnName.capacity c.args.self.now.terms before c.loop-used.pass c.loop-used.self c.args.piece.now came written _ _
    c.loop-used.used _ _ _ c.write_all.result (c.loop-used.invariant.going before came written going) (c.if-is_full.ensures.full refl) c.loop-used-test.true refl
    c.write_all.ensures.all c.write_all.ensures.front (risen c.write_all.result (g.L.Sink.takes c.args.link.now).faults (g.L.Sink.takes c.loop-used.link).faults (g.L.Sink.takes c.write_all.new.sink).faults c.loop-used.invariant.no_fault c.write_all.ensures.counts)

pub loop-used-preserved-in-More : goal.loop-used-preserved-in-More
loop-used-preserved-in-More g c =
    let cuts = whole_piece c.args.piece.now c.loop-used.used c.cut-more.result.0 c.cut-more.result.1 c.loop-used.self c.cut-more.new.self c.cut-more.ensures.cuts in
    let before = c.loop-used.invariant in
    record {
      within = let w = c.cut-more.ensures.within in search rules;
      terms = search rules;
      session = before.session;
      no_fewer = before.no_fewer;
      going = λ from came written going. still_more g.N.ClusterName.cluster g.N.StoreName.first g.N.TurnName.capacity c.args.self.now.terms from c.loop-used.pass c.loop-used.self
          c.args.piece.now came written (g.L.Sink.takes c.args.link.now).bytes (g.L.Sink.takes c.loop-used.link).bytes c.loop-used.used c.cut-more.result.0 c.cut-more.result.1 c.cut-more.new.self
          (before.going from came written going) cuts c.in-More.is (c.if-is_full.ensures.spare refl);
      spare = spare_then (bytes_spare c.args.self.now) (bytes_spare c.loop-used.self) (bytes_spare c.cut-more.new.self) c.loop-used.used c.cut-more.result.0 before.spare
          (spare_more c.loop-used.self c.cut-more.new.self (drop c.loop-used.used c.args.piece.now) c.cut-more.result.0 (subst (λ (k : Cut). CutsNext c.loop-used.self (drop c.loop-used.used c.args.piece.now) c.cut-more.result.0 k c.cut-more.new.self) c.in-More.is cuts));
      apart = before.apart;
      no_fault = before.no_fault;
    }

pub returns-in-Some-clause-goes_on : goal.returns-in-Some-clause-goes_on
returns-in-Some-clause-goes_on g c = λ from came written going.
    end_line g.N.ClusterName.cluster g.N.StoreName.first g.N.TurnName.capacity c.args.self.now.terms from c.loop-used.pass c.loop-used.self
    c.args.piece.now came written (g.L.Sink.takes c.args.link.now).bytes (g.L.Sink.takes c.loop-used.link).bytes c.loop-used.used c.cut-more.result.0 c.cut-more.result.1 c.cut-more.new.self
    (c.loop-used.invariant.going from came written going) (whole_piece c.args.piece.now c.loop-used.used c.cut-more.result.0 c.cut-more.result.1 c.loop-used.self c.cut-more.new.self c.cut-more.ensures.cuts) c.in-Line.is (c.if-is_full.ensures.spare refl) c.answer.new.pass c.answer.new.self (g.L.Sink.takes c.answer.new.link).bytes _ c.answer.result
    (answered_as g.N.ClusterName.cluster g.N.StoreName.first g.N.TurnName.capacity c.args.self.now.terms c.cut-more.new.self.terms from.session c.loop-used.pass.session c.cut-more.new.self.cutter.bytes
    c.loop-used.pass c.answer.new.pass (g.L.Sink.takes c.loop-used.link).bytes (g.L.Sink.takes c.answer.new.link).bytes (g.L.Sink.takes c.args.link.now).faults (g.L.Sink.takes c.loop-used.link).faults (g.L.Sink.takes c.answer.new.link).faults
    c.answer.result (ap (λ (t : TalkValue). t.terms) c.cut-more.ensures.cuts.same ∙ c.loop-used.invariant.terms) (c.loop-used.invariant.going from came written going).2.session
    c.loop-used.invariant.no_fault c.answer.ensures.answered) c.in-Some.cause c.in-Some.is

pub loop-used-preserved : goal.loop-used-preserved
loop-used-preserved g c =
    let cuts = whole_piece c.args.piece.now c.loop-used.used c.cut-more.result.0 c.cut-more.result.1 c.loop-used.self c.cut-more.new.self c.cut-more.ensures.cuts in
    let before = c.loop-used.invariant in
    record {
      within = let w = c.cut-more.ensures.within in search rules;
      terms = search rules;
      session = c.answer.ensures.session ∙ before.session;
      no_fewer = let a = c.answer.ensures.no_fewer in let b = before.no_fewer in omega arith;
      going = λ from came written going. still_line g.N.ClusterName.cluster g.N.StoreName.first g.N.TurnName.capacity c.args.self.now.terms from c.loop-used.pass c.loop-used.self
          c.args.piece.now came written (g.L.Sink.takes c.args.link.now).bytes (g.L.Sink.takes c.loop-used.link).bytes c.loop-used.used c.cut-more.result.0 c.cut-more.result.1 c.cut-more.new.self
          (before.going from came written going) cuts c.in-Line.is (c.if-is_full.ensures.spare refl) c.answer.new.pass c.answer.new.self (g.L.Sink.takes c.answer.new.link).bytes _ c.answer.result
          (answered_as g.N.ClusterName.cluster g.N.StoreName.first g.N.TurnName.capacity c.args.self.now.terms c.cut-more.new.self.terms from.session c.loop-used.pass.session c.cut-more.new.self.cutter.bytes
          c.loop-used.pass c.answer.new.pass (g.L.Sink.takes c.loop-used.link).bytes (g.L.Sink.takes c.answer.new.link).bytes (g.L.Sink.takes c.args.link.now).faults (g.L.Sink.takes c.loop-used.link).faults (g.L.Sink.takes c.answer.new.link).faults
          c.answer.result (ap (λ (t : TalkValue). t.terms) c.cut-more.ensures.cuts.same ∙ c.loop-used.invariant.terms) (c.loop-used.invariant.going from came written going).2.session
          c.loop-used.invariant.no_fault c.answer.ensures.answered) (ap (λ (t : TalkValue). t.cutter) c.answer.ensures.same) (ap (λ (t : TalkValue). t.lines) c.answer.ensures.same) c.in_default.is;
      spare = spare_then (bytes_spare c.args.self.now) (bytes_spare c.loop-used.self) (bytes_spare c.answer.new.self) c.loop-used.used c.cut-more.result.0 before.spare
          (subst (λ (t : TalkValue). bytes_spare t + c.cut-more.result.0 ≤ bytes_spare c.loop-used.self) (sym c.answer.ensures.same)
          (spare_line c.loop-used.self c.cut-more.new.self (drop c.loop-used.used c.args.piece.now) c.cut-more.result.0 (subst (λ (k : Cut). CutsNext c.loop-used.self (drop c.loop-used.used c.args.piece.now) c.cut-more.result.0 k c.cut-more.new.self) c.in-Line.is cuts) (c.if-is_full.ensures.spare refl)));
      apart = c.answer.ensures.apart ∙ before.apart;
      no_fault = (rw c.in_default.is at c.answer.ensures.counts) ∙ before.no_fault;
    }

pub returns-in-TooLong-clause-goes_on : goal.returns-in-TooLong-clause-goes_on
returns-in-TooLong-clause-goes_on g c = λ from came written going.
    end_long g.N.ClusterName.cluster g.N.StoreName.first g.N.TurnName.capacity c.args.self.now.terms from c.loop-used.pass c.loop-used.self
    c.args.piece.now came written (g.L.Sink.takes c.args.link.now).bytes (g.L.Sink.takes c.loop-used.link).bytes c.loop-used.used c.cut-more.result.0 c.cut-more.result.1 c.cut-more.new.self (g.L.Sink.takes c.write_all-in-TooLong.new.sink).bytes _ _
    c.write_all-in-TooLong.result (c.loop-used.invariant.going from came written going) (whole_piece c.args.piece.now c.loop-used.used c.cut-more.result.0 c.cut-more.result.1 c.loop-used.self c.cut-more.new.self c.cut-more.ensures.cuts) c.in-TooLong.is (c.if-is_full.ensures.spare refl) refl
    c.write_all-in-TooLong.ensures.all c.write_all-in-TooLong.ensures.front
    (risen c.write_all-in-TooLong.result (g.L.Sink.takes c.args.link.now).faults (g.L.Sink.takes c.loop-used.link).faults (g.L.Sink.takes c.write_all-in-TooLong.new.sink).faults c.loop-used.invariant.no_fault c.write_all-in-TooLong.ensures.counts)

pub returns-clause-goes_on : goal.returns-clause-goes_on
returns-clause-goes_on g c = λ from came written going.
    going_last g.N.ClusterName.cluster g.N.StoreName.first g.N.TurnName.capacity c.args.self.now.terms from c.loop-used.pass c.loop-used.self
    c.args.piece.now came written (g.L.Sink.takes c.args.link.now).bytes (g.L.Sink.takes c.loop-used.link).bytes c.loop-used.used c.loop-used.invariant.within c.loop-used-test.false (c.loop-used.invariant.going from came written going)
