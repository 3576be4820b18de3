use Rattle.std.proofs.Common.{◌≡◌, ℕ, List, ap, subst, sym}
use Rattle.std.specs.Prelude.{Option, IsSome}
use Rattle.std.specs.Io.KnownBytes.{IsAtEnd}
use Rattle.dcr_base.specs.Link.{IsUnfailed}
use Rattle.dcr_base.specs.Side.{Side}
use Rattle.dcr_turn.specs.PassValue.{PassValue}
use Rattle.dcr_link.specs.Serving.{CountsCause}
use Rattle.dcr_serving.specs.Serving.{IsServed}
use Rattle.dcr_serving.proofs.ServingLemmas.{calls_from_none, serves_from_new}
use Rattle.dcr_serving.proofs.record.serve_link.Goals as goal

pub returns-clause-served : goal.returns-clause-served
returns-clause-served g c =
    let none : c.into_pass-pass.result.made ≡ 0 = ap (λ (p : PassValue). p.made) c.into_pass-pass.ensures.new in
    let terms = c.args.scene.now in
    let end = c.serve-end.result in
    let law = g.met.B.Door.each_is in
    subst (λ tells. IsServed tells g.N.StoreName.first g.N.TurnName.capacity terms c.args.link c.serve-end.new.pass end c.finish.result) (sym law) (record {
      unfailed = subst (λ tells. IsUnfailed tells c.args.link) law c.requires.fresh;
      calls = calls_from_none _ _ _ none c.serve-end.ensures.calls;
      serves =
          serves_from_new g.N.StoreName.first g.N.TurnName.capacity terms c.args.seat.session c.into_pass-pass.result c.serve-end.new.pass
          _ _ _ _ _ _ end c.into_pass-pass.ensures.new c.serve-end.ensures.session c.finish.ensures.unread c.finish.ensures.sent c.serve-end.ensures.serves;
      ended = λ is. subst IsAtEnd (sym (ap (λ (s : Side). s.bytes) c.finish.ensures.unread)) (g.met.B.Link.Source.ended_has_none c.serve-end.new.link (c.serve-end.ensures.ended is));
      counts =
          subst (λ (s : Side). CountsCause end.cause (g.B.Link.Source.gives c.args.link).faults s.faults (g.B.Link.Sink.takes c.args.link).faults (g.B.Link.Rest.Spent.sent c.finish.result).faults) (sym c.finish.ensures.unread)
          (subst (λ (s : Side). CountsCause end.cause (g.B.Link.Source.gives c.args.link).faults (g.B.Link.Source.gives c.serve-end.new.link).faults (g.B.Link.Sink.takes c.args.link).faults s.faults) (sym c.finish.ensures.sent)
          c.serve-end.ensures.counts);
      halted = c.serve-end.ensures.halted;
      told = λ some. subst (λ (o : Option (List ℕ)). IsSome o) (sym (ap (λ (s : Side). s.bytes) c.finish.ensures.unread)) (c.serve-end.ensures.told some);
    })
