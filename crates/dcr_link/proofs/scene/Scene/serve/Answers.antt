use Rattle.std.proofs.Common.{ℕ, length, ap, subst, ◌∙◌, ◌-◌, sym, refl, arith}
use Rattle.dcr_link.specs.declared.end.WorkCause.TheVariants.{NoMemory}
use Rattle.dcr_link.specs.Replies.{Terms, made_since}
use Rattle.dcr_link.specs.Serving.{Serves}
use Rattle.dcr_link.proofs.HoldLemmas.{made_count, no_session}
use Rattle.dcr_link.proofs.scene.Scene.serve.Goals as goal

pub returns-in_default-clause-serves : goal.returns-in_default-clause-serves
returns-in_default-clause-serves g c =
    subst (λ (n : ℕ). Serves g.N.StoreName.first g.N.TurnName.capacity c.args.self.now c.args.pass.now c.args.pass.now
    (g.L.Source.gives c.args.link.now) (g.L.Source.gives c.args.link.now) (g.L.Sink.takes c.args.link.now) (g.L.Sink.takes c.args.link.now)
    (record { calls = n; cause = NoMemory }))
    (made_count c.args.pass.now c.args.pass.now refl c.made-made.ensures.all ∙ omega arith)
    (no_session g.N.ClusterName.cluster g.N.StoreName.first g.N.TurnName.capacity c.args.self.now c.args.pass.now (g.L.Source.gives c.args.link.now).bytes (g.L.Sink.takes c.args.link.now).bytes _ c.made-made.ensures.all)

pub returns-clause-serves : goal.returns-clause-serves
returns-clause-serves g c =
    let Ends : Terms → ℕ → Type 0 = (λ terms calls.
    Serves g.N.StoreName.first g.N.TurnName.capacity terms c.args.pass.now c.hold-cause.new.pass
    (g.L.Source.gives c.args.link.now) (g.L.Source.gives c.hold-cause.new.link) (g.L.Sink.takes c.args.link.now) (g.L.Sink.takes c.hold-cause.new.link)
    (record { calls = calls; cause = c.hold-cause.result })) in
    subst (Ends c.args.self.now)
    (made_count c.args.pass.now c.hold-cause.new.pass c.hold-cause.ensures.session c.made.ensures.all
    ∙ ap (λ (n : ℕ). n - c.args.pass.now.made) (sym c.made.ensures.made) ∙ ap (λ (n : ℕ). c.made.result - n) (sym c.made-made.ensures.made))
    (subst (λ (terms : Terms). Ends terms (length (made_since c.args.pass.now c.hold-cause.new.pass))) c.in-Ok.ensures.terms c.hold-cause.ensures.serves)
