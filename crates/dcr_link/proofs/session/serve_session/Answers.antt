use Rattle.std.proofs.Common.{ℕ, subst, ◌∙◌, ◌-◌, refl, arith}
use Rattle.dcr_link.specs.declared.end.WorkCause.TheVariants.{NoMemory}
use Rattle.dcr_link.specs.Replies.{terms_of}
use Rattle.dcr_link.specs.Serving.{Serves}
use Rattle.dcr_link.proofs.HoldLemmas.{made_count, no_session}
use Rattle.dcr_link.proofs.session.serve_session.Goals as goal

pub returns-in_default-clause-serves : goal.returns-in_default-clause-serves
returns-in_default-clause-serves g c =
    subst (λ (n : ℕ). Serves g.N.StoreName.first g.N.TurnName.capacity (terms_of c.args.cover.now.names c.args.graph.now.names c.args.policy.now) c.args.pass.now c.args.pass.now
    (g.L.Source.gives c.args.link.now) (g.L.Source.gives c.args.link.now) (g.L.Sink.takes c.args.link.now) (g.L.Sink.takes c.args.link.now)
    (record { calls = n; cause = NoMemory }))
    (made_count c.args.pass.now c.args.pass.now refl c.made.ensures.all ∙ omega arith)
    (no_session g.N.ClusterName.cluster g.N.StoreName.first g.N.TurnName.capacity (terms_of c.args.cover.now.names c.args.graph.now.names c.args.policy.now) c.args.pass.now (g.L.Source.gives c.args.link.now).bytes (g.L.Sink.takes c.args.link.now).bytes _ c.made.ensures.all)
