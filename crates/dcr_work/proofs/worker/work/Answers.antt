use Rattle.std.proofs.Common.{ℕ, ◌<◌, length, sym, subst, ◌∙◌}
use Rattle.dcr_work.proofs.WorkerLemmas.{first_new, worked_of, one_more}
use Rattle.dcr_work.proofs.worker.work.Goals as goal

pub returns : goal.returns
returns g c =
    one_more g.N.ClusterName.cluster g.N.StoreName.first g.N.TurnName.capacity c.args.sessions.now c.args.passes.now c.in-Some.rest.now c.in-Some.first.now c.run_session-way.new.pass c.go_on.new.last c.go_on.new.left
    c.in-Some.ensures.cases.0 c.run_session-way.ensures.session
    (worked_of g.N.ClusterName.cluster g.N.StoreName.first g.N.TurnName.capacity c.args.sessions.now c.index-sessions-session.result c.session.result c.run_session-way.new.pass
    (subst (λ (s : ℕ). s < length c.args.sessions.now) (sym c.session.ensures.session) (first_new (length c.args.sessions.now) c.args.passes.now c.in-Some.rest.now c.in-Some.first.now c.in-Some.ensures.cases.0 c.requires.new).session)
    c.index-sessions-session.is (c.run_session-way.ensures.session ∙ sym c.session.ensures.session) c.run_session-way.ensures.worked)
    c.go_on.ensures.last c.go_on.ensures.after c.go_on.ensures.worked
