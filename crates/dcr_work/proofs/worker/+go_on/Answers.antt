use Rattle.std.proofs.Common.{◌≡◌, ℕ, ◌+◌, ◌<◌, length, sym, subst, ◌∙◌, arith}
use Rattle.dcr_work.proofs.WorkerLemmas.{first_new, rest_new, learnt, worked_of, legal_learnt, all_after, one_more}
use Rattle.dcr_work.proofs.worker.+go_on.Goals as goal

pub run_session-way-requires-clause-legal : goal.run_session-way-requires-clause-legal
run_session-way-requires-clause-legal g t c =
    legal_learnt g.N.ClusterName.cluster c.args.last.now c.learn.new.to
    (learnt c.in-Some.next.now c.args.last.now c.learn.new.to (first_new (length c.args.sessions.now) c.args.left.now c.in-Some.rest.now c.in-Some.next.now c.in-Some.ensures.cases.0 c.requires.new).seen c.learn.ensures.longer c.learn.ensures.from_seen)
    c.requires.legal

pub go_on-requires : goal.go_on-requires
go_on-requires g t c κs within =
    let measure : length c.args.left.now ≡ t = c.decreases in
    let fewer : length c.in-Some.rest.now + 1 ≡ length c.args.left.now = c.in-Some.ensures.cases.1 in
    let lower : length c.in-Some.rest.now < t = omega arith in (
      lower,
      (
        within.0,
        (
          within.1.0,
          (
            within.1.1.0,
            (
              within.1.1.1,
              (
                c.requires.in_range,
                (
                  rest_new (length c.args.sessions.now) c.args.left.now c.in-Some.rest.now c.in-Some.next.now c.in-Some.ensures.cases.0 c.requires.new,
                  (c.run_session-way.ensures.worked.legal, c.requires.turnstile),
                ),
              ),
            ),
          ),
        ),
      ),
    )

pub returns-clause-after : goal.returns-clause-after
returns-clause-after g t c =
    all_after c.args.last.now.front c.learn.new.to c.run_session-way.new.pass c.go_on.new.last c.go_on.new.left
    (learnt c.in-Some.next.now c.args.last.now c.learn.new.to (first_new (length c.args.sessions.now) c.args.left.now c.in-Some.rest.now c.in-Some.next.now c.in-Some.ensures.cases.0 c.requires.new).seen c.learn.ensures.longer c.learn.ensures.from_seen)
    c.run_session-way.ensures.began c.go_on.ensures.last c.go_on.ensures.after

pub returns-clause-worked : goal.returns-clause-worked
returns-clause-worked g t c =
    one_more g.N.ClusterName.cluster g.N.StoreName.first g.N.TurnName.capacity c.args.sessions.now c.args.left.now c.in-Some.rest.now c.in-Some.next.now c.run_session-way.new.pass c.go_on.new.last c.go_on.new.left
    c.in-Some.ensures.cases.0 (c.run_session-way.ensures.session ∙ c.learn.ensures.session)
    (worked_of g.N.ClusterName.cluster g.N.StoreName.first g.N.TurnName.capacity c.args.sessions.now c.index-sessions-session.result c.session.result c.run_session-way.new.pass
    (subst (λ (s : ℕ). s < length c.args.sessions.now) (sym (c.session.ensures.session ∙ c.learn.ensures.session)) (first_new (length c.args.sessions.now) c.args.left.now c.in-Some.rest.now c.in-Some.next.now c.in-Some.ensures.cases.0 c.requires.new).session)
    c.index-sessions-session.is (c.run_session-way.ensures.session ∙ sym c.session.ensures.session) c.run_session-way.ensures.worked)
    c.go_on.ensures.last c.go_on.ensures.after c.go_on.ensures.worked
