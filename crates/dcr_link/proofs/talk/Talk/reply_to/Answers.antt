use Rattle.std.proofs.Common.{rules, ◌≡◌, ◌∙◌, ◌++◌, List, ℕ, None, Some, ap, sym, codes}
use Rattle.dcr_policy.specs.Deny.{deny}
use Rattle.dcr_link.specs.Replies.{ended}
use Rattle.dcr_link.proofs.LineLemmas.{asked_allowed, asked_bad, asked_denied, may_lay, replied, unmade, unmade_unsaid}
use Rattle.dcr_link.proofs.talk.Talk.reply_to.Goals as goal

pub returns-in_err-say-clause-reply : goal.returns-in_err-say-clause-reply
returns-in_err-say-clause-reply g c =
    unmade_unsaid g.N.ClusterName.cluster g.N.StoreName.first g.N.TurnName.capacity c.args.self.now.terms _ c.args.pass.now (codes "bad-line") c.say.new.self.reply c.from_residual.result _
    (asked_bad c.args.self.now.terms c.args.pass.now.session _ (sym c.asked.ensures.call ∙ c.in_default.is)) c.from_residual.ensures.1

pub returns-in_default-clause-reply : goal.returns-in_default-clause-reply
returns-in_default-clause-reply g c = (
  codes "bad-line",
  unmade g.N.ClusterName.cluster g.N.StoreName.first g.N.TurnName.capacity c.args.self.now.terms _ c.args.pass.now (codes "bad-line")
      (asked_bad c.args.self.now.terms c.args.pass.now.session _ (sym c.asked.ensures.call ∙ c.in_default.is)),
  c.in_ok-say.ensures.reply,
)

pub returns-in_err-say-2-clause-reply : goal.returns-in_err-say-2-clause-reply
returns-in_err-say-2-clause-reply g c =
    let lacks : deny c.args.self.now.terms.policy c.args.pass.now.session c.in-Some.call ≡ Some c.in-Some-deny.role.now = search rules in
    unmade_unsaid g.N.ClusterName.cluster g.N.StoreName.first g.N.TurnName.capacity c.args.self.now.terms _ c.args.pass.now (codes "denied " ++ c.in-Some-deny.role.now)
    c.say-in-Some-deny.new.self.reply c.from_residual-in_err-say-2.result _
    (asked_denied c.args.self.now.terms c.args.pass.now.session _ c.in-Some.call c.in-Some-deny.role.now (sym c.asked.ensures.call ∙ c.in-Some.is) lacks) c.from_residual-in_err-say-2.ensures.1

pub returns-in-Some-deny-clause-reply : goal.returns-in-Some-deny-clause-reply
returns-in-Some-deny-clause-reply g c =
    let lacks : deny c.args.self.now.terms.policy c.args.pass.now.session c.in-Some.call ≡ Some c.in-Some-deny.role.now = search rules in (
      codes "denied " ++ c.in-Some-deny.role.now,
      unmade g.N.ClusterName.cluster g.N.StoreName.first g.N.TurnName.capacity c.args.self.now.terms _ c.args.pass.now (codes "denied " ++ c.in-Some-deny.role.now)
          (asked_denied c.args.self.now.terms c.args.pass.now.session _ c.in-Some.call c.in-Some-deny.role.now (sym c.asked.ensures.call ∙ c.in-Some.is) lacks),
      c.in_ok-say-2.ensures.reply ∙ ap (λ (l : List ℕ). ended (codes "denied " ++ l)) (c.as_bytes.ensures.value ∙ c.text.ensures.text),
    )

pub lay-requires : goal.lay-requires
lay-requires g c = may_lay g.N.ClusterName.cluster g.N.StoreName.first g.N.TurnName.capacity c.args.self.now c.args.pass.now c.call-answer.new.pass c.in-Some.call c.call-answer.result
    c.requires.named c.call-answer.ensures.answered

pub returns-clause-reply : goal.returns-clause-reply
returns-clause-reply g c =
    let lacks : deny c.args.self.now.terms.policy c.args.pass.now.session c.in-Some.call ≡ None = search rules in
    replied g.N.ClusterName.cluster g.N.StoreName.first g.N.TurnName.capacity c.args.self.now.terms _ c.args.pass.now c.call-answer.new.pass c.in-Some.call c.call-answer.result
    c.lay.new.self.reply c.lay.result
    (asked_allowed c.args.self.now.terms c.args.pass.now.session _ c.in-Some.call (sym c.asked.ensures.call ∙ c.in-Some.is) lacks) c.call-answer.ensures.answered c.call-answer.ensures.halted c.lay.ensures.reply
