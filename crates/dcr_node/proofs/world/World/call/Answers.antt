use Rattle.std.proofs.Common.{sym, ap, subst}
use Rattle.dcr_node.specs.WorldState.{WorldState, IsCallEvent}
use Rattle.dcr_node.specs.WorldModel.{world_of}
use Rattle.dcr_node.specs.Machine.{with_journal}
use Rattle.dcr_node.specs.Right.{IsRight}
use Rattle.dcr_node.specs.declared.event.CallEvent.TheVariants.{ProposeCall}
use Rattle.dcr_node.proofs.PartsLemmas.{called_right}
use Rattle.dcr_node.proofs.world.World.call.Goals as goal

pub invariant_of-self : goal.invariant_of-self
invariant_of-self c =
    let w = world_of c.self.inside in
    let event = ProposeCall c.in-ProposeCall.session c.in-ProposeCall.call in
    let rules = c.self.invariant.0 in let owned = c.self.invariant.1 in let right = c.self.invariant.2 in
    let may : IsCallEvent w event = subst (λ e. IsCallEvent w e) c.in-ProposeCall.is (subst (λ (v : WorldState). IsCallEvent v c.args.event) (sym c.self.view_is) c.requires) in (
      rules,
      owned,
      called_right rules owned c.self.inside.opening w (with_journal w c.propose_call.new.self) event right may (ap (with_journal w) c.propose_call.ensures.state),
    )

pub returns-in-ProposeCall-clause-right : goal.returns-in-ProposeCall-clause-right
returns-in-ProposeCall-clause-right c = λ G C M right.
    let w = world_of c.self.inside in
    let event = ProposeCall c.in-ProposeCall.session c.in-ProposeCall.call in
    let may : IsCallEvent w event = subst (λ e. IsCallEvent w e) c.in-ProposeCall.is (subst (λ (v : WorldState). IsCallEvent v c.args.event) (sym c.self.view_is) c.requires) in
    called_right G C M w (with_journal w c.propose_call.new.self) event (subst (IsRight G C M) (sym c.self.view_is) right) may (ap (with_journal w) c.propose_call.ensures.state)
