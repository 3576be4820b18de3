use Rattle.std.proofs.Common.{◌≡◌, Some, None, ap, sym, ◌∙◌, arith}
use Rattle.std.specs.Option.{option_copied}
use Rattle.dcr_roles.specs.Allowed.{role_for}
use Rattle.dcr_roles.proofs.AllowedLemmas.{denied_at, no_call_denied, role_at}
use Rattle.dcr_roles.proofs.WordLemmas.{and_next}
use Rattle.dcr_roles.proofs.allowed.try_calls.Goals as goal

pub returns-in-Some : goal.returns-in-Some
returns-in-Some c = λ _.
    let P = c.args.policy.now in let calls = c.args.calls.now in let k = c.args.k in let j = c.loop-j.j in
    denied_at P k calls j c.in_ok-role.role (omega (arith, c.loop-j-test.true, c.len-j-end.ensures))
    (role_at P k calls j c.unwrap-call.result.now (sym c.get.ensures ∙ ap option_copied c.unwrap-call.ensures) ∙ sym c.in-Some.ensures ∙ ap Some (sym c.in_ok-role.ensures))
    c.loop-j.invariant

pub loop-j-preserved : goal.loop-j-preserved
loop-j-preserved c =
    let P = c.args.policy.now in let calls = c.args.calls.now in let k = c.args.k in let j = c.loop-j.j in
    and_next (λ i. role_for P k calls i ≡ None) j c.loop-j.invariant
    (role_at P k calls j c.unwrap-call.result.now (sym c.get.ensures ∙ ap option_copied c.unwrap-call.ensures) ∙ sym c.in_default.ensures)

pub returns : goal.returns
returns c = no_call_denied c.args.policy.now c.args.k c.args.calls.now (λ i below. c.loop-j.invariant i (omega (arith, below, c.len-j-end.ensures)))
