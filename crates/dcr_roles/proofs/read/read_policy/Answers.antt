use Rattle.std.proofs.Common.{◌≤◌, length, option_map, sym, ap, subst, ◌∙◌, arith}
use Rattle.std.specs.Option.{IfSome}
use Rattle.std.proofs.lemmas.Option.{none-some}
use Rattle.serde_json.specs.View.{view}
use Rattle.dcr_format.specs.Size.{size}
use Rattle.dcr_json.specs.Built.{case_of}
use Rattle.dcr_roles.proofs.AcceptedLemmas.{spelled_json}
use Rattle.dcr_roles.proofs.read.read_policy.Goals as goal

pub unreachable-requires : goal.unreachable-requires
unreachable-requires c =
    let found = spelled_json c.args.bytes.now (case_of c.args.case.now) c.requires.spelled in
    let spelled = found.1 in
    none-some found.0 (sym (ap (option_map view) c.in_default.is) ∙ c.in_ok-value.ensures.json ∙ spelled.json)

pub policy_of-requires-clause-spelled : goal.policy_of-requires-clause-spelled
policy_of-requires-clause-spelled c =
    let found = spelled_json c.args.bytes.now (case_of c.args.case.now) c.requires.spelled in
    let spelled = found.1 in
    record {
      bytes = c.args.bytes.now;
      json = record { short = spelled.short; json = sym c.in_ok-value.ensures.json ∙ ap (option_map view) c.in-Some.is };
      spells = c.requires.spelled;
    }

pub policy_of-requires-clause-small : goal.policy_of-requires-clause-small
policy_of-requires-clause-small c =
    let found = spelled_json c.args.bytes.now (case_of c.args.case.now) c.requires.spelled in
    let spelled = found.1 in
    let small : size (view c.in-Some.value) ≤ length c.args.bytes.now = subst (λ o. IfSome o (λ value. size (view value) ≤ length c.args.bytes.now)) c.in-Some.is c.in_ok-value.ensures.size in
    omega (arith, small, spelled.short)
