use Rattle.serde_json.specs.View.{view}
use Rattle.dcr_json.specs.Built.{case_of}
use Rattle.dcr_roles.proofs.AcceptedLemmas.{given_allowed, spelled_by}
use Rattle.dcr_roles.proofs.accepted.read_accepted.Goals as goal

pub policy_of-requires-clause-spelled : goal.policy_of-requires-clause-spelled
policy_of-requires-clause-spelled c = spelled_by c.args.bytes.now (view c.in_ok-value.value) (case_of c.in_ok-case.case) c.in_ok-value.ensures.says c.in_ok-case.ensures.says

pub returns-clause-fits : goal.returns-clause-fits
returns-clause-fits c = record {
  case = c.in_ok-case.ensures.fits;
  atoms = c.in_ok-policy.ensures.atoms;
  allowed = given_allowed (view c.in_ok-value.value) (case_of c.in_ok-case.case) c.in_ok-policy.policy c.in_ok-policy.ensures.says;
}
