use Rattle.serde_json.specs.View.{view}
use Rattle.dcr_format.proofs.MemberLemmas.{member_small}
use Rattle.dcr_format.proofs.members.member.Goals as goal

pub returns-clause-smaller : goal.returns-clause-smaller
returns-clause-smaller c = member_small c.get.result c.args.name.now (view c.args.value.now) c.get.ensures
