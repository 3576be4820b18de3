use Rattle.std.proofs.Common.{refl}
use Rattle.dcr_json.specs.Built.{case_of}
use Rattle.dcr_roles.specs.Accepted.{both_of}
use Rattle.dcr_adapt.proofs.StageLemmas.{of_both}
use Rattle.dcr_adapt.proofs.read.read_line.Goals as goal

pub returns-in-Ok-clause-spells : goal.returns-in-Ok-clause-spells
returns-in-Ok-clause-spells c = of_both c.args.line.now (both_of c.in-Ok.field-0) (case_of c.in-Ok.field-0.case) c.in-Ok.ensures.says refl
