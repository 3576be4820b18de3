use Rattle.std.proofs.Common.{sym, subst}
use Rattle.dcr_roles.specs.Numbering.{IsNumbering}
use Rattle.dcr_roles.proofs.NumberLemmas.{numbering_none}
use Rattle.dcr_roles.proofs.names.RoleNames.new.Goals as goal

pub returns-clause-numbered : goal.returns-clause-numbered
returns-clause-numbered c = subst (IsNumbering c.new-2.result) (sym c.new.ensures.items) (numbering_none c.new-2.result c.new-2.ensures.empty)
