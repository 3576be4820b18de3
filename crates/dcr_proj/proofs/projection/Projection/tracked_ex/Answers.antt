use Rattle.std.proofs.Common.{subst}
use Rattle.dcr_proj.specs.ProjectionModel.{IsLocal}
use Rattle.dcr_proj.proofs.ProjectionLemmas.{is_local}
use Rattle.dcr_proj.proofs.projection.Projection.tracked_ex.Goals as goal

pub returns-clause-rooms : goal.returns-clause-rooms
returns-clause-rooms c = subst IsLocal c.self.view_is (is_local c.self.inside c.self.invariant)
