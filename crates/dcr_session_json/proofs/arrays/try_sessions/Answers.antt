use Rattle.std.proofs.Common.{sym, arith}
use Rattle.dcr_format.proofs.FactLemmas.{position_within}
use Rattle.dcr_format.proofs.ValueLemmas.{each_value}
use Rattle.dcr_format.specs.declared.stop.CaseStop.TheVariants.{Shape}
use Rattle.dcr_format.specs.declared.stop.Part.TheVariants as part
use Rattle.dcr_session_json.specs.Shape.{is_session}
use Rattle.dcr_session_json.proofs.arrays.try_sessions.Goals as goal

pub overflow_cast-result : goal.overflow_cast-result
overflow_cast-result c = omega (arith, position_within _ c.args.values.now c.in-Some.k (sym c.in-Some.ensures))

pub returns-in-Some : goal.returns-in-Some
returns-in-Some c = each_value is_session (Shape part.Session) c.args.values.now _ c.in-Some.ensures

pub returns : goal.returns
returns c = each_value is_session (Shape part.Session) c.args.values.now _ c.in_default.ensures
