use Rattle.std.proofs.Common.{arith}
use Rattle.dcr_format.proofs.SizeLemmas.{length-items}
use Rattle.dcr_session_json.proofs.written.SessionText.shape.Goals as goal

pub try_sessions-requires : goal.try_sessions-requires
try_sessions-requires c = omega (arith, c.in-Some.ensures.few, length-items c.in-Some.sessions.now)
