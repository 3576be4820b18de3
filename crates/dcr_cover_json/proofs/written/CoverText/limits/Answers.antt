use Rattle.std.proofs.Common.{arith}
use Rattle.dcr_format.proofs.SizeLemmas.{length-items}
use Rattle.dcr_cover_json.proofs.written.CoverText.limits.Goals as goal

pub overflow_cast-result : goal.overflow_cast-result
overflow_cast-result c = omega (arith, c.args.self.now.few_sites, length-items c.args.self.now.sites.now)
