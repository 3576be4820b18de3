use Rattle.std.proofs.Common.{arith}
use Rattle.dcr_format.proofs.SizeLemmas.{length-items}
use Rattle.dcr_cover_json.proofs.ShapeLemmas.{sites_lent}
use Rattle.dcr_cover_json.proofs.written.CoverText.shape.Goals as goal

pub try_sites-requires : goal.try_sites-requires
try_sites-requires c = omega (arith, c.in-Some-elements.ensures.smaller, c.requires c.in-Some.cover c.in-Some.is, length-items c.in-Some-elements.sites.now)

pub returns-clause-written : goal.returns-clause-written
returns-clause-written c = sites_lent c.args.cover c.in-Some.cover c.in-Some-elements.sites.now c.in-Some.is c.in-Some-elements.ensures.value
