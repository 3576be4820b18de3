use Rattle.std.proofs.Common.{length}
use Rattle.dcr_report.proofs.ReportLemmas.{cover_fits}
use Rattle.dcr_report.proofs.digest.case_digest.Goals as goal

pub add_lines-requires-clause-fits : goal.add_lines-requires-clause-fits
add_lines-requires-clause-fits c =
    cover_fits c.args.cover.now (length c.args.graph.now.names) c.args.opening.now c.site_names-sites.ensures.cover c.requires.rooms c.requires.opening
