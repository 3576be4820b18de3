use Rattle.dcr_apart.proofs.SiteLemmas.{adds_none}
use Rattle.dcr_apart.specs.SiteAnswer.{served}
use Rattle.dcr_apart.proofs.site_end.site_of.Goals as goal

pub returns-in-Ok-clause-answers : goal.returns-in-Ok-clause-answers
returns-in-Ok-clause-answers g c =
    let found = c.in_default.ensures.some_case in
    served (found.0, found.1, found.2) c.in-Ok.key c.in-Ok.ensures c.serve.ensures.served (adds_none (g.O.Sink.takes c.args.output.now)) c.serve.ensures.ends
