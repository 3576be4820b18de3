use Rattle.dcr_net.proofs.PorterLemmas.{over_dialed, over_fresh}
use Rattle.dcr_net.proofs.dial_porter.DialPorter.attempt.Goals as goal

pub returns-in-Ok-clause-fresh : goal.returns-in-Ok-clause-fresh
returns-in-Ok-clause-fresh g c = over_fresh c.link_over.result c.link_over.ensures

pub returns-in-Ok-clause-dialed : goal.returns-in-Ok-clause-dialed
returns-in-Ok-clause-dialed g c = over_dialed g.R.Dial.dialed c.args.self.now _ c.link_over.result c.in-Ok.stream c.link_over.ensures (c.local.result, c.local.ensures, c.in-Ok.ensures)

pub returns-in-Err-clause-dialed : goal.returns-in-Err-clause-dialed
returns-in-Err-clause-dialed g c = (c.in-Err.field-0, (c.local.result, c.local.ensures, c.in-Err.ensures))
