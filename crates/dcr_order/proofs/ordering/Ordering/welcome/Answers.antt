use Rattle.dcr_order.proofs.WelcomeLemmas.{given_is, given_more}
use Rattle.dcr_order.proofs.ordering.Ordering.welcome.Goals as goal

pub returns-in-Ok-Link-clause-given : goal.returns-in-Ok-Link-clause-given
returns-in-Ok-Link-clause-given g c =
    given_more g.N.PorterName.links c.args.self.now.given (g.P.Porter.tells.links c.args.self.now.porter) (g.P.Porter.tells.links c.next.new.self) c.in-Ok-Link.link c.requires.given
    (rw c.in-Ok-Link.field-0-is at c.in-Ok-Link.ensures.given)

pub returns-in-Ok-Link-clause-numbered : goal.returns-in-Ok-Link-clause-numbered
returns-in-Ok-Link-clause-numbered g c =
    given_is g.N.PorterName.links c.args.self.now.given (g.P.Porter.tells.links c.args.self.now.porter) (g.P.Porter.tells.links c.next.new.self) c.in-Ok-Link.link c.requires.given
    (rw c.in-Ok-Link.field-0-is at c.in-Ok-Link.ensures.given)
