use Rattle.std.proofs.Common.{Some, ap, ◌∙◌}
use Rattle.dcr_order.proofs.LinkLemmas.{read_there}
use Rattle.dcr_order.proofs.ordering.Ordering.is_here.Goals as goal

pub returns-in-Away-clause-away : goal.returns-in-Away-clause-away
returns-in-Away-clause-away g c = λ result. read_there c.args.self.now.places.items c.from.result c.args.i c.index.result.now (c.from.ensures ∙ c.i.view_is) c.requires c.index.ensures ∙ ap Some c.in-Away.is

pub returns-in-Here-clause-here : goal.returns-in-Here-clause-here
returns-in-Here-clause-here g c = λ result. (_, read_there c.args.self.now.places.items c.from.result c.args.i c.index.result.now (c.from.ensures ∙ c.i.view_is) c.requires c.index.ensures ∙ ap Some c.in-Here.is)
