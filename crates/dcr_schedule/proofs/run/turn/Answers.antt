use Rattle.dcr_node.specs.declared.event.WorldEvent.TheVariants.{Deliver}
use Rattle.dcr_schedule.proofs.PlayingLemmas.{event_told}
use Rattle.dcr_schedule.proofs.run.turn.Goals as goal

pub returns-in-0-clause-told : goal.returns-in-0-clause-told
returns-in-0-clause-told c = event_told c.proposals_are_told.ensures.nothing_else c.event.result c.args.world.now c.event.new.self (Deliver c.pick-message.result) tt c.event.ensures.happened c.event.ensures.refused
