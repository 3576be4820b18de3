use Rattle.dcr_schedule.proofs.HearingLemmas.{settles}
use Rattle.dcr_schedule.proofs.run.settle.Goals as goal

pub returns-clause-told : goal.returns-clause-told
returns-clause-told c =
    settles c.proposals_are_told.ensures.asking c.event-3.result c.args.world.now c.hear.new.world c.event.new.self c.event-2.new.self c.event-3.new.self c.args.site c.sent-question.result c.sent-vote.result
    c.in_ok-hear.ensures.heard c.hear.ensures.right c.sent-question.ensures c.in_ok-event.ensures.happened c.event.ensures.right c.sent-vote.ensures
    c.in_ok-event-2.ensures.happened c.event-2.ensures.right c.event-3.ensures.happened
