use Rattle.dcr_replay.proofs.entries.Run.take.Goals as goal

-- a line that tells an entry tells some
pub returns-then-take_answered-clause-no_entry : goal.returns-then-take_answered-clause-no_entry
returns-then-take_answered-clause-no_entry c = λ S J stands never.
    let told = c.take_answered.ensures.taken c.if-take_answered.true S J stands in absurd (never told.0 told.1)
