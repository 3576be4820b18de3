use Rattle.std.proofs.Common.{sym, ◌∙◌}
use Rattle.std.proofs.lemmas.Bool.{false≢true}
use Rattle.dcr_replay.proofs.entries.Run.take_read.Goals as goal

pub returns-then-not-branch-clause-taken : goal.returns-then-not-branch-clause-taken
returns-then-not-branch-clause-taken c = λ S J stands.
    let next = c.in-Some.ensures.entry S J stands in
    (c.in-Some.entry, next, λ answered. false≢true (sym c.if-not-branch.true ∙ (c.in_ok-is_answered.ensures S J c.args.line.ended stands next).1 answered))

pub returns-clause-taken : goal.returns-clause-taken
returns-clause-taken c = λ S J stands.
    let next = c.in-Some.ensures.entry S J stands in
    let answered = (c.in_ok-is_answered.ensures S J c.args.line.ended stands next).0 c.if-not-branch.false in
    (c.in-Some.entry, next, answered, c.count.ensures.stands S J stands next.0 answered)

pub returns-then-not-branch-clause-no_entry : goal.returns-then-not-branch-clause-no_entry
returns-then-not-branch-clause-no_entry c = λ S J stands never. absurd (never c.in-Some.entry (c.in-Some.ensures.entry S J stands))

pub returns-clause-no_entry : goal.returns-clause-no_entry
returns-clause-no_entry c = λ S J stands never. absurd (never c.in-Some.entry (c.in-Some.ensures.entry S J stands))
