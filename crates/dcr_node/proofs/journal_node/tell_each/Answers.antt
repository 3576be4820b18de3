use Rattle.std.proofs.Common.{◌≡◌, ◌<◌, [], ◌∷◌, length, get_or, sym, ◌∙◌, arith}
use Rattle.std.specs.Prelude.{slice_index_or}
use Rattle.std.proofs.lemmas.Grind.{get_or_default_zero}
use Rattle.std.proofs.lemmas.Option.{slice_get-get_or}
use Rattle.dcr_run.proofs.HearingLemmas.{next_below, next_fresh, next_kept, heard_none, heard_more}
use Rattle.dcr_node.specs.Streams.{IsLonger}
use Rattle.dcr_node.proofs.JournalLemmas.{told_each}
use Rattle.dcr_node.proofs.journal_node.tell_each.Goals as goal
use Rattle.dcr_node.proofs.journal_node.tell_each.Goals.{After-from}

-- the site whose turn it is
turn : (c : After-from) → get_or c.participants-participants.result.now c.loop-participant.participant-index 0 ≡ c.from.result
turn c =
    sym (get_or_default_zero c.participants-participants.result.now c.loop-participant.participant-index c.participant-item.result (omega arith)) ∙ sym c.participant-item.is
    ∙ sym c.participant.view_is ∙ sym c.from.ensures

below : (c : After-from) → c.from.result < length c.loop-participant.streams
below c =
    let site = next_below c.args.network.now c.args.e c.loop-participant.participant-index c.participants-participants.result.now c.participants-participants.ensures.participants (omega arith) c.from.result (turn c) in
    let same = c.loop-participant.invariant.as_many in let many = c.requires.as_many in omega arith

pub loop-participant-init : goal.loop-participant-init
loop-participant-init c = heard_none (IsLonger (c.args.e ∷ [])) c.args.streams.now

pub bounds-streams-from : goal.bounds-streams-from
bounds-streams-from c = below c

pub push-requires : goal.push-requires
push-requires c =
    let b = (goal.at.push-requires c).After-from in
    let stream = slice_index_or c.loop-participant.streams c.from.result c.index-streams-from.result in
    c.requires.rooms c.from.result stream
    (next_kept (IsLonger (c.args.e ∷ [])) c.args.network.now c.args.e c.loop-participant.participant-index c.participants-participants.result.now c.args.streams.now c.loop-participant.streams c.loop-participant.invariant
    c.participants-participants.ensures.participants (omega arith) c.from.result (turn b) stream (slice_get-get_or c.loop-participant.streams c.from.result c.index-streams-from.result (below b)))

pub loop-participant-preserved : goal.loop-participant-preserved
loop-participant-preserved c =
    let b = (goal.at.loop-participant-preserved c).After-from in
    let stream = slice_index_or c.loop-participant.streams c.from.result c.index-streams-from.result in
    heard_more (IsLonger (c.args.e ∷ [])) c.participants-participants.result.now c.loop-participant.participant-index c.args.streams.now c.loop-participant.streams c.loop-participant.invariant (omega arith) c.from.result (turn b)
    stream c.push.new.self
    (next_fresh c.args.network.now c.args.e c.loop-participant.participant-index c.participants-participants.result.now c.participants-participants.ensures.participants (omega arith) c.from.result (turn b))
    (below b) (slice_get-get_or c.loop-participant.streams c.from.result c.index-streams-from.result (below b))
    (record { events = c.push.ensures.events; room = c.push.ensures.room })

pub returns : goal.returns
returns c =
    told_each c.args.network.now c.args.e c.loop-participant.participant-index c.participants-participants.result.now c.args.streams.now c.loop-participant.streams (omega arith)
    c.participants-participants.ensures.participants c.loop-participant.invariant
