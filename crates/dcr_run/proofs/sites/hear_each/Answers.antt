use Rattle.std.proofs.Common.{◌≡◌, ◌<◌, length, get_or, sym, ◌∙◌, arith}
use Rattle.std.specs.Prelude.{slice_index_or}
use Rattle.std.proofs.lemmas.Grind.{get_or_default_zero}
use Rattle.std.proofs.lemmas.List.{length-map}
use Rattle.std.proofs.lemmas.Option.{slice_get-get_or}
use Rattle.dcr_site.specs.Seen.{Seen}
use Rattle.dcr_run.specs.Engine.{Heard}
use Rattle.dcr_run.specs.SitesModel.{alphabets_in}
use Rattle.dcr_run.proofs.HearingLemmas.{next_below, next_fresh, heard_none, heard_more}
use Rattle.dcr_run.proofs.SitesLemmas.{participant_may, heard_all}
use Rattle.dcr_run.proofs.sites.hear_each.Goals as goal
use Rattle.dcr_run.proofs.sites.hear_each.Goals.{After-from}

-- the site whose turn it is
turn : (c : After-from) → get_or c.args.participants.now c.loop-participant.participant-index 0 ≡ c.from.result
turn c =
    sym (get_or_default_zero c.args.participants.now c.loop-participant.participant-index c.participant-item.result (omega arith)) ∙ sym c.participant-item.is
    ∙ sym c.participant.view_is ∙ sym c.from.ensures

below : (c : After-from) → c.from.result < length c.loop-participant.members
below c =
    let site = next_below (alphabets_in c.args.members.now) c.args.e c.loop-participant.participant-index c.args.participants.now c.requires.all (omega arith) c.from.result (turn c) in
    let many = length-map c.args.members.now (λ (s : Seen). s.projection.alphabet) in let same = c.loop-participant.invariant.as_many in omega arith

pub loop-participant-init : goal.loop-participant-init
loop-participant-init c = heard_none (Heard c.args.e) c.args.members.now

pub bounds-members-from : goal.bounds-members-from
bounds-members-from c = below c

pub apply-requires : goal.apply-requires
apply-requires c =
    let b = (goal.at.apply-requires c).After-from in
    participant_may c.args.e c.loop-participant.participant-index c.args.participants.now c.args.members.now c.loop-participant.members c.loop-participant.invariant c.requires.all (omega arith) c.from.result (turn b)
    (slice_index_or c.loop-participant.members c.from.result c.index-members-from.result) (slice_get-get_or c.loop-participant.members c.from.result c.index-members-from.result (below b))

pub loop-participant-preserved : goal.loop-participant-preserved
loop-participant-preserved c =
    let b = (goal.at.loop-participant-preserved c).After-from in
    heard_more (Heard c.args.e) c.args.participants.now c.loop-participant.participant-index c.args.members.now c.loop-participant.members c.loop-participant.invariant (omega arith) c.from.result (turn b)
    (slice_index_or c.loop-participant.members c.from.result c.index-members-from.result) c.apply.new.self
    (next_fresh (alphabets_in c.args.members.now) c.args.e c.loop-participant.participant-index c.args.participants.now c.requires.all (omega arith) c.from.result (turn b))
    (below b) (slice_get-get_or c.loop-participant.members c.from.result c.index-members-from.result (below b))
    (record { projection = c.apply.ensures.projection; stepped = c.apply.ensures.stepped })

pub returns : goal.returns
returns c = heard_all c.args.e c.loop-participant.participant-index c.args.participants.now c.args.members.now c.loop-participant.members (omega arith) c.requires.all c.requires.over c.loop-participant.invariant
