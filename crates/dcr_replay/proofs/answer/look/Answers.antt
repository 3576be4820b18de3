use Rattle.dcr_set.specs.EventSet.{intersection}
use Rattle.std.proofs.Common.{◌≡◌, ◌<◌, length, get_or, sym, ap, ◌∙◌, arith}
use Rattle.std.proofs.lemmas.List.{length-map}
use Rattle.dcr_graph.specs.GraphValue.{rules_of}
use Rattle.dcr_graph.specs.Rows.{row}
use Rattle.dcr_graph.specs.declared.marking.Marking.{Marking}
use Rattle.dcr_replay.specs.Tracks.{tracked_of}
use Rattle.dcr_replay.proofs.TrackedLemmas.{tracked_at, tracked_rooms, HasRooms, cut_told}
use Rattle.dcr_replay.proofs.answer.look.Goals as goal
use Rattle.dcr_replay.proofs.answer.look.Goals.{After-from, After-marking}

inside : (c : After-from) → c.from.result < length c.args.tracked.now
inside c =
    let same : length c.args.tracked.now ≡ length c.args.cover.now.owned = ap (λ each. length each) c.requires.tracked ∙ length-map c.args.cover.now.owned (tracked_of (rules_of c.args.plain.now.graph)) in
    omega (arith, c.from.ensures, c.i.view_is, c.requires.site, same, c.requires.cover.as_many)

pub bounds-tracked-from : goal.bounds-tracked-from
bounds-tracked-from c = inside c

pub offset_bounds-tracked-from : goal.offset_bounds-tracked-from
offset_bounds-tracked-from c = omega (arith, c.from.ensures, c.i.view_is, c.requires.site, c.requires.cover.most_sites)

-- the site tracks what the list says at its number
tracks : (c : After-marking) → c.index-tracked-from.result ≡ tracked_of (rules_of c.args.plain.now.graph) (row c.args.cover.now.owned c.args.i)
tracks c =
    let number : c.from.result ≡ c.args.i = c.from.ensures ∙ c.i.view_is in
    tracked_at (rules_of c.args.plain.now.graph) c.args.cover.now.owned c.args.tracked.now c.args.i c.index-tracked-from.result c.requires.tracked
    (omega (arith, c.requires.site, c.requires.cover.as_many))
    (c.index-tracked-from.is ∙ ap (λ k. get_or c.args.tracked.now k c.index-tracked-from.result) number)

rooms : (c : After-marking) → HasRooms (length c.args.plain.now.graph.names) c.index-tracked-from.result
rooms c = tracked_rooms (rules_of c.args.plain.now.graph) (row c.args.cover.now.owned c.args.i) c.index-tracked-from.result (tracks c)

pub cut-requires-clause-executed : goal.cut-requires-clause-executed
cut-requires-clause-executed c =
    ap (λ (M : Marking). length M.executed) c.marking.ensures.marking ∙ c.marking.ensures.room.executed ∙ sym (rooms c).executed

pub cut-requires-clause-pending : goal.cut-requires-clause-pending
cut-requires-clause-pending c =
    ap (λ (M : Marking). length M.pending) c.marking.ensures.marking ∙ c.marking.ensures.room.pending ∙ sym (rooms c).pending

pub cut-requires-clause-included : goal.cut-requires-clause-included
cut-requires-clause-included c =
    ap (λ (M : Marking). length M.included) c.marking.ensures.marking ∙ c.marking.ensures.room.included ∙ sym (rooms c).included

pub returns : goal.returns
returns c =
    let T = c.index-tracked-from.result in let same = c.marking.ensures.marking in
    cut_told (rules_of c.args.plain.now.graph) (row c.args.cover.now.owned c.args.i) c.args.plain.now.marking T c.cut.result
    (tracks (goal.at.returns c).After-marking) c.marking.ensures.room
    (c.cut.ensures.executed ∙ ap (λ (M : Marking). intersection M.executed T.executed) same)
    (c.cut.ensures.pending ∙ ap (λ (M : Marking). intersection M.pending T.pending) same)
    (c.cut.ensures.included ∙ ap (λ (M : Marking). intersection M.included T.included) same)
