use Rattle.std.proofs.Common.{◌≡◌, ◌≢◌, ◌+◌, ℕ, List, length, map, ap, subst, sym, ◌∙◌}
use Rattle.std.specs.Prelude.{Option}
use Rattle.std.specs.List.{All, Any}
use Rattle.dcr_turn.specs.PassValue.{PassValue, new_passes}
use Rattle.dcr_serve.specs.Left.{numbers_from}
use Rattle.dcr_link.specs.declared.end.WorkCause.TheVariants.{NoMemory}
use Rattle.dcr_serving.specs.Placing.{HasRoom, filled}
use Rattle.dcr_serving.specs.Serving.{AreServed}
use Rattle.dcr_serving.proofs.ServingLemmas.{door_unasked, length-new, numbers_new, served_none}
use Rattle.dcr_serving.proofs.TakenLemmas.{are_first, are_taken, as_many_new, door_ends, left_numbers, room_for, way_after}
use Rattle.dcr_serving.proofs.serve.at_desk.Goals as goal

pub returns-in_default-clause-served : goal.returns-in_default-clause-served
returns-in_default-clause-served g c =
    served_none g.B.Door.tells.each
    g.N.StoreName.first g.N.TurnName.capacity c.args.scene.now (g.B.Door.tells.links c.args.door) g.N.TurnName.turn.sessions c.args.passes.items c.new-in_default.result.items
    c.requires.passes c.new-in_default.ensures.items

pub returns-in_default-clause-door : goal.returns-in_default-clause-door
returns-in_default-clause-door g c =
    door_unasked g.B.Door.tells c.args.door g.N.TurnName.turn.sessions c.new-in_default.result.items c.new-in_default.ensures.items

pub seated-seats-requires-clause-new : goal.seated-seats-requires-clause-new
seated-seats-requires-clause-new g c =
    c.requires.passes ∙ ap new_passes (sym (ap (λ (l : List PassValue). length l) c.requires.passes ∙ length-new g.N.TurnName.turn.sessions))

pub work_at-door-requires-clause-seats : goal.work_at-door-requires-clause-seats
work_at-door-requires-clause-seats g c κs within =
    ap (map (λ (seat : PassValue). seat.session)) (c.seated-seats.ensures ∙ c.requires.passes) ∙ numbers_new g.N.TurnName.turn.sessions ∙ ap (numbers_from 0) (sym c.requires.items)

pub work_at-door-requires-clause-records : goal.work_at-door-requires-clause-records
work_at-door-requires-clause-records g c κs within =
    let n : ℕ = g.N.TurnName.turn.sessions in
    let sessions = as_many_new c.len-sessions.result c.args.passes.len g.N.TurnName.turn.sessions c.args.passes.items c.len-sessions.ensures c.args.passes.ok.0 c.requires.passes in
    subst (λ (k : ℕ). All (HasRoom k) c.in-Ok.room.records.items) (sessions ∙ sym c.requires.items) c.in-Ok.ensures.records.1

pub work_at-door-requires-clause-places : goal.work_at-door-requires-clause-places
work_at-door-requires-clause-places g c κs within =
    let n : ℕ = g.N.TurnName.turn.sessions in
    let sessions = as_many_new c.len-sessions.result c.args.passes.len g.N.TurnName.turn.sessions c.args.passes.items c.len-sessions.ensures c.args.passes.ok.0 c.requires.passes in
    ap (λ l. length l) c.as_mut_slice-places.ensures.value ∙ c.in-Ok.ensures.slots.0 ∙ sessions ∙ sym c.requires.items

pub overflow_sub-sessions : goal.overflow_sub-sessions
overflow_sub-sessions g c =
    let n : ℕ = g.N.TurnName.turn.sessions in
    let sessions = as_many_new c.len-sessions.result c.args.passes.len g.N.TurnName.turn.sessions c.args.passes.items c.len-sessions.ensures c.args.passes.ok.0 c.requires.passes in
    let at = c.work_at-door.ensures in
    let first = are_first c.work_at-door.new.slots c.work_at-door.result.1.items c.len-sessions.result c.len.result g.M.DeskName.items n sessions c.requires.items (c.len.ensures ∙ c.work_at-door.result.1.ok.0)
    at.as_many at.within at.left at.free at.in_place in
    first.fits

pub take_out-requires-clause-full : goal.take_out-requires-clause-full
take_out-requires-clause-full g c =
    let n : ℕ = g.N.TurnName.turn.sessions in
    let sessions = as_many_new c.len-sessions.result c.args.passes.len g.N.TurnName.turn.sessions c.args.passes.items c.len-sessions.ensures c.args.passes.ok.0 c.requires.passes in
    let at = c.work_at-door.ensures in
    let first = are_first c.work_at-door.new.slots c.work_at-door.result.1.items c.len-sessions.result c.len.result g.M.DeskName.items n sessions c.requires.items (c.len.ensures ∙ c.work_at-door.result.1.ok.0)
    at.as_many at.within at.left at.free at.in_place in
    first.full

pub go_on-stand-requires-clause-left : goal.go_on-stand-requires-clause-left
go_on-stand-requires-clause-left g c =
    let n : ℕ = g.N.TurnName.turn.sessions in
    let sessions = as_many_new c.len-sessions.result c.args.passes.len g.N.TurnName.turn.sessions c.args.passes.items c.len-sessions.ensures c.args.passes.ok.0 c.requires.passes in
    let at = c.work_at-door.ensures in
    let first = are_first c.work_at-door.new.slots c.work_at-door.result.1.items c.len-sessions.result c.len.result g.M.DeskName.items n sessions c.requires.items (c.len.ensures ∙ c.work_at-door.result.1.ok.0)
    at.as_many at.within at.left at.free at.in_place in
    let taken = are_taken c.work_at-door.new.slots c.work_at-door.result.1.items c.len-sessions.result c.len.result n c.in-Ok.room.passes.items c.take_out.new.passes.items c.in-Ok.room.ends.items c.take_out.new.ends.items first
    c.in-Ok.ensures.passes.0 c.in-Ok.ensures.ends.0 c.take_out.ensures.passes c.take_out.ensures.ends in
    left_numbers c.work_at-door.new.slots c.work_at-door.result.1.items (length c.take_out.new.passes.items) (length (filled c.work_at-door.new.slots)) g.M.DeskName.items n taken.passes_many first.total c.requires.items at.left

pub go_on-stand-requires-clause-room_for_passes : goal.go_on-stand-requires-clause-room_for_passes
go_on-stand-requires-clause-room_for_passes g c =
    let n : ℕ = g.N.TurnName.turn.sessions in
    let sessions = as_many_new c.len-sessions.result c.args.passes.len g.N.TurnName.turn.sessions c.args.passes.items c.len-sessions.ensures c.args.passes.ok.0 c.requires.passes in
    let at = c.work_at-door.ensures in
    let first = are_first c.work_at-door.new.slots c.work_at-door.result.1.items c.len-sessions.result c.len.result g.M.DeskName.items n sessions c.requires.items (c.len.ensures ∙ c.work_at-door.result.1.ok.0)
    at.as_many at.within at.left at.free at.in_place in
    let taken = are_taken c.work_at-door.new.slots c.work_at-door.result.1.items c.len-sessions.result c.len.result n c.in-Ok.room.passes.items c.take_out.new.passes.items c.in-Ok.room.ends.items c.take_out.new.ends.items first
    c.in-Ok.ensures.passes.0 c.in-Ok.ensures.ends.0 c.take_out.ensures.passes c.take_out.ensures.ends in
    room_for _ _ _ n c.len-sessions.result _ _ taken.passes_many first.total sessions c.in-Ok.ensures.passes.1 c.take_out.ensures.passes_room

pub go_on-stand-requires-clause-room_for_ends : goal.go_on-stand-requires-clause-room_for_ends
go_on-stand-requires-clause-room_for_ends g c =
    let n : ℕ = g.N.TurnName.turn.sessions in
    let sessions = as_many_new c.len-sessions.result c.args.passes.len g.N.TurnName.turn.sessions c.args.passes.items c.len-sessions.ensures c.args.passes.ok.0 c.requires.passes in
    let at = c.work_at-door.ensures in
    let first = are_first c.work_at-door.new.slots c.work_at-door.result.1.items c.len-sessions.result c.len.result g.M.DeskName.items n sessions c.requires.items (c.len.ensures ∙ c.work_at-door.result.1.ok.0)
    at.as_many at.within at.left at.free at.in_place in
    let taken = are_taken c.work_at-door.new.slots c.work_at-door.result.1.items c.len-sessions.result c.len.result n c.in-Ok.room.passes.items c.take_out.new.passes.items c.in-Ok.room.ends.items c.take_out.new.ends.items first
    c.in-Ok.ensures.passes.0 c.in-Ok.ensures.ends.0 c.take_out.ensures.passes c.take_out.ensures.ends in
    room_for _ _ _ n c.len-sessions.result _ _ taken.passes_many first.total sessions c.in-Ok.ensures.ends.1 c.take_out.ensures.ends_room

pub returns-clause-served : goal.returns-clause-served
returns-clause-served g c =
    let n : ℕ = g.N.TurnName.turn.sessions in
    let sessions = as_many_new c.len-sessions.result c.args.passes.len g.N.TurnName.turn.sessions c.args.passes.items c.len-sessions.ensures c.args.passes.ok.0 c.requires.passes in
    let at = c.work_at-door.ensures in
    let first = are_first c.work_at-door.new.slots c.work_at-door.result.1.items c.len-sessions.result c.len.result g.M.DeskName.items n sessions c.requires.items (c.len.ensures ∙ c.work_at-door.result.1.ok.0)
    at.as_many at.within at.left at.free at.in_place in
    let taken = are_taken c.work_at-door.new.slots c.work_at-door.result.1.items c.len-sessions.result c.len.result n c.in-Ok.room.passes.items c.take_out.new.passes.items c.in-Ok.room.ends.items c.take_out.new.ends.items first
    c.in-Ok.ensures.passes.0 c.in-Ok.ensures.ends.0 c.take_out.ensures.passes c.take_out.ensures.ends in
    let way = way_after c.work_at-door.new.slots g.B.Door.tells.each
    g.N.StoreName.first g.N.TurnName.capacity c.args.scene.now g.B.Door.tells g.M.DeskName.links g.M.DeskName.faults
    c.work_at-door.result.1.items c.len-sessions.result c.len.result n c.take_out.new.passes.items c.take_out.new.ends.items c.work_at-door.result.2 c.work_at-door.result.0 first taken at.served at.stands in
    let after = c.go_on-stand.ensures.goes_on g.M.DeskName.links g.M.DeskName.faults way.served way.stands way.still_open in
    let total : length c.take_out.new.passes.items + length c.work_at-door.result.1.items ≡ n = ap (λ (k : ℕ). k + length c.work_at-door.result.1.items) taken.passes_many ∙ first.total in
    subst (λ (links : Option (List g.row.B-Link.Denot)). AreServed g.B.Door.tells.each
    g.N.StoreName.first g.N.TurnName.capacity c.args.scene.now links n c.go_on-stand.new.passes.items c.go_on-stand.new.ends.items) (sym c.requires.links)
    (subst (λ (k : ℕ). AreServed g.B.Door.tells.each
    g.N.StoreName.first g.N.TurnName.capacity c.args.scene.now g.M.DeskName.links k c.go_on-stand.new.passes.items c.go_on-stand.new.ends.items) total after.0)

pub returns-clause-door : goal.returns-clause-door
returns-clause-door g c =
    let n : ℕ = g.N.TurnName.turn.sessions in
    let sessions = as_many_new c.len-sessions.result c.args.passes.len g.N.TurnName.turn.sessions c.args.passes.items c.len-sessions.ensures c.args.passes.ok.0 c.requires.passes in
    let at = c.work_at-door.ensures in
    let first = are_first c.work_at-door.new.slots c.work_at-door.result.1.items c.len-sessions.result c.len.result g.M.DeskName.items n sessions c.requires.items (c.len.ensures ∙ c.work_at-door.result.1.ok.0)
    at.as_many at.within at.left at.free at.in_place in
    let taken = are_taken c.work_at-door.new.slots c.work_at-door.result.1.items c.len-sessions.result c.len.result n c.in-Ok.room.passes.items c.take_out.new.passes.items c.in-Ok.room.ends.items c.take_out.new.ends.items first
    c.in-Ok.ensures.passes.0 c.in-Ok.ensures.ends.0 c.take_out.ensures.passes c.take_out.ensures.ends in
    let way = way_after c.work_at-door.new.slots g.B.Door.tells.each
    g.N.StoreName.first g.N.TurnName.capacity c.args.scene.now g.B.Door.tells g.M.DeskName.links g.M.DeskName.faults
    c.work_at-door.result.1.items c.len-sessions.result c.len.result n c.take_out.new.passes.items c.take_out.new.ends.items c.work_at-door.result.2 c.work_at-door.result.0 first taken at.served at.stands in
    let after = c.go_on-stand.ensures.goes_on g.M.DeskName.links g.M.DeskName.faults way.served way.stands way.still_open in
    let total : length c.take_out.new.passes.items + length c.work_at-door.result.1.items ≡ n = ap (λ (k : ℕ). k + length c.work_at-door.result.1.items) taken.passes_many ∙ first.total in
    door_ends g.B.Door.tells c.args.door c.go_on-stand.new.door g.M.DeskName.links g.M.DeskName.faults n c.go_on-stand.new.ends.items
    c.go_on-stand.result c.has_failed.result c.any_wanted-no_memory.result c.requires.links c.requires.faults after.1 (λ is. after.2 is ∙ total)
    c.has_failed.ensures.failed c.has_failed.ensures.not_failed
    (λ wanted. subst (Any (λ one. one.end.cause ≡ NoMemory)) c.deref.ensures.value (c.any_wanted-no_memory.ensures.some wanted))
    (λ had. subst (All (λ one. one.end.cause ≢ NoMemory)) c.deref.ensures.value (c.any_wanted-no_memory.ensures.none had))
