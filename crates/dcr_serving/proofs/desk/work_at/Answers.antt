use Rattle.std.proofs.Common.{◌≡◌, ◌<◌, ◌≤◌, ℕ, Some, length, map, ap, subst, sym, ◌∙◌}
use Rattle.std.specs.Prelude.{None, slice_get}
use Rattle.std.specs.List.{All}
use Rattle.dcr_turn.specs.PassValue.{PassValue}
use Rattle.dcr_serve.specs.Left.{AreAllButFirst, numbers_from}
use Rattle.dcr_serving.specs.Placing.{AreInPlace, filled}
use Rattle.dcr_serving.specs.Serving.{IsServedOf}
use Rattle.dcr_serving.proofs.DeskLemmas.{below, from_hands, none_in_place, session_below, taken_are}
use Rattle.dcr_serving.proofs.desk.work_at.Goals as goal

pub gather-requires-clause-parts : goal.gather-requires-clause-parts
gather-requires-clause-parts g c = λ k d within. (c.at_work.ensures.served k d within).part

pub gather-requires-clause-counts : goal.gather-requires-clause-counts
gather-requires-clause-counts g c = λ k d within. (c.at_work.ensures.served k d within).count

pub gather-requires-clause-within : goal.gather-requires-clause-within
gather-requires-clause-within g c = λ k d within.
    let hand = c.at_work.ensures.served k d within in
    session_below _ g.M.DeskName.items (length c.args.slots.now) (sym c.requires.places) (λ j one inside. (hand.each j one inside).session) hand.within

pub gather-requires-clause-in_place : goal.gather-requires-clause-in_place
gather-requires-clause-in_place g c = none_in_place c.args.slots.now c.requires.empty

pub part-left-requires-clause-within : goal.part-left-requires-clause-within
part-left-requires-clause-within g c =
    subst (λ (n : ℕ). All (λ (seat : PassValue). seat.session < n) c.finish-door.result.1.items) (sym (c.gather.ensures.as_many ∙ c.requires.places))
    (below c.finish-door.result.1.items c.gather.new.share.taken g.M.DeskName.items c.finish-door.ensures.items)

pub part-left-requires-clause-in_place : goal.part-left-requires-clause-in_place
part-left-requires-clause-in_place g c = c.gather.ensures.in_place

pub returns-clause-as_many : goal.returns-clause-as_many
returns-clause-as_many g c = ap (λ l. length l) c.part-left.ensures.slots ∙ c.gather.ensures.as_many ∙ c.requires.places

pub returns-clause-in_place : goal.returns-clause-in_place
returns-clause-in_place g c = subst (λ slots. AreInPlace slots) (sym c.part-left.ensures.slots) c.gather.ensures.in_place

pub returns-clause-served : goal.returns-clause-served
returns-clause-served g c =
    subst (λ slots. All (λ one. IsServedOf g.B.Door.tells.each
    g.N.StoreName.first g.N.TurnName.capacity c.args.scene.now g.M.DeskName.links one.pass one.end) (filled slots)) (sym c.part-left.ensures.slots)
    (from_hands (λ one. IsServedOf g.B.Door.tells.each
    g.N.StoreName.first g.N.TurnName.capacity c.args.scene.now g.M.DeskName.links one.pass one.end) c.args.slots.now c.gather.new.slots c.at_work.new.hands.items c.requires.empty c.gather.ensures.from_hands
    (λ k d within. (c.at_work.ensures.served k d within).each))

pub returns-clause-left : goal.returns-clause-left
returns-clause-left g c =
    let taken = taken_are c.gather.new.slots c.args.slots.now c.part-left.new.slots c.gather.new.share.taken c.deal-hands.new.share.taken c.gather.ensures.count c.requires.empty (c.deal-hands.ensures.taken ∙ c.new-desk.ensures.none_taken) c.part-left.ensures.slots in
    ap (map (λ (seat : PassValue). seat.session)) c.part-left.ensures.seats ∙ c.finish-door.ensures.items ∙ ap (λ (n : ℕ). numbers_from n g.M.DeskName.items) taken

pub returns-clause-within : goal.returns-clause-within
returns-clause-within g c =
    let taken = taken_are c.gather.new.slots c.args.slots.now c.part-left.new.slots c.gather.new.share.taken c.deal-hands.new.share.taken c.gather.ensures.count c.requires.empty (c.deal-hands.ensures.taken ∙ c.new-desk.ensures.none_taken) c.part-left.ensures.slots in
    subst (λ (n : ℕ). n ≤ g.M.DeskName.items) taken c.finish-door.ensures.within

pub returns-clause-free : goal.returns-clause-free
returns-clause-free g c =
    subst (λ slots. All (λ (seat : PassValue). slice_get slots seat.session ≡ Some None) c.part-left.result.items) (sym c.part-left.ensures.slots)
    (subst (All (λ (seat : PassValue). slice_get c.gather.new.slots seat.session ≡ Some None)) (sym c.part-left.ensures.seats) c.part-left.ensures.free)

pub returns-clause-stands : goal.returns-clause-stands
returns-clause-stands g c =
    let taken = taken_are c.gather.new.slots c.args.slots.now c.part-left.new.slots c.gather.new.share.taken c.deal-hands.new.share.taken c.gather.ensures.count c.requires.empty (c.deal-hands.ensures.taken ∙ c.new-desk.ensures.none_taken) c.part-left.ensures.slots in
    record {
      left = subst (λ (n : ℕ). AreAllButFirst g.M.DeskName.links n (g.B.Door.tells.links c.finish-door.result.0)) taken c.finish-door.ensures.links;
      stands = c.finish-door.ensures.stands;
    }
