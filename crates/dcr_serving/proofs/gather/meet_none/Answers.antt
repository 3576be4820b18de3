use Rattle.std.proofs.Common.{◌≡◌, ◌<◌, ℕ, Some, get_or, length, refl, ap, subst, sym, ◌∙◌}
use Rattle.std.specs.Prelude.{None, slice_get}
use Rattle.dcr_turn.specs.PassValue.{PassValue}
use Rattle.dcr_serving.proofs.DeskLemmas.{free_more, one_read, seat_within}
use Rattle.dcr_serving.proofs.PlacingLemmas.{not_both, stands_in}
use Rattle.dcr_serving.proofs.gather.meet_none.Goals as goal

pub unreachable-requires : goal.unreachable-requires
unreachable-requires g c =
    let at = seat_within c.args.left.now c.loop-i.left c.loop-i.i (length c.args.slots.now) c.number-session.result c.index-left-i.result c.requires.within c.loop-i.invariant.seats c.loop-i-test.true c.number-session.ensures in
    not_both c.loop-i.slots c.number-session.result _ _ c.in_default.field-0 (subst (λ (n : ℕ). c.number-session.result < n) (sym c.loop-i.auto.slots) at.0) c.in_default.is c.in_default-slots.is

pub unreachable-requires-in-loop-i : goal.unreachable-requires-in-loop-i
unreachable-requires-in-loop-i g c =
    let n : ℕ = c.number-session.result in
    let at = seat_within c.args.left.now c.loop-i.left c.loop-i.i (length c.args.slots.now) n c.index-left-i.result c.requires.within c.loop-i.invariant.seats c.loop-i-test.true c.number-session.ensures in
    let there = stands_in c.loop-i.slots n n c.index-slots-session.result (Some c.in-Some.record) refl (subst (λ (k : ℕ). n < k) (sym c.loop-i.auto.slots) at.0) c.in-Some.is in
    c.meet.ensures.apart
    (c.requires.in_place n c.in-Some.record (subst (λ slots. slice_get slots n ≡ Some (Some c.in-Some.record)) c.loop-i.invariant.slots there)
    ∙ c.number-session.ensures
    ∙ ap (λ (seat : PassValue). seat.session) (one_read c.loop-i.left c.loop-i.i c.index-left-i.result c.index-left-i-in-loop-i.result (subst (λ (k : ℕ). c.loop-i.i < k) (sym c.loop-i.auto.left) c.loop-i-test.true)))

pub loop-i-preserved : goal.loop-i-preserved
loop-i-preserved g c =
    let at = seat_within c.args.left.now c.loop-i.left c.loop-i.i (length c.args.slots.now) c.number-session.result c.index-left-i.result c.requires.within c.loop-i.invariant.seats c.loop-i-test.true c.number-session.ensures in
    record {
      seats = c.loop-i.invariant.seats;
      slots = c.loop-i.invariant.slots;
      free = free_more c.args.left.now c.args.slots.now c.loop-i.i c.index-left-i.result c.loop-i-test.true c.loop-i.invariant.free
          (subst (λ l. slice_get l (get_or c.args.left.now c.loop-i.i c.index-left-i.result).session ≡ Some None) c.loop-i.invariant.slots
          (stands_in c.loop-i.slots c.number-session.result (get_or c.args.left.now c.loop-i.i c.index-left-i.result).session _ None at.1 (subst (λ (n : ℕ). (get_or c.args.left.now c.loop-i.i c.index-left-i.result).session < n) (sym c.loop-i.auto.slots) (subst (λ (n : ℕ). n < length c.args.slots.now) at.1 at.0)) c.in-None.is));
    }
