use mathlib.Core.List.{reverse-reverse}
use Rattle.std.proofs.Common.{◌≡◌, ◌+◌, ◌≤◌, ◌<◌, ℕ, List, [], ◌∷◌, length, map, reverse, ap, subst, sym, refl, ◌∙◌, arith, rules}
use Rattle.std.specs.Prelude.{vec_capacity}
use Rattle.std.proofs.lemmas.List.{length-append}
use Rattle.dcr_turn.specs.PassValue.{PassValue}
use Rattle.dcr_serve.specs.Left.{numbers_from}
use Rattle.dcr_serving.specs.Serving.{AreServed, new_pass}
use Rattle.dcr_serving.proofs.ServingLemmas.{next_seat, way_idle, way_served}
use Rattle.dcr_serving.proofs.going.go_on.Goals as goal

-- room for one more
fits : (len capacity passes left rest total room : ℕ) → passes + left ≡ total → left ≡ rest + 1 → total ≤ room → capacity ≡ room → len ≤ passes → len < capacity
fits len capacity passes left rest total room all longer enough same few = omega (arith, all, longer, enough, same, few)

one_more : (before after left rest total : ℕ) → before + left ≡ total → left ≡ rest + 1 → after ≡ before + 1 → after + rest ≡ total
one_more before after left rest total all longer more = omega (arith, all, longer, more)

still_fewer : (ends passes passes_after ends_after : ℕ) → ends ≤ passes → passes_after ≡ passes + 1 → ends_after ≡ ends + 1 → ends_after ≤ passes_after
still_fewer ends passes passes_after ends_after no_more more ended = omega (arith, no_more, more, ended)

fewer_yet : (ends passes passes_after : ℕ) → ends ≤ passes → passes_after ≡ passes + 1 → ends ≤ passes_after
fewer_yet ends passes passes_after no_more more = omega (arith, no_more, more)

pub loop-seat-init : goal.loop-seat-init
loop-seat-init g c =
    let twice : reverse c.reverse.new.self.items ≡ c.args.left.items = ap (λ (l : List PassValue). reverse l) c.reverse.ensures.items ∙ reverse-reverse c.args.left.items in
    let as_many : length c.args.left.items ≡ length c.reverse.new.self.items = sym c.args.left.ok.0 ∙ sym c.reverse.ensures.len ∙ c.reverse.new.self.ok.0 in
    record {
      numbers =
          ap (λ (l : List PassValue). map (λ (seat : PassValue). seat.session) l) twice ∙ c.requires.left
          ∙ ap (λ (n : ℕ). numbers_from (length c.args.passes.now.items) (length c.args.passes.now.items + n)) as_many;
      total = refl;
      no_more = c.requires.no_more;
      passes_room = refl;
      ends_room = refl;
      goes = λ links faults way. way;
    }

pub push_reserved-requires : goal.push_reserved-requires
push_reserved-requires g c =
    let as_many : length c.args.left.items ≡ length c.reverse.new.self.items = sym c.args.left.ok.0 ∙ sym c.reverse.ensures.len ∙ c.reverse.new.self.ok.0 in
    let longer : length c.loop-seat.left.items ≡ length c.pop.new.self.items + 1 = ap (λ (l : List PassValue). length l) c.in-Some.ensures.items ∙ length-append c.pop.new.self.items (c.in-Some.seat ∷ []) in
    let room = c.requires.room_for_passes in let same = c.loop-seat.passes.ok.0 in
    fits _ _ (length c.loop-seat.passes.items) (length c.loop-seat.left.items) (length c.pop.new.self.items) (length c.args.passes.now.items + length c.reverse.new.self.items) (vec_capacity c.args.passes.now)
    c.loop-seat.invariant.total longer (omega (arith, as_many, room)) c.loop-seat.invariant.passes_room (omega (arith, same))

pub push_reserved-requires-in-Some-ask : goal.push_reserved-requires-in-Some-ask
push_reserved-requires-in-Some-ask g c =
    let as_many : length c.args.left.items ≡ length c.reverse.new.self.items = sym c.args.left.ok.0 ∙ sym c.reverse.ensures.len ∙ c.reverse.new.self.ok.0 in
    let longer : length c.loop-seat.left.items ≡ length c.pop.new.self.items + 1 = ap (λ (l : List PassValue). length l) c.in-Some.ensures.items ∙ length-append c.pop.new.self.items (c.in-Some.seat ∷ []) in
    let room = c.requires.room_for_ends in let same = c.loop-seat.ends.ok.0 in let no_more = c.loop-seat.invariant.no_more in
    fits _ _ (length c.loop-seat.passes.items) (length c.loop-seat.left.items) (length c.pop.new.self.items) (length c.args.passes.now.items + length c.reverse.new.self.items) (vec_capacity c.args.ends.now)
    c.loop-seat.invariant.total longer (omega (arith, as_many, room)) c.loop-seat.invariant.ends_room (omega (arith, same, no_more))

pub loop-seat-preserved-in-Some-ask : goal.loop-seat-preserved-in-Some-ask
loop-seat-preserved-in-Some-ask g c =
    let rest = c.pop.new.self.items in
    let next = next_seat c.loop-seat.left.items rest c.in-Some.seat _ _ c.loop-seat.invariant.numbers c.in-Some.ensures.items in
    let longer : length c.loop-seat.left.items ≡ length rest + 1 = ap (λ (l : List PassValue). length l) c.in-Some.ensures.items ∙ length-append rest (c.in-Some.seat ∷ []) in
    let more : length c.push_reserved.new.self.items ≡ length c.loop-seat.passes.items + 1 = ap (λ (l : List PassValue). length l) c.push_reserved.ensures.items ∙ length-append c.loop-seat.passes.items (c.serve_link-pass.result.pass ∷ []) in
    let ended : length c.push_reserved-in-Some-ask.new.self.items ≡ length c.loop-seat.ends.items + 1 = ap (λ l. length l) c.push_reserved-in-Some-ask.ensures.items ∙ length-append c.loop-seat.ends.items (c.serve_link-pass.result.end ∷ []) in
    record {
      numbers = next.2 ∙ ap (λ (n : ℕ). numbers_from n (length c.args.passes.now.items + length c.reverse.new.self.items)) (sym more);
      total = one_more _ _ _ _ _ c.loop-seat.invariant.total longer more;
      no_more = still_fewer _ _ _ _ c.loop-seat.invariant.no_more more ended;
      passes_room = c.push_reserved.ensures.capacity ∙ c.loop-seat.invariant.passes_room;
      ends_room = c.push_reserved-in-Some-ask.ensures.capacity ∙ c.loop-seat.invariant.ends_room;
      goes = λ links faults way.
          let now = c.loop-seat.invariant.goes links faults way in
          way_served g.B.Door.tells.each
          g.N.StoreName.first g.N.TurnName.capacity c.args.scene.now g.B.Door.tells links faults
          c.loop-seat.passes.items c.push_reserved.new.self.items c.loop-seat.ends.items c.push_reserved-in-Some-ask.new.self.items c.loop-seat.now c.ask.new.stand c.loop-seat.door c.ask.new.door c.in-Some-ask.link
          c.serve_link-pass.result.pass c.serve_link-pass.result.end now c.in-Some-ask.ensures.open.0
          (c.in-Some-ask.ensures.some links faults (length c.loop-seat.ends.items) now.stands)
          (c.serve_link-pass.ensures.session.0 ∙ next.0) (c.serve_link-pass.ensures.session.1 ∙ sym c.serve_link-pass.ensures.session.0) c.serve_link-pass.ensures.served c.push_reserved.ensures.items c.push_reserved-in-Some-ask.ensures.items;
    }

pub push_reserved-requires-in-None : goal.push_reserved-requires-in-None
push_reserved-requires-in-None g c =
    let as_many : length c.args.left.items ≡ length c.reverse.new.self.items = sym c.args.left.ok.0 ∙ sym c.reverse.ensures.len ∙ c.reverse.new.self.ok.0 in
    let longer : length c.loop-seat.left.items ≡ length c.pop.new.self.items + 1 = ap (λ (l : List PassValue). length l) c.in-Some.ensures.items ∙ length-append c.pop.new.self.items (c.in-Some.seat ∷ []) in
    let room = c.requires.room_for_passes in let same = c.loop-seat.passes.ok.0 in
    fits _ _ (length c.loop-seat.passes.items) (length c.loop-seat.left.items) (length c.pop.new.self.items) (length c.args.passes.now.items + length c.reverse.new.self.items) (vec_capacity c.args.passes.now)
    c.loop-seat.invariant.total longer (omega (arith, as_many, room)) c.loop-seat.invariant.passes_room (omega (arith, same))

pub loop-seat-preserved : goal.loop-seat-preserved
loop-seat-preserved g c =
    let rest = c.pop.new.self.items in
    let next = next_seat c.loop-seat.left.items rest c.in-Some.seat _ _ c.loop-seat.invariant.numbers c.in-Some.ensures.items in
    let longer : length c.loop-seat.left.items ≡ length rest + 1 = ap (λ (l : List PassValue). length l) c.in-Some.ensures.items ∙ length-append rest (c.in-Some.seat ∷ []) in
    let more : length c.push_reserved-in-None.new.self.items ≡ length c.loop-seat.passes.items + 1 = ap (λ (l : List PassValue). length l) c.push_reserved-in-None.ensures.items ∙ length-append c.loop-seat.passes.items (c.into_pass.result ∷ []) in
    record {
      numbers = next.2 ∙ ap (λ (n : ℕ). numbers_from n (length c.args.passes.now.items + length c.reverse.new.self.items)) (sym more);
      total = one_more _ _ _ _ _ c.loop-seat.invariant.total longer more;
      no_more = fewer_yet _ _ _ c.loop-seat.invariant.no_more more;
      passes_room = c.push_reserved-in-None.ensures.capacity ∙ c.loop-seat.invariant.passes_room;
      ends_room = c.loop-seat.invariant.ends_room;
      goes = λ links faults way.
          let now = c.loop-seat.invariant.goes links faults way in
          way_idle g.B.Door.tells.each
          g.N.StoreName.first g.N.TurnName.capacity c.args.scene.now g.B.Door.tells links faults
          c.loop-seat.passes.items c.push_reserved-in-None.new.self.items c.loop-seat.ends.items c.loop-seat.now c.ask.new.stand c.loop-seat.door c.ask.new.door c.into_pass.result now
          (c.in-None.ensures.none links faults (length c.loop-seat.ends.items) now.stands) c.in-None.ensures.not_open (c.into_pass.ensures.new ∙ ap new_pass next.0) c.push_reserved-in-None.ensures.items;
    }

pub returns : goal.returns
returns g c =
    let as_many : length c.args.left.items ≡ length c.reverse.new.self.items = sym c.args.left.ok.0 ∙ sym c.reverse.ensures.len ∙ c.reverse.new.self.ok.0 in
    let none : c.loop-seat.left.items ≡ [] = search rules in
    let none_left : length c.loop-seat.left.items ≡ 0 = ap (λ (l : List PassValue). length l) none in
    let total : length c.loop-seat.passes.items ≡ length c.args.passes.now.items + length c.args.left.items = (let total = c.loop-seat.invariant.total in omega (arith, total, as_many, none_left)) in
    record {
      goes_on = λ links faults served stands still_open.
          let way = c.loop-seat.invariant.goes links faults (record { served = served; stands = stands; still_open = still_open }) in (
            subst (λ (n : ℕ). AreServed g.B.Door.tells.each
                g.N.StoreName.first g.N.TurnName.capacity c.args.scene.now links n c.loop-seat.passes.items c.loop-seat.ends.items) total way.served,
            way.stands,
            λ is. way.still_open is ∙ total,
          );
    }
