use Rattle.std.proofs.Common.{◌≡◌, ◌+◌, [], ◌∷◌, length, ap, subst, sym, ◌∙◌}
use Rattle.std.specs.List.{All}
use Rattle.std.proofs.lemmas.List.{length-append}
use Rattle.std.proofs.lemmas.List.Elements.{All-push}
use Rattle.dcr_serving.specs.Hands.{IsReady}
use Rattle.dcr_serving.specs.Placing.{HasRoom}
use Rattle.dcr_serving.proofs.GatherLemmas.{all_of_rest, one_more, part_given, room_more}
use Rattle.dcr_serving.proofs.room.deal.Goals as goal

pub loop-records-preserved : goal.loop-records-preserved
loop-records-preserved g c =
    let rest = c.pop.new.self.items in
    let shorter : length c.loop-records.records.items ≡ length rest + 1 = ap (λ l. length l) c.in-Some.ensures.items ∙ length-append rest (c.in-Some.records ∷ []) in
    let more : length c.push_reserved.new.self.items ≡ length c.loop-records.hands.items + 1 = ap (λ l. length l) c.push_reserved.ensures.items ∙ length-append c.loop-records.hands.items _ in
    let empty = all_of_rest (HasRoom c.args.sessions) c.loop-records.records.items rest c.in-Some.records c.loop-records.invariant.empty c.in-Some.ensures.items in
    record {
      parts = part_given _ _ _ _ c.split.ensures.parts c.loop-records.invariant.parts shorter;
      taken = c.split.ensures.taken ∙ c.loop-records.invariant.taken;
      all = one_more _ _ _ _ _ c.loop-records.invariant.all shorter more;
      room = room_more _ _ _ _ _ _ c.loop-records.invariant.room shorter more c.push_reserved.ensures.capacity;
      empty = empty.0;
      ready =
          subst (All (IsReady c.args.sessions)) (sym c.push_reserved.ensures.items)
          (All-push (IsReady c.args.sessions) c.loop-records.hands.items _ c.loop-records.invariant.ready
          (record { part = c.split.ensures.one; none_taken = c.split.ensures.none_taken; none = empty.1.0; room_left = empty.1.1 }));
    }
