use Rattle.std.proofs.Common.{◌≡◌, ◌+◌, [], ◌∷◌, ◌++◌, length, ap, sym, ◌∙◌, subst, length-append}
use Rattle.std.proofs.lemmas.List.Elements.{All-push}
use Rattle.std.specs.List.{All}
use Rattle.dcr_set.specs.EventSet.{Set, with_event}
use Rattle.dcr_turn_rows.proofs.Owning.{own_more}
use Rattle.dcr_turn_rows.proofs.build.own_sets.Goals as goal

pub loop-i-preserved : goal.loop-i-preserved
loop-i-preserved c =
    let same = c.insert.ensures.added ∙ ap (λ (s : Set). with_event s c.loop-i.i) c.new-set.ensures.empty in
    let one = c.in_ok-push.ensures.items ∙ ap (λ (s : Set). c.loop-i.sets.items ++ s ∷ []) same in record {
      count = ap length c.in_ok-push.ensures.items ∙ length-append c.loop-i.sets.items (c.insert.new.self ∷ []) ∙ ap (λ n. n + 1) c.loop-i.invariant.count;
      rooms = subst (All (λ (set : Set). length set ≡ 16)) (sym c.in_ok-push.ensures.items)
          (All-push (λ (set : Set). length set ≡ 16) c.loop-i.sets.items c.insert.new.self c.loop-i.invariant.rooms (c.insert.ensures.room ∙ c.new-set.ensures.room));
      own = own_more c.loop-i.sets.items c.push.new.self.items c.loop-i.i c.loop-i.invariant.count c.loop-i.invariant.own one;
    }
