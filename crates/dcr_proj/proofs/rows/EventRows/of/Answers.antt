use Rattle.std.proofs.Common.{◌≡◌, ◌+◌, [], ◌∷◌, length, inl, inr, ap, ◌∙◌, subst, arith}
use Rattle.std.proofs.lemmas.Bool.{cases_lt}
use Rattle.std.proofs.lemmas.List.{length-append}
use Rattle.dcr_set.specs.EventSet.{has}
use Rattle.dcr_graph.specs.GraphValue.{rules_of}
use Rattle.dcr_proj.specs.Rows.{guards_of, effects_within, HasRow}
use Rattle.dcr_proj.specs.declared.rows.EventRow.{EventRow}
use Rattle.dcr_proj.proofs.MaskLemmas.{kept_on, kept_room, kept_guard_row, row_stays, row_comes}
use Rattle.dcr_proj.proofs.rows.EventRows.of.Goals as goal

pub of-requires-in-loop-number-clause-room : goal.of-requires-in-loop-number-clause-room
of-requires-in-loop-number-clause-room c = c.loop-number.invariant.room

pub of-requires-in-loop-number-clause-most : goal.of-requires-in-loop-number-clause-most
of-requires-in-loop-number-clause-most c = omega (arith, c.requires.most, c.loop-number.invariant.more, c.loop-number-test.true, c.atoms-number-end.ensures.atoms)

pub loop-number-preserved : goal.loop-number-preserved
loop-number-preserved c =
    let before = c.loop-number.invariant in let n = c.loop-number.number in
    let old = c.loop-number.masks.sets.items.items in let mid = c.of-in-loop-number.new.masks.sets.items.items in let new = c.of-in-loop-number-2.new.masks.sets.items.items in
    let G = rules_of c.args.graph.now in
    let owned = has c.args.own.now in let heard = has c.args.alphabet.now in
    let guards_at = guards_of G in let effects_at = effects_within G c.args.tracked_in.now c.args.tracked_re.now in
    let it : EventRow = record { guards = c.in_ok-guards.guards; effects = c.in_ok-effects.effects } in
    let some = c.loop-number.masks.masks.some_mask in
    let first = c.of-in-loop-number.ensures.kept in let next = c.of-in-loop-number-2.ensures.kept in
    let kept = kept_on old mid new first next in
    let rows = c.loop-number.rows.items.items in let more = c.keep.new.self.items.items in
    let grows = c.in_ok-kept.ensures.grown in
    let len : length c.push.new.self.items ≡ n + 1 = ap (λ l. length l) c.in_ok-push.ensures.items ∙ length-append c.loop-number.numbers.items (c.in_ok-kept.kept ∷ []) ∙ ap (λ k. k + 1) before.len in
    record {
      room = kept_room old new some kept ∙ before.room;
      more = (let a = before.more in let b = c.of-in-loop-number.ensures.more in let d = c.of-in-loop-number-2.ensures.more in omega arith);
      few = (let a = before.few in let b = grows.one in let d = ap (λ l. length l) grows.grown ∙ length-append rows grows.rest in omega arith);
      len = len;
      rows = λ e below. elim (cases_lt e n) [
        | inl less ↦
            row_stays owned heard guards_at effects_at new rows more it c.loop-number.numbers.items c.push.new.self.items c.in_ok-kept.kept grows c.in_ok-push.ensures.items
            old e some kept (let l = before.len in omega arith) (before.rows e less)
        | inr past ↦
            let same : n ≡ e = omega arith in
            subst (HasRow owned heard guards_at effects_at new more c.push.new.self.items) same
            (row_comes owned heard guards_at effects_at new rows more it c.loop-number.numbers.items c.push.new.self.items c.in_ok-kept.kept grows c.in_ok-push.ensures.items
            n before.len c.in_ok-kept.ensures.within (λ other. c.in_ok-kept.ensures.number other)
            (record {
              guards = kept_guard_row owned guards_at mid new n c.in_ok-guards.guards (let a = first.as_many in omega arith) next c.in_ok-guards.ensures.row;
              effects = c.in_ok-effects.ensures.row;
            }))
      ];
    }
