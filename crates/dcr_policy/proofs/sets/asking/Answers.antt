use Rattle.std.proofs.Common.{ℕ, ◌<◌, List, [], length, get_or, sym, subst, ◌∙◌, arith}
use Rattle.std.proofs.lemmas.List.{get_or_read}
use Rattle.dcr_set.specs.EventSet.{Set}
use Rattle.dcr_graph.proofs.TableLemmas.{row_read}
use Rattle.std.specs.List.{range_with_len}
use Rattle.dcr_policy.specs.Sets.{AreAsking, AreJoined}
use Rattle.dcr_policy.proofs.ListLemmas.{range_more}
use Rattle.dcr_policy.proofs.SetsLemmas.{asking_more, asking_none}
use Rattle.dcr_policy.proofs.sets.asking.Goals as goal

pub loop-x-init : goal.loop-x-init
loop-x-init c =
    let P : List Set → Type 0 = AreAsking c.args.own.now c.args.below.now [] c.args.count c.args.room in
    subst P (sym c.in_ok-sets.ensures) (asking_none c.args.own.now c.args.below.now c.args.count c.args.room)

pub loop-x-preserved : goal.loop-x-preserved
loop-x-preserved c =
    let own = c.args.own.now in
    let below = c.args.below.now in
    let x = c.loop-x.x in
    let now = c.loop-x.sets.items in
    let new = c.join_each.new.sets.items in
    let here : x < length below = (let many = c.requires.as_many in omega arith) in
    let R : List ℕ → Type 0 = λ roles. AreJoined now roles c.index-below-x.result new in
    let S : Set → Type 0 = λ set. AreJoined now (get_or own x []) set new in
    let N : List ℕ → Type 0 = λ nodes. AreAsking own below nodes c.args.count c.args.room new in
    let roles = subst R (c.all.ensures ∙ get_or_read own x c.index-own-x.result c.loop-x-test.true c.index-own-x.is []) c.join_each.ensures in
    let joined = subst S (row_read below x c.index-below-x.result here c.index-below-x.is) roles in
    subst N (sym (range_more x)) (asking_more own below now new (range_with_len 0 x) x c.args.count c.args.room c.loop-x.invariant joined)
