use Rattle.std.proofs.Common.{◌≡◌, ◌+◌, ◌-◌, ◌<◌, List, length, set, Some, ap, sym, subst, ◌∙◌, arith}
use Rattle.dcr_graph.specs.Rows.{row}
use Rattle.dcr_graph.proofs.TableLemmas.{row_read}
use Rattle.dcr_set.specs.EventSet.{Set, union}
use Rattle.dcr_nest.specs.Tree.{parent_of}
use Rattle.dcr_nest.proofs.HandedLemmas.{HandedUp, handed_up_none, handed_up_top, handed_up_more, handed_up_all}
use Rattle.dcr_nest.proofs.sets.hand_up.Goals as goal

pub loop-x-init : goal.loop-x-init
loop-x-init c = handed_up_none c.args.parents.now c.args.sets.now.items c.requires.own

pub loop-x-preserved-in-Some : goal.loop-x-preserved-in-Some
loop-x-preserved-in-Some c =
    let parents = c.args.parents.now in
    let sets = c.loop-x.sets.items in
    let k = c.loop-x.x - 1 in
    let p = c.in-Some.parent in
    let before : HandedUp parents sets (k + 1) = subst (HandedUp parents sets) (omega (arith, c.loop-x-test.true)) c.loop-x.invariant in
    let inside : parent_of parents k ≡ Some p = ap (parent_of parents) (sym c.from.ensures) ∙ c.in-Some.is in
    let last : k < length parents = omega (arith, c.loop-x-test.true, c.loop-x.auto.x) in
    let read : c.copy-below.result ≡ row sets k =
    c.copy-below.ensures ∙ row_read sets c.from-in-Some.result c.index.result.now (omega (arith, before.many, c.from-in-Some.ensures, last)) c.index.ensures ∙ ap (row sets) c.from-in-Some.ensures in
    let P : List Set → Type 0 = λ now. HandedUp parents now k in
    subst P (sym (c.add.ensures ∙ ap (λ s. set sets p (union (row sets p) s)) read)) (handed_up_more parents sets k p c.requires.earlier before inside last)

pub loop-x-preserved : goal.loop-x-preserved
loop-x-preserved c =
    let parents = c.args.parents.now in
    let sets = c.loop-x.sets.items in
    let k = c.loop-x.x - 1 in
    let before : HandedUp parents sets (k + 1) = subst (HandedUp parents sets) (omega (arith, c.loop-x-test.true)) c.loop-x.invariant in
    handed_up_top parents sets k before (ap (parent_of parents) (sym c.from.ensures) ∙ c.in_default.is)

pub returns : goal.returns
returns c =
    let parents = c.args.parents.now in
    let sets = c.loop-x.sets.items in
    handed_up_all parents sets (subst (HandedUp parents sets) (omega (arith, c.loop-x-test.false)) c.loop-x.invariant)
