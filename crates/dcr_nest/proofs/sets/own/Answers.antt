use Rattle.std.proofs.Common.{◌≡◌, ◌<◌, length, get_or, set, ap, ◌∙◌, arith}
use Rattle.dcr_graph.specs.Rows.{row}
use Rattle.dcr_graph.proofs.TableLemmas.{row_read}
use Rattle.dcr_set.specs.EventSet.{with_event}
use Rattle.dcr_nest.proofs.HandedLemmas.{own_of, own_none, own_room, own_more, own_all, length-own_of}
use Rattle.dcr_nest.proofs.sets.own.Goals as goal
use Rattle.dcr_nest.proofs.sets.own.Goals.{After-from-in-loop-e, After-index_mut-set}

here : (c : After-from-in-loop-e) → c.from-in-loop-e.result ≡ get_or c.args.atoms.now c.loop-e.e 0
here c = c.from-in-loop-e.ensures ∙ ap (λ k. get_or c.args.atoms.now k 0) c.from.ensures

many : (c : After-from-in-loop-e) → length c.loop-e.sets.items ≡ c.args.count
many c = ap (λ sets. length sets) c.loop-e.invariant ∙ length-own_of c.args.atoms.now c.args.count c.loop-e.e

within : (c : After-from-in-loop-e) → c.from-in-loop-e.result < c.args.count
within c = omega (arith, here c, c.requires.nodes c.loop-e.e 0 (omega (arith, c.loop-e-test.true)))

read : (c : After-index_mut-set) → length c.loop-e.sets.items ≡ c.args.count → c.from-in-loop-e.result < c.args.count
    → c.index_mut-set.result.now ≡ row (own_of c.args.atoms.now c.args.count c.loop-e.e) c.from-in-loop-e.result
read c all below =
    row_read c.loop-e.sets.items c.from-in-loop-e.result c.index_mut-set.result.now (omega (arith, all, below)) c.index_mut-set.ensures.value
    ∙ ap (λ sets. row sets c.from-in-loop-e.result) c.loop-e.invariant

pub loop-e-init : goal.loop-e-init
loop-e-init c = c.in_ok-sets.ensures ∙ own_none c.args.atoms.now c.args.count

pub index_mut-set-requires : goal.index_mut-set-requires
index_mut-set-requires c =
    let s = (goal.at.index_mut-set-requires c).After-from-in-loop-e in
    omega (arith, many s, within s, c.loop-e.sets.ok.0)

pub insert-requires : goal.insert-requires
insert-requires c =
    let s = (goal.at.insert-requires c).After-from-in-loop-e in
    let room = ap (λ r. length r) (read (goal.at.insert-requires c).After-index_mut-set (many s) (within s)) in
    omega (arith, room, own_room c.args.atoms.now c.args.count c.loop-e.e c.from-in-loop-e.result (within s), c.loop-e-test.true)

pub loop-e-preserved : goal.loop-e-preserved
loop-e-preserved c =
    let s = (goal.at.loop-e-preserved c).After-from-in-loop-e in
    let a = c.from-in-loop-e.result in let e = c.loop-e.e in
    ap (λ sets. set sets a c.insert.new.self) c.loop-e.invariant
    ∙ ap (λ r. set (own_of c.args.atoms.now c.args.count e) a r)
    (c.insert.ensures.added ∙ ap (λ r. with_event r e) (read (goal.at.loop-e-preserved c).After-index_mut-set (many s) (within s)))
    ∙ own_more c.args.atoms.now c.args.count e a (here s) (within s)

pub returns : goal.returns
returns c = c.loop-e.invariant ∙ own_all c.args.atoms.now c.args.count c.loop-e.e (omega (arith, c.loop-e-test.false))
