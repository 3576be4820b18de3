use Rattle.std.proofs.Common.{◌≡◌, List, [], ◌∷◌, ◌++◌, length, map, ◌<◌, None, Some, inr, sym, ap, ◌∙◌, subst}
use Rattle.dcr_journal.specs.Run.{event_done}
use Rattle.dcr_journal.specs.declared.call.Call.{Call}
use Rattle.dcr_journal.specs.declared.call.Call.TheVariants.{Exec}
use Rattle.dcr_turn.specs.FrontValue.{FrontValue}
use Rattle.dcr_cell.specs.Asking.{AreEnough, Found, sites_of}
use Rattle.dcr_cell.specs.CellStands.{CellStands}
use Rattle.dcr_cell.specs.ClusterId.{IsCall, answer_after}
use Rattle.dcr_cell.specs.Laws.{asked}
use Rattle.dcr_cell.specs.declared.cell.Cell.{Cell}
use Rattle.dcr_cell.proofs.AskLemmas.{asked_here}
use Rattle.dcr_cluster.specs.Calls.{done_by, ending, seeing}
use Rattle.dcr_cluster.proofs.BlockLemmas.{spared, spares_all}
use Rattle.dcr_cluster.proofs.GatherLemmas.{comes_back, came_back, left_as_is}
use Rattle.dcr_cluster.proofs.cluster.Cluster.block.Goals as goal

pub take_off-front-requires : goal.take_off-front-requires
take_off-front-requires g c =
    let own = c.split-grip.result.1 in
    let at : own.front.site ≡ c.first.inside.0 = ap (λ (x : Cell g.row.N.Denot). x.front.site) c.split-grip.ensures.value ∙ c.lock_noting.ensures.belongs.at in (
      map (seeing c.commit-ended.new.pass.front) c.args.fronts.now,
      comes_back c.put_on.new.row c.args.fronts.now c.commit-ended.new.fronts own.front c.first.inside.0 c.commit-ended.new.pass.front c.put_on.ensures at c.commit-ended.ensures.returned.fronts,
    )

pub unlock-requires-2 : goal.unlock-requires-2
unlock-requires-2 g c =
    let C = g.N.ClusterName.cluster in let T = g.N.TurnName.turn in let call = c.args.call.now in let own = c.split-grip.result.1 in let row = c.put_on.new.row in
    let found = c.blocks-2.new.found in let result = ending c.commit-ended.new.found c.commit-ended.result in let after = c.commit-ended.new.pass in
    let at : own.front.site ≡ c.in-Exec.first = ap (λ (x : Cell g.row.N.Denot). x.front.site) c.split-grip.ensures.value ∙ c.lock_noting.ensures.belongs.at ∙ c.first.view_is in
    let stands : CellStands C c.in-Exec.first own.site.value own.front =
    subst (λ i. CellStands C i own.site.value own.front) c.first.view_is (subst (λ (x : Cell g.row.N.Denot). CellStands C c.first.inside.0 x.site.value x.front) (sym c.split-grip.ensures.value) c.lock_noting.ensures.belongs) in
    let within : c.in-Exec.first < length C.owned = (subst (IsCall C) c.in-Exec.is c.requires.call).0 in
    let only : row ≡ own.front ∷ [] = c.put_on.ensures ∙ ap (λ (l : List FrontValue). l ++ own.front ∷ []) c.requires.none in
    let blocked = c.blocks-2.ensures.blocked c.if-not-blocks.false in
    let asks : asked call ≡ Some own.front.site = ap asked c.in-Exec.is ∙ ap Some (sym at) in
    let here : call ≡ Exec own.front.site c.in-Exec.e = c.in-Exec.is ∙ ap (λ i. Exec i c.in-Exec.e) (sym at) in
    let none : event_done call found ≡ None =
    subst (λ (x : Call). event_done x found ≡ None) (sym c.in-Exec.is) (spares_all c.in-Exec.first c.in-Exec.e found blocked.0) in
    let enough : AreEnough C T call (sites_of row) found =
    inr (record { site = own.front.site; asks = asks; alone = ap sites_of only; spares = none }) in
    let is : Found C call row found = subst (λ (l : List FrontValue). Found C call l found) (sym only)
    (asked_here C call [] own.front c.args.found.now found asks (blocked.1 ∙ ap (answer_after C own.front.front) (sym here))) in
    let spares : done_by call result ≡ None =
    spared C g.N.StoreName.first g.N.TurnName.capacity T c.args.pass.now after row c.commit-ended.new.fronts call found result c.self.invariant.0.named c.requires.call enough is none c.commit-ended.ensures in
    let back : CellStands C c.in-Exec.first own.site.value (seeing after.front own.front) =
    left_as_is C g.N.StoreName.first g.N.TurnName.capacity T c.in-Exec.first own.site.value own.front row c.args.fronts.now c.commit-ended.new.fronts c.args.pass.now after call result
    c.self.invariant.0.named within stands c.put_on.ensures c.commit-ended.ensures spares in
    let again : c.take_off-front.result ≡ seeing after.front own.front =
    (came_back row c.args.fronts.now c.commit-ended.new.fronts c.take_off-front.new.row own.front c.take_off-front.result after.front c.put_on.ensures c.commit-ended.ensures.returned.fronts
    c.take_off-front.ensures.rest).1 in
    let place : c.join-2.result.place ≡ c.in-Exec.first = c.join-2.ensures.place ∙ c.split-grip.ensures.place ∙ c.lock_noting.ensures.place ∙ c.first.view_is in
    subst (λ i. CellStands C i c.join-2.result.value.site.value c.join-2.result.value.front) (sym place)
    (subst (λ (x : Cell g.row.N.Denot). CellStands C c.in-Exec.first x.site.value x.front) (sym c.join-2.ensures.value)
    (subst (λ (f : FrontValue). CellStands C c.in-Exec.first own.site.value f) (sym again) back))
