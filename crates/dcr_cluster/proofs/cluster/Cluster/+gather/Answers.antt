use Rattle.std.proofs.Common.{◌≡◌, inl, true, List, [], ◌∷◌, ◌++◌, length, map, ◌<◌, ◌+◌, sym, ap, ◌∙◌, subst, arith}
use Rattle.dcr_set.specs.EventSet.{has}
use Rattle.dcr_site.specs.Seen.{Seen, StandsAt}
use Rattle.dcr_turn.specs.FrontValue.{FrontValue}
use Rattle.dcr_cell.specs.Asking.{Found, sites_for, sites_of}
use Rattle.dcr_cell.specs.CellStands.{CellStands}
use Rattle.dcr_cell.specs.declared.cell.Cell.{Cell}
use Rattle.dcr_cell.proofs.CellLemmas.{cell_hears}
use Rattle.dcr_cluster.specs.Calls.{ending, seeing}
use Rattle.dcr_cluster.proofs.GatherLemmas.{all_asked, first_within, rest_within, first_there, still_left, comes_back, came_back, is_participant, left_as_is, stepped_on, made_without}
use Rattle.dcr_cluster.proofs.cluster.Cluster.+gather.Goals.{in-Some-done, in_default-done}
use Rattle.dcr_cluster.proofs.cluster.Cluster.+gather.Goals as goal

pub commit-ended-requires : goal.commit-ended-requires
commit-ended-requires g t c = record {
  call = c.requires.call;
  enough = inl (all_asked (sites_of c.args.fronts.now) c.args.left.now (sites_for g.N.ClusterName.cluster g.N.TurnName.turn c.args.call.now) c.in_default.ensures.cases c.requires.sites);
  found = c.requires.found;
}

pub ask-requires-clause-site : goal.ask-requires-clause-site
ask-requires-clause-site g t c =
    let at : c.split-grip.result.1.front.site ≡ c.in-Some.first.now =
    ap (λ (x : Cell g.row.N.Denot). x.front.site) c.split-grip.ensures.value ∙ c.lock_noting.ensures.belongs.at ∙ c.first.view_is in
    subst (λ i. i < length g.N.ClusterName.cluster.owned) (sym at)
    (first_within (length g.N.ClusterName.cluster.owned) c.in-Some.first.now c.args.left.now c.in-Some.rest.now c.requires.within c.in-Some.ensures.cases.0)

pub gather-requires : goal.gather-requires
gather-requires g t c κs within =
    let at : c.ask.new.self.front.site ≡ c.in-Some.first.now =
    ap (λ (x : Cell g.row.N.Denot). x.front.site) (c.ask.ensures.same ∙ c.split-grip.ensures.value) ∙ c.lock_noting.ensures.belongs.at ∙ c.first.view_is in
    let fewer : length c.in-Some.rest.now + 1 ≡ length c.args.left.now = c.in-Some.ensures.cases.1 in
    let measure : length c.args.left.now ≡ t = c.decreases in (
      (let lower : length c.in-Some.rest.now < t = omega arith in lower),
      (
        within.0,
        (
          within.1.0,
          (
            within.1.1.0,
            (
              within.1.1.1,
              (
                c.requires.call,
                (
                  still_left c.args.fronts.now c.put_on.new.row c.ask.new.self.front c.in-Some.first.now c.args.left.now c.in-Some.rest.now
                      (sites_for g.N.ClusterName.cluster g.N.TurnName.turn c.args.call.now) c.put_on.ensures at c.in-Some.ensures.cases.0 c.requires.sites,
                  (
                    rest_within (length g.N.ClusterName.cluster.owned) c.in-Some.first.now c.args.left.now c.in-Some.rest.now c.requires.within c.in-Some.ensures.cases.0,
                    subst (λ (fronts : List FrontValue). Found g.N.ClusterName.cluster c.args.call.now fronts c.ask.new.found) (sym c.put_on.ensures)
                        (subst (λ (x : Cell g.row.N.Denot). Found g.N.ClusterName.cluster c.args.call.now (c.args.fronts.now ++ x.front ∷ []) c.ask.new.found) (sym c.ask.ensures.same) (c.ask.ensures.found c.args.fronts.now c.requires.found)),
                  ),
                ),
              ),
            ),
          ),
        ),
      ),
    )

pub take_off-front-requires : goal.take_off-front-requires
take_off-front-requires g t c =
    let at : c.ask.new.self.front.site ≡ c.first.inside.0 =
    ap (λ (x : Cell g.row.N.Denot). x.front.site) (c.ask.ensures.same ∙ c.split-grip.ensures.value) ∙ c.lock_noting.ensures.belongs.at in (
      map (seeing c.gather.new.pass.front) c.args.fronts.now,
      comes_back c.put_on.new.row c.args.fronts.now c.gather.new.fronts c.ask.new.self.front c.first.inside.0 c.gather.new.pass.front c.put_on.ensures at
          c.gather.ensures.made.returned.fronts,
    )

pub apply-requires : goal.apply-requires
apply-requires g t c =
    let stands : CellStands g.N.ClusterName.cluster c.in-Some.first.now c.ask.new.self.site.value c.ask.new.self.front =
    subst (λ i. CellStands g.N.ClusterName.cluster i c.ask.new.self.site.value c.ask.new.self.front) c.first.view_is
    (subst (λ (x : Cell g.row.N.Denot). CellStands g.N.ClusterName.cluster c.first.inside.0 x.site.value x.front) (sym (c.ask.ensures.same ∙ c.split-grip.ensures.value)) c.lock_noting.ensures.belongs) in
    subst (λ (site : Seen). has site.projection.alphabet c.in-Some-done.e ≡ true) (sym c.deref_mut.ensures.value)
    (cell_hears g.N.ClusterName.cluster g.N.TurnName.turn c.in-Some.first.now c.ask.new.self.site.value c.ask.new.self.front c.in-Some-done.e c.self.invariant.0.named
    (first_within (length g.N.ClusterName.cluster.owned) c.in-Some.first.now c.args.left.now c.in-Some.rest.now c.requires.within c.in-Some.ensures.cases.0) stands
    (is_participant g.N.ClusterName.cluster g.N.TurnName.turn c.args.call.now (ending c.gather.new.found c.gather.new.ended.told) c.in-Some-done.e c.in-Some.first.now (sym c.gather.ensures.done ∙ c.in-Some-done.is)
    (first_there (sites_of c.args.fronts.now) c.args.left.now c.in-Some.rest.now (sites_for g.N.ClusterName.cluster g.N.TurnName.turn c.args.call.now) c.in-Some.first.now c.requires.sites c.in-Some.ensures.cases.0)))

pub unlock-requires : goal.unlock-requires
unlock-requires g t c =
    let stands : CellStands g.N.ClusterName.cluster c.in-Some.first.now c.ask.new.self.site.value c.ask.new.self.front =
    subst (λ i. CellStands g.N.ClusterName.cluster i c.ask.new.self.site.value c.ask.new.self.front) c.first.view_is
    (subst (λ (x : Cell g.row.N.Denot). CellStands g.N.ClusterName.cluster c.first.inside.0 x.site.value x.front) (sym (c.ask.ensures.same ∙ c.split-grip.ensures.value)) c.lock_noting.ensures.belongs) in
    let known : c.in-Some.first.now < length g.N.ClusterName.cluster.owned =
    first_within (length g.N.ClusterName.cluster.owned) c.in-Some.first.now c.args.left.now c.in-Some.rest.now c.requires.within c.in-Some.ensures.cases.0 in
    let again : c.take_off-front.result ≡ seeing c.gather.new.pass.front c.ask.new.self.front =
    (came_back c.put_on.new.row c.args.fronts.now c.gather.new.fronts c.take_off-front.new.row c.ask.new.self.front c.take_off-front.result c.gather.new.pass.front c.put_on.ensures
    c.gather.ensures.made.returned.fronts c.take_off-front.ensures.rest).1 in
    let back : CellStands g.N.ClusterName.cluster c.in-Some.first.now c.match-ended.site.value (seeing c.gather.new.pass.front c.ask.new.self.front) = elim c.match-ended.branch [
      | in-Some-done w ↦
          subst (λ (site : _). CellStands g.N.ClusterName.cluster c.in-Some.first.now site.value (seeing c.gather.new.pass.front c.ask.new.self.front)) (sym w.site-is)
          (stepped_on g.N.ClusterName.cluster g.N.StoreName.first g.N.TurnName.capacity g.N.TurnName.turn c.in-Some.first.now w.in-Some-done.e c.ask.new.self.site.value w.apply.new.self
          c.ask.new.self.front c.put_on.new.row c.args.fronts.now c.gather.new.fronts c.args.pass.now c.gather.new.pass c.args.call.now (ending c.gather.new.found c.gather.new.ended.told)
          c.self.invariant.0.named known stands c.put_on.ensures c.gather.ensures.made (sym c.gather.ensures.done ∙ w.in-Some-done.is)
          (λ G S M at. w.apply.ensures.stepped G S M (subst (StandsAt G S M) (sym w.deref_mut.ensures.value) at)))
      | in_default-done w ↦
          subst (λ (site : _). CellStands g.N.ClusterName.cluster c.in-Some.first.now site.value (seeing c.gather.new.pass.front c.ask.new.self.front)) (sym w.site-is)
          (left_as_is g.N.ClusterName.cluster g.N.StoreName.first g.N.TurnName.capacity g.N.TurnName.turn c.in-Some.first.now c.ask.new.self.site.value
          c.ask.new.self.front c.put_on.new.row c.args.fronts.now c.gather.new.fronts c.args.pass.now c.gather.new.pass c.args.call.now (ending c.gather.new.found c.gather.new.ended.told)
          c.self.invariant.0.named known stands c.put_on.ensures c.gather.ensures.made (sym c.gather.ensures.done ∙ w.in_default-done.is))
    ] in
    let place : c.join.result.place ≡ c.in-Some.first.now = c.join.ensures.place ∙ c.split-grip.ensures.place ∙ c.lock_noting.ensures.place ∙ c.first.view_is in
    subst (λ i. CellStands g.N.ClusterName.cluster i c.join.result.value.site.value c.join.result.value.front) (sym place)
    (subst (λ (x : Cell g.row.N.Denot). CellStands g.N.ClusterName.cluster c.in-Some.first.now x.site.value x.front) (sym c.join.ensures.value)
    (subst (λ (f : FrontValue). CellStands g.N.ClusterName.cluster c.in-Some.first.now c.match-ended.site.value f) (sym again) back))

pub returns-clause-made : goal.returns-clause-made
returns-clause-made g t c =
    made_without g.N.ClusterName.cluster g.N.StoreName.first g.N.TurnName.capacity g.N.TurnName.turn c.args.pass.now c.gather.new.pass c.put_on.new.row c.args.fronts.now
    c.gather.new.fronts c.take_off-front.new.row c.ask.new.self.front c.args.call.now (ending c.gather.new.found c.gather.new.ended.told) c.put_on.ensures
    (came_back c.put_on.new.row c.args.fronts.now c.gather.new.fronts c.take_off-front.new.row c.ask.new.self.front c.take_off-front.result c.gather.new.pass.front c.put_on.ensures
    c.gather.ensures.made.returned.fronts c.take_off-front.ensures.rest).0
    c.gather.ensures.made
