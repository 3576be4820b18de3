use Rattle.std.proofs.Common.{◌≡◌, ℕ, ◌-◌, ◌<◌, List, [], length, get_or, take, vec_len, Some, inl, inr, refl, sym, ap, subst, ◌∙◌, arith}
use Rattle.std.specs.Prelude.{slice_get}
use Rattle.std.proofs.lemmas.Option.{slice_get_within, slice_get-get_or}
use Rattle.dcr_set.proofs.ListLemmas.{push_cases}
use Rattle.dcr_graph.specs.Rows.{row}
use Rattle.dcr_site.specs.Seen.{Seen, StandsAt}
use Rattle.dcr_turn.specs.FrontValue.{FrontValue}
use Rattle.dcr_cell.specs.CellStands.{CellStands}
use Rattle.dcr_cell.specs.ClusterId.{ClusterId, begun}
use Rattle.dcr_cluster.proofs.PoppingLemmas.{left_long, many_new, new_at, next_is, rest_is, turned}
use Rattle.dcr_cluster.proofs.prepare.cells_of.Goals as goal

pub loop-init : goal.loop-init
loop-init g c =
    let n = length c.args.sites.items in
    let sites = c.requires.stand.as_many in
    let fronts : length c.args.fronts.items ≡ n = ap (λ (l : List FrontValue). length l) c.requires.fronts ∙ many_new (length g.N.ClusterName.cluster.owned) ∙ sym c.requires.stand.as_many in
    record {
      stand = λ place cell is. absurd (
          let within = slice_get_within c.in_ok-cells.cells.items place cell is in
          let none = ap (λ l. length l) c.in_ok-cells.ensures.items in omega arith);
      sites = turned c.args.sites.items c.reverse.new.self.items n refl c.reverse.ensures.items;
      fronts = turned c.args.fronts.items c.reverse-2.new.self.items n fronts c.reverse-2.ensures.items;
      so_far = ap (λ l. length l) c.in_ok-cells.ensures.items;
    }

pub unreachable-requires-in_default-pop : goal.unreachable-requires-in_default-pop
unreachable-requires-in_default-pop g c =
    let n = length c.args.sites.items in
    let k = c.loop.counter in
    let sites = c.requires.stand.as_many in
    let fronts : length c.args.fronts.items ≡ n = ap (λ (l : List FrontValue). length l) c.requires.fronts ∙ many_new (length g.N.ClusterName.cluster.owned) ∙ sym c.requires.stand.as_many in
    let more : k < n = (let below = c.loop-test.true in let all = c.len-count.ensures in let same = c.args.sites.ok.0 in omega arith) in
    let long = left_long c.args.fronts.items c.loop.fronts.items n k fronts more c.loop.invariant.fronts in
    let there : 0 < vec_len c.loop.fronts = (let same = c.loop.fronts.ok.0 in omega arith) in
    c.in_default-pop.not-Some _ (c.pop-in-loop.ensures.value (record { site = 0; front = [] }) there)

pub loop-preserved : goal.loop-preserved
loop-preserved g c =
    let C : ClusterId = g.N.ClusterName.cluster in
    let n = length c.args.sites.items in
    let k = c.loop.counter in
    let sites = c.requires.stand.as_many in
    let fronts : length c.args.fronts.items ≡ n = ap (λ (l : List FrontValue). length l) c.requires.fronts ∙ many_new (length g.N.ClusterName.cluster.owned) ∙ sym c.requires.stand.as_many in
    let more : k < n = (let below = c.loop-test.true in let all = c.len-count.ensures in let same = c.args.sites.ok.0 in omega arith) in
    let site : Seen = c.in-Some.site in
    let front : FrontValue = c.in-Some-pop.front in
    let sites_left = left_long c.args.sites.items c.loop.sites.items n k refl more c.loop.invariant.sites in
    let fronts_left = left_long c.args.fronts.items c.loop.fronts.items n k fronts more c.loop.invariant.fronts in
    let site_there : 0 < vec_len c.loop.sites = (let same = c.loop.sites.ok.0 in omega arith) in
    let front_there : 0 < vec_len c.loop.fronts = (let same = c.loop.fronts.ok.0 in omega arith) in
    let site_is : get_or c.args.sites.items k site ≡ site = (
    let popped : Some site ≡ Some (get_or c.loop.sites.items (length c.loop.sites.items - 1) site) = sym c.in-Some.is ∙ c.pop.ensures.value site site_there ∙ ap (λ m. Some (get_or c.loop.sites.items (m - 1) site)) c.loop.sites.ok.0 in
    let same : site ≡ get_or c.loop.sites.items (length c.loop.sites.items - 1) site = cc in
    sym (next_is c.args.sites.items c.loop.sites.items n k refl more c.loop.invariant.sites site) ∙ sym same) in
    let front_is : get_or c.args.fronts.items k front ≡ front = (
    let popped : Some front ≡ Some (get_or c.loop.fronts.items (length c.loop.fronts.items - 1) front) = sym c.in-Some-pop.is ∙ c.pop-in-loop.ensures.value front front_there ∙ ap (λ m. Some (get_or c.loop.fronts.items (m - 1) front)) c.loop.fronts.ok.0 in
    let same : front ≡ get_or c.loop.fronts.items (length c.loop.fronts.items - 1) front = cc in
    sym (next_is c.args.fronts.items c.loop.fronts.items n k fronts more c.loop.invariant.fronts front) ∙ sym same) in
    let new_front : FrontValue = record { site = k; front = [] } in
    let front_new : front ≡ new_front = sym front_is ∙ ap (λ (l : List FrontValue). get_or l k front) c.requires.fronts ∙ new_at (length C.owned) k front (omega arith) in
    let stands : StandsAt C.rules (row C.owned k) (begun C) site = c.requires.stand.each k site (subst (λ (s : Seen). slice_get c.args.sites.items k ≡ Some s) site_is (slice_get-get_or c.args.sites.items k site more)) in
    let here : CellStands C k site front = subst (CellStands C k site) (sym front_new) (record { at = refl; stands = stands }) in
    let boxed : CellStands C k c.in_ok-site.site.value front = subst (λ (s : Seen). CellStands C k s front) (sym c.in_ok-site.ensures.ok) here in
    record {
      stand = λ place cell is.
          elim (push_cases c.loop.cells.items _ place cell (subst (λ l. slice_get l place ≡ Some cell) c.in_ok-push.ensures.items is)) [
            | inl last ↦ subst (λ (p : ℕ). CellStands C p cell.site.value cell.front) (sym (last.0 ∙ c.loop.invariant.so_far)) (subst (λ (x : _). CellStands C k x.site.value x.front) (sym last.1) boxed)
            | inr old ↦ c.loop.invariant.stand place cell old
          ];
      sites = rest_is c.args.sites.items c.loop.sites.items n k refl more c.loop.invariant.sites c.pop.new.self.items (c.pop.ensures.rest ∙ ap (λ m. take (m - 1) c.loop.sites.items) c.loop.sites.ok.0);
      fronts = rest_is c.args.fronts.items c.loop.fronts.items n k fronts more c.loop.invariant.fronts c.pop-in-loop.new.self.items (c.pop-in-loop.ensures.rest ∙ ap (λ m. take (m - 1) c.loop.fronts.items) c.loop.fronts.ok.0);
      so_far = (let a = c.in_ok-push.ensures.len in let b = c.push.new.self.ok.0 in let d = c.loop.cells.ok.0 in let e = c.loop.invariant.so_far in omega arith);
    }
