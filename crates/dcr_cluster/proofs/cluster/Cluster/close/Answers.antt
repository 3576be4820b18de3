use Rattle.std.proofs.Common.{◌≡◌, ℕ, ◌+◌, [], ◌∷◌, ◌++◌, length, sym, ap, subst, ◌∙◌, arith}
use Rattle.std.specs.List.{range_with_len}
use Rattle.dcr_graph.specs.Rows.{row}
use Rattle.dcr_graph.specs.declared.marking.SiteMark.{SiteMark}
use Rattle.dcr_site.specs.Seen.{Seen, StandsAt}
use Rattle.dcr_cell.specs.Asking.{sites_of}
use Rattle.dcr_cell.specs.CellStands.{CellStands}
use Rattle.dcr_cell.specs.ClusterId.{ClusterId, marking_after}
use Rattle.dcr_cell.specs.Stored.{StoreStands}
use Rattle.dcr_cell.proofs.RunLemmas.{calls_of_run}
use Rattle.dcr_cluster.proofs.ClosingLemmas.{gave_as, gave_more, marks_close, waits_close}
use Rattle.dcr_cluster.proofs.cluster.Cluster.close.Goals as goal

pub loop-preserved : goal.loop-preserved
loop-preserved g c =
    let C : ClusterId = g.N.ClusterName.cluster in
    let i = c.loop.counter in
    let fronts = c.loop.fronts.items in
    let site = c.take-site.result.site.value in
    let front = c.take-site.result.front in
    let here : CellStands C i site front = subst (λ (k : ℕ). CellStands C k site front) c.loop.invariant.emptied c.take-site.ensures.belongs in
    let M = marking_after C front.front in
    let waits = c.first_waiting.ensures C.rules (row C.owned i) M (subst (StandsAt C.rules (row C.owned i) M) (sym c.deref-in-loop.ensures) here.stands) in
    let more = gave_more C i fronts c.loop.marks.items c.loop.waits c.first_waiting.result site front c.loop.invariant.gave here waits in
    let fronts_now : c.push_reserved-in-loop.new.self.items ≡ fronts ++ front ∷ [] = c.push_reserved-in-loop.ensures.items in
    let marks_now : c.push_reserved.new.self.items ≡ c.loop.marks.items ++ site.mark ∷ [] = c.push_reserved.ensures.items ∙ ap (λ (m : SiteMark). c.loop.marks.items ++ m ∷ []) (c.mark.ensures ∙ ap (λ (s : Seen). s.mark) c.deref.ensures) in
    record {
      places = c.take-site.ensures.places ∙ c.loop.invariant.places;
      emptied = c.take-site.ensures.emptied ∙ ap (λ (k : ℕ). k + 1) c.loop.invariant.emptied;
      gave = gave_as C (i + 1) (fronts ++ front ∷ []) c.push_reserved-in-loop.new.self.items (c.loop.marks.items ++ site.mark ∷ []) c.push_reserved.new.self.items _ c.lesser-waits.result
          fronts_now marks_now c.lesser-waits.ensures more;
      fronts = omega (arith, c.push_reserved-in-loop.ensures.len, c.loop.invariant.fronts);
      marks = omega (arith, c.push_reserved.ensures.len, c.loop.invariant.marks);
      room = omega (arith, c.push_reserved-in-loop.ensures.capacity, c.loop.invariant.room);
      marks_room = omega (arith, c.push_reserved.ensures.capacity, c.loop.invariant.marks_room);
    }

pub returns : goal.returns
returns g c =
    let C : ClusterId = g.N.ClusterName.cluster in
    let T = g.N.TurnName.turn in
    let of = c.self.invariant.0 in
    let J = c.close-history.result.0.entries in
    let n = length C.owned in
    let count : c.loop.counter ≡ n = (
    let many : length c.self.inside.owned.items ≡ n = ap length of.owned_sets in
    let stop = c.loop-test.false in let all = c.len-end.ensures in let so_far = c.loop.invariant.fronts in omega arith) in
    let fronts = c.loop.fronts.items in
    let are : sites_of fronts ≡ range_with_len 0 n = c.loop.invariant.gave.sites ∙ ap (range_with_len 0) count in
    let stands = c.close-history.ensures.kept in
    let calls = calls_of_run C J stands.legal in
    record {
      opening = of.begins;
      capacity_kept = c.close-history.ensures.capacity;
      legal = stands.legal;
      made = c.close-history.ensures.passes;
      sessions = c.close-history.ensures.sessions;
      marks = c.new.ensures ∙ c.loop.invariant.gave.marked ∙ marks_close C T fronts J of.named are calls c.close-history.ensures.fronts;
      waits = c.loop.invariant.gave.waiting ∙ waits_close C T fronts J of.named are calls c.close-history.ensures.fronts;
      stored = subst (StoreStands g.D.Disk.view g.D.Disk.faults g.N.StoreName.first C.old J) (sym c.into_store.ensures) stands.stored;
    }
