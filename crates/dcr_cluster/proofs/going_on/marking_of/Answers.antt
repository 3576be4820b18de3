use Rattle.std.proofs.Common.{◌≡◌, ◌+◌, ◌<◌, ◌≤◌, List, [], length, refl, sym, ap, subst, ◌∙◌, arith}
use Rattle.std.proofs.lemmas.List.{get_or_read}
use Rattle.std.proofs.lemmas.Option.{slice_get_read}
use Rattle.dcr_set.specs.EventSet.{Set, intersection, no_event, union}
use Rattle.dcr_graph.specs.Projection.{HasRoom}
use Rattle.dcr_graph.specs.Rows.{row}
use Rattle.dcr_graph.specs.declared.marking.Marking.{Marking}
use Rattle.dcr_graph.specs.declared.marking.SiteMark.{SiteMark}
use Rattle.dcr_cell.specs.ClusterId.{ClusterId, begun}
use Rattle.dcr_cluster.proofs.OpeningLemmas.{Has, begun_room, executed_more, has_all, has_none, included_more, marks_room, pending_more}
use Rattle.dcr_cluster.proofs.going_on.marking_of.Goals as goal

pub loop-i-init : goal.loop-i-init
loop-i-init g c =
    let C : ClusterId = g.N.ClusterName.cluster in
    let empty : (none : Set) → none ≡ no_event c.args.atoms → none ≡ no_event C.rules.atoms = λ none is. is ∙ ap no_event c.requires.atoms in record {
      fits = record { executed = c.new-executed.ensures.room; pending = c.new-pending.ensures.room; included = c.new-included.ensures.room };
      executed = has_none C.rules.atoms C.owned (begun C).executed c.new-executed.result (empty c.new-executed.result c.new-executed.ensures.empty);
      pending = has_none C.rules.atoms C.owned (begun C).pending c.new-pending.result (empty c.new-pending.result c.new-pending.ensures.empty);
      included = has_none C.rules.atoms C.owned (begun C).included c.new-included.result (empty c.new-included.result c.new-included.ensures.empty);
    }

pub common-requires : goal.common-requires
common-requires g c =
    let C : ClusterId = g.N.ClusterName.cluster in let i = c.loop-i.i in
    let within : i < length C.owned = (let many = c.requires.stand.as_many in omega arith) in
    let at = c.requires.stand.each i c.index-sites-i.result (slice_get_read c.args.sites.now (length c.args.sites.now) i c.index-sites-i.result refl (omega arith) c.index-sites-i.is) in
    let own : c.index-owned-i.result ≡ row C.owned i = get_or_read c.args.owned.now i c.index-owned-i.result (let same = ap (λ (l : List Set). length l) c.requires.owned in omega arith) c.index-owned-i.is [] ∙ ap (λ (l : List Set). row l i) c.requires.owned in
    ap (λ (m : SiteMark). length m.executed) c.mark-mark.ensures ∙ (marks_room C.rules (row C.owned i) (begun C) c.index-sites-i.result at).executed
    ∙ sym (ap length own ∙ c.requires.named.rooms i [] within)

pub union_with-requires : goal.union_with-requires
union_with-requires g c =
    let C : ClusterId = g.N.ClusterName.cluster in let i = c.loop-i.i in
    let at = c.requires.stand.each i c.index-sites-i.result (slice_get_read c.args.sites.now (length c.args.sites.now) i c.index-sites-i.result refl (omega arith) c.index-sites-i.is) in
    c.loop-i.invariant.fits.executed ∙ c.requires.atoms
    ∙ sym (c.common.ensures.room ∙ ap (λ (m : SiteMark). length m.executed) c.mark-mark.ensures ∙ (marks_room C.rules (row C.owned i) (begun C) c.index-sites-i.result at).executed)

pub common-requires-in-loop-i : goal.common-requires-in-loop-i
common-requires-in-loop-i g c =
    let C : ClusterId = g.N.ClusterName.cluster in let i = c.loop-i.i in
    let within : i < length C.owned = (let many = c.requires.stand.as_many in omega arith) in
    let at = c.requires.stand.each i c.index-sites-i.result (slice_get_read c.args.sites.now (length c.args.sites.now) i c.index-sites-i.result refl (omega arith) c.index-sites-i.is) in
    let own : c.index-owned-i.result ≡ row C.owned i = get_or_read c.args.owned.now i c.index-owned-i.result (let same = ap (λ (l : List Set). length l) c.requires.owned in omega arith) c.index-owned-i.is [] ∙ ap (λ (l : List Set). row l i) c.requires.owned in
    ap (λ (m : SiteMark). length m.pending) c.mark-mark.ensures ∙ (marks_room C.rules (row C.owned i) (begun C) c.index-sites-i.result at).pending
    ∙ sym (ap length own ∙ c.requires.named.rooms i [] within)

pub union_with-requires-in-loop-i : goal.union_with-requires-in-loop-i
union_with-requires-in-loop-i g c =
    let C : ClusterId = g.N.ClusterName.cluster in let i = c.loop-i.i in
    let at = c.requires.stand.each i c.index-sites-i.result (slice_get_read c.args.sites.now (length c.args.sites.now) i c.index-sites-i.result refl (omega arith) c.index-sites-i.is) in
    c.loop-i.invariant.fits.pending ∙ c.requires.atoms
    ∙ sym (c.common-in-loop-i.ensures.room ∙ ap (λ (m : SiteMark). length m.pending) c.mark-mark.ensures ∙ (marks_room C.rules (row C.owned i) (begun C) c.index-sites-i.result at).pending)

pub common-requires-in-loop-i-2 : goal.common-requires-in-loop-i-2
common-requires-in-loop-i-2 g c =
    let C : ClusterId = g.N.ClusterName.cluster in let i = c.loop-i.i in
    let within : i < length C.owned = (let many = c.requires.stand.as_many in omega arith) in
    let at = c.requires.stand.each i c.index-sites-i.result (slice_get_read c.args.sites.now (length c.args.sites.now) i c.index-sites-i.result refl (omega arith) c.index-sites-i.is) in
    let own : c.index-owned-i.result ≡ row C.owned i = get_or_read c.args.owned.now i c.index-owned-i.result (let same = ap (λ (l : List Set). length l) c.requires.owned in omega arith) c.index-owned-i.is [] ∙ ap (λ (l : List Set). row l i) c.requires.owned in
    ap (λ (m : SiteMark). length m.included) c.mark-mark.ensures ∙ (marks_room C.rules (row C.owned i) (begun C) c.index-sites-i.result at).included
    ∙ sym (ap length own ∙ c.requires.named.rooms i [] within)

pub union_with-requires-in-loop-i-2 : goal.union_with-requires-in-loop-i-2
union_with-requires-in-loop-i-2 g c =
    let C : ClusterId = g.N.ClusterName.cluster in let i = c.loop-i.i in
    let at = c.requires.stand.each i c.index-sites-i.result (slice_get_read c.args.sites.now (length c.args.sites.now) i c.index-sites-i.result refl (omega arith) c.index-sites-i.is) in
    c.loop-i.invariant.fits.included ∙ c.requires.atoms
    ∙ sym (c.common-in-loop-i-2.ensures.room ∙ ap (λ (m : SiteMark). length m.included) c.mark-mark.ensures ∙ (marks_room C.rules (row C.owned i) (begun C) c.index-sites-i.result at).included)

pub loop-i-preserved : goal.loop-i-preserved
loop-i-preserved g c =
    let C : ClusterId = g.N.ClusterName.cluster in let i = c.loop-i.i in
    let M = begun C in
    let site = c.index-sites-i.result in
    let own = c.index-owned-i.result in
    let within : i < length C.owned = (let many = c.requires.stand.as_many in omega arith) in
    let at = c.requires.stand.each i site (slice_get_read c.args.sites.now (length c.args.sites.now) i site refl (omega arith) c.index-sites-i.is) in
    let owns : own ≡ row C.owned i = get_or_read c.args.owned.now i own (let same = ap (λ (l : List Set). length l) c.requires.owned in omega arith) c.index-owned-i.is [] ∙ ap (λ (l : List Set). row l i) c.requires.owned in
    let marked : c.mark-mark.result ≡ site.mark = c.mark-mark.ensures in
    let executed : c.union_with.new.self ≡ union c.loop-i.executed (intersection site.mark.executed own) =
    c.union_with.ensures.joined ∙ ap (union c.loop-i.executed) (c.common.ensures.common ∙ ap (λ (m : SiteMark). intersection m.executed own) marked) in
    let pending : c.union_with-in-loop-i.new.self ≡ union c.loop-i.pending (intersection site.mark.pending own) =
    c.union_with-in-loop-i.ensures.joined ∙ ap (union c.loop-i.pending) (c.common-in-loop-i.ensures.common ∙ ap (λ (m : SiteMark). intersection m.pending own) marked) in
    let included : c.union_with-in-loop-i-2.new.self ≡ union c.loop-i.included (intersection site.mark.included own) =
    c.union_with-in-loop-i-2.ensures.joined ∙ ap (union c.loop-i.included) (c.common-in-loop-i-2.ensures.common ∙ ap (λ (m : SiteMark). intersection m.included own) marked) in
    record {
      fits = record {
        executed = c.union_with.ensures.room ∙ c.loop-i.invariant.fits.executed;
        pending = c.union_with-in-loop-i.ensures.room ∙ c.loop-i.invariant.fits.pending;
        included = c.union_with-in-loop-i-2.ensures.room ∙ c.loop-i.invariant.fits.included;
      };
      executed = subst (Has C.rules.atoms C.owned (i + 1) M.executed) (sym executed)
          (executed_more C.rules C.owned M i site own within owns at c.loop-i.executed (c.loop-i.invariant.fits.executed ∙ c.requires.atoms) c.loop-i.invariant.executed);
      pending = subst (Has C.rules.atoms C.owned (i + 1) M.pending) (sym pending)
          (pending_more C.rules C.owned M i site own within owns at c.loop-i.pending (c.loop-i.invariant.fits.pending ∙ c.requires.atoms) c.loop-i.invariant.pending);
      included = subst (Has C.rules.atoms C.owned (i + 1) M.included) (sym included)
          (included_more C.rules C.owned M i site own within owns at c.loop-i.included (c.loop-i.invariant.fits.included ∙ c.requires.atoms) c.loop-i.invariant.included);
    }

pub returns : goal.returns
returns g c =
    let C : ClusterId = g.N.ClusterName.cluster in
    let M = begun C in
    let n = C.rules.atoms in
    let room : HasRoom n M = begun_room C g.N.TurnName.turn c.requires.named in
    let all : length C.owned ≤ c.loop-i.i = (let many = c.requires.stand.as_many in omega arith) in
    let fits = c.loop-i.invariant.fits in
    let executed : c.loop-i.executed ≡ M.executed = has_all n C.owned c.loop-i.i M.executed c.loop-i.executed all c.requires.named.covered room.executed (fits.executed ∙ c.requires.atoms) c.loop-i.invariant.executed in
    let pending : c.loop-i.pending ≡ M.pending = has_all n C.owned c.loop-i.i M.pending c.loop-i.pending all c.requires.named.covered room.pending (fits.pending ∙ c.requires.atoms) c.loop-i.invariant.pending in
    let included : c.loop-i.included ≡ M.included = has_all n C.owned c.loop-i.i M.included c.loop-i.included all c.requires.named.covered room.included (fits.included ∙ c.requires.atoms) c.loop-i.invariant.included in
    same_marking c.loop-i.executed c.loop-i.pending c.loop-i.included M executed pending included
  where
    same_marking : (e p n : Set) (M : Marking) → e ≡ M.executed → p ≡ M.pending → n ≡ M.included → record { executed = e; pending = p; included = n } ≡ M
    same_marking e p n M es ps ns =
        ap (λ (x : Set). record { executed = x; pending = p; included = n }) es
        ∙ ap (λ (x : Set). record { executed = M.executed; pending = x; included = n }) ps
        ∙ ap (λ (x : Set). record { executed = M.executed; pending = M.pending; included = x }) ns
