use Rattle.std.proofs.Common.{◌≡◌, ◌<◌, List, length, map, ap, sym, ◌∙◌, arith}
use Rattle.std.proofs.lemmas.List.Elements.{All-same, All-map}
use Rattle.dcr_graph.specs.Pairs.{Pair}
use Rattle.dcr_graph.specs.Rows.{row, leads}
use Rattle.dcr_set.specs.EventSet.{Set}
use Rattle.dcr_nest.specs.FlatRelation.{related_rows, is_related}
use Rattle.dcr_nest.specs.Tree.{atoms}
use Rattle.dcr_nest.proofs.FlatLemmas.{length-related, room-related, leads-related, related-turned}
use Rattle.dcr_nest.proofs.MarkLemmas.{map_grown}
use Rattle.dcr_nest.proofs.flatten.tables.Goals as goal
use Rattle.dcr_nest.proofs.flatten.tables.Goals.{In_ok-sources}

pub rows-requires-in-loop-kind-clause-ends : goal.rows-requires-in-loop-kind-clause-ends
rows-requires-in-loop-kind-clause-ends c =
    let n = length c.args.tree.now in
    let InRange : Pair → Type 0 = λ pair. (pair.1 < n) × (pair.2 < n) in
    All-same InRange c.deref-in-loop-kind-2.result.now (map (λ (pair : Pair). (pair.0, pair.2, pair.1)) c.args.relations.now)
    (c.deref-in-loop-kind-2.ensures.value ∙ c.in_ok-turned.ensures)
    (All-map InRange (λ (pair : Pair). (pair.0, pair.2, pair.1)) c.args.relations.now (λ k d within. let h = c.requires k d within in (h.1, h.0)))

many : (c : In_ok-sources) → length c.in_ok-targets.targets.items ≡ length (atoms c.args.tree.now)
many c = ap (λ (rows : List Set). length rows) c.in_ok-targets.ensures.related ∙ length-related c.args.tree.now c.args.relations.now c.loop-kind.kind

pub of_rows-requires-clause-most : goal.of_rows-requires-clause-most
of_rows-requires-clause-most c =
    let many = many (goal.at.of_rows-requires-clause-most c).In_ok-sources in
    let most = c.in_ok-targets.ensures.most in
    let len = c.in_ok-targets.targets.ok.0 in
    omega arith

pub of_rows-requires-clause-rooms : goal.of_rows-requires-clause-rooms
of_rows-requires-clause-rooms c = λ a within.
    let many = many (goal.at.of_rows-requires-clause-rooms c).In_ok-sources in
    let len = c.in_ok-targets.targets.ok.0 in
    ap (λ (rows : List Set). length (row rows a)) c.in_ok-targets.ensures.related
    ∙ room-related c.args.tree.now c.args.relations.now c.loop-kind.kind a (omega arith) ∙ sym many ∙ sym len

pub of_rows-requires-clause-rooms_back : goal.of_rows-requires-clause-rooms_back
of_rows-requires-clause-rooms_back c = λ b within.
    let many = many (goal.at.of_rows-requires-clause-rooms_back c).In_ok-sources in
    let len = c.in_ok-targets.targets.ok.0 in
    ap (λ (rows : List Set). length (row rows b)) c.in_ok-sources.ensures.related
    ∙ room-related c.args.tree.now c.deref-in-loop-kind-2.result.now c.loop-kind.kind b (omega arith) ∙ sym many ∙ sym len

pub of_rows-requires-clause-turned : goal.of_rows-requires-clause-turned
of_rows-requires-clause-turned c = λ a b.
    ap (λ (rows : List Set). leads rows b a) c.in_ok-sources.ensures.related
    ∙ leads-related c.args.tree.now c.deref-in-loop-kind-2.result.now c.loop-kind.kind b a
    ∙ ap (λ relations. is_related c.args.tree.now relations c.loop-kind.kind b a) (c.deref-in-loop-kind-2.ensures.value ∙ c.in_ok-turned.ensures)
    ∙ related-turned c.args.tree.now c.args.relations.now c.loop-kind.kind a b
    ∙ sym (ap (λ (rows : List Set). leads rows a b) c.in_ok-targets.ensures.related ∙ leads-related c.args.tree.now c.args.relations.now c.loop-kind.kind a b)

pub loop-kind-preserved : goal.loop-kind-preserved
loop-kind-preserved c =
    map_grown (related_rows c.args.tree.now c.args.relations.now) c.loop-kind.kind c.loop-kind.tables.items c.push.new.self.items c.of_rows.result
    c.loop-kind.invariant (c.of_rows.ensures ∙ c.in_ok-targets.ensures.related) c.in_ok-push.ensures.items
