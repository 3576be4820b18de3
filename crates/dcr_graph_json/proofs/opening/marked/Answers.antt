use Rattle.std.proofs.Common.{◌≡◌, ℕ, ◌&&◌, Bool, ltb, length, get_or, map, ap, sym, ◌∙◌, arith, rules}
use Rattle.serde_json.specs.View.{view}
use Rattle.dcr_set.specs.EventSet.{with_event}
use Rattle.dcr_set.proofs.SetLemmas.{length-those}
use Rattle.dcr_set.proofs.ToldLemmas.{filled_more, filled_same, filled_all}
use Rattle.dcr_graph_json.specs.Build.{has_mark}
use Rattle.dcr_graph_json.specs.Written.{event_at}
use Rattle.dcr_graph_json.proofs.LoopLemmas.{value_at}
use Rattle.dcr_graph_json.proofs.opening.marked.Goals as goal
use Rattle.dcr_graph_json.proofs.opening.marked.Goals.{then-is_marked, else-is_marked}

pub insert-requires : goal.insert-requires
insert-requires c =
    let events = map view c.args.events.now in
    let room = ap (λ s. length s) c.loop-a.invariant ∙ length-those (length c.args.atoms.now) (λ k. has_mark c.args.mark (event_at events (get_or c.args.atoms.now k 0)) && ltb k c.loop-a.a) in
    omega arith

pub loop-a-preserved : goal.loop-a-preserved
loop-a-preserved c =
    let events = map view c.args.events.now in
    let q : ℕ → Bool = λ k. has_mark c.args.mark (event_at events (get_or c.args.atoms.now k 0)) in
    let place : c.from-in-loop-a.result ≡ get_or c.args.atoms.now c.loop-a.a 0 = c.from-in-loop-a.ensures ∙ ap (λ k. get_or c.args.atoms.now k 0) c.from.ensures in
    let read : q c.loop-a.a ≡ has_mark c.args.mark (view c.index-events-from.result) =
    ap (λ x. has_mark c.args.mark (event_at events x)) (sym place) ∙ ap (has_mark c.args.mark) (value_at c.args.events.now c.from-in-loop-a.result c.index-events-from.result (search rules) c.index-events-from.is) in
    elim c.if-is_marked.branch [
      | then-is_marked w ↦
          w.set-is ∙ w.insert.ensures.added ∙ ap (λ s. with_event s c.loop-a.a) c.loop-a.invariant
          ∙ filled_more (length c.args.atoms.now) c.loop-a.a q (read ∙ (sym c.is_marked.ensures ∙ w.if-is_marked.true))
      | else-is_marked w ↦ w.set-is ∙ c.loop-a.invariant ∙ filled_same (length c.args.atoms.now) c.loop-a.a q (read ∙ (sym c.is_marked.ensures ∙ w.if-is_marked.false))
    ]

pub returns : goal.returns
returns c =
    let events = map view c.args.events.now in
    c.loop-a.invariant
    ∙ filled_all (length c.args.atoms.now) c.loop-a.a (λ k. has_mark c.args.mark (event_at events (get_or c.args.atoms.now k 0))) c.loop-a-test.false
