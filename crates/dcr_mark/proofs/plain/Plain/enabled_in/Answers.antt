use Rattle.std.proofs.Common.{◌≡◌, ◌<◌, true, not, ◌&&◌, ◌∷◌, length, sym, ap, subst, ◌∙◌}
use Rattle.std.specs.List.{All, range_with_len}
use Rattle.std.specs.Option.{is_none}
use Rattle.std.proofs.lemmas.Bool.{and_parts}
use Rattle.std.proofs.lemmas.List.Elements.{All-same, All-rest, All-head, filter_passes}
use Rattle.dcr_set.specs.EventSet.{Set, has, no_event, numbers}
use Rattle.dcr_set.proofs.NumbersLemmas.{numbers-below}
use Rattle.dcr_graph.specs.GraphValue.{rules_of}
use Rattle.dcr_graph.specs.Cause.{cause, is_enabled_in}
use Rattle.dcr_graph.proofs.BoolLemmas.{and_false}
use Rattle.dcr_graph.proofs.GatheredLemmas.{Gathers, gathers_none, gathers_more, gathers_same, gathers_all}
use Rattle.dcr_mark.proofs.plain.Plain.enabled_in.Goals as goal

-- the numbers of a set are in it
numbers_member : (s : Set) → All (λ k. has s k ≡ true) (numbers s)
unfolding numbers
numbers_member s = filter_passes (has s) (range_with_len 0 (length s))

pub loop-e-init : goal.loop-e-init
loop-e-init c =
    let at = c.args.self.now in let n = length at.graph.names in let events = c.args.events.now in let G = rules_of at.graph in
    let all = c.into_iter-e-iterator.ensures.into_iter_gives ∙ c.iter-e-items.ensures in
    let atoms = c.atoms.ensures.atoms ∙ ap (λ s. length s.graph.names) c.self.view_is in
    record {
      room = c.new-enabled.ensures.room ∙ atoms;
      members = All-same (λ e. has events e ≡ true) c.into_iter-e-iterator.result (numbers events) all (numbers_member events);
      atoms = subst (λ m. All (λ e. e < m) c.into_iter-e-iterator.result) c.requires
          (All-same (λ e. e < length events) c.into_iter-e-iterator.result (numbers events) all (numbers-below events));
      enabled = subst (λ s. Gathers n (is_enabled_in G events at.marking) s c.into_iter-e-iterator.result) (sym (c.new-enabled.ensures.empty ∙ ap no_event atoms))
          (gathers_none n (is_enabled_in G events at.marking) events c.into_iter-e-iterator.result all (λ k passes.
          (and_parts (has events k) (is_none (cause G at.marking k)) passes).0));
    }

pub loop-e-preserved-then-is_none : goal.loop-e-preserved-then-is_none
loop-e-preserved-then-is_none c =
    let at = c.args.self.now in let n = length at.graph.names in let events = c.args.events.now in let G = rules_of at.graph in
    let before = c.loop-e.invariant in let e = c.in-Some.e in let p = is_enabled_in G events at.marking in
    let member : has events e ≡ true =
    All-head (λ k. has events k ≡ true) e c.next.new.self (All-same (λ k. has events k ≡ true) (e ∷ c.next.new.self) c.loop-e.e-iterator (sym c.in-Some.ensures.steps) before.members) in
    let free : is_none (cause G at.marking e) ≡ true = ap is_none (sym c.why.ensures) ∙ ap not (c.is_none.ensures ∙ ap not c.if-is_none.true) in
    record {
      room = c.insert.ensures.room ∙ before.room;
      members = All-rest (λ k. has events k ≡ true) e c.next.new.self c.loop-e.e-iterator c.in-Some.ensures.steps before.members;
      atoms = All-rest (λ k. k < n) e c.next.new.self c.loop-e.e-iterator c.in-Some.ensures.steps before.atoms;
      enabled = subst (λ s. Gathers n p s c.next.new.self) (sym c.insert.ensures.added)
          (gathers_more n p c.loop-e.enabled e c.next.new.self c.loop-e.e-iterator before.room c.in-Some.ensures.steps
          (ap (λ b. b && is_none (cause G at.marking e)) member ∙ free) before.enabled);
    }

pub loop-e-preserved : goal.loop-e-preserved
loop-e-preserved c =
    let at = c.args.self.now in let n = length at.graph.names in let events = c.args.events.now in let G = rules_of at.graph in
    let before = c.loop-e.invariant in let e = c.in-Some.e in let p = is_enabled_in G events at.marking in
    record {
      room = before.room;
      members = All-rest (λ k. has events k ≡ true) e c.next.new.self c.loop-e.e-iterator c.in-Some.ensures.steps before.members;
      atoms = All-rest (λ k. k < n) e c.next.new.self c.loop-e.e-iterator c.in-Some.ensures.steps before.atoms;
      enabled = gathers_same n p c.loop-e.enabled e c.next.new.self c.loop-e.e-iterator c.in-Some.ensures.steps
          (ap (λ b. has events e && b) (ap is_none (sym c.why.ensures) ∙ ap not (c.is_none.ensures ∙ ap not c.if-is_none.false)) ∙ and_false (has events e)) before.enabled;
    }

pub returns-clause-enabled : goal.returns-clause-enabled
returns-clause-enabled c =
    let at = c.args.self.now in
    gathers_all (length at.graph.names) (is_enabled_in (rules_of at.graph) c.args.events.now at.marking) c.loop-e.enabled c.loop-e.e-iterator
    c.loop-e.invariant.room c.in-None.ensures.steps.0 c.loop-e.invariant.enabled
