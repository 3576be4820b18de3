use Rattle.std.proofs.Common.{◌≡◌, ◌≤◌, List, Some, None, length, inl, inr, sym, ap, subst, ◌∙◌}
use Rattle.std.specs.Prelude.{slice_get}
use Rattle.std.specs.Option.{is_some}
use Rattle.std.proofs.lemmas.Bool.{cases_lt, lt-ltb, false≢true}
use Rattle.std.proofs.lemmas.Option.{slice_get-get_or, slice_get_past}
use Rattle.dcr_wire.specs.declared.answer.Answer.{Answer}
use Rattle.dcr_node.specs.WorldState.{WorldState}
use Rattle.dcr_node.specs.WorldModel.{world_of}
use Rattle.dcr_node.specs.Machine.{with_journal, answer_delivered}
use Rattle.dcr_node.specs.Right.{IsRight}
use Rattle.dcr_node.specs.declared.event.CallEvent.TheVariants.{DeliverAnswer}
use Rattle.dcr_node.proofs.PartsLemmas.{called_right, journal_may_hear}
use Rattle.dcr_node.proofs.world.World.deliver_answer.Goals as goal

pub hear-requires : goal.hear-requires
hear-requires c =
    let w = world_of c.self.inside in
    let k = c.args.number in
    let a = c.in-Some.answer.now in
    let found = c.in-Some.ensures.lookup in
    let sent : slice_get w.answers k ≡ Some a =
    ap (λ (xs : List Answer). slice_get xs k) (sym c.deref.ensures.value) ∙ slice_get-get_or c.deref.result.now k a found.3.0 ∙ ap Some (sym found.1) in
    let right = c.self.invariant.2 in
    journal_may_hear c.self.invariant.0 c.self.invariant.1 c.self.inside.opening w right a (right.answers k a sent)

pub invariant_of-self : goal.invariant_of-self
invariant_of-self c =
    let w = world_of c.self.inside in
    let k = c.args.number in
    let a = c.in-Some.answer.now in
    let found = c.in-Some.ensures.lookup in
    let sent : slice_get w.answers k ≡ Some a =
    ap (λ (xs : List Answer). slice_get xs k) (sym c.deref.ensures.value) ∙ slice_get-get_or c.deref.result.now k a found.3.0 ∙ ap Some (sym found.1) in
    let next : with_journal w c.hear.new.self ≡ answer_delivered w (slice_get w.answers k) = ap (with_journal w) c.hear.ensures ∙ sym (ap (answer_delivered w) sent) in (
      c.self.invariant.0,
      c.self.invariant.1,
      called_right c.self.invariant.0 c.self.invariant.1 c.self.inside.opening w (with_journal w c.hear.new.self) (DeliverAnswer k) c.self.invariant.2 tt next,
    )

pub returns-in-Some-clause-happened : goal.returns-in-Some-clause-happened
returns-in-Some-clause-happened c = λ G C M right.
    let w = world_of c.self.inside in
    let k = c.args.number in
    let a = c.in-Some.answer.now in
    let found = c.in-Some.ensures.lookup in
    let sent : slice_get w.answers k ≡ Some a =
    ap (λ (xs : List Answer). slice_get xs k) (sym c.deref.ensures.value) ∙ slice_get-get_or c.deref.result.now k a found.3.0 ∙ ap Some (sym found.1) in
    ap (with_journal w) c.hear.ensures ∙ sym (ap (answer_delivered w) sent) ∙ ap (λ (v : WorldState). answer_delivered v (slice_get v.answers k)) c.self.view_is

pub returns-in-Some-clause-right : goal.returns-in-Some-clause-right
returns-in-Some-clause-right c = λ G C M right.
    let w = world_of c.self.inside in
    let k = c.args.number in
    let a = c.in-Some.answer.now in
    let found = c.in-Some.ensures.lookup in
    let sent : slice_get w.answers k ≡ Some a =
    ap (λ (xs : List Answer). slice_get xs k) (sym c.deref.ensures.value) ∙ slice_get-get_or c.deref.result.now k a found.3.0 ∙ ap Some (sym found.1) in
    let next : with_journal w c.hear.new.self ≡ answer_delivered w (slice_get w.answers k) = ap (with_journal w) c.hear.ensures ∙ sym (ap (answer_delivered w) sent) in
    called_right G C M w (with_journal w c.hear.new.self) (DeliverAnswer k) (subst (IsRight G C M) (sym c.self.view_is) right) tt next

pub returns-in_default-clause-happened : goal.returns-in_default-clause-happened
returns-in_default-clause-happened c = λ G C M right.
    let w = world_of c.self.inside in
    let k = c.args.number in
    let many = length c.deref.result.now in
    let past : many ≤ k = elim (cases_lt k many) [
      | inl below ↦ absurd (false≢true (sym (ap is_some c.in_default.is) ∙ c.get.ensures.lookup.0 ∙ lt-ltb k many below))
      | inr past ↦ past
    ] in
    let none : slice_get w.answers k ≡ None = ap (λ (xs : List Answer). slice_get xs k) (sym c.deref.ensures.value) ∙ slice_get_past c.deref.result.now k past in
    sym c.self.view_is ∙ sym (ap (answer_delivered w) none) ∙ ap (λ (v : WorldState). answer_delivered v (slice_get v.answers k)) c.self.view_is
