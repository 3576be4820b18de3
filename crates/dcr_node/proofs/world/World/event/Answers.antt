use Rattle.std.proofs.Common.{◌≡◌, ◌∷◌, ◌++◌, [], List, Option, Some, None, sym, ap, subst, ◌∙◌}
use Rattle.std.specs.Vec.{with_items}
use Rattle.std.proofs.lemmas.List.{with_items_is}
use Rattle.dcr_set.specs.EventSet.{Set}
use Rattle.dcr_graph.specs.Rules.{Rules}
use Rattle.dcr_graph.specs.declared.marking.Marking.{Marking}
use Rattle.dcr_wire.specs.declared.message.Message.{Message}
use Rattle.dcr_node.specs.WorldState.{WorldState, IsEvent, IsKept}
use Rattle.dcr_node.specs.WorldModel.{world_of}
use Rattle.dcr_node.specs.Machine.{sending, happens}
use Rattle.dcr_node.specs.Parts.{world_with}
use Rattle.dcr_node.specs.Right.{IsRight}
use Rattle.dcr_node.proofs.RightLemmas.{right_next}
use Rattle.dcr_node.proofs.KeptLemmas.{happens_keeps}
use Rattle.dcr_node.proofs.PartsLemmas.{parts_happened}
use Rattle.dcr_node.proofs.world.World.event.Goals as goal
use Rattle.dcr_node.proofs.world.World.event.Goals.{After-act, After-push_reserved}

-- the event is one
is_event : (c : After-act) → IsEvent (world_of c.self.inside) c.args.event
is_event c = subst (λ (w : WorldState). IsEvent w c.args.event) (sym c.self.view_is) c.requires

-- the sites that are there then
sites : (c : After-act) → (with_items c.self.inside.sites c.act.new.sites).items ≡ c.act.new.sites
sites c = with_items_is c.self.inside.sites c.act.new.sites (c.act.auto.sites ∙ c.deref_mut.ensures.len)

-- the next world of the machine is that of these parts
made : (c : After-act) (G : Rules) (C : List Set) (M : Marking) → IsRight G C M (world_of c.self.inside)
    → sending (world_with c.self.inside.opening c.act.new.journal c.act.new.sites c.self.inside.sent.items c.self.inside.questions.items c.self.inside.answers.items) c.act.result ≡ happens G C (world_of c.self.inside) c.args.event
made c G C M right =
    parts_happened G C M (world_of c.self.inside) right c.args.event c.deref_mut.result.now c.act.new.sites c.deref.result.now c.act.new.journal c.act.result
    c.deref_mut.ensures.value (c.deref.ensures.value ∙ c.reserve.ensures.items) c.act.ensures

-- the world with these messages is the machine's
is_next : (c : After-act) (G : Rules) (C : List Set) (M : Marking) → IsRight G C M (world_of c.self.inside) → (messages : List Message) (answer : Option Message) → c.act.result ≡ answer
    → (sending (world_with c.self.inside.opening c.act.new.journal c.act.new.sites c.self.inside.sent.items c.self.inside.questions.items c.self.inside.answers.items) answer).sent ≡ messages
    → world_with c.self.inside.opening c.act.new.journal (with_items c.self.inside.sites c.act.new.sites).items messages c.self.inside.questions.items c.self.inside.answers.items ≡ happens G C (world_of c.self.inside) c.args.event
is_next c G C M right messages answer is same =
    ap (λ s. world_with c.self.inside.opening c.act.new.journal s messages c.self.inside.questions.items c.self.inside.answers.items) (sites c)
    ∙ by_answer answer same
    ∙ ap (sending (world_with c.self.inside.opening c.act.new.journal c.act.new.sites c.self.inside.sent.items c.self.inside.questions.items c.self.inside.answers.items)) (sym is)
    ∙ made c G C M right
  where
    by_answer : (o : Option Message) → (sending (world_with c.self.inside.opening c.act.new.journal c.act.new.sites c.self.inside.sent.items c.self.inside.questions.items c.self.inside.answers.items) o).sent ≡ messages
        → world_with c.self.inside.opening c.act.new.journal c.act.new.sites messages c.self.inside.questions.items c.self.inside.answers.items
        ≡ sending (world_with c.self.inside.opening c.act.new.journal c.act.new.sites c.self.inside.sent.items c.self.inside.questions.items c.self.inside.answers.items) o
    by_answer None sent = ap (λ s. world_with c.self.inside.opening c.act.new.journal c.act.new.sites s c.self.inside.questions.items c.self.inside.answers.items) (sym sent)
    by_answer (Some m) sent = ap (λ s. world_with c.self.inside.opening c.act.new.journal c.act.new.sites s c.self.inside.questions.items c.self.inside.answers.items) (sym sent)

-- where a message was sent
sent_one : (c : After-push_reserved) → c.self.inside.sent.items ++ c.in-Some.message ∷ [] ≡ c.push_reserved.new.self.items
sent_one c =
    sym (c.push_reserved.ensures.items
    ∙ ap (λ xs. xs ++ c.of.result ∷ []) c.reserve.ensures.items
    ∙ ap (λ m. c.self.inside.sent.items ++ m ∷ []) c.of.ensures)

pub invariant_of-self-in-Some : goal.invariant_of-self-in-Some
invariant_of-self-in-Some c =
    let b = (goal.at.invariant_of-self-in-Some c).After-act in
    let rules = c.self.invariant.0 in let owned = c.self.invariant.1 in let right = c.self.invariant.2 in (
      rules,
      owned,
      subst (IsRight rules owned c.self.inside.opening)
          (sym (is_next b rules owned c.self.inside.opening right c.push_reserved.new.self.items (Some c.in-Some.message) c.in-Some.is (sent_one c)))
          (right_next rules owned c.self.inside.opening (world_of c.self.inside) right c.args.event (is_event b)),
    )

pub invariant_of-self-in_default : goal.invariant_of-self-in_default
invariant_of-self-in_default c =
    let b = (goal.at.invariant_of-self-in_default c).After-act in
    let rules = c.self.invariant.0 in let owned = c.self.invariant.1 in let right = c.self.invariant.2 in (
      rules,
      owned,
      subst (IsRight rules owned c.self.inside.opening)
          (sym (is_next b rules owned c.self.inside.opening right c.reserve.new.self.items None c.in_default.is (sym c.reserve.ensures.items)))
          (right_next rules owned c.self.inside.opening (world_of c.self.inside) right c.args.event (is_event b)),
    )

-- the world before, by its parts
was_right : (c : After-act) (G : Rules) (C : List Set) (M : Marking) → IsRight G C M c.args.self.now → IsRight G C M (world_of c.self.inside)
was_right c G C M right = subst (IsRight G C M) (sym c.self.view_is) right

pub returns-in-Some-clause-right : goal.returns-in-Some-clause-right
returns-in-Some-clause-right c = λ G C M right.
    let b = (goal.at.returns-in-Some-clause-right c).After-act in
    let was = was_right b G C M right in
    subst (IsRight G C M) (sym (is_next b G C M was c.push_reserved.new.self.items (Some c.in-Some.message) c.in-Some.is (sent_one c)))
    (right_next G C M (world_of c.self.inside) was c.args.event (is_event b))

pub returns-in-Some-clause-happened : goal.returns-in-Some-clause-happened
returns-in-Some-clause-happened c = λ G C M right.
    let b = (goal.at.returns-in-Some-clause-happened c).After-act in
    is_next b G C M (was_right b G C M right) c.push_reserved.new.self.items (Some c.in-Some.message) c.in-Some.is (sent_one c)
    ∙ ap (λ w. happens G C w c.args.event) c.self.view_is

pub returns-in-Some-clause-kept : goal.returns-in-Some-clause-kept
returns-in-Some-clause-kept c =
    let b = (goal.at.returns-in-Some-clause-kept c).After-act in
    let rules = c.self.invariant.0 in let owned = c.self.invariant.1 in let right = c.self.invariant.2 in
    subst (λ w. IsKept w (world_with c.self.inside.opening c.act.new.journal (with_items c.self.inside.sites c.act.new.sites).items c.push_reserved.new.self.items c.self.inside.questions.items c.self.inside.answers.items)) c.self.view_is
    (subst (IsKept (world_of c.self.inside))
    (sym (is_next b rules owned c.self.inside.opening right c.push_reserved.new.self.items (Some c.in-Some.message) c.in-Some.is (sent_one c)))
    (happens_keeps rules owned (world_of c.self.inside) c.args.event))

pub returns-in_default-clause-right : goal.returns-in_default-clause-right
returns-in_default-clause-right c = λ G C M right.
    let b = (goal.at.returns-in_default-clause-right c).After-act in
    let was = was_right b G C M right in
    subst (IsRight G C M) (sym (is_next b G C M was c.reserve.new.self.items None c.in_default.is (sym c.reserve.ensures.items)))
    (right_next G C M (world_of c.self.inside) was c.args.event (is_event b))

pub returns-in_default-clause-happened : goal.returns-in_default-clause-happened
returns-in_default-clause-happened c = λ G C M right.
    let b = (goal.at.returns-in_default-clause-happened c).After-act in
    is_next b G C M (was_right b G C M right) c.reserve.new.self.items None c.in_default.is (sym c.reserve.ensures.items)
    ∙ ap (λ w. happens G C w c.args.event) c.self.view_is

pub returns-in_default-clause-kept : goal.returns-in_default-clause-kept
returns-in_default-clause-kept c =
    let b = (goal.at.returns-in_default-clause-kept c).After-act in
    let rules = c.self.invariant.0 in let owned = c.self.invariant.1 in let right = c.self.invariant.2 in
    subst (λ w. IsKept w (world_with c.self.inside.opening c.act.new.journal (with_items c.self.inside.sites c.act.new.sites).items c.reserve.new.self.items c.self.inside.questions.items c.self.inside.answers.items)) c.self.view_is
    (subst (IsKept (world_of c.self.inside))
    (sym (is_next b rules owned c.self.inside.opening right c.reserve.new.self.items None c.in_default.is (sym c.reserve.ensures.items)))
    (happens_keeps rules owned (world_of c.self.inside) c.args.event))
