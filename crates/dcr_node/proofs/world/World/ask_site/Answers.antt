use Rattle.std.proofs.Common.{◌≡◌, ◌∷◌, ◌++◌, [], List, sym, ap, subst, ◌∙◌}
use Rattle.dcr_wire.specs.declared.question.Question.{Question}
use Rattle.dcr_node.specs.WorldState.{WorldState, IsCallEvent}
use Rattle.dcr_node.specs.WorldModel.{world_of}
use Rattle.dcr_node.specs.Machine.{calls}
use Rattle.dcr_node.specs.Right.{IsRight}
use Rattle.dcr_node.specs.declared.event.CallEvent.TheVariants.{AskSite}
use Rattle.dcr_node.proofs.PartsLemmas.{called_right}
use Rattle.dcr_node.proofs.world.World.ask_site.Goals as goal

pub invariant_of-self-2 : goal.invariant_of-self-2
invariant_of-self-2 c =
    let w = world_of c.self.inside in
    let event = AskSite c.args.site c.args.asked in
    let rules = c.self.invariant.0 in let owned = c.self.invariant.1 in let right = c.self.invariant.2 in
    let next : record w { questions = c.push.new.self.items } ≡ calls rules owned w event =
    ap (λ (qs : List Question). record w { questions = qs }) (c.in_ok-push.ensures.items ∙ ap (λ q. c.self.inside.questions.items ++ q ∷ []) c.question-question.ensures) in (
      rules,
      owned,
      called_right rules owned c.self.inside.opening w (record w { questions = c.push.new.self.items }) event right
          (subst (λ (v : WorldState). IsCallEvent v event) (sym c.self.view_is) c.requires) next,
    )

pub returns-clause-right : goal.returns-clause-right
returns-clause-right c = λ G C M right.
    let w = world_of c.self.inside in
    let event = AskSite c.args.site c.args.asked in
    let next : record w { questions = c.push.new.self.items } ≡ calls G C w event =
    ap (λ (qs : List Question). record w { questions = qs }) (c.in_ok-push.ensures.items ∙ ap (λ q. c.self.inside.questions.items ++ q ∷ []) c.question-question.ensures) in
    called_right G C M w (record w { questions = c.push.new.self.items }) event (subst (IsRight G C M) (sym c.self.view_is) right)
    (subst (λ (v : WorldState). IsCallEvent v event) (sym c.self.view_is) c.requires) next
