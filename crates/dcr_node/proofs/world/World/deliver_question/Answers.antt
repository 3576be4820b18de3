use Rattle.std.proofs.Common.{◌≡◌, ◌<◌, List, Some, length, sym, ap, subst, ◌∙◌, arith}
use Rattle.std.specs.Prelude.{slice_get}
use Rattle.std.proofs.lemmas.Option.{slice_get-get_or}
use Rattle.dcr_set.specs.EventSet.{Set}
use Rattle.dcr_graph.specs.Rules.{Rules}
use Rattle.dcr_graph.specs.declared.marking.Marking.{Marking}
use Rattle.dcr_site.specs.Seen.{StandsAt}
use Rattle.dcr_wire.specs.declared.answer.Answer.{Answer}
use Rattle.dcr_wire.specs.declared.question.Question.{Question}
use Rattle.dcr_node.specs.SiteState.{SiteState, answered}
use Rattle.dcr_node.specs.WorldState.{WorldState}
use Rattle.dcr_node.specs.WorldModel.{world_of}
use Rattle.dcr_node.specs.Machine.{answering, calls}
use Rattle.dcr_node.specs.Right.{IsRight}
use Rattle.dcr_node.specs.declared.event.CallEvent.TheVariants.{DeliverQuestion}
use Rattle.dcr_node.proofs.PartsLemmas.{called_right, question_is, question_site}
use Rattle.dcr_node.proofs.world.World.deliver_question.Goals as goal

pub asked_site-requires : goal.asked_site-requires
asked_site-requires c =
    let w = world_of c.self.inside in
    let k = c.args.number in
    let q = c.in-Some.question.now in
    let found = c.in-Some.ensures.lookup in
    let sent : slice_get w.questions k ≡ Some q =
    ap (λ (xs : List Question). slice_get xs k) (sym c.deref.ensures.value) ∙ slice_get-get_or c.deref.result.now k q found.3.0 ∙ ap Some (sym found.1) in
    let right = c.self.invariant.2 in
    let below : q.site < length w.sites = question_site c.self.invariant.0 c.self.invariant.1 c.self.inside.opening w right q (right.questions k q sent) in
    let many : length c.deref-2.result.now ≡ length w.sites = ap (λ (xs : List SiteState). length xs) c.deref-2.ensures.value in omega arith

pub invariant_of-self : goal.invariant_of-self
invariant_of-self c =
    let w = world_of c.self.inside in
    let k = c.args.number in
    let q = c.in-Some.question.now in
    let found = c.in-Some.ensures.lookup in
    let sent : slice_get w.questions k ≡ Some q =
    ap (λ (xs : List Question). slice_get xs k) (sym c.deref.ensures.value) ∙ slice_get-get_or c.deref.result.now k q found.3.0 ∙ ap Some (sym found.1) in
    let rules = c.self.invariant.0 in let owned = c.self.invariant.1 in let right = c.self.invariant.2 in
    let told : (G' : Rules) (S : Set) (N : Marking) (node : SiteState) → slice_get w.sites q.site ≡ Some node → StandsAt G' S N node.site → c.asked_site.result ≡ answered G' S node q =
    λ G' S N node here at. c.asked_site.ensures G' S N node (ap (λ (xs : List SiteState). slice_get xs q.site) c.deref-2.ensures.value ∙ here) at in
    let next : record w { answers = c.push.new.self.items } ≡ calls rules owned w (DeliverQuestion k) =
    ap (λ (xs : List Answer). record w { answers = xs }) c.in_ok-push.ensures.items ∙ ap (answering w) (sym c.in-Some-asked_site.is)
    ∙ question_is rules owned c.self.inside.opening w right k q c.asked_site.result sent told in (
      rules,
      owned,
      called_right rules owned c.self.inside.opening w (record w { answers = c.push.new.self.items }) (DeliverQuestion k) right tt next,
    )

pub returns-in_ok-push-clause-happened : goal.returns-in_ok-push-clause-happened
returns-in_ok-push-clause-happened c = λ G C M right.
    let w = world_of c.self.inside in
    let k = c.args.number in
    let q = c.in-Some.question.now in
    let found = c.in-Some.ensures.lookup in
    let sent : slice_get w.questions k ≡ Some q =
    ap (λ (xs : List Question). slice_get xs k) (sym c.deref.ensures.value) ∙ slice_get-get_or c.deref.result.now k q found.3.0 ∙ ap Some (sym found.1) in
    let told : (G' : Rules) (S : Set) (N : Marking) (node : SiteState) → slice_get w.sites q.site ≡ Some node → StandsAt G' S N node.site → c.asked_site.result ≡ answered G' S node q =
    λ G' S N node here at. c.asked_site.ensures G' S N node (ap (λ (xs : List SiteState). slice_get xs q.site) c.deref-2.ensures.value ∙ here) at in
    ap (λ (xs : List Answer). record w { answers = xs }) c.in_ok-push.ensures.items ∙ ap (answering w) (sym c.in-Some-asked_site.is)
    ∙ question_is G C M w (subst (IsRight G C M) (sym c.self.view_is) right) k q c.asked_site.result sent told
    ∙ ap (λ (v : WorldState). calls G C v (DeliverQuestion k)) c.self.view_is

pub returns-in_ok-push-clause-right : goal.returns-in_ok-push-clause-right
returns-in_ok-push-clause-right c = λ G C M right.
    let w = world_of c.self.inside in
    let k = c.args.number in
    let q = c.in-Some.question.now in
    let found = c.in-Some.ensures.lookup in
    let sent : slice_get w.questions k ≡ Some q =
    ap (λ (xs : List Question). slice_get xs k) (sym c.deref.ensures.value) ∙ slice_get-get_or c.deref.result.now k q found.3.0 ∙ ap Some (sym found.1) in
    let was : IsRight G C M w = subst (IsRight G C M) (sym c.self.view_is) right in
    let told : (G' : Rules) (S : Set) (N : Marking) (node : SiteState) → slice_get w.sites q.site ≡ Some node → StandsAt G' S N node.site → c.asked_site.result ≡ answered G' S node q =
    λ G' S N node here at. c.asked_site.ensures G' S N node (ap (λ (xs : List SiteState). slice_get xs q.site) c.deref-2.ensures.value ∙ here) at in
    let next : record w { answers = c.push.new.self.items } ≡ calls G C w (DeliverQuestion k) =
    ap (λ (xs : List Answer). record w { answers = xs }) c.in_ok-push.ensures.items ∙ ap (answering w) (sym c.in-Some-asked_site.is)
    ∙ question_is G C M w was k q c.asked_site.result sent told in
    called_right G C M w (record w { answers = c.push.new.self.items }) (DeliverQuestion k) was tt next

pub returns-in_default-asked_site-clause-happened : goal.returns-in_default-asked_site-clause-happened
returns-in_default-asked_site-clause-happened c = λ G C M right.
    let w = world_of c.self.inside in
    let k = c.args.number in
    let q = c.in-Some.question.now in
    let found = c.in-Some.ensures.lookup in
    let sent : slice_get w.questions k ≡ Some q =
    ap (λ (xs : List Question). slice_get xs k) (sym c.deref.ensures.value) ∙ slice_get-get_or c.deref.result.now k q found.3.0 ∙ ap Some (sym found.1) in
    let told : (G' : Rules) (S : Set) (N : Marking) (node : SiteState) → slice_get w.sites q.site ≡ Some node → StandsAt G' S N node.site → c.asked_site.result ≡ answered G' S node q =
    λ G' S N node here at. c.asked_site.ensures G' S N node (ap (λ (xs : List SiteState). slice_get xs q.site) c.deref-2.ensures.value ∙ here) at in
    sym c.self.view_is ∙ ap (answering w) (sym c.in_default-asked_site.is)
    ∙ question_is G C M w (subst (IsRight G C M) (sym c.self.view_is) right) k q c.asked_site.result sent told
    ∙ ap (λ (v : WorldState). calls G C v (DeliverQuestion k)) c.self.view_is
