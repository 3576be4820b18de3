use Rattle.std.proofs.Common.{◌≡◌, List, [], sym, ap, subst, ◌∙◌, arith}
use Rattle.std.proofs.lemmas.List.{length-map}
use Rattle.dcr_graph.specs.GraphValue.{rules_of}
use Rattle.dcr_graph.specs.declared.marking.Marking.{Marking}
use Rattle.dcr_proj.specs.NetworkValue.{IsNetwork}
use Rattle.dcr_run.specs.SitesModel.{alphabets_in}
use Rattle.dcr_site.specs.Seen.{Seen}
use Rattle.dcr_wire.specs.declared.answer.Answer.{Answer}
use Rattle.dcr_wire.specs.declared.message.Message.{Message}
use Rattle.dcr_wire.specs.declared.question.Question.{Question}
use Rattle.dcr_node.specs.SiteState.{SiteState}
use Rattle.dcr_node.specs.JournalState.{JournalState, new_journal}
use Rattle.dcr_node.specs.WorldState.{opened}
use Rattle.dcr_node.specs.Parts.{world_with, AreNumbered}
use Rattle.dcr_node.specs.Right.{IsCase, IsRight}
use Rattle.dcr_node.proofs.LawLemmas.{opened_is_right}
use Rattle.dcr_node.proofs.WorldLemmas.{opened_sites, opened_alphabets}
use Rattle.dcr_node.proofs.world.World.open.Goals as goal
use Rattle.dcr_node.proofs.world.World.open.Goals.{After-new-3}

-- the parts are those of the machine's world
is_opened : (c : After-new-3) → world_with c.copy.result c.in_ok-journal.journal c.in_ok-sites.sites.items c.new.result.items c.new-2.result.items c.new-3.result.items
    ≡ opened (rules_of c.args.graph.now) c.args.cover.now.owned c.args.opening.now c.args.sessions c.args.capacity
is_opened c =
    let G = rules_of c.args.graph.now in
    let C = c.args.cover.now.owned in
    let M = c.args.opening.now in
    let stand = c.in_ok-open.ensures.stand in
    let sites = c.in_ok-open.field-0.sites in
    let w = opened G C M c.args.sessions c.args.capacity in
    ap (λ (m : Marking). world_with m c.in_ok-journal.journal c.in_ok-sites.sites.items c.new.result.items c.new-2.result.items c.new-3.result.items) c.copy.ensures
    ∙ ap (λ (j : JournalState). world_with M j c.in_ok-sites.sites.items c.new.result.items c.new-2.result.items c.new-3.result.items)
    (c.in_ok-journal.ensures ∙ ap (λ A. new_journal A c.args.sessions c.args.capacity) (c.into_parts-network.ensures.network ∙ opened_alphabets G C M sites stand))
    ∙ ap (λ (s : List SiteState). world_with M w.journal s c.new.result.items c.new-2.result.items c.new-3.result.items)
    (opened_sites G C M sites c.in_ok-sites.sites.items stand (subst (λ members. AreNumbered members c.in_ok-sites.sites.items) c.into_parts-network.ensures.sites c.in_ok-sites.ensures))
    ∙ ap (λ (s : List Message). world_with M w.journal w.sites s c.new-2.result.items c.new-3.result.items) c.new.ensures.items
    ∙ ap (λ (s : List Question). world_with M w.journal w.sites [] s c.new-3.result.items) c.new-2.ensures.items
    ∙ ap (λ (s : List Answer). world_with M w.journal w.sites [] [] s) c.new-3.ensures.items

is_case : (c : After-new-3) → IsCase (rules_of c.args.graph.now) c.args.cover.now.owned c.args.opening.now
is_case c =
    let sites = c.in_ok-open.field-0.sites in
    let many = length-map sites (λ (s : Seen). s.projection.alphabet) in
    let network : IsNetwork (alphabets_in sites) = subst IsNetwork c.into_parts-network.ensures.network c.sites.ensures.network in
    record {
      some_site = (let some = network.some_site in let same = c.in_ok-open.ensures.stand.as_many in omega arith);
      rooms = c.requires.rooms;
      covers = c.in_ok-open.ensures.covers;
      opening = c.requires.opening;
    }

is_right : (c : After-new-3) → IsRight (rules_of c.args.graph.now) c.args.cover.now.owned c.args.opening.now (world_with c.copy.result c.in_ok-journal.journal c.in_ok-sites.sites.items c.new.result.items c.new-2.result.items c.new-3.result.items)
is_right c =
    let G = rules_of c.args.graph.now in let C = c.args.cover.now.owned in let M = c.args.opening.now in
    subst (IsRight G C M) (sym (is_opened c)) (opened_is_right G C M c.args.sessions c.args.capacity (is_case c))

pub invariant_of-result : goal.invariant_of-result
invariant_of-result c = (
  rules_of c.args.graph.now,
  c.args.cover.now.owned,
  subst (λ M. IsRight (rules_of c.args.graph.now) c.args.cover.now.owned M (world_with c.copy.result c.in_ok-journal.journal c.in_ok-sites.sites.items c.new.result.items c.new-2.result.items c.new-3.result.items)) (sym c.copy.ensures) (is_right c),
)

pub returns-clause-opened : goal.returns-clause-opened
returns-clause-opened c = is_opened (goal.at.returns-clause-opened c).After-new-3

pub returns-clause-right : goal.returns-clause-right
returns-clause-right c = is_right (goal.at.returns-clause-right c).After-new-3
