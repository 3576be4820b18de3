use Rattle.std.proofs.Common.{map, sym, ap, subst, ◌∙◌}
use Rattle.dcr_journal.specs.Run.{after}
use Rattle.dcr_site.specs.Together.{AllStand}
use Rattle.dcr_site.proofs.TogetherLemmas.{waits_covered}
use Rattle.dcr_node.specs.SiteState.{SiteState}
use Rattle.dcr_node.specs.WorldState.{WorldState}
use Rattle.dcr_node.proofs.WorldLemmas.{closed_stand, closed_marks}
use Rattle.dcr_node.proofs.world.World.close.Goals as goal

pub returns : goal.returns
returns c = λ G C M right.
    let w = c.args.self.now in
    let N = after G M w.journal.history.entries in
    let stand = closed_stand G C M w right c.requires in
    let sites = ap (λ (v : WorldState). v.sites) c.self.view_is in
    record {
      opening = c.copy-2.ensures ∙ ap (λ (v : WorldState). v.opening) c.self.view_is ∙ right.opening;
      history = c.in_ok-history.ensures ∙ c.journal.ensures.journal ∙ ap (λ (v : WorldState). v.journal.history) c.self.view_is;
      marks =
          c.new.ensures ∙ c.in_ok-marks.ensures
          ∙ ap (map (λ (node : SiteState). node.site.mark)) (c.deref.ensures.value ∙ sites)
          ∙ closed_marks G C N w.sites stand;
      waits =
          c.first_waiting.ensures G C N (subst (λ nodes. AllStand G C N (map (λ (node : SiteState). node.site) nodes)) (sym (c.deref-2.ensures.value ∙ sites)) stand)
          ∙ waits_covered G C N right.is_case.covers;
    }
