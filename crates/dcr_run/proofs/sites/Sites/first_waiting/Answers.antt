use Rattle.std.proofs.Common.{sym, ap, subst, ◌∙◌}
use Rattle.dcr_site.specs.Together.{AllStand}
use Rattle.dcr_site.proofs.TogetherLemmas.{waits_covered}
use Rattle.dcr_run.proofs.sites.Sites.first_waiting.Goals as goal

pub returns : goal.returns
returns c = λ G C M covers stand.
    c.first_of_each.ensures G C M (subst (AllStand G C M) (sym (c.deref.ensures.value ∙ ap (λ E. E.sites) c.self.view_is)) stand) ∙ waits_covered G C M covers
