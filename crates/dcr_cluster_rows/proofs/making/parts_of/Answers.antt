use Rattle.std.proofs.Common.{sym, ap, subst, ◌∙◌}
use Rattle.dcr_graph.specs.GraphValue.{rules_of}
use Rattle.dcr_run.specs.SitesModel.{alphabets_in}
use Rattle.dcr_site.specs.Together.{AllStand}
use Rattle.dcr_cluster_rows.proofs.MadeLemmas.{parts_named}
use Rattle.dcr_cluster_rows.proofs.making.parts_of.Goals as goal

pub returns-clause-parts : goal.returns-clause-parts
returns-clause-parts c =
    let case = c.args.case.now in
    let same = c.into_parts-network.ensures.sites in
    parts_named case c.in_ok-blank.blank c.into_parts-network.result.1.items c.requires.case c.in_ok-sites.ensures.covers
    (subst (AllStand (rules_of case.graph) case.cover.owned case.opening) (sym same) c.in_ok-sites.ensures.stand)
    (c.in_ok-blank.ensures.alphabets ∙ c.into_parts-network.ensures.network ∙ ap alphabets_in (sym same))
