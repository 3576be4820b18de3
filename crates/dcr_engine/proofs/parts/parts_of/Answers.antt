use Rattle.std.proofs.Common.{ap, subst, sym, ◌∙◌}
use Rattle.dcr_graph.specs.GraphValue.{rules_of}
use Rattle.dcr_run.specs.SitesModel.{alphabets_in}
use Rattle.dcr_site.specs.Together.{AllStand}
use Rattle.dcr_engine.proofs.NamedLemmas.{named_of}
use Rattle.dcr_engine.proofs.parts.parts_of.Goals as goal

pub returns-clause-named : goal.returns-clause-named
returns-clause-named c = λ old few.
    let graph = c.args.graph.now in
    let cover = c.args.cover.now in
    let opening = c.args.opening.now in
    let same = c.into_parts-network.ensures.sites in
    named_of graph cover opening old _ c.into_parts-network.result.1.items c.sites.ensures.cover c.in_ok-sites.ensures.covers c.requires.rooms c.requires.opening few
    (subst (AllStand (rules_of graph) cover.owned opening) (sym same) c.in_ok-sites.ensures.stand)
    (c.in_ok-blank.ensures.alphabets ∙ c.into_parts-network.ensures.network ∙ ap alphabets_in (sym same))
