use Rattle.std.proofs.Common.{Err, ap, ◌∙◌, arith}
use Rattle.std.proofs.lemmas.List.{length-map}
use Rattle.dcr_cover_json.specs.Seen.{site_lent, written}
use Rattle.dcr_cover_json.proofs.BuildLemmas.{sites_kept}
use Rattle.dcr_cover_json.proofs.MeaningLemmas.{many_names}
use Rattle.dcr_cover_json.proofs.ShapeLemmas.{texts_few}
use Rattle.dcr_cover_json.proofs.written.CoverText.build.Goals as goal

pub check_texts-requires-clause-some_site : goal.check_texts-requires-clause-some_site
check_texts-requires-clause-some_site c = let kept = sites_kept (written c.args.self.now) c.requires.limits in omega (arith, kept.0, length-map c.args.self.now.sites.now site_lent)

pub check_texts-requires-clause-most_sites : goal.check_texts-requires-clause-most_sites
check_texts-requires-clause-most_sites c = let kept = sites_kept (written c.args.self.now) c.requires.limits in omega (arith, kept.1, length-map c.args.self.now.sites.now site_lent)

pub check_texts-requires-clause-texts : goal.check_texts-requires-clause-texts
check_texts-requires-clause-texts c = texts_few c.args.self.now.sites.now c.args.self.now.few_sites

pub refused-requires : goal.refused-requires
refused-requires c = λ a same.
    let least = c.check_texts.ensures.uncovered a (c.in-Err.is ∙ ap Err same) in
    let below = least.below in omega (arith, many_names c.args.nested.now c.args.graph.now c.requires.flat)
