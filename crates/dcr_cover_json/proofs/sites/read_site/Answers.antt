use Rattle.std.proofs.Common.{◌≡◌, ℕ, ◌<◌, true, not, is_some, [], length, map, sym, ap, ◌∙◌, subst}
use Rattle.std.proofs.lemmas.List.{get_or-map}
use Rattle.dcr_set.specs.Least.{IsLeast}
use Rattle.dcr_cover_json.specs.Sites.{Site, node_named, owned_at, site_at}
use Rattle.dcr_cover_json.proofs.FactLemmas.{site_good, text_stop}
use Rattle.dcr_cover_json.proofs.sites.read_site.Goals as goal

pub returns-in-Ok-clause-fact : goal.returns-in-Ok-clause-fact
returns-in-Ok-clause-fact g c =
    let N = c.args.index.now.nested.now in
    let sites = map g.S.AsSiteText.written c.args.sites.now in
    let same : site_at sites c.args.i ≡ g.S.AsSiteText.written c.index-sites-i.result = get_or-map g.S.AsSiteText.written c.args.sites.now c.args.i c.index-sites-i.result ([], []) c.requires.within ∙ ap g.S.AsSiteText.written (sym c.index-sites-i.is) in
    let Known : Site → Type 0 = λ site. (j : ℕ) → j < length site.1 → is_some (node_named N (owned_at site j)) ≡ true in
    site_good N sites c.args.i c.in_ok-name.ensures.new (subst Known (sym same) c.in-Ok.ensures.known)

pub returns-in-Err-clause-fact : goal.returns-in-Err-clause-fact
returns-in-Err-clause-fact g c =
    let N = c.args.index.now.nested.now in
    let sites = map g.S.AsSiteText.written c.args.sites.now in
    let same : site_at sites c.args.i ≡ g.S.AsSiteText.written c.index-sites-i.result = get_or-map g.S.AsSiteText.written c.args.sites.now c.args.i c.index-sites-i.result ([], []) c.requires.within ∙ ap g.S.AsSiteText.written (sym c.index-sites-i.is) in
    let Unknown : Site → Type 0 = λ site. IsLeast (length site.1) (λ j. not (is_some (node_named N (owned_at site j)))) c.in-Err.j in
    λ memory. text_stop N sites c.args.i c.in-Err.j c.in_ok-name.ensures.new (subst Unknown (sym same) c.in-Err.ensures.unknown)
