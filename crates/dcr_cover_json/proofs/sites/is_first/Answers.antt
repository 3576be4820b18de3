use Rattle.std.proofs.Common.{◌≡◌, ℕ, List, Option, false, eqb, sym, ap, ◌∙◌, map}
use Rattle.std.specs.Option.{option_map_or}
use Rattle.std.proofs.lemmas.Simd.{map-map}
use Rattle.dcr_graph.specs.Names.{number_of}
use Rattle.dcr_graph.proofs.NamesLemmas.{place_is}
use Rattle.dcr_cover_json.specs.Sites.{Site, names_in}
use Rattle.dcr_cover_json.proofs.sites.is_first.Goals as goal
use Rattle.dcr_cover_json.proofs.sites.is_first.Goals.{After-first_named}

-- what was found is the number of the name
named : (g : _) (c : After-first_named g) → number_of (names_in (map g.S.AsSiteText.written c.args.sites.now)) c.args.name.now ≡ c.first_named.result
named g c =
    ap (λ (names : List (List ℕ)). number_of names c.args.name.now) (map-map (λ (site : Site). site.0) g.S.AsSiteText.written c.args.sites.now)
    ∙ sym (place_is (λ site. (g.S.AsSiteText.written site).0) c.args.sites.now c.args.name.now) ∙ sym c.first_named.ensures

pub returns-in-Some : goal.returns-in-Some
returns-in-Some g c = sym (ap (λ (o : Option ℕ). option_map_or (λ k. eqb k c.args.i) o false) (named g (goal.at.returns-in-Some g c).After-first_named ∙ c.in-Some.is))

pub returns-in-None : goal.returns-in-None
returns-in-None g c = sym (ap (λ (o : Option ℕ). option_map_or (λ k. eqb k c.args.i) o false) (named g (goal.at.returns-in-None g c).After-first_named ∙ c.in-None.is))
