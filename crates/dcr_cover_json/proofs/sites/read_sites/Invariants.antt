use Rattle.std.proofs.Common.{◌≡◌, ℕ, ◌<◌, None, map, take}
use Rattle.dcr_cover_json.specs.Build.{site_fact}
use Rattle.dcr_cover_json.specs.Sites.{Site, names_in, set_meant}
use Rattle.dcr_cover_json.proofs.sites.read_sites.Given as goal

-- the sites before i, with which nothing is wrong
abbrev pub invariant-loop-i : goal.invariant-loop-i
invariant-loop-i g l = record {
  names_are : l.names.items ≡ names_in (take l.i (map g.S.AsSiteText.written l.sites));
  owned_are : l.owned.items ≡ map (λ (site : Site). set_meant l.index.nested.now site.1) (take l.i (map g.S.AsSiteText.written l.sites));
  good : (k : ℕ) → k < l.i → site_fact l.index.nested.now (map g.S.AsSiteText.written l.sites) k ≡ None;
}
