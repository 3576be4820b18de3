-- What contracts see of sites, as they are given and as a case file lends them.
use Rattle.std.specs.Prelude.{List, map, string_bytes}
use Rattle.serde_json.specs.View.{view}
use Rattle.serde_json.specs.declared.value.Value.{Value}
use Rattle.dcr_cover_json.specs.Sites.{Site, site_in}
use Rattle.dcr_cover_json.specs.declared.site.SiteText.{SiteText}
use Rattle.dcr_cover_json.specs.declared.written.CoverText.{CoverText}

-- a site that is given
abbrev pub site_given : SiteText → Site
site_given site = (string_bytes site.name, map string_bytes site.owned.items)

-- a site that is lent
abbrev pub site_lent : Value → Site
site_lent value = site_in (view value)

abbrev pub written : CoverText → List Site
written text = map site_lent text.sites.now
