-- The facts of the shape of a cover.
use Rattle.std.specs.Prelude.{Bool, false, ◌&&◌, codes, List, [], ◌∷◌, map, Option, is_some, unwrap_or}
use Rattle.std.specs.List.{list_all}
use Rattle.std.specs.Option.{option_and_then, option_map_or}
use Rattle.serde_json.specs.Data.{Data}
use Rattle.serde_json.specs.Find.{as_str}
use Rattle.dcr_format.specs.Facts.{Fact, unless, each}
use Rattle.dcr_format.specs.Members.{array_at, elements, has_text}
use Rattle.dcr_format.specs.declared.stop.CaseStop.TheVariants.{Shape}
use Rattle.dcr_format.specs.declared.stop.Part.TheVariants as part
use Rattle.dcr_cover_json.specs.Sites.{Site, site_in}

-- an array
abbrev pub is_cover : Data → Bool
is_cover d = is_some (elements d)

-- an object with a text `site` and an array `events` of texts
abbrev pub is_site : Data → Bool
is_site d = has_text (codes "site") d && option_map_or (list_all (λ text. is_some (as_str text))) (array_at (codes "events") d) false

-- the elements of the member `cover`, and none where it is missing or no array
abbrev pub values_in : Option Data → List Data
values_in cover = unwrap_or (option_and_then elements cover) []

-- the sites that are written in it
abbrev pub sites_in : Option Data → List Site
sites_in cover = map site_in (values_in cover)

unfoldable pub shape_facts : Option Data → List Fact
shape_facts cover =
    unless (option_map_or is_cover cover false) (Shape part.Cover 0)
    ∷ each is_site (Shape part.Site) (values_in cover)
    ∷ []
