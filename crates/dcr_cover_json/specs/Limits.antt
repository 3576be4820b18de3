-- The limit of a cover.
use Rattle.std.specs.Prelude.{◌&&◌, List, [], ◌∷◌, length, nat_le}
use Rattle.dcr_format.specs.Facts.{Fact, unless}
use Rattle.dcr_format.specs.declared.limits.TheConstants.{MAX_SITES}
use Rattle.dcr_format.specs.declared.stop.CaseStop.TheVariants.{Limit}
use Rattle.dcr_format.specs.declared.stop.LimitKind.TheVariants as kind
use Rattle.dcr_cover_json.specs.Sites.{Site}

-- one site at least
unfoldable pub limit_facts : List Site → List Fact
limit_facts sites = unless (nat_le 1 (length sites) && nat_le (length sites) MAX_SITES) (Limit kind.Sites (length sites)) ∷ []
