-- What a part that was read is of.
use Rattle.std.specs.Prelude.{◌≡◌}
use Rattle.dcr_site.specs.Seen.{StandsAt}
use Rattle.dcr_part.specs.Whole.{Whole, part_of}
use Rattle.dcr_part.specs.declared.part.Part.{Part}

-- the site and the digest are the case's, the names are those of its alphabet, and the site stands at the opening
pub record IsPartOf (W : Whole) (part : Part) : Type 0 where
  pub head : part.head ≡ W.head
  pub names : part.names.items ≡ (part_of W).names
  pub site : StandsAt W.rules W.own W.opening part.site
