-- What the fields of a cover stand for.
use Rattle.dcr_proj.specs.CoverValue.{Owners, owners, IsCover}
use Rattle.dcr_proj.specs.declared.cover.Cover.TheInside.{Inside}

abbrev pub owners_of : Inside → Owners
owners_of c = owners c.names.items c.owned.items

abbrev pub FitsCover : Inside → Type 0
FitsCover c = IsCover (owners_of c)
