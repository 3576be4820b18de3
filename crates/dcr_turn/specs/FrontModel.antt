-- What the fields of a front stand for.
use Rattle.std.specs.Prelude.{◌≡◌, [], ◌∷◌, length}
use Rattle.dcr_turn.specs.FrontValue.{FrontValue}
use Rattle.dcr_turn.specs.Records.{first_seen, knowing}
use Rattle.dcr_turn.specs.declared.front.Front.TheInside.{Inside}
use Rattle.dcr_turn.specs.declared.record.Holder.TheVariants.{Site}

abbrev pub front_of : {N : Type 0} → Inside N → FrontValue
front_of f = record { site = f.site; front = first_seen f.records }

-- the record is the site's
pub record IsFront {N : Type 0} (f : Inside N) : Type 0 where
  pub records : f.records ≡ knowing (first_seen f.records) (Site f.site) ∷ []
  pub seen : f.seen ≡ length (first_seen f.records)
