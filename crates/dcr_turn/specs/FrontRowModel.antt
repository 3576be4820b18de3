-- What the field of a row of fronts stands for.
use Rattle.std.specs.Prelude.{◌≡◌, List, map}
use Rattle.dcr_turn.specs.FrontValue.{FrontValue}
use Rattle.dcr_turn.specs.Records.{knowing, site_number}
use Rattle.dcr_turn.specs.declared.front_row.FrontRow.TheInside.{Inside}
use Rattle.dcr_turn.specs.declared.record.Holder.TheVariants.{Site}
use Rattle.dcr_turn.specs.declared.record.Record.{Record}

-- the front of a site's record
abbrev pub front_in : Record → FrontValue
front_in r = record { site = site_number r.holder; front = r.seen }

-- the record of a front
abbrev pub record_of : FrontValue → Record
record_of f = knowing f.front (Site f.site)

abbrev pub fronts_of : {N : Type 0} → Inside N → List FrontValue
fronts_of row = map front_in row.records

-- each record is a site's
abbrev pub AreOfSites : {N : Type 0} → Inside N → Type 0
AreOfSites row = row.records ≡ map record_of (fronts_of row)
