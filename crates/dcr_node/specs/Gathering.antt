-- What sites told of that which is gathered from all of them.
use Rattle.std.specs.Prelude.{ℕ, List, map, replicate, slice_index_or, slice_set, Option, Some, None, is_some, unwrap_or, if◌then◌else◌}
use Rattle.std.specs.List.{list_all}
use Rattle.dcr_laws.specs.AtSites.{least_of}
use Rattle.dcr_wire.specs.declared.answer.Told.{Told}
use Rattle.dcr_wire.specs.declared.answer.Told.TheVariants.{Marks, Can, Waits}
use Rattle.dcr_node.specs.declared.gathered.Gathered.{Gathered}

abbrev pub nothing_told : Gathered
nothing_told = record { marks = None; waits = None }

-- so many sites that told nothing
abbrev pub nothing_gathered : ℕ → List Gathered
nothing_gathered sites = replicate sites nothing_told

-- with what a site told
abbrev pub gathered_with : Gathered → Told → Gathered
gathered_with g (Marks mark) = record { marks = Some mark; waits = g.waits }
gathered_with g (Can events) = g
gathered_with g (Waits event) = record { marks = g.marks; waits = Some event }

-- with what the site with this number told; of another nothing is gathered
abbrev pub gathering : List Gathered → ℕ → Told → List Gathered
gathering gathered i told = slice_set gathered i (gathered_with (slice_index_or gathered i nothing_told) told)

-- what a site waits for, or none where it has not told
abbrev pub first_waits : Gathered → Option ℕ
first_waits g = unwrap_or g.waits None

-- the least that the sites wait for, where each told
abbrev pub waits_told : List Gathered → Option (Option ℕ)
waits_told gathered = if list_all (λ (g : Gathered). is_some g.waits) gathered then Some (least_of (map first_waits gathered)) else None
