-- The cover of a load, 12 sites each of which owns every twelfth atom and those that were drawn for it, and its opening.
use Rattle.std.specs.Prelude.{ℕ, ◌%◌, Bool, true, ◌||◌, ◌==◌, List, ◌∷◌, decimal}
use Rattle.dcr_set.specs.EventSet.{Set, those, no_event}
use Rattle.dcr_graph.specs.declared.marking.Marking.{Marking}
use Rattle.dcr_proj.specs.CoverValue.{Owners, owners}
use Rattle.dcr_load.specs.Each.{each_below}
use Rattle.dcr_load.specs.Words.{picked}

-- s and the number
abbrev pub site_name : ℕ → List ℕ
site_name i = 115 ∷ decimal i

-- an atom is owned by the site of its number and by the site that its word picks
abbrev pub owns : ℕ → ℕ → ℕ → Bool
owns number site atom = (site == atom % 12) || (site == picked number atom 12)

abbrev pub owned_by : ℕ → ℕ → Set
owned_by number site = those 200 (owns number site)

abbrev pub load_cover : ℕ → Owners
load_cover number = owners (each_below 12 site_name) (each_below 12 (owned_by number))

-- nothing is executed or pending, and everything is included
abbrev pub load_opening : Marking
load_opening = record { executed = no_event 200; pending = no_event 200; included = those 200 (λ _. true) }
