-- The alphabet, told by the sets of those atoms whose included and pending marks are tracked.
use Rattle.std.specs.Prelude.{ℕ, Bool, ◌||◌}
use Rattle.dcr_set.specs.EventSet.{Set, has}
use Rattle.dcr_graph.specs.Rules.{Rules}
use Rattle.dcr_graph.specs.Projection.{leads_to}
use Rattle.dcr_graph.specs.declared.kind.Kind.TheVariants.{Response, Include, Exclude, Cancel}

-- an atom that is tracked, or that may change a mark that is
abbrev pub alphabet_within : Rules → Set → Set → ℕ → Bool
alphabet_within G tracked_in tracked_re a =
    has tracked_in a
    || ((leads_to G Response (has tracked_re) a || leads_to G Cancel (has tracked_re) a)
    || (leads_to G Include (has tracked_in) a || leads_to G Exclude (has tracked_in) a))
