-- The limits of a graph.
use Rattle.std.specs.Prelude.{ℕ, Bool, not, false, List, [], ◌∷◌, length, count_by, nat_le}
use Rattle.std.specs.List.{list_any}
use Rattle.std.specs.Option.{option_map_or}
use Rattle.std.specs.Str.{bytes_eq}
use Rattle.serde_json.specs.Data.{Data}
use Rattle.dcr_format.specs.Facts.{Fact, at_most, each}
use Rattle.dcr_format.specs.declared.limits.TheConstants.{MAX_NODES, MAX_ATOMS, MAX_RELATIONS, MAX_LABEL}
use Rattle.dcr_format.specs.declared.stop.CaseStop.TheVariants.{Limit}
use Rattle.dcr_format.specs.declared.stop.LimitKind.TheVariants as kind
use Rattle.dcr_graph_json.specs.Written.{Written, name_in, parent_in, label_in, event_at}

-- an event's parent is this name, by text
abbrev pub is_parent_name : List Data → List ℕ → Bool
is_parent_name events name = list_any (λ event. option_map_or (λ parent. bytes_eq name parent) (parent_in event) false) events

-- the number of the events whose name is the parent of none
abbrev pub atoms_in : List Data → ℕ
atoms_in events = count_by (λ event. not (is_parent_name events (name_in event))) events

-- the bytes of a label that is written
abbrev pub label_bytes : Data → ℕ
label_bytes event = option_map_or length (label_in event) 0

abbrev pub has_short_label : Data → Bool
has_short_label event = nat_le (label_bytes event) MAX_LABEL

-- each label is within its limit
abbrev pub labels_fact : List Data → Fact
labels_fact events = each has_short_label (λ i. Limit kind.Label (label_bytes (event_at events i))) events

unfoldable pub limit_facts : Written → List Fact
limit_facts w =
    at_most kind.Nodes MAX_NODES (length w.events)
    ∷ at_most kind.Atoms MAX_ATOMS (atoms_in w.events)
    ∷ at_most kind.Relations MAX_RELATIONS (length w.relations)
    ∷ labels_fact w.events
    ∷ []
