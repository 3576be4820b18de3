-- The graph of a case file as it is written, and what its events and relations say.
use Rattle.std.specs.Prelude.{ℕ, Bool, ◌||◌, codes, List, [], ◌∷◌, map, Option, None, is_some, unwrap_or, slice_index_or}
use Rattle.std.specs.List.{find}
use Rattle.std.specs.Option.{option_and_then, option_map}
use Rattle.std.specs.Str.{bytes_eq}
use Rattle.serde_json.specs.Data.{Data, null}
use Rattle.serde_json.specs.Find.{as_str}
use Rattle.dcr_graph.specs.KindText.{kind_text}
use Rattle.dcr_graph.specs.declared.kind.Kind.{Kind}
use Rattle.dcr_graph.specs.declared.kind.Kind.TheVariants.{Condition, Response, Milestone, Include, Exclude, Cancel}
use Rattle.dcr_nest.specs.declared.node.Version.{Version}
use Rattle.dcr_format.specs.Members.{elements, text_at, mark_at}

-- a graph of this version: the values of its events and of its relations
pub record Written : Type 0 where
  pub version : Version
  pub events : List Data
  pub relations : List Data

-- ---- an event

abbrev pub name_in : Data → List ℕ
name_in event = unwrap_or (text_at (codes "name") event) []

abbrev pub parent_in : Data → Option (List ℕ)
parent_in event = text_at (codes "parent") event

abbrev pub label_in : Data → Option (List ℕ)
label_in event = text_at (codes "label") event

-- a mark is written, whatever it is
abbrev pub writes_mark : Data → Bool
writes_mark event = is_some (mark_at (codes "executed") event) || (is_some (mark_at (codes "pending") event) || is_some (mark_at (codes "included") event))

-- the event with a number
abbrev pub event_at : List Data → ℕ → Data
event_at events i = slice_index_or events i null

abbrev pub names_in : List Data → List (List ℕ)
names_in events = map name_in events

-- ---- a relation

abbrev pub kinds : List Kind
kinds = Condition ∷ Response ∷ Milestone ∷ Include ∷ Exclude ∷ Cancel ∷ []

-- the kind that is written with this word
abbrev pub kind_named : List ℕ → Option Kind
kind_named text = find (λ kind. bytes_eq text (kind_text kind)) kinds

pub record Relation : Type 0 where
  pub kind : Kind
  pub source : List ℕ
  pub target : List ℕ

abbrev pub relation_with : Option Kind → Option (List ℕ) → Option (List ℕ) → Option Relation
relation_with kind source target = option_and_then (λ k. option_and_then (λ a. option_map (λ b. record { kind = k; source = a; target = b }) target) source) kind

abbrev pub relation_of : List Data → Option Relation
relation_of (kind ∷ source ∷ target ∷ []) = relation_with (option_and_then kind_named (as_str kind)) (as_str source) (as_str target)
relation_of _ = None

-- an array of three texts, the word of a kind and the names of the source and the target
abbrev pub relation_in : Data → Option Relation
relation_in d = option_and_then relation_of (elements d)
