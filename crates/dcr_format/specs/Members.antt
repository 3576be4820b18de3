-- Words for the members of an object and the elements of an array. A member that is null is there.
use Rattle.std.specs.Prelude.{ℕ, Bool, true, List, [], ◌∷◌, Option, Some, None, is_some, option_map}
use Rattle.std.specs.Option.{option_and_then, option_map_or}
use Rattle.serde_json.specs.Data.{Data, Items, no_items, item}
use Rattle.serde_json.specs.Find.{get, as_array, as_bool, as_str}

-- the elements of an array in order
abbrev pub listed : Items → List Data
listed no_items = []
listed (item d ds) = d ∷ listed ds

-- the elements of a value that is an array
abbrev pub elements : Data → Option (List Data)
elements d = option_map listed (as_array d)

-- those of a member, where there is one: none where it is missing
abbrev pub elements_or_none : Option Data → Option (List Data)
elements_or_none None = Some []
elements_or_none (Some d) = elements d

-- ---- what a member of this name is, where it is one

abbrev pub text_at : List ℕ → Data → Option (List ℕ)
text_at name d = option_and_then as_str (get name d)

abbrev pub mark_at : List ℕ → Data → Option Bool
mark_at name d = option_and_then as_bool (get name d)

abbrev pub array_at : List ℕ → Data → Option (List Data)
array_at name d = option_and_then elements (get name d)

-- ---- whether it is one

abbrev pub has_text : List ℕ → Data → Bool
has_text name d = is_some (text_at name d)

abbrev pub has_array : List ℕ → Data → Bool
has_array name d = is_some (array_at name d)

-- ---- whether it is one, where it is there

abbrev pub may_have_text : List ℕ → Data → Bool
may_have_text name d = option_map_or (λ e. is_some (as_str e)) (get name d) true

abbrev pub may_have_mark : List ℕ → Data → Bool
may_have_mark name d = option_map_or (λ e. is_some (as_bool e)) (get name d) true

abbrev pub may_have_array : List ℕ → Data → Bool
may_have_array name d = is_some (elements_or_none (get name d))
