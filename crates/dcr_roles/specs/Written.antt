-- What a case file of the third version writes of roles and users, and which of it is as it should be. A member that is
-- null is there.
use Rattle.std.specs.Prelude.{ℕ, Bool, true, false, not, ◌&&◌, codes, List, [], length, take, Option, is_some, unwrap_or, slice_get}
use Rattle.std.specs.List.{find, list_all, list_any}
use Rattle.std.specs.Option.{option_map_or}
use Rattle.std.specs.Str.{bytes_eq}
use Rattle.serde_json.specs.Data.{Data}
use Rattle.serde_json.specs.Find.{get, as_array, as_str}
use Rattle.dcr_set.specs.Least.{least}
use Rattle.dcr_graph.specs.Names.{is_name}
use Rattle.dcr_format.specs.Members.{elements, text_at}
use Rattle.dcr_roles.specs.Elements.{texts_in}

-- whether the file is of the third version: in the others none of this is looked at
abbrev pub is_third : Data → Bool
is_third d = option_map_or (λ text. bytes_eq text (codes "3")) (text_at (codes "version") d) false

-- ---- names

abbrev pub is_array : Data → Bool
is_array d = is_some (as_array d)

-- a text that is a name
abbrev pub is_name_text : Data → Bool
is_name_text d = option_map_or is_name (as_str d) false

-- an array of names
abbrev pub are_names : Data → Bool
are_names d = option_map_or (list_all is_name_text) (elements d) false

-- the member is so, where it is there
abbrev pub so_where_there : (Data → Bool) → Option Data → Bool
so_where_there is member = option_map_or is member true

-- the text, and none where it is no text
abbrev pub text_of : Data → List ℕ
text_of d = unwrap_or (as_str d) []

-- the texts of an array
abbrev pub texts_of : Data → List (List ℕ)
texts_of d = unwrap_or (texts_in d) []

-- ---- events and users

-- what the member `roles` of an event or a user names; nothing where it is missing
abbrev pub roles_at : Data → List (List ℕ)
roles_at d = option_map_or texts_of (get (codes "roles") d) []

-- the `roles` of an event are an array of names, where they are there
abbrev pub fits_event : Data → Bool
fits_event event = so_where_there are_names (get (codes "roles") event)

-- a user with this name
abbrev pub is_called : List ℕ → Data → Bool
is_called name user = option_map_or (bytes_eq name) (text_at (codes "user") user) false

-- an object with a name `user` that is new and an array `roles` of names
abbrev pub fits_as_user : (List ℕ → Bool) → Data → Bool
fits_as_user is_new user = option_map_or (λ name. is_name name && is_new name) (text_at (codes "user") user) false && option_map_or are_names (get (codes "roles") user) false

-- user i is such an object, with a name that is no earlier user's
abbrev pub fits_user : List Data → ℕ → Data → Bool
fits_user users i user = fits_as_user (λ name. not (list_any (is_called name) (take i users))) user

-- ---- sessions

-- the item is a text that is a user's name
abbrev pub fits_item : List Data → Data → Bool
fits_item users item = option_map_or (λ name. list_any (is_called name) users) (as_str item) false

-- the roles of the user whose name the item is
abbrev pub roles_by : List Data → Data → List (List ℕ)
roles_by users item = option_map_or roles_at (find (is_called (text_of item)) users) []

-- ---- the first that is not as it should be

-- the least index of one that does not pass
abbrev pub first_wrong : {A : Type 0} → (ℕ → A → Bool) → List A → Option ℕ
first_wrong passes xs = least (length xs) (λ i. option_map_or (λ x. not (passes i x)) (slice_get xs i) false)
