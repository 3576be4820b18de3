-- ---- for private clauses: names by their numbers, as the reader keeps them
use Rattle.std.specs.Prelude.{◌≡◌, ℕ, ◌<◌, true, codes, List, [], ◌∷◌, ◌++◌, length, Option, Some, option_and_then, unwrap_or}
use Rattle.std.specs.List.{All}
use Rattle.serde_json.specs.Data.{Data}
use Rattle.serde_json.specs.Find.{as_str}
use Rattle.dcr_graph.specs.IndexModel.{Numbers, number_at, with_number}
use Rattle.dcr_graph.specs.Names.{AreDistinct, is_name, number_of}
use Rattle.dcr_policy.specs.Numbered.{named}
use Rattle.dcr_format.specs.Members.{text_at}
use Rattle.dcr_roles.specs.Written.{roles_at}
use Rattle.dcr_roles.specs.declared.users.Users.{Users}

-- each text has the number that it has among these names
abbrev pub AreNumbers : Numbers → List (List ℕ) → Type 0
AreNumbers numbers names = (text : List ℕ) → number_at numbers text ≡ number_of names text

-- the texts are names, no two of them are one, and each has its number
pub record IsNumbering (numbers : Numbers) (names : List (List ℕ)) : Type 0 where
  pub found : AreNumbers numbers names
  pub distinct : AreDistinct names
  pub are_names : All (λ name. is_name name ≡ true) names

-- the one list goes on from the other
pub record GoesOn (old new : List (List ℕ)) : Type 0 where
  pub more : List (List ℕ)
  pub is : new ≡ old ++ more

-- these are the numbers of these texts
pub record AreNumbersOf (names texts : List (List ℕ)) (numbers : List ℕ) : Type 0 where
  pub known : All (λ number. number < length names) numbers
  pub named : named names numbers ≡ texts

-- ---- users

-- the name of a user, and none where it has none
abbrev pub name_of : Data → List ℕ
name_of user = unwrap_or (text_at (codes "user") user) []

-- a user that has one
abbrev pub HasName : Data → Type 0
HasName user = (text : List ℕ) × (text_at (codes "user") user ≡ Some text)

-- the number of the user whose name the item is
abbrev pub user_in : Numbers → Data → Option ℕ
user_in numbers item = option_and_then (number_at numbers) (as_str item)

-- one user more: it has the next number, and its roles stand behind those of the others
pub record IsAdded (names : List (List ℕ)) (user : Data) (old new : Users) : Type 0 where
  pub roles : List ℕ
  pub added : new.roles.items ≡ old.roles.items ++ roles ∷ []
  pub are : AreNumbersOf names (roles_at user) roles
  pub numbers : (other : List ℕ) → number_at new.numbers other ≡ with_number (number_at old.numbers other) (name_of user) (length old.roles.items) other
