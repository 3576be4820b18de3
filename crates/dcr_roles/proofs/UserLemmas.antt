-- Users by their numbers: who is known, and whose roles a session has.
use Rattle.std.proofs.Common.{◌≡◌, ℕ, ◌<◌, Bool, true, false, not, ◌&&◌, ◌||◌, cond, codes, List, [], ◌∷◌, length, get_or, map, take, Option, Some, None, is_none, is_some, unwrap_or, inl, inr, refl, sym, ap, ◌∙◌, arith}
use Rattle.std.specs.List.{All, find, list_any, position_or_len, slice_get}
use Rattle.std.specs.Option.{option_map_or, option_and_then}
use Rattle.std.specs.Str.{bytes_eq}
use Rattle.std.proofs.lemmas.Bool.{and_parts, cases_lt, false≢true, le-ltb, lt-ltb}
use Rattle.std.proofs.lemmas.List.{length-map, take-map}
use Rattle.std.proofs.lemmas.List.Elements.{All-head, All-tail}
use Rattle.std.proofs.lemmas.List.Folds.{find_at}
use Rattle.std.proofs.lemmas.Option.{slice_get-get_or, slice_get_past}
use Rattle.serde_json.specs.Data.{Data, null}
use Rattle.serde_json.specs.Find.{as_str, get}
use Rattle.serde_json.specs.View.{view}
use Rattle.serde_json.specs.declared.value.Value.{Value}
use Rattle.dcr_set.proofs.LeastLemmas.{least-some}
use Rattle.dcr_graph.specs.IndexModel.{Numbers, number_at}
use Rattle.dcr_graph.specs.Names.{is_name, number_of}
use Rattle.dcr_graph.proofs.NamesLemmas.{place_is}
use Rattle.dcr_format.specs.Members.{text_at}
use Rattle.dcr_roles.specs.Numbering.{name_of, user_in, AreNumbers, HasName}
use Rattle.dcr_roles.specs.Written.{are_names, fits_as_user, fits_item, fits_user, is_called, roles_at, roles_by}

-- a user that has a name is called by it alone
called_is : (user : Data) (name text : List ℕ) → text_at (codes "user") user ≡ Some text → is_called name user ≡ bytes_eq name (name_of user)
called_is user name text is = ap (λ o. option_map_or (bytes_eq name) o false) is ∙ ap (bytes_eq name) (sym (ap (λ o. unwrap_or o []) is))

any_called : (users : List Data) (name : List ℕ) → All HasName users → list_any (is_called name) users ≡ list_any (λ user. bytes_eq name (name_of user)) users
any_called [] name all = refl
any_called (user ∷ users) name all =
    let here = All-head HasName user users all in
    ap (λ t. t || list_any (is_called name) users) (called_is user name here.0 here.1)
    ∙ ap (λ t. bytes_eq name (name_of user) || t) (any_called users name (All-tail HasName user users all))

find_called : (users : List Data) (name : List ℕ) → All HasName users → find (is_called name) users ≡ find (λ user. bytes_eq name (name_of user)) users
find_called [] name all = refl
find_called (user ∷ users) name all =
    let here = All-head HasName user users all in
    ap (λ t. cond t (Some user) (find (is_called name) users)) (called_is user name here.0 here.1)
    ∙ ap (λ o. cond (bytes_eq name (name_of user)) (Some user) o) (find_called users name (All-tail HasName user users all))

-- ---- the first that is called so, and its number

found_any : {A : Type 0} (p : A → Bool) (xs : List A) → list_any p xs ≡ is_some (find p xs)
found_any p [] = refl
found_any p (x ∷ xs) = at (p x) (list_any p xs) (find p xs) (found_any p xs)
  where
    at : (b c : Bool) (o : Option _) → c ≡ is_some o → (b || c) ≡ is_some (cond b (Some x) o)
    at true c o e = refl
    at false c o e = e

find_numbered : {A : Type 0} (see : A → List ℕ) (xs : List A) (text : List ℕ) → find (λ x. bytes_eq text (see x)) xs ≡ option_and_then (slice_get xs) (number_of (map see xs) text)
find_numbered {A = A} see xs text =
    let p : A → Bool = λ x. bytes_eq text (see x) in
    find_at p xs
    ∙ elim (cases_lt (position_or_len p xs) (length xs)) [
      | inl within ↦ ap (λ t. option_and_then (slice_get xs) (cond t (Some (position_or_len p xs)) None)) (sym (lt-ltb (position_or_len p xs) (length xs) within))
      | inr past ↦
          slice_get_past xs (position_or_len p xs) past
          ∙ ap (λ t. option_and_then (slice_get xs) (cond t (Some (position_or_len p xs)) None)) (sym (le-ltb (position_or_len p xs) (length xs) past))
    ]
    ∙ ap (option_and_then (slice_get xs)) (place_is see xs text)

abbrev pub names_in : List Data → List (List ℕ)
names_in users = map name_of users

-- a text is a user's name where it has a number
pub some_called : (numbers : Numbers) (users : List Data) (name : List ℕ) → All HasName users → AreNumbers numbers (names_in users) → list_any (is_called name) users ≡ is_some (number_at numbers name)
some_called numbers users name all are =
    any_called users name all
    ∙ found_any (λ user. bytes_eq name (name_of user)) users
    ∙ ap (λ o. is_some o) (find_numbered name_of users name)
    ∙ known (number_of (names_in users) name) refl
    ∙ ap (λ o. is_some o) (sym (are name))
  where
    known : (o : Option ℕ) → number_of (names_in users) name ≡ o → is_some (option_and_then (slice_get users) o) ≡ is_some o
    known None e = refl
    known (Some n) e =
        let is = least-some (length (names_in users)) (λ k. bytes_eq (get_or (names_in users) k []) name) n e in
        let within : n < length users = omega (arith, is.below, length-map users name_of) in
        ap (λ o. is_some o) (slice_get-get_or users n null within)

pub item_known : (numbers : Numbers) (users : List Data) (item : Data) → All HasName users → AreNumbers numbers (names_in users) → fits_item users item ≡ is_some (user_in numbers item)
item_known numbers users item all are = at (as_str item)
  where
    at : (o : Option (List ℕ)) → option_map_or (λ name. list_any (is_called name) users) o false ≡ is_some (option_and_then (number_at numbers) o)
    at None = refl
    at (Some name) = some_called numbers users name all are

-- its roles are those of the user with its number
pub roles_numbered : (numbers : Numbers) (users : List Data) (item : Data) (n : ℕ) → All HasName users → AreNumbers numbers (names_in users) → user_in numbers item ≡ Some n
    → (n < length users) × (roles_by users item ≡ roles_at (get_or users n null))
roles_numbered numbers users item n all are e = at (as_str item) refl e
  where
    at : (o : Option (List ℕ)) → as_str item ≡ o → option_and_then (number_at numbers) o ≡ Some n → (n < length users) × (roles_by users item ≡ roles_at (get_or users n null))
    at None text e = absurd cc
    at (Some name) text e =
        let number = sym (are name) ∙ e in
        let is = least-some (length (names_in users)) (λ k. bytes_eq (get_or (names_in users) k []) name) n number in
        let within : n < length users = omega (arith, is.below, length-map users name_of) in (
          within,
          ap (λ t. option_map_or roles_at (find (is_called t) users) []) (ap (λ o. unwrap_or o []) text)
              ∙ ap (λ o. option_map_or roles_at o []) (find_called users name all ∙ find_numbered name_of users name ∙ ap (option_and_then (slice_get users)) number ∙ slice_get-get_or users n null within),
        )

-- a name is new where it has no number
pub new_name : (numbers : Numbers) (users : List Data) (name : List ℕ) → All HasName users → AreNumbers numbers (names_in users) → not (list_any (is_called name) users) ≡ is_none (number_at numbers name)
new_name numbers users name all are = ap not (some_called numbers users name all are) ∙ turned (number_at numbers name)
  where
    turned : (o : Option ℕ) → not (is_some o) ≡ is_none o
    turned None = refl
    turned (Some n) = refl

-- ---- one user after another

-- it hangs on which names are new alone
fits_same : (p q : List ℕ → Bool) (user : Data) → ((name : List ℕ) → p name ≡ q name) → fits_as_user p user ≡ fits_as_user q user
fits_same p q user same = ap (λ b. b && option_map_or are_names (get (codes "roles") user) false) (at (text_at (codes "user") user))
  where
    at : (o : Option (List ℕ)) → option_map_or (λ name. is_name name && p name) o false ≡ option_map_or (λ name. is_name name && q name) o false
    at None = refl
    at (Some name) = ap (λ b. is_name name && b) (same name)

-- what fits has a name
pub fits_named : (is_new : List ℕ → Bool) (user : Data) → fits_as_user is_new user ≡ true → HasName user
fits_named is_new user fits = at (text_at (codes "user") user) refl (and_parts _ _ fits).0
  where
    at : (o : Option (List ℕ)) → text_at (codes "user") user ≡ o → option_map_or (λ name. is_name name && is_new name) o false ≡ true → HasName user
    at None is named = absurd (false≢true named)
    at (Some name) is named = (name, is)

-- user i fits where its name has no number among those of the users before it
pub fits_next : (numbers : Numbers) (values : List Value) (i : ℕ) (user : Data) → All HasName (map view (take i values)) → AreNumbers numbers (names_in (map view (take i values)))
    → fits_user (map view values) i user ≡ fits_as_user (λ name. is_none (number_at numbers name)) user
fits_next numbers values i user all are =
    ap (λ users. fits_as_user (λ name. not (list_any (is_called name) users)) user) (take-map view i values)
    ∙ fits_same (λ name. not (list_any (is_called name) (map view (take i values)))) (λ name. is_none (number_at numbers name)) user (λ name. new_name numbers (map view (take i values)) name all are)
