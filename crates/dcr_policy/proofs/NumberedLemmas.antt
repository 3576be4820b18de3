-- Roles by their numbers among names of which no two are one: what is told of the numbers is told of the names.
use Rattle.std.proofs.Common.{◌≡◌, ℕ, ◌<◌, true, false, cond, ◌||◌, eqb, List, [], ◌∷◌, length, get_or, None, inl, inr, refl, sym, ap, ◌∙◌, arith}
use Rattle.std.specs.List.{All, list_any, slice_get}
use Rattle.std.specs.Option.{option_map}
use Rattle.std.specs.Str.{bytes_eq}
use Rattle.std.proofs.lemmas.Bool.{cases_order, eq-eqb, ne_eqb}
use Rattle.std.proofs.lemmas.Cmp.{nat_list_eq_equiv}
use Rattle.std.proofs.lemmas.List.Elements.{All-head, All-tail}
use Rattle.std.proofs.lemmas.Option.{slice_get-map}
use Rattle.std.proofs.lemmas.Slice.Eq.{bytes_eq-Decides}
use Rattle.dcr_graph.specs.Names.{AreDistinct}
use Rattle.dcr_policy.specs.Deny.{shares_role, role_denied}
use Rattle.dcr_policy.specs.Numbered.{named, is_in, shares}

-- two names are one where their numbers are
same_name : (names : List (List ℕ)) → AreDistinct names → (i j : ℕ) → i < length names → j < length names → bytes_eq (get_or names i []) (get_or names j []) ≡ eqb i j
same_name names apart i j hi hj = elim (cases_order i j) [
  | inl same ↦ (bytes_eq-Decides (get_or names i []) (get_or names j [])).1 (ap (λ k. get_or names k []) same) ∙ sym (eq-eqb i j same)
  | inr (inl before) ↦ apart i j before hj ∙ sym (ne_eqb i j (λ same. absurd (omega arith)))
  | inr (inr past) ↦ nat_list_eq_equiv.symm (get_or names i []) (get_or names j []) ∙ apart j i past hi ∙ sym (ne_eqb i j (λ same. absurd (omega arith)))
]

in_named : (names : List (List ℕ)) → AreDistinct names → (i : ℕ) (had : List ℕ) → i < length names → All (λ number. number < length names) had
    → list_any (bytes_eq (get_or names i [])) (named names had) ≡ is_in had i
in_named names apart i [] here below = refl
in_named names apart i (h ∷ had) here below =
    ap (λ t. t || list_any (bytes_eq (get_or names i [])) (named names had)) (same_name names apart i h here (All-head (λ number. number < length names) h had below))
    ∙ ap (λ t. eqb i h || t) (in_named names apart i had here (All-tail (λ number. number < length names) h had below))

pub shares_named : (names : List (List ℕ)) → AreDistinct names → (asked had : List ℕ) → All (λ number. number < length names) asked → All (λ number. number < length names) had
    → shares_role (named names asked) (named names had) ≡ shares asked had
shares_named names apart [] had below more = refl
shares_named names apart (a ∷ asked) had below more =
    ap (λ t. t || shares_role (named names asked) (named names had)) (in_named names apart a had (All-head (λ number. number < length names) a asked below) more)
    ∙ ap (λ t. is_in had a || t) (shares_named names apart asked had (All-tail (λ number. number < length names) a asked below) more)

pub first_named : (names : List (List ℕ)) (numbers : List ℕ) → slice_get (named names numbers) 0 ≡ option_map (λ number. get_or names number []) (slice_get numbers 0)
first_named names numbers = slice_get-map (λ number. get_or names number []) numbers 0

-- the first that is asked for, where none is shared
pub denied_is : (asked had : List (List ℕ)) → role_denied asked had ≡ cond (shares_role asked had) None (slice_get asked 0)
denied_is [] had = refl
denied_is (first ∷ rest) had = refl

pub denied_not : (asked had : List (List ℕ)) → shares_role asked had ≡ true → None ≡ role_denied asked had
denied_not asked had e = sym (denied_is asked had ∙ ap (λ t. cond t None (slice_get asked 0)) e)

pub denied_first : (asked had : List (List ℕ)) → shares_role asked had ≡ false → slice_get asked 0 ≡ role_denied asked had
denied_first asked had e = sym (denied_is asked had ∙ ap (λ t. cond t None (slice_get asked 0)) e)
