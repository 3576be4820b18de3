-- The laws on roles.
use Rattle.std.proofs.Common.{◌≡◌, ℕ, Bool, true, false, not, cond, ◌||◌, List, [], ◌∷◌, length, get_or, map, filter, Some, None, inl, inr, refl, ap, ◌∙◌, arith}
use Rattle.std.specs.List.{All, list_any}
use Rattle.std.specs.Str.{bytes_eq}
use Rattle.std.proofs.lemmas.Bool.{cases_Bool, cases_lt}
use Rattle.std.proofs.lemmas.List.{get_or-map, get_or_past, length-map}
use Rattle.std.proofs.lemmas.Slice.Eq.{bytes_eq-Decides}
use Rattle.dcr_journal.specs.declared.call.Call.TheVariants.{Exec, Look, Enabled, Accepting}
use Rattle.dcr_nest.specs.Tree.{Parents, atoms}
use Rattle.dcr_policy.specs.Deny.{role_denied}
use Rattle.dcr_policy.specs.Laws.{first_kept, NothingAskedIsAllowed, RepeatsDoNotCount, RolesComeFromAbove}
use Rattle.dcr_policy.specs.Upward.{upward}
use Rattle.dcr_policy.proofs.UpwardLemmas.{upward-any, upward_none}

-- ---- roles that stand twice

-- what is left out is found in the role that stands before it
left_out : (p : List ℕ → Bool) (role : List ℕ) (rest : List (List ℕ)) → (p role || list_any p (filter (λ other. not (bytes_eq role other)) rest)) ≡ (p role || list_any p rest)
left_out p role [] = refl
left_out p role (other ∷ rest) = elim (cases_Bool (bytes_eq role other)) [
  | inl same ↦ (
      let is : role ≡ other = (bytes_eq-Decides role other).0 same in
      ap (λ t. p role || list_any p (cond (not t) (other ∷ filter (λ other. not (bytes_eq role other)) rest) (filter (λ other. not (bytes_eq role other)) rest))) same
      ∙ left_out p role rest
      ∙ twice (p role) (p other) (list_any p rest) (ap p is))
  | inr apart ↦
      ap (λ t. p role || list_any p (cond (not t) (other ∷ filter (λ other. not (bytes_eq role other)) rest) (filter (λ other. not (bytes_eq role other)) rest))) apart
      ∙ behind (p role) (p other) (list_any p (filter (λ other. not (bytes_eq role other)) rest)) (list_any p rest) (left_out p role rest)
]
  where
    twice : (a b c : Bool) → a ≡ b → (a || c) ≡ (a || (b || c))
    twice true b c e = refl
    twice false b c e = ap (λ t. t || c) e

    behind : (a b c d : Bool) → (a || c) ≡ (a || d) → (a || (b || c)) ≡ (a || (b || d))
    behind true b c d e = refl
    behind false b c d e = ap (λ t. b || t) e

kept_any : (p : List ℕ → Bool) (asked : List (List ℕ)) → list_any p (first_kept asked) ≡ list_any p asked
kept_any p [] = refl
kept_any p (role ∷ rest) = left_out p role (first_kept rest) ∙ ap (λ t. p role || t) (kept_any p rest)

pub repeats_law : RepeatsDoNotCount
repeats_law [] had = refl
repeats_law (role ∷ rest) had = ap (λ t. cond t None (Some role)) (kept_any (λ role. list_any (bytes_eq role) had) (role ∷ rest))

-- ---- where roles come from

pub above_law : RolesComeFromAbove
above_law passes parents lists x many = upward-any passes parents lists x many

-- ---- nothing is asked

no_row : (parents : Parents) (own : List (List (List ℕ))) (e : ℕ) → All (λ roles. roles ≡ []) own → get_or (map (upward parents own) (atoms parents)) e [] ≡ []
no_row parents own e none = elim (cases_lt e (length (atoms parents))) [
  | inl within ↦ get_or-map (upward parents own) (atoms parents) e 0 [] within ∙ upward_none parents own (get_or (atoms parents) e 0) none
  | inr past ↦ get_or_past (map (upward parents own) (atoms parents)) e [] (omega (arith, length-map (atoms parents) (upward parents own)))
]

pub nothing_law : NothingAskedIsAllowed
nothing_law parents own users by session (Exec i e) none = ap (λ asked. role_denied asked (get_or (map (λ user. get_or users user []) by) session [])) (no_row parents own e none)
nothing_law parents own users by session (Look i) none = refl
nothing_law parents own users by session (Enabled i) none = refl
nothing_law parents own users by session Accepting none = refl
