-- The fields of a record, and what is told by them.
use Rattle.std.proofs.Common.{◌≡◌, ℕ, zero, suc, Bool, true, false, cond, List, [], ◌∷◌, Option, Some, None, refl, ap}
use Rattle.std.specs.List.{slice_get}
use Rattle.std.specs.Option.{option_map_or, option_and_then}
use Rattle.std.specs.Prelude.{IsUtf8, MatchResult, Result, Ok, Err, option_map}
use Rattle.std.specs.Result.{result_ok}
use Rattle.std.specs.Str.{IsValidUpTo, is_utf8, valid_up_to}
use Rattle.std.specs.Borrow.{Bor}
use Rattle.std.specs.declared.str.Utf8Error.{Utf8Error}
use Rattle.std.proofs.lemmas.Bool.{false_from_ne_true}
use Rattle.std.proofs.lemmas.Str.{IsUtf8-from_is_utf8, is_utf8-from_IsUtf8}
use Rattle.csv.specs.Records.{field_at}

-- the field at a place, in the words of lists
pub field_at-slice_get : (row : List (List ℕ)) (i : ℕ) → field_at row i ≡ slice_get row i
unfolding field_at
field_at-slice_get [] i = refl
field_at-slice_get (f ∷ fs) zero = refl
field_at-slice_get (f ∷ fs) (suc i) = field_at-slice_get fs i

-- what passes a test
abbrev pub passing : (List ℕ → Bool) → List ℕ → Option (List ℕ)
passing p bytes = cond (p bytes) (Some bytes) None

-- where nothing passes, the test fails
pub none_passes : (p : List ℕ → Bool) (o : Option (List ℕ)) → option_and_then (passing p) o ≡ None → option_map_or p o false ≡ false
none_passes p None e = refl
none_passes p (Some bytes) e = by_test (p bytes) e
  where
    by_test : (b : Bool) → cond b (Some bytes) None ≡ None → b ≡ false
    by_test true e = cc e
    by_test false e = refl

-- what passes is there, and the test holds of it
pub one_passes : (p : List ℕ → Bool) (o : Option (List ℕ)) (found : List ℕ) → option_and_then (passing p) o ≡ Some found → (o ≡ Some found) × (option_map_or p o false ≡ true)
one_passes p None found e = cc e
one_passes p (Some bytes) found e = by_test (p bytes) e
  where
    by_test : (b : Bool) → cond b (Some bytes) None ≡ Some found → (Some bytes ≡ Some found) × (b ≡ true)
    by_test true e = (e, refl)
    by_test false e = cc e

-- bytes that are read as text are told where they are UTF-8
pub text_passes : (bytes : List ℕ) (r : Result (Bor (List ℕ)) Utf8Error)
    → MatchResult r (λ s. (s.now ≡ bytes) × IsUtf8 bytes) (λ e. ¬ (IsUtf8 bytes) × IsValidUpTo bytes (valid_up_to e))
    → option_map (λ (s : Bor (List ℕ)). s.now) (result_ok r) ≡ passing is_utf8 bytes
text_passes bytes (Ok s) h = rw (is_utf8-from_IsUtf8 bytes h.1) (ap Some h.0)
text_passes bytes (Err e) h = rw (false_from_ne_true (is_utf8 bytes) (λ t. h.0 (IsUtf8-from_is_utf8 bytes t))) refl
