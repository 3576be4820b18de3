-- Values in place, when the last one is taken off, and when one more comes.
use Rattle.std.proofs.Common.{◌⊎◌, inl, inr, ⊎_elim, ◌≡◌, ℕ, zero, suc, List, [], ◌∷◌, ◌++◌, length, sym, refl, ap, ◌∙◌, subst, Some}
use Rattle.std.specs.Prelude.{slice_get}
use Rattle.dcr_lock.specs.Placing.{StandInPlace}

module _ {T : Type 0} where
  pub none_stand : (belongs : ℕ → T → Type 0) → StandInPlace belongs []
  none_stand belongs place value at = absurd (cc)

  get_front : (xs ys : List T) (k : ℕ) (x : T) → slice_get xs k ≡ Some x → slice_get (xs ++ ys) k ≡ Some x
  get_front [] ys k x e = absurd (cc)
  get_front (y ∷ xs) ys zero x e = e
  get_front (y ∷ xs) ys (suc k) x e = get_front xs ys k x e

  get_last : (xs : List T) (x : T) → slice_get (xs ++ x ∷ []) (length xs) ≡ Some x
  get_last [] x = refl
  get_last (y ∷ xs) x = get_last xs x

  get_either : (xs : List T) (x y : T) (k : ℕ) → slice_get (xs ++ x ∷ []) k ≡ Some y → (slice_get xs k ≡ Some y) ⊎ ((k ≡ length xs) × (x ≡ y))
  get_either [] x y zero e = inr (refl, cc)
  get_either [] x y (suc k) e = absurd (cc)
  get_either (z ∷ xs) x y zero e = inl e
  get_either (z ∷ xs) x y (suc k) e = ⊎_elim (λ h. inl h) (λ h. inr (ap suc h.0, h.1)) (get_either xs x y k e)

  module _ (belongs : ℕ → T → Type 0) (all front : List T) (last : T) where
    -- the others stay in place
    pub front_stands : StandInPlace belongs all → all ≡ front ++ last ∷ [] → StandInPlace belongs front
    front_stands stand is place value at = stand place value (ap (λ (xs : List T). slice_get xs place) is ∙ get_front front (last ∷ []) place value at)

    -- the last one belongs at the number of the others
    pub last_belongs : (n : ℕ) → StandInPlace belongs all → all ≡ front ++ last ∷ [] → n ≡ length front → belongs n last
    last_belongs n stand is long = subst (λ (k : ℕ). belongs k last) (sym long) (stand (length front) last (ap (λ (xs : List T). slice_get xs (length front)) is ∙ get_last front last))

  -- values in place, and one more behind them that belongs at the number of them
  pub one_more_stands : (belongs : ℕ → T → Type 0) (xs : List T) (x : T) → StandInPlace belongs xs → belongs (length xs) x → StandInPlace belongs (xs ++ x ∷ [])
  one_more_stands belongs xs x stand fits place value at =
      ⊎_elim
      (λ h. stand place value h)
      (λ h. subst (λ (n : ℕ). belongs n value) (sym h.0) (subst (λ (v : T). belongs (length xs) v) h.1 fits))
      (get_either xs x value place at)
