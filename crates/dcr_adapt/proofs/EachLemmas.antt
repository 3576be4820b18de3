-- Each of a list, read one after another: the first that is refused, both ways, and what is read where none is.
use Rattle.std.proofs.Common.{◌≡◌, ℕ, suc, ◌+◌, ◌<◌, inl, inr, List, [], ◌∷◌, length, Some, Result, Ok, Err, refl, sym, ap, subst, ◌∙◌, arith}
use Rattle.std.specs.List.{slice_get}
use Rattle.std.proofs.lemmas.Bool.{cases_lt}
use Rattle.std.proofs.lemmas.Option.{same_Some}
use Rattle.dcr_roles.specs.Stages.{next_stage}
use Rattle.dcr_adapt.specs.Each.{each_from}
use Rattle.dcr_adapt.proofs.FromLemmas.{OneRead, went, halted, EachRead, all_read, first_not, each_read_from}

module _ {A B E : Type 0} (read : ℕ → A → Result B E) where
  -- each before this one was read
  abbrev pub AreRead : List A → ℕ → Type 0
  AreRead xs i = (j : ℕ) (x : A) → j < i → slice_get xs j ≡ Some x → (y : B) × (read j x ≡ Ok y)

  -- this is the first that is refused, and this is why
  pub record IsFirstRefused (xs : List A) (e : E) : Type 0 where
    pub i : ℕ
    pub x : A
    pub at : slice_get xs i ≡ Some x
    pub refused : read i x ≡ Err e
    pub earlier : AreRead xs i

  abbrev Passes : ℕ → A → Type 0
  Passes i x = (y : B) × (read i x ≡ Ok y)

  abbrev Fails : ℕ → A → E → Type 0
  Fails i x e = read i x ≡ Err e

  one_read : (i : ℕ) (x : A) → OneRead (Passes i x) (Fails i x) (read i x)
  one_read i x = at (read i x) refl
    where
      at : (r : Result B E) → read i x ≡ r → OneRead (Passes i x) (Fails i x) (read i x)
      at (Ok y) e = went y e (y, e)
      at (Err stop) e = halted stop e e

  from_zero : (i : ℕ) → 0 + i ≡ i
  from_zero i = omega arith

  first_of : (xs : List A) (r : Result (List B) E) (e : E) → EachRead Passes Fails 0 xs r → r ≡ Err e → IsFirstRefused xs e
  first_of xs r e (all_read ys is all) refused = absurd (let bad = sym is ∙ refused in cc)
  first_of xs r e (first_not i x stop is at fails before) refused =
      let same : stop ≡ e = let whole = sym is ∙ refused in cc in
      record {
        i = i;
        x = x;
        at = at;
        refused = subst (λ n. read n x ≡ Err e) (from_zero i) (fails ∙ ap Err same);
        earlier = λ j y l here. let passes = before j y l here in (passes.0, subst (λ n. read n y ≡ Ok passes.0) (from_zero j) passes.1);
      }

  -- where the list is refused, there is one
  pub first_refused : (xs : List A) (e : E) → each_from read 0 xs ≡ Err e → IsFirstRefused xs e
  first_refused xs e refused = first_of xs (each_from read 0 xs) e (each_read_from Passes Fails read one_read 0 xs) refused

  alike : (xs : List A) (r : Result (List B) E) (e : E) → EachRead Passes Fails 0 xs r → IsFirstRefused xs e → r ≡ Err e
  alike xs r e (all_read ys is all) first =
      let passes = all first.i first.x first.at in
      absurd (let bad = sym first.refused ∙ subst (λ n. read n first.x ≡ Ok passes.0) (from_zero first.i) passes.1 in cc)
  alike xs r e (first_not i x stop is at fails before) first = elim (cases_lt i first.i) [
    | inl less ↦
        let passes = first.earlier i x less at in
        absurd (let bad = sym passes.1 ∙ subst (λ n. read n x ≡ Err stop) (from_zero i) fails in cc)
    | inr not_less ↦ elim (cases_lt first.i i) [
      | inl more ↦
          let passes = before first.i first.x more first.at in
          absurd (let bad = sym first.refused ∙ subst (λ n. read n first.x ≡ Ok passes.0) (from_zero first.i) passes.1 in cc)
      | inr not_more ↦
          let same : i ≡ first.i = omega (arith, not_less, not_more) in
          let one : x ≡ first.x = same_Some _ _ (sym at ∙ ap (slice_get xs) same ∙ first.at) in
          let here : read i x ≡ Err stop = subst (λ n. read n x ≡ Err stop) (from_zero i) fails in
          let there : read i x ≡ Err e = ap (λ n. read n x) same ∙ ap (read first.i) one ∙ first.refused in
          let whole = sym here ∙ there in let stop_is : stop ≡ e = cc in
          is ∙ ap Err stop_is
    ]
  ]

  -- where there is one, the list is refused so
  pub refused_where : (xs : List A) (e : E) → IsFirstRefused xs e → each_from read 0 xs ≡ Err e
  refused_where xs e first = alike xs (each_from read 0 xs) e (each_read_from Passes Fails read one_read 0 xs) first

  given_from : (k : ℕ) (xs : List A) (ys : List B) → length ys ≡ length xs → ((i : ℕ) (x : A) (y : B) → slice_get xs i ≡ Some x → slice_get ys i ≡ Some y → read (k + i) x ≡ Ok y)
      → each_from read k xs ≡ Ok ys
  given_from k [] [] many each = refl
  given_from k [] (y ∷ ys) many each = absurd (omega (arith, many))
  given_from k (x ∷ xs) [] many each = absurd (omega (arith, many))
  given_from k (x ∷ xs) (y ∷ ys) many each =
      let here : read k x ≡ Ok y = let same : k + 0 ≡ k = omega arith in subst (λ n. read n x ≡ Ok y) same (each 0 x y refl refl) in
      let later : each_from read (k + 1) xs ≡ Ok ys =
      given_from (k + 1) xs ys (omega (arith, many)) (λ i z w at beside. let same : k + suc i ≡ k + 1 + i = omega arith in subst (λ n. read n z ≡ Ok w) same (each (suc i) z w at beside)) in
      ap (next_stage (λ v. next_stage (λ vs. Ok (v ∷ vs)) (each_from read (k + 1) xs))) here ∙ ap (next_stage (λ vs. Ok (y ∷ vs))) later

  -- where each is read, all are
  pub given_where : (xs : List A) (ys : List B) → length ys ≡ length xs → ((i : ℕ) (x : A) (y : B) → slice_get xs i ≡ Some x → slice_get ys i ≡ Some y → read i x ≡ Ok y)
      → each_from read 0 xs ≡ Ok ys
  given_where xs ys many each = given_from 0 xs ys many (λ i x y at beside. subst (λ n. read n x ≡ Ok y) (sym (from_zero i)) (each i x y at beside))
