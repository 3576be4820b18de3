-- Steps of a loop that reads each of a list with its index, up to the first that is refused.
use Rattle.std.proofs.Common.{◌≡◌, ℕ, zero, suc, ◌+◌, ◌<◌, ◌≤◌, List, [], ◌∷◌, ◌++◌, length, take, drop, Some, Result, Ok, Err, refl, sym, ap, ◌∙◌, subst, arith}
use Rattle.std.specs.List.{slice_get}
use Rattle.std.proofs.lemmas.List.{take_more, take_all, length-take-le, take-append-drop, drop_more}
use Rattle.std.proofs.lemmas.Option.{get_or_from_slice_get, slice_get_within, same_Some}
use Rattle.dcr_roles.specs.Stages.{next_stage}
use Rattle.dcr_adapt.specs.Each.{each_from}

module _ {B E : Type 0} where
  -- an element and the rest that were read
  pub ok_parts : (o : Result B E) (p : Result (List B) E) (zs : List B) → next_stage (λ y. next_stage (λ ys. Ok (y ∷ ys)) p) o ≡ Ok zs
      → (y : B) × (ys : List B) × (o ≡ Ok y) × (p ≡ Ok ys) × (y ∷ ys ≡ zs)
  ok_parts (Err e) p zs h = absurd cc
  ok_parts (Ok y) (Err e) zs h = absurd cc
  ok_parts (Ok y) (Ok ys) zs h = (y, ys, refl, refl, cc)

  after_ok : (q : Result (List B) E) → q ≡ next_stage (λ ws. Ok ws) q
  after_ok (Err e) = refl
  after_ok (Ok ws) = refl

  after_cons : (q : Result (List B) E) (y : B) (ys zs : List B) → y ∷ ys ≡ zs → next_stage (λ ws. Ok (y ∷ ws)) (next_stage (λ ws. Ok (ys ++ ws)) q) ≡ next_stage (λ ws. Ok (zs ++ ws)) q
  after_cons (Err e) y ys zs same = refl
  after_cons (Ok ws) y ys zs same = ap (λ us. Ok (us ++ ws)) same

module _ {A B E : Type 0} where
  -- more after what was read
  from_append : (read : ℕ → A → Result B E) (k : ℕ) (xs zs : List A) (ys : List B) → each_from read k xs ≡ Ok ys
      → each_from read k (xs ++ zs) ≡ next_stage (λ ws. Ok (ys ++ ws)) (each_from read (k + length xs) zs)
  from_append read k [] zs ys before =
      let none : [] ≡ ys = cc in let same : k ≡ k + 0 = omega arith in
      after_ok (each_from read k zs) ∙ ap (λ j. next_stage (λ ws. Ok ws) (each_from read j zs)) same ∙ ap (λ us. next_stage (λ ws. Ok (us ++ ws)) (each_from read (k + 0) zs)) none
  from_append read k (x ∷ xs) zs ys before =
      let p = ok_parts (read k x) (each_from read (k + 1) xs) ys before in
      let same : k + 1 + length xs ≡ k + length (x ∷ xs) = omega arith in
      ap (next_stage (λ y. next_stage (λ ws. Ok (y ∷ ws)) (each_from read (k + 1) (xs ++ zs)))) p.2
      ∙ ap (next_stage (λ ws. Ok (p.0 ∷ ws))) (from_append read (k + 1) xs zs p.1 p.3)
      ∙ after_cons (each_from read (k + 1 + length xs) zs) p.0 p.1 ys p.4
      ∙ ap (λ j. next_stage (λ ws. Ok (ys ++ ws)) (each_from read j zs)) same

  -- one more was read
  pub from_step : (read : ℕ → A → Result B E) (xs : List A) (i : ℕ) (x : A) (ys : List B) (y : B)
      → slice_get xs i ≡ Some x → each_from read 0 (take i xs) ≡ Ok ys → read i x ≡ Ok y → each_from read 0 (take (i + 1) xs) ≡ Ok (ys ++ y ∷ [])
  from_step read xs i x ys y is before here =
      let l = slice_get_within xs i x is in
      let longer : take (i + 1) xs ≡ take i xs ++ x ∷ [] = take_more xs i x l ∙ ap (λ w. take i xs ++ w ∷ []) (get_or_from_slice_get xs i x x is) in
      let room = length-take-le i xs (omega arith) in let few : 0 + length (take i xs) ≡ i = omega arith in
      ap (each_from read 0) longer ∙ from_append read 0 (take i xs) (x ∷ []) ys before
      ∙ ap (λ j. next_stage (λ ws. Ok (ys ++ ws)) (each_from read j (x ∷ []))) few
      ∙ ap (λ o. next_stage (λ ws. Ok (ys ++ ws)) (next_stage (λ w. Ok (w ∷ [])) o)) here

  -- one is refused, so the list is
  pub from_stop : (read : ℕ → A → Result B E) (xs : List A) (i : ℕ) (x : A) (ys : List B) (stop : E)
      → slice_get xs i ≡ Some x → each_from read 0 (take i xs) ≡ Ok ys → read i x ≡ Err stop → each_from read 0 xs ≡ Err stop
  from_stop read xs i x ys stop is before here =
      let l = slice_get_within xs i x is in
      let parts : xs ≡ take i xs ++ (x ∷ drop (i + 1) xs) = sym (take-append-drop i xs) ∙ ap (λ ws. take i xs ++ ws) (drop_more xs i x l) ∙ ap (λ w. take i xs ++ (w ∷ drop (i + 1) xs)) (get_or_from_slice_get xs i x x is) in
      let room = length-take-le i xs (omega arith) in let few : 0 + length (take i xs) ≡ i = omega arith in
      ap (each_from read 0) parts ∙ from_append read 0 (take i xs) (x ∷ drop (i + 1) xs) ys before
      ∙ ap (λ j. next_stage (λ ws. Ok (ys ++ ws)) (each_from read j (x ∷ drop (i + 1) xs))) few
      ∙ ap (λ o. next_stage (λ ws. Ok (ys ++ ws)) (next_stage (λ w. next_stage (λ rest. Ok (w ∷ rest)) (each_from read (i + 1) (drop (i + 1) xs))) o)) here

  -- all were read
  pub from_end : (read : ℕ → A → Result B E) (xs : List A) (i : ℕ) (o : Result (List B) E) → length xs ≤ i → each_from read 0 (take i xs) ≡ o → each_from read 0 xs ≡ o
  from_end read xs i o l e = ap (each_from read 0) (sym (take_all i xs l)) ∙ e

  -- ---- what is read: as many, and each by itself

  pub from_length : (read : ℕ → A → Result B E) (k : ℕ) (xs : List A) (ys : List B) → each_from read k xs ≡ Ok ys → length ys ≡ length xs
  from_length read k [] ys e = let none : [] ≡ ys = cc in ap length (sym none)
  from_length read k (x ∷ xs) ys e =
      let p = ok_parts (read k x) (each_from read (k + 1) xs) ys e in
      ap length (sym p.4) ∙ ap suc (from_length read (k + 1) xs p.1 p.3)

  from_each : (read : ℕ → A → Result B E) (k : ℕ) (xs : List A) (ys : List B) → each_from read k xs ≡ Ok ys
      → (i : ℕ) (x : A) → slice_get xs i ≡ Some x → (y : B) × (slice_get ys i ≡ Some y) × (read (k + i) x ≡ Ok y)
  from_each read k [] ys e i x is = absurd cc
  from_each read k (x0 ∷ xs) ys e zero x is =
      let p = ok_parts (read k x0) (each_from read (k + 1) xs) ys e in
      let same : x0 ≡ x = same_Some _ _ is in
      let here : k + 0 ≡ k = omega arith in
      (p.0, ap (λ zs. slice_get zs 0) (sym p.4), ap (λ j. read j x) here ∙ (ap (read k) (sym same) ∙ p.2))
  from_each read k (x0 ∷ xs) ys e (suc i) x is =
      let p = ok_parts (read k x0) (each_from read (k + 1) xs) ys e in
      let more = from_each read (k + 1) xs p.1 p.3 i x is in
      let here : k + suc i ≡ k + 1 + i = omega arith in
      (more.0, ap (λ zs. slice_get zs (suc i)) (sym p.4) ∙ more.1, ap (λ j. read j x) here ∙ more.2)

  -- each is what is read of the element with its index
  pub each_read : (read : ℕ → A → Result B E) (xs : List A) (ys : List B) → each_from read 0 xs ≡ Ok ys
      → (i : ℕ) (x : A) → slice_get xs i ≡ Some x → (y : B) × (slice_get ys i ≡ Some y) × (read i x ≡ Ok y)
  each_read read xs ys e i x is =
      let one = from_each read 0 xs ys e i x is in
      let here : i ≡ 0 + i = omega arith in
      (one.0, one.1, ap (λ j. read j x) here ∙ one.2)

-- ---- all pass, or one is the first that is refused

-- it was read and passes, or it was refused, and this is why
pub data OneRead {B E : Type 0} (P : Type 0) (F : E → Type 0) (r : Result B E) : Type 0 where
  went : (y : B) → r ≡ Ok y → P → OneRead P F r
  halted : (e : E) → r ≡ Err e → F e → OneRead P F r

-- each was, or the first that was not
pub data EachRead {A B E : Type 0} (P : ℕ → A → Type 0) (F : ℕ → A → E → Type 0) (n : ℕ) (xs : List A) (r : Result (List B) E) : Type 0 where
  all_read : (ys : List B) → r ≡ Ok ys → ((i : ℕ) (x : A) → slice_get xs i ≡ Some x → P (n + i) x) → EachRead P F n xs r
  first_not : (i : ℕ) (x : A) (e : E) → r ≡ Err e → slice_get xs i ≡ Some x → F (n + i) x e → ((j : ℕ) (y : A) → j < i → slice_get xs j ≡ Some y → P (n + j) y) → EachRead P F n xs r

module _ {A B E : Type 0} (P : ℕ → A → Type 0) (F : ℕ → A → E → Type 0) (read : ℕ → A → Result B E) (step : (i : ℕ) (x : A) → OneRead (P i x) (F i x) (read i x)) where
  all_pass : (n : ℕ) (x : A) (xs : List A) → P n x → ((i : ℕ) (y : A) → slice_get xs i ≡ Some y → P (n + 1 + i) y) → (i : ℕ) (y : A) → slice_get (x ∷ xs) i ≡ Some y → P (n + i) y
  all_pass n x xs here later zero y is = let same : n ≡ n + 0 = omega arith in subst (λ k. P k y) same (subst (P n) (same_Some _ _ is) here)
  all_pass n x xs here later (suc i) y is = let same : n + 1 + i ≡ n + suc i = omega arith in subst (λ k. P k y) same (later i y is)

  earlier_pass : (n : ℕ) (x : A) (xs : List A) (m : ℕ) → P n x → ((j : ℕ) (y : A) → j < m → slice_get xs j ≡ Some y → P (n + 1 + j) y) → (j : ℕ) (y : A) → j < suc m → slice_get (x ∷ xs) j ≡ Some y → P (n + j) y
  earlier_pass n x xs m here later zero y l is = let same : n ≡ n + 0 = omega arith in subst (λ k. P k y) same (subst (P n) (same_Some _ _ is) here)
  earlier_pass n x xs m here later (suc j) y l is = let same : n + 1 + j ≡ n + suc j = omega arith in subst (λ k. P k y) same (later j y (omega arith) is)

  pub each_read_from : (n : ℕ) (xs : List A) → EachRead P F n xs (each_from read n xs)
  each_read_from n [] = all_read [] refl (λ i x is. absurd cc)
  each_read_from n (x ∷ xs) = at (step n x) (each_read_from (n + 1) xs)
    where
      at : OneRead (P n x) (F n x) (read n x) → EachRead P F (n + 1) xs (each_from read (n + 1) xs) → EachRead P F n (x ∷ xs) (each_from read n (x ∷ xs))
      at (halted e f why) more =
          let same : n ≡ n + 0 = omega arith in
          first_not 0 x e (ap (next_stage (λ y. next_stage (λ ys. Ok (y ∷ ys)) (each_from read (n + 1) xs))) f) refl (subst (λ k. F k x e) same why) (λ j y l is. absurd (omega arith))
      at (went y f p) (all_read ys g all) = all_read (y ∷ ys) (rw (f, g) refl) (all_pass n x xs p all)
      at (went y f p) (first_not i z e g is why before) =
          let same : n + 1 + i ≡ n + suc i = omega arith in
          first_not (suc i) z e (rw (f, g) refl) is (subst (λ k. F k z e) same why) (earlier_pass n x xs i p before)
