-- Lists over a range of numbers, and options that are told by a test.
use Rattle.std.proofs.Common.{◌≡◌, ℕ, zero, suc, ◌+◌, ◌<◌, ◌≤◌, Bool, true, false, ◌&&◌, cond, ◌∷◌, map, Some, None, refl, ap, ap₂, arith}
use Rattle.std.specs.List.{range_with_len}

-- what agrees on the range makes one list
pub range_ext : {A : Type 0} (f g : ℕ → A) (a n : ℕ) → ((e : ℕ) → a ≤ e → e < a + n → f e ≡ g e) → map f (range_with_len a n) ≡ map g (range_with_len a n)
range_ext f g a zero same = refl
range_ext f g a (suc n) same =
    ap₂ (λ x xs. x ∷ xs) (same a (omega arith) (omega arith)) (range_ext f g (a + 1) n (λ e low high. same e (omega arith) (omega arith)))

-- options that are there where one test passes
pub where_true : {A : Type 0} (b : Bool) (x y : A) → (b ≡ true → x ≡ y) → cond b (Some x) None ≡ cond b (Some y) None
where_true true x y same = ap Some (same refl)
where_true false x y same = refl

-- a test that follows from the first can be left out behind it
pub left_out : (p r t : Bool) → (p ≡ true → t ≡ true) → (p && (r && t)) ≡ (p && r)
left_out true true t h = h refl
left_out true false t h = refl
left_out false r t h = refl

-- and repeated
pub twice : (r t : Bool) → ((r && t) && t) ≡ (r && t)
twice true true = refl
twice true false = refl
twice false t = refl
