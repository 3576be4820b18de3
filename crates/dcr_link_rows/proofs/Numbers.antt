-- Items with the numbers from 0 on.
use Rattle.std.proofs.Common.{◌≡◌, ℕ, zero, suc, ◌+◌, ◌-◌, List, [], ◌∷◌, ◌++◌, refl, sym, ◌∙◌, ap, arith, add-zero}
use Rattle.std.specs.Prelude.{map}
use Rattle.std.specs.List.{range_with_len}
use Rattle.std.proofs.lemmas.List.{map-append}
use Rattle.dcr_serve.specs.Left.{numbers_from}

-- one number more
range_more : (first n : ℕ) → range_with_len first (suc n) ≡ range_with_len first n ++ (first + n) ∷ []
range_more first zero = rw add-zero refl
range_more first (suc n) =
    let same : first + 1 + n ≡ first + suc n = omega arith in
    ap (λ l. first ∷ l) (range_more (first + 1) n ∙ ap (λ k. range_with_len (first + 1) n ++ k ∷ []) same)

-- one item more, with the next number
pub next_item : {I : Type 0} (number : I → ℕ) (items more : List I) (item : I) (n : ℕ) → map number items ≡ numbers_from 0 n
    → more ≡ items ++ item ∷ [] → number item ≡ n → map number more ≡ numbers_from 0 (n + 1)
next_item number items more item n are is has =
    let all : n - 0 ≡ n = omega arith in
    let next : n + 1 - 0 ≡ suc n = omega arith in
    let last : 0 + n ≡ n = omega arith in
    rw next (
    ap (map number) is ∙ map-append number items (item ∷ [])
    ∙ ap (λ l. l ++ number item ∷ []) (rw all at are) ∙ ap (λ k. range_with_len 0 n ++ k ∷ []) (has ∙ sym last) ∙ sym (range_more 0 n))
