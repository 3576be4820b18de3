-- The words of a number by their places are those that its generator gives one after the other.
use Rattle.std.proofs.Common.{◌≡◌, ℕ, zero, suc, ◌+◌, ◌∷◌, map, refl, ap, ◌∙◌, add-one}
use Rattle.std.specs.List.{range_with_len}
use Rattle.rand_core.specs.Steps.{first_words}
use Rattle.rand_pcg.specs.Lcg.{Lcg, advance, state_after}
use Rattle.rand_pcg.specs.Pcg.{multiplier_64, pcg32}
use Rattle.dcr_load.specs.Each.{each_below}
use Rattle.dcr_load.specs.Words.{generator, word}

shifted : (f : ℕ → ℕ) (a n : ℕ) → map f (range_with_len (a + 1) n) ≡ map (λ i. f (suc i)) (range_with_len a n)
shifted f a zero = refl
shifted f a (suc n) = ap (λ i. f i ∷ map f (range_with_len (a + 1 + 1) n)) (add-one a) ∙ ap (λ ws. f (suc a) ∷ ws) (shifted f (a + 1) n)

words_from : (n : ℕ) (g : Lcg) → map (λ i. (pcg32 (advance 64 multiplier_64 i g)).0) (range_with_len 0 n) ≡ first_words pcg32 n g
unfolding state_after first_words
words_from zero g = refl
words_from (suc n) g = ap (λ ws. (pcg32 g).0 ∷ ws) (shifted (λ i. (pcg32 (advance 64 multiplier_64 i g)).0) 0 n ∙ words_from n (pcg32 g).1)

pub words_in_order : (number count : ℕ) → each_below count (word number) ≡ first_words pcg32 count (generator number)
unfolding each_below word
words_in_order number count = words_from count (generator number)
