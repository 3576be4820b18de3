-- The number that a word spells.
use Rattle.std.proofs.Common.{◌≡◌, ℕ, ◌<◌, ◌≤◌, ◌+◌, ◌^◌, arith, Bool, true, false, ◌&&◌, nat_le, List, [], ◌∷◌, map, codes, decimal, String, string_bytes, Option, Some, None, IfSome, option_and_then, option_map, if◌then◌else◌, refl, sym, ap, subst, ◌∙◌}
use Rattle.std.specs.Str.{bytes_eq}
use Rattle.std.specs.declared.alloc.Global.{Global}
use Rattle.std.proofs.lemmas.Bool.{le-leb, leb-true}
use Rattle.std.proofs.lemmas.Slice.Eq.{bytes_eq-Decides}
use Rattle.dcr_set.proofs.LeastLemmas.{least-from, least-none_from, least-some}
use Rattle.dcr_app.specs.Command.{HasNumbers, IsWay, alone, command_in, command_spelled, executed, number_alone, number_behind, number_in, part_with, store_in, workers_in}
use Rattle.dcr_app.specs.declared.command.Command.{Command}
use Rattle.dcr_app.specs.declared.command.Command.TheVariants.{Load, Read}
use Rattle.dcr_app.specs.declared.command.Reading.{Reading}
use Rattle.dcr_app.specs.declared.command.Reading.TheVariants.{Replay, Nodes, Conform, Adapt}
use Rattle.dcr_app.specs.declared.command.Way.{Way}
use Rattle.dcr_app.specs.declared.command.Way.TheVariants.{Run, Serve}

-- two numbers have not one decimal form
abbrev pub OneNumber : Type 0
OneNumber = (m n : ℕ) → m < 2 ^ 64 → n < 2 ^ 64 → decimal m ≡ decimal n → m ≡ n

both : (a b : Bool) → (a && b) ≡ true → (a ≡ true) × (b ≡ true)
both true true is = (refl, refl)
both true false is = absurd cc
both false b is = absurd cc

not_both : (a b : Bool) → ((a ≡ true) → (b ≡ true) → ⊥) → (a && b) ≡ false
not_both true true never = absurd (never refl refl)
not_both true false never = refl
not_both false b never = refl

same_bytes : (xs ys : List ℕ) → bytes_eq xs ys ≡ true → xs ≡ ys
same_bytes xs ys is = (bytes_eq-Decides xs ys).0 is

pub spelled : OneNumber → (first last : ℕ) → last < 2 ^ 64 → (word : List ℕ) (n : ℕ) → word ≡ decimal n → first ≤ n → n ≤ last → number_in first last word ≡ Some n
unfolding number_in
spelled one first last fits word n is some within =
    least-from (last + 1) (λ k. nat_le first k && bytes_eq (decimal k) word) n (record {
      below = omega (arith, within);
      passes = ap (λ b. b && bytes_eq (decimal n) word) (le-leb first n some) ∙ (bytes_eq-Decides (decimal n) word).1 (sym is);
      none_before = λ j before. not_both (nat_le first j) (bytes_eq (decimal j) word) (λ _ same.
          let equal : j ≡ n = one j n (omega (arith, before, within, fits)) (omega (arith, within, fits)) (same_bytes (decimal j) word same ∙ is) in absurd (omega (arith, equal, before)));
    })

pub unspelled : (first last : ℕ) (word : List ℕ) → ((n : ℕ) → first ≤ n → n ≤ last → word ≡ decimal n → ⊥) → number_in first last word ≡ None
unfolding number_in
unspelled first last word never =
    least-none_from (last + 1) (λ k. nat_le first k && bytes_eq (decimal k) word)
    (λ j below. not_both (nat_le first j) (bytes_eq (decimal j) word) (λ some same. never j (leb-true first j some) (omega (arith, below)) (sym (same_bytes (decimal j) word same))))

-- a number that is none of these
pub other_number : OneNumber → (first last : ℕ) → last < 2 ^ 64 → (word : List ℕ) (n : ℕ) → n < 2 ^ 64 → word ≡ decimal n → (first ≤ n → n ≤ last → ⊥) → number_in first last word ≡ None
other_number one first last fits word n small is none =
    unspelled first last word (λ k some within same. let equal : k ≡ n = one k n (omega (arith, within, fits)) small (sym same ∙ is) in none (subst (λ m. first ≤ m) equal some) (subst (λ m. m ≤ last) equal within))

-- ---- the numbers of a command

and_then : {A B : Type 0} (P : A → Type 0) (Q : B → Type 0) (o : Option A) (f : A → Option B) → IfSome o P → ((x : A) → P x → IfSome (f x) Q) → IfSome (option_and_then f o) Q
and_then P Q None f it more = tt
and_then P Q (Some x) f it more = more x it

mapped : {A B : Type 0} (Q : B → Type 0) (o : Option A) (f : A → B) → IfSome o (λ x. Q (f x)) → IfSome (option_map f o) Q
mapped Q None f it = tt
mapped Q (Some x) f it = it

one_of : {A : Type 0} (Q : A → Type 0) (b : Bool) (x y : Option A) → IfSome x Q → IfSome y Q → IfSome (if b then x else y) Q
one_of Q true x y here there = here
one_of Q false x y here there = there

abbrev IsUpTo : ℕ → ℕ → Type 0
IsUpTo most n = (0 < n) × (n ≤ most)

up_to : (most : ℕ) (word : List ℕ) → IfSome (number_in 1 most word) (IsUpTo most)
unfolding number_in
up_to most word = found (number_in 1 most word) refl
  where
    found : (o : Option ℕ) → number_in 1 most word ≡ o → IfSome o (IsUpTo most)
    found None is = tt
    found (Some n) is =
        let it = least-some (most + 1) (λ k. nat_le 1 k && bytes_eq (decimal k) word) n is in let below = it.below in
        let some : 1 ≤ n = leb-true 1 n (both (nat_le 1 n) (bytes_eq (decimal n) word) it.passes).0 in (omega (arith, some), omega (arith, below))

behind : (name : List ℕ) (most : ℕ) (words : List (List ℕ)) → IfSome (number_behind name most words) (λ it. IsUpTo most it.0)
behind name most [] = tt
behind name most (word ∷ []) = tt
behind name most (word ∷ number ∷ rest) =
    one_of (λ it. IsUpTo most it.0) (bytes_eq word name) _ _ (mapped (λ it. IsUpTo most it.0) (number_in 1 most number) (λ n. (n, rest)) (up_to most number)) tt

workers : (words : List (List ℕ)) → IfSome (workers_in words) (λ it. IsUpTo 64 it.0)
workers [] = (omega arith, omega arith)
workers (word ∷ rest) = one_of (λ it. IsUpTo 64 it.0) (bytes_eq word (codes "--workers")) _ _ (behind (codes "--workers") 64 (word ∷ rest)) (omega arith, omega arith)

has_executed : (way : Way) (store : Option Bool) → IsWay way → IfSome (executed way store) HasNumbers
has_executed way None is = tt
has_executed way (Some store) is = is

has_alone : (reading : Reading) (words : List (List ℕ)) → HasNumbers (Read reading) → IfSome (alone reading words) HasNumbers
has_alone reading [] is = is
has_alone reading (word ∷ words) is = tt

has_part : (words : List (List ℕ)) → IfSome (part_with words) HasNumbers
has_part [] = tt
has_part (site ∷ []) = tt
has_part (site ∷ word ∷ words) = tt

has_spelled : (words : List (List ℕ)) → IfSome (command_spelled words) HasNumbers
has_spelled [] = tt
has_spelled (word ∷ rest) =
    let either = one_of HasNumbers in let then_executed = and_then (λ (it : ℕ × List (List ℕ)). IsUpTo 64 it.0) HasNumbers in
    either (bytes_eq word (codes "run")) _ _ (then_executed (workers_in rest) _ (workers rest) (λ it below. has_executed (Run it.0) (store_in it.1) below))
    (either (bytes_eq word (codes "serve")) _ _
    (and_then (λ (it : ℕ × List (List ℕ)). IsUpTo 1024 it.0) HasNumbers (number_behind (codes "--sessions") 1024 rest) _ (behind (codes "--sessions") 1024 rest)
    (λ sessions is. then_executed (number_behind (codes "--workers") 64 sessions.1) _ (behind (codes "--workers") 64 sessions.1) (λ it below. has_executed (Serve sessions.0 it.0) (store_in it.1) (is, below))))
    (either (bytes_eq word (codes "replay")) _ _ (has_alone Replay rest tt)
    (either (bytes_eq word (codes "load")) _ _ (mapped HasNumbers (number_alone rest) (λ number. Load number) (any_some (number_alone rest)))
    (either (bytes_eq word (codes "nodes")) _ _ (mapped HasNumbers (number_alone rest) (λ number. Read (Nodes number)) (any_some (number_alone rest)))
    (either (bytes_eq word (codes "conform")) _ _ (has_alone Conform rest tt)
    (either (bytes_eq word (codes "adapt")) _ _ (has_alone Adapt rest tt) (either (bytes_eq word (codes "part")) _ _ (has_part rest) tt)))))))
  where
    any_some : (o : Option ℕ) → IfSome o (λ _. Unit {0})
    any_some None = tt
    any_some (Some n) = tt

pub has_numbers : (words : List (String Global)) (command : Command) → command_in words ≡ Some command → HasNumbers command
has_numbers words command is = subst (λ (o : Option Command). IfSome o HasNumbers) is (has_spelled (map string_bytes words))
