-- The list of what a function gives at each number below a bound.
use Rattle.std.proofs.Common.{◌≡◌, ℕ, zero, suc, ◌+◌, ◌*◌, ◌<◌, ◌≤◌, List, [], ◌∷◌, ◌++◌, length, get_or, map, Option, Some, None, refl, sym, ap, subst, ◌∙◌, add-one, arith}
use Rattle.std.specs.List.{All, filter_map, cons_option, range_with_len, sum_by}
use Rattle.std.specs.Option.{option_to_list}
use Rattle.std.proofs.lemmas.List.{append-nil, length-append}
use Rattle.std.proofs.lemmas.List.Sums.{sum_by_push}
use mathlib.Core.List.{map-map}
use Rattle.std.proofs.lemmas.List.Elements.{All-nil, All-push}
use Rattle.std.proofs.lemmas.List.FromFn.{length-map-range_with_len, get_or-map-range_with_len, map-range_with_len_more}
use Rattle.dcr_load.specs.Each.{each_below, some_of_each_below}

pub each_below-none : {A : Type 0} (f : ℕ → A) → each_below 0 f ≡ []
unfolding each_below
each_below-none f = refl

-- one number more
pub each_below-more : {A : Type 0} (n : ℕ) (f : ℕ → A) → each_below (n + 1) f ≡ each_below n f ++ f n ∷ []
unfolding each_below
each_below-more n f = map-range_with_len_more f 0 n n (omega arith)

pub length-each_below : {A : Type 0} (n : ℕ) (f : ℕ → A) → length (each_below n f) ≡ n
unfolding each_below
length-each_below n f = length-map-range_with_len f 0 n

pub get_or-each_below : {A : Type 0} (n : ℕ) (f : ℕ → A) (i : ℕ) (d : A) → i < n → get_or (each_below n f) i d ≡ f i
unfolding each_below
get_or-each_below n f i d within = get_or-map-range_with_len f 0 n i i d within (omega arith)

pub some_of_each_below-none : {A : Type 0} (f : ℕ → Option A) → some_of_each_below 0 f ≡ []
unfolding some_of_each_below
some_of_each_below-none f = refl

cons_option-append : {A : Type 0} (o : Option A) (xs ys : List A) → cons_option o xs ++ ys ≡ cons_option o (xs ++ ys)
cons_option-append None xs ys = refl
cons_option-append (Some x) xs ys = refl

last_option : {A : Type 0} (o : Option A) → cons_option o [] ≡ option_to_list o
last_option None = refl
last_option (Some x) = refl

filter_map-more : {A : Type 0} (f : ℕ → Option A) (n a k : ℕ) → a + n ≡ k → filter_map f (range_with_len a (suc n)) ≡ filter_map f (range_with_len a n) ++ option_to_list (f k)
filter_map-more f zero a k e = let same : a ≡ k = omega arith in last_option (f a) ∙ ap (λ j. option_to_list (f j)) same
filter_map-more f (suc n) a k e =
    ap (cons_option (f a)) (filter_map-more f n (a + 1) k (omega arith))
    ∙ sym (cons_option-append (f a) (filter_map f (range_with_len (a + 1) n)) (option_to_list (f k)))

pub some_of_each_below-more : {A : Type 0} (n : ℕ) (f : ℕ → Option A) → some_of_each_below (n + 1) f ≡ some_of_each_below n f ++ option_to_list (f n)
unfolding some_of_each_below
some_of_each_below-more n f = ap (λ m. filter_map f (range_with_len 0 m)) (add-one n) ∙ filter_map-more f n 0 n (omega arith)

-- what one number more gives: a value behind the others, or nothing
pub one_more : {A : Type 0} (n : ℕ) (f : ℕ → Option A) (x : A) (xs ys : List A) → ys ≡ xs ++ x ∷ [] → xs ≡ some_of_each_below n f → Some x ≡ f n → ys ≡ some_of_each_below (n + 1) f
one_more n f x xs ys longer before here = longer ∙ ap (λ zs. zs ++ x ∷ []) before ∙ ap (λ o. some_of_each_below n f ++ option_to_list o) here ∙ sym (some_of_each_below-more n f)

pub none_more : {A : Type 0} (n : ℕ) (f : ℕ → Option A) (xs ys : List A) → ys ≡ xs → xs ≡ some_of_each_below n f → None ≡ f n → ys ≡ some_of_each_below (n + 1) f
none_more n f xs ys same before here =
    same ∙ before ∙ sym (append-nil (some_of_each_below n f)) ∙ ap (λ o. some_of_each_below n f ++ option_to_list o) here ∙ sym (some_of_each_below-more n f)

pub ruleset each = (each_below-none, each_below-more, some_of_each_below-none, some_of_each_below-more)

-- what holds of each value holds of all
pub All-each_below : {A : Type 0} (P : A → Type 0) (n : ℕ) (f : ℕ → A) → ((i : ℕ) → i < n → P (f i)) → All P (each_below n f)
All-each_below P zero f each = subst (All P) (sym (each_below-none f)) (All-nil P)
All-each_below P (suc n) f each =
    subst (All P) (sym (ap (λ m. each_below m f) (sym (add-one n)) ∙ each_below-more n f))
    (All-push P (each_below n f) (f n) (All-each_below P n f (λ i within. each i (omega arith))) (each n (omega arith)))

all_with : {A : Type 0} (P : A → Type 0) (xs : List A) (o : Option A) → All P xs → ((x : A) → o ≡ Some x → P x) → All P (xs ++ option_to_list o)
all_with P xs None before here = subst (All P) (sym (append-nil xs)) before
all_with P xs (Some x) before here = All-push P xs x before (here x refl)

pub All-some_of_each_below : {A : Type 0} (P : A → Type 0) (n : ℕ) (f : ℕ → Option A) → ((i : ℕ) (x : A) → f i ≡ Some x → P x) → All P (some_of_each_below n f)
All-some_of_each_below P zero f each = subst (All P) (sym (some_of_each_below-none f)) (All-nil P)
All-some_of_each_below P (suc n) f each =
    subst (All P) (sym (ap (λ m. some_of_each_below m f) (sym (add-one n)) ∙ some_of_each_below-more n f))
    (all_with P (some_of_each_below n f) (f n) (All-some_of_each_below P n f each) (each n))

-- a function of the values
pub map-each_below : {A B : Type 0} (g : A → B) (n : ℕ) (f : ℕ → A) → map g (each_below n f) ≡ each_below n (λ i. g (f i))
unfolding each_below
map-each_below g n f = map-map g f (range_with_len 0 n)

pub sum_by-each_below : {A : Type 0} (g : A → ℕ) (n : ℕ) (f : ℕ → A) (each : ℕ) → ((i : ℕ) → g (f i) ≡ each) → sum_by g (each_below n f) ≡ n * each
sum_by-each_below g zero f each same = ap (sum_by g) (each_below-none f) ∙ omega arith
sum_by-each_below g (suc n) f each same =
    ap (sum_by g) (ap (λ m. each_below m f) (sym (add-one n)) ∙ each_below-more n f)
    ∙ sum_by_push g (each_below n f) (f n)
    ∙ (let before = sum_by-each_below g n f each same in let here = same n in omega arith)

-- no more than are tried
pub length-some_of_each_below : {A : Type 0} (n : ℕ) (f : ℕ → Option A) → length (some_of_each_below n f) ≤ n
length-some_of_each_below zero f = let none = ap length (some_of_each_below-none f) in omega arith
length-some_of_each_below (suc n) f =
    let more = ap length (ap (λ m. some_of_each_below m f) (sym (add-one n)) ∙ some_of_each_below-more n f) in
    let both = length-append (some_of_each_below n f) (option_to_list (f n)) in
    let before = length-some_of_each_below n f in
    let one = at_most_one (f n) in
    omega arith
  where
    at_most_one : {A : Type 0} (o : Option A) → length (option_to_list o) ≤ 1
    at_most_one None = omega arith
    at_most_one (Some x) = omega arith
