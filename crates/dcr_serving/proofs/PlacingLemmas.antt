-- Places of which each is empty or has what has its number.
use Rattle.std.proofs.Common.{◌≡◌, ℕ, zero, suc, ◌+◌, ◌<◌, ◌≤◌, List, [], ◌∷◌, ◌++◌, length, get_or, map, take, drop, Option, None, Some, refl, sym, ap, subst, ◌∙◌, append_assoc, arith}
use Rattle.std.specs.Prelude.{IsSome, slice_get, slice_set}
use Rattle.std.specs.List.{All, range_with_len}
use Rattle.dcr_serving.specs.Placing.{filled}
use Rattle.std.proofs.lemmas.Bool.{false≢true}
use Rattle.std.proofs.lemmas.List.{append-nil, get_or-take, length-append, length-map, length-take-le, map-append, take-append-drop}
use Rattle.std.proofs.lemmas.Option.{slice_get-get_or}
use Rattle.std.proofs.lemmas.List.Elements.{All-nil, All-cons, filter_map-append}

-- ---- something is put where nothing was

pub filled_put : {X : Type 0} (slots : List (Option X)) (i : ℕ) (x : X) → slice_get slots i ≡ Some None
    → (before after : List X) × (filled slots ≡ before ++ after) × (filled (slice_set slots i (Some x)) ≡ before ++ x ∷ after)
filled_put [] i x free = absurd (cc)
filled_put (slot ∷ slots) zero x free =
    let empty : slot ≡ None = cc in
    ([], filled slots, rw empty refl, refl)
filled_put {X = X} (None ∷ slots) (suc i) x free = filled_put slots i x free
filled_put {X = X} (Some y ∷ slots) (suc i) x free =
    let rest = filled_put slots i x free in
    (y ∷ rest.0, rest.1, ap (λ (l : List X). y ∷ l) rest.2, ap (λ (l : List X). y ∷ l) rest.3)

-- nothing more
pub filled_none : {X : Type 0} (slots : List (Option X)) → filled (slots ++ None ∷ []) ≡ filled slots
filled_none {X = X} slots = filter_map-append (λ (slot : Option X). slot) slots (None ∷ []) ∙ append-nil (filled slots)

-- ---- as many stand there as there are places

none_more : {X : Type 0} (slots : List (Option X)) → length (filled slots) ≤ length slots
none_more [] = omega arith
none_more (None ∷ slots) = let less = none_more slots in omega arith
none_more (Some x ∷ slots) = let less = none_more slots in omega arith

all_full : {X : Type 0} (slots : List (Option X)) → length (filled slots) ≡ length slots → All IsSome slots
all_full [] many = All-nil IsSome
all_full (None ∷ slots) many = absurd (let less = none_more slots in omega (arith, many))
all_full (Some x ∷ slots) many = All-cons IsSome (Some x) slots refl (all_full slots (omega (arith, many)))

none_filled : {X : Type 0} (slots : List (Option X)) → ((i : ℕ) → i < length slots → slice_get slots i ≡ Some None) → filled slots ≡ []
none_filled [] free = refl
none_filled (None ∷ slots) free = none_filled slots (λ i within. free (suc i) (omega arith))
none_filled (Some x ∷ slots) free = absurd (let first = free 0 (omega arith) in cc)

none_behind : {X : Type 0} (slots : List (Option X)) (count : ℕ) → ((i : ℕ) → count ≤ i → i < length slots → slice_get slots i ≡ Some None) → filled (drop count slots) ≡ []
none_behind slots zero free = none_filled slots (λ i within. free i (omega arith) within)
none_behind [] (suc count) free = refl
none_behind (slot ∷ slots) (suc count) free = none_behind slots count (λ i past within. free (suc i) (omega arith) (omega arith))

-- the first ones are full, where nothing stands behind them and as many stand there as they are
pub first_full : {X : Type 0} (slots : List (Option X)) (count : ℕ) → count ≤ length slots → length (filled slots) ≡ count
    → ((i : ℕ) → count ≤ i → i < length slots → slice_get slots i ≡ Some None)
    → All IsSome (take count slots) × (filled (take count slots) ≡ filled slots)
first_full {X = X} slots count within many free =
    let whole : filled slots ≡ filled (take count slots) ++ filled (drop count slots) =
    ap filled (sym (take-append-drop count slots)) ∙ filter_map-append (λ (slot : Option X). slot) (take count slots) (drop count slots) in
    let same : filled (take count slots) ≡ filled slots =
    sym (append-nil (filled (take count slots))) ∙ ap (λ (l : List X). filled (take count slots) ++ l) (sym (none_behind slots count free)) ∙ sym whole in
    (all_full (take count slots) (ap (λ (l : List X). length l) same ∙ many ∙ sym (length-take-le count slots within)), same)

-- ---- what stands in full places has their numbers

pub numbered : {X : Type 0} (number : X → ℕ) (slots : List (Option X)) (from : ℕ) → ((i : ℕ) (x : X) → slice_get slots i ≡ Some (Some x) → number x ≡ from + i)
    → All IsSome slots → map number (filled slots) ≡ range_with_len from (length slots)
numbered number [] from in_place full = refl
numbered number (None ∷ slots) from in_place full = absurd (false≢true (full 0 None (omega arith)))
numbered {X = X} number (Some x ∷ slots) from in_place full =
    let first : number x ≡ from = in_place 0 x refl ∙ omega arith in
    let rest : map number (filled slots) ≡ range_with_len (from + 1) (length slots) =
    numbered number slots (from + 1) (λ i y is. in_place (suc i) y is ∙ omega arith) (λ k d within. full (suc k) d (omega arith)) in
    ap (λ (n : ℕ). n ∷ map number (filled slots)) first ∙ ap (λ (l : List ℕ). from ∷ l) rest

-- ---- what stands in a place has its number

some_same : {X : Type 0} (x y : X) → Some x ≡ Some y → x ≡ y
some_same x y same = cc

numbers_put : {X : Type 0} (number : X → ℕ) (slots : List (Option X)) (from j : ℕ) (put : X) → number put ≡ from + j → ((i : ℕ) (x : X) → slice_get slots i ≡ Some (Some x) → number x ≡ from + i)
    → (i : ℕ) (x : X) → slice_get (slice_set slots j (Some put)) i ≡ Some (Some x) → number x ≡ from + i
numbers_put number [] from j put its in_place i x is = absurd (cc)
numbers_put number (slot ∷ slots) from zero put its in_place zero x is = ap number (sym (some_same put x (some_same (Some put) (Some x) is))) ∙ its
numbers_put number (slot ∷ slots) from zero put its in_place (suc i) x is = in_place (suc i) x is
numbers_put number (slot ∷ slots) from (suc j) put its in_place zero x is = in_place zero x is
numbers_put number (slot ∷ slots) from (suc j) put its in_place (suc i) x is =
    numbers_put number slots (from + 1) j put (its ∙ omega arith) (λ k y there. in_place (suc k) y there ∙ omega arith) i x is ∙ omega arith

pub placed_put : {X : Type 0} (number : X → ℕ) (slots : List (Option X)) (j : ℕ) (put : X) → number put ≡ j → ((i : ℕ) (x : X) → slice_get slots i ≡ Some (Some x) → number x ≡ i)
    → (i : ℕ) (x : X) → slice_get (slice_set slots j (Some put)) i ≡ Some (Some x) → number x ≡ i
placed_put number slots j put its in_place i x is =
    numbers_put number slots 0 j put (its ∙ omega arith) (λ k y there. in_place k y there ∙ omega arith) i x is ∙ omega arith

-- what is read at a place stands there
pub stands_in : {X : Type 0} (slots : List (Option X)) (i j : ℕ) (d slot : Option X) → i ≡ j → j < length slots → get_or slots i d ≡ slot → slice_get slots j ≡ Some slot
stands_in slots i j d slot same within is = subst (λ (n : ℕ). slice_get slots n ≡ Some slot) same (slice_get-get_or slots i d (omega (arith, same, within)) ∙ ap Some is)

pub not_both : {X : Type 0} (slots : List (Option X)) (i : ℕ) (d e : Option X) (x : X) → i < length slots → get_or slots i d ≡ Some x → get_or slots i e ≡ None → ⊥
not_both slots i d e x within some none =
    let full = stands_in slots i i d (Some x) refl within some in let empty = stands_in slots i i e None refl within none in cc

-- ---- the first places, one after the other

some_of : {X : Type 0} (slot : Option X) → IsSome slot → (x : X) × (slot ≡ Some x)
some_of None some = absurd (false≢true some)
some_of (Some x) some = (x, refl)

-- what stands in one of the full places
pub full_at : {X : Type 0} (slots : List (Option X)) (count i : ℕ) → All IsSome (take count slots) → count ≤ length slots → i < count → (x : X) × (slice_get slots i ≡ Some (Some x))
full_at {X = X} slots count i full within fits =
    let same : get_or (take count slots) i None ≡ get_or slots i None = get_or-take count slots i None fits in
    let some = some_of (get_or slots i None) (subst (λ (o : Option X). IsSome o) same (full i None (let many : length (take count slots) ≡ count = length-take-le count slots within in omega (arith, many, fits)))) in
    (some.0, slice_get-get_or slots i None (omega (arith, within, fits)) ∙ ap Some some.1)

filled_to : {X : Type 0} (slots : List (Option X)) (i : ℕ) (x : X) → slice_get slots i ≡ Some (Some x) → filled (take (suc i) slots) ≡ filled (take i slots) ++ x ∷ []
filled_to [] i x is = absurd (cc)
filled_to (slot ∷ slots) zero x is = ap (λ (o : Option _). filled (o ∷ [])) (some_same slot (Some x) is)
filled_to (None ∷ slots) (suc i) x is = filled_to slots i x is
filled_to {X = X} (Some y ∷ slots) (suc i) x is = ap (λ (l : List X). y ∷ l) (filled_to slots i x is)

-- a list that follows what stands in the first places, with one place more
pub grown_to : {X Y : Type 0} (f : X → Y) (slots : List (Option X)) (i : ℕ) (x : X) (first now after : List Y) → slice_get slots i ≡ Some (Some x)
    → now ≡ first ++ map f (filled (take i slots)) → after ≡ now ++ f x ∷ [] → after ≡ first ++ map f (filled (take (i + 1) slots))
grown_to {X = X} {Y = Y} f slots i x first now after is now_is after_is =
    let next : suc i ≡ i + 1 = omega arith in
    after_is ∙ ap (λ (l : List Y). l ++ f x ∷ []) now_is ∙ append_assoc first (map f (filled (take i slots))) (f x ∷ [])
    ∙ ap (λ (l : List Y). first ++ l) (sym (map-append f (filled (take i slots)) (x ∷ [])))
    ∙ ap (λ (l : List X). first ++ map f l) (sym (filled_to slots i x is))
    ∙ ap (λ (n : ℕ). first ++ map f (filled (take n slots))) next

filled_few : {X : Type 0} (slots : List (Option X)) (i : ℕ) → length (filled (take i slots)) ≤ i
filled_few slots zero = omega arith
filled_few [] (suc i) = omega arith
filled_few (None ∷ slots) (suc i) = let less = filled_few slots i in omega (arith, less)
filled_few (Some x ∷ slots) (suc i) = let less = filled_few slots i in omega (arith, less)

pub few_filled : {X Y : Type 0} (f : X → Y) (slots : List (Option X)) (i : ℕ) (first now : List Y) → now ≡ first ++ map f (filled (take i slots)) → length now ≤ length first + i
few_filled {Y = Y} f slots i first now is =
    let many : length now ≡ length first + length (filled (take i slots)) =
    ap (λ (l : List Y). length l) is ∙ length-append first (map f (filled (take i slots))) ∙ ap (λ (n : ℕ). length first + n) (length-map (filled (take i slots)) f) in
    let few = filled_few slots i in
    omega (arith, many, few)

-- room for one more
pub fits_more : (len many first i count capacity room : ℕ) → len ≡ many → many ≤ first + i → i < count → first + count ≤ room → capacity ≡ room → len < capacity
fits_more len many first i count capacity room is few fits enough same = omega (arith, is, few, fits, enough, same)

pub no_less : (i : ℕ) → i ≤ i
no_less i = omega arith

pub behind_it : (i j : ℕ) → i + 1 ≤ j → (i < j) × (i ≤ j)
behind_it i j behind = (omega (arith, behind), omega (arith, behind))

-- a place behind the one that was written
pub get_behind : {X : Type 0} (slots : List X) (i j : ℕ) (put : X) → i < j → slice_get (slice_set slots i put) j ≡ slice_get slots j
get_behind [] i j put behind = refl
get_behind (slot ∷ slots) zero zero put behind = absurd (omega (arith, behind))
get_behind (slot ∷ slots) zero (suc j) put behind = refl
get_behind (slot ∷ slots) (suc i) zero put behind = absurd (omega (arith, behind))
get_behind (slot ∷ slots) (suc i) (suc j) put behind = get_behind slots i j put (omega (arith, behind))

-- one of the first places
pub get_taken : {X : Type 0} (n : ℕ) (slots : List X) (i : ℕ) (x : X) → slice_get (take n slots) i ≡ Some x → slice_get slots i ≡ Some x
get_taken zero slots i x is = absurd (cc)
get_taken (suc n) [] i x is = absurd (cc)
get_taken (suc n) (slot ∷ slots) zero x is = is
get_taken (suc n) (slot ∷ slots) (suc i) x is = get_taken n slots i x is

-- ---- more stands there

pub all_of_more : {X : Type 0} (P : X → Type 0) (before after : List X) (x : X) → All P (before ++ after) → P x → All P (before ++ x ∷ after)
all_of_more P [] after x all its = All-cons P x after its all
all_of_more P (y ∷ before) after x all its = All-cons P y (before ++ x ∷ after) (all 0 y (omega arith)) (all_of_more P before after x (λ k d within. all (suc k) d (omega arith)) its)
