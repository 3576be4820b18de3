-- What stands upwards of a node: one step at a time, through a function, and what passes there.
use Rattle.std.proofs.Common.{◌≡◌, ℕ, zero, suc, ◌≤◌, Bool, true, false, ◌&&◌, ◌||◌, eqb, List, [], ◌++◌, length, get_or, map, Option, Some, None, inl, inr, refl, sym, ap, subst, ◌∙◌, arith}
use Rattle.std.specs.List.{All, list_any, range_with_len, slice_get}
use Rattle.std.specs.Option.{option_map_or}
use Rattle.std.proofs.Math.ListN.{get_or-map}
use Rattle.std.proofs.lemmas.Bool.{cases_lt}
use Rattle.std.proofs.lemmas.List.{append-nil, get_or_past, map-append}
use Rattle.std.proofs.lemmas.List.Elements.{All-nil, All-append}
use Rattle.std.proofs.lemmas.List.Folds.{list_any-append}
use Rattle.dcr_nest.specs.Tree.{Parents, parent_of, AreEarlier, meets, is_at_or_below}
use Rattle.dcr_nest.proofs.TreeLemmas.{parent_within, same_at_parent, meets-any}
use Rattle.dcr_policy.specs.Upward.{climbed, upward}
use Rattle.dcr_policy.proofs.ListLemmas.{picks, first_here, first_behind}

-- ---- one step

-- two functions that agree on the parent
same_above : {A : Type 0} (f g : ℕ → List A) (parent : Option ℕ) → ((p : ℕ) → parent ≡ Some p → f p ≡ g p) → option_map_or f parent [] ≡ option_map_or g parent []
same_above f g None h = refl
same_above f g (Some p) h = h p refl

none_above : {A : Type 0} (f : ℕ → List A) (parent : Option ℕ) → ((p : ℕ) → parent ≡ Some p → ⊥) → option_map_or f parent [] ≡ []
none_above f None h = refl
none_above f (Some p) h = absurd (h p refl)

-- from x there are at most x steps
enough : {A : Type 0} (parents : Parents) (lists : List (List A)) → AreEarlier parents → (n x : ℕ) → x ≤ n → climbed parents lists (suc n) x ≡ climbed parents lists n x
unfolding climbed
enough parents lists earlier zero x h =
    ap (λ t. get_or lists x [] ++ t) (none_above (climbed parents lists zero) (parent_of parents x) (λ p e. let l = earlier x p e in omega arith))
    ∙ append-nil (get_or lists x [])
enough parents lists earlier (suc n) x h =
    ap (λ t. get_or lists x [] ++ t) (same_above (climbed parents lists (suc n)) (climbed parents lists n) (parent_of parents x)
    (λ p e. let l = earlier x p e in enough parents lists earlier n p (omega arith)))

-- the list of x stands first, and then what stands upwards of its parent
climbed_once : {A : Type 0} (parents : Parents) (lists : List (List A)) → AreEarlier parents → (n x : ℕ) → n ≡ length parents
    → climbed parents lists n x ≡ get_or lists x [] ++ option_map_or (climbed parents lists n) (parent_of parents x) []
unfolding climbed
climbed_once parents lists earlier zero x all =
    sym (ap (λ t. get_or lists x [] ++ t) (none_above (climbed parents lists zero) (parent_of parents x) (λ p e. let l = parent_within parents x p e in omega arith))
    ∙ append-nil (get_or lists x []))
climbed_once parents lists earlier (suc n) x all =
    ap (λ t. get_or lists x [] ++ t) (same_above (climbed parents lists n) (climbed parents lists (suc n)) (parent_of parents x)
    (λ p e. let l = parent_within parents x p e in let k = earlier x p e in sym (enough parents lists earlier n p (omega arith))))

first_above : {A : Type 0} (f : ℕ → List A) (parent : Option ℕ) → slice_get (option_map_or f parent []) 0 ≡ option_map_or (λ p. slice_get (f p) 0) parent None
first_above f None = refl
first_above f (Some p) = refl

-- what stands first at x stands first upwards of it
pub first_own : {A : Type 0} (parents : Parents) (lists : List (List A)) (x : ℕ) (a : A) → AreEarlier parents → slice_get (get_or lists x []) 0 ≡ Some a
    → slice_get (upward parents lists x) 0 ≡ Some a
first_own parents lists x a earlier here =
    ap (λ list. slice_get list 0) (climbed_once parents lists earlier (length parents) x refl)
    ∙ first_here (get_or lists x []) (option_map_or (upward parents lists) (parent_of parents x) []) a here

-- where nothing stands at x the first upwards of its parent does
pub first_parent : {A : Type 0} (parents : Parents) (lists : List (List A)) (x : ℕ) → AreEarlier parents → slice_get (get_or lists x []) 0 ≡ None
    → slice_get (upward parents lists x) 0 ≡ option_map_or (λ p. slice_get (upward parents lists p) 0) (parent_of parents x) None
first_parent parents lists x earlier none =
    ap (λ list. slice_get list 0) (climbed_once parents lists earlier (length parents) x refl)
    ∙ first_behind (get_or lists x []) (option_map_or (upward parents lists) (parent_of parents x) []) none
    ∙ first_above (upward parents lists) (parent_of parents x)

-- ---- through a function

mapped_above : {A B : Type 0} (f : A → B) (g : ℕ → List A) (h : ℕ → List B) (parent : Option ℕ) → ((p : ℕ) → map f (g p) ≡ h p) → map f (option_map_or g parent []) ≡ option_map_or h parent []
mapped_above f g h None e = refl
mapped_above f g h (Some p) e = e p

pub climbed-map : {A B : Type 0} (f : A → B) (parents : Parents) (lists : List (List A)) (n x : ℕ) → map f (climbed parents lists n x) ≡ climbed parents (map (map f) lists) n x
unfolding climbed
climbed-map f parents lists zero x = sym (get_or-map (map f) lists x [])
climbed-map f parents lists (suc n) x =
    map-append f (get_or lists x []) (option_map_or (climbed parents lists n) (parent_of parents x) [])
    ∙ ap (λ t. t ++ map f (option_map_or (climbed parents lists n) (parent_of parents x) [])) (sym (get_or-map (map f) lists x []))
    ∙ ap (λ t. get_or (map (map f) lists) x [] ++ t)
    (mapped_above f (climbed parents lists n) (climbed parents (map (map f) lists) n) (parent_of parents x) (climbed-map f parents lists n))

-- ---- what passes there

any_above : {A : Type 0} (p : A → Bool) (g : ℕ → List A) (h : ℕ → Bool) (parent : Option ℕ) → ((x : ℕ) → list_any p (g x) ≡ h x) → list_any p (option_map_or g parent []) ≡ option_map_or h parent false
any_above p g h None e = refl
any_above p g h (Some x) e = e x

climbed-any : {A : Type 0} (p : A → Bool) (parents : Parents) (lists : List (List A)) (n x : ℕ) → list_any p (climbed parents lists n x) ≡ meets parents (λ z. list_any p (get_or lists z [])) n x
unfolding climbed meets
climbed-any p parents lists zero x = refl
climbed-any p parents lists (suc n) x =
    list_any-append p (get_or lists x []) (option_map_or (climbed parents lists n) (parent_of parents x) [])
    ∙ ap (λ t. list_any p (get_or lists x []) || t)
    (any_above p (climbed parents lists n) (meets parents (λ z. list_any p (get_or lists z [])) n) (parent_of parents x) (climbed-any p parents lists n))

meets-same : (parents : Parents) (f g : ℕ → Bool) → ((z : ℕ) → f z ≡ g z) → (n x : ℕ) → meets parents f n x ≡ meets parents g n x
unfolding meets
meets-same parents f g same zero x = same x
meets-same parents f g same (suc n) x =
    ap (λ t. t || option_map_or (meets parents f n) (parent_of parents x) false) (same x)
    ∙ ap (λ t. g x || t) (same_at_parent (meets parents f n) (meets parents g n) (parent_of parents x) (λ p _. meets-same parents f g same n p))

-- what passes upwards of x passes at a node that x is at or below
pub upward-any : {A : Type 0} (p : A → Bool) (parents : Parents) (lists : List (List A)) (x : ℕ) → length lists ≡ length parents
    → list_any p (upward parents lists x) ≡ list_any (λ y. is_at_or_below parents x y && list_any p (get_or lists y [])) (range_with_len 0 (length parents))
upward-any p parents lists x many =
    let g : ℕ → Bool = λ z. list_any p (get_or lists z []) in
    let all = range_with_len 0 (length parents) in
    climbed-any p parents lists (length parents) x
    ∙ meets-same parents g (λ z. list_any (λ y. eqb z y && g y) all)
    (λ z. sym (picks g (length parents) z (λ k past. ap (list_any p) (get_or_past lists k [] (omega arith))))) (length parents) x
    ∙ meets-any parents (λ _. true) g (λ y. y) all (length parents) x

-- ---- what holds of all

row_all : {A : Type 0} (P : A → Type 0) (lists : List (List A)) (x : ℕ) → All (λ list. All P list) lists → All P (get_or lists x [])
row_all {A = A} P lists x all = elim (cases_lt x (length lists)) [
  | inl within ↦ all x [] within
  | inr past ↦ (let Q : List A → Type 0 = All P in subst Q (sym (get_or_past lists x [] past)) (All-nil P))
]

above_all : {A : Type 0} (P : A → Type 0) (g : ℕ → List A) (parent : Option ℕ) → ((p : ℕ) → All P (g p)) → All P (option_map_or g parent [])
above_all P g None h = All-nil P
above_all P g (Some p) h = h p

climbed_all : {A : Type 0} (P : A → Type 0) (parents : Parents) (lists : List (List A)) (n x : ℕ) → All (λ list. All P list) lists → All P (climbed parents lists n x)
unfolding climbed
climbed_all P parents lists zero x all = row_all P lists x all
climbed_all P parents lists (suc n) x all =
    All-append P (get_or lists x []) (option_map_or (climbed parents lists n) (parent_of parents x) []) (row_all P lists x all)
    (above_all P (climbed parents lists n) (parent_of parents x) (λ p. climbed_all P parents lists n p all))

pub upward_all : {A : Type 0} (P : A → Type 0) (parents : Parents) (lists : List (List A)) (x : ℕ) → All (λ list. All P list) lists → All P (upward parents lists x)
upward_all P parents lists x all = climbed_all P parents lists (length parents) x all

empty_row : {A : Type 0} (lists : List (List A)) (x : ℕ) → All (λ list. list ≡ []) lists → get_or lists x [] ≡ []
empty_row lists x all = elim (cases_lt x (length lists)) [ inl within ↦ all x [] within | inr past ↦ get_or_past lists x [] past ]

empty_above : {A : Type 0} (g : ℕ → List A) (parent : Option ℕ) → ((p : ℕ) → g p ≡ []) → option_map_or g parent [] ≡ []
empty_above g None h = refl
empty_above g (Some p) h = h p

climbed_none : {A : Type 0} (parents : Parents) (lists : List (List A)) (n x : ℕ) → All (λ list. list ≡ []) lists → climbed parents lists n x ≡ []
unfolding climbed
climbed_none parents lists zero x all = empty_row lists x all
climbed_none parents lists (suc n) x all =
    ap (λ t. t ++ option_map_or (climbed parents lists n) (parent_of parents x) []) (empty_row lists x all)
    ∙ empty_above (climbed parents lists n) (parent_of parents x) (λ p. climbed_none parents lists n p all)

-- where nothing stands anywhere nothing stands upwards
pub upward_none : {A : Type 0} (parents : Parents) (lists : List (List A)) (x : ℕ) → All (λ list. list ≡ []) lists → upward parents lists x ≡ []
upward_none parents lists x all = climbed_none parents lists (length parents) x all
