-- The numbers below a bound that pass a test, in order, and the place of each among them.
use Rattle.std.proofs.Common.{◌≡◌, ℕ, zero, suc, ◌+◌, ◌<◌, Bool, true, false, not, eqb, cond, List, [], ◌∷◌, ◌++◌, length, get_or, filter, Some, None, inl, inr, ltb, refl, sym, ap, subst, ◌∙◌, add-one, arith}
use Rattle.std.specs.List.{All, AllPairs, range_with_len, position, position_or_len}
use Rattle.std.proofs.lemmas.Bool.{cases_Bool, cases_lt, eq-eqb, ne_eqb, lt-ltb, le-ltb, true≢false, not_from_true, not_from_false, cond-true, cond-false}
use Rattle.std.proofs.lemmas.List.{map-id, append-nil, length_push, get_or_append_left, get_or_at}
use Rattle.std.proofs.lemmas.List.Elements.{All-nil, All-push, All-weaker}
use Rattle.std.proofs.lemmas.List.Quantifiers.{all_pairs_push}
use Rattle.std.proofs.lemmas.List.Folds.{position_or_len_push}
use Rattle.std.proofs.lemmas.List.FromFn.{filter_of_map_range_with_len_more}
use Rattle.dcr_nest.specs.Tree.{Parents, is_parent, atoms, atom_number}

abbrev pub picked : (ℕ → Bool) → ℕ → List ℕ
picked p n = filter p (range_with_len 0 n)

-- one number more is tried
pub picked-more : (p : ℕ → Bool) (n : ℕ) → picked p (n + 1) ≡ picked p n ++ cond (p n) (n ∷ []) []
picked-more p n =
    ap (filter p) (sym (map-id (range_with_len 0 (n + 1))))
    ∙ filter_of_map_range_with_len_more p (λ x. x) 0 n n (omega arith)
    ∙ ap (λ xs. filter p xs ++ cond (p n) (n ∷ []) []) (map-id (range_with_len 0 n))

pub picked-yes : (p : ℕ → Bool) (n : ℕ) → p n ≡ true → picked p (n + 1) ≡ picked p n ++ n ∷ []
picked-yes p n passes = picked-more p n ∙ ap (λ xs. picked p n ++ xs) (cond-true (p n) (n ∷ []) [] passes)

pub picked-no : (p : ℕ → Bool) (n : ℕ) → p n ≡ false → picked p (n + 1) ≡ picked p n
picked-no p n fails = picked-more p n ∙ ap (λ xs. picked p n ++ xs) (cond-false (p n) (n ∷ []) [] fails) ∙ append-nil (picked p n)

picked-suc_yes : (p : ℕ → Bool) (n : ℕ) → p n ≡ true → picked p (suc n) ≡ picked p n ++ n ∷ []
picked-suc_yes p n passes = ap (picked p) (sym (add-one n)) ∙ picked-yes p n passes

picked-suc_no : (p : ℕ → Bool) (n : ℕ) → p n ≡ false → picked p (suc n) ≡ picked p n
picked-suc_no p n fails = ap (picked p) (sym (add-one n)) ∙ picked-no p n fails

below_next : (p : ℕ → Bool) (n : ℕ) (xs : List ℕ) → All (λ x. (x < n) × (p x ≡ true)) xs → All (λ x. (x < suc n) × (p x ≡ true)) xs
below_next p n xs = All-weaker (λ x. (x < n) × (p x ≡ true)) (λ x. (x < suc n) × (p x ≡ true)) (λ x h. (let l = h.0 in omega arith, h.1)) xs

-- each is below the bound and passes
pub picked-passes : (p : ℕ → Bool) (n : ℕ) → All (λ x. (x < n) × (p x ≡ true)) (picked p n)
picked-passes p zero = All-nil (λ x. (x < zero) × (p x ≡ true))
picked-passes p (suc n) =
    let P : List ℕ → Type 0 = All (λ x. (x < suc n) × (p x ≡ true)) in
    let before = below_next p n (picked p n) (picked-passes p n) in
    elim (cases_Bool (p n)) [
      | inl taken ↦ subst P (sym (picked-suc_yes p n taken)) (All-push (λ x. (x < suc n) × (p x ≡ true)) (picked p n) n before (omega arith, taken))
      | inr left ↦ subst P (sym (picked-suc_no p n left)) before
    ]

pub picked-ascends : (p : ℕ → Bool) (n : ℕ) → AllPairs (λ x y. x < y) (picked p n)
picked-ascends p zero = λ i j d before within. absurd (omega arith)
picked-ascends p (suc n) =
    let P : List ℕ → Type 0 = AllPairs (λ x y. x < y) in
    elim (cases_Bool (p n)) [
      | inl taken ↦ subst P (sym (picked-suc_yes p n taken)) (all_pairs_push (λ x y. x < y) (picked p n) n (picked-ascends p n) (λ k d within. (picked-passes p n k d within).0))
      | inr left ↦ subst P (sym (picked-suc_no p n left)) (picked-ascends p n)
    ]

-- as many stand before x as pass below it, and there it stands
pub picked-place : (p : ℕ → Bool) (n x d : ℕ) → x < n → p x ≡ true → (length (picked p x) < length (picked p n)) × (get_or (picked p n) (length (picked p x)) d ≡ x)
picked-place p zero x d below passes = absurd (omega arith)
picked-place p (suc n) x d below passes =
    let Q : List ℕ → Type 0 = λ xs. (length (picked p x) < length xs) × (get_or xs (length (picked p x)) d ≡ x) in
    elim (cases_lt x n) [
      | inl before ↦ (let earlier = picked-place p n x d before passes in elim (cases_Bool (p n)) [
        | inl taken ↦ subst Q (sym (picked-suc_yes p n taken))
            ((let more = length_push (picked p n) n in let within = earlier.0 in omega arith), get_or_append_left (picked p n) (n ∷ []) d (length (picked p x)) earlier.0 ∙ earlier.1)
        | inr left ↦ subst Q (sym (picked-suc_no p n left)) earlier
      ])
      | inr last ↦ (
          let same : n ≡ x = omega arith in
          let here : p n ≡ true = ap p same ∙ passes in
          let many : length (picked p n) ≡ length (picked p x) = ap (λ m. length (picked p m)) same in
          subst Q (sym (picked-suc_yes p n here))
          ((let more = length_push (picked p n) n in omega arith), get_or_at (picked p n) n [] d (length (picked p x)) many ∙ same))
    ]

-- the place of a number that is not there is the end
pub position-past : (p : ℕ → Bool) (n x : ℕ) → ((y : ℕ) → y < n → p y ≡ true → y ≡ x → ⊥) → position_or_len (λ y. eqb y x) (picked p n) ≡ length (picked p n)
position-past p zero x absent = refl
position-past p (suc n) x absent =
    let Q : List ℕ → Type 0 = λ xs. position_or_len (λ y. eqb y x) xs ≡ length xs in
    let before = position-past p n x (λ y below passes. absent y (omega arith) passes) in
    elim (cases_Bool (p n)) [
      | inl taken ↦ subst Q (sym (picked-suc_yes p n taken)) (
          position_or_len_push (λ y. eqb y x) (picked p n) n
          ∙ cond-true (eqb (position_or_len (λ y. eqb y x) (picked p n)) (length (picked p n))) (length (picked p n) + cond (eqb n x) 0 1) (position_or_len (λ y. eqb y x) (picked p n))
          (eq-eqb (position_or_len (λ y. eqb y x) (picked p n)) (length (picked p n)) before)
          ∙ ap (λ t. length (picked p n) + cond t 0 1) (ne_eqb n x (absent n (omega arith) taken))
          ∙ sym (length_push (picked p n) n))
      | inr left ↦ subst Q (sym (picked-suc_no p n left)) before
    ]

-- the place of a number that passes is how many pass before it
pub position-here : (p : ℕ → Bool) (n x : ℕ) → x < n → p x ≡ true → position_or_len (λ y. eqb y x) (picked p n) ≡ length (picked p x)
position-here p zero x below passes = absurd (omega arith)
position-here p (suc n) x below passes =
    let Q : List ℕ → Type 0 = λ xs. position_or_len (λ y. eqb y x) xs ≡ length (picked p x) in
    let q : ℕ → Bool = λ y. eqb y x in
    elim (cases_lt x n) [
      | inl before ↦ (
          let found = position-here p n x before passes in
          let within : length (picked p x) < length (picked p n) = (picked-place p n x 0 before passes).0 in
          elim (cases_Bool (p n)) [
            | inl taken ↦ subst Q (sym (picked-suc_yes p n taken)) (
                position_or_len_push q (picked p n) n
                ∙ cond-false (eqb (position_or_len q (picked p n)) (length (picked p n))) (length (picked p n) + cond (eqb n x) 0 1) (position_or_len q (picked p n))
                (ne_eqb (position_or_len q (picked p n)) (length (picked p n)) (λ same. absurd (omega arith)))
                ∙ found)
            | inr left ↦ subst Q (sym (picked-suc_no p n left)) found
          ])
      | inr last ↦ (
          let same : n ≡ x = omega arith in
          let here : p n ≡ true = ap p same ∙ passes in
          subst Q (sym (picked-suc_yes p n here)) (
          position_or_len_push q (picked p n) n
          ∙ cond-true (eqb (position_or_len q (picked p n)) (length (picked p n))) (length (picked p n) + cond (eqb n x) 0 1) (position_or_len q (picked p n))
          (eq-eqb (position_or_len q (picked p n)) (length (picked p n)) (position-past p n x (λ y l _ e. absurd (omega arith))))
          ∙ ap (λ t. length (picked p n) + cond t 0 1) (eq-eqb n x same)
          ∙ ap (λ m. length (picked p m) + 0) same
          ∙ omega arith))
    ]

pub position-yes : (p : ℕ → Bool) (n x : ℕ) → x < n → p x ≡ true → position (λ y. eqb y x) (picked p n) ≡ Some (length (picked p x))
position-yes p n x below passes =
    let k = position_or_len (λ y. eqb y x) (picked p n) in
    let found = position-here p n x below passes in
    let within = (picked-place p n x 0 below passes).0 in
    cond-true (ltb k (length (picked p n))) (Some k) None (lt-ltb k (length (picked p n)) (omega arith)) ∙ ap Some found

pub position-no : (p : ℕ → Bool) (n x : ℕ) → p x ≡ false → position (λ y. eqb y x) (picked p n) ≡ None
position-no p n x fails =
    let k = position_or_len (λ y. eqb y x) (picked p n) in
    let past = position-past p n x (λ y _ passes same. true≢false (sym passes ∙ ap p same ∙ fails)) in
    cond-false (ltb k (length (picked p n))) (Some k) None (le-ltb k (length (picked p n)) (omega arith))

pub length-picked_yes : (p : ℕ → Bool) (n : ℕ) → p n ≡ true → length (picked p (n + 1)) ≡ length (picked p n) + 1
length-picked_yes p n passes = ap (λ xs. length xs) (picked-yes p n passes) ∙ length_push (picked p n) n

-- tests that agree below the bound pick the same
pub picked-ext : (p q : ℕ → Bool) (n : ℕ) → ((x : ℕ) → x < n → p x ≡ q x) → picked p n ≡ picked q n
picked-ext p q zero same = refl
picked-ext p q (suc n) same =
    ap (picked p) (sym (add-one n)) ∙ picked-more p n
    ∙ ap (λ t. picked p n ++ cond t (n ∷ []) []) (same n (omega arith))
    ∙ ap (λ xs. xs ++ cond (q n) (n ∷ []) []) (picked-ext p q n (λ x below. same x (omega arith)))
    ∙ sym (picked-more q n) ∙ ap (picked q) (add-one n)

-- atoms are nodes
pub atoms-within : (parents : Parents) → All (λ x. x < length parents) (atoms parents)
unfolding atoms
atoms-within parents =
    let p = λ (x : ℕ). not (is_parent parents x) in
    All-weaker (λ x. (x < length parents) × (p x ≡ true)) (λ x. x < length parents) (λ x h. h.0) (picked p (length parents)) (picked-passes p (length parents))

pub atoms-ascend : (parents : Parents) → AllPairs (λ x y. x < y) (atoms parents)
unfolding atoms
atoms-ascend parents = picked-ascends (λ x. not (is_parent parents x)) (length parents)

-- a parent is no atom
pub number-none : (parents : Parents) (x : ℕ) → is_parent parents x ≡ true → atom_number parents x ≡ None
unfolding atoms
number-none parents x parent = position-no (λ y. not (is_parent parents y)) (length parents) x (not_from_true (is_parent parents x) parent)

-- the number of an atom is how many stand before it
pub number-some : (parents : Parents) (x : ℕ) → x < length parents → is_parent parents x ≡ false → atom_number parents x ≡ Some (length (picked (λ y. not (is_parent parents y)) x))
unfolding atoms
number-some parents x within nobody = position-yes (λ y. not (is_parent parents y)) (length parents) x within (not_from_false (is_parent parents x) nobody)

-- the nodes that are not marked are counted
pub length-atoms : (parents : Parents) (marks : List Bool) (n : ℕ) → n ≡ length parents → ((x : ℕ) → x < n → get_or marks x false ≡ is_parent parents x)
    → length (picked (λ x. not (get_or marks x false)) n) ≡ length (atoms parents)
unfolding atoms
length-atoms parents marks n many told =
    ap (λ xs. length xs) (picked-ext (λ x. not (get_or marks x false)) (λ x. not (is_parent parents x)) n (λ x below. ap not (told x below)))
    ∙ ap (λ m. length (picked (λ x. not (is_parent parents x)) m)) many
