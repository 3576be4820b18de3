-- Names behind commas: how long they are, and which piece of the joined text the names of a run are.
use Rattle.std.proofs.Common.{◌≡◌, ℕ, zero, suc, ◌+◌, ◌-◌, ◌≤◌, inl, inr, ◌&&◌, true, List, [], ◌∷◌, ◌++◌, length, take, drop, get_or, sym, ap, ◌∙◌, append_assoc, append-nil, length-append, arith}
use Rattle.std.specs.Prelude.{nat_le}
use Rattle.std.specs.List.{range_with_len, list_all}
use Rattle.std.proofs.lemmas.Bool.{cases_lt, false≢true, and_parts, leb-true}
use Rattle.std.proofs.lemmas.List.{get_or_append_left, get_or_push, take_at, drop_at}
use Rattle.dcr_graph.specs.Names.{is_letter, is_name_byte, is_name, comma_names}
use Rattle.dcr_graph.specs.AtomNamesModel.{AreStarts}

-- a name has at most 64 bytes
pub name_short : (name : List ℕ) → is_name name ≡ true → length name ≤ 64
name_short [] e = absurd (false≢true e)
name_short (x ∷ text) e =
    let p = and_parts (is_letter x) (nat_le (length text) 63 && list_all is_name_byte text) e in
    let q = and_parts (nat_le (length text) 63) (list_all is_name_byte text) p.1 in
    let few : length text ≤ 63 = leb-true (length text) 63 q.0 in omega arith

-- the names of the n atoms from a on, each behind a comma
abbrev pub comma_run : List (List ℕ) → ℕ → ℕ → List ℕ
comma_run names a n = comma_names names (range_with_len a n)

-- those of two stretches, one behind the other
pub comma-split : (names : List (List ℕ)) (a m n : ℕ) → comma_run names a (m + n) ≡ comma_run names a m ++ comma_run names (a + m) n
comma-split names a zero n =
    ap (comma_run names a) (let none : 0 + n ≡ n = omega arith in none) ∙ ap (λ x. comma_run names x n) (let same : a ≡ a + 0 = omega arith in same)
comma-split names a (suc m) n =
    let name = 44 ∷ get_or names a [] in
    ap (comma_run names a) (let same : suc m + n ≡ suc (m + n) = omega arith in same)
    ∙ ap (λ xs. name ++ xs) (comma-split names (a + 1) m n ∙ ap (λ x. comma_run names (a + 1) m ++ comma_run names x n) (let next : a + 1 + m ≡ a + suc m = omega arith in next))
    ∙ sym (append_assoc name (comma_run names (a + 1) m) (comma_run names (a + suc m) n))

-- one name more
pub comma_more : (names : List (List ℕ)) (i : ℕ) → comma_run names 0 (i + 1) ≡ comma_run names 0 i ++ 44 ∷ get_or names i []
comma_more names i =
    comma-split names 0 i 1 ∙ ap (λ x. comma_run names 0 i ++ comma_run names x 1) (let same : 0 + i ≡ i = omega arith in same)
    ∙ ap (λ xs. comma_run names 0 i ++ xs) (append-nil (44 ∷ get_or names i []))

-- the joined text of one name more, from what was put there
pub joined_more : (names : List (List ℕ)) (i : ℕ) (before comma after name : List ℕ) → before ≡ comma_run names 0 i → comma ≡ before ++ 44 ∷ [] → after ≡ comma ++ name → name ≡ get_or names i []
    → after ≡ comma_run names 0 (i + 1)
joined_more names i before comma after name was first then same =
    then ∙ ap (λ xs. xs ++ name) first ∙ append_assoc before (44 ∷ []) name ∙ ap (λ xs. xs ++ 44 ∷ name) was ∙ ap (λ n. comma_run names 0 i ++ 44 ∷ n) same ∙ sym (comma_more names i)

-- one start more
pub starts_more : (names : List (List ℕ)) (starts more : List ℕ) (i end : ℕ) → length starts ≡ i + 1 → AreStarts names starts i → more ≡ starts ++ end ∷ [] → end ≡ length (comma_run names 0 (i + 1))
    → AreStarts names more (i + 1)
starts_more names starts more i end many are pushed ends k within = ap (λ (xs : List ℕ). get_or xs k 0) pushed ∙ elim (cases_lt i k) [
  | inl last ↦
      let same : k ≡ i + 1 = omega arith in
      get_or_push starts end 0 k (omega (arith, many)) ∙ ends ∙ ap (λ n. length (comma_run names 0 n)) (sym same)
  | inr before ↦ get_or_append_left starts (end ∷ []) 0 k (omega (arith, many)) ∙ are k before
]

-- what stands before the end of a run
comma_to : (names : List (List ℕ)) (a b : ℕ) → a ≤ b → comma_run names 0 b ≡ comma_run names 0 a ++ comma_run names a (b - a)
comma_to names a b up =
    ap (comma_run names 0) (let same : b ≡ a + (b - a) = omega arith in same) ∙ comma-split names 0 a (b - a)
    ∙ ap (λ x. comma_run names 0 a ++ comma_run names x (b - a)) (let same : 0 + a ≡ a = omega arith in same)

-- the places of a run in the text
pub record IsPiece (names : List (List ℕ)) (text : List ℕ) (a b start end : ℕ) : Type 0 where
  pub up : start ≤ end
  pub within : end ≤ length text
  pub piece : take (end - start) (drop start text) ≡ comma_run names a (b - a)

pub is_piece : (names : List (List ℕ)) (text starts : List ℕ) (a b start end : ℕ) → a ≤ b → b ≤ length names → text ≡ comma_run names 0 (length names)
    → AreStarts names starts (length names) → start ≡ get_or starts a 0 → end ≡ get_or starts b 0 → IsPiece names text a b start end
is_piece names text starts a b start end up most joined are from to =
    let n = length names in
    let A = comma_run names 0 a in let B = comma_run names a (b - a) in let C = comma_run names b (n - b) in
    let first : start ≡ length A = from ∙ are a (omega arith) in
    let last : end ≡ length A + length B = to ∙ are b most ∙ ap (λ (xs : List ℕ). length xs) (comma_to names a b up) ∙ length-append A B in
    let whole : text ≡ A ++ (B ++ C) = joined ∙ comma_to names b n most ∙ ap (λ xs. xs ++ C) (comma_to names a b up) ∙ append_assoc A B C in
    let long : length text ≡ length A + (length B + length C) = ap (λ (xs : List ℕ). length xs) whole ∙ length-append A (B ++ C) ∙ ap (λ k. length A + k) (length-append B C) in
    let many : length B ≡ end - start = omega (arith, first, last) in record {
      up = omega (arith, first, last);
      within = omega (arith, last, long);
      piece = ap (λ (xs : List ℕ). take (end - start) (drop start xs)) whole ∙ ap (λ (xs : List ℕ). take (end - start) xs) (drop_at A (B ++ C) start (sym first)) ∙ take_at B C (end - start) many;
    }
