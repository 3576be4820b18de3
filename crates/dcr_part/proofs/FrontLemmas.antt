-- The first numbers of a set, which are those that a loop over its values has read.
use Rattle.std.proofs.Common.{◌≡◌, ℕ, ◌+◌, ◌<◌, ◌≤◌, Bool, true, false, ◌&&◌, ◌||◌, eqb, List, length, get_or, map, take, refl, sym, ap, ◌∙◌, arith}
use Rattle.std.specs.List.{list_any}
use Rattle.std.proofs.lemmas.Bool.{false≢true, eqb-true, eq-eqb, ne_eqb}
use Rattle.std.proofs.lemmas.List.{take_all}
use Rattle.std.proofs.lemmas.List.Folds.{list_any_more, Any-from_list_any, list_any_at}
use Rattle.serde_json.specs.View.{view}
use Rattle.serde_json.specs.declared.value.Value.{Value}
use Rattle.dcr_set.specs.EventSet.{Set, has, no_event, numbers, with_event}
use Rattle.dcr_set.proofs.NumbersLemmas.{member_from_numbers, numbers_from_member, numbers-below}
use Rattle.dcr_set.proofs.SetLemmas.{has_past, same_set}
use Rattle.dcr_set.proofs.StandsLemmas.{has-those_all}
use Rattle.dcr_graph.proofs.BoolLemmas.{and_false, or_comm}
use Rattle.dcr_graph.proofs.TableLemmas.{eqb_comm}
use Rattle.dcr_part.specs.PartText.{number_value}
use Rattle.dcr_part.proofs.ReadLemmas.{value_at, as_many}

-- ---- truth values

pub same_truth : (a b : Bool) → (a ≡ true → b ≡ true) → (b ≡ true → a ≡ true) → a ≡ b
same_truth true b h k = sym (h refl)
same_truth false true h k = absurd (false≢true (k refl))
same_truth false false h k = refl

-- a test that follows from the second can be left out before it
pub led_by : (s t : Bool) → (t ≡ true → s ≡ true) → (s && t) ≡ t
led_by s true h = ap (λ b. b && true) (h refl)
led_by s false h = and_false s

-- what was so before, and what is so of one more, where the tests agree on it
pub one_more : (f t u v : Bool) → (t ≡ true → u ≡ v) → ((f && v) || (t && u)) ≡ ((f || t) && v)
one_more true true u true same = refl
one_more true true u false same = same refl
one_more true false u true same = refl
one_more true false u false same = refl
one_more false true u v same = same refl
one_more false false u v same = refl

-- ---- the numbers of a set in front

-- whether k is one of the first i numbers
abbrev pub in_front : Set → ℕ → ℕ → Bool
in_front s i k = list_any (λ j. eqb j k) (take i (numbers s))

pub front_none : (s : Set) (k : ℕ) → in_front s 0 k ≡ false
front_none s k = refl

pub front_more : (s : Set) (i d : ℕ) → i < length (numbers s) → (k : ℕ) → in_front s (i + 1) k ≡ (in_front s i k || eqb (get_or (numbers s) i d) k)
front_more s i d within k = list_any_more (λ j. eqb j k) (numbers s) i d within

-- the same, where the number at i is e
pub front_next : (s : Set) (i e : ℕ) → i < length (numbers s) → e ≡ get_or (numbers s) i 0 → (k : ℕ) → in_front s (i + 1) k ≡ (in_front s i k || eqb e k)
front_next s i e within is k = front_more s i 0 within k ∙ ap (λ j. in_front s i k || eqb j k) (sym is)

-- whether k is one of the numbers
pub listed_all : (s : Set) (k : ℕ) → list_any (λ j. eqb j k) (numbers s) ≡ has s k
listed_all s k =
    same_truth _ _
    (λ found. let it = Any-from_list_any (λ j. eqb j k) (numbers s) found in
    ap (has s) (sym (eqb-true it.1 k it.4)) ∙ member_from_numbers s it.1 (it.0, it.2, it.3))
    (λ member. let it = numbers_from_member s k member in list_any_at (λ j. eqb j k) (numbers s) it.0 k it.1 (eq-eqb (get_or (numbers s) it.0 k) k it.2))

pub front_all : (s : Set) (i : ℕ) → length (numbers s) ≤ i → (k : ℕ) → in_front s i k ≡ has s k
front_all s i past k = ap (list_any (λ j. eqb j k)) (take_all i (numbers s) past) ∙ listed_all s k

-- ---- sets

pub none_in : (n : ℕ) (k : ℕ) → has (no_event n) k ≡ false
none_in n k = has-those_all n (λ _. false) (λ _ _. refl) k

pub has-with_event : (s : Set) (e : ℕ) → e < length s → (k : ℕ) → has (with_event s e) k ≡ (has s k || eqb e k)
has-with_event s e below k =
    has-those_all (length s) (λ j. eqb j e || has s j) (λ j past. ap (λ t. t || has s j) (ne_eqb j e (λ same. absurd (omega arith))) ∙ has_past s j past) k
    ∙ ap (λ t. t || has s k) (eqb_comm k e) ∙ or_comm (eqb e k) (has s k)

-- ---- the numbers of a set as JSON values

-- the number that a value is which was read
pub number_at : (values : List Value) (s : Set) (i : ℕ) (v : Value) → map view values ≡ map number_value (numbers s) → i < length values → v ≡ get_or values i v
    → (i < length (numbers s)) × (get_or (numbers s) i 0 < length s) × (view v ≡ number_value (get_or (numbers s) i 0))
number_at values s i v same within is =
    let here = value_at number_value values (numbers s) i v 0 same within is in
    (here.0, numbers-below s i 0 here.0, here.1)

-- a set is begun, gets the next number, and has them all
pub set_begun : (n : ℕ) (t s : Set) → t ≡ no_event n → (k : ℕ) → has t k ≡ in_front s 0 k
set_begun n t s none k = ap (λ u. has u k) none ∙ none_in n k

pub set_grown : (t u s : Set) (i e : ℕ) → i < length (numbers s) → e ≡ get_or (numbers s) i 0 → e < length t → u ≡ with_event t e → ((k : ℕ) → has t k ≡ in_front s i k) → (k : ℕ) → has u k ≡ in_front s (i + 1) k
set_grown t u s i e within is room added before k =
    ap (λ v. has v k) added ∙ has-with_event t e room k ∙ ap (λ b. b || eqb e k) (before k) ∙ sym (front_next s i e within is k)

pub set_read : (values : List Value) (t s : Set) (i : ℕ) → map view values ≡ map number_value (numbers s) → length values ≤ i → length t ≡ length s → ((k : ℕ) → has t k ≡ in_front s i k) → t ≡ s
set_read values t s i same past rooms before =
    let many = as_many number_value values (numbers s) same in
    same_set t s rooms (λ k _. before k ∙ front_all s i (omega arith) k)
