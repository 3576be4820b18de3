-- Rows of sets: what adding one event to one row does, and the empty rows.
use Rattle.std.proofs.Common.{◌≡◌, ℕ, ◌<◌, ◌≤◌, false, ◌&&◌, ◌||◌, eqb, List, [], length, get_or, set, replicate, inl, inr, refl, sym, ap, ◌∙◌, arith}
use Rattle.std.proofs.lemmas.Bool.{cases_eq, cases_lt, eq-eqb, ne_eqb}
use Rattle.std.proofs.lemmas.List.{get_or-set_same, get_or-set_other, get_or_read, get_or-replicate, get_or_past, length-set, length-replicate}
use Rattle.dcr_set.specs.EventSet.{Set, has, those, no_event, with_event}
use Rattle.dcr_set.proofs.SetLemmas.{has-those, has_past, length-those, those-has, same_set}
use Rattle.dcr_set.proofs.StandsLemmas.{has-those_all}
use Rattle.dcr_graph.specs.Rows.{row, leads}
use Rattle.dcr_graph.specs.TableModel.{IsTable}
use Rattle.dcr_graph.proofs.BoolLemmas.{and_comm, or_comm, or_false}
use Rattle.dcr_graph.specs.declared.table.Table.TheInside.{Inside}

has-with_event : (r : Set) (b : ℕ) → b < length r → (y : ℕ) → has (with_event r b) y ≡ (eqb y b || has r y)
has-with_event r b below y = has-those_all (length r) (λ k. eqb k b || has r k) (λ k past. ap (λ t. t || has r k) (ne_eqb k b (λ same. absurd (omega arith))) ∙ has_past r k past) y

pub eqb_comm : (a b : ℕ) → eqb a b ≡ eqb b a
eqb_comm a b = elim (cases_eq a b) [ inl same ↦ eq-eqb a b same ∙ sym (eq-eqb b a (sym same)) | inr differ ↦ ne_eqb a b differ ∙ sym (ne_eqb b a (λ same. differ (sym same))) ]

-- one pair more
pub leads-add : (rows : List Set) (a b : ℕ) → a < length rows → b < length (row rows a) → (x y : ℕ)
    → leads (set rows a (with_event (row rows a) b)) x y ≡ (leads rows x y || (eqb a x && eqb b y))
leads-add rows a b within room x y = elim (cases_eq x a) [
  | inl same ↦
      ap (λ k. leads (set rows a (with_event (row rows a) b)) k y) same
      ∙ ap (λ s. has s y) (get_or-set_same rows a (with_event (row rows a) b) [] within)
      ∙ has-with_event (row rows a) b room y ∙ or_comm (eqb y b) (has (row rows a) y)
      ∙ ap (λ t. leads rows a y || t) (eqb_comm y b)
      ∙ sym (ap (λ k. leads rows k y || (eqb a k && eqb b y)) same ∙ ap (λ t. leads rows a y || (t && eqb b y)) (eq-eqb a a refl))
  | inr other ↦
      ap (λ s. has s y) (get_or-set_other rows a x (with_event (row rows a) b) [] other)
      ∙ sym (ap (λ t. leads rows x y || (t && eqb b y)) (ne_eqb a x (λ same. other (sym same))) ∙ or_false (leads rows x y))
]

pub room-add : (rows : List Set) (a b n : ℕ) → a < length rows → ((k : ℕ) → k < length rows → length (row rows k) ≡ n)
    → (k : ℕ) → k < length rows → length (row (set rows a (with_event (row rows a) b)) k) ≡ n
room-add rows a b n within rooms k below = elim (cases_eq k a) [
  | inl same ↦
      ap (λ j. length (row (set rows a (with_event (row rows a) b)) j)) same
      ∙ ap (λ s. length s) (get_or-set_same rows a (with_event (row rows a) b) [] within)
      ∙ length-those (length (row rows a)) (λ j. eqb j b || has (row rows a) j) ∙ rooms a within
  | inr other ↦ ap (λ s. length s) (get_or-set_other rows a k (with_event (row rows a) b) [] other) ∙ rooms k below
]

-- a pair is added to the targets and, turned round, to the sources
pub table-add : (t u : Inside) (a b : ℕ) → IsTable t → a < length t.targets.items → b < length t.targets.items
    → u.targets.items ≡ set t.targets.items a (with_event (row t.targets.items a) b)
    → u.sources.items ≡ set t.sources.items b (with_event (row t.sources.items b) a)
    → IsTable u
table-add t u a b h source target ts ss =
    let targets = t.targets.items in let sources = t.sources.items in
    let many : length u.targets.items ≡ length targets = ap (λ rows. length rows) ts ∙ length-set targets a (with_event (row targets a) b) in
    let back : b < length sources = (let e = h.as_many in omega arith) in
    record {
      most = (let e = h.most in omega arith);
      as_many = ap (λ rows. length rows) ss ∙ length-set sources b (with_event (row sources b) a) ∙ h.as_many ∙ sym many;
      rooms = λ k below. ap (λ rows. length (row rows k)) ts ∙ room-add targets a b (length targets) source h.rooms k (omega arith) ∙ sym many;
      rooms_back = λ k below. ap (λ rows. length (row rows k)) ss
          ∙ room-add sources b a (length targets) back (λ j l. h.rooms_back j (let e = h.as_many in omega arith)) k (let e = h.as_many in omega arith) ∙ sym many;
      turned = λ x y.
          ap (λ rows. leads rows y x) ss ∙ leads-add sources b a back (let e = h.rooms_back b target in omega arith) y x
          ∙ ap (λ p. p || (eqb b y && eqb a x)) (h.turned x y) ∙ ap (λ p. leads targets x y || p) (and_comm (eqb b y) (eqb a x))
          ∙ sym (ap (λ rows. leads rows x y) ts ∙ leads-add targets a b source (let e = h.rooms a source in omega arith) x y);
    }

-- rows without any event
pub leads-none : (m n : ℕ) (x y : ℕ) → leads (replicate m (no_event n)) x y ≡ false
leads-none m n x y = elim (cases_lt x m) [
  | inl within ↦ ap (λ s. has s y) (get_or-replicate m x (no_event n) [] within) ∙ has-those_all n (λ _. false) (λ _ _. refl) y
  | inr past ↦ ap (λ s. has s y) (get_or_past (replicate m (no_event n)) x [] (let e = length-replicate m (no_event n) in omega arith))
]

pub empty_table : (t : Inside) (n : ℕ) → n ≤ 1024 → t.targets.items ≡ replicate n (no_event n) → t.sources.items ≡ replicate n (no_event n) → IsTable t
empty_table t n most ts ss =
    let many : length t.targets.items ≡ n = ap (λ rows. length rows) ts ∙ length-replicate n (no_event n) in
    record {
      most = omega arith;
      as_many = ap (λ rows. length rows) ss ∙ length-replicate n (no_event n) ∙ sym many;
      rooms = λ k below. ap (λ rows. length (row rows k)) ts ∙ empty_room k (omega arith) ∙ sym many;
      rooms_back = λ k below. ap (λ rows. length (row rows k)) ss ∙ empty_room k (omega arith) ∙ sym many;
      turned = λ x y. ap (λ rows. leads rows y x) ss ∙ leads-none n n y x ∙ sym (ap (λ rows. leads rows x y) ts ∙ leads-none n n x y);
    }
  where
    empty_room : (k : ℕ) → k < n → length (row (replicate n (no_event n)) k) ≡ n
    empty_room k below = ap (λ s. length s) (get_or-replicate n k (no_event n) [] below) ∙ length-those n (λ _. false)

-- what is lent of a table
pub row_read : (rows : List Set) (i : ℕ) (x : Set) → i < length rows → x ≡ get_or rows i x → x ≡ row rows i
row_read rows i x within read = get_or_read rows i x within read []

pub targets_read : (t : Inside) (e : ℕ) → IsTable t → e < length t.targets.items → row t.targets.items e ≡ those (length t.targets.items) (λ b. leads t.targets.items e b)
targets_read t e h within = sym (those-has (row t.targets.items e)) ∙ ap (λ n. those n (has (row t.targets.items e))) (h.rooms e within)

pub sources_read : (t : Inside) (e : ℕ) → IsTable t → e < length t.targets.items → row t.sources.items e ≡ those (length t.targets.items) (λ a. leads t.targets.items a e)
sources_read t e h within =
    let room = h.rooms_back e within in
    same_set (row t.sources.items e) (those (length t.targets.items) (λ a. leads t.targets.items a e)) (room ∙ sym (length-those (length t.targets.items) (λ a. leads t.targets.items a e))) (λ k below.
    h.turned k e ∙ sym (has-those (length t.targets.items) (λ a. leads t.targets.items a e) k (omega arith)))
