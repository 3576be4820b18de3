-- The tables of pairs that are read from the rows of a part.
use Rattle.std.proofs.Common.{◌≡◌, ℕ, zero, suc, ◌+◌, ◌<◌, ◌≤◌, Bool, true, false, ◌&&◌, ◌||◌, eqb, List, [], ◌∷◌, ◌++◌, length, get_or, map, replicate, inl, inr, refl, sym, ap, subst, ◌∙◌, arith}
use Rattle.std.proofs.lemmas.Bool.{cases_lt, eqb-true}
use Rattle.std.proofs.lemmas.List.{get_or-replicate, get_or_append_left, get_or_push}
use Rattle.serde_json.specs.View.{view}
use Rattle.serde_json.specs.declared.value.Value.{Value}
use Rattle.dcr_set.specs.Least.{some_below}
use Rattle.dcr_set.specs.EventSet.{Set, has, no_event, numbers}
use Rattle.dcr_set.proofs.LeastLemmas.{some_below-at}
use Rattle.dcr_set.proofs.NumbersLemmas.{numbers-below}
use Rattle.dcr_set.proofs.SetLemmas.{has-those, length-those}
use Rattle.dcr_graph.specs.Rows.{leads}
use Rattle.dcr_graph.specs.Rules.{Rules, kind_number}
use Rattle.dcr_graph.specs.declared.kind.Kind.{Kind}
use Rattle.dcr_graph.specs.declared.kind.Kind.TheVariants.{Condition, Response, Milestone, Include, Exclude, Cancel}
use Rattle.dcr_graph.proofs.BoolLemmas.{and_false, or_false}
use Rattle.dcr_part.specs.PartText.{sources, targets, row_value}
use Rattle.dcr_part.specs.Read.{IsTableOf}
use Rattle.dcr_part.proofs.FrontLemmas.{in_front, front_more, front_all, led_by, none_in, one_more}
use Rattle.dcr_part.proofs.ReadLemmas.{value_at, as_many}

-- ---- the targets of one source

-- one target more of those to come was added
pub target_added : (l a b r : Bool) → ((l || (a && b)) || (a && r)) ≡ (l || (a && (b || r)))
target_added true a b r = refl
target_added false true b r = refl
target_added false false b r = refl

-- none is to come
pub none_ahead : (l a : Bool) → (l || (a && false)) ≡ l
none_ahead l a = ap (λ t. l || t) (and_false a) ∙ or_false l

-- ---- the rows of a relation

-- the row that a value is which was read
pub row_at : (n : ℕ) (r : ℕ → ℕ → Bool) (values : List Value) (i : ℕ) (v : Value) → map view values ≡ map (row_value n r) (numbers (sources n r)) → i < length values → v ≡ get_or values i v
    → (i < length (numbers (sources n r))) × (get_or (numbers (sources n r)) i 0 < n) × (view v ≡ row_value n r (get_or (numbers (sources n r)) i 0))
row_at n r values i v same within is =
    let here = value_at (row_value n r) values (numbers (sources n r)) i v 0 same within is in
    let below = numbers-below (sources n r) i 0 here.0 in let room = length-those n (λ a. some_below n (r a)) in
    (here.0, omega arith, here.1)

-- a table is begun, gets the pairs of the next source, and has them all
pub pairs_begun : (n : ℕ) (r : ℕ → ℕ → Bool) (table : List Set) → table ≡ replicate n (no_event n) → (x y : ℕ) → x < n → y < n → leads table x y ≡ (in_front (sources n r) 0 x && r x y)
pairs_begun n r table is x y atom below = ap (λ t. leads t x y) is ∙ ap (λ s. has s y) (get_or-replicate n x (no_event n) [] atom) ∙ none_in n y

pub pairs_grown : (n : ℕ) (r : ℕ → ℕ → Bool) (i a : ℕ) (before after : List Set) → i < length (numbers (sources n r)) → a ≡ get_or (numbers (sources n r)) i 0
    → ((x y : ℕ) → leads after x y ≡ (leads before x y || (eqb a x && has (targets n r a) y)))
    → ((x y : ℕ) → x < n → y < n → leads before x y ≡ (in_front (sources n r) i x && r x y))
    → (x y : ℕ) → x < n → y < n → leads after x y ≡ (in_front (sources n r) (i + 1) x && r x y)
pairs_grown n r i a before after within is added so_far x y atom below =
    added x y
    ∙ ap (λ b. b || (eqb a x && has (targets n r a) y)) (so_far x y atom below)
    ∙ ap (λ b. (in_front (sources n r) i x && r x y) || (eqb a x && b)) (has-those n (r a) y below)
    ∙ one_more (in_front (sources n r) i x) (eqb a x) (r a y) (r x y) (λ same. ap (λ k. r k y) (eqb-true a x same))
    ∙ ap (λ j. (in_front (sources n r) i x || eqb j x) && r x y) is
    ∙ ap (λ b. b && r x y) (sym (front_more (sources n r) i 0 within x))

pub pairs_read : (n : ℕ) (r : ℕ → ℕ → Bool) (values : List Value) (i : ℕ) (table : List Set) → map view values ≡ map (row_value n r) (numbers (sources n r)) → length values ≤ i
    → ((x y : ℕ) → x < n → y < n → leads table x y ≡ (in_front (sources n r) i x && r x y)) → IsTableOf n r table
pairs_read n r values i table same past so_far = λ x y atom below.
    let many = as_many (row_value n r) values (numbers (sources n r)) same in
    so_far x y atom below
    ∙ ap (λ b. b && r x y) (front_all (sources n r) i (omega arith) x ∙ has-those n (λ a. some_below n (r a)) x atom)
    ∙ led_by (some_below n (r x)) (r x y) (λ related. some_below-at n (r x) y below related)

-- ---- the tables of the kinds

-- the kind with a number
kind_at : ℕ → Kind
kind_at zero = Condition
kind_at (suc zero) = Response
kind_at (suc (suc zero)) = Milestone
kind_at (suc (suc (suc zero))) = Include
kind_at (suc (suc (suc (suc zero)))) = Exclude
kind_at (suc (suc (suc (suc (suc n))))) = Cancel

kind_back : (kind : Kind) → kind_at (kind_number kind) ≡ kind
unfolding kind_at
kind_back Condition = refl
kind_back Response = refl
kind_back Milestone = refl
kind_back Include = refl
kind_back Exclude = refl
kind_back Cancel = refl

-- kinds with one number are one
same_kinds : (k l : Kind) → kind_number k ≡ kind_number l → k ≡ l
same_kinds k l same = sym (kind_back k) ∙ ap kind_at same ∙ kind_back l

pub kind_small : (kind : Kind) → kind_number kind < 6
kind_small Condition = omega arith
kind_small Response = omega arith
kind_small Milestone = omega arith
kind_small Include = omega arith
kind_small Exclude = omega arith
kind_small Cancel = omega arith

-- the tables before n are those of their kinds
abbrev pub AreBefore : Rules → ℕ → List (List Set) → Type 0
AreBefore R n tables = (kind : Kind) → kind_number kind < n → IsTableOf R.atoms (R.related kind) (get_or tables (kind_number kind) [])

-- one table more, of the kind whose number is next
pub tables_grown : (R : Rules) (n : ℕ) (kind : Kind) (before after : List (List Set)) (table : List Set) → length before ≡ n → kind_number kind ≡ n → after ≡ before ++ table ∷ []
    → IsTableOf R.atoms (R.related kind) table → AreBefore R n before → AreBefore R (n + 1) after
tables_grown R n kind before after table many number grown here so_far = λ k below. elim (cases_lt (kind_number k) n) [
  | inl earlier ↦
      subst (λ t. IsTableOf R.atoms (R.related k) t) (sym (ap (λ ts. get_or ts (kind_number k) []) grown ∙ get_or_append_left before (table ∷ []) [] (kind_number k) (omega arith)))
      (so_far k earlier)
  | inr now ↦
      subst (λ t. IsTableOf R.atoms (R.related k) t) (sym (ap (λ ts. get_or ts (kind_number k) []) grown ∙ get_or_push before table [] (kind_number k) (omega arith)))
      (subst (λ j. IsTableOf R.atoms (R.related j) table) (same_kinds kind k (omega arith)) here)
]
