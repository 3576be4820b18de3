-- What the events of an alphabet that were read tell.
use Rattle.std.proofs.Common.{◌≡◌, ℕ, ◌+◌, ◌<◌, ◌≤◌, Bool, true, false, ◌&&◌, ◌||◌, eqb, cond, List, length, get_or, map, set, replicate, Option, Some, None, inl, inr, sym, ap, ◌∙◌, arith}
use Rattle.std.proofs.lemmas.Bool.{cases_eq, eqb-true, eq-eqb, ne_eqb}
use Rattle.std.proofs.lemmas.List.{ext_get_or, get_or-replicate, get_or-set_same, get_or-set_other}
use Rattle.serde_json.specs.View.{view}
use Rattle.serde_json.specs.declared.value.Value.{Value}
use Rattle.dcr_set.specs.EventSet.{Set, has, no_event, numbers, with_event}
use Rattle.dcr_set.proofs.NumbersLemmas.{numbers-below, member_from_numbers}
use Rattle.dcr_set.proofs.SetLemmas.{same_set}
use Rattle.std.proofs.lemmas.List.Elements.{Contains-get_or}
use Rattle.dcr_graph.proofs.BoolLemmas.{and_true, and_false, or_true, or_false}
use Rattle.dcr_part.specs.PartText.{event_value}
use Rattle.dcr_part.specs.Read.{IsTold}
use Rattle.dcr_part.specs.Told.{Told, name_told}
use Rattle.dcr_part.proofs.FrontLemmas.{in_front, front_next, front_all, has-with_event, led_by, none_in, one_more}
use Rattle.dcr_part.proofs.ReadLemmas.{value_at, as_many}

-- of the first i events of the alphabet, those that are owned, and the names
pub record AreFront (P : Told) (i : ℕ) (owned : Set) (told : List (Option (List ℕ))) : Type 0 where
  pub own : (k : ℕ) → has owned k ≡ (in_front P.alphabet i k && has P.own k)
  pub names : (k : ℕ) → k < P.rules.atoms → get_or told k None ≡ cond (in_front P.alphabet i k) (Some (name_told P.names k)) None

-- the event that a value is which was read
pub event_at : (P : Told) → IsTold P → (values : List Value) (i : ℕ) (v : Value) → map view values ≡ map (event_value P.own P.names) (numbers P.alphabet) → i < length values → v ≡ get_or values i v
    → (i < length (numbers P.alphabet)) × (get_or (numbers P.alphabet) i 0 < P.rules.atoms) × (has P.alphabet (get_or (numbers P.alphabet) i 0) ≡ true)
    × (view v ≡ event_value P.own P.names (get_or (numbers P.alphabet) i 0))
event_at P it values i v same within is =
    let here = value_at (event_value P.own P.names) values (numbers P.alphabet) i v 0 same within is in
    let below = numbers-below P.alphabet i 0 here.0 in let room = it.alphabet in
    (here.0, omega arith, member_from_numbers P.alphabet (get_or (numbers P.alphabet) i 0) (Contains-get_or (numbers P.alphabet) i 0 here.0), here.1)

pub events_begun : (P : Told) (n : ℕ) (own : Set) (names : List (Option (List ℕ))) → P.rules.atoms ≡ n → own ≡ no_event n → names ≡ replicate n None → AreFront P 0 own names
events_begun P n own names atoms no_own no_names = record {
  own = λ k. ap (λ s. has s k) no_own ∙ none_in n k;
  names = λ k within. ap (λ xs. get_or xs k None) no_names ∙ get_or-replicate n k None None (omega arith);
}

with_if : (b : Bool) (s : Set) (e : ℕ) → e < length s → (k : ℕ) → has (cond b (with_event s e) s) k ≡ (has s k || (eqb e k && b))
with_if true s e room k = has-with_event s e room k ∙ ap (λ t. has s k || t) (sym (and_true (eqb e k)))
with_if false s e room k = sym (ap (λ t. has s k || t) (and_false (eqb e k)) ∙ or_false (has s k))

module _ (P : Told) (i e : ℕ) (within : i < length (numbers P.alphabet)) (is : e ≡ get_or (numbers P.alphabet) i 0) where
  owned_grown : (owned : Bool) (own more : Set) → owned ≡ has P.own e → e < length own → more ≡ cond owned (with_event own e) own → ((k : ℕ) → has own k ≡ (in_front P.alphabet i k && has P.own k))
      → (k : ℕ) → has more k ≡ (in_front P.alphabet (i + 1) k && has P.own k)
  owned_grown owned own more owns room grown before k =
      ap (λ s. has s k) grown ∙ with_if owned own e room k
      ∙ ap (λ b. b || (eqb e k && owned)) (before k)
      ∙ one_more (in_front P.alphabet i k) (eqb e k) owned (has P.own k) (λ same. owns ∙ ap (has P.own) (eqb-true e k same))
      ∙ ap (λ b. b && has P.own k) (sym (front_next P.alphabet i e within is k))

  names_grown : (name : List ℕ) (names more : List (Option (List ℕ))) → name ≡ name_told P.names e → e < length names → more ≡ set names e (Some name)
      → ((k : ℕ) → k < P.rules.atoms → get_or names k None ≡ cond (in_front P.alphabet i k) (Some (name_told P.names k)) None)
      → (k : ℕ) → k < P.rules.atoms → get_or more k None ≡ cond (in_front P.alphabet (i + 1) k) (Some (name_told P.names k)) None
  names_grown name names more named room grown before k atom =
      ap (λ xs. get_or xs k None) grown
      ∙ here
      ∙ ap (λ b. cond b (Some (name_told P.names k)) None) (sym (front_next P.alphabet i e within is k))
    where
      here : get_or (set names e (Some name)) k None ≡ cond (in_front P.alphabet i k || eqb e k) (Some (name_told P.names k)) None
      here = elim (cases_eq k e) [
        | inl same ↦
            ap (λ j. get_or (set names e (Some name)) j None) same ∙ get_or-set_same names e (Some name) None room
            ∙ ap Some (named ∙ ap (name_told P.names) (sym same))
            ∙ sym (ap (λ b. cond b (Some (name_told P.names k)) None) (ap (λ b. in_front P.alphabet i k || b) (eq-eqb e k (sym same)) ∙ or_true (in_front P.alphabet i k)))
        | inr other ↦
            get_or-set_other names e k (Some name) None other ∙ before k atom
            ∙ ap (λ b. cond b (Some (name_told P.names k)) None) (sym (ap (λ b. in_front P.alphabet i k || b) (ne_eqb e k (λ same. other (sym same))) ∙ or_false (in_front P.alphabet i k)))
      ]

  pub events_grown : (name : List ℕ) (owned : Bool) (own own_more : Set) (names names_more : List (Option (List ℕ))) → name ≡ name_told P.names e → owned ≡ has P.own e
      → e < length own → e < length names → own_more ≡ cond owned (with_event own e) own → names_more ≡ set names e (Some name) → AreFront P i own names → AreFront P (i + 1) own_more names_more
  events_grown name owned own own_more names names_more named owns own_room names_room own_grown name_grown before = record {
    own = owned_grown owned own own_more owns own_room own_grown before.own;
    names = names_grown name names names_more named names_room name_grown before.names;
  }

pub events_read : (P : Told) → IsTold P → (values : List Value) (i : ℕ) (own : Set) (names : List (Option (List ℕ))) → map view values ≡ map (event_value P.own P.names) (numbers P.alphabet)
    → length values ≤ i → length own ≡ P.rules.atoms → length names ≡ P.rules.atoms → AreFront P i own names → (own ≡ P.own) × (names ≡ P.names)
events_read P it values i own names same past own_room names_room front =
    let many = as_many (event_value P.own P.names) values (numbers P.alphabet) same in
    let over : length (numbers P.alphabet) ≤ i = omega arith in (
      same_set own P.own (own_room ∙ sym it.own) (λ k _.
          front.own k ∙ ap (λ b. b && has P.own k) (front_all P.alphabet i over k) ∙ led_by (has P.alphabet k) (has P.own k) (it.owned k)),
      ext_get_or None names P.names (names_room ∙ sym it.as_many) (λ k within.
          let atom : k < P.rules.atoms = omega arith in
          front.names k atom ∙ ap (λ b. cond b (Some (name_told P.names k)) None) (front_all P.alphabet i over k) ∙ sym (it.just k atom)),
    )
