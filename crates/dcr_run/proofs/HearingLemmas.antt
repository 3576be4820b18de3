-- What stands beside a network, one element for each site, where the participants of an event are told of it one after
-- the other: those told changed as they should, and the others stayed.
use Rattle.std.proofs.Common.{◌≡◌, ℕ, ◌+◌, ◌<◌, ◌≤◌, Bool, true, false, ◌||◌, eqb, List, [], length, get_or, set, take, Some, inl, inr, refl, sym, ap, subst, ◌∙◌, arith, length-set}
use Rattle.std.proofs.lemmas.Bool.{eq-eqb, ne_eqb, eqb-true, false≢true, false_from_ne_true}
use Rattle.std.proofs.lemmas.Grind.{get_or_default_zero}
use Rattle.std.proofs.lemmas.List.{length-take-le, get_or-take, take_all}
use Rattle.std.proofs.lemmas.List.Folds.{list_any_more, list_any_none, list_any_at, Any-from_list_any}
use Rattle.std.proofs.lemmas.List.Kept.{AllPairs-from_increasing}
use Rattle.std.specs.Prelude.{slice_get}
use Rattle.std.specs.List.{All, list_any, Contains}
use Rattle.std.specs.List.Sorted.{IsStrictlyIncreasing}
use Rattle.dcr_set.proofs.ListLemmas.{set_cases}
use Rattle.dcr_set.specs.EventSet.{Set}
use Rattle.dcr_graph.proofs.BoolLemmas.{or_true, or_false}
use Rattle.dcr_proj.specs.NetworkValue.{participants_of}
use Rattle.dcr_proj.proofs.NetworkLemmas.{hears, participant_hears, hears_participant, participants_ascend, participants_below}

-- whether a site is among those told
abbrev pub is_among : List ℕ → ℕ → Bool
is_among told j = list_any (λ i. eqb i j) told

-- where a site was told, its element changed by Changed; else it stayed
pub record HeardBy {A : Type 0} (Changed : A → A → Type 0) (told : List ℕ) (before after : List A) : Type 0 where
  pub as_many : length after ≡ length before
  pub each : (j : ℕ) (new : A) → slice_get after j ≡ Some new
      → (old : A) × (slice_get before j ≡ Some old) × (is_among told j ≡ true → Changed old new) × (is_among told j ≡ false → new ≡ old)

pub heard_none : {A : Type 0} (Changed : A → A → Type 0) (list : List A) → HeardBy Changed [] list list
heard_none Changed list = record { as_many = refl; each = λ j new is. (new, is, (λ among. absurd (false≢true among)), (λ _. refl)) }

-- the next site in the list, which wasn't told before
module _ {A : Type 0} (Changed : A → A → Type 0) (list : List ℕ) (k : ℕ) (before after : List A) (so_far : HeardBy Changed (take k list) before after) (within : k < length list) (p : ℕ)
    (is : get_or list k 0 ≡ p) where
  among_more : (j : ℕ) → is_among (take (k + 1) list) j ≡ (is_among (take k list) j || eqb p j)
  among_more j = list_any_more (λ i. eqb i j) list k 0 within ∙ ap (λ i. is_among (take k list) j || eqb i j) is

  pub heard_more : (old new : A) → is_among (take k list) p ≡ false → p < length after → slice_get after p ≡ Some old → Changed old new
      → HeardBy Changed (take (k + 1) list) before (set after p new)
  heard_more old new fresh below here changed = record {
    as_many = length-set after p new ∙ so_far.as_many;
    each = λ j found is_found. elim (set_cases after p new j found below is_found) [
      | inl at ↦
          let was = so_far.each p old here in
          let changed_here : Changed was.0 found = subst (λ x. Changed x found) (was.3 fresh) (subst (Changed old) (sym at.1) changed) in (
            was.0,
            ap (slice_get before) at.0 ∙ was.1,
            (λ _. changed_here),
            (λ among. absurd (false≢true (sym among ∙ among_more j ∙ ap (λ t. is_among (take k list) j || t) (eq-eqb p j (sym at.0)) ∙ or_true (is_among (take k list) j)))),
          )
      | inr other ↦
          let was = so_far.each j found other.1 in
          let same : is_among (take (k + 1) list) j ≡ is_among (take k list) j =
          among_more j ∙ ap (λ t. is_among (take k list) j || t) (ne_eqb p j (λ e. other.0 (sym e))) ∙ or_false (is_among (take k list) j) in
          (was.0, was.1, (λ among. was.2 (sym same ∙ among)), (λ among. was.3 (sym same ∙ among)))
    ];
  }

-- a place in an ascending list isn't among those before it
pub fresh_at : (list : List ℕ) (k : ℕ) → IsStrictlyIncreasing list → k < length list → is_among (take k list) (get_or list k 0) ≡ false
fresh_at list k ascends within =
    list_any_none (λ i. eqb i (get_or list k 0)) (take k list) (λ m d l.
    let few : length (take k list) ≡ k = length-take-le k list (omega arith) in
    let lower : get_or list m d < get_or list k d = AllPairs-from_increasing list ascends m k d (omega arith) within in
    let value : get_or (take k list) m d ≡ get_or list m d = get_or-take k list m d (omega arith) in
    let there : get_or list k d ≡ get_or list k 0 = get_or_default_zero list k d within in
    ne_eqb (get_or (take k list) m d) (get_or list k 0) (λ same. let bad : get_or list m d ≡ get_or list k d = sym value ∙ same ∙ sym there in absurd (omega arith)))

-- the participants are those whose alphabet has the event
among_participants : (alphabets : List Set) (e j : ℕ) (b : Bool) → hears alphabets e j ≡ b → is_among (participants_of alphabets e) j ≡ b
among_participants alphabets e j true h =
    let c = hears_participant alphabets e j h in
    list_any_at (λ i. eqb i j) (participants_of alphabets e) c.0 j c.1 (eq-eqb _ j c.2)
among_participants alphabets e j false h = false_from_ne_true _ (λ among.
    let found = Any-from_list_any (λ i. eqb i j) (participants_of alphabets e) among in
    let same : found.1 ≡ j = eqb-true found.1 j found.4 in
    let contains : Contains (participants_of alphabets e) found.1 = (found.0, found.2, found.3) in
    false≢true (sym h ∙ participant_hears alphabets e j (subst (Contains (participants_of alphabets e)) same contains)))

-- the next participant: it is a site, which wasn't told before and hears of the event
module _ (alphabets : List Set) (e k : ℕ) (list : List ℕ) (is : list ≡ participants_of alphabets e) (within : k < length list) (p : ℕ) (at : get_or list k 0 ≡ p) where
  pub next_below : p < length alphabets
  next_below =
      let below : get_or list k 0 < length alphabets = subst (λ l. All (λ i. i < length alphabets) l) (sym is) (participants_below alphabets e) k 0 within in
      omega arith

  pub next_fresh : is_among (take k list) p ≡ false
  next_fresh = subst (λ q. is_among (take k list) q ≡ false) at (fresh_at list k (subst (λ l. IsStrictlyIncreasing l) (sym is) (participants_ascend alphabets e)) within)

  pub next_hears : hears alphabets e p ≡ true
  next_hears =
      let contained : Contains list p = (k, within, get_or_default_zero list k p within ∙ at) in
      participant_hears alphabets e p (subst (λ l. Contains l p) is contained)

-- what stands there is what stood there before all
pub next_kept : {A : Type 0} (Changed : A → A → Type 0) (alphabets : List Set) (e k : ℕ) (list : List ℕ) (before after : List A) → HeardBy Changed (take k list) before after
    → list ≡ participants_of alphabets e → k < length list → (p : ℕ) → get_or list k 0 ≡ p → (here : A) → slice_get after p ≡ Some here → slice_get before p ≡ Some here
next_kept Changed alphabets e k list before after so_far is within p at here found =
    let was = so_far.each p here found in
    was.1 ∙ ap Some (sym (was.3 (next_fresh alphabets e k list is within p at)))

-- after the last participant each site was told that hears of the event, and no other
pub heard_by_all : {A : Type 0} (Changed : A → A → Type 0) (alphabets : List Set) (e k : ℕ) (list : List ℕ) (before after : List A) → length list ≤ k
    → list ≡ participants_of alphabets e → HeardBy Changed (take k list) before after → (j : ℕ) (new : A) → slice_get after j ≡ Some new
    → (old : A) × (slice_get before j ≡ Some old) × (hears alphabets e j ≡ true → Changed old new) × (hears alphabets e j ≡ false → new ≡ old)
heard_by_all Changed alphabets e k list before after all is so_far j new found =
    let was = so_far.each j new found in
    let among : (b : Bool) → hears alphabets e j ≡ b → is_among (take k list) j ≡ b =
    λ b h. ap (λ l. is_among l j) (take_all k list all ∙ is) ∙ among_participants alphabets e j b h in
    (was.0, was.1, (λ h. was.2 (among true h)), (λ h. was.3 (among false h)))
