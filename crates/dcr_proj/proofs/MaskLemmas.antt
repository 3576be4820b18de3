-- Masks under numbers: the mask that has no event, and masks that still lie where they lay.
use Rattle.std.proofs.Common.{◌≡◌, ℕ, ◌+◌, ◌<◌, ◌≤◌, Bool, true, false, not, ◌&&◌, eqb, List, [], ◌∷◌, ◌++◌, length, get_or, Option, Some, None, is_some, nat_le, inl, inr, refl, sym, ap, subst, ◌∙◌, arith}
use Rattle.std.proofs.lemmas.Bool.{false≢true, cases_lt, eqb-true}
use Rattle.std.proofs.lemmas.Bool.Decides.{nat_tests}
use Rattle.std.specs.Prelude.{IfSome}
use Rattle.std.specs.List.{All}
use Rattle.std.proofs.lemmas.List.Elements.{All-append}
use Rattle.std.proofs.lemmas.List.{get_or_append_left, get_or_at, get_or_read, length-append}
use Rattle.dcr_set.specs.EventSet.{Set, has, those, no_event, first_of, first_at_least, first_in_both_without}
use Rattle.dcr_set.proofs.LeastLemmas.{least-none, least-none_from, least-some}
use Rattle.dcr_set.proofs.SetLemmas.{length-those, has-those, has_past, same_set, those-has, those-ext}
use Rattle.dcr_graph.specs.Rows.{row}
use Rattle.dcr_graph.proofs.BoolLemmas.{and_true}
use Rattle.dcr_proj.specs.CoverValue.{atoms_of}
use Rattle.dcr_proj.specs.Masks.{AreMasks, KeepsMasks, HasAlone, IsPlace}
use Rattle.dcr_proj.specs.Once.{Grows}
use Rattle.dcr_proj.specs.Rows.{GuardMasks, EffectMasks, guard_masks, effect_masks, event_row, IsGuardRow, IsEffectRow, IsEventRow, HasRow}
use Rattle.dcr_proj.specs.declared.rows.GuardRow.{GuardRow}
use Rattle.dcr_proj.specs.declared.rows.EffectRow.{EffectRow}
use Rattle.dcr_proj.specs.declared.rows.EventRow.{EventRow}
use Rattle.dcr_proj.specs.declared.masks.Place.{Place}

-- a set whose least number is none has none
pub nothing_first : (s : Set) → first_of s ≡ None → s ≡ no_event (length s)
nothing_first s none = sym (those-has s) ∙ those-ext (length s) _ _ (λ k below. least-none (length s) (has s) none k below)

-- a set with a least event and none behind it has that event alone
pub one_event : (s : Set) (e : ℕ) → first_of s ≡ Some e → is_some (first_at_least s (e + 1)) ≡ false → s ≡ those (length s) (λ k. eqb k e)
one_event s e first others = sym (those-has s) ∙ those-ext (length s) _ _ (λ k below. here k below (eqb k e) refl)
  where
    none : (o : Option ℕ) → first_at_least s (e + 1) ≡ o → is_some o ≡ false → first_at_least s (e + 1) ≡ None
    none None is out = is
    none (Some k) is out = absurd (false≢true (sym out))

    behind : (k : ℕ) → eqb k e ≡ false → e ≤ k → nat_le (e + 1) k ≡ true
    behind k other from = grind (arith, nat_tests)

    here : (k : ℕ) → k < length s → (b : Bool) → eqb k e ≡ b → has s k ≡ b
    here k below true same = ap (has s) (eqb-true k e same) ∙ (least-some (length s) (has s) e first).passes
    here k below false other = elim (cases_lt k e) [
      | inl before ↦ (least-some (length s) (has s) e first).none_before k before
      | inr from ↦ sym (and_true (has s k)) ∙ ap (λ b. has s k && b) (sym (behind k other from))
          ∙ least-none (length s) (λ j. has s j && nat_le (e + 1) j) (none _ refl others) k below
    ]

pub not_true : (b : Bool) → not b ≡ false → b ≡ true
not_true true is = refl
not_true false is = absurd (false≢true (sym is))

-- where the first set has no event that the second hasn't, the second has all of the first
pub none_lacks : (t s : Set) → is_some (first_in_both_without t t s) ≡ false → (k : ℕ) → has t k ≡ true → has s k ≡ true
none_lacks t s none k there = by (has s k) refl
  where
    found : (o : Option ℕ) → first_in_both_without t t s ≡ o → is_some o ≡ false → first_in_both_without t t s ≡ None
    found None is out = is
    found (Some e) is out = absurd (false≢true (sym out))

    by : (b : Bool) → has s k ≡ b → b ≡ true
    by true is = refl
    by false is = elim (cases_lt k (length t)) [
      | inl below ↦ absurd (false≢true (sym (least-none (length t) (λ j. has t j && (has t j && not (has s j))) (found _ refl none) k below) ∙ ap (λ b. b && (b && not (has s k))) there ∙ ap not is))
      | inr past ↦ absurd (false≢true (sym (has_past t k past) ∙ there))
    ]

-- and a set has all that it has
pub lacks_none : (s : Set) → is_some (first_in_both_without s s s) ≡ false
lacks_none s = ap is_some (least-none_from (length s) _ (λ k below. none (has s k)))
  where
    none : (b : Bool) → (b && (b && not b)) ≡ false
    none true = refl
    none false = refl

-- sets of one room that have all of each other are the same
pub same_events : (s t : Set) → length s ≡ length t → ((k : ℕ) → has t k ≡ true → has s k ≡ true) → ((k : ℕ) → has s k ≡ true → has t k ≡ true) → s ≡ t
same_events s t room first other = same_set s t room (λ k _. both (has s k) (has t k) (first k) (other k))
  where
    both : (a b : Bool) → (b ≡ true → a ≡ true) → (a ≡ true → b ≡ true) → a ≡ b
    both true b h i = sym (i refl)
    both false true h i = h refl
    both false false h i = refl

-- the mask that has no event, alone
pub room_first : (masks : List Set) (n : ℕ) → masks ≡ no_event n ∷ [] → atoms_of masks ≡ n
room_first masks n is = ap (λ sets. atoms_of sets) is ∙ length-those n (λ _. false)

-- what was kept twice was kept
pub kept_on : (old mid new : List Set) → KeepsMasks old mid → KeepsMasks mid new → KeepsMasks old new
kept_on old mid new first next = record {
  as_many = (let a = first.as_many in let b = next.as_many in omega arith);
  same = λ k within. next.same k (let a = first.as_many in omega arith) ∙ first.same k within;
}

-- masks that are kept are over the same atoms
pub kept_room : (old new : List Set) → 1 ≤ length old → KeepsMasks old new → atoms_of new ≡ atoms_of old
kept_room old new some kept = ap (λ mask. length mask) (kept.same 0 (omega arith))

-- a mask lies where it lay
pub kept_place : (old new : List Set) (place : Place) → 1 ≤ length old → KeepsMasks old new → IsPlace old place → IsPlace new place
kept_place old new place some kept is = record { within = (let a = kept.as_many in let b = is.within in omega arith); alone = by place.alone is.alone }
  where
    by : (alone : Option ℕ) → IfSome alone (HasAlone old place.number) → IfSome alone (HasAlone new place.number)
    by None h = tt
    by (Some e) h =
        let room = kept_room old new some kept in record {
          atom = subst (λ n. e < n) (sym room) h.atom;
          only = kept.same place.number is.within ∙ h.only ∙ ap (λ n. those n (λ k. eqb k e)) (sym room);
        }

-- the places of an atom are those of the same masks
pub kept_guard_row : (test : ℕ → Bool) (masks_of : ℕ → GuardMasks) (old new : List Set) (e : ℕ) (g : GuardRow) → 1 ≤ length old → KeepsMasks old new
    → IsGuardRow test masks_of old e g → IsGuardRow test masks_of new e g
kept_guard_row test masks_of old new e g some kept is =
    let condition = kept.same g.condition.number is.within.condition.within in let milestone = kept.same g.milestone.number is.within.milestone.within in
    let same : guard_masks new g ≡ guard_masks old g = cc in
    record {
      within = record { condition = kept_place old new g.condition some kept is.within.condition; milestone = kept_place old new g.milestone some kept is.within.milestone };
      told = λ passes. same ∙ is.told passes;
    }

pub kept_effect_row : (test : ℕ → Bool) (masks_of : ℕ → EffectMasks) (old new : List Set) (e : ℕ) (f : EffectRow) → 1 ≤ length old → KeepsMasks old new
    → IsEffectRow test masks_of old e f → IsEffectRow test masks_of new e f
kept_effect_row test masks_of old new e f some kept is =
    let response = kept.same f.response.number is.within.response.within in let include = kept.same f.include.number is.within.include.within in
    let exclude = kept.same f.exclude.number is.within.exclude.within in let cancel = kept.same f.cancel.number is.within.cancel.within in
    let same : effect_masks new f ≡ effect_masks old f = cc in
    record {
      within = record {
        response = kept_place old new f.response some kept is.within.response;
        include = kept_place old new f.include some kept is.within.include;
        exclude = kept_place old new f.exclude some kept is.within.exclude;
        cancel = kept_place old new f.cancel some kept is.within.cancel;
      };
      told = λ passes. same ∙ is.told passes;
    }

pub kept_event_row : (owned heard : ℕ → Bool) (guards_at : ℕ → GuardMasks) (effects_at : ℕ → EffectMasks) (old new : List Set) (e : ℕ) (it : EventRow) → 1 ≤ length old → KeepsMasks old new
    → IsEventRow owned heard guards_at effects_at old e it → IsEventRow owned heard guards_at effects_at new e it
kept_event_row owned heard guards_at effects_at old new e it some kept is = record {
  guards = kept_guard_row owned guards_at old new e it.guards some kept is.guards;
  effects = kept_effect_row heard effects_at old new e it.effects some kept is.effects;
}

-- items behind which others stand are the same
pub grown_item : {A : Type 0} (old new : List A) (item d : A) (k : ℕ) → Grows old new item → k < length old → get_or new k d ≡ get_or old k d
grown_item old new item d k grows within = ap (λ l. get_or l k d) grows.grown ∙ get_or_append_left old grows.rest d k within

-- masks of which one more is kept, over the same atoms
pub grown_masks : (old new : List Set) (mask : Set) → AreMasks old → Grows old new mask → length mask ≡ atoms_of old → AreMasks new × KeepsMasks old new × (length new ≤ length old + 1)
grown_masks old new mask are grows room =
    let len : length new ≡ length old + length grows.rest = ap (λ l. length l) grows.grown ∙ length-append old grows.rest in
    let one = grows.one in let some = are.some_mask in
    let kept : KeepsMasks old new = record { as_many = omega arith; same = λ k within. grown_item old new mask [] k grows within } in
    let atoms : atoms_of new ≡ atoms_of old = kept_room old new some kept in (
      record {
        some_mask = omega arith;
        rooms = subst (λ (l : List Set). All (λ (set : Set). length set ≡ atoms_of new) l) (sym grows.grown)
            (All-append (λ (set : Set). length set ≡ atoms_of new) old grows.rest
            (λ k d within. are.rooms k d within ∙ sym atoms)
            (λ k d within. ap (λ s. length s) (grows.same k d within) ∙ room ∙ sym atoms));
        nothing = kept.same 0 (omega arith) ∙ are.nothing ∙ ap no_event (sym atoms);
      },
      kept,
      omega arith,
    )

-- a mask that was kept has the one event alone that it had
pub alone_there : (old new : List Set) (mask : Set) (number e : ℕ) → AreMasks old → Grows old new mask → length mask ≡ atoms_of old → row new number ≡ mask
    → first_of mask ≡ Some e → is_some (first_at_least mask (e + 1)) ≡ false → HasAlone new number e
alone_there old new mask number e are grows room there first others =
    let kept = (grown_masks old new mask are grows room).1 in
    let atoms : length mask ≡ atoms_of new = room ∙ sym (kept_room old new are.some_mask kept) in
    record {
      atom = subst (λ n. e < n) atoms (least-some (length mask) (has mask) e first).below;
      only = there ∙ one_event mask e first others ∙ ap (λ n. those n (λ k. eqb k e)) atoms;
    }

-- ---- the rows of all atoms

module _ (owned heard : ℕ → Bool) (guards_at : ℕ → GuardMasks) (effects_at : ℕ → EffectMasks) (new : List Set) (rows more : List EventRow) (it : EventRow) (numbers all : List ℕ) (k : ℕ)
    (grows : Grows rows more it) (added : all ≡ numbers ++ k ∷ []) where
  -- an atom that had its row has it still
  pub row_stays : (old : List Set) (e : ℕ) → 1 ≤ length old → KeepsMasks old new → e < length numbers → HasRow owned heard guards_at effects_at old rows numbers e
      → HasRow owned heard guards_at effects_at new more all e
  row_stays old e some kept below has =
      let same : get_or all e 0 ≡ get_or numbers e 0 = ap (λ l. get_or l e 0) added ∙ get_or_append_left numbers (k ∷ []) 0 e below in
      let len = ap (λ l. length l) grows.grown ∙ length-append rows grows.rest in
      record {
        number = (let within = has.number in omega arith);
        row = subst (IsEventRow owned heard guards_at effects_at new e)
            (sym (ap (λ n. get_or more n (event_row [] [] 0)) same ∙ grown_item rows more it (event_row [] [] 0) (get_or numbers e 0) grows has.number))
            (kept_event_row owned heard guards_at effects_at old new e (event_row rows numbers e) some kept has.row);
      }

  -- and the next one has its row
  pub row_comes : (n : ℕ) → length numbers ≡ n → k < length more → ((other : EventRow) → get_or more k other ≡ it) → IsEventRow owned heard guards_at effects_at new n it
      → HasRow owned heard guards_at effects_at new more all n
  row_comes n len within there is =
      let its : get_or all n 0 ≡ k = ap (λ l. get_or l n 0) added ∙ get_or_at numbers k [] 0 n len in
      record {
        number = subst (λ i. i < length more) (sym its) within;
        row = subst (IsEventRow owned heard guards_at effects_at new n) (sym (ap (λ i. get_or more i (event_row [] [] 0)) its ∙ there (event_row [] [] 0))) is;
      }

-- what was read at a place, where that is the number of an atom
pub read_row : {R : Type 0} (rows : List R) (i e : ℕ) (found d : R) → i ≡ e → e < length rows → found ≡ get_or rows i found → found ≡ get_or rows e d
read_row rows i e found d same within read = get_or_read rows i found (omega arith) read d ∙ ap (λ k. get_or rows k d) same
