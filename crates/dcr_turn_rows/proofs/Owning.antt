-- Sets of which each has the atom of its number alone.
use Rattle.std.proofs.Common.{◌≡◌, ℕ, zero, suc, ◌-◌, ltb, Bool, true, false, ◌&&◌, ◌||◌, List, [], ◌∷◌, ◌++◌, length, get_or, sym, refl, ap, ◌∙◌, subst, arith, length-append}
use Rattle.std.specs.Prelude.{◌==◌, slice_get, Some}
use Rattle.std.proofs.lemmas.Bool.{false≢true}
use Rattle.std.proofs.lemmas.Bool.Decides.{nat_tests}
use Rattle.std.proofs.lemmas.List.{get_or_append_left, get_or_push, get_or_past}
use Rattle.std.proofs.lemmas.List.Elements.{All-head, All-tail, All-push}
use mathlib.Core.Logic.{dite}
use native.Mathlib.Decide.{ℕ_discrete, dec_lt}
use Rattle.dcr_set.specs.EventSet.{Set, has, no_event, with_event}
use Rattle.dcr_set.proofs.SetLemmas.{has-those, has_past-those, has_those_both}
use Rattle.dcr_journal.specs.Run.{HasNoFault}
use Rattle.dcr_journal.specs.declared.call.Outcome.TheVariants.{Faulted}
use Rattle.dcr_journal.specs.declared.call.Entry.{Entry}
use Rattle.dcr_turn.specs.Pushing.{EndsWithoutFault}
use Rattle.dcr_turn_rows.specs.Own.{HaveOwnEvents}

or_true : (x y z : Bool) → (x && (y || z)) ≡ true → z ≡ false → y ≡ true
or_true true true z h none = refl
or_true true false z h none = sym none ∙ h
or_true false y z h none = absurd (false≢true h)

-- the set with one atom has no other
one_atom : (i k : ℕ) → has (with_event (no_event 16) i) k ≡ true → k ≡ i
one_atom i k h =
    let n = length (no_event 16) in
    let a = has_those_both n (λ j. (j == i) || has (no_event 16) j) k in
    let b : has (no_event 16) k ≡ false = dite (dec_lt k 16) (λ below. has-those 16 (λ _. false) k below) (λ past. has_past-those 16 (λ _. false) k (omega arith)) in
    let c : (k == i) ≡ true = or_true (ltb k n) (k == i) (has (no_event 16) k) (sym a ∙ h) b in grind (arith, nat_tests)

none_own : HaveOwnEvents []
none_own i event h = absurd (false≢true h)

-- one more site
pub own_more : (sets more : List Set) (i : ℕ) → length sets ≡ i → HaveOwnEvents sets → more ≡ sets ++ with_event (no_event 16) i ∷ [] → HaveOwnEvents more
own_more sets more i count own is j event h =
    let s = with_event (no_event 16) i in
    let at : has (get_or (sets ++ s ∷ []) j []) event ≡ true = ap (λ (all : List Set). has (get_or all j []) event) (sym is) ∙ h in
    dite (dec_lt j i)
    (λ below. own j event (ap (λ (set : Set). has set event) (sym (get_or_append_left sets (s ∷ []) [] j (omega arith))) ∙ at))
    (λ past. dite (ℕ_discrete j i)
    (λ here. one_atom i event (ap (λ (set : Set). has set event) (sym (get_or_push sets s [] j (omega arith))) ∙ at) ∙ sym here)
    (λ other.
    let long = length-append sets (s ∷ []) in
    absurd (false≢true (ap (λ (set : Set). has set event) (sym (get_or_past (sets ++ s ∷ []) j [] (omega arith))) ∙ at))))

no_fault_there : (J : List Entry) (k : ℕ) (entry : Entry) → HasNoFault J → slice_get J k ≡ Some entry → ¬ (entry.outcome ≡ Faulted)
no_fault_there [] k entry none at = absurd (cc)
no_fault_there (e ∷ J) zero entry none at =
    let is : e ≡ entry = cc in subst (λ (x : Entry). ¬ (x.outcome ≡ Faulted)) is (All-head (λ (x : Entry). ¬ (x.outcome ≡ Faulted)) e J none)
no_fault_there (e ∷ J) (suc k) entry none at = no_fault_there J k entry (All-tail (λ (x : Entry). ¬ (x.outcome ≡ Faulted)) e J none) at

-- a list without a fault doesn't end with one
pub ends_without_fault : (J now : List Entry) → now ≡ J → HasNoFault J → EndsWithoutFault now
ends_without_fault J now is none = subst EndsWithoutFault (sym is) (λ entry at. no_fault_there J (length J - 1) entry none at)

-- and has none with an entry more that is none
pub no_fault_more : (J before now : List Entry) (entry : Entry) → before ≡ J → HasNoFault J → now ≡ before ++ entry ∷ [] → ¬ (entry.outcome ≡ Faulted) → HasNoFault now
no_fault_more J before now entry same none is sound =
    subst HasNoFault (sym (is ∙ ap (λ (l : List Entry). l ++ entry ∷ []) same)) (All-push (λ (x : Entry). ¬ (x.outcome ≡ Faulted)) J entry none sound)
