-- What a mask that has no event, or one, does to a set, and the least of it.
use Rattle.std.proofs.Common.{◌≡◌, ℕ, ◌<◌, Bool, true, false, not, ◌&&◌, ◌||◌, eqb, ltb, cond, List, length, Option, Some, None, refl, sym, ap, subst, ◌∙◌, arith}
use Rattle.std.specs.Prelude.{IfSome}
use Rattle.std.proofs.lemmas.Bool.{eqb-true, eqb-false}
use Rattle.dcr_set.specs.Least.{least}
use Rattle.dcr_set.specs.EventSet.{Set, has, those, no_event, with_event, without_event, union, difference, first_in_both_without, first_in_three}
use Rattle.dcr_set.proofs.LeastLemmas.{least-ext, least-from, least-none_from}
use Rattle.dcr_set.proofs.SetLemmas.{has-those, has_those_both, length-those, those-ext, those-has}
use Rattle.dcr_graph.specs.Rows.{row}
use Rattle.dcr_graph.proofs.BoolLemmas.{and_true, and_false, or_false}
use Rattle.dcr_proj.specs.CoverValue.{atoms_of}
use Rattle.dcr_proj.specs.Masks.{AreMasks, HasAlone, IsPlace}
use Rattle.dcr_graph.specs.declared.marking.SiteMark.{SiteMark}
use Rattle.dcr_proj.specs.MarksAfter.{marks_after}
use Rattle.dcr_proj.specs.Rows.{EffectMasks}
use Rattle.dcr_proj.specs.declared.masks.Place.{Place}

nothing : (n k : ℕ) → has (no_event n) k ≡ false
nothing n k = has_those_both n (λ _. false) k ∙ and_false (ltb k n)

-- no event adds nothing, takes out nothing, and is not the least of anything
pub nothing_added : (s : Set) → s ≡ union s (no_event (length s))
nothing_added s = sym (those-has s) ∙ those-ext (length s) _ _ (λ k below. sym (ap (λ b. has s k || b) (nothing (length s) k) ∙ or_false (has s k)))

pub nothing_taken : (s : Set) → s ≡ difference s (no_event (length s))
nothing_taken s = sym (those-has s) ∙ those-ext (length s) _ _ (λ k below. sym (ap (λ b. has s k && not b) (nothing (length s) k) ∙ and_true (has s k)))

pub nothing_open : (n : ℕ) (inside outside : Set) → None ≡ first_in_both_without (no_event n) inside outside
nothing_open n inside outside = sym (least-none_from (length (no_event n)) _ (λ k below. ap (λ b. b && (has inside k && not (has outside k))) (nothing n k)))

pub nothing_pending : (n : ℕ) (second third : Set) → None ≡ first_in_three (no_event n) second third
nothing_pending n second third = sym (least-none_from (length (no_event n)) _ (λ k below. ap (λ b. b && (has second k && has third k)) (nothing n k)))

-- one event adds itself, takes out itself, and is the least where it passes
pub one_added : (s : Set) (e : ℕ) → with_event s e ≡ union s (those (length s) (λ k. eqb k e))
one_added s e = those-ext (length s) _ _ (λ k below. or_comm (eqb k e) (has s k) ∙ ap (λ b. has s k || b) (sym (has-those (length s) (λ j. eqb j e) k below)))
  where
    or_comm : (a b : Bool) → (a || b) ≡ (b || a)
    or_comm true true = refl
    or_comm true false = refl
    or_comm false true = refl
    or_comm false false = refl

pub one_taken : (s : Set) (e : ℕ) → without_event s e ≡ difference s (those (length s) (λ k. eqb k e))
one_taken s e = those-ext (length s) _ _ (λ k below. ap (λ b. has s k && not b) (sym (has-those (length s) (λ j. eqb j e) k below)))

itself : (e : ℕ) → eqb e e ≡ true
itself e = by (eqb e e) refl
  where
    by : (b : Bool) → eqb e e ≡ b → b ≡ true
    by true is = refl
    by false is = absurd (eqb-false e e is refl)

not_equal : (k e : ℕ) → k < e → eqb k e ≡ false
not_equal k e less = by (eqb k e) refl
  where
    by : (b : Bool) → eqb k e ≡ b → b ≡ false
    by true is = absurd (let same = eqb-true k e is in omega arith)
    by false is = refl

-- the least of a set of one event that passes a test
one_least : (n e : ℕ) (p : ℕ → Bool) → e < n → least (length (those n (λ k. eqb k e))) (λ k. has (those n (λ j. eqb j e)) k && p k) ≡ cond (p e) (Some e) None
one_least n e p atom =
    ap (λ m. least m (λ k. has (those n (λ j. eqb j e)) k && p k)) (length-those n (λ k. eqb k e))
    ∙ least-ext n _ _ (λ k below. ap (λ b. b && p k) (has-those n (λ j. eqb j e) k below)) ∙ by (p e) refl
  where
    other : (k : ℕ) (b : Bool) → eqb k e ≡ b → p e ≡ false → (b && p k) ≡ false
    other k true same out = ap p (eqb-true k e same) ∙ out
    other k false same out = refl

    before : (k : ℕ) → k < e → (eqb k e && p k) ≡ false
    before k less = ap (λ b. b && p k) (not_equal k e less)

    by : (b : Bool) → p e ≡ b → least n (λ k. eqb k e && p k) ≡ cond b (Some e) None
    by true is = least-from n (λ k. eqb k e && p k) e (record { below = atom; passes = ap (λ b. b && p e) (itself e) ∙ is; none_before = before })
    by false is = least-none_from n (λ k. eqb k e && p k) (λ k below. other k (eqb k e) refl is)

pub one_open : (n e : ℕ) (inside outside : Set) → e < n → cond (has inside e && not (has outside e)) (Some e) None ≡ first_in_both_without (those n (λ k. eqb k e)) inside outside
one_open n e inside outside atom = sym (one_least n e (λ k. has inside k && not (has outside k)) atom)

pub one_pending : (n e : ℕ) (second third : Set) → e < n → cond (has second e && has third e) (Some e) None ≡ first_in_three (those n (λ k. eqb k e)) second third
one_pending n e second third atom = sym (one_least n e (λ k. has second k && has third k) atom)

-- ---- the mask at a place

pub empty_place : (masks : List Set) (number : ℕ) → AreMasks masks → number ≡ 0 → row masks number ≡ no_event (atoms_of masks)
empty_place masks number are zero = ap (row masks) zero ∙ are.nothing

pub alone_place : (masks : List Set) (place : Place) (e : ℕ) → IsPlace masks place → place.alone ≡ Some e → HasAlone masks place.number e
alone_place masks place e is alone = subst (λ a. IfSome a (HasAlone masks place.number)) alone is.alone

-- ---- an execution

-- what is done to the marks, one after the other
pub marks_made : (f : EffectMasks) (tracked : Bool) (m : SiteMark) (e : ℕ) (executed removed left pending joined included : Set) → executed ≡ cond tracked (with_event m.executed e) m.executed
    → removed ≡ without_event m.pending e → left ≡ difference removed f.cancel → pending ≡ union left f.response → joined ≡ union m.included f.include → included ≡ difference joined f.exclude
    → (let after : SiteMark = record { executed = executed; pending = pending; included = included } in after) ≡ marks_after f tracked m e
marks_made f tracked m e executed removed left pending joined included ex rm lf pe jo inc = cc
