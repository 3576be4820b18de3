-- The cause is what blocks, and what is waited for is the least that waits.
use Rattle.std.proofs.Common.{◌≡◌, ℕ, ◌<◌, Bool, true, false, not, ◌&&◌, cond, Option, Some, None, refl, sym, ap, subst, ◌∙◌, arith}
use Rattle.std.proofs.lemmas.Bool.{false≢true, false_from_ne_true, and_parts}
use Rattle.std.specs.Option.{option_or, option_map}
use Rattle.dcr_set.specs.Least.{least, NonePasses}
use Rattle.dcr_set.specs.EventSet.{has}
use Rattle.dcr_set.proofs.LeastLemmas.{least-some, least-none, least-from, least-none_from}
use Rattle.dcr_graph.specs.Rules.{Rules}
use Rattle.dcr_graph.specs.Cause.{cause, is_open_condition, is_pending_milestone}
use Rattle.dcr_graph.specs.Laws.{No, IsLeastOf, IsOpenCondition, IsPendingMilestone, IsWaiting, Blocks, CauseIsWhatBlocks, WaitsForTheLeast}
use Rattle.dcr_graph.specs.declared.kind.Kind.TheVariants as kind
use Rattle.dcr_graph.specs.declared.kind.Cause.{Cause}
use Rattle.dcr_graph.specs.declared.kind.Cause.TheVariants.{Excluded, Condition, Milestone}
use Rattle.dcr_graph.specs.declared.marking.Marking.{Marking}

-- the condition found blocks, else the milestone found
abbrev pub first_block : Option ℕ → Option ℕ → Option Cause
first_block condition milestone = option_or (option_map Condition condition) (option_map Milestone milestone)

-- a test below a bound is a property of numbers
record Tests (n : ℕ) (p : ℕ → Bool) (P : ℕ → Type 0) : Type 0 where
  has_it : (k : ℕ) → k < n → p k ≡ true → P k
  below : (k : ℕ) → P k → k < n
  passes : (k : ℕ) → P k → p k ≡ true

module _ (n : ℕ) (p : ℕ → Bool) (P : ℕ → Type 0) (tests : Tests n p P) where
  none_has : NonePasses n p → No P
  none_has none k it = false≢true (sym (none k (tests.below k it)) ∙ tests.passes k it)

  none_passes : No P → NonePasses n p
  none_passes none k below = false_from_ne_true (p k) (λ passes. none k (tests.has_it k below passes))

  found_least : (k : ℕ) → least n p ≡ Some k → IsLeastOf P k
  found_least k found = let it = least-some n p k found in record {
    has_it = tests.has_it k it.below it.passes;
    no_smaller = λ j before other. false≢true (sym (it.none_before j before) ∙ tests.passes j other);
  }

  least_found : (k : ℕ) → IsLeastOf P k → least n p ≡ Some k
  least_found k it =
      let within : k < n = tests.below k it.has_it in
      least-from n p k (record {
        below = within;
        passes = tests.passes k it.has_it;
        none_before = λ j before. false_from_ne_true (p j) (λ passes. it.no_smaller j before (tests.has_it j (omega arith) passes));
      })

  found_none : least n p ≡ None → No P
  found_none none = none_has (least-none n p none)

  none_found : No P → least n p ≡ None
  none_found none = least-none_from n p (none_passes none)

not_true : (b : Bool) → not b ≡ true → b ≡ false
not_true true h = absurd (false≢true h)
not_true false h = refl

all_three : (a b c : Bool) → a ≡ true → b ≡ true → c ≡ true → (a && (b && c)) ≡ true
all_three a b c ea eb ec = ap (λ t. t && (b && c)) ea ∙ ap (λ t. t && c) eb ∙ ec

open_tests : (G : Rules) (M : Marking) (e : ℕ) → Tests G.atoms (is_open_condition G M e) (IsOpenCondition G M e)
open_tests G M e = record {
  has_it = λ c below passes.
      let first = and_parts (G.related kind.Condition c e) (has M.included c && not (has M.executed c)) passes in
      let second = and_parts (has M.included c) (not (has M.executed c)) first.1 in
      record { atom = below; condition = first.0; included = second.0; not_executed = not_true (has M.executed c) second.1 };
  below = λ c it. it.atom;
  passes = λ c it. all_three (G.related kind.Condition c e) (has M.included c) (not (has M.executed c)) it.condition it.included (ap not it.not_executed);
}

milestone_tests : (G : Rules) (M : Marking) (e : ℕ) → Tests G.atoms (is_pending_milestone G M e) (IsPendingMilestone G M e)
milestone_tests G M e = record {
  has_it = λ m below passes.
      let first = and_parts (G.related kind.Milestone m e) (has M.included m && has M.pending m) passes in
      let second = and_parts (has M.included m) (has M.pending m) first.1 in
      record { atom = below; milestone = first.0; included = second.0; pending = second.1 };
  below = λ m it. it.atom;
  passes = λ m it. all_three (G.related kind.Milestone m e) (has M.included m) (has M.pending m) it.milestone it.included it.pending;
}

waiting_tests : (atoms : ℕ) (M : Marking) → Tests atoms (λ a. has M.included a && has M.pending a) (IsWaiting atoms M)
waiting_tests atoms M = record {
  has_it = λ a below passes. let both = and_parts (has M.included a) (has M.pending a) passes in record { atom = below; included = both.0; pending = both.1 };
  below = λ a it. it.atom;
  passes = λ a it. ap (λ t. t && has M.pending a) it.included ∙ it.pending;
}

module _ (G : Rules) (M : Marking) (e : ℕ) where
  -- what is told blocks
  told_blocks : (included : Bool) (c m : Option ℕ) → has M.included e ≡ included → least G.atoms (is_open_condition G M e) ≡ c → least G.atoms (is_pending_milestone G M e) ≡ m
      → Blocks G M e (cond included (first_block c m) (Some Excluded))
  told_blocks false c m inc at by = inc
  told_blocks true (Some c) m inc at by = (inc, found_least G.atoms (is_open_condition G M e) (IsOpenCondition G M e) (open_tests G M e) c at)
  told_blocks true None (Some m) inc at by =
      (inc, found_none G.atoms (is_open_condition G M e) (IsOpenCondition G M e) (open_tests G M e) at, found_least G.atoms (is_pending_milestone G M e) (IsPendingMilestone G M e) (milestone_tests G M e) m by)
  told_blocks true None None inc at by =
      (inc, found_none G.atoms (is_open_condition G M e) (IsOpenCondition G M e) (open_tests G M e) at, found_none G.atoms (is_pending_milestone G M e) (IsPendingMilestone G M e) (milestone_tests G M e) by)

  -- what blocks is told
  told_as : (included : Bool) (c m : Option ℕ) → has M.included e ≡ included → least G.atoms (is_open_condition G M e) ≡ c → least G.atoms (is_pending_milestone G M e) ≡ m
      → cause G M e ≡ cond included (first_block c m) (Some Excluded)
  told_as included c m inc at by =
      ap (λ b. cond b (first_block (least G.atoms (is_open_condition G M e)) (least G.atoms (is_pending_milestone G M e))) (Some Excluded)) inc
      ∙ ap (λ o. cond included (first_block o (least G.atoms (is_pending_milestone G M e))) (Some Excluded)) at
      ∙ ap (λ o. cond included (first_block c o) (Some Excluded)) by

  no_open : No (IsOpenCondition G M e) → least G.atoms (is_open_condition G M e) ≡ None
  no_open none = none_found G.atoms (is_open_condition G M e) (IsOpenCondition G M e) (open_tests G M e) none

  blocks_told : (why : Option Cause) → Blocks G M e why → cause G M e ≡ why
  blocks_told (Some Excluded) it = told_as false _ _ it refl refl
  blocks_told (Some (Condition c)) it = told_as true (Some c) _ it.0 (least_found G.atoms (is_open_condition G M e) (IsOpenCondition G M e) (open_tests G M e) c it.1) refl
  blocks_told (Some (Milestone m)) it = told_as true None (Some m) it.0 (no_open it.1) (least_found G.atoms (is_pending_milestone G M e) (IsPendingMilestone G M e) (milestone_tests G M e) m it.2)
  blocks_told None it = told_as true None None it.0 (no_open it.1) (none_found G.atoms (is_pending_milestone G M e) (IsPendingMilestone G M e) (milestone_tests G M e) it.2)

  cause_blocks : (why : Option Cause) → cause G M e ≡ why → Blocks G M e why
  cause_blocks why is = subst (Blocks G M e) is (told_blocks (has M.included e) _ _ refl refl refl)

pub cause_is_what_blocks : CauseIsWhatBlocks
cause_is_what_blocks G M e why = (cause_blocks G M e why, blocks_told G M e why)

pub waits_for_the_least : WaitsForTheLeast
waits_for_the_least atoms M (Some a) = (
  found_least atoms (λ k. has M.included k && has M.pending k) (IsWaiting atoms M) (waiting_tests atoms M) a,
  least_found atoms (λ k. has M.included k && has M.pending k) (IsWaiting atoms M) (waiting_tests atoms M) a,
)
waits_for_the_least atoms M None = (
  found_none atoms (λ k. has M.included k && has M.pending k) (IsWaiting atoms M) (waiting_tests atoms M),
  none_found atoms (λ k. has M.included k && has M.pending k) (IsWaiting atoms M) (waiting_tests atoms M),
)
