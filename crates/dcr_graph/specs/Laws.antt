-- What blocks an event, and what a marking waits for, in words that tell no order of trying.
use Rattle.std.specs.Prelude.{◌≡◌, ◌↔◌, ℕ, ◌<◌, true, false, Option, Some, None}
use Rattle.dcr_set.specs.EventSet.{has}
use Rattle.dcr_graph.specs.Rules.{Rules}
use Rattle.dcr_graph.specs.Cause.{cause, waits}
use Rattle.dcr_graph.specs.declared.kind.Kind.TheVariants as kind
use Rattle.dcr_graph.specs.declared.kind.Cause.{Cause}
use Rattle.dcr_graph.specs.declared.kind.Cause.TheVariants.{Excluded, Condition, Milestone}
use Rattle.dcr_graph.specs.declared.marking.Marking.{Marking}

-- no number has the property
abbrev pub No : (ℕ → Type 0) → Type 0
No P = (k : ℕ) → P k → ⊥

-- k is the least number that has the property
pub record IsLeastOf (P : ℕ → Type 0) (k : ℕ) : Type 0 where
  pub has_it : P k
  pub no_smaller : (j : ℕ) → j < k → P j → ⊥

-- c is a condition event of e, in In and not in Ex
pub record IsOpenCondition (G : Rules) (M : Marking) (e c : ℕ) : Type 0 where
  pub atom : c < G.atoms
  pub condition : G.related kind.Condition c e ≡ true
  pub included : has M.included c ≡ true
  pub not_executed : has M.executed c ≡ false

-- m is a milestone event of e, in In and in Re
pub record IsPendingMilestone (G : Rules) (M : Marking) (e m : ℕ) : Type 0 where
  pub atom : m < G.atoms
  pub milestone : G.related kind.Milestone m e ≡ true
  pub included : has M.included m ≡ true
  pub pending : has M.pending m ≡ true

-- a is an atom, in In and in Re
pub record IsWaiting (atoms : ℕ) (M : Marking) (a : ℕ) : Type 0 where
  pub atom : a < atoms
  pub included : has M.included a ≡ true
  pub pending : has M.pending a ≡ true

-- What blocks e at M: that it isn't included; else the least open condition; else the least pending milestone; else nothing.
abbrev pub Blocks : Rules → Marking → ℕ → Option Cause → Type 0
Blocks G M e (Some Excluded) = has M.included e ≡ false
Blocks G M e (Some (Condition c)) = (has M.included e ≡ true) × IsLeastOf (IsOpenCondition G M e) c
Blocks G M e (Some (Milestone m)) = (has M.included e ≡ true) × No (IsOpenCondition G M e) × IsLeastOf (IsPendingMilestone G M e) m
Blocks G M e None = (has M.included e ≡ true) × No (IsOpenCondition G M e) × No (IsPendingMilestone G M e)

-- what is waited for at M: the least atom that waits, or none where no atom does
abbrev pub WaitsFor : ℕ → Marking → Option ℕ → Type 0
WaitsFor atoms M (Some a) = IsLeastOf (IsWaiting atoms M) a
WaitsFor atoms M None = No (IsWaiting atoms M)

-- the cause is what blocks
abbrev pub CauseIsWhatBlocks : Type 0
CauseIsWhatBlocks = (G : Rules) (M : Marking) (e : ℕ) (why : Option Cause) → (cause G M e ≡ why) ↔ Blocks G M e why

-- what is told as waited for is the least that waits
abbrev pub WaitsForTheLeast : Type 0
WaitsForTheLeast = (atoms : ℕ) (M : Marking) (a : Option ℕ) → (waits atoms M ≡ a) ↔ WaitsFor atoms M a
