-- The facts of a format in the order in which they are tried. A fact is none where it holds, and else the refusal that
-- tells where it fails.
use Rattle.std.specs.Prelude.{◌≡◌, ◌≢◌, ℕ, Bool, not, List, [], ◌∷◌, map, Option, Some, None, option_map, position, Result, Ok, Err, nat_le, if◌then◌else◌}
use Rattle.std.specs.List.{range_with_len}
use Rattle.std.specs.Result.{MatchResult}
use Rattle.dcr_set.specs.Least.{least}
use Rattle.dcr_format.specs.declared.stop.CaseStop.{CaseStop}
use Rattle.dcr_format.specs.declared.stop.CaseStop.TheVariants.{Limit, NoMemory}
use Rattle.dcr_format.specs.declared.stop.LimitKind.{LimitKind}

abbrev pub Fact : Type 0
Fact = Option CaseStop

-- ---- single facts

-- it is so
abbrev pub unless : Bool → CaseStop → Fact
unless holds stop = if holds then None else Some stop

-- each of the list is so, or the first that is not is refused by its index
abbrev pub each : {A : Type 0} → (A → Bool) → (ℕ → CaseStop) → List A → Fact
each holds stop xs = option_map stop (position (λ x. not (holds x)) xs)

-- the same of the numbers below a bound
abbrev pub each_below : ℕ → (ℕ → Bool) → (ℕ → CaseStop) → Fact
each_below n holds stop = option_map stop (least n (λ i. not (holds i)))

-- no more than so many
abbrev pub at_most : LimitKind → ℕ → ℕ → Fact
at_most kind most count = unless (nat_le count most) (Limit kind count)

-- ---- facts in order

-- the refusal of the first that fails, and none where all hold
abbrev pub first : List Fact → Fact
first [] = None
first (None ∷ facts) = first facts
first (Some stop ∷ facts) = Some stop

-- the facts of the numbers below a bound, one after another
abbrev pub facts_below : ℕ → (ℕ → Fact) → List Fact
facts_below n fact = map fact (range_with_len 0 n)

-- why nothing is given
abbrev pub refusal : {A : Type 0} → Result A CaseStop → Fact
refusal (Ok x) = None
refusal (Err stop) = Some stop

-- The fact holds where something is given, and else the refusal is its. Where memory ran out nothing is said.
abbrev pub Judges : {A : Type 0} → Fact → Result A CaseStop → Type 0
Judges fact result = MatchResult result (λ _. fact ≡ None) (λ stop. stop ≢ NoMemory → fact ≡ Some stop)
