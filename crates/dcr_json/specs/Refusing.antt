-- What facts let pass, and what a step gave beside its definition.
use Rattle.std.specs.Prelude.{◌≡◌, ◌≢◌, List, Some, None, Result, Ok, Err}
use Rattle.std.specs.Result.{MatchResult}
use Rattle.dcr_format.specs.Facts.{Fact, first}
use Rattle.dcr_format.specs.declared.stop.CaseStop.{CaseStop}
use Rattle.dcr_format.specs.declared.stop.CaseStop.TheVariants.{NoMemory}

-- this where nothing is refused, or the refusal
abbrev pub unless_refused : {A : Type 0} → Fact → A → Result A CaseStop
unless_refused None x = Ok x
unless_refused (Some stop) x = Err stop

-- this where all facts hold, or the refusal of the first that fails
abbrev pub given : {A : Type 0} → List Fact → A → Result A CaseStop
given facts x = unless_refused (first facts) x

-- The step said what the definition says: its value, seen by view, or its refusal. Where memory ran out nothing is said.
abbrev pub Says : {A B : Type 0} → (A → B) → Result A CaseStop → Result B CaseStop → Type 0
Says view result meant = MatchResult result (λ value. meant ≡ Ok (view value)) (λ stop. stop ≢ NoMemory → meant ≡ Err stop)
