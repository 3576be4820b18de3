-- What a check of sites gave, beside the facts of a cover.
use Rattle.std.specs.Prelude.{◌≡◌, ◌≢◌, ℕ, List, [], Some, None, Result, slice_index_or}
use Rattle.std.specs.Result.{MatchResult}
use Rattle.dcr_format.specs.Facts.{Fact}
use Rattle.dcr_format.specs.declared.stop.CaseStop.{CaseStop}
use Rattle.dcr_format.specs.declared.stop.CaseStop.TheVariants.{SiteName, Owned, Uncovered, NoMemory}
use Rattle.dcr_cover_json.specs.declared.stop.CoverStop.{CoverStop}
use Rattle.dcr_cover_json.specs.declared.stop.CoverStop.TheVariants as cover

-- a refusal of sites as one of a case file, where an atom goes by its name
abbrev pub stop_of : List (List ℕ) → CoverStop → CaseStop
stop_of names (cover.SiteName i) = SiteName i
stop_of names (cover.Owned i j) = Owned i j
stop_of names (cover.Uncovered a) = Uncovered (slice_index_or names a [])
stop_of names cover.NoMemory = NoMemory

-- The fact holds where something is given, and else the refusal is its. Where memory ran out nothing is said.
abbrev pub Checks : {A : Type 0} → List (List ℕ) → Fact → Result A CoverStop → Type 0
Checks names fact result = MatchResult result (λ _. fact ≡ None) (λ stop. stop ≢ cover.NoMemory → fact ≡ Some (stop_of names stop))
