-- The stages that a text spells, a case in each line, or the first refusal: the number of the lines; then the least stage
-- that is refused, by itself before it is held against the one before it.
use Rattle.std.specs.Prelude.{◌≡◌, ◌≢◌, ℕ, zero, suc, ◌&&◌, List, [], length, map, nat_le, slice_index_or, Option, Some, None, is_none, option_map, Result, Ok, Err, if◌then◌else◌}
use Rattle.std.specs.Result.{MatchResult, result_ok}
use Rattle.dcr_text.specs.Lines.{Line, lines_of}
use Rattle.dcr_set.specs.Least.{least}
use Rattle.dcr_graph.specs.Names.{number_of}
use Rattle.dcr_roles.specs.Stages.{◌>>=◌}
use Rattle.dcr_adapt.specs.Each.{each_from}
use Rattle.dcr_graph_json.specs.Build.{atom_names}
use Rattle.dcr_json.specs.Written.{Spelled}
use Rattle.dcr_line.specs.Line.{name_of as name_at}
use Rattle.dcr_roles.specs.Accepted.{accepted_in, SpelledBoth}
use Rattle.dcr_roles.specs.declared.accepted.AcceptStop.{AcceptStop}
use Rattle.dcr_roles.specs.declared.accepted.AcceptStop.TheVariants as cause
use Rattle.dcr_adapt.specs.declared.stop.StageStop.{StageStop}
use Rattle.dcr_adapt.specs.declared.stop.StageStop.TheVariants.{Cases, Stage, Policy, Dropped, NoMemory}

-- the texts of the lines
abbrev pub line_texts : List ℕ → List (List ℕ)
line_texts bytes = map (λ (line : Line). line.text) (lines_of bytes)

-- these lines, if they are 1 to 16
abbrev pub counted : List (List ℕ) → Result (List (List ℕ)) StageStop
counted texts = if nat_le 1 (length texts) && nat_le (length texts) 16 then Ok texts else Err (Cases (length texts))

-- stage i is refused for what its line is by itself: no case, or a case whose policy is refused
abbrev pub by_line : ℕ → AcceptStop → StageStop
by_line i (cause.Case stop) = Stage i stop
by_line i (cause.Policy stop) = Policy i stop

-- what the line of stage i is by itself: a case, whose policy is not handed on
abbrev pub of_stage : ℕ → Result SpelledBoth AcceptStop → Result Spelled StageStop
of_stage i (Ok both) = Ok both.case
of_stage i (Err stop) = Err (by_line i stop)

-- the least of these names that is none of the next ones
abbrev pub first_dropped : List (List ℕ) → List (List ℕ) → Option ℕ
first_dropped names next = least (length names) (λ a. is_none (number_of next (name_at names a)))

-- stage i is refused for an atom that is dropped
abbrev pub by_dropped : ℕ → List (List ℕ) → Option ℕ → Result (Unit {0}) StageStop
by_dropped i names None = Ok tt
by_dropped i names (Some a) = Err (Dropped i (name_at names a))

-- the case of stage i keeps the atoms of the case before it, where there is one
abbrev pub kept : ℕ → Option Spelled → Spelled → Result (Unit {0}) StageStop
kept i None case = Ok tt
kept i (Some before) case = by_dropped i (atom_names before.nested) (first_dropped (atom_names before.nested) (atom_names case.nested))

-- the case of stage i, from its line and behind the case of the stage before it, or what it is refused for
unfoldable pub stage_in : ℕ → Option Spelled → List ℕ → Result Spelled StageStop
stage_in i before text = do
  case ← of_stage i (accepted_in text)
  same ← kept i before case
  Ok case

-- the case of what is accepted
abbrev pub case_if_accepted : Result SpelledBoth AcceptStop → Option Spelled
case_if_accepted r = option_map (λ (both : SpelledBoth). both.case) (result_ok r)

-- the case of the line before line i
abbrev pub case_before : List (List ℕ) → ℕ → Option Spelled
case_before texts zero = None
case_before texts (suc h) = case_if_accepted (accepted_in (slice_index_or texts h []))

-- the cases of all stages, or the refusal of the first that is refused
abbrev pub stages_from : List (List ℕ) → Result (List Spelled) StageStop
stages_from texts = each_from (λ i text. stage_in i (case_before texts i) text) 0 texts

-- the same of the lines of a text, if they are 1 to 16
unfoldable pub stages_in : List ℕ → Result (List Spelled) StageStop
stages_in bytes = do
  texts ← counted (line_texts bytes)
  stages_from texts

-- ---- what the code answered

-- what the definition gives, seen by view, or the refusal that it gives; where memory ran out nothing is said
abbrev pub Says : {A B : Type 0} → (A → B) → Result A StageStop → Result B StageStop → Type 0
Says view result meant = MatchResult result (λ value. meant ≡ Ok (view value)) (λ stop. stop ≢ NoMemory → meant ≡ Err stop)
