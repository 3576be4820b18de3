-- What the lines of a report tell: what stands before its entries, the entries behind it, and which may come next.
use Rattle.std.specs.Prelude.{◌≡◌, ◌⊎◌, ℕ, ◌<◌, ◌≤◌, Bool, true, false, List, [], ◌∷◌, length, slice_get}
use Rattle.std.specs.List.{All}
use Rattle.std.specs.Option.{option_map_or}
use Rattle.dcr_graph.specs.Names.{is_between}
use Rattle.dcr_graph.specs.Projection.{HasRoom}
use Rattle.dcr_graph.specs.Rules.{Rules}
use Rattle.dcr_graph.specs.declared.marking.Marking.{Marking}
use Rattle.dcr_nest.specs.FlatRelation.{flat_relation}
use Rattle.dcr_nest.specs.Nest.{Nest}
use Rattle.dcr_proj.specs.CoverValue.{Owners}
use Rattle.dcr_journal.specs.Answer.{answer}
use Rattle.dcr_journal.specs.Run.{HasNoFault, IsLegal, after, made_by}
use Rattle.dcr_journal.specs.declared.call.Call.{Call}
use Rattle.dcr_journal.specs.declared.call.Entry.{Entry}
use Rattle.dcr_journal.specs.declared.call.Outcome.{Outcome}
use Rattle.dcr_journal.specs.declared.call.Outcome.TheVariants.{Done, Faulted}
use Rattle.dcr_line.specs.Fits.{FitsEntry}
use Rattle.dcr_line.specs.Line.{entry_text}
use Rattle.dcr_cover_json.specs.Accepted.{IsAcceptedCover}
use Rattle.dcr_graph_json.specs.Accepted.{IsAcceptedGraph}
use Rattle.dcr_graph_json.specs.Build.{atom_names}
use Rattle.dcr_text.specs.Lines.{Line, line_of}
use Rattle.dcr_replay.specs.declared.verdict.Wrong.{Wrong}
use Rattle.dcr_replay.specs.declared.verdict.Wrong.TheVariants as wrong

-- what a history is checked over: an accepted graph, an accepted cover of it, and an opening marking
pub record Setting : Type 0 where
  pub nest : Nest
  pub cover : Owners
  pub opening : Marking
  pub accepted_graph : IsAcceptedGraph nest.version nest
  pub accepted_cover : IsAcceptedCover nest cover
  pub room : HasRoom (flat_relation nest).atoms opening

abbrev pub rules_in : Setting → Rules
rules_in S = flat_relation S.nest

-- the names of the atoms
abbrev pub names_in : Setting → List (List ℕ)
names_in S = atom_names S.nest

-- the marking after the entries J
abbrev pub last_of : Setting → List Entry → Marking
last_of S J = after (rules_in S) S.opening J

-- the answer to a call after the entries J
abbrev pub answer_after : Setting → List Entry → Call → Outcome
answer_after S J call = answer (rules_in S) S.cover.owned (last_of S J) call

abbrev pub is_done : Outcome → Bool
is_done Done = true
is_done _ = false

abbrev pub is_faulted : Outcome → Bool
is_faulted Faulted = true
is_faulted _ = false

-- a legal history within the limits
pub record IsRun (S : Setting) (J : List Entry) : Type 0 where
  pub legal : IsLegal (rules_in S) S.cover.owned S.opening J
  pub most : length J ≤ 200000
  pub sessions : All (λ (entry : Entry). entry.session < 1024) J

-- The entry may come next after J, whatever its outcome: a further one may come, its session is below 1,024, its seq is how
-- many entries of it stand in J, and it has a line.
pub record MayCome (S : Setting) (J : List Entry) (entry : Entry) : Type 0 where
  pub few : length J < 200000
  pub sound : HasNoFault J
  pub session : entry.session < 1024
  pub seq : entry.seq ≡ made_by entry.session J
  pub fits : FitsEntry (length S.cover.names) (length (names_in S)) entry

-- its outcome is the answer, or a fault where the answer is done
abbrev pub IsAnswered : Setting → List Entry → Entry → Type 0
IsAnswered S J entry = (entry.outcome ≡ answer_after S J entry.call) ⊎ ((entry.outcome ≡ Faulted) × (answer_after S J entry.call ≡ Done))

-- the text of the line that it has after J
abbrev pub text_next : Setting → List Entry → Entry → List ℕ
text_next S J entry = entry_text S.cover.names (names_in S) (length J) entry

-- The line is the text of an entry that may come next after J with its answer; or by which kind it is not.
abbrev pub IsNext : Setting → List Entry → Line → Entry → Type 0
IsNext S J line entry = MayCome S J entry × (line ≡ line_of (text_next S J entry) true)

abbrev pub IsWrongNext : Setting → List Entry → Line → Wrong → Type 0
IsWrongNext S J line wrong.Entry = (entry : Entry) → IsNext S J line entry → ⊥
IsWrongNext S J line wrong.Outcome = (entry : Entry) × IsNext S J line entry × (IsAnswered S J entry → ⊥)
IsWrongNext S J line _ = ⊥

-- the text begins with a digit
abbrev pub begins_with_digit : List ℕ → Bool
begins_with_digit [] = false
begins_with_digit (byte ∷ bytes) = is_between 48 57 byte

-- there is a first line, and it does
abbrev pub first_is_digit : List Line → Bool
first_is_digit lines = option_map_or (λ (line : Line). begins_with_digit line.text) (slice_get lines 0) false
