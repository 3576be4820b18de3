-- What is found of a text: that it is the report of a legal history, or which of its lines is the first with which no report
-- begins, and what is expected there.
use Rattle.std.specs.Prelude.{◌≡◌, ℕ, ◌+◌, ◌-◌, ◌≤◌, true, false, List, [], ◌∷◌, ◌++◌, length, replicate, slice_get, slice_index_or, take, Some}
use Rattle.dcr_journal.specs.declared.call.Entry.{Entry}
use Rattle.dcr_text.specs.Lines.{Line, lines_of}
use Rattle.dcr_replay.specs.EntryLines.{IsRun, IsWrongNext, Setting, begins_with_digit, first_is_digit}
use Rattle.dcr_replay.specs.Laws.{IsReport}
use Rattle.dcr_replay.specs.LeastWrong.{IsLeastWrong}
use Rattle.dcr_replay.specs.ReportLines.{behind_of, ended, read_of}
use Rattle.dcr_replay.specs.declared.verdict.Verdict.{Verdict}
use Rattle.dcr_replay.specs.declared.verdict.Verdict.TheVariants.{Valid, Invalid}
use Rattle.dcr_replay.specs.declared.verdict.Wrong.{Wrong}
use Rattle.dcr_replay.specs.declared.verdict.Wrong.TheVariants as wrong

-- the kinds of the lines before the entries
abbrev pub head_kinds : List Wrong
head_kinds = wrong.Head ∷ wrong.Graph ∷ wrong.Cover ∷ wrong.Opening ∷ []

-- the kinds of the lines behind them, with so many sites
abbrev pub end_kinds : ℕ → List Wrong
end_kinds sites = replicate sites wrong.Site ++ (wrong.Verdict ∷ wrong.End ∷ [])

-- the lines of the text are those before the entries, the entries J of a legal history, the first i of the lines behind them, and
-- then what is left
pub record IsReadTo (bytes : List ℕ) (S : Setting) (J : List Entry) (i : ℕ) (rest : List Line) : Type 0 where
  pub legal : IsRun S J
  pub within : i ≤ length (behind_of S J)
  pub cut : lines_of bytes ≡ ended (read_of S J ++ take i (behind_of S J)) ++ rest

-- By which kind the next line is wrong there. A line that begins with a digit is taken as an entry where none of the lines behind
-- the entries has come yet, and is wrong as such. Else the next of these lines is expected, and behind the last of them nothing more.
pub data IsWrongBehind (S : Setting) (J : List Entry) (i : ℕ) (rest : List Line) (kind : Wrong) : Type 0 where
  of_entry : i ≡ 0 → (line : Line) → slice_get rest 0 ≡ Some line → begins_with_digit line.text ≡ true → IsWrongNext S J line kind → IsWrongBehind S J i rest kind
  of_end : (i ≡ 0 → first_is_digit rest ≡ false) → kind ≡ slice_index_or (end_kinds (length S.cover.names)) i wrong.Extra → IsWrongBehind S J i rest kind

-- the kind is what is expected in the place of the line of this number, where the lines before it begin a report
pub data IsExpected (bytes : List ℕ) (line : ℕ) (kind : Wrong) : Type 0 where
  in_head : line ≤ 4 → kind ≡ slice_index_or head_kinds (line - 1) wrong.Head → IsExpected bytes line kind
  behind_head : (S : Setting) (J : List Entry) (i : ℕ) (rest : List Line) → IsReadTo bytes S J i rest → line ≡ 5 + length J + i → IsWrongBehind S J i rest kind
      → IsExpected bytes line kind

-- the line of this number is the first wrong one, and this kind is expected there
pub record IsFirstWrong (bytes : List ℕ) (line : ℕ) (kind : Wrong) : Type 0 where
  pub least : IsLeastWrong bytes line
  pub expected : IsExpected bytes line kind

-- the verdict over a text
abbrev pub IsVerdict : List ℕ → Verdict → Type 0
IsVerdict bytes (Valid count) = IsReport bytes count
IsVerdict bytes (Invalid line kind) = IsFirstWrong bytes line kind
