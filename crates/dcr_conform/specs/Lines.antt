-- The lines that tell how traces are judged. Atoms are shown by their names, which these words take as a list.
use Rattle.std.specs.Prelude.{ℕ, List, [], ◌∷◌, ◌++◌, codes, decimal, length, Some}
use Rattle.dcr_journal.specs.Answer.{outcome_of}
use Rattle.dcr_line.specs.Line.{name_of, outcome_words, spaced}
use Rattle.dcr_log.specs.declared.trace.Trace.{Trace}
use Rattle.dcr_report.specs.Report.{lines_text}
use Rattle.dcr_conform.specs.declared.judged.Judged.{Judged}
use Rattle.dcr_conform.specs.declared.judged.Judged.TheVariants.{Unknown, Refused, Waits, Accepting}

-- the words behind the trace's name; a cause is told as an entry of a report tells it
abbrev pub judged_words : List (List ℕ) → Judged → List (List ℕ)
judged_words names (Unknown place) = codes "unknown" ∷ decimal place ∷ []
judged_words names (Refused place why) = codes "refused" ∷ decimal place ∷ outcome_words names (outcome_of (Some why))
judged_words names (Waits a count) = codes "waits" ∷ name_of names a ∷ decimal count ∷ []
judged_words names (Accepting count) = codes "accepting" ∷ decimal count ∷ []

-- the line of a trace: its name and its answer, one space between each two words
abbrev pub judged_line : List (List ℕ) → Trace → Judged → List ℕ
judged_line names trace answer = spaced (trace.name ∷ judged_words names answer)

-- a line for each trace, in order
unfoldable pub judged_lines : List (List ℕ) → List Trace → List Judged → List (List ℕ)
judged_lines names [] answers = []
judged_lines names (trace ∷ traces) [] = []
judged_lines names (trace ∷ traces) (answer ∷ answers) = judged_line names trace answer ∷ judged_lines names traces answers

-- the last line: how many traces there are
abbrev pub count_line : ℕ → List ℕ
count_line count = codes "traces " ++ decimal count

-- all lines, each with its end
abbrev pub judged_text : List (List ℕ) → List Trace → List Judged → List ℕ
judged_text names traces answers = lines_text (judged_lines names traces answers ++ count_line (length traces) ∷ [])
