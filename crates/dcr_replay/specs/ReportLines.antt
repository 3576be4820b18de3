-- The lines of a report, in parts: those before the entries, the entries, and those behind them.
use Rattle.std.specs.Prelude.{ℕ, List, ◌++◌, length, map, true}
use Rattle.dcr_graph.specs.Cause.{waits}
use Rattle.dcr_journal.specs.Run.{marks_at}
use Rattle.dcr_journal.specs.declared.call.Entry.{Entry}
use Rattle.dcr_report.specs.Report.{end_lines, entry_lines, head_lines, site_lines}
use Rattle.dcr_text.specs.Lines.{Line, line_of}
use Rattle.dcr_replay.specs.EntryLines.{Setting, last_of, names_in, rules_in}

-- the lines with these texts, each with its end
abbrev pub ended : List (List ℕ) → List Line
ended texts = map (λ text. line_of text true) texts

-- the texts of the lines before the entries
abbrev pub head_of : Setting → List (List ℕ)
head_of S = head_lines S.nest S.cover (names_in S) S.opening

-- and of the entries J behind them
abbrev pub read_of : Setting → List Entry → List (List ℕ)
read_of S J = head_of S ++ entry_lines S.cover.names (names_in S) 0 J

-- of the lines behind the entries J
abbrev pub behind_of : Setting → List Entry → List (List ℕ)
behind_of S J =
    site_lines (names_in S) S.cover.names (marks_at (rules_in S) S.cover.owned (last_of S J)) ++ end_lines (names_in S) (waits (rules_in S).atoms (last_of S J)) (length J)

-- of the whole report
abbrev pub texts_of : Setting → List Entry → List (List ℕ)
texts_of S J = read_of S J ++ behind_of S J
