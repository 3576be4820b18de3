-- What lines of a text are still to come.
use Rattle.std.specs.Prelude.{List, [], ◌∷◌, Option, Some, None}
use Rattle.dcr_text.specs.Lines.{Line, line_of, lines_of}
use Rattle.dcr_replay.specs.declared.lines.Line.{Line as Cut}
use Rattle.dcr_replay.specs.declared.lines.Lines.TheInside.{Inside}

-- the first line and those behind it, and none where there is no first
abbrev pub from_first : Option Cut → List Line → List Line
from_first None lines = []
from_first (Some line) lines = line_of line.text.now line.ended ∷ lines

abbrev pub lines_left : Inside → List Line
lines_left it = from_first it.line (lines_of it.rest.now)
