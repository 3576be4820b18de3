-- The case that a number spells, and what its text reads as.
use Rattle.std.specs.Prelude.{ℕ}
use Rattle.dcr_json.specs.Written.{Spelled}
use Rattle.dcr_load.specs.LoadGraph.{load_nest}
use Rattle.dcr_load.specs.LoadCover.{load_cover, load_opening}
use Rattle.dcr_load.specs.LoadSessions.{load_sessions}

abbrev pub load : ℕ → Spelled
load number = record { nested = load_nest number; cover = load_cover number; opening = load_opening; sessions = load_sessions number }
