-- The facts of the shape of sessions.
use Rattle.std.specs.Prelude.{Bool, false, List, [], ◌∷◌, Option, is_some}
use Rattle.std.specs.List.{list_all}
use Rattle.std.specs.Option.{option_map_or}
use Rattle.serde_json.specs.Data.{Data}
use Rattle.serde_json.specs.Find.{as_str}
use Rattle.dcr_format.specs.Facts.{Fact, unless, each}
use Rattle.dcr_format.specs.Members.{elements, elements_or_none}
use Rattle.dcr_format.specs.declared.stop.CaseStop.TheVariants.{Shape}
use Rattle.dcr_format.specs.declared.stop.Part.TheVariants as part
use Rattle.dcr_session_json.specs.Written.{written_in}

-- an array of texts
abbrev pub is_session : Data → Bool
is_session d = option_map_or (λ calls. list_all (λ call. is_some (as_str call)) calls) (elements d) false

unfoldable pub shape_facts : Option Data → List Fact
shape_facts sessions =
    unless (is_some (elements_or_none sessions)) (Shape part.Sessions 0)
    ∷ each is_session (Shape part.Session) (written_in sessions)
    ∷ []
