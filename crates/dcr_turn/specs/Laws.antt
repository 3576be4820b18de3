-- What follows from a front that covers a list.
use Rattle.std.specs.Prelude.{◌≡◌, ℕ, List}
use Rattle.std.specs.List.{All}
use Rattle.dcr_set.specs.EventSet.{Set}
use Rattle.dcr_graph.specs.Rules.{Rules}
use Rattle.dcr_graph.specs.Projection.{project}
use Rattle.dcr_graph.specs.declared.marking.Marking.{Marking}
use Rattle.dcr_journal.specs.Run.{IsInRange, after, calls_of, made_by}
use Rattle.dcr_journal.specs.declared.call.Entry.{Entry}
use Rattle.dcr_proj.specs.Local.{projection_of}
use Rattle.dcr_turn.specs.Covers.{Covers, is_heard, is_by}

-- where a site's front covers the list, whose calls are in range, its marks after the front are those after the list
abbrev pub CoveredMarksStay : Type 0
CoveredMarksStay = (G : Rules) (S : Set) (M : Marking) (sites : ℕ) (front J : List Entry) → Covers (is_heard (projection_of G S).alphabet) front J
    → All (λ (entry : Entry). IsInRange sites G.atoms entry.call) J → project G S (after G M front) ≡ project G S (after G M J)

-- where a session's front covers the list, the list has the calls of the session that the front has, and no more
abbrev pub CoveredCallsStay : Type 0
CoveredCallsStay = (session : ℕ) (front J : List Entry) → Covers (is_by session) front J → calls_of session front ≡ calls_of session J

-- and as many of them
abbrev pub CoveredCountStays : Type 0
CoveredCountStays = (session : ℕ) (front J : List Entry) → Covers (is_by session) front J → made_by session front ≡ made_by session J
