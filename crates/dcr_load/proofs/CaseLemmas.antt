-- The parts that are a load's are the load.
use Rattle.std.proofs.Common.{◌≡◌, ℕ, List, length, sum_by, ap, sym, subst, ◌∙◌}
use Rattle.std.specs.List.{All}
use Rattle.dcr_graph.specs.declared.marking.Marking.{Marking}
use Rattle.dcr_nest.specs.Nest.{Nest}
use Rattle.dcr_proj.specs.CoverValue.{Owners}
use Rattle.dcr_journal.specs.Run.{IsInRange}
use Rattle.dcr_journal.specs.declared.call.Call.{Call}
use Rattle.dcr_json.specs.Written.{Spelled}
use Rattle.dcr_load.specs.LoadGraph.{load_nest}
use Rattle.dcr_load.specs.LoadCover.{load_cover, load_opening}
use Rattle.dcr_load.specs.LoadSessions.{load_sessions}
use Rattle.dcr_load.specs.Load.{load}
use Rattle.dcr_load.proofs.SessionLemmas.{session_count, call_count, calls_in_range}

abbrev spelled : Nest → Owners → Marking → List (List Call) → Spelled
spelled N C M S = record { nested = N; cover = C; opening = M; sessions = S }

pub spelled_as : (number : ℕ) (N : Nest) (C : Owners) (M : Marking) (S : List (List Call)) → N ≡ load_nest number → C ≡ load_cover number → M ≡ load_opening → S ≡ load_sessions number
    → spelled N C M S ≡ load number
spelled_as number N C M S nested cover opening sessions =
    ap (λ n. spelled n C M S) nested
    ∙ ap (λ c. spelled (load_nest number) c M S) cover
    ∙ ap (λ m. spelled (load_nest number) (load_cover number) m S) opening
    ∙ ap (spelled (load_nest number) (load_cover number) load_opening) sessions

-- sessions that are a load's: how many, with how many calls, each in range
pub record AreSessions (sites atoms : ℕ) (S : List (List Call)) : Type 0 where
  pub few : length S ≡ 8
  pub calls : sum_by length S ≡ 20000
  pub in_range : All (λ (calls : List Call). All (IsInRange sites atoms) calls) S

pub sessions_as : (number sites atoms : ℕ) (S : List (List Call)) → S ≡ load_sessions number → sites ≡ 12 → atoms ≡ 200 → AreSessions sites atoms S
sessions_as number sites atoms S same all every =
    subst (AreSessions sites atoms) (sym same) (record {
      few = session_count number;
      calls = call_count number;
      in_range = calls_in_range number sites atoms all every;
    })

pub few_calls_as : (number : ℕ) (S : Spelled) → S ≡ load number → sum_by length S.sessions ≡ 20000
few_calls_as number S same = ap (λ (s : Spelled). sum_by length s.sessions) same ∙ call_count number
