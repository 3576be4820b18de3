-- The limits of sessions.
use Rattle.std.specs.Prelude.{ℕ, List, [], ◌∷◌, length, sum_by}
use Rattle.serde_json.specs.Data.{Data}
use Rattle.dcr_format.specs.Facts.{Fact, at_most}
use Rattle.dcr_format.specs.declared.limits.TheConstants.{MAX_SESSIONS, MAX_CALLS}
use Rattle.dcr_format.specs.declared.stop.LimitKind.TheVariants as kind
use Rattle.dcr_session_json.specs.Written.{calls_in}

-- the number of the calls of all sessions
abbrev pub call_count : List Data → ℕ
call_count sessions = sum_by (λ session. length (calls_in session)) sessions

unfoldable pub limit_facts : List Data → List Fact
limit_facts sessions =
    at_most kind.Sessions MAX_SESSIONS (length sessions)
    ∷ at_most kind.Calls MAX_CALLS (call_count sessions)
    ∷ []
