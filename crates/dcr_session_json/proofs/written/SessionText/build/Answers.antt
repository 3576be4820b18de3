use Rattle.std.proofs.Common.{List, length, map, sym, subst, ◌∙◌}
use Rattle.serde_json.specs.View.{view}
use Rattle.dcr_journal.specs.declared.call.Call.{Call}
use Rattle.dcr_session_json.specs.Accepted.{IsAcceptedSessions}
use Rattle.dcr_session_json.proofs.CallLemmas.{sessions_accepted}
use Rattle.dcr_session_json.proofs.written.SessionText.build.Goals as goal

pub returns-clause-accepted : goal.returns-clause-accepted
returns-clause-accepted c =
    let sites = c.args.cover.now.names in
    let names = c.args.graph.now.names in
    let P : List (List Call) → Type 0 = λ sessions. IsAcceptedSessions (length sites) (length names) sessions in
    subst P (sym (c.new.ensures ∙ c.in_ok-sessions.ensures.sessions)) (sessions_accepted sites names (map view c.args.self.now.sessions.now) c.requires)
