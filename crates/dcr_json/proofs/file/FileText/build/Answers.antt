use Rattle.std.proofs.Common.{◌≡◌, ◌≢◌, None, Some, sym, ap, subst, ◌∙◌, rules}
use Rattle.dcr_nest.specs.Nest.{Nest}
use Rattle.dcr_nest.specs.declared.node.Version.{Version}
use Rattle.dcr_format.specs.Facts.{first}
use Rattle.dcr_format.specs.declared.stop.CaseStop.TheVariants.{NoMemory}
use Rattle.dcr_cover_json.specs.Build.{build_facts as cover_build}
use Rattle.dcr_cover_json.specs.Limits.{limit_facts as cover_limits}
use Rattle.dcr_cover_json.specs.Sites.{cover_in}
use Rattle.dcr_graph_json.specs.Accepted.{IsAcceptedGraph}
use Rattle.dcr_graph_json.specs.Build.{atom_names, nest_in, build_facts as graph_build}
use Rattle.dcr_graph_json.specs.Limits.{limit_facts as graph_limits}
use Rattle.dcr_session_json.specs.Build.{build_facts as session_build}
use Rattle.dcr_session_json.specs.Limits.{limit_facts as session_limits}
use Rattle.dcr_json.specs.Facts.{build_facts, limit_facts}
use Rattle.dcr_json.specs.Seen.{written}
use Rattle.dcr_json.proofs.FileLemmas.{same_calls, same_case}
use Rattle.dcr_json.proofs.RoomLemmas.{opening_room}
use Rattle.dcr_format.proofs.StageLemmas.{all_three, first_stop, second_stop, third_fact}
use Rattle.dcr_json.proofs.file.FileText.build.Goals as goal

pub build-requires : goal.build-requires
unfolding limit_facts
build-requires c =
    let w = written c.args.self.now in (all_three (graph_limits w.graph) (cover_limits w.sites) (session_limits w.sessions) c.requires).0

pub build-requires-2-clause-limits : goal.build-requires-2-clause-limits
unfolding limit_facts
build-requires-2-clause-limits c =
    let w = written c.args.self.now in (all_three (graph_limits w.graph) (cover_limits w.sites) (session_limits w.sessions) c.requires).1

pub build-requires-3 : goal.build-requires-3
unfolding limit_facts
build-requires-3 c =
    let w = written c.args.self.now in (all_three (graph_limits w.graph) (cover_limits w.sites) (session_limits w.sessions) c.requires).2

pub returns-in_err-built-clause-facts : goal.returns-in_err-built-clause-facts
unfolding build_facts
returns-in_err-built-clause-facts c =
    let w = written c.args.self.now in
    let meant = cover_in (nest_in w.graph) w.sites in
    let stopped : c.in_err-built.field-0.0 ≢ NoMemory → first (build_facts w) ≡ Some c.in_err-built.field-0.0 = λ memory.
    first_stop (graph_build w.graph) (cover_build (nest_in w.graph) w.sites) (session_build meant.names (atom_names (nest_in w.graph)) w.sessions) c.in_err-built.field-0.0 (c.in_err-built.ensures.facts memory) in
    search rules

pub returns-in_err-cover-clause-facts : goal.returns-in_err-cover-clause-facts
unfolding build_facts
returns-in_err-cover-clause-facts c =
    let w = written c.args.self.now in
    let meant = cover_in (nest_in w.graph) w.sites in
    let nested = c.in_ok-built.ensures.nested in
    let stopped : c.in_err-cover.field-0.0 ≢ NoMemory → first (build_facts w) ≡ Some c.in_err-cover.field-0.0 = λ memory.
    second_stop (graph_build w.graph) (cover_build (nest_in w.graph) w.sites) (session_build meant.names (atom_names (nest_in w.graph)) w.sessions) c.in_ok-built.ensures.facts c.in_err-cover.field-0.0
    (ap (λ (N : Nest). first (cover_build N w.sites)) (sym nested) ∙ c.in_err-cover.ensures.facts memory) in
    search rules

pub returns-in_err-sessions-clause-facts : goal.returns-in_err-sessions-clause-facts
unfolding build_facts
returns-in_err-sessions-clause-facts c =
    let w = written c.args.self.now in
    let meant = cover_in (nest_in w.graph) w.sites in
    let nested = c.in_ok-built.ensures.nested in
    let N = c.in_ok-built.built.nested in
    let same = same_calls w N nested c.in_ok-cover.cover c.in_ok-cover.ensures.cover c.in_ok-built.built.graph.names c.in_ok-built.ensures.flat.names in
    let stopped : c.in_err-sessions.field-0.0 ≢ NoMemory → first (build_facts w) ≡ Some c.in_err-sessions.field-0.0 = λ memory.
    third_fact (graph_build w.graph) (cover_build (nest_in w.graph) w.sites) (session_build meant.names (atom_names (nest_in w.graph)) w.sessions) c.in_ok-built.ensures.facts
    (ap (λ (M : Nest). first (cover_build M w.sites)) (sym nested) ∙ c.in_ok-cover.ensures.facts) (Some c.in_err-sessions.field-0.0) (ap first same ∙ c.in_err-sessions.ensures.facts memory) in
    search rules

pub returns-clause-facts : goal.returns-clause-facts
unfolding build_facts
returns-clause-facts c =
    let w = written c.args.self.now in
    let meant = cover_in (nest_in w.graph) w.sites in
    let nested = c.in_ok-built.ensures.nested in
    let N = c.in_ok-built.built.nested in
    let same = same_calls w N nested c.in_ok-cover.cover c.in_ok-cover.ensures.cover c.in_ok-built.built.graph.names c.in_ok-built.ensures.flat.names in
    third_fact (graph_build w.graph) (cover_build (nest_in w.graph) w.sites) (session_build meant.names (atom_names (nest_in w.graph)) w.sessions) c.in_ok-built.ensures.facts
    (ap (λ (M : Nest). first (cover_build M w.sites)) (sym nested) ∙ c.in_ok-cover.ensures.facts) None (ap first same ∙ c.in_ok-sessions.ensures.facts)

pub returns-clause-case : goal.returns-clause-case
returns-clause-case c =
    same_case (written c.args.self.now) c.in_ok-built.built.nested c.in_ok-built.ensures.nested c.in_ok-cover.cover c.in_ok-cover.ensures.cover c.in_ok-built.built.graph.names c.in_ok-built.ensures.flat.names
    c.in_ok-built.built.opening c.in_ok-sessions.sessions c.in_ok-built.ensures.opening c.in_ok-sessions.ensures.sessions

pub returns-clause-fits : goal.returns-clause-fits
returns-clause-fits c =
    let w = written c.args.self.now in
    let N = c.in_ok-built.built.nested in
    let graph = c.in_ok-built.ensures.accepted in
    let sessions = c.in_ok-sessions.ensures.accepted in
    record {
      accepted_graph = subst (λ (v : Version). IsAcceptedGraph v N) (sym graph.of_version) graph;
      accepted_cover = c.in_ok-cover.ensures.accepted;
      flat = c.in_ok-built.ensures.flat;
      rooms = c.in_ok-cover.ensures.rooms;
      opening = opening_room w.graph N c.in_ok-built.built.graph.names c.in_ok-built.built.opening c.in_ok-built.ensures.nested c.in_ok-built.ensures.flat.names c.in_ok-built.ensures.opening;
      most_sessions = sessions.most_sessions;
      most_calls = sessions.most_calls;
      calls_in_range = sessions.in_range;
    }
