-- A case stands in a case file of its own: its text is read as it.
use Rattle.std.proofs.Common.{◌≡◌, ℕ, ◌≤◌, true, codes, List, [], ◌∷◌, length, Some, None, Ok, IsUtf8, refl, sym, ap, ◌∙◌, false, arith, sum_by}
use Rattle.json.proofs.Printed.Utf8.{IsUtf8-are_ascii}
use Rattle.serde_json.specs.Data.{Data, string, member, no_members}
use Rattle.serde_json.specs.Find.{get}
use Rattle.serde_json.specs.Written.{compact_text, has_float}
use Rattle.dcr_format.specs.SizeLaws.{json_in}
use Rattle.dcr_graph.specs.Projection.{HasRoom}
use Rattle.dcr_nest.specs.Nest.{Nest, parents_of}
use Rattle.dcr_nest.specs.Tree.{atoms}
use Rattle.dcr_nest.specs.declared.node.Version.{Version}
use Rattle.dcr_nest.specs.declared.node.Version.TheVariants.{V1, V2}
use Rattle.dcr_proj.specs.CoverValue.{Owners}
use Rattle.dcr_line.specs.Known.{AreNames}
use Rattle.dcr_format.specs.Facts.{first}
use Rattle.dcr_format.specs.Objects.{Entry}
use Rattle.dcr_format.proofs.EntryLemmas.{plain_entries}
use Rattle.dcr_format.proofs.EscapeLemmas.{quoted_short}
use Rattle.dcr_format.proofs.LengthLemmas.{member_short}
use Rattle.dcr_format.proofs.NameLemmas.{names_utf8}
use Rattle.dcr_format.proofs.PlainLemmas.{IsPlain, json_written, plain_string, text_written}
use Rattle.dcr_format.proofs.Utf8Lemmas.{IsUtf8Value, value_utf8}
use Rattle.dcr_cover_json.specs.Accepted.{IsAcceptedCover}
use Rattle.dcr_cover_json.specs.Build.{build_facts as cover_build}
use Rattle.dcr_cover_json.specs.Limits.{limit_facts as cover_limits}
use Rattle.dcr_cover_json.specs.Shape.{shape_facts as cover_shape, sites_in}
use Rattle.dcr_cover_json.specs.Sites.{cover_in}
use Rattle.dcr_cover_json.specs.Text.{cover_text, cover_value}
use Rattle.dcr_cover_json.proofs.RoundLemmas.{cover_back, all_hold as cover_holds}
use Rattle.dcr_cover_json.proofs.ValueLemmas.{cover_utf8, plain_cover, text_short as cover_short}
use Rattle.dcr_graph_json.specs.Accepted.{IsAcceptedGraph}
use Rattle.dcr_graph_json.specs.Build.{atom_names, nest_in, build_facts as graph_build}
use Rattle.dcr_graph_json.specs.Limits.{limit_facts as graph_limits}
use Rattle.dcr_graph_json.specs.Shape.{shape_facts as graph_shape, written_in as graph_in}
use Rattle.dcr_graph_json.specs.Text.{graph_value}
use Rattle.dcr_graph_json.specs.Written.{Written as Graph}
use Rattle.dcr_graph_json.proofs.OpeningLemmas.{opening_read}
use Rattle.dcr_graph_json.proofs.ReadLemmas.{graph_short, graph_utf8}
use Rattle.dcr_graph_json.proofs.RoundLemmas.{same_nest, written_is, all_hold as graph_holds}
use Rattle.dcr_graph_json.proofs.ValueLemmas.{plain_graph}
use Rattle.dcr_session_json.specs.Accepted.{IsAcceptedSessions}
use Rattle.dcr_session_json.specs.Build.{build_facts as session_build}
use Rattle.dcr_session_json.specs.Laws.{IsReadBack}
use Rattle.dcr_session_json.specs.Limits.{limit_facts as session_limits}
use Rattle.dcr_session_json.specs.Shape.{shape_facts as session_shape}
use Rattle.dcr_session_json.specs.Value.{sessions_value}
use Rattle.dcr_session_json.specs.Written.{written_in as sessions_in}
use Rattle.dcr_session_json.proofs.RoundLemmas.{read_back}
use Rattle.dcr_session_json.proofs.ValueLemmas.{plain_sessions, sessions_short, sessions_utf8}
use Rattle.dcr_json.specs.Case.{case_in}
use Rattle.dcr_json.specs.CaseText.{case_text, case_value}
use Rattle.dcr_json.specs.Facts.{build_facts, case_facts, limit_facts, shape_facts}
use Rattle.dcr_json.specs.Refusals.{SpellsJson}
use Rattle.dcr_json.specs.Written.{Spelled, Written, spelled_in, version_in, version_text, version_written, written_in}
use Rattle.dcr_json.proofs.FileLemmas.{same_calls, same_case, same_written, sessions_fact}
use Rattle.dcr_json.proofs.KnownLemmas.{atoms_are_names, sites_are_names}
use Rattle.dcr_json.proofs.RefusalLemmas.{case_given}
use Rattle.dcr_format.proofs.StageLemmas.{all_three, third_fact}

-- its graph and its cover are accepted, its opening is over the atoms, and its calls are few and between sites and atoms
pub record IsWritable (case : Spelled) : Type 0 where
  pub graph : IsAcceptedGraph case.nested.version case.nested
  pub cover : IsAcceptedCover case.nested case.cover
  pub opening : HasRoom (length (atoms (parents_of case.nested.nodes))) case.opening
  pub sessions : IsAcceptedSessions (length case.cover.names) (length (atom_names case.nested)) case.sessions
  pub few_calls : sum_by length case.sessions ≤ 20000

version_utf8 : (version : Version) → IsUtf8 (version_text version)
version_utf8 V1 = IsUtf8-are_ascii (codes "1") refl
version_utf8 V2 = IsUtf8-are_ascii (codes "2") refl

version_short : (version : Version) → length (version_text version) ≤ 1
version_short V1 = omega arith
version_short V2 = omega arith

version_back : (version : Version) → version_written (Some (string (version_text version))) ≡ Some version
version_back V1 = refl
version_back V2 = refl

module _ (case : Spelled) (ok : IsWritable case) where
  abbrev N : Nest
  N = case.nested

  abbrev C : Owners
  C = case.cover

  abbrev named : List (List ℕ)
  named = atom_names N

  abbrev graph : Data
  graph = graph_value N (Some case.opening)

  abbrev cover : Data
  cover = cover_value named C

  abbrev sessions : Data
  sessions = sessions_value C.names named case.sessions

  are_atoms : AreNames named
  are_atoms = atoms_are_names N.version N ok.graph

  are_sites : AreNames C.names
  are_sites = sites_are_names N C ok.cover

  -- ---- the text is read back as the value, and is short

  plain_case : IsPlain 4 (case_value case)
  unfolding case_value
  plain_case =
      let one : Entry = (codes "cover", Some cover) in
      let two : Entry = (codes "graph", Some graph) in
      let three : Entry = (codes "sessions", Some sessions) in
      let four : Entry = (codes "version", Some (string (version_text N.version))) in
      plain_entries 3 (one ∷ two ∷ three ∷ four ∷ []) (tt, ((refl, tt), ((refl, (refl, tt)), ((refl, (refl, (refl, tt))), tt))))
      (plain_cover named C, (plain_graph N (Some case.opening), (plain_sessions C.names named case.sessions, (plain_string 3 (version_text N.version), tt))))

  case_utf8 : IsUtf8Value (case_value case)
  unfolding case_value
  case_utf8 = (
    IsUtf8-are_ascii (codes "cover") refl,
    cover_utf8 named C (names_utf8 named are_atoms.names) (names_utf8 C.names are_sites.names),
    (
      IsUtf8-are_ascii (codes "graph") refl,
      graph_utf8 N.version N ok.graph (Some case.opening),
      (
        IsUtf8-are_ascii (codes "sessions") refl,
        sessions_utf8 C.names named are_sites.names are_atoms.names case.sessions,
        (IsUtf8-are_ascii (codes "version") refl, version_utf8 N.version, tt),
      ),
    ),
  )

  is_json : json_in (case_text case) ≡ Some (case_value case)
  unfolding case_text
  is_json = json_written 4 (case_value case) (compact_text (case_value case)) plain_case (omega arith) refl (value_utf8 (case_value case) case_utf8)

  cover_few : length (compact_text cover) ≤ 4396481
  unfolding cover_text
  cover_few = cover_short N C ok.graph.nested are_atoms.names ok.cover

  is_short : length (case_text case) ≤ 16777216
  unfolding case_text case_value
  is_short =
      let version = string (version_text N.version) in
      let fourth = member_short true (codes "version") version no_members in
      let third = member_short true (codes "sessions") sessions (member (codes "version") version no_members) in
      let second = member_short true (codes "graph") graph (member (codes "sessions") sessions (member (codes "version") version no_members)) in
      let first = member_short false (codes "cover") cover (member (codes "graph") graph (member (codes "sessions") sessions (member (codes "version") version no_members))) in
      let sites = cover_few in
      let nodes = graph_short N.version N ok.graph (Some case.opening) in
      let calls = sessions_short C.names named are_sites.names are_atoms.names case.sessions in
      let few_sessions = ok.sessions.most_sessions in
      let few_calls = ok.few_calls in
      let text = quoted_short (version_text N.version) in
      let one = version_short N.version in omega arith

  spells_json : SpellsJson (case_text case) (case_value case)
  spells_json = record { short = is_short; json = is_json }

  -- ---- the value holds all facts, and writes the case

  top : version_in (case_value case) ≡ Some N.version
  unfolding version_in case_value
  top = version_back N.version

  has_graph : get (codes "graph") (case_value case) ≡ Some graph
  unfolding case_value
  has_graph = refl

  has_cover : get (codes "cover") (case_value case) ≡ Some cover
  unfolding case_value
  has_cover = refl

  has_sessions : get (codes "sessions") (case_value case) ≡ Some sessions
  unfolding case_value
  has_sessions = refl

  abbrev g : Graph
  g = graph_in N.version (Some graph)

  abbrev w : Written
  w = record { graph = g; sites = sites_in (Some cover); sessions = sessions_in (Some sessions) }

  writes : written_in (case_value case) ≡ w
  writes =
      sym (same_written (case_value case) N.version top g (sites_in (Some cover)) (sessions_in (Some sessions))
      (ap (graph_in N.version) (sym has_graph)) (ap sites_in (sym has_cover)) (ap sessions_in (sym has_sessions)))

  graph_facts : (first (graph_shape N.version (Some graph)) ≡ None) × (first (graph_limits g) ≡ None) × (first (graph_build g) ≡ None)
  graph_facts = all_three (graph_shape N.version (Some graph)) (graph_limits g) (graph_build g) (graph_holds N (Some case.opening) ok.graph.nested ok.graph.names ok.graph.labels ok.graph.unclashed)

  cover_facts : (first (cover_shape (Some cover)) ≡ None) × (first (cover_limits w.sites) ≡ None) × (first (cover_build N w.sites) ≡ None)
  cover_facts = all_three (cover_shape (Some cover)) (cover_limits w.sites) (cover_build N w.sites) (cover_holds N ok.graph.nested C ok.cover)

  session_facts : IsReadBack C.names named case.sessions
  session_facts = read_back C.names named are_sites are_atoms case.sessions ok.sessions

  nested_back : N ≡ nest_in g
  nested_back = sym (ap nest_in (written_is N (Some case.opening) ok.graph.nested ok.graph.names ok.graph.labels) ∙ same_nest N (Some case.opening) ok.graph.nested ok.graph.names ok.graph.labels)

  back : C ≡ cover_in N w.sites
  back = sym (cover_back N ok.graph.nested C ok.cover)

  means : case ≡ spelled_in w
  means =
      same_case w N nested_back C back named refl case.opening case.sessions
      (sym (opening_read N case.opening ok.graph.nested ok.graph.names ok.graph.labels ok.opening)) (sym session_facts.sessions)

  shape_holds : first (shape_facts (case_value case)) ≡ None
  shape_holds =
      sessions_fact (case_value case) N.version top (ap (λ d. first (graph_shape N.version d)) has_graph ∙ graph_facts.0) (ap (λ d. first (cover_shape d)) has_cover ∙ cover_facts.0) None
      (ap (λ d. first (session_shape d)) has_sessions ∙ session_facts.shape)

  limits_hold : first (limit_facts w) ≡ None
  unfolding limit_facts
  limits_hold = third_fact (graph_limits g) (cover_limits w.sites) (session_limits w.sessions) graph_facts.1 cover_facts.1 None session_facts.limits

  build_holds : first (build_facts w) ≡ None
  unfolding build_facts
  build_holds =
      let meant = cover_in (nest_in g) w.sites in
      third_fact (graph_build g) (cover_build (nest_in g) w.sites) (session_build meant.names (atom_names (nest_in g)) w.sessions) graph_facts.2
      (ap (λ M. first (cover_build M w.sites)) (sym nested_back) ∙ cover_facts.2) None
      (ap first (same_calls w N nested_back C back named refl) ∙ session_facts.calls)

  all_hold : first (case_facts (case_value case)) ≡ None
  unfolding case_facts
  all_hold =
      third_fact (shape_facts (case_value case)) (limit_facts (written_in (case_value case))) (build_facts (written_in (case_value case))) shape_holds
      (ap (λ v. first (limit_facts v)) writes ∙ limits_hold) None (ap (λ v. first (build_facts v)) writes ∙ build_holds)

  -- the text is read as the case
  pub case_read : case_in (case_text case) ≡ Ok case
  case_read = case_given (case_text case) (case_value case) case spells_json all_hold (ap spelled_in writes ∙ sym means)

  -- and so is what was written for its value
  pub written_text : (written : Data) (bytes : List ℕ) → written ≡ case_value case → (has_float written ≡ false → bytes ≡ compact_text written) → bytes ≡ case_text case
  unfolding case_text
  written_text written bytes same text = text_written 4 (case_value case) written bytes plain_case same text
