-- Each text is the canonical text of an accepted graph, or of none, and likewise of a cover of it. So it has a verdict.
use Rattle.std.proofs.Common.{◌≡◌, ◌≢◌, ◌⊎◌, ℕ, ◌+◌, ◌<◌, ◌≤◌, Bool, true, false, ◌&&◌, codes, drop, get_or, length, slice_get, take, List, [], ◌∷◌, ◌++◌, Option, Some, None, inl, inr, refl, sym, ap, ◌∙◌, subst, arith}
use Rattle.std.specs.Prelude.{MatchOption}
use Rattle.std.specs.Str.{bytes_eq}
use Rattle.std.proofs.lemmas.Bool.{cases_Bool, cases_eq, cases_lt, false≢true}
use Rattle.std.proofs.lemmas.List.{append-nil, append_assoc, drop_all, take_all, take_more}
use Rattle.std.proofs.lemmas.List.Elements.{All-cons, All-head, All-nil, All-tail}
use Rattle.std.proofs.lemmas.Option.{same_Some}
use Rattle.std.proofs.lemmas.Slice.Eq.{bytes_eq-Decides}
use Rattle.serde_json.specs.Data.{Data}
use Rattle.dcr_format.specs.SizeLaws.{json_in}
use Rattle.dcr_graph.specs.declared.marking.Marking.{Marking}
use Rattle.dcr_nest.specs.Nest.{Nest, IsNested, names_of}
use Rattle.dcr_nest.specs.declared.node.Version.{Version}
use Rattle.dcr_proj.specs.CoverValue.{Owners}
use Rattle.dcr_journal.specs.Run.{HasNoFault, made_by}
use Rattle.dcr_journal.specs.declared.call.Entry.{Entry}
use Rattle.dcr_journal.specs.declared.call.Outcome.{Outcome}
use Rattle.dcr_journal.specs.declared.call.Outcome.TheVariants.{Faulted}
use Rattle.dcr_line.specs.EntryLine.{entry_in}
use Rattle.dcr_line.specs.Fits.{FitsEntry}
use Rattle.dcr_line.specs.Line.{entry_text}
use Rattle.dcr_line.proofs.EntryLemmas.{entry_read, entry_told}
use Rattle.dcr_format.specs.Facts.{Fact, first}
use Rattle.dcr_format.specs.Texts.{AreAllNames}
use Rattle.dcr_cover_json.specs.Accepted.{IsAcceptedCover, IsCoverIn, cover_facts}
use Rattle.dcr_cover_json.specs.Laws.{AreReadBack}
use Rattle.dcr_cover_json.specs.Shape.{sites_in}
use Rattle.dcr_cover_json.specs.Sites.{cover_in}
use Rattle.dcr_cover_json.specs.Text.{cover_text}
use Rattle.dcr_cover_json.proofs.ReadLemmas as covers
use Rattle.dcr_graph_json.specs.Accepted.{IsAcceptedGraph, IsGraphIn, graph_facts}
use Rattle.dcr_graph_json.specs.Build.{atom_names, nest_in}
use Rattle.dcr_graph_json.specs.Shape.{written_in as graph_in}
use Rattle.dcr_graph_json.specs.Text.{graph_text}
use Rattle.dcr_graph_json.proofs.ReadLemmas as graphs
use Rattle.dcr_report.specs.Report.{entry_lines, version_text}
use Rattle.dcr_text.specs.Lines.{Line, line_of, lines_of, says, whole}
use Rattle.dcr_replay.specs.Canonical.{HaveNoLineEnd, MeanOne}
use Rattle.dcr_replay.specs.EntryLines.{IsAnswered, IsNext, IsRun, IsWrongNext, MayCome, Setting, answer_after, begins_with_digit, first_is_digit, is_done, is_faulted, names_in, text_next}
use Rattle.dcr_replay.specs.FirstWrong.{IsVerdict, end_kinds}
use Rattle.dcr_replay.specs.HeadLines.{IsCoverAt, IsGraphAt, case_head, cover_line, first_behind, graph_line, opening_at, version_at}
use Rattle.dcr_replay.specs.ReportLines.{behind_of, ended, read_of}
use Rattle.dcr_replay.specs.Stands.{TellsOf}
use Rattle.dcr_replay.specs.declared.verdict.Verdict.{Verdict}
use Rattle.dcr_replay.specs.declared.verdict.Verdict.TheVariants.{Valid, Invalid}
use Rattle.dcr_replay.specs.declared.verdict.Wrong.{Wrong}
use Rattle.dcr_replay.specs.declared.verdict.Wrong.TheVariants as wrong
use Rattle.dcr_replay.proofs.AnsweredLemmas.{failed, judged, with_answer}
use Rattle.dcr_replay.proofs.EndLemmas.{next_wanted, says_told}
use Rattle.dcr_replay.proofs.HeadLemmas.{cover_line_told, graph_line_told, open_text, opening_told, own_version, version_line_told, whole_told}
use Rattle.dcr_replay.proofs.NextLemmas.{atoms_named, many_atoms, may_told, run_more, sites_named}
use Rattle.dcr_replay.proofs.ReportLemmas.{valid_told}
use Rattle.dcr_replay.proofs.WrongLemmas.{none_yet, read_next, tells_on, wrong_cover, wrong_end, wrong_graph, wrong_head, wrong_next, wrong_opening}
use Rattle.dcr_replay.specs.Verdicts.{EachHasAVerdict}
use Rattle.dcr_format.proofs.TextValueLemmas.{IsTextValue, json_text}
use Rattle.dcr_graph_json.proofs.AcceptedLemmas.{graph_accepted}

-- ---- two texts

same_or_not : (xs ys : List ℕ) → (xs ≡ ys) ⊎ (xs ≢ ys)
same_or_not xs ys = at (bytes_eq xs ys) refl
  where
    at : (b : Bool) → bytes_eq xs ys ≡ b → (xs ≡ ys) ⊎ (xs ≢ ys)
    at true e = inl ((bytes_eq-Decides xs ys).0 e)
    at false e = inr (λ same. false≢true (sym e ∙ (bytes_eq-Decides xs ys).1 same))

-- ---- a nested graph

module _ (version : Version) (bytes : List ℕ) where
  abbrev IsGraph : Type 0
  IsGraph = (found : Option Nest) × IsGraphIn version bytes found

  by_facts : (d : Data) → json_in bytes ≡ Some d → (f : Fact) → first (graph_facts version (Some d)) ≡ f → IsGraph
  by_facts d json (Some stop) e = (None, graphs.none_value version bytes d (sym json) (λ none. let never = sym e ∙ none in absurd cc))
  by_facts d json None e =
      let N = nest_in (graph_in version (Some d)) in
      elim (same_or_not bytes (graph_text N)) [
        | inl same ↦ (Some N, (graph_accepted version (Some d) (λ part is. subst IsTextValue (same_Some _ _ is) (json_text bytes d json)) e, same))
        | inr differ ↦ (None, graphs.none_text version bytes d N (sym json) refl differ)
      ]

  by_json : (o : Option Data) → json_in bytes ≡ o → IsGraph
  by_json None is = (None, graphs.none_json version bytes (sym is))
  by_json (Some d) is = by_facts d is (first (graph_facts version (Some d))) refl

  graph_decided : IsGraph
  graph_decided = by_json (json_in bytes) refl

-- ---- a cover of it

module _ (law : AreReadBack) (N : Nest) (nested : IsNested N) (are : AreAllNames (names_of N.nodes)) (bytes : List ℕ) where
  abbrev IsCover : Type 0
  IsCover = (found : Option Owners) × IsCoverIn N bytes found

  cover_by_facts : (d : Data) → json_in bytes ≡ Some d → (f : Fact) → first (cover_facts N (Some d)) ≡ f → IsCover
  cover_by_facts d json (Some stop) e = (None, covers.none_value N nested are bytes d (sym json) (λ none. let never = sym e ∙ none in absurd cc))
  cover_by_facts d json None e =
      let C = cover_in N (sites_in (Some d)) in
      elim (same_or_not bytes (cover_text (atom_names N) C)) [
        | inl same ↦ (Some C, (law.accepted N (Some d) e, same))
        | inr differ ↦ (None, covers.none_text N nested are bytes d C (sym json) refl differ)
      ]

  cover_by_json : (o : Option Data) → json_in bytes ≡ o → IsCover
  cover_by_json None is = (None, covers.none_json N nested are bytes (sym is))
  cover_by_json (Some d) is = cover_by_facts d is (first (cover_facts N (Some d))) refl

  cover_decided : IsCover
  cover_decided = cover_by_json (json_in bytes) refl

-- ---- the lines of entries, and behind them

-- a text whose lines have these texts and go on so has a verdict
abbrev HasVerdict : List (List ℕ) → List Line → Type 0
HasVerdict texts rest = (verdict : Verdict) × TellsOf texts rest verdict

abbrev Sound : Entry → Type 0
Sound entry = entry.outcome ≡ Faulted → ⊥

-- whether a line is this text with its end
line_or_not : (line : Line) (text : List ℕ) → (line ≡ line_of text true) ⊎ (line ≡ line_of text true → ⊥)
line_or_not line text = elim (cases_Bool (says text line)) [
  | inl so ↦ inl (says_told text line so)
  | inr other ↦ inr (λ is. false≢true (sym other ∙ ap (says text) is ∙ (bytes_eq-Decides text text).1 refl))
]

fault_or_not : (J : List Entry) → HasNoFault J ⊎ (HasNoFault J → ⊥)
fault_or_not [] = inl (All-nil Sound)
fault_or_not (entry ∷ J) = at entry.outcome refl (fault_or_not J)
  where
    at : (outcome : Outcome) → entry.outcome ≡ outcome → HasNoFault J ⊎ (HasNoFault J → ⊥) → HasNoFault (entry ∷ J) ⊎ (HasNoFault (entry ∷ J) → ⊥)
    at Faulted is rest = inr (λ sound. All-head Sound entry J sound is)
    at _ is (inl sound) = inl (All-cons Sound entry J (λ fault. let no = sym is ∙ fault in absurd cc) sound)
    at _ is (inr never) = inr (λ sound. never (All-tail Sound entry J sound))

answered_or_not : (S : Setting) (J : List Entry) (entry : Entry) → MayCome S J entry → IsAnswered S J entry ⊎ (IsAnswered S J entry → ⊥)
answered_or_not S J entry may =
    let told = answer_after S J entry.call in let text = text_next S J entry in let wanted = text_next S J (with_answer S J entry) in
    elim (cases_Bool (is_done told && is_faulted entry.outcome)) [
      | inl both ↦ inl (failed S J entry told refl both)
      | inr other ↦
          let decides = judged S J entry may other text wanted refl refl (bytes_eq text wanted) refl in
          elim (cases_Bool (bytes_eq text wanted)) [ inl so ↦ inl (decides.0 so) | inr differ ↦ inr (λ answered. false≢true (sym differ ∙ decides.1 answered)) ]
    ]

-- whether an entry that a line tells may come next
may_or_not : (S : Setting) (J : List Entry) (entry : Entry) → FitsEntry (length S.cover.names) (length (names_in S)) entry → MayCome S J entry ⊎ (MayCome S J entry → ⊥)
may_or_not S J entry fits = elim (cases_lt (length J) 200000) [
  | inr many ↦ inr (λ may. let few = may.few in omega arith)
  | inl few ↦ elim (cases_lt entry.session 1024) [
    | inr large ↦ inr (λ may. let small = may.session in omega arith)
    | inl session ↦ elim (cases_eq entry.seq (made_by entry.session J)) [
      | inr other ↦ inr (λ may. other may.seq)
      | inl seq ↦ elim (fault_or_not J) [
        | inl sound ↦ inl (record { few = few; sound = sound; session = session; seq = seq; fits = fits })
        | inr fault ↦ inr (λ may. fault may.sound)
      ]
    ]
  ]
]

-- the entry that a line tells next, or the kind by which it tells none with its answer
abbrev NextOrWrong : Setting → List Entry → Line → Type 0
NextOrWrong S J line = ((entry : Entry) × IsNext S J line entry × IsAnswered S J entry) ⊎ ((kind : Wrong) × IsWrongNext S J line kind)

next_or_wrong : (S : Setting) (J : List Entry) (line : Line) → NextOrWrong S J line
next_or_wrong S J line = by_text (whole line) refl
  where
    none : ((entry : Entry) → IsNext S J line entry → ⊥) → NextOrWrong S J line
    none never = inr (wrong.Entry, never)

    by_answer : (entry : Entry) → IsNext S J line entry → NextOrWrong S J line
    by_answer entry next = elim (answered_or_not S J entry next.0) [
      | inl answered ↦ inl (entry, next, answered)
      | inr other ↦ inr (wrong.Outcome, (entry, next, other))
    ]

    read_as : (text : List ℕ) → whole line ≡ Some text → (entry : Entry) → IsNext S J line entry → entry_in S.cover.names (names_in S) text ≡ Some (length J, entry)
    read_as text is entry next =
        ap (entry_in S.cover.names (names_in S)) (same_Some _ _ (sym is ∙ ap whole next.1))
        ∙ entry_read S.cover.names (names_in S) (sites_named S) (atoms_named S.nest S.accepted_graph) (length J) entry (may_told S J entry next.0)

    by_read : (text : List ℕ) → whole line ≡ Some text → (o : Option (ℕ × Entry)) → entry_in S.cover.names (names_in S) text ≡ o → NextOrWrong S J line
    by_read text is None read = none (λ entry next. let no = sym read ∙ read_as text is entry next in absurd cc)
    by_read text is (Some told) read =
        let known = entry_told S.cover.names (names_in S) text told.0 told.1 read in
        let one : (entry : Entry) → IsNext S J line entry → told ≡ (length J, entry) = λ entry next. same_Some _ _ (sym read ∙ read_as text is entry next) in
        elim (cases_eq told.0 (length J)) [
          | inr other ↦ none (λ entry next. other (ap (λ (t : ℕ × Entry). t.0) (one entry next)))
          | inl place ↦ elim (may_or_not S J told.1 known.0.fits) [
            | inr never ↦ none (λ entry next. never (subst (MayCome S J) (sym (ap (λ (t : ℕ × Entry). t.1) (one entry next))) next.0))
            | inl may ↦ by_answer told.1 (
              may,
              whole_told line text is ∙ ap (λ t. line_of t true) (known.1 ∙ ap (λ k. entry_text S.cover.names (names_in S) k told.1) place),
            )
          ]
        ]

    by_text : (o : Option (List ℕ)) → whole line ≡ o → NextOrWrong S J line
    by_text None is = none (λ entry next. let no = sym is ∙ ap whole next.1 in absurd cc)
    by_text (Some text) is = by_read text is (entry_in S.cover.names (names_in S) text) refl

module _ (S : Setting) (J : List Entry) (run : IsRun S J) where
  abbrev front : ℕ → List (List ℕ)
  front i = read_of S J ++ take i (behind_of S J)

  -- another line comes than the next of those behind the entries
  end_wrong : (i : ℕ) (rest : List Line) → i ≤ length (behind_of S J) → (i ≡ 0 → first_is_digit rest ≡ false) → (slice_get rest 0 ≡ slice_get (ended (drop i (behind_of S J))) 0 → ⊥) → HasVerdict (front i) rest
  end_wrong i rest within bare other =
      let kind = get_or (end_kinds (length S.cover.names)) i wrong.Extra in (
        Invalid (5 + length J + i) kind,
        λ no_ends one bytes cut. wrong_end no_ends one S J i bytes rest (record { legal = run; within = within; cut = cut }) bare (5 + length J + i) kind refl refl other,
      )

  -- the next comes
  end_right : (i : ℕ) (line : Line) (rest : List Line) → i < length (behind_of S J) → line ≡ line_of (get_or (behind_of S J) i []) true → HasVerdict (front (i + 1)) rest → HasVerdict (front i) (line ∷ rest)
  end_right i line rest within is found =
      let text = get_or (behind_of S J) i [] in
      let all : front i ++ text ∷ [] ≡ front (i + 1) = append_assoc (read_of S J) (take i (behind_of S J)) (text ∷ []) ∙ ap (λ (l : List (List ℕ)). read_of S J ++ l) (sym (take_more (behind_of S J) i [] within)) in (
        found.0,
        tells_on (front i) text (line ∷ rest) found.0 (ap (λ l. l ∷ rest) is) (subst (λ (l : List (List ℕ)). TellsOf l rest found.0) (sym all) found.1),
      )

  ends_told : (rest : List Line) (i : ℕ) → i ≤ length (behind_of S J) → (i ≡ 0 → first_is_digit rest ≡ false) → HasVerdict (front i) rest
  ends_told [] i within bare = elim (cases_lt i (length (behind_of S J))) [
    | inl before ↦ end_wrong i [] within bare (λ same. let no = same ∙ next_wanted (behind_of S J) i before in absurd cc)
    | inr past ↦ (
      Valid (length J),
      λ no_ends one bytes cut. valid_told bytes S J run (cut ∙ append-nil (ended (front i)) ∙ ap (λ (l : List (List ℕ)). ended (read_of S J ++ l)) (take_all i (behind_of S J) past)),
    )
  ]
  ends_told (line ∷ rest) i within bare = elim (cases_lt i (length (behind_of S J))) [
    | inr past ↦ end_wrong i (line ∷ rest) within bare (λ same. let no = same ∙ ap (λ (l : List (List ℕ)). slice_get (ended l) 0) (drop_all i (behind_of S J) past) in absurd cc)
    | inl before ↦ elim (line_or_not line (get_or (behind_of S J) i [])) [
      | inl is ↦ end_right i line rest before is (ends_told rest (i + 1) (omega (arith, before)) (λ none. absurd (omega (arith, none))))
      | inr other ↦ end_wrong i (line ∷ rest) within bare (λ same. other (same_Some _ _ (same ∙ next_wanted (behind_of S J) i before)))
    ]
  ]

-- from an entry on
entries_told : (S : Setting) (J : List Entry) → IsRun S J → (rest : List Line) → HasVerdict (read_of S J) rest
entries_told S J run rest = by_lines rest J run
  where
    at_end : (J : List Entry) → IsRun S J → (rest : List Line) → first_is_digit rest ≡ false → HasVerdict (read_of S J) rest
    at_end J run rest bare =
        subst (λ (l : List (List ℕ)). HasVerdict l rest) (append-nil (read_of S J)) (ends_told S J run rest 0 (omega arith) (λ _. bare))

    more : (J : List Entry) (entry : Entry) (line : Line) (rest : List Line) → line ≡ line_of (text_next S J entry) true → HasVerdict (read_of S (J ++ entry ∷ [])) rest → HasVerdict (read_of S J) (line ∷ rest)
    more J entry line rest is found = (
      found.0,
      tells_on (read_of S J) (text_next S J entry) (line ∷ rest) found.0 (ap (λ l. l ∷ rest) is) (subst (λ (l : List (List ℕ)). TellsOf l rest found.0) (read_next S J entry) found.1),
    )

    by_lines : (rest : List Line) (J : List Entry) → IsRun S J → HasVerdict (read_of S J) rest
    by_lines [] J run = at_end J run [] refl
    by_lines (line ∷ rest) J run = elim (cases_Bool (begins_with_digit line.text)) [
      | inr bare ↦ at_end J run (line ∷ rest) bare
      | inl digit ↦ elim (next_or_wrong S J line) [
        | inl next ↦ more J next.0 line rest next.1.1 (by_lines rest (J ++ next.0 ∷ []) (run_more S J next.0 run next.1.0 next.2))
        | inr wrong_so ↦ (
          Invalid (5 + length J) wrong_so.0,
          λ no_ends one bytes cut. wrong_next no_ends one S J run bytes line rest cut digit (5 + length J) wrong_so.0 refl wrong_so.1,
        )
      ]
    ]

-- ---- the lines before the entries

-- before the first entry the lines are those of a head
head_tells : (S : Setting) (rest : List Line) (verdict : Verdict) → TellsOf (read_of S []) rest verdict → TellsOf (case_head S.nest S.cover ++ open_text (names_in S) S.opening ∷ []) rest verdict
unfolding entry_lines
head_tells S rest verdict told = told

-- from the line of the opening marking on
opening_told_by : (N : Nest) → IsAcceptedGraph N.version N → (C : Owners) → IsAcceptedCover N C → (rest : List Line) → HasVerdict (case_head N C) rest
opening_told_by N graph C cover rest = at (opening_at (atom_names N) rest) refl
  where
    at : (o : Option Marking) → opening_at (atom_names N) rest ≡ o → HasVerdict (case_head N C) rest
    at None is = (Invalid 4 wrong.Opening, wrong_opening N graph C cover rest is)
    at (Some M) is =
        let marks = opening_told (atom_names N) M rest is in
        let many = many_atoms N in
        let S : Setting = record {
          nest = N;
          cover = C;
          opening = M;
          accepted_graph = graph;
          accepted_cover = cover;
          room = record { executed = marks.fits.executed ∙ many; pending = marks.fits.pending ∙ many; included = marks.fits.included ∙ many };
        } in
        let found = entries_told S [] (none_yet S) (drop 1 rest) in
        (found.0, tells_on (case_head N C) (open_text (atom_names N) M) rest found.0 marks.cut (head_tells S (drop 1 rest) found.0 found.1))

module _ (law : AreReadBack) where
  -- what is found in a first line
  found_at : {A : Type 0} (P : Option A → List ℕ → Type 0) → ((text : List ℕ) → (found : Option A) × P found text) → (o : Option (List ℕ)) → (found : Option A) × MatchOption o (found ≡ None) (P found)
  found_at {A = A} P decided None = (None, refl)
  found_at {A = A} P decided (Some text) = decided text

  cover_told_by : (N : Nest) → IsAcceptedGraph N.version N → (rest : List Line) → HasVerdict (version_text N.version ∷ graph_line N ∷ []) rest
  cover_told_by N graph rest =
      let found = found_at (λ o text. IsCoverIn N text o) (cover_decided law N graph.nested graph.names) (first_behind (codes "cover ") rest) in at found.0 found.1
    where
      at : (o : Option Owners) → IsCoverAt N rest o → HasVerdict (version_text N.version ∷ graph_line N ∷ []) rest
      at None is = (Invalid 3 wrong.Cover, wrong_cover N graph rest is)
      at (Some C) is =
          let line = cover_line_told N rest C is in let found = opening_told_by N graph C line.0 (drop 1 rest) in
          (found.0, tells_on (version_text N.version ∷ graph_line N ∷ []) (cover_line N C) rest found.0 line.1 found.1)

  graph_told_by : (version : Version) (rest : List Line) → HasVerdict (version_text version ∷ []) rest
  graph_told_by version rest =
      let found = found_at (λ o text. IsGraphIn version text o) (graph_decided version) (first_behind (codes "graph ") rest) in at found.0 found.1
    where
      at : (o : Option Nest) → IsGraphAt version rest o → HasVerdict (version_text version ∷ []) rest
      at None is = (Invalid 2 wrong.Graph, wrong_graph version rest is)
      at (Some N) is =
          let line = graph_line_told version rest N is in
          let found = subst (λ v. HasVerdict (version_text v ∷ graph_line N ∷ []) (drop 1 rest)) line.0.of_version (cover_told_by N (own_version version N line.0) (drop 1 rest)) in
          (found.0, tells_on (version_text version ∷ []) (graph_line N) rest found.0 line.1 found.1)

  pub each_has_a_verdict : HaveNoLineEnd → MeanOne → EachHasAVerdict
  each_has_a_verdict no_ends one bytes = at (version_at (lines_of bytes)) refl
    where
      at : (o : Option Version) → version_at (lines_of bytes) ≡ o → (verdict : Verdict) × IsVerdict bytes verdict
      at None is = (Invalid 1 wrong.Head, wrong_head (lines_of bytes) is no_ends one bytes refl)
      at (Some version) is =
          let found = graph_told_by version (drop 1 (lines_of bytes)) in
          (found.0, tells_on [] (version_text version) (lines_of bytes) found.0 (version_line_told (lines_of bytes) version is) found.1 no_ends one bytes refl)
