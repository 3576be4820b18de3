-- Which line is the first wrong one, part by part: of the lines before the entries, of the entries, and behind them.
use Rattle.std.proofs.Common.{◌≡◌, ℕ, zero, suc, ◌+◌, ◌<◌, ◌≤◌, true, false, List, [], ◌∷◌, ◌++◌, codes, drop, get_or, length, slice_get, take, Option, Some, None, refl, sym, ap, subst, ◌∙◌, arith}
use Rattle.std.specs.Option.{MatchOption, option_map_or}
use Rattle.std.proofs.lemmas.Bool.{false≢true}
use Rattle.std.proofs.lemmas.List.{append-nil, append_assoc, append_cancel_left, length-append, length-take-le, take-append-drop}
use Rattle.std.proofs.lemmas.List.Elements.{All-nil}
use Rattle.std.proofs.lemmas.Option.{same_Some}
use Rattle.dcr_nest.specs.FlatRelation.{flat_relation}
use Rattle.dcr_nest.specs.Nest.{Nest, parents_of}
use Rattle.dcr_nest.specs.Tree.{atoms}
use Rattle.dcr_nest.specs.declared.node.Version.{Version}
use Rattle.dcr_nest.specs.declared.node.Version.TheVariants.{V1}
use Rattle.dcr_proj.specs.CoverValue.{Owners}
use Rattle.dcr_journal.specs.declared.call.Entry.{Entry}
use Rattle.dcr_journal.proofs.SoundLemmas.{sound_none}
use Rattle.dcr_line.specs.Line.{entry_text}
use Rattle.dcr_cover_json.specs.Text.{cover_text}
use Rattle.dcr_graph_json.specs.Text.{graph_text}
use Rattle.dcr_replay.specs.Canonical.{HaveNoLineEnd}
use Rattle.dcr_cover_json.specs.Accepted.{IsAcceptedCover, IsCoverIn}
use Rattle.dcr_graph_json.specs.Accepted.{IsAcceptedGraph, IsGraphIn}
use Rattle.dcr_graph_json.specs.Build.{atom_names}
use Rattle.dcr_replay.specs.Canonical.{MeanOne}
use Rattle.dcr_report.specs.Report.{entry_lines, version_text}
use Rattle.dcr_text.specs.Lines.{Line, line_of, lines_of}
use Rattle.dcr_replay.specs.EntryLines.{IsAnswered, IsRun, IsWrongNext, MayCome, Setting, begins_with_digit, first_is_digit, names_in, rules_in, text_next}
use Rattle.dcr_replay.specs.FirstWrong.{IsReadTo, IsVerdict, behind_head, end_kinds, in_head, of_end, of_entry}
use Rattle.dcr_replay.specs.HeadLines.{IsCoverAt, IsGraphAt, first_behind, opening_at, version_at}
use Rattle.dcr_replay.specs.ReportLines.{behind_of, ended, head_of, read_of, texts_of}
use Rattle.dcr_replay.specs.Stands.{TellsOf}
use Rattle.dcr_replay.specs.declared.verdict.Verdict.{Verdict}
use Rattle.dcr_replay.specs.declared.verdict.Verdict.TheVariants.{Invalid}
use Rattle.dcr_replay.specs.declared.verdict.Wrong.{Wrong}
use Rattle.dcr_replay.specs.declared.verdict.Wrong.TheVariants as wrong
use Rattle.dcr_replay.proofs.CutLemmas.{ended_append}
use Rattle.dcr_replay.proofs.HeadLemmas.{behind_read, open_text, opening_read, version_line_read}
use Rattle.dcr_replay.proofs.NextLemmas.{atoms_named, behind_bare, entry_begins, follows, lines_after, nest_told, opening_fits, run_next, same_next, version_told}
use Rattle.dcr_replay.proofs.ReportLemmas.{wrong_line}
use Rattle.dcr_replay.proofs.WitnessLemmas.{empty_graph, empty_graph_accepted, empty_marking, empty_marking_room, one_site, one_site_accepted}

-- ---- the lines before the entries

-- a report goes on as it likes: without a mark, without an entry
abbrev none_read : (N : Nest) → IsAcceptedGraph N.version N → (C : Owners) → IsAcceptedCover N C → Setting
none_read N graph C cover = record {
  nest = N;
  cover = C;
  opening = empty_marking (flat_relation N).atoms;
  accepted_graph = graph;
  accepted_cover = cover;
  room = empty_marking_room (flat_relation N).atoms;
}

-- and with one site
abbrev one_owner : (N : Nest) → IsAcceptedGraph N.version N → Setting
one_owner N graph = none_read N graph (one_site (length (atoms (parents_of N.nodes)))) (one_site_accepted N)

-- and without a node
abbrev no_node : Version → Setting
no_node version = one_owner (empty_graph version) (empty_graph_accepted version)

pub none_yet : (S : Setting) → IsRun S []
none_yet S = record {
  legal = (sound_none (rules_in S) S.cover.owned S.opening).legal;
  most = omega arith;
  sessions = All-nil (λ (entry : Entry). entry.session < 1024);
}

-- a first line
pub first_cut : (lines : List Line) (line : Line) → slice_get lines 0 ≡ Some line → lines ≡ line ∷ drop 1 lines
first_cut [] line is = absurd cc
first_cut (first ∷ lines) line is = ap (λ l. l ∷ lines) (same_Some _ _ is)

-- the line that is left is that of a report
starts : (line : Line) (more rest behind : List Line) → line ∷ more ≡ behind → slice_get rest 0 ≡ slice_get behind 0 → rest ≡ line ∷ drop 1 rest
starts line more rest behind e same = first_cut rest line (same ∙ ap (λ (l : List Line). slice_get l 0) (sym e))

-- what is said of the text that the first line has behind a word
said : (word text : List ℕ) (rest : List Line) (A : Type 0) (P : List ℕ → Type 0) → rest ≡ line_of (word ++ text) true ∷ drop 1 rest → MatchOption (first_behind word rest) A P → P text
said word text rest A P is found = subst (λ o. MatchOption o A P) (ap (first_behind word) is ∙ behind_read word text) found

pub wrong_head : (rest : List Line) → version_at rest ≡ None → TellsOf [] rest (Invalid 1 wrong.Head)
wrong_head rest none no_ends one bytes cut =
    let S = no_node V1 in
    wrong_line no_ends bytes [] rest cut S [] (none_yet S) (texts_of S []) refl 1 wrong.Head refl (in_head (omega arith) refl)
    (λ T K run behind e same.
    let is = starts (line_of (version_text T.nest.version) true) _ rest behind e same in
    let no = sym none ∙ ap version_at is ∙ version_line_read T.nest.version (drop 1 rest) in absurd cc)

pub wrong_graph : (version : Version) (rest : List Line) → IsGraphAt version rest None → TellsOf (version_text version ∷ []) rest (Invalid 2 wrong.Graph)
wrong_graph version rest none no_ends one bytes cut =
    let S = no_node version in
    wrong_line no_ends bytes (version_text version ∷ []) rest cut S [] (none_yet S) (drop 1 (texts_of S [])) refl 2 wrong.Graph refl (in_head (omega arith) refl)
    (λ T K run behind e same.
    let first : line_of (version_text T.nest.version) true ≡ line_of (version_text version) true = cc in
    let more : drop 1 (ended (texts_of T K)) ≡ behind = ap (drop 1) e in
    let is = starts (line_of (codes "graph " ++ graph_text T.nest) true) _ rest behind more same in
    said (codes "graph ") (graph_text T.nest) rest _ (λ text. IsGraphIn version text None) is none T.nest
    (subst (λ v. IsAcceptedGraph v T.nest) (version_told T.nest.version version first) T.accepted_graph) refl)

pub wrong_cover : (N : Nest) → IsAcceptedGraph N.version N → (rest : List Line) → IsCoverAt N rest None
    → TellsOf (version_text N.version ∷ (codes "graph " ++ graph_text N) ∷ []) rest (Invalid 3 wrong.Cover)
wrong_cover N graph rest none no_ends one bytes cut =
    let S = one_owner N graph in
    wrong_line no_ends bytes (version_text N.version ∷ (codes "graph " ++ graph_text N) ∷ []) rest cut S [] (none_yet S) (drop 2 (texts_of S [])) refl 3 wrong.Cover refl (in_head (omega arith) refl)
    (λ T K run behind e same.
    let first : line_of (version_text T.nest.version) true ≡ line_of (version_text N.version) true = cc in
    let second : line_of (codes "graph " ++ graph_text T.nest) true ≡ line_of (codes "graph " ++ graph_text N) true = cc in
    let more : drop 2 (ended (texts_of T K)) ≡ behind = ap (drop 2) e in
    let is = starts (line_of (codes "cover " ++ cover_text (names_in T) T.cover) true) _ rest behind more same in
    let nest = nest_told one T N graph (version_told T.nest.version N.version first) second in
    let Then : Nest → Type 0 = λ M. IsAcceptedCover M T.cover × (cover_text (names_in T) T.cover ≡ cover_text (atom_names M) T.cover) in
    let then : Then N = subst Then nest (T.accepted_cover, refl) in
    said (codes "cover ") (cover_text (names_in T) T.cover) rest _ (λ text. IsCoverIn N text None) is none T.cover then.0 then.1)

pub wrong_opening : (N : Nest) → IsAcceptedGraph N.version N → (C : Owners) → IsAcceptedCover N C → (rest : List Line) → opening_at (atom_names N) rest ≡ None
    → TellsOf (version_text N.version ∷ (codes "graph " ++ graph_text N) ∷ (codes "cover " ++ cover_text (atom_names N) C) ∷ []) rest (Invalid 4 wrong.Opening)
wrong_opening N graph C cover rest none no_ends one bytes cut =
    let S = none_read N graph C cover in
    wrong_line no_ends bytes (version_text N.version ∷ (codes "graph " ++ graph_text N) ∷ (codes "cover " ++ cover_text (atom_names N) C) ∷ []) rest cut S [] (none_yet S)
    (drop 3 (texts_of S [])) refl 4 wrong.Opening refl (in_head (omega arith) refl)
    (λ T K run behind e same.
    let first : line_of (version_text T.nest.version) true ≡ line_of (version_text N.version) true = cc in
    let second : line_of (codes "graph " ++ graph_text T.nest) true ≡ line_of (codes "graph " ++ graph_text N) true = cc in
    let more : drop 3 (ended (texts_of T K)) ≡ behind = ap (drop 3) e in
    let is = starts (line_of (open_text (names_in T) T.opening) true) _ rest behind more same in
    let nest = nest_told one T N graph (version_told T.nest.version N.version first) second in
    let told = opening_read (names_in T) (atoms_named T.nest T.accepted_graph) T.opening (drop 1 rest) (opening_fits T) in
    let no = sym none ∙ ap (opening_at (atom_names N)) is ∙ subst (λ M. opening_at (atom_names M) (line_of (open_text (names_in T) T.opening) true ∷ drop 1 rest) ≡ Some T.opening) nest told in absurd cc)

-- ---- the lines behind those

length_entries : (sites names : List (List ℕ)) (place : ℕ) (J : List Entry) → length (entry_lines sites names place J) ≡ length J
unfolding entry_lines
length_entries sites names place [] = refl
length_entries sites names place (entry ∷ J) = let more = length_entries sites names (place + 1) J in omega arith

pub length_read : (S : Setting) (J : List Entry) → length (read_of S J) ≡ 4 + length J
length_read S J = let entries = length_entries S.cover.names (names_in S) 0 J in omega arith

entries_push : (sites names : List (List ℕ)) (place : ℕ) (J : List Entry) (entry : Entry)
    → entry_lines sites names place (J ++ entry ∷ []) ≡ entry_lines sites names place J ++ entry_text sites names (place + length J) entry ∷ []
unfolding entry_lines
entries_push sites names place [] entry = let at : place ≡ place + 0 = omega arith in ap (λ n. entry_text sites names n entry ∷ []) at
entries_push sites names place (x ∷ J) entry =
    let at : place + 1 + length J ≡ place + length (x ∷ J) = omega arith in
    ap (λ (l : List (List ℕ)). entry_text sites names place x ∷ l) (entries_push sites names (place + 1) J entry
    ∙ ap (λ n. entry_lines sites names (place + 1) J ++ entry_text sites names n entry ∷ []) at)

-- the entries that were read, and one more
entries_next : (S : Setting) (J : List Entry) (entry : Entry)
    → entry_lines S.cover.names (names_in S) 0 (J ++ entry ∷ []) ≡ entry_lines S.cover.names (names_in S) 0 J ++ text_next S J entry ∷ []
entries_next S J entry =
    let at : 0 + length J ≡ length J = omega arith in
    entries_push S.cover.names (names_in S) 0 J entry ∙ ap (λ n. entry_lines S.cover.names (names_in S) 0 J ++ entry_text S.cover.names (names_in S) n entry ∷ []) at

pub read_next : (S : Setting) (J : List Entry) (entry : Entry) → read_of S (J ++ entry ∷ []) ≡ read_of S J ++ text_next S J entry ∷ []
read_next S J entry = ap (λ (l : List (List ℕ)). head_of S ++ l) (entries_next S J entry)

-- one line more, of lines that had these texts and go on
pub line_more : (texts : List (List ℕ)) (text : List ℕ) (all rest : List Line) → all ≡ ended texts ++ line_of text true ∷ rest → all ≡ ended (texts ++ text ∷ []) ++ rest
line_more texts text all rest e = e ∙ sym (append_assoc (ended texts) (line_of text true ∷ []) rest) ∙ ap (λ (l : List Line). l ++ rest) (sym (ended_append texts (text ∷ [])))

pub entry_more : (S : Setting) (J : List Entry) (entry : Entry) (all rest : List Line) → all ≡ ended (entry_lines S.cover.names (names_in S) 0 J) ++ line_of (text_next S J entry) true ∷ rest
    → all ≡ ended (entry_lines S.cover.names (names_in S) 0 (J ++ entry ∷ [])) ++ rest
entry_more S J entry all rest e =
    line_more (entry_lines S.cover.names (names_in S) 0 J) (text_next S J entry) all rest e ∙ ap (λ (l : List (List ℕ)). ended l ++ rest) (sym (entries_next S J entry))

pub first_none : (lines : List Line) → slice_get lines 0 ≡ None → first_is_digit lines ≡ false
first_none [] is = refl
first_none (line ∷ lines) is = absurd cc

-- what a text is told where its next line is right
pub tells_on : (texts : List (List ℕ)) (text : List ℕ) (rest : List Line) (verdict : Verdict) → rest ≡ line_of text true ∷ drop 1 rest → TellsOf (texts ++ text ∷ []) (drop 1 rest) verdict → TellsOf texts rest verdict
tells_on texts text rest verdict is then no_ends one bytes cut = then no_ends one bytes (line_more texts text (lines_of bytes) (drop 1 rest) (cut ∙ ap (λ (l : List Line). ended texts ++ l) is))

-- ---- entries

-- a front without a digit, and a digit in the first line: the front is empty
first_digit : (i : ℕ) (texts : List (List ℕ)) (behind : List Line) → i ≤ length texts → first_is_digit (ended texts) ≡ false → first_is_digit (ended (take i texts) ++ behind) ≡ true
    → (i ≡ 0) × (first_is_digit behind ≡ true)
first_digit zero texts behind few none e = (refl, e)
first_digit (suc i) [] behind few none e = absurd (omega (arith, few))
first_digit (suc i) (text ∷ texts) behind few none e = absurd (false≢true (sym none ∙ e))

-- a line that begins with a digit and tells no next entry with its answer
pub wrong_next : HaveNoLineEnd → MeanOne → (S : Setting) (J : List Entry) → IsRun S J → (bytes : List ℕ) (line : Line) (rest : List Line) → lines_of bytes ≡ ended (read_of S J) ++ line ∷ rest
    → begins_with_digit line.text ≡ true → (number : ℕ) (kind : Wrong) → number ≡ 5 + length J → IsWrongNext S J line kind → IsVerdict bytes (Invalid number kind)
unfolding entry_lines
wrong_next no_ends one S J run bytes line rest cut digit number kind is bad =
    wrong_line no_ends bytes (read_of S J) (line ∷ rest) cut S J run (behind_of S J) refl number kind (omega (arith, is, length_read S J))
    (behind_head S J 0 (line ∷ rest)
    (record { legal = run; within = omega arith; cut = cut ∙ ap (λ (l : List (List ℕ)). ended l ++ line ∷ rest) (sym (append-nil (read_of S J))) })
    (omega arith) (of_entry refl line refl digit bad))
    (λ T K run_k behind e same. let on = follows one S T J K behind run run_k e in by_more on.more behind on.run on.cut same)
  where
    by_kind : (kind : Wrong) → IsWrongNext S J line kind → (k : Entry) → MayCome S J k → IsAnswered S J k → line ≡ line_of (text_next S J k) true → ⊥
    by_kind wrong.Entry never k may answered is = never k (may, is)
    by_kind wrong.Outcome found k may answered is = found.2 (subst (IsAnswered S J) (same_next S J k found.0 may found.1.0 (sym is ∙ found.1.1)) answered)
    by_kind _ never k may answered is = never

    by_more : (more : List Entry) (behind : List Line) → IsRun S (J ++ more) → lines_after S J more ≡ behind → Some line ≡ slice_get behind 0 → ⊥
    by_more [] behind run_more e same =
        false≢true (sym (behind_bare S (J ++ [])) ∙ ap first_is_digit (e ∙ first_cut behind line (sym same)) ∙ digit)
    by_more (k ∷ more) behind run_more e same =
        let next = run_next S J k more run_more in
        by_kind kind bad k next.0 next.1 (same_Some _ _ (same ∙ ap (λ (l : List Line). slice_get l 0) (sym e)))

-- ---- the lines behind the entries

-- the line behind so many of the lines behind the entries isn't the next of them
pub wrong_end : HaveNoLineEnd → MeanOne → (S : Setting) (J : List Entry) (i : ℕ) (bytes : List ℕ) (rest : List Line) → IsReadTo bytes S J i rest → (i ≡ 0 → first_is_digit rest ≡ false)
    → (number : ℕ) (kind : Wrong) → number ≡ 5 + length J + i → kind ≡ get_or (end_kinds (length S.cover.names)) i wrong.Extra → (slice_get rest 0 ≡ slice_get (ended (drop i (behind_of S J))) 0 → ⊥)
    → IsVerdict bytes (Invalid number kind)
unfolding entry_lines
wrong_end no_ends one S J i bytes rest read bare number kind is kind_so other =
    wrong_line no_ends bytes (read_of S J ++ (take i (behind_of S J))) rest read.cut S J read.legal (drop i (behind_of S J)) all number kind (omega (arith, is, long))
    (behind_head S J i rest read is (of_end bare kind_so))
    (λ T K run_k behind e same.
    let on = follows one S T J K (ended (take i (behind_of S J)) ++ behind) read.legal run_k
    (e ∙ ap (λ (l : List Line). l ++ behind) (ended_append (read_of S J) (take i (behind_of S J))) ∙ append_assoc (ended (read_of S J)) (ended (take i (behind_of S J))) behind) in
    by_more on.more behind on.run on.cut same)
  where
    all : texts_of S J ≡ (read_of S J ++ (take i (behind_of S J))) ++ drop i (behind_of S J)
    all = ap (λ (l : List (List ℕ)). read_of S J ++ l) (sym (take-append-drop i (behind_of S J))) ∙ sym (append_assoc (read_of S J) (take i (behind_of S J)) (drop i (behind_of S J)))

    long : length (read_of S J ++ (take i (behind_of S J))) ≡ 4 + length J + i
    long = length-append (read_of S J) (take i (behind_of S J)) ∙ (let heads = length_read S J in let few = length-take-le i (behind_of S J) read.within in omega arith)

    by_more : (more : List Entry) (behind : List Line) → IsRun S (J ++ more) → lines_after S J more ≡ ended (take i (behind_of S J)) ++ behind → slice_get rest 0 ≡ slice_get behind 0 → ⊥
    by_more [] behind run_more e same =
        let left : ended (drop i (behind_of S J)) ≡ behind =
        append_cancel_left (ended (take i (behind_of S J))) (ended (drop i (behind_of S J))) behind
        (sym (ended_append (take i (behind_of S J)) (drop i (behind_of S J))) ∙ ap ended (take-append-drop i (behind_of S J)) ∙ ap (λ (l : List Entry). ended (behind_of S l)) (sym (append-nil J)) ∙ e) in
        other (same ∙ ap (λ (l : List Line). slice_get l 0) (sym left))
    by_more (k ∷ more) behind run_more e same =
        let digit = entry_begins S J k (run_next S J k more run_more).0.few in
        let none = first_digit i (behind_of S J) behind read.within (behind_bare S J) (sym (ap first_is_digit e) ∙ digit) in
        false≢true (sym (bare none.0) ∙ ap (λ (o : Option Line). option_map_or (λ (line : Line). begins_with_digit line.text) o false) same ∙ none.1)
