-- The entry that comes next, a history with one entry more, and a report that begins with the lines of a head and of entries.
use Rattle.std.proofs.Common.{◌≡◌, inl, inr, ℕ, zero, suc, ◌+◌, ◌<◌, ◌≤◌, true, false, eqb, List, [], ◌∷◌, ◌++◌, codes, decimal, drop, length, take, get_or, slice_get, Option, Some, None, refl, sym, ap, subst, ◌∙◌, arith}
use Rattle.std.proofs.lemmas.Bool.{and_from, false≢true, le-leb}
use Rattle.std.proofs.lemmas.Fmt.{decimal_is_IsNumeral, decimal_nonempty}
use Rattle.std.proofs.lemmas.List.{append-nil, append_assoc, get_or_at, length-append, length-map, length_push, take_at}
use Rattle.std.proofs.lemmas.List.Elements.{All-push}
use Rattle.std.proofs.lemmas.List.Sums.{count_by-le-length}
use Rattle.std.proofs.lemmas.Option.{same_Some, slice_get-get_or}
use Rattle.std.proofs.lemmas.Str.Parse.{digit_at}
use Rattle.dcr_graph.specs.Cause.{waits}
use Rattle.dcr_graph.specs.Names.{is_name}
use Rattle.dcr_graph.specs.Projection.{FitsAtoms}
use Rattle.dcr_graph.specs.declared.marking.Marking.{Marking}
use Rattle.dcr_graph.specs.declared.marking.SiteMark.{SiteMark}
use Rattle.dcr_nest.specs.FlatRelation.{flat_relation}
use Rattle.dcr_nest.specs.Nest.{Nest, names_of, parents_of}
use Rattle.dcr_nest.specs.declared.node.Node.{Node}
use Rattle.dcr_nest.specs.declared.node.Version.{Version}
use Rattle.dcr_nest.specs.declared.node.Version.TheVariants.{V1, V2}
use Rattle.dcr_nest.proofs.FlatLemmas.{all_atoms, distinct_atoms, length-of_atoms}
use Rattle.dcr_proj.specs.CoverValue.{Owners}
use Rattle.dcr_journal.specs.Answer.{answer}
use Rattle.dcr_journal.specs.Run.{HasNoFault, IsInRange, IsLegal, IsSound, after, made_by, marks_at}
use Rattle.dcr_journal.specs.declared.call.Entry.{Entry}
use Rattle.dcr_journal.proofs.SoundLemmas.{answer_no_fault, legal_fault, sound_more}
use Rattle.dcr_line.specs.EntryLine.{IsToldEntry}
use Rattle.dcr_line.specs.Fits.{FitsEntry}
use Rattle.dcr_line.specs.Known.{AreNames}
use Rattle.dcr_line.specs.Line.{call_words, outcome_words, spaced}
use Rattle.dcr_line.proofs.EntryLemmas.{entry_texts}
use Rattle.dcr_cover_json.specs.Text.{cover_text}
use Rattle.dcr_graph_json.specs.Text.{graph_text}
use Rattle.dcr_cover_json.specs.Accepted.{IsAcceptedCover}
use Rattle.dcr_graph_json.specs.Accepted.{IsAcceptedGraph}
use Rattle.dcr_graph_json.specs.Build.{atom_names}
use Rattle.dcr_replay.specs.Canonical.{MeanOne}
use Rattle.dcr_report.specs.Report.{end_lines, entry_lines, site_lines, version_text}
use Rattle.dcr_report.proofs.LegalLemmas.{legal_entry}
use Rattle.dcr_text.specs.Lines.{Line, line_of}
use Rattle.dcr_replay.specs.EntryLines.{IsAnswered, IsRun, MayCome, Setting, begins_with_digit, first_is_digit, last_of, names_in, rules_in, text_next}
use Rattle.dcr_replay.specs.HeadLines.{opening_at}
use Rattle.dcr_replay.specs.ReportLines.{behind_of, ended, read_of, texts_of}
use Rattle.dcr_replay.proofs.HeadLemmas.{open_text, opening_read}

-- ---- names and numbers

pub atoms_named : (N : Nest) → IsAcceptedGraph N.version N → AreNames (atom_names N)
atoms_named N ok =
    let parents = parents_of N.nodes in let texts = names_of N.nodes in
    let many : length parents ≡ length texts = length-map N.nodes (λ (node : Node). node.parent) ∙ sym (length-map N.nodes (λ (node : Node). node.name)) in
    record {
      names = all_atoms (λ name. is_name name ≡ true) parents texts many ok.names;
      distinct = distinct_atoms parents texts many ok.nested.distinct;
    }

pub sites_named : (S : Setting) → AreNames S.cover.names
sites_named S = record { names = S.accepted_cover.names; distinct = S.accepted_cover.is_cover.distinct }

pub many_atoms : (N : Nest) → length (atom_names N) ≡ (flat_relation N).atoms
many_atoms N = length-of_atoms (parents_of N.nodes) (names_of N.nodes)

-- ---- an entry that comes next

pub get_here : (J : List Entry) (entry : Entry) (K : List Entry) → slice_get (J ++ entry ∷ K) (length J) ≡ Some entry
get_here [] entry K = refl
get_here (x ∷ J) entry K = get_here J entry K

get_front : (J K : List Entry) (place : ℕ) → place < length J → slice_get (J ++ K) place ≡ slice_get J place
get_front [] K place within = absurd (omega (arith, within))
get_front (x ∷ J) K zero within = refl
get_front (x ∷ J) K (suc place) within = get_front J K place (omega (arith, within))

-- such an entry has a line, since its numbers have 32 bits
pub may_told : (S : Setting) (J : List Entry) (entry : Entry) → MayCome S J entry → IsToldEntry (length S.cover.names) (length (names_in S)) (length J) entry
may_told S J entry may =
    let few = may.few in let session = may.session in let seq = may.seq in
    let made = count_by-le-length (λ (e : Entry). eqb e.session entry.session) J in
    record { place = omega arith; session = omega arith; seq = omega arith; fits = may.fits }

-- one text is that of one entry that may come next
pub same_next : (S : Setting) (J : List Entry) (a b : Entry) → MayCome S J a → MayCome S J b → line_of (text_next S J a) true ≡ line_of (text_next S J b) true → a ≡ b
same_next S J a b may also same =
    (entry_texts S.cover.names (names_in S) (sites_named S) (atoms_named S.nest S.accepted_graph) (length J) (length J) a b (may_told S J a may) (may_told S J b also)
    (ap (λ (l : Line). l.text) same)).1

-- the entries before another one of a legal history are no faults
sound_before : (S : Setting) (J K : List Entry) → 0 < length K → IsRun S (J ++ K) → HasNoFault J
sound_before S J K some run = λ k d within fault.
    let e = get_or J k d in
    let at = run.legal k e (get_front J K k within ∙ slice_get-get_or J k d within) in
    elim at.outcome [
      | inl told ↦ answer_no_fault (rules_in S) S.cover.owned (after (rules_in S) S.opening (take k (J ++ K))) e.call (sym told ∙ fault)
      | inr last ↦ let end = last.last in omega (arith, length-append J K)
    ]

-- an entry of a legal history comes next after those before it
pub run_next : (S : Setting) (J : List Entry) (entry : Entry) (K : List Entry) → IsRun S (J ++ entry ∷ K) → MayCome S J entry × IsAnswered S J entry
run_next S J entry K run =
    let G = rules_in S in let C = S.cover.owned in let M = S.opening in
    let all = J ++ entry ∷ K in
    let most = run.most in
    let within : length J < length all = omega (arith, length-append J (entry ∷ K)) in
    let at = run.legal (length J) entry (get_here J entry K) in
    let same : take (length J) all ≡ J = take_at J (entry ∷ K) (length J) refl in
    let fits = legal_entry G C M all (length J) entry at in (
      record {
        few = omega arith;
        sound = sound_before S J (entry ∷ K) (omega arith) run;
        session = subst (λ (e : Entry). e.session < 1024) (get_or_at J entry K entry (length J) refl) (run.sessions (length J) entry within);
        seq = at.seq ∙ ap (made_by entry.session) same;
        fits = subst (λ n. FitsEntry n (length (names_in S)) entry) S.accepted_cover.is_cover.as_many (subst (λ n. FitsEntry (length C) n entry) (sym (many_atoms S.nest)) fits);
      },
      elim at.outcome [
        | inl told ↦ inl (told ∙ ap (λ (j : List Entry). answer G C (after G M j) entry.call) same)
        | inr fault ↦ inr (fault.outcome, sym (ap (λ (j : List Entry). answer G C (after G M j) entry.call) same) ∙ fault.possible)
      ],
    )

-- and a legal history goes on by such an entry
pub run_more : (S : Setting) (J : List Entry) (entry : Entry) → IsRun S J → MayCome S J entry → IsAnswered S J entry → IsRun S (J ++ entry ∷ [])
run_more S J entry run may answered =
    let G = rules_in S in let C = S.cover.owned in let M = S.opening in
    let sound : IsSound G C M J = record { legal = run.legal; no_fault = may.sound } in
    let call : IsInRange (length C) G.atoms entry.call =
    subst (λ n. IsInRange n G.atoms entry.call) (sym S.accepted_cover.is_cover.as_many) (subst (λ n. IsInRange (length S.cover.names) n entry.call) (many_atoms S.nest) may.fits.call) in
    let few = may.few in record {
      legal = elim answered [
        | inl told ↦ (sound_more G C M J sound entry call may.seq told).legal
        | inr fault ↦ legal_fault G C M J sound entry call may.seq fault.1 fault.0
      ];
      most = omega (arith, length_push J entry);
      sessions = All-push (λ (e : Entry). e.session < 1024) J entry run.sessions may.session;
    }

-- ---- which lines begin with a digit

begins : (text rest : List ℕ) → 0 < length text → (48 ≤ get_or text 0 0) × (get_or text 0 0 ≤ 57) → begins_with_digit (text ++ rest) ≡ true
begins [] rest some digit = absurd (omega (arith, some))
begins (b ∷ bs) rest some digit = and_from _ _ (le-leb 48 b digit.0) (le-leb b 57 digit.1)

-- those of entries
pub entry_begins : (S : Setting) (J : List Entry) (entry : Entry) → length J < 200000 → begins_with_digit (text_next S J entry) ≡ true
entry_begins S J entry few =
    let place = length J in
    begins (decimal place) (32 ∷ spaced (decimal entry.session ∷ decimal entry.seq ∷ (call_words S.cover.names (names_in S) entry.call ++ outcome_words (names_in S) entry.outcome)))
    (decimal_nonempty place (omega arith)) (digit_at (decimal place) 0 (decimal_is_IsNumeral place (omega arith)).0.1 (decimal_nonempty place (omega arith)))

ends_bare : (names sites : List (List ℕ)) (marks : List SiteMark) (waited : Option ℕ) (n : ℕ) → first_is_digit (ended (site_lines names sites marks ++ end_lines names waited n)) ≡ false
unfolding site_lines
ends_bare names [] marks None n = refl
ends_bare names [] marks (Some e) n = refl
ends_bare names (site ∷ sites) [] None n = refl
ends_bare names (site ∷ sites) [] (Some e) n = refl
ends_bare names (site ∷ sites) (mark ∷ marks) waited n = refl

-- but none of those behind the entries
pub behind_bare : (S : Setting) (J : List Entry) → first_is_digit (ended (behind_of S J)) ≡ false
behind_bare S J =
    ends_bare (names_in S) S.cover.names (marks_at (rules_in S) S.cover.owned (last_of S J)) (waits (rules_in S).atoms (last_of S J)) (length J)

-- ---- a report that begins so

-- the lines of the entries K after J, and those behind them
abbrev pub lines_after : Setting → List Entry → List Entry → List Line
lines_after S J K = ended (entry_lines S.cover.names (names_in S) (length J) K ++ behind_of S (J ++ K))

-- a list of entries goes on from Q, and so do its lines
record GoesOn (S : Setting) (P Q K : List Entry) (X : List Line) : Type 0 where
  more : List Entry
  history : K ≡ Q ++ more
  cut : lines_after S (P ++ Q) more ≡ X

same_entries : (S : Setting) (P Q K : List Entry) (X : List Line) → IsRun S (P ++ Q) → IsRun S (P ++ K)
    → lines_after S P K ≡ ended (entry_lines S.cover.names (names_in S) (length P) Q) ++ X → GoesOn S P Q K X
unfolding entry_lines
same_entries S P [] K X run also e = record { more = K; history = refl; cut = subst (λ (p : List Entry). lines_after S p K ≡ X) (sym (append-nil P)) e }
same_entries S P (q ∷ Q) [] X run also e =
    absurd (false≢true (sym (behind_bare S (P ++ [])) ∙ ap first_is_digit e ∙ entry_begins S P q (run_next S P q Q run).0.few))
same_entries S P (q ∷ Q) (k ∷ K) X run also e =
    let both : line_of (text_next S P k) true ∷ ended (entry_lines S.cover.names (names_in S) (length P + 1) K ++ behind_of S (P ++ k ∷ K))
    ≡ line_of (text_next S P q) true ∷ (ended (entry_lines S.cover.names (names_in S) (length P + 1) Q) ++ X) = e in
    let here : line_of (text_next S P k) true ≡ line_of (text_next S P q) true = cc in
    let rest : ended (entry_lines S.cover.names (names_in S) (length P + 1) K ++ behind_of S (P ++ k ∷ K)) ≡ ended (entry_lines S.cover.names (names_in S) (length P + 1) Q) ++ X = cc in
    let same : k ≡ q = same_next S P k q (run_next S P k K also).0 (run_next S P q Q run).0 here in
    let at : (L : List Entry) → P ++ q ∷ L ≡ (P ++ q ∷ []) ++ L = λ L. sym (append_assoc P (q ∷ []) L) in
    let Then : Entry → Type 0 = λ x. IsRun S (P ++ x ∷ K)
    × (ended (entry_lines S.cover.names (names_in S) (length P + 1) K ++ behind_of S (P ++ x ∷ K)) ≡ ended (entry_lines S.cover.names (names_in S) (length P + 1) Q) ++ X) in
    let then : Then q = subst Then same (also, rest) in
    let lines = subst (λ (p : List Entry). ended (entry_lines S.cover.names (names_in S) (length P + 1) K ++ behind_of S p) ≡ ended (entry_lines S.cover.names (names_in S) (length P + 1) Q) ++ X) (at K) then.1 in
    let on = same_entries S (P ++ q ∷ []) Q K X (subst (IsRun S) (at Q) run) (subst (IsRun S) (at K) then.0)
    (subst (λ n. ended (entry_lines S.cover.names (names_in S) n K ++ behind_of S ((P ++ q ∷ []) ++ K)) ≡ ended (entry_lines S.cover.names (names_in S) n Q) ++ X) (sym (length_push P q)) lines) in
    record {
      more = on.more;
      history = ap (λ (x : Entry). x ∷ K) same ∙ ap (λ (L : List Entry). q ∷ L) on.history;
      cut = subst (λ (p : List Entry). lines_after S p on.more ≡ X) (sym (at Q)) on.cut;
    }

-- ---- what the lines of a head tell

version_is : (v w : Version) → version_text v ≡ version_text w → v ≡ w
version_is V1 V1 e = refl
version_is V1 V2 e = let no : 49 ≡ 50 = ap (λ (text : List ℕ). get_or text 4 0) e in absurd (omega (arith, no))
version_is V2 V1 e = let no : 50 ≡ 49 = ap (λ (text : List ℕ). get_or text 4 0) e in absurd (omega (arith, no))
version_is V2 V2 e = refl

line_is : (s t : List ℕ) → line_of s true ≡ line_of t true → s ≡ t
line_is s t e = ap (λ (l : Line). l.text) e

pub version_told : (v w : Version) → line_of (version_text v) true ≡ line_of (version_text w) true → v ≡ w
version_told v w e = version_is v w (line_is (version_text v) (version_text w) e)

module _ (one : MeanOne) (T : Setting) (N : Nest) where
  pub nest_told : IsAcceptedGraph N.version N → T.nest.version ≡ N.version → line_of (codes "graph " ++ graph_text T.nest) true ≡ line_of (codes "graph " ++ graph_text N) true → T.nest ≡ N
  nest_told ok version e =
      one.graph N.version T.nest N (subst (λ v. IsAcceptedGraph v T.nest) version T.accepted_graph) ok (ap (drop 6) (line_is (codes "graph " ++ graph_text T.nest) (codes "graph " ++ graph_text N) e))

  pub cover_told : IsAcceptedGraph N.version N → (C : Owners) → IsAcceptedCover N C → T.nest ≡ N → line_of (codes "cover " ++ cover_text (names_in T) T.cover) true ≡ line_of (codes "cover " ++ cover_text (atom_names N) C) true → T.cover ≡ C
  cover_told ok C cover same e =
      let Then : Nest → Type 0 = λ M. IsAcceptedCover M T.cover × (cover_text (atom_names M) T.cover ≡ cover_text (atom_names N) C) in
      let then : Then N = subst Then same (T.accepted_cover, ap (drop 6) (line_is (codes "cover " ++ cover_text (names_in T) T.cover) (codes "cover " ++ cover_text (atom_names N) C) e)) in
      one.cover N ok.nested T.cover C then.0 cover then.1

-- a setting's marking has a place for each name
pub opening_fits : (S : Setting) → FitsAtoms (length (names_in S)) S.opening.executed S.opening.pending S.opening.included
opening_fits S = let many = sym (many_atoms S.nest) in record { executed = S.room.executed ∙ many; pending = S.room.pending ∙ many; included = S.room.included ∙ many }

pub marking_told : (T S : Setting) → T.nest ≡ S.nest → line_of (open_text (names_in T) T.opening) true ≡ line_of (open_text (names_in S) S.opening) true → T.opening ≡ S.opening
marking_told T S same e =
    let names = ap atom_names same in
    same_Some _ _ (sym (opening_read (names_in T) (atoms_named T.nest T.accepted_graph) T.opening [] (opening_fits T))
    ∙ ap (λ l. opening_at (names_in T) (l ∷ [])) e ∙ ap (λ n. opening_at n (line_of (open_text (names_in S) S.opening) true ∷ [])) names
    ∙ opening_read (names_in S) (atoms_named S.nest S.accepted_graph) S.opening [] (opening_fits S))

-- the report of K over T is over what S is, and its entries go on from J
pub record Follows (S T : Setting) (J K : List Entry) (X : List Line) : Type 0 where
  pub nest : T.nest ≡ S.nest
  pub cover : T.cover ≡ S.cover
  pub more : List Entry
  pub history : K ≡ J ++ more
  pub run : IsRun S (J ++ more)
  pub cut : lines_after S J more ≡ X

pub follows : MeanOne → (S T : Setting) (J K : List Entry) (X : List Line) → IsRun S J → IsRun T K → ended (texts_of T K) ≡ ended (read_of S J) ++ X → Follows S T J K X
follows one S T J K X run also e =
    let head : List Line = ended (entry_lines S.cover.names (names_in S) 0 J) ++ X in
    let all : line_of (version_text T.nest.version) true ∷ line_of (codes "graph " ++ graph_text T.nest) true ∷ line_of (codes "cover " ++ cover_text (names_in T) T.cover) true
    ∷ line_of (open_text (names_in T) T.opening) true ∷ lines_after T [] K
    ≡ line_of (version_text S.nest.version) true ∷ line_of (codes "graph " ++ graph_text S.nest) true ∷ line_of (codes "cover " ++ cover_text (names_in S) S.cover) true
    ∷ line_of (open_text (names_in S) S.opening) true ∷ head = e in
    let first : line_of (version_text T.nest.version) true ≡ line_of (version_text S.nest.version) true = cc in
    let second : line_of (codes "graph " ++ graph_text T.nest) true ≡ line_of (codes "graph " ++ graph_text S.nest) true = cc in
    let third : line_of (codes "cover " ++ cover_text (names_in T) T.cover) true ≡ line_of (codes "cover " ++ cover_text (names_in S) S.cover) true = cc in
    let fourth : line_of (open_text (names_in T) T.opening) true ≡ line_of (open_text (names_in S) S.opening) true = cc in
    let rest : lines_after T [] K ≡ head = cc in
    let nest = nest_told one T S.nest S.accepted_graph (version_told T.nest.version S.nest.version first) second in
    let cover = cover_told one T S.nest S.accepted_graph S.cover S.accepted_cover nest third in
    let opening = marking_told T S nest fourth in
    let Then : Nest → Owners → Marking → Type 0 = λ N C M. IsLegal (flat_relation N) C.owned M K
    × (ended (entry_lines C.names (atom_names N) 0 K ++ (site_lines (atom_names N) C.names (marks_at (flat_relation N) C.owned (after (flat_relation N) M K))
    ++ end_lines (atom_names N) (waits (flat_relation N).atoms (after (flat_relation N) M K)) (length K))) ≡ head) in
    let then : Then S.nest S.cover S.opening =
    subst (λ N. Then N S.cover S.opening) nest (subst (λ C. Then T.nest C S.opening) cover (subst (λ M. Then T.nest T.cover M) opening (also.legal, rest))) in
    let same : IsRun S K = record { legal = then.0; most = also.most; sessions = also.sessions } in
    let on = same_entries S [] J K X run same then.1 in
    record { nest = nest; cover = cover; more = on.more; history = on.history; run = subst (IsRun S) on.history same; cut = on.cut }
