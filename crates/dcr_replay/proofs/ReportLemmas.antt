-- Reports by their lines, and the line behind a front that is the first wrong one.
use Rattle.std.proofs.Common.{◌≡◌, ℕ, zero, suc, ◌+◌, ◌≤◌, true, eqb, List, [], ◌∷◌, ◌++◌, codes, drop, get_or, length, slice_get, take, Some, refl, sym, ap, subst, ◌∙◌, arith}
use Rattle.std.specs.List.{All, list_all}
use Rattle.std.proofs.lemmas.Bool.{and_from}
use Rattle.std.proofs.lemmas.List.{drop_at, length-append, length-map, length-take, take-append-drop, take-take, take_at}
use Rattle.std.proofs.lemmas.List.Sums.{count_by-le-length}
use Rattle.std.proofs.lemmas.Option.{slice_get-get_or}
use Rattle.dcr_graph.specs.Cause.{waits}
use Rattle.dcr_nest.specs.declared.node.Version.{Version}
use Rattle.dcr_nest.specs.declared.node.Version.TheVariants.{V1, V2}
use Rattle.dcr_journal.specs.Run.{marks_at}
use Rattle.dcr_journal.specs.declared.call.Entry.{Entry}
use Rattle.dcr_line.specs.Line.{mark_text}
use Rattle.dcr_line.proofs.PiecesLemmas.{lacks}
use Rattle.dcr_cover_json.specs.Text.{cover_text}
use Rattle.dcr_graph_json.specs.Text.{graph_text}
use Rattle.dcr_replay.specs.Canonical.{HaveNoLineEnd}
use Rattle.dcr_report.specs.Report.{end_lines, entry_lines, report_text, site_lines, version_text}
use Rattle.dcr_text.specs.Lines.{Line, lines_of}
use Rattle.dcr_replay.specs.EntryLines.{IsRun, Setting, last_of, names_in, rules_in}
use Rattle.dcr_replay.specs.FirstWrong.{IsExpected, IsVerdict}
use Rattle.dcr_replay.specs.Laws.{IsReport}
use Rattle.dcr_replay.specs.ReportLines.{behind_of, ended, head_of, read_of, texts_of}
use Rattle.dcr_replay.specs.declared.verdict.Verdict.TheVariants.{Valid, Invalid}
use Rattle.dcr_replay.specs.declared.verdict.Wrong.{Wrong}
use Rattle.dcr_replay.proofs.CutLemmas.{ended_append, lines_back, lines_cut}
use Rattle.dcr_replay.proofs.NextLemmas.{atoms_named}
use Rattle.dcr_replay.proofs.OneLineLemmas.{IsSmall, both, each, end_parts, entry_parts, mark_part, one_line, site_parts}

-- ---- the lines of a report

version_part : (version : Version) → lacks 10 (version_text version) ≡ true
version_part V1 = refl
version_part V2 = refl

module _ (no_ends : HaveNoLineEnd) (S : Setting) (J : List Entry) (run : IsRun S J) where
  -- the numbers of the entries have 32 bits
  small : All IsSmall J
  small k d within =
      let entry = get_or J k d in
      let at = run.legal k entry (slice_get-get_or J k d within) in
      let seq = at.seq in
      let most = run.most in
      let session = run.sessions k d within in
      let made = count_by-le-length (λ (e : Entry). eqb e.session entry.session) (take k J) in
      record { session = omega arith; seq = omega (arith, length-take k J) }

  -- no line has a line end in it
  texts_lack : list_all (lacks 10) (texts_of S J) ≡ true
  texts_lack =
      let names = names_in S in let C = S.cover in let M = S.opening in
      let are = (atoms_named S.nest S.accepted_graph).names in
      let few = run.most in
      let marks = marks_at (rules_in S) C.owned (last_of S J) in
      let waited = waits (rules_in S).atoms (last_of S J) in
      let entries = entry_lines C.names names 0 J in
      each (read_of S J) (behind_of S J)
      (each (head_of S) entries
      (and_from _ _ (version_part S.nest.version)
      (and_from _ _ (both (codes "graph ") (graph_text S.nest) refl (one_line (graph_text S.nest) (no_ends.graph S.nest)))
      (and_from _ _ (both (codes "cover ") (cover_text names C) refl (one_line (cover_text names C) (no_ends.cover names C)))
      (and_from _ _ (both (codes "open ") (mark_text names M.executed M.pending M.included) refl (mark_part names are M.executed M.pending M.included)) refl))))
      (entry_parts C.names names S.accepted_cover.names are 0 J (omega arith) small))
      (each (site_lines names C.names marks) (end_lines names waited (length J)) (site_parts names are C.names marks S.accepted_cover.names)
      (end_parts names are waited (length J) (omega arith)))

pub cut_of : HaveNoLineEnd → (S : Setting) (J : List Entry) → IsRun S J → lines_of (report_text S.nest S.cover S.opening J) ≡ ended (texts_of S J)
unfolding report_text
cut_of no_ends S J run = lines_cut (texts_of S J) (texts_lack no_ends S J run)

pub report_cut : HaveNoLineEnd → (bytes : List ℕ) (count : ℕ) → (report : IsReport bytes count) → lines_of bytes ≡ ended (texts_of report.setting report.history)
report_cut no_ends bytes count report = ap lines_of report.text ∙ cut_of no_ends report.setting report.history report.run

-- a text of these lines is the report
pub valid_told : (bytes : List ℕ) (S : Setting) (J : List Entry) → IsRun S J → lines_of bytes ≡ ended (texts_of S J) → IsVerdict bytes (Valid (length J))
unfolding report_text
valid_told bytes S J run cut = record { setting = S; history = J; run = run; text = lines_back bytes (texts_of S J) cut; counted = refl }

-- ---- a text that begins so

take_fewer : (n m : ℕ) (xs ys : List Line) → n ≤ m → take m xs ≡ take m ys → take n xs ≡ take n ys
take_fewer n m xs ys fewer same = sym (take-take n m xs fewer) ∙ ap (take n) same ∙ take-take n m ys fewer

-- the line behind so many
next_same : (n : ℕ) (xs ys : List Line) → take (suc n) xs ≡ take (suc n) ys → slice_get (drop n xs) 0 ≡ slice_get (drop n ys) 0
next_same zero [] [] e = refl
next_same zero [] (y ∷ ys) e = absurd cc
next_same zero (x ∷ xs) [] e = absurd cc
next_same zero (x ∷ xs) (y ∷ ys) e = let first : x ≡ y = cc in ap Some first
next_same (suc n) [] [] e = refl
next_same (suc n) [] (y ∷ ys) e = absurd cc
next_same (suc n) (x ∷ xs) [] e = absurd cc
next_same (suc n) (x ∷ xs) (y ∷ ys) e = let more : take (suc n) xs ≡ take (suc n) ys = cc in next_same n xs ys more

-- The line behind a front is the first wrong one, where the report of J over S has these lines too, and no report that has them goes
-- on as the text does.
pub wrong_line : HaveNoLineEnd → (bytes : List ℕ) (front : List (List ℕ)) (rest : List Line) → lines_of bytes ≡ ended front ++ rest
    → (S : Setting) (J : List Entry) → IsRun S J → (more : List (List ℕ)) → texts_of S J ≡ front ++ more → (line : ℕ) (kind : Wrong) → line ≡ length front + 1 → IsExpected bytes line kind
    → ((T : Setting) (K : List Entry) → IsRun T K → (behind : List Line) → ended (texts_of T K) ≡ ended front ++ behind → slice_get rest 0 ≡ slice_get behind 0 → ⊥)
    → IsVerdict bytes (Invalid line kind)
wrong_line no_ends bytes front rest cut S J run more texts line kind number expected never =
    let n = length front in
    let report = report_text S.nest S.cover S.opening J in
    let long : length (ended front) ≡ n = length-map front _ in
    let all : length (lines_of bytes) ≡ n + length rest = ap (λ (l : List Line). length l) cut ∙ length-append (ended front) rest ∙ ap (λ k. k + length rest) long in
    let same : take n (lines_of report) ≡ take n (lines_of bytes) =
    ap (take n) (cut_of no_ends S J run ∙ ap ended texts ∙ ended_append front more) ∙ take_at (ended front) (ended more) n long ∙ sym (take_at (ended front) rest n long) ∙ ap (take n) (sym cut) in
    let at : line ≡ suc n = omega arith in record {
      least = record {
        positive = omega arith;
        before = λ lines fewer. record {
          report = report;
          count = length J;
          is_report = record { setting = S; history = J; run = run; text = refl; counted = refl };
          same = take_fewer lines n (lines_of report) (lines_of bytes) (omega (arith, fewer, number)) same;
        };
        here = λ begins.
            let others = lines_of begins.report in let is = begins.is_report in
            let front_same : take n others ≡ take n (lines_of bytes) = take_fewer n line others (lines_of bytes) (omega arith) begins.same in
            never is.setting is.history is.run (drop n others)
            (sym (report_cut no_ends begins.report begins.count is) ∙ sym (take-append-drop n others)
            ∙ ap (λ (l : List Line). l ++ drop n others) (front_same ∙ ap (take n) cut ∙ take_at (ended front) rest n long))
            (ap (λ (l : List Line). slice_get l 0) (sym (drop_at (ended front) rest n long) ∙ ap (drop n) (sym cut))
            ∙ sym (next_same n others (lines_of bytes) (subst (λ k. take k others ≡ take k (lines_of bytes)) at begins.same)));
        reached = omega arith;
      };
      expected = expected;
    }
