-- The lines behind the entries, one after the other.
use Rattle.std.proofs.Common.{◌≡◌, ℕ, zero, suc, ◌+◌, ◌<◌, ◌≤◌, Bool, true, false, Decides, List, [], ◌∷◌, ◌++◌, drop, get_or, length, replicate, slice_get, take, Option, Some, None, option_map, refl, sym, ap, subst, ◌∙◌, arith}
use Rattle.std.specs.Option.{is_some}
use Rattle.std.specs.Str.{bytes_eq}
use Rattle.std.proofs.lemmas.Bool.{and_parts, false≢true}
use Rattle.std.proofs.lemmas.List.{append_assoc, drop_more, get_or-append-add, get_or-replicate, get_or_append_left, length-append, length-replicate, take_more}
use Rattle.std.proofs.lemmas.Option.{same_Some}
use Rattle.std.proofs.lemmas.Slice.Eq.{bytes_eq-Decides}
use Rattle.dcr_set.specs.EventSet.{Set}
use Rattle.dcr_graph.specs.Cause.{waits}
use Rattle.dcr_graph.specs.GraphValue.{rules_of}
use Rattle.dcr_graph.specs.Projection.{project}
use Rattle.dcr_graph.specs.Rows.{row}
use Rattle.dcr_graph.specs.Rules.{Rules}
use Rattle.dcr_graph.specs.declared.marking.Marking.{Marking}
use Rattle.dcr_proj.specs.CoverValue.{Owners}
use Rattle.dcr_journal.specs.Run.{marks_at}
use Rattle.dcr_journal.specs.declared.call.Entry.{Entry}
use Rattle.dcr_replay.specs.Canonical.{HaveNoLineEnd}
use Rattle.dcr_replay.specs.Canonical.{MeanOne}
use Rattle.dcr_report.specs.Report.{end_lines, site_lines, site_text}
use Rattle.dcr_text.specs.Lines.{Line, line_of, lines_of, says}
use Rattle.dcr_replay.specs.EntryLines.{Setting, first_is_digit, last_of, names_in, rules_in}
use Rattle.dcr_replay.specs.FirstWrong.{IsVerdict, end_kinds}
use Rattle.dcr_replay.specs.ReportLines.{behind_of, ended, read_of}
use Rattle.dcr_replay.specs.Stands.{Stands, TellsEnds, ends_of, sites_of}
use Rattle.dcr_replay.specs.declared.entries.Run.{Run}
use Rattle.dcr_replay.specs.declared.verdict.Verdict.{Verdict}
use Rattle.dcr_replay.specs.declared.verdict.Verdict.TheVariants.{Valid, Invalid}
use Rattle.dcr_replay.specs.declared.verdict.Wrong.TheVariants as wrong
use Rattle.dcr_replay.proofs.CutLemmas.{ended_append}
use Rattle.dcr_replay.proofs.ReportLemmas.{valid_told}
use Rattle.dcr_replay.proofs.WrongLemmas.{first_cut, line_more, wrong_end}

-- ---- what the lines are to be

module _ (G : Rules) (names : List (List ℕ)) (M : Marking) where
  -- there is one for each site
  pub sites_many : (sites : List (List ℕ)) (owned : List Set) → length owned ≡ length sites → length (site_lines names sites (marks_at G owned M)) ≡ length sites
  unfolding site_lines
  sites_many [] owned many = refl
  sites_many (site ∷ sites) [] many = absurd (omega (arith, many))
  sites_many (site ∷ sites) (S ∷ owned) many = let more = sites_many sites owned (omega (arith, many)) in omega arith

  -- with its marks
  pub site_at : (sites : List (List ℕ)) (owned : List Set) (i : ℕ) → length owned ≡ length sites → i < length sites
      → get_or (site_lines names sites (marks_at G owned M)) i [] ≡ site_text names (get_or sites i []) (project G (row owned i) M)
  unfolding site_lines
  site_at [] owned i many within = absurd (omega (arith, within))
  site_at (site ∷ sites) [] i many within = absurd (omega (arith, many))
  site_at (site ∷ sites) (S ∷ owned) zero many within = refl
  site_at (site ∷ sites) (S ∷ owned) (suc i) many within = site_at sites owned i (omega (arith, many)) (omega (arith, within))

module _ (run : Run) (many : length run.cover.now.owned ≡ length run.cover.now.names) where
  pub length_sites : length (sites_of run) ≡ length run.cover.now.names
  length_sites = sites_many (rules_of run.graph.now) run.graph.now.names run.plain.marking run.cover.now.names run.cover.now.owned many

  pub length_ends : length (ends_of run) ≡ length run.cover.now.names + 2
  length_ends = length-append (sites_of run) (end_lines run.graph.now.names (waits (length run.graph.now.names) run.plain.marking) run.len) ∙ ap (λ n. n + 2) length_sites

  pub site_wanted : (i : ℕ) → i < length run.cover.now.names
      → get_or (ends_of run) i [] ≡ site_text run.graph.now.names (get_or run.cover.now.names i []) (project (rules_of run.graph.now) (row run.cover.now.owned i) run.plain.marking)
  site_wanted i within =
      let all = length_sites in
      get_or_append_left (sites_of run) (end_lines run.graph.now.names (waits (length run.graph.now.names) run.plain.marking) run.len) [] i (omega arith)
      ∙ site_at (rules_of run.graph.now) run.graph.now.names run.plain.marking run.cover.now.names run.cover.now.owned i many within

  pub last_wanted : (i k : ℕ) → i ≡ length run.cover.now.names + k → get_or (ends_of run) i [] ≡ get_or (end_lines run.graph.now.names (waits (length run.graph.now.names) run.plain.marking) run.len) k []
  last_wanted i k at =
      ap (λ n. get_or (ends_of run) n []) (at ∙ ap (λ n. n + k) (sym length_sites))
      ∙ get_or-append-add (sites_of run) (end_lines run.graph.now.names (waits (length run.graph.now.names) run.plain.marking) run.len) k []

pub site_kind : (n i : ℕ) → i < n → wrong.Site ≡ get_or (end_kinds n) i wrong.Extra
site_kind n i within =
    let long = length-replicate n wrong.Site in
    sym (get_or_append_left (replicate n wrong.Site) (wrong.Verdict ∷ wrong.End ∷ []) wrong.Extra i (omega arith) ∙ get_or-replicate n i wrong.Site wrong.Extra within)

pub last_kind : (n i k : ℕ) → i ≡ n + k → get_or (wrong.Verdict ∷ wrong.End ∷ []) k wrong.Extra ≡ get_or (end_kinds n) i wrong.Extra
last_kind n i k at =
    sym (ap (λ m. get_or (end_kinds n) m wrong.Extra) (at ∙ ap (λ m. m + k) (sym (length-replicate n wrong.Site)))
    ∙ get_or-append-add (replicate n wrong.Site) (wrong.Verdict ∷ wrong.End ∷ []) k wrong.Extra)

-- ---- which line comes next

pub says_told : (text : List ℕ) (line : Line) → says text line ≡ true → line ≡ line_of text true
says_told text line e =
    let parts = and_parts line.ended (bytes_eq line.text text) e in
    ap (λ b. line_of line.text b) parts.0 ∙ ap (λ t. line_of t true) ((bytes_eq-Decides line.text text).0 parts.1)

-- whether the first line is this text
pub takes_told : (text : List ℕ) (lines : List Line) (line : Line) (told : Bool) → told ≡ says text line → Some line ≡ slice_get lines 0 → Decides told (slice_get lines 0 ≡ Some (line_of text true))
takes_told text lines line told is there = (
  λ yes. sym there ∙ ap Some (says_told text line (sym is ∙ yes)),
  λ same. is ∙ ap (says text) (same_Some _ _ (there ∙ same)) ∙ (bytes_eq-Decides text text).1 refl,
)

-- whether there is one
pub is_left : {A : Type 0} (f : A → Line) (o : Option A) (lines : List Line) (told : Bool) → option_map f o ≡ slice_get lines 0 → told ≡ is_some o → (told ≡ true → slice_get lines 0 ≡ None → ⊥) × (told ≡ false → lines ≡ [])
is_left f None [] told e is = (λ yes none. false≢true (sym is ∙ yes), λ no. refl)
is_left f None (line ∷ lines) told e is = absurd cc
is_left f (Some a) [] told e is = absurd cc
is_left f (Some a) (line ∷ lines) told e is = (λ yes none. absurd cc, λ no. absurd (false≢true (sym no ∙ is)))

-- the first of those that are to come
pub next_wanted : (texts : List (List ℕ)) (i : ℕ) → i < length texts → slice_get (ended (drop i texts)) 0 ≡ Some (line_of (get_or texts i []) true)
next_wanted texts i within = ap (λ (l : List (List ℕ)). slice_get (ended l) 0) (drop_more texts i [] within)

-- it comes
pub next_taken : (texts : List (List ℕ)) (i : ℕ) (all lines rest : List Line) → i < length texts → slice_get lines 0 ≡ Some (line_of (get_or texts i []) true) → rest ≡ drop 1 lines
    → all ≡ ended (take i texts) ++ lines → all ≡ ended (take (i + 1) texts) ++ rest
next_taken texts i all lines rest within there taken e =
    line_more (take i texts) (get_or texts i []) all rest
    (e ∙ ap (λ (l : List Line). ended (take i texts) ++ l) (first_cut lines (line_of (get_or texts i []) true) there ∙ ap (λ (l : List Line). line_of (get_or texts i []) true ∷ l) (sym taken)))
    ∙ ap (λ (l : List (List ℕ)). ended l ++ rest) (sym (take_more texts i [] within))

-- ---- the verdict

ends_are : (S : Setting) (J : List Entry) (run : Run) → Stands S J run → ends_of run ≡ behind_of S J
ends_are S J run stands =
    let Ends : Rules → List (List ℕ) → Owners → Marking → ℕ → List (List ℕ) = λ G names C M n. site_lines names C.names (marks_at G C.owned M) ++ end_lines names (waits G.atoms M) n in
    ap (λ G. Ends G run.graph.now.names run.cover.now run.plain.marking run.len) stands.over.rules
    ∙ ap (λ names. Ends (rules_in S) names run.cover.now run.plain.marking run.len) stands.over.names
    ∙ ap (λ C. Ends (rules_in S) (names_in S) C run.plain.marking run.len) stands.over.cover
    ∙ ap (λ M. Ends (rules_in S) (names_in S) S.cover M run.len) stands.marking
    ∙ ap (Ends (rules_in S) (names_in S) S.cover (last_of S J)) stands.counted

pub ends_told : HaveNoLineEnd → MeanOne → (S : Setting) (J : List Entry) (run : Run) → Stands S J run → (bytes : List ℕ) (lines : List Line) → lines_of bytes ≡ ended (read_of S J) ++ lines
    → first_is_digit lines ≡ false → (verdict : Verdict) → TellsEnds run lines verdict → IsVerdict bytes verdict
ends_told no_ends one S J run stands bytes lines cut bare (Valid count) told =
    subst (λ n. IsVerdict bytes (Valid n)) (sym (told.0 ∙ stands.counted))
    (valid_told bytes S J stands.legal (cut ∙ ap (λ (l : List Line). ended (read_of S J) ++ l) (told.1 ∙ ap ended (ends_are S J run stands)) ∙ sym (ended_append (read_of S J) (behind_of S J))))
ends_told no_ends one S J run stands bytes lines cut bare (Invalid number kind) told =
    let i = told.i in let ends = behind_of S J in let same = ends_are S J run stands in let at = told.at in
    wrong_end no_ends one S J i bytes told.rest
    (record {
      legal = stands.legal;
      within = subst (λ (l : List (List ℕ)). i ≤ length l) same told.within;
      cut = cut ∙ ap (λ (l : List Line). ended (read_of S J) ++ l) (told.cut ∙ ap (λ (l : List (List ℕ)). ended (take i l) ++ told.rest) same)
          ∙ sym (append_assoc (ended (read_of S J)) (ended (take i ends)) told.rest) ∙ ap (λ (l : List Line). l ++ told.rest) (sym (ended_append (read_of S J) (take i ends)));
    })
    (λ none. sym (ap first_is_digit (told.cut ∙ ap (λ n. ended (take n (ends_of run)) ++ told.rest) none)) ∙ bare)
    number kind (omega (arith, at, stands.counted)) (told.kind_is ∙ ap (λ (C : Owners). get_or (end_kinds (length C.names)) i wrong.Extra) stands.over.cover)
    (λ e. told.other (e ∙ ap (λ (l : List (List ℕ)). slice_get (ended (drop i l)) 0) (sym same)))
