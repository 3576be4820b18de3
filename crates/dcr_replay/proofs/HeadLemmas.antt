-- The four lines before the entries, both ways.
use Rattle.std.proofs.Common.{◌≡◌, inl, inr, ℕ, true, cond, eqb, List, [], ◌∷◌, ◌++◌, drop, length, codes, Option, Some, None, refl, sym, ap, subst, ◌∙◌}
use Rattle.std.specs.List.{starts_with}
use Rattle.std.specs.Option.{MatchOption, option_and_then, option_map}
use Rattle.std.specs.Str.{bytes_eq}
use Rattle.std.proofs.lemmas.Bool.Decides.{Decides-eqb}
use Rattle.std.proofs.lemmas.List.Prefix.{front_rest}
use Rattle.std.proofs.lemmas.Option.{cond_some, option_and_then_some, same_Some}
use Rattle.std.proofs.lemmas.Slice.Eq.{starts_is}
use Rattle.dcr_graph.specs.Projection.{as_marking, FitsAtoms}
use Rattle.dcr_graph.specs.declared.marking.Marking.{Marking}
use Rattle.dcr_graph.specs.declared.marking.SiteMark.{SiteMark}
use Rattle.dcr_nest.specs.Nest.{Nest}
use Rattle.dcr_nest.specs.declared.node.Version.{Version}
use Rattle.dcr_nest.specs.declared.node.Version.TheVariants.{V1, V2}
use Rattle.dcr_proj.specs.CoverValue.{Owners}
use Rattle.dcr_line.specs.Known.{AreNames}
use Rattle.dcr_line.specs.Line.{mark_text}
use Rattle.dcr_line.specs.MarkLine.{mark_in}
use Rattle.dcr_line.proofs.CallLemmas.{chosen, is_word}
use Rattle.dcr_line.proofs.MarkLemmas.{mark_text_read, mark_told}
use Rattle.dcr_cover_json.specs.Text.{cover_text}
use Rattle.dcr_graph_json.specs.Text.{graph_text}
use Rattle.dcr_cover_json.specs.Accepted.{IsAcceptedCover, IsCoverIn}
use Rattle.dcr_graph_json.specs.Accepted.{IsAcceptedGraph, IsGraphIn}
use Rattle.dcr_graph_json.specs.Build.{atom_names}
use Rattle.dcr_report.specs.Report.{version_text}
use Rattle.dcr_text.specs.Lines.{Line, line_of, whole}
use Rattle.dcr_replay.specs.HeadLines.{IsCoverAt, IsGraphAt, behind, first_text, first_behind, version_of, version_at, opening_at}

-- ---- a first line

-- the text behind a word
behind_told : (word text rest : List ℕ) → behind word text ≡ Some rest → text ≡ word ++ rest
behind_told word text rest e =
    let parts = cond_some (starts_with eqb text word) (drop (length word) text) rest e in
    (starts_is Decides-eqb text word (starts_with eqb text word) refl).0 parts.0 ∙ ap (λ t. word ++ t) parts.1

pub behind_read : (word rest : List ℕ) → behind word (word ++ rest) ≡ Some rest
behind_read word rest =
    ap (λ b. cond b (Some (drop (length word) (word ++ rest))) None) ((starts_is Decides-eqb (word ++ rest) word (starts_with eqb (word ++ rest) word) refl).1 rest refl)
    ∙ ap Some (front_rest (word ++ rest) word rest refl)

-- a line that has its end
pub whole_told : (line : Line) (text : List ℕ) → whole line ≡ Some text → line ≡ line_of text true
whole_told line text e =
    let parts = cond_some line.ended line.text text e in
    ap (λ b. line_of line.text b) parts.0 ∙ ap (λ t. line_of t true) parts.1

first_told : (lines : List Line) (text : List ℕ) → first_text lines ≡ Some text → lines ≡ line_of text true ∷ drop 1 lines
first_told [] text e = absurd cc
first_told (line ∷ lines) text e = ap (λ l. l ∷ lines) (whole_told line text e)

pub first_behind_told : (word rest : List ℕ) (lines : List Line) → first_behind word lines ≡ Some rest → lines ≡ line_of (word ++ rest) true ∷ drop 1 lines
first_behind_told word rest lines e = option_and_then_some (behind word) (first_text lines) rest e (λ text is told.
    first_told lines text is ∙ ap (λ t. line_of t true ∷ drop 1 lines) (behind_told word text rest told))

-- ---- the version

version_told : (text : List ℕ) (version : Version) → version_of text ≡ Some version → text ≡ version_text version
version_told text version e = elim (chosen (bytes_eq text (version_text V1)) _ _ _ e) [
  | inl one ↦ is_word text (version_text V1) one.0 ∙ ap version_text (same_Some _ _ one.1)
  | inr other ↦ elim (chosen (bytes_eq text (version_text V2)) _ _ _ other.1) [
    | inl two ↦ is_word text (version_text V2) two.0 ∙ ap version_text (same_Some _ _ two.1)
    | inr none ↦ absurd (let no = none.1 in cc)
  ]
]

pub version_line_told : (lines : List Line) (version : Version) → version_at lines ≡ Some version → lines ≡ line_of (version_text version) true ∷ drop 1 lines
version_line_told lines version e = option_and_then_some version_of (first_text lines) version e (λ text is told.
    first_told lines text is ∙ ap (λ t. line_of t true ∷ drop 1 lines) (version_told text version told))

pub version_line_read : (version : Version) (lines : List Line) → version_at (line_of (version_text version) true ∷ lines) ≡ Some version
version_line_read V1 lines = refl
version_line_read V2 lines = refl

-- ---- the opening marking

abbrev pub open_text : List (List ℕ) → Marking → List ℕ
open_text names M = codes "open " ++ mark_text names M.executed M.pending M.included

mapped : {A B : Type 0} (f : A → B) (o : Option A) (b : B) → option_map f o ≡ Some b → (a : A) × (o ≡ Some a) × (f a ≡ b)
mapped {A = A} {B = B} f None b e = absurd cc
mapped {A = A} {B = B} f (Some a) b e = (a, refl, same_Some _ _ e)

-- what is read of the line of the opening marking
pub record IsOpening (names : List (List ℕ)) (M : Marking) (lines : List Line) : Type 0 where
  pub fits : FitsAtoms (length names) M.executed M.pending M.included
  pub cut : lines ≡ line_of (open_text names M) true ∷ drop 1 lines

pub opening_told : (names : List (List ℕ)) (M : Marking) (lines : List Line) → opening_at names lines ≡ Some M → IsOpening names M lines
opening_told names M lines e =
    let found = mapped as_marking (option_and_then (mark_in names) (first_behind (codes "open ") lines)) M e in
    let mark : SiteMark = found.0 in
    option_and_then_some (mark_in names) (first_behind (codes "open ") lines) mark found.1 (λ text is told.
    let marks = mark_told names text mark told in
    let same : as_marking mark ≡ M = found.2 in
    let at : IsOpening names (as_marking mark) lines = record {
      fits = marks.0;
      cut = first_behind_told (codes "open ") text lines is ∙ ap (λ t. line_of (codes "open " ++ t) true ∷ drop 1 lines) marks.1;
    } in
    subst (λ (m : Marking). IsOpening names m lines) same at)

pub opening_read : (names : List (List ℕ)) → AreNames names → (M : Marking) (lines : List Line) → FitsAtoms (length names) M.executed M.pending M.included
    → opening_at names (line_of (open_text names M) true ∷ lines) ≡ Some M
opening_read names are M lines fits =
    let mark : SiteMark = record { executed = M.executed; pending = M.pending; included = M.included } in
    let text = mark_text names M.executed M.pending M.included in
    ap (λ o. option_map as_marking (option_and_then (mark_in names) o)) (behind_read (codes "open ") text)
    ∙ ap (option_map as_marking) (mark_text_read names are mark fits)

-- ---- the graph, and the cover

pub graph_line_told : (version : Version) (lines : List Line) (N : Nest) → IsGraphAt version lines (Some N) → IsAcceptedGraph version N × (lines ≡ line_of (codes "graph " ++ graph_text N) true ∷ drop 1 lines)
graph_line_told version lines N e = at (first_behind (codes "graph ") lines) refl e
  where
    at : (o : Option (List ℕ)) → first_behind (codes "graph ") lines ≡ o → MatchOption o (Some N ≡ None) (λ text. IsGraphIn version text (Some N))
        → IsAcceptedGraph version N × (lines ≡ line_of (codes "graph " ++ graph_text N) true ∷ drop 1 lines)
    at None is e = absurd cc
    at (Some text) is e = (e.0, first_behind_told (codes "graph ") text lines is ∙ ap (λ t. line_of (codes "graph " ++ t) true ∷ drop 1 lines) e.1)

pub cover_line_told : (N : Nest) (lines : List Line) (C : Owners) → IsCoverAt N lines (Some C) → IsAcceptedCover N C × (lines ≡ line_of (codes "cover " ++ cover_text (atom_names N) C) true ∷ drop 1 lines)
cover_line_told N lines C e = at (first_behind (codes "cover ") lines) refl e
  where
    at : (o : Option (List ℕ)) → first_behind (codes "cover ") lines ≡ o → MatchOption o (Some C ≡ None) (λ text. IsCoverIn N text (Some C))
        → IsAcceptedCover N C × (lines ≡ line_of (codes "cover " ++ cover_text (atom_names N) C) true ∷ drop 1 lines)
    at None is e = absurd cc
    at (Some text) is e = (e.0, first_behind_told (codes "cover ") text lines is ∙ ap (λ t. line_of (codes "cover " ++ t) true ∷ drop 1 lines) e.1)

-- an accepted graph is accepted as one of its own version
pub own_version : (version : Version) (N : Nest) → IsAcceptedGraph version N → IsAcceptedGraph N.version N
own_version version N ok = subst (λ (v : Version). IsAcceptedGraph v N) (sym ok.of_version) ok
