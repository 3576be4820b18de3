-- The texts of the lines: the first of them, and those behind it.
use Rattle.std.proofs.Common.{◌≡◌, ◌≢◌, ℕ, ◌+◌, ◌<◌, eqb, true, List, [], ◌∷◌, length, get_or, map, take, drop, refl, ap, ◌∙◌, arith}
use Rattle.std.proofs.lemmas.List.Splits.{length-slice_split}
use Rattle.dcr_text.specs.Lines.{Line, line_of, lines_in, pieces_of, unended}
use Rattle.dcr_line.proofs.PiecesLemmas.{pieces_at, pieces_whole}
use Rattle.dcr_adapt.specs.Stages.{line_texts}

abbrev texts_in : List Line → List (List ℕ)
texts_in lines = map (λ (line : Line). line.text) lines

more_lines : (text : List ℕ) (more : List (List ℕ)) → 0 < length more → lines_in (text ∷ more) ≡ line_of text true ∷ lines_in more
unfolding lines_in
more_lines text [] some = absurd (omega (arith, some))
more_lines text (next ∷ pieces) some = refl

last_piece : (text : List ℕ) → lines_in (text ∷ []) ≡ unended text
unfolding lines_in
last_piece text = refl

-- the first line ends at the first line end
pub first_line : (text : List ℕ) (at : ℕ) → at < length text → get_or text at 0 ≡ 10 → ((k : ℕ) → k < at → get_or text k 0 ≢ 10)
    → line_texts text ≡ take at text ∷ line_texts (drop (at + 1) text)
first_line text at inside here before =
    ap (λ pieces. texts_in (lines_in pieces)) (pieces_at 10 text at inside here before)
    ∙ ap texts_in (more_lines (take at text) (pieces_of 10 (drop (at + 1) text)) (omega (arith, length-slice_split (λ byte. eqb byte 10) (drop (at + 1) text))))

-- a text without a line end is one line, if it has a byte
pub one_line : (text : List ℕ) → 0 < length text → ((k : ℕ) → k < length text → get_or text k 0 ≢ 10) → line_texts text ≡ text ∷ []
one_line [] some none = absurd (omega (arith, some))
one_line (byte ∷ bytes) some none = ap (λ pieces. texts_in (lines_in pieces)) (pieces_whole 10 (byte ∷ bytes) none) ∙ ap texts_in (last_piece (byte ∷ bytes))

-- a text of no byte has no line
pub no_line : (text : List ℕ) → length text ≡ 0 → line_texts text ≡ []
no_line [] empty = ap (λ pieces. texts_in (lines_in pieces)) (pieces_whole 10 [] (λ k below. absurd (omega (arith, below)))) ∙ ap texts_in (last_piece [])
no_line (byte ∷ bytes) empty = absurd (omega (arith, empty))
