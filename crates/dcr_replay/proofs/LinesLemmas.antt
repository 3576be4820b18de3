-- The lines of a text: the first of them, and those behind it.
use Rattle.std.proofs.Common.{◌≡◌, ◌≢◌, ℕ, ◌+◌, ◌<◌, eqb, true, false, List, [], ◌∷◌, length, get_or, take, drop, refl, ap, ◌∙◌, arith}
use Rattle.std.proofs.lemmas.List.Splits.{length-slice_split}
use Rattle.dcr_text.specs.Lines.{pieces_of}
use Rattle.dcr_line.proofs.PiecesLemmas.{pieces_at, pieces_whole}
use Rattle.dcr_text.specs.Lines.{line_of, lines_in, lines_of, unended}

pub lines_more : (text : List ℕ) (more : List (List ℕ)) → 0 < length more → lines_in (text ∷ more) ≡ line_of text true ∷ lines_in more
unfolding lines_in
lines_more text [] some = absurd (omega (arith, some))
lines_more text (next ∷ pieces) some = refl

lines_one : (text : List ℕ) → lines_in (text ∷ []) ≡ unended text
unfolding lines_in
lines_one text = refl

-- the first line ends at the first line end
pub lines_at : (text : List ℕ) (at : ℕ) → at < length text → get_or text at 0 ≡ 10 → ((k : ℕ) → k < at → get_or text k 0 ≢ 10)
    → lines_of text ≡ line_of (take at text) true ∷ lines_of (drop (at + 1) text)
lines_at text at inside here before =
    ap lines_in (pieces_at 10 text at inside here before)
    ∙ lines_more (take at text) (pieces_of 10 (drop (at + 1) text)) (omega (arith, length-slice_split (λ byte. eqb byte 10) (drop (at + 1) text)))

-- a text without a line end is a line without its end, if it is one
pub lines_whole : (text : List ℕ) → ((k : ℕ) → k < length text → get_or text k 0 ≢ 10) → lines_of text ≡ unended text
lines_whole text none = ap lines_in (pieces_whole 10 text none) ∙ lines_one text

-- a text of no byte has no line
pub lines_none : (text : List ℕ) → length text ≡ 0 → lines_of text ≡ []
lines_none [] empty = lines_whole [] (λ k below. absurd (omega (arith, below)))
lines_none (byte ∷ bytes) empty = absurd (omega (arith, empty))

-- what is left of a text that has a byte, where that is one line without its end
pub unended_is : (text : List ℕ) → 0 < length text → unended text ≡ line_of text false ∷ []
unended_is [] some = absurd (omega (arith, some))
unended_is (byte ∷ bytes) some = refl
