-- A text cut into its lines, and back.
use Rattle.std.proofs.Common.{◌≡◌, ℕ, Bool, true, false, eqb, List, [], ◌∷◌, ◌++◌, refl, sym, ap, ◌∙◌, arith}
use Rattle.std.specs.List.{All, join_with_byte, list_all}
use Rattle.std.proofs.lemmas.Bool.{and_parts, eq-eqb, false≢true, not-true}
use Rattle.std.proofs.lemmas.List.{append_assoc, map-append}
use Rattle.std.proofs.lemmas.List.Elements.{All-cons, All-nil}
use Rattle.std.proofs.lemmas.List.Splits.{length-slice_split, slice_split_at}
use Rattle.dcr_text.specs.Lines.{pieces_of}
use Rattle.dcr_line.proofs.PiecesLemmas.{joined_pieces, lacks}
use Rattle.dcr_report.specs.Report.{line, lines_text}
use Rattle.dcr_text.specs.Lines.{Line, line_of, lines_in, lines_of}
use Rattle.dcr_replay.specs.ReportLines.{ended}
use Rattle.dcr_replay.proofs.LinesLemmas.{lines_more}

lacks_all : (text : List ℕ) → lacks 10 text ≡ true → All (λ byte. eqb byte 10 ≡ false) text
lacks_all [] h = All-nil (λ byte. eqb byte 10 ≡ false)
lacks_all (b ∷ bs) h = let both = and_parts _ _ h in All-cons (λ byte. eqb byte 10 ≡ false) b bs (not-true _ both.0) (lacks_all bs both.1)

-- the line at the front
line_more : (text rest : List ℕ) → lacks 10 text ≡ true → lines_of (line text ++ rest) ≡ line_of text true ∷ lines_of rest
line_more text rest none =
    let p : ℕ → Bool = λ byte. eqb byte 10 in
    ap lines_of (append_assoc text (10 ∷ []) rest)
    ∙ ap lines_in (slice_split_at p text 10 rest (lacks_all text none) (eq-eqb 10 10 refl))
    ∙ lines_more text (pieces_of 10 rest) (omega (arith, length-slice_split p rest))

pub ended_append : (xs ys : List (List ℕ)) → ended (xs ++ ys) ≡ ended xs ++ ended ys
ended_append xs ys = map-append (λ text. line_of text true) xs ys

-- texts without a line end, each with one behind it, are cut into these texts
pub lines_cut : (texts : List (List ℕ)) → list_all (lacks 10) texts ≡ true → lines_of (lines_text texts) ≡ ended texts
unfolding lines_in
lines_cut [] h = refl
lines_cut (text ∷ texts) h =
    let both = and_parts _ _ h in
    line_more text (lines_text texts) both.0 ∙ ap (λ lines. line_of text true ∷ lines) (lines_cut texts both.1)

pieces_joined_back : (pieces texts : List (List ℕ)) → lines_in pieces ≡ ended texts → join_with_byte 10 pieces ≡ lines_text texts
unfolding lines_in
pieces_joined_back [] [] e = refl
pieces_joined_back [] (text ∷ texts) e = absurd cc
pieces_joined_back ([] ∷ []) [] e = refl
pieces_joined_back ([] ∷ []) (text ∷ texts) e = absurd cc
pieces_joined_back ((byte ∷ bytes) ∷ []) [] e = absurd cc
pieces_joined_back ((byte ∷ bytes) ∷ []) (text ∷ texts) e =
    let first : line_of (byte ∷ bytes) false ≡ line_of text true = cc in
    absurd (false≢true (ap (λ (l : Line). l.ended) first))
pieces_joined_back (piece ∷ (next ∷ pieces)) [] e = absurd cc
pieces_joined_back (piece ∷ (next ∷ pieces)) (text ∷ texts) e =
    let first : line_of piece true ≡ line_of text true = cc in
    let more : lines_in (next ∷ pieces) ≡ ended texts = cc in
    ap (λ t. t ++ (10 ∷ join_with_byte 10 (next ∷ pieces))) (ap (λ (l : Line). l.text) first)
    ∙ ap (λ t. text ++ (10 ∷ t)) (pieces_joined_back (next ∷ pieces) texts more)
    ∙ sym (append_assoc text (10 ∷ []) (lines_text texts))

-- a text whose lines have their ends is these lines
pub lines_back : (bytes : List ℕ) (texts : List (List ℕ)) → lines_of bytes ≡ ended texts → bytes ≡ lines_text texts
lines_back bytes texts e = sym (joined_pieces 10 bytes) ∙ pieces_joined_back (pieces_of 10 bytes) texts e
