-- The pieces of a text: the first of them, and the pieces of joined words.
use Rattle.std.proofs.Common.{◌≡◌, ◌≢◌, ℕ, ◌+◌, ◌<◌, Bool, true, false, not, eqb, List, [], ◌∷◌, length, get_or, take, drop, refl, ap, ◌∙◌, arith}
use Rattle.std.specs.List.{All, list_all, join_with_byte, position_or_len, slice_split}
use Rattle.std.proofs.lemmas.Bool.{and_parts, eq-eqb, ne_eqb, not-true}
use Rattle.std.proofs.lemmas.List.Elements.{All-cons, All-from_get_or, All-nil}
use Rattle.std.proofs.lemmas.List.Splits.{join_with_byte-slice_split, slice_split_at, slice_split_first, slice_split_none}
use Rattle.std.proofs.lemmas.List.Sums.{position_or_len_is}
use Rattle.dcr_text.specs.Lines.{pieces_of}

-- the first piece ends at the first separator
pub pieces_at : (separator : ℕ) (text : List ℕ) (at : ℕ) → at < length text → get_or text at 0 ≡ separator → ((k : ℕ) → k < at → get_or text k 0 ≢ separator)
    → pieces_of separator text ≡ take at text ∷ pieces_of separator (drop (at + 1) text)
pieces_at separator text at inside here before =
    let p : ℕ → Bool = λ byte. eqb byte separator in
    let first : position_or_len p text ≡ at = position_or_len_is p text at 0 (omega arith) (λ k l. ne_eqb (get_or text k 0) separator (before k l)) (λ _. eq-eqb (get_or text at 0) separator here) in
    slice_split_first p text 0 (omega arith) ∙ ap (λ i. take i text ∷ slice_split p (drop (i + 1) text)) first

-- a text without a separator is one piece
pub pieces_whole : (separator : ℕ) (text : List ℕ) → ((k : ℕ) → k < length text → get_or text k 0 ≢ separator) → pieces_of separator text ≡ text ∷ []
pieces_whole separator text none =
    let p : ℕ → Bool = λ byte. eqb byte separator in
    slice_split_none p text (All-from_get_or (λ byte. p byte ≡ false) text 0 (λ k l. ne_eqb (get_or text k 0) separator (none k l)))

-- no byte is the separator
abbrev pub lacks : ℕ → List ℕ → Bool
lacks separator text = list_all (λ byte. not (eqb byte separator)) text

lacks_all : (separator : ℕ) (text : List ℕ) → lacks separator text ≡ true → All (λ byte. eqb byte separator ≡ false) text
lacks_all separator [] h = All-nil (λ byte. eqb byte separator ≡ false)
lacks_all separator (b ∷ bs) h = let both = and_parts _ _ h in All-cons (λ byte. eqb byte separator ≡ false) b bs (not-true _ both.0) (lacks_all separator bs both.1)

-- words without a separator, joined by it, are its pieces
pub pieces_joined : (separator : ℕ) (word : List ℕ) (words : List (List ℕ)) → list_all (lacks separator) (word ∷ words) ≡ true
    → pieces_of separator (join_with_byte separator (word ∷ words)) ≡ word ∷ words
pieces_joined separator word [] h = slice_split_none (λ byte. eqb byte separator) word (lacks_all separator word (and_parts _ _ h).0)
pieces_joined separator word (next ∷ words) h =
    let both = and_parts _ _ h in
    slice_split_at (λ byte. eqb byte separator) word separator (join_with_byte separator (next ∷ words)) (lacks_all separator word both.0) (eq-eqb separator separator refl)
    ∙ ap (λ pieces. word ∷ pieces) (pieces_joined separator next words both.1)

-- the pieces joined again are the text
pub joined_pieces : (separator : ℕ) (text : List ℕ) → join_with_byte separator (pieces_of separator text) ≡ text
joined_pieces separator text = join_with_byte-slice_split separator text
