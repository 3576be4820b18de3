-- Marks, both ways.
use Rattle.std.proofs.Common.{◌≡◌, inl, inr, ℕ, true, cond, List, [], ◌∷◌, ◌++◌, length, codes, Some, None, Option, refl, sym, ap, subst, ◌∙◌}
use Rattle.std.specs.List.{list_all}
use Rattle.std.specs.Option.{IfSome, option_and_then}
use Rattle.std.specs.Str.{bytes_eq}
use Rattle.std.proofs.lemmas.List.{append-nil}
use Rattle.std.proofs.lemmas.Option.{option_and_then_some, same_Some}
use Rattle.std.proofs.lemmas.Slice.Eq.{bytes_eq-Decides}
use Rattle.dcr_set.specs.EventSet.{Set}
use Rattle.dcr_graph.specs.Projection.{FitsAtoms}
use Rattle.dcr_graph.specs.declared.marking.SiteMark.{SiteMark}
use Rattle.dcr_line.specs.Known.{AreNames}
use Rattle.dcr_line.specs.Line.{list_text, mark_text, mark_words, spaced}
use Rattle.dcr_line.specs.MarkLine.{MarksAreRead, list_from, list_in, mark_from, mark_in}
use Rattle.dcr_line.specs.Words.{all_of, words_behind, first_by, words_of}
use Rattle.dcr_line.proofs.CallLemmas.{chosen, is_word, read_all, spaced_words_of, words_of_spaced}
use Rattle.dcr_line.proofs.ListLemmas.{list_lacks, list_read, list_told}
use Rattle.dcr_line.proofs.NameLemmas.{first_front, first_read}
use Rattle.dcr_line.proofs.PiecesLemmas.{lacks}

-- the word at the front
behind_front : (known : List ℕ) (words rest : List (List ℕ)) → words_behind known words ≡ Some rest → words ≡ known ∷ rest
unfolding words_behind
behind_front known [] rest e = absurd cc
behind_front known (word ∷ words) rest e = elim (chosen (bytes_eq word known) _ _ _ e) [
  | inl same ↦ ap (λ w. w ∷ words) (is_word word known same.0) ∙ ap (λ ws. known ∷ ws) (same_Some _ _ same.1)
  | inr other ↦ absurd (let no = other.1 in cc)
]

behind_read : (known : List ℕ) (rest : List (List ℕ)) → words_behind known (known ∷ rest) ≡ Some rest
unfolding words_behind
behind_read known rest = ap (λ t. cond t (Some rest) None) ((bytes_eq-Decides known known).1 refl)

-- a list at the front, behind its word
pub list_front : (known : List ℕ) (names words : List (List ℕ)) (set : Set) (rest : List (List ℕ)) → list_from known names words ≡ Some (set, rest)
    → (length set ≡ length names) × (words ≡ known ∷ list_text names set ∷ rest)
unfolding list_from
list_front known names words set rest e = option_and_then_some _ (words_behind known words) _ e (λ after is e1.
    let first = first_front (list_in names) after set rest e1 in
    let list = list_told names first.word set first.tells in
    (list.0, behind_front known words after is ∙ ap (λ ws. known ∷ ws) (first.is ∙ ap (λ w. w ∷ rest) list.1)))

pub list_taken : (known : List ℕ) (names : List (List ℕ)) → AreNames names → (set : Set) (rest : List (List ℕ)) → length set ≡ length names
    → list_from known names (known ∷ list_text names set ∷ rest) ≡ Some (set, rest)
unfolding list_from
list_taken known names are set rest room =
    ap (option_and_then (first_by (list_in names))) (behind_read known (list_text names set ∷ rest))
    ∙ first_read (list_in names) (list_text names set) set rest (list_read names are set room)

abbrev pub FitsMark : ℕ → SiteMark → Type 0
FitsMark atoms mark = FitsAtoms atoms mark.executed mark.pending mark.included

abbrev pub words_of_mark : List (List ℕ) → SiteMark → List (List ℕ)
words_of_mark names mark = mark_words names mark.executed mark.pending mark.included

abbrev MarkIs : List (List ℕ) → List (List ℕ) → SiteMark × List (List ℕ) → Type 0
MarkIs names words read = FitsMark (length names) read.0 × (words ≡ words_of_mark names read.0 ++ read.1)

-- what is read from the front of words as marks is the words of the marks
pub mark_front : (names words : List (List ℕ)) (mark : SiteMark) (rest : List (List ℕ)) → mark_from names words ≡ Some (mark, rest)
    → FitsMark (length names) mark × (words ≡ words_of_mark names mark ++ rest)
unfolding mark_from
mark_front names words mark rest e =
    option_and_then_some _ (list_from (codes "executed") names words) _ e (λ executed is_executed e1.
    option_and_then_some _ (list_from (codes "pending") names executed.1) _ e1 (λ pending is_pending e2.
    option_and_then_some _ (list_from (codes "included") names pending.1) _ e2 (λ included is_included e3.
    let first = list_front (codes "executed") names words executed.0 executed.1 is_executed in
    let second = list_front (codes "pending") names executed.1 pending.0 pending.1 is_pending in
    let third = list_front (codes "included") names pending.1 included.0 included.1 is_included in
    let read : SiteMark × List (List ℕ) = (record { executed = executed.0; pending = pending.0; included = included.0 }, included.1) in
    let same : read ≡ (mark, rest) = same_Some _ _ e3 in
    let fits : FitsMark (length names) read.0 = record { executed = first.0; pending = second.0; included = third.0 } in
    let said : words ≡ words_of_mark names read.0 ++ read.1 =
    first.1 ∙ ap (λ ws. codes "executed" ∷ list_text names executed.0 ∷ ws) (second.1 ∙ ap (λ ws. codes "pending" ∷ list_text names pending.0 ∷ ws) third.1) in
    subst (MarkIs names words) same (fits, said))))

-- and the words of marks are read as the marks
pub mark_taken : (names : List (List ℕ)) → AreNames names → (mark : SiteMark) (rest : List (List ℕ)) → FitsMark (length names) mark
    → mark_from names (words_of_mark names mark ++ rest) ≡ Some (mark, rest)
unfolding mark_from
mark_taken names are mark rest fits =
    rw (list_taken (codes "executed") names are mark.executed (codes "pending" ∷ list_text names mark.pending ∷ codes "included" ∷ list_text names mark.included ∷ rest) fits.executed)
    (rw (list_taken (codes "pending") names are mark.pending (codes "included" ∷ list_text names mark.included ∷ rest) fits.pending)
    (rw (list_taken (codes "included") names are mark.included rest fits.included) refl))

-- no word of marks has a space
pub mark_lacks : (names : List (List ℕ)) → AreNames names → (mark : SiteMark) → FitsMark (length names) mark → list_all (lacks 32) (words_of_mark names mark) ≡ true
mark_lacks names are mark fits =
    rw (list_lacks names are mark.executed fits.executed)
    (rw (list_lacks names are mark.pending fits.pending) (rw (list_lacks names are mark.included fits.included) refl))

-- a text that is read as marks is the text of them
pub mark_told : (names : List (List ℕ)) (text : List ℕ) (mark : SiteMark) → mark_in names text ≡ Some mark
    → FitsMark (length names) mark × (text ≡ mark_text names mark.executed mark.pending mark.included)
unfolding mark_in
mark_told names text mark e =
    let told = mark_front names (words_of text) mark [] (read_all (mark_from names (words_of text)) mark e) in
    (told.0, sym (spaced_words_of text) ∙ ap spaced told.1)

-- and the text of marks is read as them
pub mark_text_read : (names : List (List ℕ)) → AreNames names → (mark : SiteMark) → FitsMark (length names) mark
    → mark_in names (mark_text names mark.executed mark.pending mark.included) ≡ Some mark
unfolding mark_in
mark_text_read names are mark fits =
    let same : words_of (mark_text names mark.executed mark.pending mark.included) ≡ words_of_mark names mark ++ [] =
    words_of_spaced (words_of_mark names mark) (record { first = _; rest = _; is = refl }) (mark_lacks names are mark fits)
    ∙ sym (append-nil (words_of_mark names mark)) in
    ap (λ ws. all_of (mark_from names ws)) same ∙ ap all_of (mark_taken names are mark [] fits)

pub marks_read : MarksAreRead
marks_read names are text mark = (
  λ e. mark_told names text mark e,
  λ h. ap (mark_in names) h.1 ∙ mark_text_read names are mark h.0,
)

-- what is read has a place for each atom
pub mark_fits : (names : List (List ℕ)) (text : List ℕ) (found : Option SiteMark) → found ≡ mark_in names text → IfSome found (λ mark. FitsAtoms (length names) mark.executed mark.pending mark.included)
mark_fits names text None e = tt
mark_fits names text (Some mark) e = (mark_told names text mark (sym e)).0
