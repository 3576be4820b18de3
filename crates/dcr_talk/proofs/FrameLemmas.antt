-- Bytes that are frames.
use Rattle.std.proofs.Common.{◌≡◌, ℕ, ◌+◌, ◌<◌, ◌≤◌, Bool, true, false, cond, eqb, List, [], ◌∷◌, ◌++◌, length, take, Some, None, refl, sym, ap, subst, ◌∙◌, append_assoc, arith}
use Rattle.std.specs.Prelude.{slice_index, ◌||◌}
use Rattle.std.proofs.lemmas.List.{append-nil, append_cancel_left, get_or_append_left, length-append}
use Rattle.std.proofs.lemmas.Option.{same_Some, none-some}
use Rattle.std.proofs.Math.Seq.{take-append_seam}
use Rattle.dcr_wire.specs.Laws.{Sent, SpellSent, length_told}
use Rattle.dcr_wire.proofs.AnswerLemmas.{length_is_told, spell_one_sent}
use Rattle.dcr_talk.specs.Frames.{SpellAll, HasNoFrame}

-- what a first byte tells is twelve bytes at least
told_by_tests : (a b c : Bool) (n : ℕ) → cond a (Some 14) (cond b (Some 12) (cond c (Some 400) None)) ≡ Some n → 12 ≤ n
told_by_tests true b c n is = let same = same_Some 14 n is in omega arith
told_by_tests false true c n is = let same = same_Some 12 n is in omega arith
told_by_tests false false true n is = let same = same_Some 400 n is in omega arith
told_by_tests false false false n none = absurd (none-some n none)

pub told_is_long : (kind n : ℕ) → length_told kind ≡ Some n → 12 ≤ n
told_is_long kind n is = told_by_tests (eqb kind 1 || (eqb kind 2 || eqb kind 3)) (eqb kind 4) (eqb kind 5) n is

-- the first byte of what begins with a frame is that of the frame
pub first_byte : (first rest : List ℕ) → 12 ≤ length first → slice_index (first ++ rest) 0 ≡ slice_index first 0
first_byte first rest long = get_or_append_left first rest 0 0 (omega arith)

-- of two that begin as the same bytes the first frames are one
pub one_frame : (first rest second left : List ℕ) (one two : Sent) → SpellSent first one → SpellSent second two → first ++ rest ≡ second ++ left
    → (first ≡ second) × (rest ≡ left) × (one ≡ two)
one_frame first rest second left one two spelled others same =
    let told = length_is_told first one spelled in
    let told_too = length_is_told second two others in
    let kind : slice_index first 0 ≡ slice_index second 0 =
    sym (first_byte first rest (told_is_long (slice_index first 0) (length first) told)) ∙ ap (λ b. slice_index b 0) same
    ∙ first_byte second left (told_is_long (slice_index second 0) (length second) told_too) in
    let long : length first ≡ length second = same_Some (length first) (length second) (sym told ∙ ap length_told kind ∙ told_too) in
    let firsts : first ≡ second =
    sym (take-append_seam first rest) ∙ ap (take (length first)) same ∙ ap (λ n. take n (second ++ left)) long ∙ take-append_seam second left in (
      firsts,
      append_cancel_left first rest left (same ∙ ap (λ x. x ++ left) (sym firsts)),
      spell_one_sent first one two spelled (subst (λ b. SpellSent b two) (sym firsts) others),
    )

-- what is one
pub one_spelled : (bytes : List ℕ) (one : Sent) → SpellSent bytes one → SpellAll bytes (one ∷ [])
one_spelled bytes one spelled = (bytes, [], sym (append-nil bytes), spelled, refl)

-- and what is behind others
pub spell_append : (xs ys : List ℕ) (ms ns : List Sent) → SpellAll xs ms → SpellAll ys ns → SpellAll (xs ++ ys) (ms ++ ns)
spell_append xs ys [] ns none others = subst (λ b. SpellAll (b ++ ys) ns) (sym none) others
spell_append xs ys (m ∷ ms) ns spelled others = (
  spelled.0,
  spelled.1 ++ ys,
  ap (λ b. b ++ ys) spelled.2 ∙ append_assoc spelled.0 spelled.1 ys,
  spelled.3,
  spell_append spelled.1 ys ms ns spelled.4 others,
)

-- whole frames that begin the bytes of others are of the first of these
pub beginning : (heard unheard whole behind : List ℕ) (asked messages : List Sent) → SpellAll heard asked → SpellAll whole messages → HasNoFrame behind
    → heard ++ unheard ≡ whole ++ behind → (more : List Sent) × (messages ≡ asked ++ more)
beginning heard unheard whole behind [] messages spelled others none same = (messages, refl)
beginning heard unheard whole behind (one ∷ asked) [] spelled others none same =
    let first = spelled.0 in let rest = spelled.1 in
    let told = length_is_told first one spelled.3 in
    let long = told_is_long (slice_index first 0) (length first) told in
    let all : behind ≡ first ++ (rest ++ unheard) =
    sym (same ∙ ap (λ w. w ++ behind) others) ∙ ap (λ h. h ++ unheard) spelled.2 ∙ append_assoc first rest unheard in
    let short : length behind < length first = none (length first) (ap (λ b. length_told (slice_index b 0)) all ∙ ap length_told (first_byte first (rest ++ unheard) long) ∙ told) in
    let many : length behind ≡ length first + length (rest ++ unheard) = ap (λ b. length b) all ∙ length-append first (rest ++ unheard) in
    absurd (omega arith)
beginning heard unheard whole behind (one ∷ asked) (two ∷ messages) spelled others none same =
    let first = spelled.0 in let rest = spelled.1 in let second = others.0 in let left = others.1 in
    let all : first ++ (rest ++ unheard) ≡ second ++ (left ++ behind) =
    sym (append_assoc first rest unheard) ∙ ap (λ h. h ++ unheard) (sym spelled.2) ∙ same ∙ ap (λ w. w ++ behind) others.2 ∙ append_assoc second left behind in
    let both = one_frame first (rest ++ unheard) second (left ++ behind) one two spelled.3 others.3 all in
    let further = beginning rest unheard left behind asked messages spelled.4 others.4 none both.1 in
    (further.0, ap (λ m. two ∷ m) further.1 ∙ ap (λ o. o ∷ (asked ++ further.0)) (sym both.2))
