-- The lines that end in a piece, one after the other.
use Rattle.std.proofs.Common.{◌≡◌, ◌≢◌, ℕ, zero, suc, ◌+◌, ◌-◌, ◌*◌, ◌<◌, ◌≤◌, List, [], ◌∷◌, ◌++◌, length, take, drop, codes, Some, Ok, Err, refl, sym, ap, subst, ◌∙◌, append_assoc, length-append, arith}
use Rattle.std.specs.Prelude.{Option, None, Result, IfErr, OnOk, OnErr}
use Rattle.std.specs.Io.KnownBytes.{Appends}
use Rattle.std.proofs.lemmas.List.{append-nil, length-drop, take_all, take_rest}
use Rattle.dcr_base.specs.Count.{CountsFault, Rose}
use Rattle.dcr_base.specs.declared.writing.WriteFault.{WriteFault}
use Rattle.dcr_text.specs.Cutting.{Cutter, CutsLine, TakesAll, begun}
use Rattle.dcr_text.specs.declared.cutter.Cut.{Cut}
use Rattle.dcr_text.specs.declared.cutter.Cut.TheVariants.{More, Line, TooLong}
use Rattle.dcr_tape.specs.declared.tape.Store.{Store}
use Rattle.dcr_turn.specs.PassValue.{PassValue}
use Rattle.dcr_cell.specs.ClusterId.{ClusterId}
use Rattle.dcr_link.specs.declared.end.WorkCause.{WorkCause}
use Rattle.dcr_link.specs.declared.end.WorkCause.TheVariants.{LongLine, ManyLines}
use Rattle.dcr_link.specs.Replies.{Terms, asked_by, ended, made_since, most_bytes, most_lines}
use Rattle.dcr_link.specs.Serving.{Served}
use Rattle.dcr_link.specs.TalkModel.{TalkValue}
use Rattle.dcr_link.specs.Talking.{CutsNext, Going, HasAnswered, HasEnded, bytes_spare}
use Rattle.dcr_link.proofs.LineLemmas.{last_said, none_added, said_last}
use Rattle.dcr_link.proofs.TalkLemmas.{ends_line, ends_long, ends_many, going_line, going_more, rest_whole}

pub added_then : (a b c : Option (List ℕ)) (x y : List ℕ) → Appends a b x → Appends b c y → Appends a c (x ++ y)
added_then None b c x y first next = tt
added_then (Some a) None c x y first next = absurd first
added_then (Some a) (Some b) None x y first next = absurd next
added_then (Some a) (Some b) (Some c) x y first next = next ∙ ap (λ (l : List ℕ). l ++ y) first ∙ append_assoc a x y

-- a count that stood still before it rose
pub risen : {A E : Type 0} (said : Result A E) (first middle last : ℕ) → middle ≡ first → CountsFault said middle last → OnErr said (Rose first last)
risen (Ok done) first middle last same fault = tt
risen (Err stop) first middle last same fails = subst (λ (n : ℕ). Rose n last) same fails.1

take_more_of : {X : Type 0} (xs : List X) (n m : ℕ) → take (n + m) xs ≡ take n xs ++ take m (drop n xs)
take_more_of xs zero m = ap (λ (k : ℕ). take k xs) (let e : 0 + m ≡ m = omega arith in e)
take_more_of [] (suc n) m = ap (λ (k : ℕ). take k []) (let e : suc n + m ≡ suc (n + m) = omega arith in e) ∙ sym (nothing m)
  where
    nothing : {X : Type 0} (m : ℕ) → take {A = X} m [] ≡ []
    nothing zero = refl
    nothing (suc m) = refl
take_more_of {X = X} (x ∷ xs) (suc n) m =
    ap (λ (k : ℕ). take k (x ∷ xs)) (let e : suc n + m ≡ suc (n + m) = omega arith in e) ∙ ap (λ (l : List X). x ∷ l) (take_more_of xs n m)

-- what is cut is all that is left of the piece
pub whole_piece : (piece : List ℕ) (used n : ℕ) (cut : Cut) (talk next : TalkValue) → CutsNext talk (take (length piece - used) (drop used piece)) n cut next
    → CutsNext talk (drop used piece) n cut next
whole_piece piece used n cut talk next cuts = subst (λ (p : List ℕ). CutsNext talk p n cut next) (take_rest piece used) cuts

-- ---- how many bytes may still come

spare_by : (lines next begun_now begun_next n : ℕ) → next ≡ lines → begun_next ≡ begun_now + n → begun_next ≤ most_bytes
    → (most_lines - next) * (most_bytes + 1) + (most_bytes - begun_next) + n ≤ (most_lines - lines) * (most_bytes + 1) + (most_bytes - begun_now)
spare_by lines next begun_now begun_next n same grown fits = subst (λ (k : ℕ). (most_lines - k) * (most_bytes + 1) + (most_bytes - begun_next) + n ≤ (most_lines - lines) * (most_bytes + 1) + (most_bytes - begun_now)) (sym same) (omega arith)

spare_off : (lines next begun_now begun_next n : ℕ) → next ≡ lines + 1 → lines < most_lines → begun_next ≡ 0 → begun_now + n ≤ most_bytes + 1
    → (most_lines - next) * (most_bytes + 1) + (most_bytes - begun_next) + n ≤ (most_lines - lines) * (most_bytes + 1) + (most_bytes - begun_now)
spare_off lines next begun_now begun_next n more less none fits = omega arith

pub spare_more : (talk next : TalkValue) (piece : List ℕ) (n : ℕ) → CutsNext talk piece n More next → bytes_spare next + n ≤ bytes_spare talk
spare_more talk next piece n cut =
    let takes : TakesAll talk.cutter piece n next.cutter = cut.cuts in
    let now : length (begun next.cutter) ≡ length (begun talk.cutter ++ piece) = ap (λ (k : Cutter). length (begun k)) takes.after_is in
    spare_by talk.lines next.lines (length (begun talk.cutter)) (length (begun next.cutter)) n
    (ap (λ (t : TalkValue). t.lines) cut.same ∙ (let e : talk.lines + 0 ≡ talk.lines = omega arith in e))
    (now ∙ length-append (begun talk.cutter) piece ∙ ap (λ (k : ℕ). length (begun talk.cutter) + k) (sym takes.used_is))
    (subst (λ (k : ℕ). k ≤ most_bytes) (sym now) (subst (λ (k : ℕ). length (begun talk.cutter ++ piece) ≤ k) cut.limit takes.fits))

pub spare_line : (talk next : TalkValue) (piece : List ℕ) (n : ℕ) → CutsNext talk piece n Line next → talk.lines < most_lines → bytes_spare next + n ≤ bytes_spare talk
spare_line talk next piece n cut less =
    let cuts : CutsLine talk.cutter piece n next.cutter = cut.cuts in
    let fits : length (begun talk.cutter ++ cuts.head) ≤ most_bytes = subst (λ (k : ℕ). length (begun talk.cutter ++ cuts.head) ≤ k) cut.limit cuts.fits in
    spare_off talk.lines next.lines (length (begun talk.cutter)) (length (begun next.cutter)) n
    (ap (λ (t : TalkValue). t.lines) cut.same) less (ap (λ (k : Cutter). length (begun k)) cuts.after_is)
    (room (length (begun talk.cutter)) (length cuts.head) (length (begun talk.cutter ++ cuts.head)) n (length-append (begun talk.cutter) cuts.head) cuts.used_is fits)
  where
    room : (b h l n : ℕ) → l ≡ b + h → n ≡ h + 1 → l ≤ most_bytes → b + n ≤ most_bytes + 1
    room b h l n sum is fits = omega arith

pub spare_then : (old now next used n : ℕ) → now + used ≤ old → next + n ≤ now → next + (used + n) ≤ old
spare_then old now next used n first more = omega arith

module _ {D : Type 0} (c : ClusterId) (first : Option (Store D)) (capacity : ℕ) (terms : Terms) where
  -- all lines that ended in the front of the piece were answered
  abbrev pub StillGoing : PassValue → PassValue → TalkValue → List ℕ → List ℕ → Option (List ℕ) → Option (List ℕ) → Type 0
  StillGoing before pass talk came written had has =
      (more : List ℕ) × Appends had has more × Going c first capacity terms before pass talk came (written ++ more)

  module _ (before pass : PassValue) (talk : TalkValue) (piece came written : List ℕ) (had has : Option (List ℕ)) where
    pub going_first : Going c first capacity terms before pass talk came written → StillGoing before pass talk (came ++ take 0 piece) written had had
    going_first going = (
      [],
      none_added had,
      subst (λ (l : List ℕ). Going c first capacity terms before pass talk l (written ++ [])) (sym (append-nil came))
          (subst (Going c first capacity terms before pass talk came) (sym (append-nil written)) going),
    )

    pub going_last : (used : ℕ) → used ≤ length piece → length piece ≤ used → StillGoing before pass talk (came ++ take used piece) written had has
        → StillGoing before pass talk (came ++ piece) written had has
    going_last used within all going =
        subst (λ (l : List ℕ). StillGoing before pass talk (came ++ l) written had has)
        (ap (λ (n : ℕ). take n piece) (let e : used ≡ length piece = omega arith in e) ∙ take_all (length piece) piece (omega arith)) going

    -- an end, by what came before the piece and by the whole of it
    moved : (after : PassValue) (used : ℕ) (a b : List ℕ) (failed : Type 0) (cause : WorkCause) (more : List ℕ)
        → Served first capacity terms ((came ++ take used piece) ++ (drop used piece ++ more)) before after ((written ++ a) ++ b) failed (record { calls = length (made_since before after); cause = cause })
        → Served first capacity terms ((came ++ piece) ++ more) before after (written ++ (a ++ b)) failed (record { calls = length (made_since before after); cause = cause })
    moved after used a b failed cause more served =
        subst (λ (l : List ℕ). Served first capacity terms l before after (written ++ (a ++ b)) failed (record { calls = length (made_since before after); cause = cause }))
        (rest_whole c first capacity terms came piece more used ∙ sym (append_assoc came piece more))
        (subst (λ (l : List ℕ). Served first capacity terms ((came ++ take used piece) ++ (drop used piece ++ more)) before after l failed (record { calls = length (made_since before after); cause = cause }))
        (append_assoc written a b) served)

    -- no line more may be answered, and a byte is left
    pub end_many : (used : ℕ) (then : Option (List ℕ)) (failed : Type 0) (bytes : List ℕ) (said : Result (Unit {0}) WriteFault) → StillGoing before pass talk (came ++ take used piece) written had has
        → talk.lines ≡ most_lines → used < length piece → bytes ≡ ended (codes "many-lines")
        → OnOk said (Appends has then bytes) → IfErr said (λ (fault : WriteFault). Appends has then (take fault.written bytes)) → OnErr said failed
        → (x : List ℕ) × Appends had then x × HasEnded c first capacity terms before pass (came ++ piece) (written ++ x) failed ManyLines
    end_many used then failed bytes said going most left is all front fault =
        let sent = said_last c first capacity terms has then failed (codes "many-lines") bytes said is
        (last_said c first capacity terms has then failed bytes bytes said refl all front fault) in
        let some : drop used piece ≢ [] = λ nothing. absurd (let n = ap length nothing in let m = length-drop used piece in omega arith) in (
          going.0 ++ sent.0,
          added_then had has then going.0 sent.0 going.1 sent.1,
          λ more.
              moved pass used going.0 sent.0 failed ManyLines more
              (ends_many c first capacity terms before pass talk (drop used piece) (came ++ take used piece) (written ++ going.0) sent.0 failed going.2 most some sent.2 more),
        )

    -- the line has too many bytes
    pub end_long : (used n : ℕ) (cut : Cut) (next : TalkValue) (then : Option (List ℕ)) (failed : Type 0) (bytes : List ℕ) (said : Result (Unit {0}) WriteFault)
        → StillGoing before pass talk (came ++ take used piece) written had has → CutsNext talk (drop used piece) n cut next → cut ≡ TooLong → talk.lines < most_lines
        → bytes ≡ ended (codes "long-line")
        → OnOk said (Appends has then bytes) → IfErr said (λ (fault : WriteFault). Appends has then (take fault.written bytes)) → OnErr said failed
        → (x : List ℕ) × Appends had then x × HasEnded c first capacity terms before pass (came ++ piece) (written ++ x) failed LongLine
    end_long used n cut next then failed bytes said going cuts is_long spare is all front fault =
        let sent = said_last c first capacity terms has then failed (codes "long-line") bytes said is
        (last_said c first capacity terms has then failed bytes bytes said refl all front fault) in (
          going.0 ++ sent.0,
          added_then had has then going.0 sent.0 going.1 sent.1,
          λ more.
              moved pass used going.0 sent.0 failed LongLine more
              (ends_long c first capacity terms before pass talk next (drop used piece) (came ++ take used piece) (written ++ going.0) sent.0 n failed going.2 spare
              (subst (λ (k : Cut). CutsNext talk (drop used piece) n k next) is_long cuts) sent.2 more),
        )

    module _ (used n : ℕ) (cut : Cut) (next : TalkValue) (going : StillGoing before pass talk (came ++ take used piece) written had has)
        (cuts : CutsNext talk (drop used piece) n cut next) where
      front_more : (came ++ take used piece) ++ take n (drop used piece) ≡ came ++ take (used + n) piece
      front_more = append_assoc came (take used piece) (take n (drop used piece)) ∙ ap (λ (l : List ℕ). came ++ l) (sym (take_more_of piece used n))

      pub still_more : cut ≡ More → talk.lines < most_lines → StillGoing before pass next (came ++ take (used + n) piece) written had has
      still_more is spare =
          let more : CutsNext talk (drop used piece) n More next = subst (λ (k : Cut). CutsNext talk (drop used piece) n k next) is cuts in
          let takes : TakesAll talk.cutter (drop used piece) n next.cutter = more.cuts in
          let whole : (came ++ take used piece) ++ drop used piece ≡ came ++ take (used + n) piece =
          ap (λ (l : List ℕ). (came ++ take used piece) ++ l) (sym (ap (λ (k : ℕ). take k (drop used piece)) takes.used_is ∙ take_all (length (drop used piece)) (drop used piece) (omega arith))) ∙ front_more in (
            going.0,
            going.1,
            subst (λ (l : List ℕ). Going c first capacity terms before pass next l (written ++ going.0)) whole
                (going_more c first capacity terms before pass talk next (drop used piece) (came ++ take used piece) (written ++ going.0) n going.2 more spare),
          )

      module _ (is : cut ≡ Line) (spare : talk.lines < most_lines) (after : PassValue) (told : TalkValue) (then : Option (List ℕ)) (failed : Type 0) (result : Option WorkCause)
          (answered : (sent : List ℕ) × Appends has then sent × HasAnswered c first capacity terms (asked_by terms before.session next.cutter.bytes) pass after sent failed result) where
        line_cut : CutsNext talk (drop used piece) n Line next
        line_cut = subst (λ (k : Cut). CutsNext talk (drop used piece) n k next) is cuts

        pub still_line : told.cutter ≡ next.cutter → told.lines ≡ next.lines → result ≡ None → StillGoing before after told (came ++ take (used + n) piece) written had then
        still_line same_cutter same_lines none =
            let by : HasAnswered c first capacity terms (asked_by terms before.session next.cutter.bytes) pass after answered.0 failed None =
            subst (HasAnswered c first capacity terms (asked_by terms before.session next.cutter.bytes) pass after answered.0 failed) none answered.2 in (
              going.0 ++ answered.0,
              added_then had has then going.0 answered.0 going.1 answered.1,
              subst (λ (l : List ℕ). Going c first capacity terms before after told l (written ++ (going.0 ++ answered.0))) front_more
                  (subst (Going c first capacity terms before after told ((came ++ take used piece) ++ take n (drop used piece)))
                  (ap (λ (l : List ℕ). (written ++ going.0) ++ l) (sym by.2) ∙ append_assoc written going.0 answered.0)
                  (going_line c first capacity terms before pass after talk next (drop used piece) (came ++ take used piece) (written ++ going.0) n going.2 line_cut spare by.0 told same_cutter same_lines by.1)),
            )

        -- the session has ended with the line
        pub end_line : (cause : WorkCause) → result ≡ Some cause
            → (x : List ℕ) × Appends had then x × HasEnded c first capacity terms before after (came ++ piece) (written ++ x) failed cause
        end_line cause some =
            let by : HasAnswered c first capacity terms (asked_by terms before.session next.cutter.bytes) pass after answered.0 failed (Some cause) =
            subst (HasAnswered c first capacity terms (asked_by terms before.session next.cutter.bytes) pass after answered.0 failed) some answered.2 in (
              going.0 ++ answered.0,
              added_then had has then going.0 answered.0 going.1 answered.1,
              λ more.
                  moved after used going.0 answered.0 failed cause more
                  (ends_line c first capacity terms before pass after talk next (drop used piece) (came ++ take used piece) (written ++ going.0) answered.0 n failed _ cause going.2 line_cut spare refl by more),
            )

-- what was answered, by the terms, the session and the count from which the piece began
pub answered_as : {D : Type 0} (c : ClusterId) (first : Option (Store D)) (capacity : ℕ) (terms terms_then : Terms) (session session_then : ℕ) (bytes : List ℕ) (pass after : PassValue)
    (has then : Option (List ℕ)) (faults faults_then last : ℕ) (result : Option WorkCause) → terms_then ≡ terms → session_then ≡ session → faults_then ≡ faults
    → (sent : List ℕ) × Appends has then sent × HasAnswered c first capacity terms_then (asked_by terms_then session_then bytes) pass after sent (Rose faults_then last) result
    → (sent : List ℕ) × Appends has then sent × HasAnswered c first capacity terms (asked_by terms session bytes) pass after sent (Rose faults last) result
answered_as c first capacity terms terms_then session session_then bytes pass after has then faults faults_then last result same_terms same_session same_faults (sent, added, answered) = (
  sent,
  added,
  subst (λ (n : ℕ). HasAnswered c first capacity terms (asked_by terms session bytes) pass after sent (Rose n last) result) same_faults
      (subst (λ (s : ℕ). HasAnswered c first capacity terms (asked_by terms s bytes) pass after sent (Rose faults_then last) result) same_session
      (subst (λ (t : Terms). HasAnswered c first capacity t (asked_by t session_then bytes) pass after sent (Rose faults_then last) result) same_terms answered)),
)
