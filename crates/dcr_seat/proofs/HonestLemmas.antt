-- What a link gave that says what a site's machine could say, part by part.
use Rattle.std.proofs.Common.{◌≡◌, ◌⊎◌, ℕ, List, [], ◌∷◌, ◌++◌, length, Option, Some, inl, inr, refl, sym, ap, subst, ◌∙◌, append_assoc, arith}
use Rattle.std.specs.Io.KnownBytes.{Appends, Consumes}
use Rattle.std.proofs.lemmas.List.{append-nil, append_cancel_left, append_cancel_right, length-append}
use Rattle.std.proofs.lemmas.Option.{same_Some}
use Rattle.dcr_base.specs.Link.{Links}
use Rattle.dcr_set.specs.EventSet.{Set}
use Rattle.dcr_graph.specs.Rows.{row}
use Rattle.dcr_graph.specs.Rules.{Rules}
use Rattle.dcr_graph.specs.declared.marking.Marking.{Marking}
use Rattle.dcr_wire.specs.Laws.{Sent}
use Rattle.dcr_node.specs.SiteState.{SiteState}
use Rattle.dcr_node.specs.WorldState.{site_at}
use Rattle.dcr_talk.specs.Frames.{SpellAll, HasNoFrame}
use Rattle.dcr_talk.specs.Speaks.{Speaks}
use Rattle.dcr_talk.specs.Talk.{CouldSay, told_by, after_all}
use Rattle.dcr_talk.proofs.FrameLemmas.{told_is_long, one_frame, beginning}
use Rattle.dcr_talk.proofs.TalkLemmas.{in_order}
use Rattle.dcr_seat.specs.Exchange.{Talk}
use Rattle.dcr_seat.specs.InStep.{AreInStep, questions_in}
use Rattle.dcr_seat.specs.Laws.{IsHonest}
use Rattle.dcr_seat.proofs.InStepLemmas.{as_many}

-- one list begins with the other
abbrev Begins : List Sent → List Sent → Type 0
Begins xs ys = (more : List Sent) × (ys ≡ xs ++ more)

-- of frames that begin the same bytes one list begins the other
both_begin : (a u b v : List ℕ) (xs ys : List Sent) → SpellAll a xs → SpellAll b ys → a ++ u ≡ b ++ v → Begins xs ys ⊎ Begins ys xs
both_begin a u b v [] ys spelled others same = inl (ys, refl)
both_begin a u b v (one ∷ xs) [] spelled others same = inr (one ∷ xs, refl)
both_begin a u b v (one ∷ xs) (two ∷ ys) spelled others same =
    let first = spelled.0 in let rest = spelled.1 in let second = others.0 in let left = others.1 in
    let all : first ++ (rest ++ u) ≡ second ++ (left ++ v) =
    sym (append_assoc first rest u) ∙ ap (λ h. h ++ u) (sym spelled.2) ∙ same ∙ ap (λ w. w ++ v) others.2 ∙ append_assoc second left v in
    let both = one_frame first (rest ++ u) second (left ++ v) one two spelled.3 others.3 all in
    elim (both_begin rest u left v xs ys spelled.4 others.4 both.1) [
      | inl more ↦ inl (more.0, ap (λ m. two ∷ m) more.1 ∙ ap (λ o. o ∷ (xs ++ more.0)) (sym both.2))
      | inr more ↦ inr (more.0, ap (λ m. one ∷ m) more.1 ∙ ap (λ o. o ∷ (ys ++ more.0)) both.2)
    ]

-- a list that is as long as one that it begins with, or that begins with it, is that one
no_more : (xs more : List Sent) → length (xs ++ more) ≡ length xs → xs ++ more ≡ xs
no_more xs [] same = append-nil xs
no_more xs (one ∷ more) same = let long = length-append xs (one ∷ more) in absurd (omega arith)

same_long : (xs ys : List Sent) → Begins xs ys ⊎ Begins ys xs → length xs ≡ length ys → xs ≡ ys
same_long xs ys (inl more) same = sym (more.1 ∙ no_more xs more.0 (sym (ap (λ (z : List Sent). length z) more.1) ∙ sym same))
same_long xs ys (inr more) same = more.1 ∙ no_more ys more.0 (sym (ap (λ (z : List Sent). length z) more.1) ∙ same)

-- two beginnings of one list begin each other
begin_one : (xs ys us vs : List Sent) → xs ++ us ≡ ys ++ vs → Begins xs ys ⊎ Begins ys xs
begin_one [] ys us vs same = inl (ys, refl)
begin_one (x ∷ xs) [] us vs same = inr (x ∷ xs, refl)
begin_one (x ∷ xs) (y ∷ ys) us vs same =
    let heads : x ≡ y = ap (λ (zs : List Sent). head_or x zs) same in
    let tails : xs ++ us ≡ ys ++ vs = ap (λ (zs : List Sent). tail_of zs) same in
    elim (begin_one xs ys us vs tails) [
      | inl more ↦ inl (more.0, ap (λ m. y ∷ m) more.1 ∙ ap (λ o. o ∷ (xs ++ more.0)) (sym heads))
      | inr more ↦ inr (more.0, ap (λ m. x ∷ m) more.1 ∙ ap (λ o. o ∷ (ys ++ more.0)) heads)
    ]
  where
    head_or : Sent → List Sent → Sent
    head_or d [] = d
    head_or d (z ∷ zs) = z

    tail_of : List Sent → List Sent
    tail_of [] = []
    tail_of (z ∷ zs) = zs

module _ (G : Rules) (S : Set) (node : SiteState) where
  -- what is answered to a beginning begins what is answered
  told_begins : (xs ys : List Sent) → Begins xs ys → Begins (told_by G S node xs) (told_by G S node ys)
  told_begins xs ys more = (told_by G S (after_all G S node xs) more.0, ap (told_by G S node) more.1 ∙ in_order G S node xs more.0)

  -- answers that begin what is answered to a list that begins with what was asked, or with which that begins
  part_is : (asked others answers : List Sent) → Begins asked others ⊎ Begins others asked → Begins answers (told_by G S node others)
      → length answers ≡ length (told_by G S node asked) → answers ≡ told_by G S node asked
  part_is asked others answers (inl more) said long =
      let further = told_begins asked others more in
      same_long answers (told_by G S node asked) (begin_one answers (told_by G S node asked) said.0 further.0 (sym said.1 ∙ further.1)) long
  part_is asked others answers (inr more) said long =
      let further = told_begins others asked more in
      let all : told_by G S node asked ≡ answers ++ (said.0 ++ further.0) =
      further.1 ∙ ap (λ t. t ++ further.0) said.1 ∙ append_assoc answers said.0 further.0 in
      same_long answers (told_by G S node asked) (inl (said.0 ++ further.0, all)) long

-- no frame stands in no bytes
nothing_behind : HasNoFrame []
nothing_behind n is = let long = told_is_long 0 n is in omega arith

-- what could be said begins with what was answered, where that begins what was given
said_begins : (given rest said unsaid : List ℕ) (answers told : List Sent) → SpellAll given answers → SpellAll said told → said ≡ (given ++ rest) ++ unsaid
    → Begins answers told
said_begins given rest said unsaid answers told spelled others same =
    beginning given (rest ++ unsaid) said [] answers told spelled others nothing_behind (sym (append_assoc given rest unsaid) ∙ sym same ∙ sym (append-nil said))

-- ---- what went over a link, by what it tells and by what stays of it

-- what a side has lost is what was read
read_is : (before after : Option (List ℕ)) (read gave left : List ℕ) → Consumes before after read → before ≡ Some (gave ++ left) → after ≡ Some left → gave ≡ read
read_is before after read gave left consumed had has =
    let both : gave ++ left ≡ read ++ left =
    subst (λ (o : Option (List ℕ)). Consumes o (Some left) read) had (subst (λ (o : Option (List ℕ)). Consumes before o read) has consumed) in
    append_cancel_right gave read left both

-- and what it has more is what was written
written_is : (before after : Option (List ℕ)) (written had took : List ℕ) → Appends before after written → before ≡ Some had → after ≡ Some (had ++ took) → took ≡ written
written_is before after written had took appended was is =
    let both : had ++ took ≡ had ++ written =
    subst (λ (o : Option (List ℕ)). Appends o (Some (had ++ took)) written) was (subst (λ (o : Option (List ℕ)). Appends before o written) is appended) in
    append_cancel_left had took written both

-- ---- a part of a talk

pub part_is_honest : (G : Rules) (C : List Set) (M : Marking) (i : ℕ) (asked answers : List Sent) (taken unasked given unheard : List ℕ) → CouldSay G C M i (given ++ unheard) (taken ++ unasked)
    → SpellAll taken asked → SpellAll given answers → AreInStep i asked → length answers ≡ questions_in asked → IsHonest G C M i asked answers
part_is_honest G C M i asked answers taken unasked given unheard could spelled answered in_step even =
    let node = site_at G C M i in
    let told = told_by G (row C i) node could.asked in
    let begins = both_begin taken unasked could.heard could.unheard asked could.asked spelled could.frames could.took in
    let said = said_begins given unheard could.said could.unsaid answers told answered could.answers could.gave in
    part_is G (row C i) node asked could.asked answers begins said (even ∙ sym (as_many G (row C i) i [] asked node in_step refl refl))

pub talk_is_honest : {L R : Type 0} (tells : Links L R) (links : Option (List L)) (greets : ℕ → List ℕ → List ℕ → Type 0) (G : Rules) (C : List Set) (M : Marking) (number i : ℕ) (rest : R)
    (asked answers : List Sent) (unheard unasked : List ℕ) → Speaks tells links greets G C M number rest
    → Talk tells links greets number i asked answers unheard unasked (tells.unread rest) (tells.sent rest) → length answers ≡ questions_in asked → IsHonest G C M i asked answers
talk_is_honest tells links greets G C M number i rest asked answers unheard unasked speaks talk even =
    let went = talk.went in
    let one : went.link ≡ speaks.link =
    same_Some went.link speaks.link (sym (went.numbered speaks.numbered.0 speaks.numbered.1) ∙ speaks.numbered.2) in
    let gave : speaks.gave ≡ talk.hello ++ (talk.given ++ unheard) =
    read_is (tells.gives went.link).bytes (tells.unread rest).bytes (talk.hello ++ (talk.given ++ unheard)) speaks.gave speaks.read.0 went.gave
    (ap (λ l. (tells.gives l).bytes) one ∙ speaks.read.1) speaks.read.2 in
    let took : speaks.took ≡ talk.challenge ++ (talk.taken ++ unasked) =
    written_is (tells.takes went.link).bytes (tells.sent rest).bytes (talk.challenge ++ (talk.taken ++ unasked)) speaks.wrote.0 speaks.took went.took
    (ap (λ l. (tells.takes l).bytes) one ∙ speaks.wrote.1) speaks.wrote.2 in
    let could = speaks.could i talk.challenge (talk.taken ++ unasked) talk.hello (talk.given ++ unheard) took gave talk.greeted in
    part_is_honest G C M i asked answers talk.taken unasked talk.given unheard could talk.spelled talk.answered talk.in_step even
