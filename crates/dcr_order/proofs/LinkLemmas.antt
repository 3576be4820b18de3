-- The links of the sites: one is ended, one has answered, and the journal grows.
use Rattle.std.proofs.Common.{◌≡◌, ℕ, ◌+◌, ◌-◌, ◌<◌, Bool, true, not, List, [], ◌∷◌, ◌++◌, length, get_or, set, Option, Some, None, inl, inr, refl, sym, ap, subst, ◌∙◌, append_assoc, arith, length-set}
use Rattle.std.specs.Prelude.{slice_get}
use Rattle.std.specs.List.{All, Contains}
use Rattle.std.specs.Io.KnownBytes.{Appends, Consumes}
use Rattle.std.specs.Option.{IfNone, IfSome, is_some}
use Rattle.std.proofs.lemmas.Bool.{cases_eq, true≢false}
use Rattle.std.proofs.KnownBytes.{Consumes-nil, Consumes-trans, Appends-nil, Appends-trans}
use Rattle.std.proofs.lemmas.List.{append_cancel_left, length-append, set-set, set-get_or}
use Rattle.std.proofs.lemmas.List.Elements.{All-nil, All-cons, All-append, Contains-append_left, Contains-append_right}
use Rattle.std.proofs.lemmas.Option.{same_Some, slice_get_within, slice_get-get_or}
use Rattle.dcr_set.proofs.ListLemmas.{set_cases}
use Rattle.dcr_base.specs.Link.{Links}
use Rattle.dcr_base.specs.Side.{Side}
use Rattle.dcr_cell.specs.ClusterId.{ClusterId}
use Rattle.dcr_journal.specs.declared.call.Entry.{Entry}
use Rattle.dcr_porter.specs.Porter.{HasBack}
use Rattle.dcr_wire.specs.Laws.{Sent}
use Rattle.dcr_node.specs.JournalState.{JournalState, stream_of, withdrawn}
use Rattle.dcr_node.proofs.TruthLemmas.{stream_grows}
use Rattle.dcr_talk.specs.Truth.{IsTrueSent, AreTrue}
use Rattle.dcr_seat.specs.Exchange.{Talk}
use Rattle.dcr_seat.specs.Asking.{Answered, Broken}
use Rattle.dcr_seat.specs.InStep.{AreTold, IsNext, executions_in, questions_in, untold}
use Rattle.dcr_seat.specs.declared.seat.Seat.{Seat}
use Rattle.dcr_seat.proofs.InStepLemmas.{questions_more, told_of_asks_nothing}
use Rattle.dcr_seat.proofs.TalkLemmas.{talk_further, talk_asked, talk_heard}
use Rattle.dcr_seat.proofs.ToldLemmas.{told_kept, told_more, told_question, rest_grows}
use Rattle.dcr_order.specs.Acts.{Moment, Act, proposes, withdraws, hears, answers_of}
use Rattle.dcr_order.specs.Going.{GoesOn, Ends, was_away, has_left, Answers}
use Rattle.dcr_order.specs.Linked.{IsSeated, CameBack, IsOfTalk, over_here, came_back, IsHeard, AreLinked, IsLedFrom, HaveRoomToTell}
use Rattle.dcr_order.specs.declared.place.Place.{Place}
use Rattle.dcr_order.specs.declared.place.Place.TheVariants.{Away, Here}
use Rattle.dcr_order.proofs.PlaceLemmas.{set_there, set_elsewhere, one_there}

-- a site that is away has no link
pub not_here : {L : Type 0} (seat : Seat L) → ◌≡◌ {A = Place L} Away (Here seat) → ⊥
not_here seat is = cc

abbrev seat_or : {L : Type 0} → Seat L → Place L → Seat L
seat_or other Away = other
seat_or other (Here seat) = seat

-- the seat of a place is one
pub seat_is : {L : Type 0} (one seat : Seat L) → ◌≡◌ {A = Place L} (Here one) (Here seat) → one ≡ seat
seat_is one seat is = ap (seat_or one) is

module _ {L R : Type 0} (each : Links L R) (links : Option (List L)) (before : Option (List (ℕ × R))) (greets : ℕ → List ℕ → List ℕ → Type 0) (c : ClusterId) where
  -- ---- the journal grows

  pub seated_kept : (j after : JournalState) (more : List Entry) (i : ℕ) (seat : Seat L) → after.alphabets ≡ j.alphabets → after.history.entries ≡ j.history.entries ++ more
      → IsSeated each links before greets c j i seat → IsSeated each links before greets c after i seat
  seated_kept j after more i seat alphabets entries was =
      let grows = rest_grows j after more alphabets entries in
      let longer : stream_of after i ≡ stream_of j i ++ _ = stream_grows (withdrawn j) (withdrawn after) grows i in
      let long = ap (λ (es : List ℕ). length es) longer ∙ length-append (stream_of j i) _ in
      let within = was.within in
      record {
        asked = was.asked;
        answers = was.answers;
        talk = was.talk;
        told = told_kept c.rules c.owned c.opening j after more i seat.told was.asked alphabets entries was.told;
        within = omega arith;
        even = was.even;
      }

  pub linked_kept : (j after : JournalState) (more : List Entry) (places : List (Place L)) (back : Option (List (ℕ × R))) (acts : List Act) → after.alphabets ≡ j.alphabets
      → after.history.entries ≡ j.history.entries ++ more → AreLinked each links before greets c j places back acts → AreLinked each links before greets c after places back acts
  linked_kept j after more places back acts alphabets entries were = record {
    many = were.many;
    seated = λ i seat here. seated_kept j after more i seat alphabets entries (were.seated i seat here);
    heard = were.heard;
    returned = were.returned;
  }

  -- what was handed to the journal stays so where each moment is of a talk
  pub heard_kept : (places after : List (Place L)) (back back_then : Option (List (ℕ × R))) → ((m : Moment) → IsOfTalk each links before greets c places back m → IsOfTalk each links before greets c after back_then m)
      → (acts : List Act) → All (IsHeard each links before greets c places back) acts → All (IsHeard each links before greets c after back_then) acts
  heard_kept places after back back_then moment acts are = λ k d below. one (get_or acts k d) (are k d below)
    where
      one : (act : Act) → IsHeard each links before greets c places back act → IsHeard each links before greets c after back_then act
      one (proposes p) is = tt
      one withdraws is = tt
      one (hears m) is = (moment m is.0, is.1)

  -- ---- a link is ended

  -- what was handed back since, with one more
  since_more : (back back_then : Option (List (ℕ × R))) (number : ℕ) (rest : R) (since : List (ℕ × R)) → ((had all : List (ℕ × R)) → before ≡ Some had → back ≡ Some all → (s : List (ℕ × R)) × (all ≡ had ++ s))
      → HasBack back number rest back_then → CameBack each links before greets c back_then since
      → (s : List (ℕ × R)) × CameBack each links before greets c back s × (since ≡ s ++ (number, rest) ∷ [])
  since_more None back_then number rest since returned has came = absurd (subst (λ (o : Option (List (ℕ × R))). HasBack None number rest o) came.2 has)
  since_more (Some all) back_then number rest since returned has came =
      let had = came.0 in
      let is : had ++ since ≡ all ++ (number, rest) ∷ [] = subst (λ (o : Option (List (ℕ × R))). HasBack (Some all) number rest o) came.2 has in
      let s = returned had all came.1 refl in
      (s.0, (had, came.1, ap Some s.1), append_cancel_left had since (s.0 ++ (number, rest) ∷ []) (is ∙ ap (λ l. l ++ (number, rest) ∷ []) s.1 ∙ append_assoc had s.0 ((number, rest) ∷ [])))

  returned_more : (back back_then : Option (List (ℕ × R))) (number : ℕ) (rest : R) → ((had all : List (ℕ × R)) → before ≡ Some had → back ≡ Some all → (s : List (ℕ × R)) × (all ≡ had ++ s))
      → HasBack back number rest back_then → (had all : List (ℕ × R)) → before ≡ Some had → back_then ≡ Some all → (s : List (ℕ × R)) × (all ≡ had ++ s)
  returned_more None back_then number rest returned has had all was is = absurd (subst (λ (o : Option (List (ℕ × R))). HasBack None number rest o) is has)
  returned_more (Some old) back_then number rest returned has had all was is =
      let grown : all ≡ old ++ (number, rest) ∷ [] = subst (λ (o : Option (List (ℕ × R))). HasBack (Some old) number rest o) is has in
      let s = returned had old was refl in
      (s.0 ++ (number, rest) ∷ [], grown ∙ ap (λ l. l ++ (number, rest) ∷ []) s.1 ∙ append_assoc had s.0 ((number, rest) ∷ []))

  module _ (j : JournalState) (i : ℕ) (places : List (Place L)) (back back_then : Option (List (ℕ × R))) (acts : List Act) (were : AreLinked each links before greets c j places back acts)
      (seat : Seat L) (rest : R) (here : slice_get places i ≡ Some (Here seat)) (on : GoesOn each seat.link rest) (has : HasBack back seat.number rest back_then) where
    moment_ended : (m : Moment) → IsOfTalk each links before greets c places back m → IsOfTalk each links before greets c (set places i Away) back_then m
    moment_ended m (over_here one unheard unasked there number talk) = elim (cases_eq m.site i) [
      | inl same ↦
          let is : Here one ≡ Here seat = one_there places i m.site (Here seat) (Here one) same here there in
          let seats : one ≡ seat = seat_is one seat is in
          came_back (λ since came.
          let s = since_more back back_then seat.number rest since were.returned has came in (
            rest,
            subst (λ (xs : List (ℕ × R)). Contains xs (m.number, rest)) (sym s.2)
                (subst (λ n. Contains (s.0 ++ (seat.number, rest) ∷ []) (n, rest)) (sym (ap (λ (x : Seat L). x.number) seats) ∙ number)
                (Contains-append_right s.0 ((seat.number, rest) ∷ []) (seat.number, rest) (0, omega arith, refl))),
            (
              unheard ++ on.read,
              unasked ++ on.written,
              talk_further each links greets m.number m.site m.asked (answers_of m) unheard unasked on.read on.written (each.gives one.link) (each.takes one.link) (each.unread rest) (each.sent rest) talk
                  (subst (λ (x : Seat L). Consumes (each.gives x.link).bytes (each.unread rest).bytes on.read) (sym seats) on.reads)
                  (subst (λ (x : Seat L). Appends (each.takes x.link).bytes (each.sent rest).bytes on.written) (sym seats) on.writes),
            ),
          ))
      | inr other ↦ over_here one unheard unasked (set_elsewhere places i m.site Away (Here one) other there) number talk
    ]
    moment_ended m (came_back came) = came_back (λ since now.
        let s = since_more back back_then seat.number rest since were.returned has now in
        let is = came s.0 s.1 in
        (is.0, subst (λ (xs : List (ℕ × R)). Contains xs (m.number, is.0)) (sym s.2) (Contains-append_left s.0 ((seat.number, rest) ∷ []) (m.number, is.0) is.1), is.2))

    link_ended : AreLinked each links before greets c j (set places i Away) back_then acts
    link_ended = record {
      many = length-set places i Away ∙ were.many;
      seated = λ k one there. elim (set_cases places i Away k (Here one) (slice_get_within places i (Here seat) here) there) [
        | inl at ↦ absurd (not_here one (sym at.1))
        | inr other ↦ were.seated k one other.1
      ];
      heard = heard_kept places (set places i Away) back back_then moment_ended acts were.heard;
      returned = returned_more back back_then seat.number rest were.returned has;
    }

  pub linked_ended : (j : JournalState) (i : ℕ) (places after : List (Place L)) (back back_then : Option (List (ℕ × R))) (acts : List Act) → AreLinked each links before greets c j places back acts
      → Ends each i places after back back_then → AreLinked each links before greets c j after back_then acts
  linked_ended j i places after back back_then acts were (was_away away same same_back) =
      subst (λ (b : Option (List (ℕ × R))). AreLinked each links before greets c j after b acts) (sym same_back) (subst (λ (p : List (Place L)). AreLinked each links before greets c j p back acts) (sym same) were)
  linked_ended j i places after back back_then acts were (has_left seat rest here now on has) =
      subst (λ (p : List (Place L)). AreLinked each links before greets c j p back_then acts) (sym now) (link_ended j i places back back_then acts were seat rest here on has)

  -- ---- a site has answered

  -- an answer was read, which is handed to the journal: what the site had been asked until then, this last
  pub record Reads (j after_j : JournalState) (i : ℕ) (question answer : Sent) (places : List (Place L)) (back : Option (List (ℕ × R))) (acts : List Act) : Type 0 where
    pub moment : Moment
    pub site : moment.site ≡ i
    pub is : moment.answer ≡ answer
    pub fore : List Sent
    pub asked : moment.asked ≡ fore ++ question ∷ []
    pub are_true : AreTrue c.rules c.owned c.opening (withdrawn j) fore
    pub linked : AreLinked each links before greets c after_j places back (acts ++ hears moment ∷ [])

  module _ (j : JournalState) (i : ℕ) (places : List (Place L)) (back : Option (List (ℕ × R))) (acts : List Act) (were : AreLinked each links before greets c j places back acts)
      (question answer : Sent) (seat seat_then : Seat L) (here : slice_get places i ≡ Some (Here seat)) (answered : Answered each.gives each.takes j i question answer seat seat_then) where
    moment_goes_on : (m : Moment) → IsOfTalk each links before greets c places back m → IsOfTalk each links before greets c (set places i (Here seat_then)) back m
    moment_goes_on m (over_here one unheard unasked there number talk) = elim (cases_eq m.site i) [
      | inl same ↦
          let is : Here one ≡ Here seat = one_there places i m.site (Here seat) (Here one) same here there in
          let seats : one ≡ seat = seat_is one seat is in
          over_here seat_then (unheard ++ answered.bytes) (unasked ++ answered.asked.0)
          (subst (λ n. slice_get (set places i (Here seat_then)) n ≡ Some (Here seat_then)) (sym same) (set_there places i (Here seat_then) (Here seat) here))
          (answered.number ∙ sym (ap (λ (x : Seat L). x.number) seats) ∙ number)
          (talk_further each links greets m.number m.site m.asked (answers_of m) unheard unasked answered.bytes answered.asked.0 (each.gives one.link) (each.takes one.link) (each.gives seat_then.link)
          (each.takes seat_then.link) talk
          (subst (λ (x : Seat L). Consumes (each.gives x.link).bytes (each.gives seat_then.link).bytes answered.bytes) (sym seats) answered.heard)
          (subst (λ (x : Seat L). Appends (each.takes x.link).bytes (each.takes seat_then.link).bytes answered.asked.0) (sym seats) answered.asked.2.0))
      | inr other ↦ over_here one unheard unasked (set_elsewhere places i m.site (Here seat_then) (Here one) other there) number talk
    ]
    moment_goes_on m (came_back came) = came_back came

    pub link_answered : (after : JournalState) (more : List Entry) → after.alphabets ≡ j.alphabets → after.history.entries ≡ j.history.entries ++ more → IsNext i (length (stream_of j i)) question
        → executions_in (question ∷ []) ≡ 0 → questions_in (question ∷ []) ≡ 1 → IsTrueSent c.rules c.owned c.opening (withdrawn after) question
        → Reads j after i question answer (set places i (Here seat_then)) back acts
    link_answered after more alphabets entries next none one is =
        let G = c.rules in let C = c.owned in let M = c.opening in
        let seated = were.seated i seat here in
        let all = length (stream_of j i) in
        let left = all - seat.told in
        let untolds = untold j i seat.told in
        let fore = seated.asked ++ untolds in
        let asked = seated.asked ++ (untolds ++ question ∷ []) in
        let same : fore ++ question ∷ [] ≡ asked = append_assoc seated.asked untolds (question ∷ []) in
        let within = seated.within in
        let whole : seat.told + left ≡ all = omega arith in
        let told : AreTold G C M j i all fore = subst (λ n. AreTold G C M j i n fore) whole (told_more G C M j i seat.told left seated.asked seated.told (omega arith)) in
        let further : AreTold G C M after i all (fore ++ question ∷ []) =
        told_question G C M after i all fore question (told_kept G C M j after more i all fore alphabets entries told) next none is in
        let now : AreTold G C M after i all asked = subst (AreTold G C M after i all) same further in
        let asks = talk_asked each links greets seat.number i seated.asked seated.answers (untolds ++ question ∷ []) (each.gives seat.link) (each.takes seat.link) (each.takes seat_then.link)
        seated.talk now.in_step answered.asked in
        let heard = talk_heard each links greets seat.number i asked seated.answers answer answered.bytes (each.gives seat.link) (each.takes seat_then.link) (each.gives seat_then.link) asks
        answered.spelled answered.heard in
        let m : Moment = record { site = i; number = seat.number; asked = asked; before = seated.answers; answer = answer } in
        let even : length (answers_of m) ≡ questions_in asked =
        (let long = length-append seated.answers (answer ∷ []) in
        let first = questions_more seated.asked (untolds ++ question ∷ []) in
        let second = questions_more untolds (question ∷ []) in
        let nothing = told_of_asks_nothing j i seat.told left in
        let was = seated.even in
        omega arith) in
        let grows = rest_grows j after more alphabets entries in
        let longer : stream_of after i ≡ stream_of j i ++ _ = stream_grows (withdrawn j) (withdrawn after) grows i in
        let long = ap (λ (es : List ℕ). length es) longer ∙ length-append (stream_of j i) _ in
        let now_told = answered.told in
        record {
          moment = m;
          site = refl;
          is = refl;
          fore = fore;
          asked = sym same;
          are_true = told.are_true;
          linked = record {
            many = length-set places i (Here seat_then) ∙ were.many;
            seated = λ k one there. elim (set_cases places i (Here seat_then) k (Here one) (slice_get_within places i (Here seat) here) there) [
              | inl at ↦
                  let seats : one ≡ seat_then = seat_is one seat_then at.1 in
                  subst (λ n. IsSeated each links before greets c after n one) (sym at.0) (subst (IsSeated each links before greets c after i) (sym seats) (record {
                    asked = asked;
                    answers = answers_of m;
                    talk = subst (λ n. Talk each links greets n i asked (answers_of m) [] [] (each.gives seat_then.link) (each.takes seat_then.link)) (sym answered.number) heard;
                    told = subst (λ n. AreTold G C M after i n asked) (sym answered.told) now;
                    within = omega arith;
                    even = even;
                  }))
              | inr other ↦ seated_kept j after more k one alphabets entries (were.seated k one other.1)
            ];
            heard = All-append (IsHeard each links before greets c (set places i (Here seat_then)) back) acts (hears m ∷ [])
                (heard_kept places (set places i (Here seat_then)) back back moment_goes_on acts were.heard)
                (All-cons (IsHeard each links before greets c (set places i (Here seat_then)) back) (hears m) []
                (over_here seat_then [] [] (set_there places i (Here seat_then) (Here seat) here) answered.number heard, even)
                (All-nil (IsHeard each links before greets c (set places i (Here seat_then)) back)));
            returned = were.returned;
          };
        }

  pub linked_answered : (j after_j : JournalState) (more : List Entry) (i : ℕ) (places after : List (Place L)) (back : Option (List (ℕ × R))) (acts : List Act) (question answer : Sent)
      → AreLinked each links before greets c j places back acts → Answers each j i question answer places after → after_j.alphabets ≡ j.alphabets → after_j.history.entries ≡ j.history.entries ++ more
      → IsNext i (length (stream_of j i)) question → executions_in (question ∷ []) ≡ 0 → questions_in (question ∷ []) ≡ 1 → IsTrueSent c.rules c.owned c.opening (withdrawn after_j) question
      → Reads j after_j i question answer after back acts
  linked_answered j after_j more i places after back acts question answer were answers alphabets entries next none one is =
      subst (λ (p : List (Place L)). Reads j after_j i question answer p back acts) (sym answers.places_then)
      (link_answered j i places back acts were question answer answers.seat answers.seat_then answers.here answers.answered after_j more alphabets entries next none one is)

-- ---- a link that is ended since

-- a link over which bytes were read and written, and which was ended then
pub ends_since : {L R : Type 0} (each : Links L R) (i : ℕ) (places mid after : List (Place L)) (back back_then : Option (List (ℕ × R))) (seat seat_then : Seat L) → slice_get places i ≡ Some (Here seat)
    → mid ≡ set places i (Here seat_then) → Broken each.gives each.takes seat seat_then → Ends each i mid after back back_then → Ends each i places after back back_then
ends_since each i places mid after back back_then seat seat_then here now broken (was_away away same same_back) =
    absurd (not_here seat_then (same_Some Away (Here seat_then) (sym away ∙ ap (λ p. slice_get p i) now ∙ set_there places i (Here seat_then) (Here seat) here)))
ends_since each i places mid after back back_then seat seat_then here now broken (has_left last rest there ends on has) =
    let seats : last ≡ seat_then = seat_is last seat_then (same_Some (Here last) (Here seat_then) (sym there ∙ ap (λ p. slice_get p i) now ∙ set_there places i (Here seat_then) (Here seat) here)) in
    has_left seat rest here (ends ∙ ap (λ p. set p i Away) now ∙ set-set places i (Here seat_then) Away)
    (record {
      read = broken.read ++ on.read;
      written = broken.written ++ on.written;
      reads = Consumes-trans (each.gives seat.link).bytes (each.gives seat_then.link).bytes (each.unread rest).bytes broken.read on.read broken.reads
          (subst (λ (x : Seat _). Consumes (each.gives x.link).bytes (each.unread rest).bytes on.read) seats on.reads);
      writes = Appends-trans (each.takes seat.link).bytes (each.takes seat_then.link).bytes (each.sent rest).bytes broken.written on.written broken.writes
          (subst (λ (x : Seat _). Appends (each.takes x.link).bytes (each.sent rest).bytes on.written) seats on.writes);
    })
    (subst (λ n. HasBack back n rest back_then) (ap (λ (x : Seat _). x.number) seats ∙ broken.number) has)

-- what a site has answered is bytes
pub answered_is_broken : {L : Type 0} (gives takes : L → Side) (j : JournalState) (i : ℕ) (question answer : Sent) (before after : Seat L) → Answered gives takes j i question answer before after
    → Broken gives takes before after
answered_is_broken gives takes j i question answer before after answered = record {
  number = answered.number;
  read = answered.bytes;
  written = answered.asked.0;
  reads = answered.heard;
  writes = answered.asked.2.0;
}

-- a site that has answered, and whose link was ended then
pub ends_answered : {L R : Type 0} (each : Links L R) (j : JournalState) (i : ℕ) (question answer : Sent) (places mid after : List (Place L)) (back back_then : Option (List (ℕ × R)))
    → Answers each j i question answer places mid → Ends each i mid after back back_then → Ends each i places after back back_then
ends_answered each j i question answer places mid after back back_then answers ends =
    ends_since each i places mid after back back_then answers.seat answers.seat_then answers.here answers.places_then
    (answered_is_broken each.gives each.takes j i question answer answers.seat answers.seat_then answers.answered) ends

-- ---- a place that was looked up

-- what was read at a place stands there
pub read_there : {L : Type 0} (places : List (Place L)) (k i : ℕ) (old : Place L) → k ≡ i → i < length places → old ≡ get_or places k old → slice_get places i ≡ Some old
read_there places k i old same within is =
    slice_get-get_or places i old within ∙ ap Some (ap (λ (n : ℕ). get_or places n old) (sym same) ∙ sym is)

-- the site was away, and stays so
pub ends_away : {L R : Type 0} (each : Links L R) (places : List (Place L)) (k i : ℕ) (old now : Place L) (back : Option (List (ℕ × R))) → k ≡ i → i < length places → old ≡ get_or places k old
    → old ≡ Away → now ≡ Away → Ends each i places (set places k now) back back
ends_away each places k i old now back same within is away now_away =
    was_away (read_there places k i old same within is ∙ ap Some away)
    (ap (λ (p : Place _). set places k p) (now_away ∙ sym away ∙ is) ∙ set-get_or places k old)
    refl

-- its link was ended
pub ends_here : {L R : Type 0} (each : Links L R) (places : List (Place L)) (k i : ℕ) (old now : Place L) (seat : Seat L) (rest : R) (back back_then : Option (List (ℕ × R))) → k ≡ i → i < length places
    → old ≡ get_or places k old → old ≡ Here seat → now ≡ Away → each.unread rest ≡ each.gives seat.link → each.sent rest ≡ each.takes seat.link → HasBack back seat.number rest back_then
    → Ends each i places (set places k now) back back_then
ends_here each places k i old now seat rest back back_then same within is here now_away unread sent has =
    has_left seat rest (read_there places k i old same within is ∙ ap Some here)
    (ap (λ (p : Place _). set places k p) now_away ∙ ap (λ (n : ℕ). set places n Away) same)
    (record {
      read = [];
      written = [];
      reads = subst (λ (s : Side). Consumes (each.gives seat.link).bytes s.bytes []) (sym unread) (Consumes-nil (each.gives seat.link).bytes);
      writes = subst (λ (s : Side). Appends (each.takes seat.link).bytes s.bytes []) (sym sent) (Appends-nil (each.takes seat.link).bytes);
    })
    has

-- nothing was asked of a site that was away, and it is ended
pub ends_unasked : {L R : Type 0} (each : Links L R) (places mid after : List (Place L)) (k i : ℕ) (old : Place L) (back back_then : Option (List (ℕ × R))) → old ≡ get_or places k old
    → mid ≡ set places k old → Ends each i mid after back back_then → Ends each i places after back back_then
ends_unasked each places mid after k i old back back_then is now ends =
    let same : mid ≡ places = now ∙ ap (λ (p : Place _). set places k p) is ∙ set-get_or places k old in
    subst (λ (p : List (Place _)). Ends each i p after back back_then) same ends

-- what was asked was not answered, and the link is ended
pub ends_asked : {L R : Type 0} (each : Links L R) (places mid after : List (Place L)) (k i : ℕ) (old : Place L) (seat seat_then : Seat L) (back back_then : Option (List (ℕ × R))) → k ≡ i
    → i < length places → old ≡ get_or places k old → old ≡ Here seat → mid ≡ set places k (Here seat_then) → Broken each.gives each.takes seat seat_then → Ends each i mid after back back_then
    → Ends each i places after back back_then
ends_asked each places mid after k i old seat seat_then back back_then same within is here now broken ends =
    ends_since each i places mid after back back_then seat seat_then (read_there places k i old same within is ∙ ap Some here) (now ∙ ap (λ (n : ℕ). set places n (Here seat_then)) same) broken ends

-- what was asked was answered
pub answers_there : {L R : Type 0} (each : Links L R) (j : JournalState) (places : List (Place L)) (k i : ℕ) (old : Place L) (seat seat_then : Seat L) (question answer : Sent) → k ≡ i → i < length places
    → old ≡ get_or places k old → old ≡ Here seat → Answered each.gives each.takes j i question answer seat seat_then → Answers each j i question answer places (set places k (Here seat_then))
answers_there each j places k i old seat seat_then question answer same within is here answered = record {
  seat = seat;
  seat_then = seat_then;
  here = read_there places k i old same within is ∙ ap Some here;
  places_then = ap (λ (n : ℕ). set places n (Here seat_then)) same;
  answered = answered;
}

-- ---- values that may be there

pub none_is : {A : Type 0} (o : Option A) (b : Bool) → is_some o ≡ not b → b ≡ true → o ≡ None
none_is None b is true_is = refl
none_is (Some x) b is true_is = absurd (true≢false (is ∙ ap not true_is))

pub if_none : {A : Type 0} (o : Option A) (P : Type 0) → P → IfNone o P
if_none None P is = is
if_none (Some x) P is = tt

pub at_none : {A : Type 0} (o : Option A) (P : Type 0) → o ≡ None → IfNone o P → P
at_none {A = A} o P none is = subst (λ (x : Option A). IfNone x P) none is

pub if_some_none : {A : Type 0} (o : Option A) (P : A → Type 0) → o ≡ None → IfSome o P
if_some_none {A = A} o P none = subst (λ (x : Option A). IfSome x P) (sym none) tt

-- ---- room to tell

-- each site was told of no more than its stream has
pub room_to_tell : {L R : Type 0} (each : Links L R) (links : Option (List L)) (before : Option (List (ℕ × R))) (greets : ℕ → List ℕ → List ℕ → Type 0) (c : ClusterId) (j : JournalState)
    (places : List (Place L)) (back : Option (List (ℕ × R))) → length j.alphabets ≡ length c.owned
    → ((first : JournalState) × IsLedFrom each links before greets c first j places back) → HaveRoomToTell j places
room_to_tell each links before greets c j places back many led =
    let linked = led.1.1.linked in
    record { many = linked.many ∙ sym many; told = λ i seat here. (linked.seated i seat here).within }
