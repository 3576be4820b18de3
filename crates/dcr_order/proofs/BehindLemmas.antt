-- No link is lost: what came of the links of the sites, step by step, and what that leaves of what was heard.
use Rattle.std.proofs.Common.{◌≡◌, ℕ, List, [], ◌∷◌, ◌++◌, length, set, Option, Some, None, inl, inr, refl, sym, ap, subst, ◌∙◌, append_assoc, arith}
use Rattle.std.specs.Prelude.{slice_get}
use Rattle.std.specs.List.{Contains}
use Rattle.std.proofs.lemmas.Bool.{cases_eq}
use Rattle.std.proofs.KnownBytes.{Consumes-nil, Consumes-trans, Appends-nil, Appends-trans}
use Rattle.std.proofs.lemmas.List.{append-nil, append_cancel_left}
use Rattle.std.proofs.lemmas.List.Elements.{Contains-append_left, Contains-append_right}
use Rattle.std.proofs.lemmas.Option.{same_Some}
use Rattle.dcr_base.specs.Link.{Links}
use Rattle.dcr_cell.specs.ClusterId.{ClusterId}
use Rattle.dcr_porter.specs.Porter.{HasBack}
use Rattle.dcr_wire.specs.Laws.{Sent}
use Rattle.dcr_node.specs.JournalState.{JournalState}
use Rattle.dcr_seat.specs.Asking.{Broken}
use Rattle.dcr_seat.specs.declared.seat.Seat.{Seat}
use Rattle.dcr_seat.proofs.TalkLemmas.{talk_further}
use Rattle.dcr_order.specs.Acts.{Moment, Act, answers_of}
use Rattle.dcr_order.specs.Behind.{HandedSince, stays, leaves, IsBehind}
use Rattle.dcr_order.specs.Going.{GoesOn, Ends, was_away, has_left, Answers}
use Rattle.dcr_order.specs.Linked.{IsSeated, CameBack, IsOfTalk, over_here, came_back, AreLinked, IsLedFrom}
use Rattle.dcr_order.specs.declared.place.Place.{Place}
use Rattle.dcr_order.specs.declared.place.Place.TheVariants.{Away, Here}
use Rattle.dcr_order.proofs.LinkLemmas.{not_here, seat_is, heard_kept, answered_is_broken}
use Rattle.dcr_order.proofs.PlaceLemmas.{set_there, set_elsewhere, one_there}

-- ---- what was handed back since

module _ {R : Type 0} where
  -- it is one list
  pub since_is : (back back_then : Option (List (ℕ × R))) (more other : List (ℕ × R)) → HandedSince back back_then more → HandedSince back back_then other → more ≡ other
  since_is back back_then more other one two =
      let had : one.0 ≡ two.0 = same_Some one.0 two.0 (sym one.1 ∙ two.1) in
      append_cancel_left two.0 more other (ap (λ h. h ++ more) (sym had) ∙ same_Some (one.0 ++ more) (two.0 ++ other) (sym one.2 ∙ two.2))

  pub since_joined : (back mid back_then : Option (List (ℕ × R))) (one two : List (ℕ × R)) → HandedSince back mid one → HandedSince mid back_then two → HandedSince back back_then (one ++ two)
  since_joined back mid back_then one two first second = (
    first.0,
    first.1,
    second.2
        ∙ ap (λ (h : List (ℕ × R)). Some (h ++ two)) (same_Some second.0 (first.0 ++ one) (sym second.1 ∙ first.2))
        ∙ ap (λ (h : List (ℕ × R)). Some h) (append_assoc first.0 one two),
  )

  -- one more was handed back
  pub has_back_since : (back back_then : Option (List (ℕ × R))) (number : ℕ) (rest : R) (all : List (ℕ × R)) → HasBack back number rest back_then → back_then ≡ Some all
      → HandedSince back back_then ((number, rest) ∷ [])
  has_back_since None back_then number rest all has is = absurd (subst (λ (o : Option (List (ℕ × R))). HasBack None number rest o) is has)
  has_back_since (Some had) back_then number rest all has is =
      let grown : all ≡ had ++ (number, rest) ∷ [] = subst (λ (o : Option (List (ℕ × R))). HasBack (Some had) number rest o) is has in
      (had, refl, is ∙ ap (λ (h : List (ℕ × R)). Some h) grown)

  has_back_is : (back back_then : Option (List (ℕ × R))) (number : ℕ) (rest : R) (more : List (ℕ × R)) → HasBack back number rest back_then → HandedSince back back_then more
      → more ≡ (number, rest) ∷ []
  has_back_is back back_then number rest more has came =
      since_is back back_then more ((number, rest) ∷ []) came (has_back_since back back_then number rest (came.0 ++ more) has came.2)

  -- nothing was handed back
  pub none_since : (back : Option (List (ℕ × R))) (all : List (ℕ × R)) → back ≡ Some all → HandedSince back back []
  none_since back all is = (all, is, is ∙ ap (λ (h : List (ℕ × R)). Some h) (sym (append-nil all)))

-- ---- what became of the links

module _ {L R : Type 0} (each : Links L R) where
  -- nothing was said
  unbroken : (seat : Seat L) → Broken each.gives each.takes seat seat
  unbroken seat = record { number = refl; read = []; written = []; reads = Consumes-nil (each.gives seat.link).bytes; writes = Appends-nil (each.takes seat.link).bytes }

  broken_further : (seat mid after : Seat L) → Broken each.gives each.takes seat mid → Broken each.gives each.takes mid after → Broken each.gives each.takes seat after
  broken_further seat mid after one two = record {
    number = two.number ∙ one.number;
    read = one.read ++ two.read;
    written = one.written ++ two.written;
    reads = Consumes-trans (each.gives seat.link).bytes (each.gives mid.link).bytes (each.gives after.link).bytes one.read two.read one.reads two.reads;
    writes = Appends-trans (each.takes seat.link).bytes (each.takes mid.link).bytes (each.takes after.link).bytes one.written two.written one.writes two.writes;
  }

  goes_further : (seat mid : Seat L) (rest : R) → Broken each.gives each.takes seat mid → GoesOn each mid.link rest → GoesOn each seat.link rest
  goes_further seat mid rest one two = record {
    read = one.read ++ two.read;
    written = one.written ++ two.written;
    reads = Consumes-trans (each.gives seat.link).bytes (each.gives mid.link).bytes (each.unread rest).bytes one.read two.read one.reads two.reads;
    writes = Appends-trans (each.takes seat.link).bytes (each.takes mid.link).bytes (each.sent rest).bytes one.written two.written one.writes two.writes;
  }

  pub behind_same : (places : List (Place L)) (back : Option (List (ℕ × R))) → IsBehind each places back places back
  behind_same places back = record {
    returned = λ all is. ([], none_since back all is);
    links = λ i seat here. stays seat here (unbroken seat);
  }

  pub behind_further : (places mid after : List (Place L)) (back back_mid back_then : Option (List (ℕ × R))) → IsBehind each places back mid back_mid → IsBehind each mid back_mid after back_then
      → IsBehind each places back after back_then
  behind_further places mid after back back_mid back_then one two = record {
    returned = λ all is.
        let second = two.returned all is in
        let first = one.returned second.1.0 second.1.1 in
        (first.0 ++ second.0, since_joined back back_mid back_then first.0 second.0 first.1 second.1);
    links = λ i seat here. elim (one.links i seat here) [
      | stays seat_mid there on ↦ elim (two.links i seat_mid there) [
        | stays seat_then now more ↦ stays seat_then now (broken_further seat seat_mid seat_then on more)
        | leaves rest went since ↦ leaves rest (goes_further seat seat_mid rest on went) (λ more came.
            let s = splits more came in
            subst (λ (xs : List (ℕ × R)). Contains xs (seat.number, rest)) (sym s.4)
            (Contains-append_right s.0 s.1 (seat.number, rest) (subst (λ n. Contains s.1 (n, rest)) on.number (since s.1 s.3))))
      ]
      | leaves rest went since ↦ leaves rest went (λ more came.
          let s = splits more came in
          subst (λ (xs : List (ℕ × R)). Contains xs (seat.number, rest)) (sym s.4) (Contains-append_left s.0 s.1 (seat.number, rest) (since s.0 s.2)))
    ];
  }
    where
      splits : (more : List (ℕ × R)) → HandedSince back back_then more → (first second : List (ℕ × R)) × HandedSince back back_mid first × HandedSince back_mid back_then second × (more ≡ first ++ second)
      splits more came =
          let second = two.returned (came.0 ++ more) came.2 in
          let first = one.returned second.1.0 second.1.1 in
          (first.0, second.0, first.1, second.1, since_is back back_then more (first.0 ++ second.0) came (since_joined back back_mid back_then first.0 second.0 first.1 second.1))

  -- a link was ended
  pub ends_behind : (i : ℕ) (places after : List (Place L)) (back back_then : Option (List (ℕ × R))) → Ends each i places after back back_then → IsBehind each places back after back_then
  ends_behind i places after back back_then (was_away away same same_back) =
      subst (λ (p : List (Place L)). IsBehind each places back p back_then) (sym same) (subst (λ (b : Option (List (ℕ × R))). IsBehind each places back places b) (sym same_back) (behind_same places back))
  ends_behind i places after back back_then (has_left seat rest here now on has) =
      subst (λ (p : List (Place L)). IsBehind each places back p back_then) (sym now) (record {
        returned = λ all is. ((seat.number, rest) ∷ [], has_back_since back back_then seat.number rest all has is);
        links = λ k one there. elim (cases_eq k i) [
          | inl same ↦
              let seats : one ≡ seat = seat_is one seat (one_there places i k (Here seat) (Here one) same here there) in
              leaves rest (subst (λ (x : Seat L). GoesOn each x.link rest) (sym seats) on) (λ more came.
              subst (λ (xs : List (ℕ × R)). Contains xs (one.number, rest)) (sym (has_back_is back back_then seat.number rest more has came))
              (subst (λ (n : ℕ). Contains {X = ℕ × R} ((seat.number, rest) ∷ []) (n, rest)) (sym (ap (λ (x : Seat L). x.number) seats)) (0, omega arith, refl)))
          | inr other ↦ stays one (set_elsewhere places i k Away (Here one) other there) (unbroken one)
        ];
      })

  -- something was said over the link of a site
  pub broken_behind : (i : ℕ) (places : List (Place L)) (back : Option (List (ℕ × R))) (seat seat_then : Seat L) → slice_get places i ≡ Some (Here seat) → Broken each.gives each.takes seat seat_then
      → IsBehind each places back (set places i (Here seat_then)) back
  broken_behind i places back seat seat_then here broken = record {
    returned = λ all is. ([], none_since back all is);
    links = λ k one there. elim (cases_eq k i) [
      | inl same ↦
          let seats : one ≡ seat = seat_is one seat (one_there places i k (Here seat) (Here one) same here there) in
          stays seat_then
          (subst (λ n. slice_get (set places i (Here seat_then)) n ≡ Some (Here seat_then)) (sym same) (set_there places i (Here seat_then) (Here seat) here))
          (subst (λ (x : Seat L). Broken each.gives each.takes x seat_then) (sym seats) broken)
      | inr other ↦ stays one (set_elsewhere places i k (Here seat_then) (Here one) other there) (unbroken one)
    ];
  }

  pub answers_behind : (j : JournalState) (i : ℕ) (question answer : Sent) (places after : List (Place L)) (back : Option (List (ℕ × R))) → Answers each j i question answer places after
      → IsBehind each places back after back
  answers_behind j i question answer places after back answers =
      subst (λ (p : List (Place L)). IsBehind each places back p back) (sym answers.places_then)
      (broken_behind i places back answers.seat answers.seat_then answers.here (answered_is_broken each.gives each.takes j i question answer answers.seat answers.seat_then answers.answered))

  -- a site that was away has a link
  pub seats_behind : (i : ℕ) (places : List (Place L)) (back : Option (List (ℕ × R))) (seat : Seat L) → slice_get places i ≡ Some Away → IsBehind each places back (set places i (Here seat)) back
  seats_behind i places back seat away = record {
    returned = λ all is. ([], none_since back all is);
    links = λ k one there. elim (cases_eq k i) [
      | inl same ↦ absurd (not_here one (sym (one_there places i k Away (Here one) same away there)))
      | inr other ↦ stays one (set_elsewhere places i k (Here seat) (Here one) other there) (unbroken one)
    ];
  }

  -- a link was handed back that was nobody's
  pub taken_behind : (places : List (Place L)) (back back_then : Option (List (ℕ × R))) (number : ℕ) (rest : R) → HasBack back number rest back_then → IsBehind each places back places back_then
  taken_behind places back back_then number rest has = record {
    returned = λ all is. ((number, rest) ∷ [], has_back_since back back_then number rest all has is);
    links = λ i seat here. stays seat here (unbroken seat);
  }

-- ---- what was heard stays so

module _ {L R : Type 0} (each : Links L R) (links : Option (List L)) (before : Option (List (ℕ × R))) (greets : ℕ → List ℕ → List ℕ → Type 0) (c : ClusterId) (places after : List (Place L))
    (back back_then : Option (List (ℕ × R))) (returned : (had all : List (ℕ × R)) → before ≡ Some had → back ≡ Some all → (s : List (ℕ × R)) × (all ≡ had ++ s)) (behind : IsBehind each places back after back_then) where
  -- what came back by then, and what came since
  since_of : (since : List (ℕ × R)) → CameBack each links before greets c back_then since
      → (old more : List (ℕ × R)) × CameBack each links before greets c back old × HandedSince back back_then more × (since ≡ old ++ more)
  since_of since came =
      let two = behind.returned (came.0 ++ since) came.2 in
      let one = returned came.0 two.1.0 came.1 two.1.1 in (
        one.0,
        two.0,
        (came.0, came.1, two.1.1 ∙ ap (λ (h : List (ℕ × R)). Some h) one.1),
        two.1,
        append_cancel_left came.0 since (one.0 ++ two.0)
            (same_Some (came.0 ++ since) (two.1.0 ++ two.0) (sym came.2 ∙ two.1.2) ∙ ap (λ (h : List (ℕ × R)). h ++ two.0) one.1 ∙ append_assoc came.0 one.0 two.0),
      )

  pub moment_behind : (m : Moment) → IsOfTalk each links before greets c places back m → IsOfTalk each links before greets c after back_then m
  moment_behind m (over_here seat unheard unasked there number talk) = elim (behind.links m.site seat there) [
    | stays seat_then now on ↦ over_here seat_then (unheard ++ on.read) (unasked ++ on.written) now (on.number ∙ number)
        (talk_further each links greets m.number m.site m.asked (answers_of m) unheard unasked on.read on.written (each.gives seat.link) (each.takes seat.link) (each.gives seat_then.link)
        (each.takes seat_then.link) talk on.reads on.writes)
    | leaves rest on left ↦ came_back (λ since came.
        let s = since_of since came in (
          rest,
          subst (λ (xs : List (ℕ × R)). Contains xs (m.number, rest)) (sym s.4)
              (subst (λ n. Contains (s.0 ++ s.1) (n, rest)) number (Contains-append_right s.0 s.1 (seat.number, rest) (left s.1 s.3))),
          (
            unheard ++ on.read,
            unasked ++ on.written,
            talk_further each links greets m.number m.site m.asked (answers_of m) unheard unasked on.read on.written (each.gives seat.link) (each.takes seat.link) (each.unread rest) (each.sent rest) talk
                on.reads on.writes,
          ),
        ))
  ]
  moment_behind m (came_back came) = came_back (λ since now.
      let s = since_of since now in
      let is = came s.0 s.2 in
      (is.0, subst (λ (xs : List (ℕ × R)). Contains xs (m.number, is.0)) (sym s.4) (Contains-append_left s.0 s.1 (m.number, is.0) is.1), is.2))

  pub linked_behind : (j after_j : JournalState) (acts : List Act) → AreLinked each links before greets c j places back acts → length after ≡ length places
      → ((i : ℕ) (seat : Seat L) → slice_get after i ≡ Some (Here seat) → IsSeated each links before greets c after_j i seat) → AreLinked each links before greets c after_j after back_then acts
  linked_behind j after_j acts were long seated = record {
    many = long ∙ were.many;
    seated = seated;
    heard = heard_kept each links before greets c places after back back_then moment_behind acts were.heard;
    returned = λ had all was is.
        let two = behind.returned all is in
        let one = returned had two.1.0 was two.1.1 in
        (one.0 ++ two.0, same_Some all (two.1.0 ++ two.0) (sym is ∙ two.1.2) ∙ ap (λ (h : List (ℕ × R)). h ++ two.0) one.1 ∙ append_assoc had one.0 two.0);
  }

-- the same journal is led where the links of all sites are still in step
pub led_behind : {L R : Type 0} (each : Links L R) (links : Option (List L)) (before : Option (List (ℕ × R))) (greets : ℕ → List ℕ → List ℕ → Type 0) (c : ClusterId) (first j : JournalState)
    (places after : List (Place L)) (back back_then : Option (List (ℕ × R))) → IsBehind each places back after back_then → length after ≡ length places
    → ((i : ℕ) (seat : Seat L) → slice_get after i ≡ Some (Here seat) → IsSeated each links before greets c j i seat) → IsLedFrom each links before greets c first j places back
    → IsLedFrom each links before greets c first j after back_then
led_behind each links before greets c first j places after back back_then behind long seated led = (
  led.0,
  record {
    by_acts = led.1.by_acts;
    linked = linked_behind each links before greets c places after back back_then led.1.linked.returned behind j j led.0 led.1.linked long seated;
    right = led.1.right;
  },
)
