-- What is kept stays so while the sites are seated, told their streams, and asked at the end.
use Rattle.std.proofs.Common.{◌≡◌, ◌≢◌, ℕ, ◌+◌, ◌-◌, ◌<◌, ◌≤◌, Bool, true, false, List, [], ◌∷◌, ◌++◌, length, get_or, set, take, min, replicate, Option, Some, None, inl, inr, refl, sym, ap, subst, ◌∙◌, arith, length-set}
use Rattle.std.specs.Prelude.{nat_lt, slice_get}
use Rattle.std.specs.Io.KnownBytes.{Consumes}
use Rattle.std.proofs.KnownBytes.{Consumes-nil}
use Rattle.std.specs.Option.{is_some}
use Rattle.std.proofs.lemmas.Bool.{cases_eq, false≢true}
use Rattle.std.proofs.lemmas.List.{length-replicate, replicate_more, set-get_or, take_more_set}
use Rattle.std.proofs.lemmas.Option.{same_Some, slice_get_within, slice_get-get_or, get_or_from_slice_get}
use Rattle.dcr_set.proofs.ListLemmas.{set_cases}
use Rattle.dcr_base.specs.Disk.{DiskView}
use Rattle.dcr_base.specs.Link.{Links}
use Rattle.dcr_base.specs.Side.{Side}
use Rattle.dcr_cell.specs.ClusterId.{ClusterId}
use Rattle.dcr_cell.specs.Stored.{StoreStands}
use Rattle.dcr_journal.specs.declared.call.Entry.{Entry}
use Rattle.dcr_porter.specs.Porter.{HasBack}
use Rattle.dcr_graph.specs.declared.marking.SiteMark.{SiteMark}
use Rattle.dcr_tape.specs.declared.tape.Store.{Store}
use Rattle.dcr_turn.specs.TurnId.{TurnId}
use Rattle.dcr_wire.specs.Laws.{sent_question, sent_answer}
use Rattle.dcr_wire.specs.declared.answer.Answer.{Answer}
use Rattle.dcr_wire.specs.declared.answer.Told.{Told}
use Rattle.dcr_wire.specs.declared.answer.Told.TheVariants as told
use Rattle.dcr_wire.specs.declared.question.Asked.{Asked}
use Rattle.dcr_wire.specs.declared.question.Asked.TheVariants.{Marks, Can, Waits}
use Rattle.dcr_wire.specs.declared.question.Question.{Question}
use Rattle.dcr_node.specs.Gathering.{gathering, gathered_with, nothing_told}
use Rattle.dcr_node.specs.JournalState.{JournalState, answered_to, question_at, stream_of, told_out, with_gathered}
use Rattle.dcr_node.specs.Laws.{what_is_told}
use Rattle.dcr_node.specs.declared.gathered.Gathered.{Gathered}
use Rattle.dcr_node.specs.declared.journal_node.Proposal.{Proposal}
use Rattle.dcr_seat.specs.Asking.{Broken, IsAnswerTo, Tells as SeatTells, Writes}
use Rattle.dcr_seat.specs.Exchange.{Talk}
use Rattle.dcr_seat.specs.InStep.{AreTold, told_of}
use Rattle.dcr_seat.specs.declared.seat.Seat.{Seat}
use Rattle.dcr_seat.proofs.InStepLemmas.{questions_more, told_of_asks_nothing}
use Rattle.dcr_seat.proofs.TalkLemmas.{talk_asked}
use Rattle.dcr_seat.proofs.ToldLemmas.{told_more, told_none}
use Rattle.dcr_order.specs.Behind.{IsBehind}
use Rattle.dcr_order.specs.Calling.{Rests}
use Rattle.dcr_order.specs.Going.{Ends, was_away, has_left, Answers}
use Rattle.dcr_order.specs.Linked.{IsSeated, IsLedFrom, HaveRoomToTell}
use Rattle.dcr_order.specs.Orders.{IsOrdering, begun_journal}
use Rattle.dcr_order.specs.Tending.{AsksAtEnd, answered, is_away, GathersFrom, HasMarks, HasTold, HasWaits, HaveTold, OnlyGathers, IsLate, Seats, Tells, nothing, next, fails, TellsMore, TellsNext, next_many}
use Rattle.dcr_order.specs.declared.guest.Guest.{Guest}
use Rattle.dcr_order.specs.declared.place.Place.{Place}
use Rattle.dcr_order.specs.declared.place.Place.TheVariants.{Away, Here}
use Rattle.dcr_order.proofs.BehindLemmas.{ends_behind, broken_behind, answers_behind, seats_behind, taken_behind, moment_behind, led_behind}
use Rattle.dcr_order.proofs.CloseLemmas.{none_is_here}
use Rattle.dcr_order.proofs.EndLemmas.{led_places}
use Rattle.dcr_order.proofs.LinkLemmas.{not_here, seat_is, ends_asked, read_there, room_to_tell}
use Rattle.dcr_order.proofs.OrderLemmas.{many_sites}
use Rattle.dcr_order.proofs.PlaceLemmas.{set_there}
use Rattle.dcr_order.proofs.TellLemmas.{answer_is, away_from, led_telling}
use Rattle.dcr_order.proofs.VotedLemmas.{voted_kept, voted_rests}

-- ---- a seat

module _ {L R : Type 0} (each : Links L R) (links : Option (List L)) (before : Option (List (ℕ × R))) (greets : ℕ → List ℕ → List ℕ → Type 0) (c : ClusterId) (j : JournalState) (i : ℕ) where
  -- the site of a guest was told nothing
  pub seated_new : (guest : Guest L) → Talk each links greets guest.number i [] [] [] [] (each.gives guest.link) (each.takes guest.link)
      → IsSeated each links before greets c j i (record { link = guest.link; number = guest.number; told = 0 })
  seated_new guest greeted = record {
    asked = [];
    answers = [];
    talk = greeted;
    told = told_none c.rules c.owned c.opening j i;
    within = omega arith;
    even = refl;
  }

  -- it was told of more
  pub seated_more : (seat seat_then : Seat L) (count : ℕ) → IsSeated each links before greets c j i seat → seat_then.number ≡ seat.number → seat_then.told ≡ seat.told + count
      → seat.told + count ≤ length (stream_of j i) → Writes (told_of j i seat.told count) (each.takes seat.link) (each.takes seat_then.link) → each.gives seat_then.link ≡ each.gives seat.link
      → IsSeated each links before greets c j i seat_then
  seated_more seat seat_then count was number many within writes apart =
      let more = told_of j i seat.told count in
      let told : AreTold c.rules c.owned c.opening j i (seat.told + count) (was.asked ++ more) = told_more c.rules c.owned c.opening j i seat.told count was.asked was.told within in
      let talk = talk_asked each links greets seat.number i was.asked was.answers more (each.gives seat.link) (each.takes seat.link) (each.takes seat_then.link) was.talk told.in_step writes in
      record {
        asked = was.asked ++ more;
        answers = was.answers;
        talk = subst (λ n. Talk each links greets n i (was.asked ++ more) was.answers [] [] (each.gives seat_then.link) (each.takes seat_then.link)) (sym number)
            (subst (λ (s : Side). Talk each links greets seat.number i (was.asked ++ more) was.answers [] [] s (each.takes seat_then.link)) (sym apart) talk);
        told = subst (λ n. AreTold c.rules c.owned c.opening j i n (was.asked ++ more)) (sym many) told;
        within = omega arith;
        even =
            let nothing = told_of_asks_nothing j i seat.told count in
            let both = questions_more was.asked more in
            let even = was.even in omega arith;
      }

-- a site that was asked keeps its link or hands it back
pub asked_behind : {L R : Type 0} (each : Links L R) (j : JournalState) (i : ℕ) (asked : Asked) (places after : List (Place L)) (back back_then : Option (List (ℕ × R)))
    → AsksAtEnd each j i asked places after back back_then → IsBehind each places back after back_then
asked_behind {R = R} each j i asked places after back back_then (answered answer answers same) =
    subst (λ (b : Option (List (ℕ × R))). IsBehind each places back after b) (sym same)
    (answers_behind each j i (sent_question (question_at j i asked)) (sent_answer answer) places after back answers)
asked_behind each j i asked places after back back_then (is_away ends) = ends_behind each i places after back back_then ends

-- ---- what is kept

module _ {D L R : Type 0} (view : D → DiskView) (faults : D → ℕ) (each : Links L R) (links : Option (List L)) (before : Option (List (ℕ × R))) (greets : ℕ → List ℕ → List ℕ → Type 0) (c : ClusterId)
    (turn : TurnId) (first : Option (Store D)) (J : List Entry) (node : JournalState) (places : List (Place L)) (back : Option (List (ℕ × R))) (store : Store D)
    (stands : IsOrdering view faults each links before greets c turn first J node places back store) where
  abbrev begun : JournalState
  begun = begun_journal c turn.sessions

  pub rests_gathered : (after : JournalState) → OnlyGathers node after → Rests node after
  rests_gathered after only = record {
    alphabets = ap (λ (j : JournalState). j.alphabets) only.1;
    history = ap (λ (j : JournalState). j.history) only.1;
    sessions = ap (λ (j : JournalState). j.sessions) only.1;
    out = ap (λ (j : JournalState). j.out) only.1 ∙ stands.out;
  }

  -- it is kept where no more is gathered than that, and no link is lost
  pub ordering_tended : (after : JournalState) (places_then : List (Place L)) (back_then : Option (List (ℕ × R))) (store_then : Store D) → OnlyGathers node after → store_then ≡ store
      → IsBehind each places back places_then back_then → IsLedFrom each links before greets c begun after places_then back_then
      → IsOrdering view faults each links before greets c turn first J after places_then back_then store_then
  ordering_tended after places_then back_then store_then only same behind led =
      let rests = rests_gathered after only in
      let goes_on = moment_behind each links before greets c places places_then back back_then stands.led.1.linked.returned behind in
      record {
        alphabets = rests.alphabets ∙ stands.alphabets;
        entries = ap (λ h. h.entries) rests.history ∙ stands.entries;
        capacity = ap (λ h. h.capacity) rests.history ∙ stands.capacity;
        sessions = rests.sessions ∙ stands.sessions;
        out = rests.out;
        fits = stands.fits;
        failed = λ k entry is fault.
            let was = stands.failed k entry is fault in
            record {
              last = was.last;
              seq = was.seq;
              site = was.site;
              event = was.event;
              call = was.call;
              voted = voted_rests each links before greets c node after places_then back_then entry.session was.site was.event rests.alphabets rests.history rests.sessions
                  (voted_kept each links before greets c node places places_then back back_then entry.session was.site was.event goes_on was.voted);
            };
        stored = subst (λ (s : Store D). StoreStands view faults first c.old J s) (sym same) stands.stored;
        led = led;
      }

  -- nothing changed there
  pub ordering_same : (after : JournalState) (places_then : List (Place L)) (back_then : Option (List (ℕ × R))) (store_then : Store D) → after ≡ node → places_then ≡ places → back_then ≡ back
      → store_then ≡ store → IsOrdering view faults each links before greets c turn first J after places_then back_then store_then
  ordering_same after places_then back_then store_then same_node same_places same_back same_store =
      subst (λ (n : JournalState). IsOrdering view faults each links before greets c turn first J n places_then back_then store_then) (sym same_node)
      (subst (λ (p : List (Place L)). IsOrdering view faults each links before greets c turn first J node p back_then store_then) (sym same_places)
      (subst (λ (b : Option (List (ℕ × R))). IsOrdering view faults each links before greets c turn first J node places b store_then) (sym same_back)
      (subst (λ (s : Store D). IsOrdering view faults each links before greets c turn first J node places back s) (sym same_store) stands)))

  pub ordering_many : length places ≡ length c.owned
  ordering_many = stands.led.1.linked.many

  pub ordering_sites : length node.alphabets ≡ length c.owned
  ordering_sites = many_sites view faults each links before greets c turn first J node places back store stands

  pub ordering_places : length node.gathered ≡ length c.owned
  ordering_places = led_places each links before greets c begun node places back (length-replicate (length begun.alphabets) nothing_told) stands.led ∙ ordering_sites

  pub ordering_has_room : HaveRoomToTell node places
  ordering_has_room = room_to_tell each links before greets c node places back ordering_sites (begun, stands.led)

  -- a link was ended
  pub ordering_ended : (i : ℕ) (after : JournalState) (places_then : List (Place L)) (back_then : Option (List (ℕ × R))) (store_then : Store D) → after ≡ node → store_then ≡ store
      → Ends each i places places_then back back_then → IsOrdering view faults each links before greets c turn first J after places_then back_then store_then
  ordering_ended i after places_then back_then store_then same same_store ends =
      ordering_tended after places_then back_then store_then (node.gathered, same) same_store (ends_behind each i places places_then back back_then ends)
      (away_from each links before greets c begun node after places places_then back back_then i same ends stands.led)

  -- what was answered is gathered
  pub gathers_from : (i : ℕ) (asked : Asked) (q : Question) (a : Answer) (mid after : JournalState) → q ≡ question_at node i asked → IsAnswerTo node q a → mid ≡ node → after ≡ answered_to mid a
      → GathersFrom node after i asked
  gathers_from i asked q a mid after asks to same is =
      let own : IsAnswerTo node (question_at node i asked) a = subst (λ (x : Question). IsAnswerTo node x a) asks to in
      record {
        told = a.told;
        kind = own.kind;
        is = is ∙ ap (λ (k : JournalState). answered_to k a) same ∙ answer_is node i asked a own ∙ ap (λ (o : Option Proposal). told_out node i a.told o) stands.out;
      }

  pub ordering_told : (i : ℕ) (asked : Asked) (q : Question) (a : Answer) (mid after : JournalState) (places_then : List (Place L)) (back_then : Option (List (ℕ × R))) (store_then : Store D)
      → i < length c.owned → q ≡ question_at node i asked → IsAnswerTo node q a → Answers each node i (sent_question q) (sent_answer a) places places_then → back_then ≡ back → mid ≡ node
      → after ≡ answered_to mid a → store_then ≡ store → IsOrdering view faults each links before greets c turn first J after places_then back_then store_then
  ordering_told i asked q a mid after places_then back_then store_then below asks to answers same_back same is same_store =
      let gathers = gathers_from i asked q a mid after asks to same is in
      let step : after ≡ answered_to node a = is ∙ ap (λ (k : JournalState). answered_to k a) same in
      let led : IsLedFrom each links before greets c begun (answered_to node a) places_then back =
      led_telling each links before greets c begun node places places_then back i asked q a below ordering_sites (ap (λ (x : Question). Some x) asks) to answers stands.led in
      subst (λ (b : Option (List (ℕ × R))). IsOrdering view faults each links before greets c turn first J after places_then b store_then) (sym same_back)
      (ordering_tended after places_then back store_then (gathering node.gathered i gathers.told, gathers.is) same_store (answers_behind each node i (sent_question q) (sent_answer a) places places_then back answers)
      (subst (λ (k : JournalState). IsLedFrom each links before greets c begun k places_then back) (sym step) led))

  -- a site has a link, or has one over which it was told more
  pub ordering_placed : (i : ℕ) (seat : Seat L) (old : Place L) (after : JournalState) (places_then : List (Place L)) (back_then : Option (List (ℕ × R))) (store_then : Store D) → slice_get places i ≡ Some old
      → places_then ≡ set places i (Here seat) → IsBehind each places back (set places i (Here seat)) back → IsSeated each links before greets c node i seat → after ≡ node → back_then ≡ back
      → store_then ≡ store → IsOrdering view faults each links before greets c turn first J after places_then back_then store_then
  ordering_placed i seat old after places_then back_then store_then there is behind seated same same_back same_store =
      let put = set places i (Here seat) in
      let led : IsLedFrom each links before greets c begun node put back =
      led_behind each links before greets c begun node places put back back behind (length-set places i (Here seat)) (λ k one here.
      elim (set_cases places i (Here seat) k (Here one) (slice_get_within places i old there) here) [
        | inl at ↦ subst (λ n. IsSeated each links before greets c node n one) (sym at.0) (subst (IsSeated each links before greets c node i) (sym (seat_is one seat at.1)) seated)
        | inr other ↦ stands.led.1.linked.seated k one other.1
      ]) stands.led in
      subst (λ (p : List (Place L)). IsOrdering view faults each links before greets c turn first J after p back_then store_then) (sym is)
      (subst (λ (b : Option (List (ℕ × R))). IsOrdering view faults each links before greets c turn first J after put b store_then) (sym same_back)
      (ordering_tended after put back store_then (node.gathered, same) same_store behind (subst (λ (k : JournalState). IsLedFrom each links before greets c begun k put back) (sym same) led)))

  -- a guest is seated
  pub ordering_seated : (i : ℕ) (guest : Guest L) (after : JournalState) (places_then : List (Place L)) (back_then : Option (List (ℕ × R))) (store_then : Store D) → Seats i guest places places_then
      → Talk each links greets guest.number i [] [] [] [] (each.gives guest.link) (each.takes guest.link) → after ≡ node → back_then ≡ back → store_then ≡ store
      → IsOrdering view faults each links before greets c turn first J after places_then back_then store_then
  ordering_seated i guest after places_then back_then store_then seats greeted same same_back same_store =
      let seat : Seat L = record { link = guest.link; number = guest.number; told = 0 } in
      ordering_placed i seat Away after places_then back_then store_then seats.was_away seats.is_here (seats_behind each i places back seat seats.was_away)
      (seated_new each links before greets c node i guest greeted) same same_back same_store

  -- a site was told more
  pub ordering_sent : (i : ℕ) (after : JournalState) (places_then : List (Place L)) (back_then : Option (List (ℕ × R))) (store_then : Store D) → TellsNext each node i places places_then → after ≡ node
      → back_then ≡ back → store_then ≡ store → IsOrdering view faults each links before greets c turn first J after places_then back_then store_then
  ordering_sent i after places_then back_then store_then tells same same_back same_store =
      let seat = tells.seat in
      let seat_then = tells.seat_then in
      let was = stands.led.1.linked.seated i seat tells.here in
      let within = was.within in
      let many = next_many node i seat.told in
      let broken : Broken each.gives each.takes seat seat_then = record {
        number = tells.number;
        read = [];
        written = tells.writes.0;
        reads = subst (λ (s : Side). Consumes (each.gives seat.link).bytes s.bytes []) (sym tells.apart) (Consumes-nil (each.gives seat.link).bytes);
        writes = tells.writes.2.0;
      } in
      ordering_placed i seat_then (Here seat) after places_then back_then store_then tells.here tells.places_then (broken_behind each i places back seat seat_then tells.here broken)
      (seated_more each links before greets c node i seat seat_then many was tells.number tells.told (omega arith) tells.writes tells.apart) same same_back same_store

  -- and so where a write may have failed
  pub ordering_tells : (i : ℕ) (after : JournalState) (places_then : List (Place L)) (back_then : Option (List (ℕ × R))) (store_then : Store D) → after ≡ node → store_then ≡ store
      → Tells each node i places places_then back back_then → IsOrdering view faults each links before greets c turn first J after places_then back_then store_then
  ordering_tells i after places_then back_then store_then same same_store (nothing none same_places same_back) = ordering_same after places_then back_then store_then same same_places same_back same_store
  ordering_tells i after places_then back_then store_then same same_store (next tells same_back) = ordering_sent i after places_then back_then store_then tells same same_back same_store
  ordering_tells i after places_then back_then store_then same same_store (fails late ends) = ordering_ended i after places_then back_then store_then same same_store ends

  -- a link was handed back that was nobody's
  pub ordering_taken : (number : ℕ) (rest : R) (after : JournalState) (places_then : List (Place L)) (back_then : Option (List (ℕ × R))) (store_then : Store D) → after ≡ node → places_then ≡ places
      → store_then ≡ store → HasBack back number rest back_then → IsOrdering view faults each links before greets c turn first J after places_then back_then store_then
  ordering_taken number rest after places_then back_then store_then same same_places same_store has =
      let behind = taken_behind each places back back_then number rest has in
      subst (λ (p : List (Place L)). IsOrdering view faults each links before greets c turn first J after p back_then store_then) (sym same_places)
      (ordering_tended after places back_then store_then (node.gathered, same) same_store behind
      (subst (λ (k : JournalState). IsLedFrom each links before greets c begun k places back_then) (sym same)
      (led_behind each links before greets c begun node places places back back_then behind refl stands.led.1.linked.seated stands.led)))

  -- all links were ended
  pub ordering_gone : (n : ℕ) (after : JournalState) (places_then : List (Place L)) (back_then : Option (List (ℕ × R))) (store_then : Store D) → after ≡ node → store_then ≡ store
      → places_then ≡ replicate n Away → n ≡ length c.owned → IsBehind each places back places_then back_then
      → IsOrdering view faults each links before greets c turn first J after (replicate n Away) back_then store_then
  ordering_gone n after places_then back_then store_then same same_store gone many behind =
      let away = replicate n Away in
      let ends : IsBehind each places back away back_then = subst (λ (p : List (Place L)). IsBehind each places back p back_then) gone behind in
      ordering_tended after away back_then store_then (node.gathered, same) same_store ends
      (subst (λ (k : JournalState). IsLedFrom each links before greets c begun k away back_then) (sym same)
      (led_behind each links before greets c begun node places away back back_then ends (length-replicate n Away ∙ many ∙ sym ordering_many) (λ i seat there. absurd (none_is_here n i seat there)) stands.led))

-- ---- a write

-- it was taken
pub tells_next : {L R : Type 0} (each : Links L R) (j : JournalState) (places : List (Place L)) (k i : ℕ) (old : Place L) (seat seat_then : Seat L) (sent : Bool) → k ≡ i → i < length places
    → old ≡ get_or places k old → old ≡ Here seat → seat_then.number ≡ seat.number → seat_then.told ≡ seat.told + min (length (stream_of j i) - seat.told) 290
    → SeatTells j i seat.told seat_then.told (each.takes seat.link) (each.takes seat_then.link) sent → each.gives seat_then.link ≡ each.gives seat.link → sent ≡ true
    → TellsNext each j i places (set places k (Here seat_then))
tells_next each j places k i old seat seat_then sent same within is here number told tells apart taken =
    let wrote = subst (SeatTells j i seat.told seat_then.told (each.takes seat.link) (each.takes seat_then.link)) taken tells in
    let count = wrote.0 in
    let more = wrote.2 in
    let many : count ≡ next_many j i seat.told = omega arith in
    record {
      seat = seat;
      seat_then = seat_then;
      here = read_there places k i old same within is ∙ ap Some here;
      places_then = ap (λ (n : ℕ). set places n (Here seat_then)) same;
      number = number;
      told = told;
      writes = subst (λ (n : ℕ). Writes (told_of j i seat.told n) (each.takes seat.link) (each.takes seat_then.link)) many wrote.1;
      apart = apart;
    }

-- it failed, and the link was ended
pub tells_fails : {L R : Type 0} (each : Links L R) (j : JournalState) (places mid after : List (Place L)) (k i : ℕ) (old : Place L) (seat seat_then : Seat L) (sent : Bool) (back back_then : Option (List (ℕ × R)))
    → k ≡ i → i < length places → old ≡ get_or places k old → old ≡ Here seat → seat_then.number ≡ seat.number
    → SeatTells j i seat.told seat_then.told (each.takes seat.link) (each.takes seat_then.link) sent → each.gives seat_then.link ≡ each.gives seat.link → sent ≡ false
    → mid ≡ set places k (Here seat_then) → Ends each i mid after back back_then → Ends each i places after back back_then
tells_fails each j places mid after k i old seat seat_then sent back back_then same within is here number tells apart failed now ends =
    let wrote = subst (SeatTells j i seat.told seat_then.told (each.takes seat.link) (each.takes seat_then.link)) failed tells in
    ends_asked each places mid after k i old seat seat_then back back_then same within is here now
    (record {
      number = number;
      read = [];
      written = wrote.0;
      reads = subst (λ (s : Side). Consumes (each.gives seat.link).bytes s.bytes []) (sym apart) (Consumes-nil (each.gives seat.link).bytes);
      writes = wrote.1;
    }) ends

-- a site that has a link isn't away
pub away_not_late : {L : Type 0} (j : JournalState) (places : List (Place L)) (k i : ℕ) (old : Place L) → k ≡ i → i < length places → old ≡ get_or places k old → old ≡ Away → IsLate j i places → ⊥
away_not_late j places k i old same within is away late =
    not_here late.0 (same_Some Away (Here late.0) (sym (read_there places k i old same within is ∙ ap Some away) ∙ late.1))

-- how late it is is told by its seat
pub late_is : {L : Type 0} (j : JournalState) (places : List (Place L)) (k i : ℕ) (old : Place L) (seat : Seat L) → k ≡ i → i < length places → old ≡ get_or places k old → old ≡ Here seat
    → seat.told < length (stream_of j i) → IsLate j i places
late_is j places k i old seat same within is here late = (seat, read_there places k i old same within is ∙ ap Some here, late)

pub late_told : {L : Type 0} (j : JournalState) (places : List (Place L)) (k i : ℕ) (old : Place L) (seat : Seat L) → k ≡ i → i < length places → old ≡ get_or places k old → old ≡ Here seat
    → IsLate j i places → seat.told < length (stream_of j i)
late_told j places k i old seat same within is here late =
    subst (λ (x : Seat _). x.told < length (stream_of j i))
    (seat_is late.0 seat (same_Some (Here late.0) (Here seat) (sym late.1 ∙ read_there places k i old same within is ∙ ap Some here))) late.2

-- the place of a link that was ended is away, and the others are as they were
pub ends_set : {L R : Type 0} (each : Links L R) (i : ℕ) (places after : List (Place L)) (back back_then : Option (List (ℕ × R))) → Ends each i places after back back_then → after ≡ set places i Away
ends_set each i places after back back_then (was_away away same same_back) =
    same ∙ sym (ap (λ (p : Place _). set places i p) (sym (get_or_from_slice_get places i Away Away away)) ∙ set-get_or places i Away)
ends_set each i places after back back_then (has_left seat rest here now on has) = now

pub ends_away : {L R : Type 0} (each : Links L R) (i : ℕ) (places after : List (Place L)) (back back_then : Option (List (ℕ × R))) → i < length places → Ends each i places after back back_then
    → slice_get after i ≡ Some Away
ends_away each i places after back back_then below ends =
    ap (λ p. slice_get p i) (ends_set each i places after back back_then ends) ∙ set_there places i Away (get_or places i Away) (slice_get-get_or places i Away below)

pub gone_more : {L R : Type 0} (each : Links L R) (i : ℕ) (places after : List (Place L)) (back back_then : Option (List (ℕ × R))) → i < length places → Ends each i places after back back_then
    → take i places ≡ replicate i Away → take (i + 1) after ≡ replicate (i + 1) Away
gone_more each i places after back back_then below ends so_far =
    ap (take (i + 1)) (ends_set each i places after back back_then ends)
    ∙ take_more_set places i Away below
    ∙ ap (λ p. p ++ Away ∷ []) so_far
    ∙ replicate_more i Away

-- ---- what sites told

-- where a site told, the others told what they had told
pub gathers_more : (j after : JournalState) (i : ℕ) (asked : Asked) → i < length j.gathered → GathersFrom j after i asked → TellsMore j after i
gathers_more j after i asked below from = record {
  only = (now, from.is);
  others = λ k g apart is. was_elsewhere k g apart (sym (ap (λ (n : JournalState). slice_get n.gathered k) from.is) ∙ is);
  kept = λ g is. (
    was,
    slice_get-get_or j.gathered i nothing_told below,
    λ had. marks_kept from.told g (there g is) had,
    λ had. waits_kept from.told g (there g is) had,
  );
}
  where
    now : List Gathered
    now = gathering j.gathered i from.told

    was : Gathered
    was = get_or j.gathered i nothing_told

    there : (g : Gathered) → slice_get after.gathered i ≡ Some g → g ≡ gathered_with was from.told
    there g is =
        same_Some g (gathered_with was from.told)
        (sym is ∙ ap (λ (n : JournalState). slice_get n.gathered i) from.is
        ∙ set_there j.gathered i (gathered_with was from.told) was (slice_get-get_or j.gathered i nothing_told below))

    was_elsewhere : (k : ℕ) (g : Gathered) → k ≢ i → slice_get now k ≡ Some g → slice_get j.gathered k ≡ Some g
    was_elsewhere k g apart is = elim (set_cases j.gathered i (gathered_with was from.told) k g below is) [
      | inl at ↦ absurd (apart at.0)
      | inr other ↦ other.1
    ]

    marks_kept : (t : Told) (g : Gathered) → g ≡ gathered_with was t → HasMarks was → HasMarks g
    marks_kept (told.Marks mark) g is had = (mark, ap (λ (x : Gathered). x.marks) is)
    marks_kept (told.Can events) g is had = (had.0, ap (λ (x : Gathered). x.marks) is ∙ had.1)
    marks_kept (told.Waits event) g is had = (had.0, ap (λ (x : Gathered). x.marks) is ∙ had.1)

    waits_kept : (t : Told) (g : Gathered) → g ≡ gathered_with was t → HasWaits was → HasWaits g
    waits_kept (told.Marks mark) g is had = (had.0, ap (λ (x : Gathered). x.waits) is ∙ had.1)
    waits_kept (told.Can events) g is had = (had.0, ap (λ (x : Gathered). x.waits) is ∙ had.1)
    waits_kept (told.Waits event) g is had = (event, ap (λ (x : Gathered). x.waits) is)

-- nothing was told
pub tells_none : (j after : JournalState) (i : ℕ) → after ≡ j → TellsMore j after i
tells_none j after i same = record {
  only = (j.gathered, same);
  others = λ k g apart is. sym (ap (λ (n : JournalState). slice_get n.gathered k) same) ∙ is;
  kept = λ g is. (g, sym (ap (λ (n : JournalState). slice_get n.gathered i) same) ∙ is, λ had. had, λ had. had);
}

pub tells_further : (j mid after : JournalState) (i : ℕ) → TellsMore j mid i → TellsMore mid after i → TellsMore j after i
tells_further j mid after i one two = record {
  only = (two.only.0, two.only.1 ∙ ap (λ (n : JournalState). with_gathered n two.only.0) one.only.1);
  others = λ k g apart is. one.others k g apart (two.others k g apart is);
  kept = λ g is.
      let second = two.kept g is in
      let first = one.kept second.0 second.1 in
      (first.0, first.1, λ had. second.2 (first.2 had), λ had. second.3 (first.3 had));
}

-- a site told what it was asked
pub told_marks : (j after : JournalState) (i : ℕ) → i < length j.gathered → GathersFrom j after i Marks → (g : Gathered) → slice_get after.gathered i ≡ Some g → HasMarks g
told_marks j after i below from g is = by_kind from.told from.kind (there is)
  where
    was : Gathered
    was = get_or j.gathered i nothing_told

    there : slice_get after.gathered i ≡ Some g → g ≡ gathered_with was from.told
    there is =
        same_Some g (gathered_with was from.told)
        (sym is ∙ ap (λ (n : JournalState). slice_get n.gathered i) from.is
        ∙ set_there j.gathered i (gathered_with was from.told) was (slice_get-get_or j.gathered i nothing_told below))

    by_kind : (t : Told) → what_is_told t ≡ Marks → g ≡ gathered_with was t → HasMarks g
    by_kind (told.Marks mark) kind is = (mark, ap (λ (x : Gathered). x.marks) is)
    by_kind (told.Can events) kind is = absurd (let no : Can ≡ Marks = kind in cc)
    by_kind (told.Waits event) kind is = absurd (let no : Waits ≡ Marks = kind in cc)

pub told_waits : (j after : JournalState) (i : ℕ) → i < length j.gathered → GathersFrom j after i Waits → (g : Gathered) → slice_get after.gathered i ≡ Some g → HasWaits g
told_waits j after i below from g is = by_kind from.told from.kind (there is)
  where
    was : Gathered
    was = get_or j.gathered i nothing_told

    there : slice_get after.gathered i ≡ Some g → g ≡ gathered_with was from.told
    there is =
        same_Some g (gathered_with was from.told)
        (sym is ∙ ap (λ (n : JournalState). slice_get n.gathered i) from.is
        ∙ set_there j.gathered i (gathered_with was from.told) was (slice_get-get_or j.gathered i nothing_told below))

    by_kind : (t : Told) → what_is_told t ≡ Waits → g ≡ gathered_with was t → HasWaits g
    by_kind (told.Marks mark) kind is = absurd (let no : Marks ≡ Waits = kind in cc)
    by_kind (told.Can events) kind is = absurd (let no : Can ≡ Waits = kind in cc)
    by_kind (told.Waits event) kind is = (event, ap (λ (x : Gathered). x.waits) is)

-- whatever came of asking
pub tells_by : (j after : JournalState) (i : ℕ) (asked : Asked) (result : Bool) → i < length j.gathered → (result ≡ true → GathersFrom j after i asked) → (result ≡ false → after ≡ j) → TellsMore j after i
tells_by j after i asked true below told away = gathers_more j after i asked below (told refl)
tells_by j after i asked false below told away = tells_none j after i (away refl)

-- what was looked up is there
pub knows_marks : (j : JournalState) (i : ℕ) (g one : Gathered) (known : Bool) → slice_get j.gathered i ≡ Some g → is_some g.marks ≡ known → known ≡ true → slice_get j.gathered i ≡ Some one → HasMarks one
knows_marks j i g one known there is known_is found =
    subst HasMarks (same_Some g one (sym there ∙ found)) (some_is g.marks (is ∙ known_is))
  where
    some_is : (o : Option SiteMark) → is_some o ≡ true → (mark : SiteMark) × (o ≡ Some mark)
    some_is None none = absurd (false≢true none)
    some_is (Some mark) one = (mark, refl)

pub knows_waits : (j : JournalState) (i : ℕ) (g one : Gathered) (known : Bool) → slice_get j.gathered i ≡ Some g → is_some g.waits ≡ known → known ≡ true → slice_get j.gathered i ≡ Some one → HasWaits one
knows_waits j i g one known there is known_is found =
    subst HasWaits (same_Some g one (sym there ∙ found)) (some_is g.waits (is ∙ known_is))
  where
    some_is : (o : Option (Option ℕ)) → is_some o ≡ true → (event : Option ℕ) × (o ≡ Some event)
    some_is None none = absurd (false≢true none)
    some_is (Some event) one = (event, refl)

-- or isn't
pub unknown_marks : (j after : JournalState) (i : ℕ) (g one : Gathered) (known : Bool) → slice_get j.gathered i ≡ Some g → is_some g.marks ≡ known → known ≡ false → after ≡ j
    → slice_get after.gathered i ≡ Some one → HasMarks one → ⊥
unknown_marks j after i g one known there is known_is same found has =
    let own : slice_get j.gathered i ≡ Some one = sym (ap (λ (n : JournalState). slice_get n.gathered i) same) ∙ found in
    let same_one : g ≡ one = same_Some g one (sym there ∙ own) in
    false≢true (sym known_is ∙ sym is ∙ ap (λ (x : Gathered). is_some x.marks) same_one ∙ ap (λ (o : Option SiteMark). is_some o) has.1)

pub unknown_waits : (j after : JournalState) (i : ℕ) (g one : Gathered) (known : Bool) → slice_get j.gathered i ≡ Some g → is_some g.waits ≡ known → known ≡ false → after ≡ j
    → slice_get after.gathered i ≡ Some one → HasWaits one → ⊥
unknown_waits j after i g one known there is known_is same found has =
    let own : slice_get j.gathered i ≡ Some one = sym (ap (λ (n : JournalState). slice_get n.gathered i) same) ∙ found in
    let same_one : g ≡ one = same_Some g one (sym there ∙ own) in
    false≢true (sym known_is ∙ sym is ∙ ap (λ (x : Gathered). is_some x.waits) same_one ∙ ap (λ (o : Option (Option ℕ)). is_some o) has.1)

-- one site more has told
pub told_more_sites : (j after : JournalState) (k : ℕ) → TellsMore j after k → ((g : Gathered) → slice_get after.gathered k ≡ Some g → HasTold g) → HaveTold j k → HaveTold after (k + 1)
told_more_sites j after k more told had = λ i g below there. elim (cases_eq i k) [
  | inl same ↦ told g (subst (λ n. slice_get after.gathered n ≡ Some g) same there)
  | inr other ↦
      let was = more.others i g other there in
      had i g (not_last i k below other) was
]
  where
    not_last : (a b : ℕ) → a < b + 1 → a ≢ b → a < b
    not_last a b below other = omega arith

-- those before stay told
pub told_kept_sites : (j after : JournalState) (k : ℕ) → TellsMore j after k → HaveTold j k → HaveTold after k
told_kept_sites j after k more had = λ i g below there. had i g below (more.others i g (apart i k below) there)
  where
    apart : (a b : ℕ) → a < b → a ≢ b
    apart a b below = λ same. absurd (omega arith)

pub only_further : (j mid after : JournalState) → OnlyGathers j mid → OnlyGathers mid after → OnlyGathers j after
only_further j mid after one two = (two.0, two.1 ∙ ap (λ (n : JournalState). with_gathered n two.0) one.1)

pub lt_from : (a b : ℕ) → nat_lt a b ≡ true → a < b
lt_from a b is = grind arith

pub not_lt : (a b : ℕ) → nat_lt a b ≡ false → a < b → ⊥
not_lt a b is below = grind arith
