-- What an order has ended with is a run of the graph, where the links spoke as the machines of their sites do.
use Rattle.std.proofs.Common.{◌≡◌, ℕ, zero, suc, ◌+◌, ◌<◌, ◌≤◌, Bool, true, false, not, cond, List, [], ◌∷◌, ◌++◌, length, get_or, map, take, replicate, fold, Option, Some, None, inl, inr, refl, sym, ap, subst, ◌∙◌, arith}
use Rattle.std.specs.Prelude.{slice_get}
use Rattle.std.specs.List.{All, range_with_len}
use Rattle.std.specs.Option.{option_map_or}
use Rattle.std.proofs.lemmas.Bool.{false≢true}
use Rattle.std.proofs.lemmas.List.{append-nil, get_or_append_left, get_or-append-add, length-append, length-map, nil_from_length, take_all, take_more, take-append-le}
use Rattle.std.proofs.lemmas.List.Elements.{All-nil, All-cons, All-contains, filter-append}
use Rattle.std.proofs.lemmas.List.FromFn.{map-range_with_len_more}
use Rattle.std.proofs.lemmas.List.Sums.{fold-append, fold_push}
use Rattle.std.proofs.lemmas.Option.{same_Some, slice_get_within, slice_get-get_or, get_or_from_slice_get}
use Rattle.dcr_base.specs.Disk.{DiskView}
use Rattle.dcr_base.specs.Link.{Links}
use Rattle.dcr_set.proofs.ListLemmas.{push_cases}
use Rattle.dcr_graph.specs.Rows.{row}
use Rattle.dcr_graph.specs.Rules.{Rules}
use Rattle.dcr_graph.specs.Step.{step}
use Rattle.dcr_graph.specs.Cause.{waits}
use Rattle.dcr_graph.specs.declared.marking.Marking.{Marking}
use Rattle.dcr_graph.specs.declared.marking.SiteMark.{SiteMark}
use Rattle.dcr_site.specs.Decision.{decision}
use Rattle.dcr_site.specs.declared.site.Decision.TheVariants.{Enabled}
use Rattle.dcr_journal.specs.Answer.{answer, outcome_decided}
use Rattle.dcr_journal.specs.Run.{HasNoFault, IsInRange, IsLegalAt, IsSound, after, event_done, made_by, marks_at, stepped_by}
use Rattle.dcr_journal.specs.declared.call.Call.{Call}
use Rattle.dcr_journal.specs.declared.call.Call.TheVariants as call
use Rattle.dcr_journal.specs.declared.call.Entry.{Entry}
use Rattle.dcr_journal.specs.declared.call.Outcome.{Outcome}
use Rattle.dcr_journal.specs.declared.call.Outcome.TheVariants.{Done, Faulted}
use Rattle.dcr_line.specs.Fits.{FitsEntry}
use Rattle.dcr_tape.specs.declared.entry.TapeEntry.{TapeEntry}
use Rattle.dcr_tape.specs.declared.tape.Store.{Store}
use Rattle.dcr_turn.specs.Pushing.{is_fault}
use Rattle.dcr_turn.specs.TurnId.{TurnId}
use Rattle.dcr_cell.specs.ClusterId.{ClusterId, IsRunOf, begun, marking_after}
use Rattle.dcr_node.specs.Gathering.{waits_told}
use Rattle.dcr_node.specs.JournalState.{JournalState, execution, with_out}
use Rattle.dcr_node.specs.Right.{IsOutAt, asked}
use Rattle.dcr_node.specs.declared.gathered.Gathered.{Gathered}
use Rattle.dcr_node.specs.declared.journal_node.Proposal.{Proposal}
use Rattle.dcr_node.proofs.AnsweredLemmas.{all_marks, all_wait}
use Rattle.dcr_node.proofs.RightLemmas.{gathered_none}
use Rattle.dcr_node.proofs.TruthLemmas.{decided_is_answered, slice_get_last}
use Rattle.dcr_talk.specs.Speaks.{Speaks, AllSpeak}
use Rattle.dcr_talk.specs.Truth.{IsRightJournal, IsTrueSent}
use Rattle.dcr_seat.proofs.HonestLemmas.{talk_is_honest}
use Rattle.dcr_seat.specs.declared.seat.Seat.{Seat}
use Rattle.dcr_order.specs.Acts.{Moment, Act, proposes, withdraws, hears, answers_of, IsHonestAct}
use Rattle.dcr_order.specs.Linked.{CameBack, HasVoted, IsHeard, IsOfTalk, over_here, came_back}
use Rattle.dcr_order.specs.Orders.{IsOrdering, old_entries, old_entry, unfaulted}
use Rattle.dcr_order.specs.Tending.{EndsAsTheGraph}
use Rattle.dcr_order.specs.declared.place.Place.{Place}
use Rattle.dcr_order.specs.declared.place.Place.TheVariants.{Away, Here}
use Rattle.dcr_order.proofs.LedLemmas.{honest_is_true}
use Rattle.dcr_order.proofs.LinkLemmas.{not_here}
use Rattle.dcr_order.proofs.OrderLemmas.{all_unfaulted, made_behind}

-- ---- lists

take_behind : {X : Type 0} (xs ys : List X) (n : ℕ) → take (length xs + n) (xs ++ ys) ≡ xs ++ take n ys
take_behind [] ys n = let same : 0 + n ≡ n = omega arith in ap (λ k. take k ys) same
take_behind (x ∷ xs) ys n =
    let same : length (x ∷ xs) + n ≡ suc (length xs + n) = omega arith in
    ap (λ k. take k (x ∷ (xs ++ ys))) same ∙ ap (λ zs. x ∷ zs) (take_behind xs ys n)

get_behind : {X : Type 0} (xs ys : List X) (n : ℕ) (y : X) → slice_get ys n ≡ Some y → slice_get (xs ++ ys) (length xs + n) ≡ Some y
get_behind xs ys n y there =
    let within = slice_get_within ys n y there in
    let long = length-append xs ys in
    slice_get-get_or (xs ++ ys) (length xs + n) y (omega arith) ∙ ap Some (get_or-append-add xs ys n y ∙ get_or_from_slice_get ys n y y there)

pub none_is_here : {L : Type 0} (n i : ℕ) (seat : Seat L) → slice_get (replicate n Away) i ≡ Some (Here seat) → ⊥
none_is_here zero i seat there = absurd (let within = slice_get_within [] i (Here seat) there in omega arith)
none_is_here (suc n) zero seat there = not_here seat (same_Some Away (Here seat) there)
none_is_here (suc n) (suc i) seat there = none_is_here n i seat there

-- ---- a fault that stands last

fault_is : (o : Outcome) → is_fault o ≡ true → o ≡ Faulted
fault_is Faulted is = refl
fault_is o is = absurd (false≢true is)

no_fault_is : (o : Outcome) → is_fault o ≡ false → o ≡ Faulted → ⊥
no_fault_is o is fault = false≢true (sym is ∙ ap is_fault fault)

data Shape (J : List Entry) : Type 0 where
  no_fault : HasNoFault J → Shape J
  fault_last : (K : List Entry) (entry : Entry) → J ≡ K ++ entry ∷ [] → entry.outcome ≡ Faulted → HasNoFault K → Shape J

abbrev not_failed : Entry → Type 0
not_failed entry = entry.outcome ≡ Faulted → ⊥

abbrev FaultsAreLast : List Entry → Type 0
FaultsAreLast J = (k : ℕ) (entry : Entry) → slice_get J k ≡ Some entry → entry.outcome ≡ Faulted → k + 1 ≡ length J

shape_behind : (entry : Entry) (J : List Entry) → (entry.outcome ≡ Faulted → ⊥) → Shape J → Shape (entry ∷ J)
shape_behind entry J first (no_fault none) = no_fault (All-cons not_failed entry J first none)
shape_behind entry J first (fault_last K e is fault none) = fault_last (entry ∷ K) e (ap (λ (xs : List Entry). entry ∷ xs) is) fault (All-cons not_failed entry K first none)

shape_first : (entry : Entry) (J : List Entry) → FaultsAreLast (entry ∷ J) → Shape J → (b : Bool) → is_fault entry.outcome ≡ b → Shape (entry ∷ J)
shape_first entry J last others true is =
    let fault = fault_is entry.outcome is in
    let alone : 0 + 1 ≡ length (entry ∷ J) = last 0 entry refl fault in
    let nothing : J ≡ [] = nil_from_length J (omega arith) in
    fault_last [] entry (ap (λ (xs : List Entry). entry ∷ xs) nothing) fault (All-nil not_failed)
shape_first entry J last others false is = shape_behind entry J (no_fault_is entry.outcome is) others

shape_of : (J : List Entry) → FaultsAreLast J → Shape J
shape_of [] last = no_fault (All-nil not_failed)
shape_of (entry ∷ J) last =
    shape_first entry J last (shape_of J (λ k e there fault. let more : suc k + 1 ≡ length (entry ∷ J) = last (suc k) e there fault in omega arith)) (is_fault entry.outcome) refl

fault_done : (c : Call) (o : Outcome) → o ≡ Faulted → event_done c o ≡ None
fault_done c o is = ap (event_done c) is ∙ none c
  where
    none : (c : Call) → event_done c Faulted ≡ None
    none (call.Exec i e) = refl
    none (call.Look i) = refl
    none (call.Enabled i) = refl
    none call.Accepting = refl

-- a fault changes no marking
after_fault : (G : Rules) (M : Marking) (K : List Entry) (entry : Entry) → entry.outcome ≡ Faulted → after G M (K ++ entry ∷ []) ≡ after G M K
after_fault G M K entry fault =
    fold_push (λ N (e : Entry). stepped_by G N e.call e.outcome) M K entry
    ∙ ap (λ (o : Option ℕ). option_map_or (step G (after G M K)) o (after G M K)) (fault_done entry.call entry.outcome fault)

-- of entries of which the last failed the others are unfaulted
fault_left : (K : List Entry) (entry : Entry) → entry.outcome ≡ Faulted → HasNoFault K → unfaulted (K ++ entry ∷ []) ≡ K
fault_left K entry fault none =
    filter-append (λ (e : Entry). not (is_fault e.outcome)) K (entry ∷ [])
    ∙ ap (λ (xs : List Entry). xs ++ unfaulted (entry ∷ [])) (all_unfaulted K none)
    ∙ ap (λ (b : Bool). K ++ cond (not b) (entry ∷ []) []) (ap is_fault fault)
    ∙ append-nil K

-- ---- the executions from before

-- they step the marking of the case
pub after_old : (G : Rules) (M : Marking) (session : ℕ) (old : List TapeEntry) (k : ℕ) → k ≤ length old
    → after G M (map (old_entry session old) (range_with_len 0 k)) ≡ fold (λ N (x : TapeEntry). step G N x.event) M (take k old)
after_old G M session old zero within = refl
after_old G M session old (suc k) within =
    let none : TapeEntry = record { event = 0; site = 0 } in
    let f : ℕ → Entry = old_entry session old in
    let up : k + 1 ≡ suc k = omega arith in
    let more : map f (range_with_len 0 (suc k)) ≡ map f (range_with_len 0 k) ++ f k ∷ [] =
    ap (λ n. map f (range_with_len 0 n)) (sym up) ∙ map-range_with_len_more f 0 k k (omega arith) in
    let front : take (suc k) old ≡ take k old ++ get_or old k none ∷ [] = ap (λ n. take n old) (sym up) ∙ take_more old k none (omega arith) in
    ap (after G M) more
    ∙ fold_push (λ N (e : Entry). stepped_by G N e.call e.outcome) M (map f (range_with_len 0 k)) (f k)
    ∙ ap (λ N. step G N (get_or old k none).event) (after_old G M session old k (omega arith))
    ∙ sym (fold_push (λ N (x : TapeEntry). step G N x.event) M (take k old) (get_or old k none))
    ∙ ap (λ (xs : List TapeEntry). fold (λ N (x : TapeEntry). step G N x.event) M xs) (sym front)

begun_is : (c : ClusterId) (session : ℕ) → after c.rules c.opening (old_entries session c.old) ≡ begun c
begun_is c session =
    after_old c.rules c.opening session c.old (length c.old) (omega arith)
    ∙ ap (λ (xs : List TapeEntry). fold (λ N (x : TapeEntry). step c.rules N x.event) c.opening xs) (take_all (length c.old) c.old (omega arith))

after_begun : (c : ClusterId) (session : ℕ) (K : List Entry) → after c.rules c.opening (old_entries session c.old ++ K) ≡ after c.rules (begun c) K
after_begun c session K =
    fold-append (λ N (e : Entry). stepped_by c.rules N e.call e.outcome) c.opening (old_entries session c.old) K
    ∙ ap (λ N. after c.rules N K) (begun_is c session)

-- behind them stands a run that goes on from them
record IsSoundAt (c : ClusterId) (K : List Entry) (place : ℕ) (entry : Entry) : Type 0 where
  pub in_range : IsInRange (length c.owned) c.rules.atoms entry.call
  pub seq : entry.seq ≡ made_by entry.session (take place K)
  pub outcome : entry.outcome ≡ answer c.rules c.owned (after c.rules (begun c) (take place K)) entry.call

sound_behind : (c : ClusterId) (session : ℕ) (K : List Entry) → IsSound c.rules c.owned c.opening (old_entries session c.old ++ K) → All (λ (entry : Entry). entry.session < session) K
    → (place : ℕ) (entry : Entry) → slice_get K place ≡ Some entry → IsSoundAt c K place entry
sound_behind c session K sound below place entry there =
    let old = old_entries session c.old in
    let front : take (length old + place) (old ++ K) ≡ old ++ take place K = take_behind old K place in
    let found : slice_get (old ++ K) (length old + place) ≡ Some entry = get_behind old K place entry there in
    let is : IsLegalAt c.rules c.owned c.opening (old ++ K) (length old + place) entry = sound.legal (length old + place) entry found in
    let within = slice_get_within K place entry there in
    let one : entry.session < session = subst (λ (e : Entry). e.session < session) (get_or_from_slice_get K place entry entry there) (below place entry within) in
    let none : entry.outcome ≡ Faulted → ⊥ =
    subst (λ (e : Entry). e.outcome ≡ Faulted → ⊥) (get_or_from_slice_get (old ++ K) (length old + place) entry entry found)
    (sound.no_fault (length old + place) entry (slice_get_within (old ++ K) (length old + place) entry found)) in
    record {
      in_range = is.in_range;
      seq = is.seq ∙ ap (made_by entry.session) front ∙ made_behind entry.session session c.old (take place K) one;
      outcome = elim is.outcome [
        | inl told ↦ told ∙ ap (λ N. answer c.rules c.owned N entry.call) (ap (after c.rules c.opening) front ∙ after_begun c session (take place K))
        | inr fault ↦ absurd (none fault.outcome)
      ];
    }

-- ---- an execution that failed could have been done

abbrev event_in : Call → ℕ
event_in (call.Exec i e) = e
event_in (call.Look i) = 0
event_in (call.Enabled i) = 0
event_in call.Accepting = 0

module _ {L R : Type 0} (each : Links L R) (links : Option (List L)) (before : Option (List (ℕ × R))) (greets : ℕ → List ℕ → List ℕ → Type 0) (c : ClusterId) where
  voted_possible : (j : JournalState) (places : List (Place L)) (back : Option (List (ℕ × R))) (session i e : ℕ) → IsRightJournal c.rules c.owned c.opening j → i < length c.owned → e < c.rules.atoms
      → (voted : HasVoted each links before greets c j places back session i e) → IsHonestAct c.rules c.owned c.opening (hears voted.moment)
      → answer c.rules c.owned (after c.rules c.opening j.history.entries) (call.Exec i e) ≡ Done
  voted_possible j places back session i e right below atom voted honest =
      let G = c.rules in let C = c.owned in let M = c.opening in
      let J = j.history.entries in
      let n = length J in
      let m = voted.moment in
      let p : Proposal = execution session i e in
      let put : JournalState = with_out j p in
      let out : IsRightJournal G C M put = record {
        is_case = right.is_case;
        alphabets = right.alphabets;
        sound = right.sound;
        out = λ q is. subst (IsOutAt G C) (same_Some p q is) (below, atom);
        gathered = gathered_none G C M put refl (ap (λ A. length A) right.alphabets ∙ length-map C _);
      } in
      let said : IsTrueSent G C M put m.answer = honest_is_true G C M put out m (subst (λ k. k < length C) (sym voted.site) below) voted.are_true honest in
      let is = subst (IsTrueSent G C M put) voted.vote said in
      let calls : List Call = map (λ (entry : Entry). entry.call) J in
      let last : slice_get (asked put) n ≡ Some (call.Exec i e) = slice_get_last calls (call.Exec i e) n (sym (length-map J (λ (entry : Entry). entry.call))) in
      let same : is.0 ≡ e = ap event_in (same_Some (call.Exec i is.0) (call.Exec i e) (sym is.1 ∙ last)) in
      let decides : Enabled ≡ decision G (row C i) (after G M J) e =
      is.2 ∙ ap (λ (K : List Entry). decision G (row C i) (after G M K) is.0) (take_all n J (omega arith)) ∙ ap (λ (k : ℕ). decision G (row C i) (after G M J) k) same in
      sym (decided_is_answered G C (after G M J) i e) ∙ ap outcome_decided (sym decides)

  -- ---- all that was heard is what the sites' machines answer

  module _ (back : Option (List (ℕ × R))) (since : List (ℕ × R)) (came : CameBack each links before greets c back since) (speak : AllSpeak each links greets c.rules c.owned c.opening since) (n : ℕ) where
    moment_honest : (m : Moment) → IsHeard each links before greets c (replicate n Away) back (hears m) → IsHonestAct c.rules c.owned c.opening (hears m)
    moment_honest m heard = by_talk heard.0
      where
        by_talk : IsOfTalk each links before greets c (replicate n Away) back m → IsHonestAct c.rules c.owned c.opening (hears m)
        by_talk (over_here seat unheard unasked there number talk) = absurd (none_is_here n m.site seat there)
        by_talk (came_back comes) =
            let is = comes since came in
            talk_is_honest each links greets c.rules c.owned c.opening m.number m.site is.0 m.asked (answers_of m) is.2.0 is.2.1
            (All-contains (λ (one : ℕ × R). Speaks each links greets c.rules c.owned c.opening one.0 one.1) since (m.number, is.0) speak is.1) is.2.2 heard.1

    act_honest : (act : Act) → IsHeard each links before greets c (replicate n Away) back act → IsHonestAct c.rules c.owned c.opening act
    act_honest (proposes p) heard = tt
    act_honest withdraws heard = tt
    act_honest (hears m) heard = moment_honest m heard

    all_honest : (acts : List Act) → All (IsHeard each links before greets c (replicate n Away) back) acts → All (IsHonestAct c.rules c.owned c.opening) acts
    all_honest acts heard = λ k d below. act_honest (get_or acts k d) (heard k d below)

-- ---- the end

module _ {D L R : Type 0} (view : D → DiskView) (faults : D → ℕ) (each : Links L R) (links : Option (List L)) (before : Option (List (ℕ × R))) (greets : ℕ → List ℕ → List ℕ → Type 0) (c : ClusterId)
    (turn : TurnId) (first : Option (Store D)) (J : List Entry) (node : JournalState) (n : ℕ) (back : Option (List (ℕ × R))) (store : Store D)
    (stands : IsOrdering view faults each links before greets c turn first J node (replicate n Away) back store) (sessions : All (λ (entry : Entry). entry.session < turn.sessions) J)
    (since : List (ℕ × R)) (came : CameBack each links before greets c back since) (speak : AllSpeak each links greets c.rules c.owned c.opening since) where
  end_right : IsRightJournal c.rules c.owned c.opening node
  end_right = stands.led.1.right (all_honest each links before greets c back since came speak n stands.led.0 stands.led.1.linked.heard)

  end_shape : Shape J
  end_shape = shape_of J (λ k entry is fault. (stands.failed k entry is fault).last)

  end_sound : (K : List Entry) → unfaulted J ≡ K → IsSound c.rules c.owned c.opening (old_entries turn.sessions c.old ++ K)
  end_sound K is = subst (IsSound c.rules c.owned c.opening) (stands.entries ∙ ap (λ (xs : List Entry). old_entries turn.sessions c.old ++ xs) is) end_right.sound

  legal_by : Shape J → IsRunOf c J
  legal_by (no_fault none) = λ place entry there.
      let is = sound_behind c turn.sessions J (end_sound J (all_unfaulted J none)) sessions place entry there in
      record { in_range = is.in_range; seq = is.seq; outcome = inl is.outcome }
  legal_by (fault_last K last is fault none) = λ place entry there.
      let left : unfaulted J ≡ K = ap unfaulted is ∙ fault_left K last fault none in
      let sound = end_sound K left in
      let long = ap (λ (xs : List Entry). length xs) is ∙ length-append K (last ∷ []) in
      let among : slice_get (K ++ last ∷ []) place ≡ Some entry = sym (ap (λ (xs : List Entry). slice_get xs place) is) ∙ there in
      elim (push_cases K last place entry among) [
        | inl at ↦
            let failed = stands.failed place entry there (ap (λ (e : Entry). e.outcome) at.1 ∙ fault) in
            let fits = subst (FitsEntry (length c.owned) c.rules.atoms) (get_or_from_slice_get J place entry entry there) (stands.fits place entry (slice_get_within J place entry there)) in
            let range : IsInRange (length c.owned) c.rules.atoms (call.Exec failed.site failed.event) = subst (λ (x : Call). IsInRange (length c.owned) c.rules.atoms x) failed.call fits.call in
            let honest = moment_honest each links before greets c back since came speak n failed.voted.moment failed.voted.heard in
            let possible = voted_possible each links before greets c node (replicate n Away) back entry.session failed.site failed.event end_right range.0 range.1 failed.voted honest in
            let front : take place J ≡ K =
            ap (λ (xs : List Entry). take place xs) is
            ∙ take-append-le place K (last ∷ []) (omega arith)
            ∙ take_all place K (omega arith) in
            let marking : after c.rules c.opening node.history.entries ≡ after c.rules (begun c) (take place J) =
            ap (after c.rules c.opening) (stands.entries ∙ ap (λ (xs : List Entry). old_entries turn.sessions c.old ++ xs) (left ∙ sym front)) ∙ after_begun c turn.sessions (take place J) in
            record {
              in_range = fits.call;
              seq = failed.seq;
              outcome = inr (record {
                outcome = ap (λ (e : Entry). e.outcome) at.1 ∙ fault;
                possible = ap (λ (x : Call). answer c.rules c.owned (after c.rules (begun c) (take place J)) x) failed.call
                    ∙ ap (λ N. answer c.rules c.owned N (call.Exec failed.site failed.event)) (sym marking)
                    ∙ possible;
                last = failed.last;
              });
            }
        | inr old ↦
            let within = slice_get_within K place entry old in
            let front : take place J ≡ take place K = ap (λ (xs : List Entry). take place xs) is ∙ take-append-le place K (last ∷ []) (omega arith) in
            let below : All (λ (e : Entry). e.session < turn.sessions) K = λ k d inside.
            subst (λ (e : Entry). e.session < turn.sessions) (in_front k d inside) (sessions k d (omega arith)) in
            let one = sound_behind c turn.sessions K sound below place entry old in
            record {
              in_range = one.in_range;
              seq = one.seq ∙ ap (made_by entry.session) (sym front);
              outcome = inl (one.outcome ∙ ap (λ (xs : List Entry). answer c.rules c.owned (after c.rules (begun c) xs) entry.call) (sym front));
            }
      ]
    where
      in_front : (k : ℕ) (d : Entry) → k < length K → get_or J k d ≡ get_or K k d
      in_front k d inside = ap (λ (xs : List Entry). get_or xs k d) is ∙ get_or_append_left K (last ∷ []) d k inside

  marking_by_shape : Shape J → after c.rules c.opening node.history.entries ≡ marking_after c J
  marking_by_shape (no_fault none) =
      ap (after c.rules c.opening) (stands.entries ∙ ap (λ (xs : List Entry). old_entries turn.sessions c.old ++ xs) (all_unfaulted J none)) ∙ after_begun c turn.sessions J
  marking_by_shape (fault_last K last is fault none) =
      ap (after c.rules c.opening) (stands.entries ∙ ap (λ (xs : List Entry). old_entries turn.sessions c.old ++ xs) (ap unfaulted is ∙ fault_left K last fault none))
      ∙ after_begun c turn.sessions K
      ∙ sym (ap (after c.rules (begun c)) is ∙ after_fault c.rules (begun c) K last fault)

  pub ends_as_the_graph : (marks : List SiteMark) (event : Option ℕ) → map Some marks ≡ map (λ (g : Gathered). g.marks) node.gathered → Some event ≡ waits_told node.gathered
      → EndsAsTheGraph c J marks event
  ends_as_the_graph marks event told_marks told_waits =
      let marking = marking_by_shape end_shape in
      record {
        legal = legal_by end_shape;
        marks_are = all_marks c.rules c.owned c.opening node marks end_right.gathered (sym told_marks) ∙ ap (λ N. marks_at c.rules c.owned N) marking;
        waits_are = all_wait c.rules c.owned c.opening node event end_right.is_case.covers end_right.gathered (sym told_waits) ∙ ap (λ N. waits c.rules.atoms N) marking;
      }
