-- What lies under the lock of an order that begins.
use Rattle.std.proofs.Common.{◌≡◌, ℕ, ◌+◌, ◌<◌, ◌≤◌, Bool, true, cond, eqb, List, [], ◌∷◌, ◌++◌, length, get_or, map, replicate, Option, Some, None, refl, sym, ap, subst, ◌∙◌, arith}
use Rattle.std.specs.Prelude.{slice_get, is_none, nat_lt}
use Rattle.std.specs.List.{range_with_len}
use Rattle.std.proofs.lemmas.Bool.{and_from, eq-eqb}
use Rattle.std.proofs.lemmas.List.{append-nil, length-map, length-replicate}
use Rattle.std.proofs.lemmas.List.Elements.{All-nil}
use Rattle.std.proofs.lemmas.List.FromFn.{get_or-map-range_with_len, length-map-range_with_len, map-range_with_len_more}
use Rattle.std.proofs.lemmas.List.Sums.{sum_by-cons}
use Rattle.std.proofs.lemmas.Option.{same_Some, none-some, slice_get_within, slice_get-get_or, get_or_from_slice_get}
use Rattle.dcr_base.specs.Disk.{DiskView}
use Rattle.dcr_base.specs.Link.{Links}
use Rattle.dcr_set.specs.EventSet.{Set}
use Rattle.dcr_proj.specs.CoverValue.{atoms_of}
use Rattle.dcr_journal.specs.JournalValue.{History}
use Rattle.dcr_journal.specs.Run.{IsInRange, IsSound, made_by}
use Rattle.dcr_journal.specs.declared.call.Call.TheVariants.{Exec}
use Rattle.dcr_journal.specs.declared.call.Entry.{Entry}
use Rattle.dcr_journal.specs.declared.call.Outcome.TheVariants.{Done}
use Rattle.dcr_tape.specs.declared.entry.TapeEntry.{TapeEntry}
use Rattle.dcr_tape.specs.declared.tape.Store.{Store}
use Rattle.dcr_turn.specs.TurnId.{TurnId}
use Rattle.dcr_cell.specs.ClusterId.{ClusterId, alphabet_of}
use Rattle.dcr_cell.specs.Stored.{StoreStands}
use Rattle.dcr_node.specs.Gathering.{nothing_gathered}
use Rattle.dcr_node.specs.JournalState.{JournalState, IsProposal, entry_of, execution, is_free, new_journal, with_entry}
use Rattle.dcr_node.proofs.RightLemmas.{gathered_none}
use Rattle.dcr_talk.specs.Truth.{IsRightJournal}
use Rattle.dcr_seat.specs.declared.seat.Seat.{Seat}
use Rattle.dcr_order.specs.Giving.{HasGiven}
use Rattle.dcr_order.specs.Linked.{IsHeard}
use Rattle.dcr_order.specs.Orders.{IsNamedApart, IsOrdering, begun_journal, begun_of, old_entries, old_entry}
use Rattle.dcr_order.specs.declared.place.Place.{Place}
use Rattle.dcr_order.specs.declared.place.Place.TheVariants.{Away, Here}
use Rattle.dcr_order.proofs.CloseLemmas.{none_is_here}
use Rattle.dcr_order.proofs.OrderLemmas.{atoms_are}

-- the journal of these entries, with nothing out
abbrev pub journal_with : List Set → ℕ → List Entry → JournalState
journal_with alphabets session entries =
    let history : History = record { entries = entries; capacity = 200000 } in
    record { alphabets = alphabets; history = history; sessions = session + 1; out = None; gathered = nothing_gathered (length alphabets) }

-- the first so many of the executions from before
abbrev pub old_front : ℕ → List TapeEntry → ℕ → List Entry
old_front session old k = map (old_entry session old) (range_with_len 0 k)

made_all : (session : ℕ) (old : List TapeEntry) (xs : List ℕ) → made_by session (map (old_entry session old) xs) ≡ length xs
made_all session old [] = refl
made_all session old (k ∷ xs) =
    let f = λ (e : Entry). cond {A = ℕ} (eqb e.session session) 1 0 in
    let all : made_by session (old_entry session old k ∷ map (old_entry session old) xs) ≡ f (old_entry session old k) + made_by session (map (old_entry session old) xs) =
    sum_by-cons f (old_entry session old k) (map (old_entry session old) xs) in
    let one : f (old_entry session old k) ≡ 1 = ap (λ (b : Bool). cond {A = ℕ} b 1 0) (eq-eqb session session refl) in
    let rest = made_all session old xs in
    omega arith

front_long : (session : ℕ) (old : List TapeEntry) (k : ℕ) → length (old_front session old k) ≡ k
front_long session old k = length-map-range_with_len (old_entry session old) 0 k

-- all of the session
pub front_made : (session : ℕ) (old : List TapeEntry) (k : ℕ) → made_by session (old_front session old k) ≡ k
front_made session old k =
    made_all session old (range_with_len 0 k)
    ∙ sym (length-map (range_with_len 0 k) (old_entry session old))
    ∙ front_long session old k

-- they may be entered one after the other
pub front_free : (alphabets : List Set) (session : ℕ) (old : List TapeEntry) (k : ℕ) → k < 200000 → is_free (journal_with alphabets session (old_front session old k)) ≡ true
front_free alphabets session old k few =
    let long = front_long session old k in
    let j = journal_with alphabets session (old_front session old k) in
    and_from (is_none j.out) (nat_lt (length (old_front session old k)) 200000) refl (lt_is (length (old_front session old k)) 200000 (omega arith))
  where
    lt_is : (a b : ℕ) → a < b → nat_lt a b ≡ true
    lt_is a b below = grind arith

-- an execution of a site and an atom may be proposed
pub front_proposal : (alphabets : List Set) (session : ℕ) (entries : List Entry) (x : TapeEntry) → IsInRange (length alphabets) (atoms_of alphabets) (Exec x.site x.event)
    → IsProposal (journal_with alphabets session entries) (execution session x.site x.event)
front_proposal alphabets session entries x range = record { session = omega arith; call = range }

pub front_next : (alphabets : List Set) (session : ℕ) (old : List TapeEntry) (k : ℕ) (x : TapeEntry) → slice_get old k ≡ Some x
    → with_entry (journal_with alphabets session (old_front session old k)) (entry_of (journal_with alphabets session (old_front session old k)) (execution session x.site x.event) Done)
    ≡ journal_with alphabets session (old_front session old (k + 1))
front_next alphabets session old k x there =
    let none : TapeEntry = record { event = 0; site = 0 } in
    let front = old_front session old k in
    let is : x ≡ get_or old k none = sym (get_or_from_slice_get old k x none there) in
    let seq : made_by session front ≡ k = front_made session old k in
    let entry : (n : ℕ) (y : TapeEntry) → Entry = λ n y. record { session = session; seq = n; call = Exec y.site y.event; outcome = Done } in
    ap (λ (n : ℕ). journal_with alphabets session (front ++ entry n x ∷ [])) seq
    ∙ ap (λ (y : TapeEntry). journal_with alphabets session (front ++ entry k y ∷ [])) is
    ∙ ap (journal_with alphabets session) (sym (map-range_with_len_more (old_entry session old) 0 k k (omega arith)))

-- ---- the beginning

no_link : {R : Type 0} (before back : Option (List (ℕ × R))) → back ≡ before → (had all : List (ℕ × R)) → before ≡ Some had → back ≡ Some all → (since : List (ℕ × R)) × (all ≡ had ++ since)
no_link before back same had all was is = ([], same_Some all had (sym is ∙ same ∙ was) ∙ sym (append-nil had))

module _ {D L R : Type 0} (view : D → DiskView) (faults : D → ℕ) (each : Links L R) (links : Option (List L)) (before : Option (List (ℕ × R))) (greets : ℕ → List ℕ → List ℕ → Type 0) (c : ClusterId)
    (turn : TurnId) (first : Option (Store D)) (named : IsNamedApart c turn) (sound : IsSound c.rules c.owned c.opening (old_entries turn.sessions c.old)) where
  begun_right : IsRightJournal c.rules c.owned c.opening (begun_journal c turn.sessions)
  begun_right = record {
    is_case = record { some_site = named.some_site; rooms = named.rooms; covers = named.covered; opening = named.opening };
    alphabets = refl;
    sound = sound;
    out = λ p none. absurd (none-some p none);
    gathered = gathered_none c.rules c.owned c.opening (begun_journal c turn.sessions) refl (length-map c.owned (alphabet_of c));
  }

  pub ordering_begins : (alphabets : List Set) (session : ℕ) (old : List TapeEntry) (node : JournalState) (places : List (Place L)) (back : Option (List (ℕ × R))) (store : Store D) (n : ℕ)
      → alphabets ≡ map (alphabet_of c) c.owned → session ≡ turn.sessions → old ≡ c.old → node ≡ begun_of alphabets session old → places ≡ replicate n Away → n ≡ length alphabets → back ≡ before
      → StoreStands view faults first c.old [] store → IsOrdering view faults each links before greets c turn first [] node places back store
  ordering_begins alphabets session old node places back store n are same_session same_old is away many same_back stored =
      let begins : node ≡ begun_journal c turn.sessions =
      is
      ∙ ap (λ (A : List Set). begun_of A session old) are
      ∙ ap (λ (s : ℕ). begun_of (map (alphabet_of c) c.owned) s old) same_session
      ∙ ap (λ (o : List TapeEntry). begun_of (map (alphabet_of c) c.owned) turn.sessions o) same_old in
      let sites : length alphabets ≡ length c.owned = ap (λ (A : List Set). length A) are ∙ length-map c.owned (alphabet_of c) in
      let none : (i : ℕ) (seat : Seat L) → slice_get places i ≡ Some (Here seat) → ⊥ = λ i seat there. none_is_here n i seat (sym (ap (λ (p : List (Place L)). slice_get p i) away) ∙ there) in
      record {
        alphabets = ap (λ (j : JournalState). j.alphabets) begins;
        entries = ap (λ (j : JournalState). j.history.entries) begins ∙ sym (append-nil (old_entries turn.sessions c.old));
        capacity = ap (λ (j : JournalState). j.history.capacity) begins;
        sessions = ap (λ (j : JournalState). j.sessions) begins;
        out = ap (λ (j : JournalState). j.out) begins;
        fits = All-nil _;
        failed = λ k entry there fault. absurd (let within = slice_get_within [] k entry there in omega arith);
        stored = stored;
        led = (
          [],
          record {
            by_acts = begins;
            linked = record {
              many = ap (λ (p : List (Place L)). length p) away ∙ length-replicate n Away ∙ many ∙ sites;
              seated = λ i seat there. absurd (none i seat there);
              heard = All-nil (IsHeard each links before greets c places back);
              returned = no_link before back same_back;
            };
            right = λ honest. subst (IsRightJournal c.rules c.owned c.opening) (sym begins) begun_right;
          },
        );
      }

pub given_none : {L : Type 0} (links left : Option (List L)) → left ≡ links → HasGiven links 0 left
given_none links left same = λ all is. (omega arith, same ∙ is)

-- the executions from before are ones of sites and atoms
pub old_in_range : (c : ClusterId) (session : ℕ) (alphabets : List Set) (old : List TapeEntry) → 1 ≤ length c.owned → alphabets ≡ map (alphabet_of c) c.owned → old ≡ c.old
    → IsSound c.rules c.owned c.opening (old_entries session c.old) → (k : ℕ) (x : TapeEntry) → slice_get old k ≡ Some x → IsInRange (length alphabets) (atoms_of alphabets) (Exec x.site x.event)
old_in_range c session alphabets old some are same sound k x there =
    let none : TapeEntry = record { event = 0; site = 0 } in
    let found : slice_get c.old k ≡ Some x = sym (ap (λ (o : List TapeEntry). slice_get o k) same) ∙ there in
    let within = slice_get_within c.old k x found in
    let long : length (old_entries session c.old) ≡ length c.old = length-map-range_with_len (old_entry session c.old) 0 (length c.old) in
    let entry = old_entry session c.old k in
    let is : slice_get (old_entries session c.old) k ≡ Some entry =
    slice_get-get_or (old_entries session c.old) k entry (omega arith) ∙ ap Some (get_or-map-range_with_len (old_entry session c.old) 0 (length c.old) k k entry within (omega arith)) in
    let range : IsInRange (length c.owned) c.rules.atoms entry.call = (sound.legal k entry is).in_range in
    let own : IsInRange (length c.owned) c.rules.atoms (Exec x.site x.event) =
    subst (λ (y : TapeEntry). IsInRange (length c.owned) c.rules.atoms (Exec y.site y.event)) (get_or_from_slice_get c.old k x none found) range in
    let sites : length alphabets ≡ length c.owned = ap (λ (A : List Set). length A) are ∙ length-map c.owned (alphabet_of c) in
    let atoms : atoms_of alphabets ≡ c.rules.atoms = ap atoms_of are ∙ atoms_are c some in
    subst (λ (n : ℕ). IsInRange n (atoms_of alphabets) (Exec x.site x.event)) (sym sites) (subst (λ (n : ℕ). IsInRange (length c.owned) n (Exec x.site x.event)) (sym atoms) own)

pub old_proposal : (c : ClusterId) (sessions session : ℕ) (alphabets : List Set) (old : List TapeEntry) (node : JournalState) → 1 ≤ length c.owned → alphabets ≡ map (alphabet_of c) c.owned → old ≡ c.old
    → IsSound c.rules c.owned c.opening (old_entries sessions c.old) → node ≡ new_journal alphabets (session + 1) 200000 → (k : ℕ) (x : TapeEntry) → slice_get old k ≡ Some x
    → IsProposal node (execution session x.site x.event)
old_proposal c sessions session alphabets old node some are same sound is k x there =
    subst (λ (j : JournalState). IsProposal j (execution session x.site x.event)) (sym is)
    (record { session = omega arith; call = old_in_range c sessions alphabets old some are same sound k x there })
