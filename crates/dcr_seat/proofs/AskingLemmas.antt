-- What was written over a link, one after the other.
use Rattle.std.proofs.Common.{◌≡◌, ℕ, zero, suc, ◌+◌, ◌-◌, ◌*◌, ◌≤◌, Bool, true, false, List, [], ◌∷◌, ◌++◌, length, get_or, Option, Some, None, inr, refl, sym, ap, subst, ◌∙◌, append_assoc, arith}
use Rattle.std.specs.Prelude.{slice_get}
use Rattle.std.specs.Option.{IfNone, option_map}
use Rattle.std.specs.Io.KnownBytes.{Consumes}
use Rattle.std.proofs.KnownBytes.{Consumes-nil, Appends-trans}
use Rattle.std.proofs.lemmas.List.{append-nil, length-append}
use Rattle.std.proofs.lemmas.List.FromFn.{map-range_with_len_more}
use Rattle.std.proofs.lemmas.Option.{get_or_from_slice_get, same_Some, none-some}
use Rattle.dcr_base.specs.Count.{Fails}
use Rattle.dcr_base.specs.Side.{Side, Adds}
use Rattle.dcr_wire.specs.Form.{Spell}
use Rattle.dcr_wire.specs.Laws.{Sent, SpellSent, sent_message}
use Rattle.dcr_wire.specs.declared.message.Message.{Message}
use Rattle.dcr_wire.specs.declared.message.Message.TheVariants.{Apply}
use Rattle.dcr_wire.proofs.WireLemmas.{have_fourteen}
use Rattle.dcr_node.specs.JournalState.{JournalState, item, stream_of}
use Rattle.dcr_talk.specs.Frames.{SpellAll}
use Rattle.dcr_talk.specs.Hearing.{Hears}
use Rattle.dcr_talk.proofs.FrameLemmas.{one_spelled, spell_append}
use Rattle.dcr_seat.specs.Asking.{Writes, Breaks, Asks, Tells, IsUnheard, Broken}
use Rattle.dcr_seat.specs.InStep.{told_of, untold}
use Rattle.dcr_seat.specs.declared.seat.Seat.{Seat}

-- ---- executions of a stream

module _ (j : JournalState) (i from : ℕ) where
  abbrev told_at : ℕ → Sent
  told_at k = sent_message (Apply i k (get_or (stream_of j i) k 0))

  -- one more
  pub told_of_push : (n : ℕ) → told_of j i from (n + 1) ≡ told_of j i from n ++ told_at (from + n) ∷ []
  told_of_push n = map-range_with_len_more told_at from n (from + n) refl

  -- so many more
  pub told_of_split : (n m : ℕ) → told_of j i from (n + m) ≡ told_of j i from n ++ told_of j i (from + n) m
  told_of_split n zero = ap (told_of j i from) (let none : n + zero ≡ n = omega arith in none) ∙ sym (append-nil (told_of j i from n))
  told_of_split n (suc m) =
      let up : n + suc m ≡ (n + m) + 1 = omega arith in
      let place : from + (n + m) ≡ (from + n) + m = omega arith in
      let last : told_of j i (from + n) (m + 1) ≡ told_of j i (from + n) m ++ told_at ((from + n) + m) ∷ [] = map-range_with_len_more told_at (from + n) m ((from + n) + m) refl in
      let one : m + 1 ≡ suc m = omega arith in
      ap (told_of j i from) up
      ∙ told_of_push (n + m)
      ∙ ap (λ (front : List Sent). front ++ told_at (from + (n + m)) ∷ []) (told_of_split n m)
      ∙ append_assoc (told_of j i from n) (told_of j i (from + n) m) (told_at (from + (n + m)) ∷ [])
      ∙ ap (λ (k : ℕ). told_of j i from n ++ (told_of j i (from + n) m ++ told_at k ∷ [])) place
      ∙ ap (λ (rest : List Sent). told_of j i from n ++ rest) (sym last)
      ∙ ap (λ (k : ℕ). told_of j i from n ++ told_of j i (from + n) k) one

-- the execution with an index is what the site is told of it
item_is : (j : JournalState) (i index : ℕ) (message : Message) (o : Option ℕ) → slice_get (stream_of j i) index ≡ o → option_map (Apply i index) o ≡ Some message
    → message ≡ Apply i index (get_or (stream_of j i) index 0)
item_is j i index message None is none = absurd (none-some message none)
item_is j i index message (Some event) is some =
    sym (same_Some (Apply i index event) message some) ∙ ap (Apply i index) (sym (get_or_from_slice_get (stream_of j i) index event 0 is))

-- one more was laid into a parcel
pub laid_more : (j : JournalState) (i from n index m : ℕ) (message : Message) (parcel bytes then : List ℕ) → from + n ≡ index → m ≡ n + 1 → item j i index ≡ Some message
    → Spell bytes message → then ≡ parcel ++ bytes → length parcel ≡ 14 * n → SpellAll parcel (told_of j i from n) → (length then ≡ 14 * m) × SpellAll then (told_of j i from m)
laid_more j i from n index m message parcel bytes then place up found spelled is long laid =
    let fourteen = have_fourteen bytes message spelled in
    let both = length-append parcel bytes in
    let all = ap (λ (t : List ℕ). length t) is in
    let one : message ≡ Apply i index (get_or (stream_of j i) index 0) = item_is j i index message (slice_get (stream_of j i) index) refl found in
    let told : told_of j i from n ++ sent_message message ∷ [] ≡ told_of j i from m =
    ap (λ (x : Message). told_of j i from n ++ sent_message x ∷ []) one
    ∙ ap (λ (k : ℕ). told_of j i from n ++ sent_message (Apply i k (get_or (stream_of j i) k 0)) ∷ []) (sym place)
    ∙ sym (told_of_push j i from n)
    ∙ ap (told_of j i from) (sym up) in
    let front : SpellAll (parcel ++ bytes) (told_of j i from n ++ sent_message message ∷ []) =
    spell_append parcel bytes (told_of j i from n) (sent_message message ∷ []) laid (one_spelled bytes (sent_message message) spelled) in
    (omega arith, subst (λ (t : List ℕ). SpellAll t (told_of j i from m)) (sym is) (subst (SpellAll (parcel ++ bytes)) told front))

-- ---- one after the other

pub writes_more : (first more : List Sent) (had mid took : Side) → Writes first had mid → Writes more mid took → Writes (first ++ more) had took
writes_more first more had mid took one two = (
  one.0 ++ two.0,
  spell_append one.0 two.0 first more one.1 two.1,
  (Appends-trans had.bytes mid.bytes took.bytes one.0 two.0 one.2.0 two.2.0, two.2.1 ∙ one.2.1),
)

pub breaks_since : (first : List Sent) (had mid took : Side) → Writes first had mid → Breaks mid took → Breaks had took
breaks_since first had mid took one broke = (one.0 ++ broke.0, Appends-trans had.bytes mid.bytes took.bytes one.0 broke.0 one.2.0 broke.1)

-- executions were told, and then some more
pub tells_since : (j : JournalState) (i first told told_then : ℕ) (had mid took : Side)
    → ((count : ℕ) × Writes (told_of j i first count) had mid × (told ≡ first + count)) → Tells j i told told_then mid took true
    → (count : ℕ) × Writes (told_of j i first count) had took × (told_then ≡ first + count)
tells_since j i first told told_then had mid took was tells =
    let n = was.0 in let m = tells.0 in
    let place : told ≡ first + n = was.2 in
    let now : told_then ≡ told + m = tells.2 in
    let whole : told_of j i first n ++ told_of j i told m ≡ told_of j i first (n + m) =
    ap (λ (k : ℕ). told_of j i first n ++ told_of j i k m) place ∙ sym (told_of_split j i first n m) in
    (n + m, subst (λ (all : List Sent). Writes all had took) whole (writes_more (told_of j i first n) (told_of j i told m) had mid took was.1 tells.1), omega arith)

-- all that is left was told, and then this was asked, by one write
pub asks_all : (j : JournalState) (i first told to : ℕ) (had mid took : Side) (parcel last then : List ℕ) (one : Sent) (sent : Bool)
    → ((count : ℕ) × Writes (told_of j i first count) had mid × (told ≡ first + count)) → to ≡ length (stream_of j i) → told ≤ to → SpellAll parcel (told_of j i told (to - told))
    → SpellSent last one → then ≡ parcel ++ last → (sent ≡ true → Adds then mid took) → Breaks mid took → Asks j i first to one had took sent
asks_all j i first told to had mid took parcel last then one false was all within laid spelled is adds broke = breaks_since (told_of j i first was.0) had mid took was.1 broke
asks_all j i first told to had mid took parcel last then one true was all within laid spelled is adds broke =
    let n = was.0 in let m = to - told in
    let place : told ≡ first + n = was.2 in
    let text : SpellAll then (told_of j i told m ++ one ∷ []) =
    subst (λ (t : List ℕ). SpellAll t (told_of j i told m ++ one ∷ [])) (sym is) (spell_append parcel last (told_of j i told m) (one ∷ []) laid (one_spelled last one spelled)) in
    let both = writes_more (told_of j i first n) (told_of j i told m ++ one ∷ []) had mid took was.1 (then, text, adds refl) in
    let count : n + m ≡ length (stream_of j i) - first = omega arith in
    let whole : told_of j i first n ++ (told_of j i told m ++ one ∷ []) ≡ untold j i first ++ one ∷ [] =
    sym (append_assoc (told_of j i first n) (told_of j i told m) (one ∷ []))
    ∙ ap (λ (k : ℕ). (told_of j i first n ++ told_of j i k m) ++ one ∷ []) place
    ∙ ap (λ (front : List Sent). front ++ one ∷ []) (sym (told_of_split j i first n m))
    ∙ ap (λ (k : ℕ). told_of j i first k ++ one ∷ []) count in
    (subst (λ (every : List Sent). Writes every had took) whole both, all)

-- a link over which not all was written
pub broken_by : {L : Type 0} (gives takes : L → Side) (before after : Seat L) → after.number ≡ before.number → gives after.link ≡ gives before.link
    → Breaks (takes before.link) (takes after.link) → Broken gives takes before after
broken_by gives takes before after number apart broke = record {
  number = number;
  read = [];
  written = broke.0;
  reads = subst (λ (s : Side). Consumes (gives before.link).bytes s.bytes []) (sym apart) (Consumes-nil (gives before.link).bytes);
  writes = broke.1;
}

-- a write failed since what was told so far
pub fails_since : (first : List Sent) (had mid took : Side) → Writes first had mid → Fails mid.faults took.faults → Fails had.faults took.faults
fails_since first had mid took one fails = subst (λ (n : ℕ). Fails n took.faults) one.2.1 fails

-- nothing was heard of a site that was asked
pub unheard_then : {A : Type 0} (j : JournalState) (i told told_then : ℕ) (one : Sent) (asked : Bool) (had mid took gave seen left : Side) (width : ℕ) (has_ended : Type 0) (spells : List ℕ → Option A → Type 0)
    (o : Option A) → asked ≡ true → Asks j i told told_then one had mid asked → took ≡ mid → seen ≡ gave → Hears width has_ended seen left spells o
    → IfNone o (IsUnheard j i told one had took gave left width has_ended spells)
unheard_then j i told told_then one asked had mid took gave seen left width has_ended spells None is asks same_took same_gave hears =
    let all = subst (Asks j i told told_then one had mid) is asks in
    inr (
      subst (λ (s : Side). Writes (untold j i told ++ one ∷ []) had s) (sym same_took) all.0,
      subst (λ (s : Side). Hears width has_ended s left spells None) same_gave hears,
    )
unheard_then j i told told_then one asked had mid took gave seen left width has_ended spells (Some a) is asks same_took same_gave hears = tt
