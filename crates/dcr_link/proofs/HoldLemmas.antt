-- A session over a link, piece by piece.
use Rattle.std.proofs.Common.{◌≡◌, ℕ, ◌+◌, ◌-◌, ◌≤◌, eqb, cond, false, List, [], ◌++◌, length, map, take, Some, refl, sym, ap, subst, ◌∙◌, append_assoc, arith, inl, inr}
use Rattle.std.specs.Prelude.{Option, None, IsSome, true}
use Rattle.std.specs.Io.KnownBytes.{Appends, Consumes, IsAtEnd, Keeps}
use Rattle.std.proofs.lemmas.List.{append-nil, drop_all, length-drop}
use Rattle.std.proofs.lemmas.Bool.{false≢true}
use Rattle.std.proofs.lemmas.Option.{same_Some}
use Rattle.std.proofs.lemmas.List.Elements.{All-nil}
use Rattle.dcr_base.specs.Side.{Side}
use Rattle.dcr_base.proofs.CountLemmas.{fails_since}
use Rattle.dcr_text.specs.Cutting.{HasNoEnd, begun}
use Rattle.dcr_journal.specs.Run.{made_by}
use Rattle.dcr_tape.specs.declared.tape.Store.{Store}
use Rattle.dcr_turn.specs.PassValue.{PassValue}
use Rattle.dcr_cell.specs.ClusterId.{ClusterId}
use Rattle.dcr_link.specs.declared.end.WorkCause.{WorkCause}
use Rattle.dcr_link.specs.declared.end.WorkCause.TheVariants.{Ended, LinkFault, LongLine, ManyLines, Halted, NoMemory}
use Rattle.dcr_link.specs.declared.end.WorkEnd.{WorkEnd}
use Rattle.dcr_link.specs.Replies.{Terms, Placed, asked_in, call_of, calls_in, is_short, lines_met, made_since, most_bytes, most_lines, placed_of, replies}
use Rattle.dcr_link.specs.Serving.{CountsAnswer, CountsCause, EndsBy, Served, ServesBy}
use Rattle.dcr_link.specs.TalkModel.{TalkValue}
use Rattle.dcr_link.specs.Talking.{Going, GoesOn}
use Rattle.dcr_link.proofs.LineLemmas.{none_added}
use Rattle.dcr_link.proofs.PieceLemmas.{added_then}
use Rattle.dcr_link.proofs.ReplyLemmas.{length-placed}
use Rattle.dcr_link.proofs.TalkLemmas.{ends_input, ends_read}

none_consumed : (known : Option (List ℕ)) → Consumes known known []
none_consumed None = tt
none_consumed (Some bytes) = refl

pub consumed_then : (a b c : Option (List ℕ)) (x y : List ℕ) → Consumes a b x → Consumes b c y → Consumes a c (x ++ y)
consumed_then None b c x y first next = tt
consumed_then (Some a) None c x y first next = absurd first
consumed_then (Some a) (Some b) None x y first next = absurd next
consumed_then (Some a) (Some b) (Some c) x y first next = first ∙ ap (λ (l : List ℕ). x ++ l) next ∙ sym (append_assoc x y c)

none_some : {X : Type 0} (x : X) → None ≡ Some x → ⊥
none_some x same = grind arith

pub consumed_told : (a b : Option (List ℕ)) (x : List ℕ) → Consumes a b x → IsSome a → IsSome b
consumed_told None b x gone told = absurd (false≢true told)
consumed_told (Some a) None x gone told = absurd gone
consumed_told (Some a) (Some b) x gone told = search

consumed_kept : (a b c : Option (List ℕ)) (x : List ℕ) → Consumes a b x → Keeps b c → Consumes a c x
consumed_kept None b c x gone keeps = tt
consumed_kept (Some a) None c x gone keeps = absurd gone
consumed_kept (Some a) (Some b) None x gone keeps = absurd keeps
consumed_kept (Some a) (Some b) (Some c) x gone keeps = gone ∙ ap (λ (l : List ℕ). x ++ l) (sym keeps)

-- ---- the other way of a link

pub side_stays : {L : Type 0} (aside its : L → Side) (law : (link : L) → aside link ≡ its link) (old new : L) → aside new ≡ aside old → its new ≡ its old
side_stays aside its law old new same = sym (law new) ∙ same ∙ law old

pub bytes_stay : {L : Type 0} (aside its : L → Side) (law : (link : L) → aside link ≡ its link) (old new : L) → aside new ≡ aside old → (its new).bytes ≡ (its old).bytes
bytes_stay aside its law old new same = ap (λ (s : Side). s.bytes) (side_stays aside its law old new same)

pub faults_stay : {L : Type 0} (aside its : L → Side) (law : (link : L) → aside link ≡ its link) (old new : L) → aside new ≡ aside old → (its new).faults ≡ (its old).faults
faults_stay aside its law old new same = ap (λ (s : Side). s.faults) (side_stays aside its law old new same)

-- what a session makes of the counts, where it ends by an answer
pub cause_counts : (cause : WorkCause) (reads reads_after writes between writes_after : ℕ) → reads_after ≡ reads → between ≡ writes → CountsAnswer (Some cause) between writes_after
    → CountsCause cause reads reads_after writes writes_after
cause_counts Ended reads reads_after writes between writes_after same still none = absurd none
cause_counts LinkFault reads reads_after writes between writes_after same still fails =
    let since = fails_since writes between writes_after still fails in (omega (arith, same), since.0, inr since.1)
cause_counts LongLine reads reads_after writes between writes_after same still more = (same, omega (arith, still, more))
cause_counts ManyLines reads reads_after writes between writes_after same still more = (same, omega (arith, still, more))
cause_counts (Halted halt) reads reads_after writes between writes_after same still more = (same, omega (arith, still, more))
cause_counts NoMemory reads reads_after writes between writes_after same still as_before = (same, as_before ∙ still)

-- ---- the session

le_of : (a b : ℕ) → a ≡ b → a ≤ b
le_of a b same = omega arith

le_few : (a : ℕ) → a ≡ 0 → a ≤ most_lines
le_few a none = omega arith

zero_more : (a b : ℕ) → b ≡ 0 → a ≡ a + b
zero_more a b none = omega arith

-- the calls made are the entries added
pub made_count : (before after : PassValue) → after.session ≡ before.session → after.made ≡ made_by after.session after.front → length (made_since before after) ≡ after.made - before.made
made_count before after same counted =
    length-drop before.made (placed_of before.session after.front)
    ∙ ap (λ (n : ℕ). n - before.made) (length-placed before.session 0 after.front ∙ ap (λ (s : ℕ). made_by s after.front) (sym same) ∙ sym counted)

module _ {D : Type 0} (c : ClusterId) (first : Option (Store D)) (capacity : ℕ) (terms : Terms) where
  -- what came, and what was written
  abbrev pub Held : PassValue → PassValue → TalkValue → Option (List ℕ) → Option (List ℕ) → Option (List ℕ) → Option (List ℕ) → Type 0
  Held before pass talk left left_now taken taken_now =
      (came written : List ℕ) × Consumes left left_now came × Appends taken taken_now written × Going c first capacity terms before pass talk came written

  pub held_none : (pass : PassValue) (talk : TalkValue) (left taken : Option (List ℕ)) → pass.made ≡ made_by pass.session pass.front → talk.lines ≡ 0
      → (talk.cutter.bytes ≡ []) × (talk.cutter.is_line ≡ false) × (talk.cutter.is_long ≡ false) → Held pass pass talk left left taken taken
  held_none pass talk left taken counted lines (bytes, not_line, not_long) =
      let none : begun talk.cutter ≡ [] = ap (λ b. cond b [] talk.cutter.bytes) not_line ∙ bytes in
      let many : length (placed_of pass.session pass.front) ≡ pass.made = length-placed pass.session 0 pass.front ∙ sym counted in
      let nothing : made_since pass pass ≡ [] = drop_all pass.made (placed_of pass.session pass.front) (le_of _ _ many) in (
        [],
        [],
        none_consumed left,
        none_added taken,
        record {
          lines = [];
          as_many = sym lines;
          few = le_few talk.lines lines;
          came_is = sym none;
          no_end = All-nil HasNoEnd;
          none_begun = subst HasNoEnd (sym none) (All-nil (λ (byte : ℕ). eqb byte 10 ≡ false));
          short = All-nil (λ (line : List ℕ). is_short line ≡ true);
          not_long = not_long;
          begun_short = subst (λ (l : List ℕ). length l ≤ most_bytes) (sym none) (omega arith);
          none_further = λ most. none;
          session = refl;
          not_fewer = le_of _ _ (sym many);
          made = zero_more pass.made (length (made_since pass pass)) (ap length nothing);
          in_order = ap (map call_of) nothing;
          written_is = refl;
        },
      )

  module _ (before after : PassValue) where
    -- what is said where a fault may have come is said where another may
    ends_wider : (asked written : List ℕ) (failed wider : Type 0) (cause : WorkCause) → (failed → wider) → EndsBy first capacity terms asked before after written failed cause
        → EndsBy first capacity terms asked before after written wider cause
    ends_wider asked written failed wider Ended widen ends = ends
    ends_wider asked written failed wider LinkFault widen ends = widen ends
    ends_wider asked written failed wider LongLine widen (is, all, said) = (is, all, elim said [ inl whole ↦ inl whole | inr fault ↦ inr (widen fault) ])
    ends_wider asked written failed wider ManyLines widen (is, all, said) = (is, all, elim said [ inl whole ↦ inl whole | inr fault ↦ inr (widen fault) ])
    ends_wider asked written failed wider (Halted halt) widen (fewer, shows, said) = (fewer, shows, elim said [ inl whole ↦ inl whole | inr fault ↦ inr (widen fault) ])
    ends_wider asked written failed wider NoMemory widen ends = tt

    served_wider : (asked written : List ℕ) (failed wider : Type 0) (end : WorkEnd) → (failed → wider) → Served first capacity terms asked before after written failed end
        → Served first capacity terms asked before after written wider end
    served_wider asked written failed wider end widen served = record {
      calls = served.calls;
      in_order = served.in_order;
      rest = served.rest;
      replied = served.replied;
      ends = ends_wider asked written failed wider end.cause widen served.ends;
    }

    -- the session has ended, whatever the link had left
    pub serves_end : (left left_now taken taken_now : Option (List ℕ)) (came written : List ℕ) (failed wider : Type 0) (end : WorkEnd) → Consumes left left_now came → Appends taken taken_now written
        → (failed → wider) → ((more : List ℕ) → Served first capacity terms (came ++ more) before after written failed end)
        → ServesBy first capacity terms before after left taken taken_now wider end
    serves_end (Some asked) (Some more) taken taken_now came written failed wider end gone added widen served = λ all is_all. (
      written,
      added,
      subst (λ (l : List ℕ). Served first capacity terms l before after written wider end) (sym gone ∙ same_Some _ _ is_all)
          (served_wider (came ++ more) written failed wider end widen (served more)),
    )
    serves_end None left_now taken taken_now came written failed wider end gone added widen served = λ all is_all. absurd (none_some _ is_all)
    serves_end (Some asked) None taken taken_now came written failed wider end gone added widen served = absurd gone

    -- the input has ended
    pub serves_input : (left left_now taken taken_now : Option (List ℕ)) (came written : List ℕ) (failed : Type 0) (end : WorkEnd) → Consumes left left_now came → IsAtEnd left_now → Appends taken taken_now written
        → Served first capacity terms came before after written failed end → ServesBy first capacity terms before after left taken taken_now failed end
    serves_input (Some asked) (Some more) taken taken_now came written failed end gone none added served = λ all is_all. (
      written,
      added,
      subst (λ (l : List ℕ). Served first capacity terms l before after written failed end)
          (sym (append-nil came) ∙ ap (λ (l : List ℕ). came ++ l) (sym none) ∙ sym gone ∙ same_Some _ _ is_all) served,
    )
    serves_input None left_now taken taken_now came written failed end gone none added served = λ all is_all. absurd (none_some _ is_all)
    serves_input (Some asked) None taken taken_now came written failed end gone none added served = absurd gone

  -- ---- a piece more

  -- what the lines that end in a piece come to, from wherever the session stands
  abbrev pub Goes : Terms → PassValue → PassValue → TalkValue → TalkValue → List ℕ → Option (List ℕ) → Option (List ℕ) → Type 0 → Option WorkCause → Type 0
  Goes its_terms pass after talk next piece taken then failed result =
      (before : PassValue) (came written : List ℕ) → Going c first capacity its_terms before pass talk came written
      → (more : List ℕ) × Appends taken then more × GoesOn c first capacity its_terms before after next (came ++ piece) (written ++ more) failed result

  pub goes_named : (terms_then : Terms) (pass after : PassValue) (talk next : TalkValue) (piece : List ℕ) (taken then : Option (List ℕ)) (failed : Type 0) (result : Option WorkCause)
      → terms_then ≡ terms → Goes terms_then pass after talk next piece taken then failed result → Goes terms pass after talk next piece taken then failed result
  goes_named terms_then pass after talk next piece taken then failed result same_terms goes =
      subst (λ (t : Terms). Goes t pass after talk next piece taken then failed result) same_terms goes

  module _ (before pass after : PassValue) (talk next : TalkValue) (piece : List ℕ) (left left_then left_read taken taken_then taken_read taken_now : Option (List ℕ)) (failed : Type 0) (result : Option WorkCause)
      (held : Held before pass talk left left_then taken taken_then) (consumed : Consumes left_then left_read piece) (same_taken : taken_read ≡ taken_then)
      (goes : Goes terms pass after talk next piece taken_read taken_now failed result) where
    gone : Consumes left left_read (held.0 ++ piece)
    gone = consumed_then left left_then left_read held.0 piece held.2 consumed

    on : (more : List ℕ) × Appends taken_read taken_now more × GoesOn c first capacity terms before after next (held.0 ++ piece) (held.1 ++ more) failed result
    on = goes before held.0 held.1 held.4

    added : Appends taken taken_now (held.1 ++ on.0)
    added = added_then taken taken_then taken_now held.1 on.0 held.3 (subst (λ (t : Option (List ℕ)). Appends t taken_now on.0) same_taken on.1)

    pub held_on : (left_now : Option (List ℕ)) → left_now ≡ left_read → result ≡ None → Held before after next left left_now taken taken_now
    held_on left_now same none = (
      held.0 ++ piece,
      held.1 ++ on.0,
      subst (λ (l : Option (List ℕ)). Consumes left l (held.0 ++ piece)) (sym same) gone,
      added,
      subst (GoesOn c first capacity terms before after next (held.0 ++ piece) (held.1 ++ on.0) failed) none on.2,
    )

    pub held_end : (cause : WorkCause) (wider : Type 0) → result ≡ Some cause → (failed → wider)
        → ServesBy first capacity terms before after left taken taken_now wider (record { calls = length (made_since before after); cause = cause })
    held_end cause wider some widen =
        serves_end before after left left_read taken taken_now (held.0 ++ piece) (held.1 ++ on.0) failed wider (record { calls = length (made_since before after); cause = cause }) gone added widen
        (subst (GoesOn c first capacity terms before after next (held.0 ++ piece) (held.1 ++ on.0) failed) some on.2)

  module _ (before pass : PassValue) (talk : TalkValue) (left left_then left_now taken taken_then taken_now : Option (List ℕ)) (held : Held before pass talk left left_then taken taken_then)
      (same_taken : taken_now ≡ taken_then) where
    still_added : Appends taken taken_now held.1
    still_added = subst (λ (t : Option (List ℕ)). Appends taken t held.1) (sym same_taken) held.3

    -- a read has failed
    pub held_fault : (failed : Type 0) → Keeps left_then left_now → failed
        → ServesBy first capacity terms before pass left taken taken_now failed (record { calls = length (made_since before pass); cause = LinkFault })
    held_fault failed keeps fault =
        serves_end before pass left left_now taken taken_now held.0 held.1 failed failed (record { calls = length (made_since before pass); cause = LinkFault })
        (consumed_kept left left_then left_now held.0 held.2 keeps) still_added (λ (f : failed). f)
        (λ more. ends_read c first capacity terms before pass talk held.0 held.1 more failed held.4 fault)

    -- the input has ended
    pub held_input : (failed : Type 0) → Consumes left_then left_now [] → IsAtEnd left_now
        → ServesBy first capacity terms before pass left taken taken_now failed (record { calls = length (made_since before pass); cause = Ended })
    held_input failed consumed none =
        serves_input before pass left left_now taken taken_now held.0 held.1 failed (record { calls = length (made_since before pass); cause = Ended })
        (subst (Consumes left left_now) (append-nil held.0) (consumed_then left left_then left_now held.0 [] held.2 consumed)) none still_added
        (ends_input c first capacity terms before pass talk held.0 held.1 failed held.4)

  -- there was no memory for a session
  pub no_session : (pass : PassValue) (left taken : Option (List ℕ)) (failed : Type 0) → pass.made ≡ made_by pass.session pass.front
      → ServesBy first capacity terms pass pass left taken taken failed (record { calls = length (made_since pass pass); cause = NoMemory })
  no_session pass left taken failed counted =
      let many : length (placed_of pass.session pass.front) ≡ pass.made = length-placed pass.session 0 pass.front ∙ sym counted in
      let nothing : made_since pass pass ≡ [] = drop_all pass.made (placed_of pass.session pass.front) (le_of _ _ many) in
      λ asked is_left. (
        [],
        none_added taken,
        record {
          calls = refl;
          in_order = ap (map call_of) nothing ∙ ap (λ (l : List Placed). take (length l) (calls_in (asked_in terms pass.session (lines_met asked)))) (sym nothing);
          rest = replies terms pass.session asked (made_since pass pass) NoMemory;
          replied = refl;
          ends = tt;
        },
      )
