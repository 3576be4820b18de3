-- One line, and what it is answered.
use Rattle.std.proofs.Common.{◌≡◌, ℕ, ◌+◌, ◌-◌, List, [], ◌∷◌, ◌++◌, length, take, drop, codes, Some, Ok, Err, refl, sym, ap, subst, ◌∙◌, length-append, arith, inl, inr}
use Rattle.std.specs.Prelude.{Option, None, Result, slice_get, IfOk, IfErr, OnOk, OnErr}
use Rattle.std.specs.Result.{IsErrAnd}
use Rattle.std.specs.Io.KnownBytes.{Appends}
use Rattle.std.proofs.Math.Seq.{get_or-append_seam}
use Rattle.std.proofs.lemmas.Option.{slice_get-get_or}
use Rattle.std.proofs.lemmas.List.{append-nil, take-append-drop}
use Rattle.dcr_base.specs.declared.writing.WriteFault.{WriteFault}
use Rattle.dcr_journal.specs.declared.call.Call.{Call}
use Rattle.dcr_journal.specs.declared.call.Entry.{Entry}
use Rattle.dcr_journal.specs.declared.call.Outcome.{Outcome}
use Rattle.dcr_policy.specs.Deny.{deny}
use Rattle.dcr_line.specs.Fits.{FitsEntry}
use Rattle.dcr_line.specs.Line.{entry_text}
use Rattle.dcr_set.specs.declared.id.NoMemory.{NoMemory as NoRoom}
use Rattle.dcr_report.proofs.LegalLemmas.{legal_entry}
use Rattle.dcr_tape.specs.declared.tape.Store.{Store}
use Rattle.dcr_turn.specs.PassValue.{PassValue}
use Rattle.dcr_turn.specs.Pushing.{entry_of}
use Rattle.dcr_cell.specs.ClusterId.{ClusterId, begun}
use Rattle.dcr_cluster.specs.Calls.{AnsweredAfter, HaltedAfter}
use Rattle.dcr_cluster.specs.declared.halt.Halt.{Halt}
use Rattle.dcr_link.specs.declared.end.WorkCause.{WorkCause}
use Rattle.dcr_link.specs.declared.end.WorkCause.TheVariants.{LinkFault, Halted, NoMemory}
use Rattle.dcr_link.specs.Replies.{Asked, Terms, allowed_by, ended, halt_text, unless_denied}
use Rattle.dcr_link.specs.TalkModel.{TalkValue}
use Rattle.dcr_link.specs.Talking.{HasAnswered, HasLaid, HasReply, IsAnswered, IsHalted, IsLast, IsNamedBy, IsSent, MayLay, last_of}

last_there : (J : List Entry) (entry : Entry) → slice_get (J ++ entry ∷ []) (length J) ≡ Some entry
last_there J entry =
    let many = length-append J (entry ∷ []) in
    slice_get-get_or (J ++ entry ∷ []) (length J) entry (omega arith) ∙ ap (λ (e : Entry). Some e) (get_or-append_seam J entry [] entry)

pub none_added : (known : Option (List ℕ)) → Appends known known []
none_added None = tt
none_added (Some bytes) = sym (append-nil bytes)

-- ---- what a line asks for

pub asked_bad : (terms : Terms) (session : ℕ) (call : Option Call) → call ≡ None → allowed_by terms session call ≡ Err (codes "bad-line")
asked_bad terms session call is = ap (allowed_by terms session) is

pub asked_denied : (terms : Terms) (session : ℕ) (asked : Option Call) (call : Call) (role : List ℕ) → asked ≡ Some call → deny terms.policy session call ≡ Some role
    → allowed_by terms session asked ≡ Err (codes "denied " ++ role)
asked_denied terms session asked call role is lacks = ap (allowed_by terms session) is ∙ ap (unless_denied call) lacks

pub asked_allowed : (terms : Terms) (session : ℕ) (asked : Option Call) (call : Call) → asked ≡ Some call → deny terms.policy session call ≡ None
    → allowed_by terms session asked ≡ Ok call
asked_allowed terms session asked call is lacks = ap (allowed_by terms session) is ∙ ap (unless_denied call) lacks

module _ {D : Type 0} (c : ClusterId) (first : Option (Store D)) (capacity : ℕ) where
  -- the entry that was made last is that of the call, at the end of what was seen
  last_same : (J : List Entry) (before after : PassValue) (call : Call) (outcome : Outcome) → AnsweredAfter c first capacity J before after call outcome
      → last_of after call outcome ≡ entry_of before call outcome
  last_same J before after call outcome answered =
      ap (λ (s : ℕ). record { session = s; seq = after.made - 1; call = call; outcome = outcome }) answered.session
      ∙ ap (λ (n : ℕ). record { session = before.session; seq = n; call = call; outcome = outcome })
      (let m = answered.made in let e : after.made - 1 ≡ before.made = omega arith in e)

  last_place : (J : List Entry) (before after : PassValue) (call : Call) (outcome : Outcome) → AnsweredAfter c first capacity J before after call outcome
      → length after.front ≡ length J + 1
  last_place J before after call outcome answered = ap length answered.front ∙ length-append J (entry_of before call outcome ∷ [])

  last_fits : (talk : TalkValue) (J : List Entry) (before after : PassValue) (call : Call) (outcome : Outcome)
      → IsNamedBy c talk → AnsweredAfter c first capacity J before after call outcome → IsLast talk after call outcome
  last_fits talk J before after call outcome named answered =
      let seen : length after.front ≡ length J + 1 = last_place J before after call outcome answered in
      let stands : slice_get after.front (length J) ≡ Some (entry_of before call outcome) =
      ap (λ (K : List Entry). slice_get K (length J)) answered.front ∙ last_there J (entry_of before call outcome) in
      let fits : FitsEntry (length c.owned) c.rules.atoms (entry_of before call outcome) =
      legal_entry c.rules c.owned (begun c) after.front (length J) (entry_of before call outcome) (answered.legal (length J) (entry_of before call outcome) stands) in
      record {
        made = let m = answered.made in omega arith;
        seen = omega arith;
        fits = subst (λ (entry : Entry). FitsEntry (length talk.terms.sites) (length talk.terms.atoms) entry) (sym (last_same J before after call outcome answered))
            (subst (λ (n : ℕ). FitsEntry n (length talk.terms.atoms) (entry_of before call outcome)) (sym named.sites)
            (subst (λ (n : ℕ). FitsEntry (length c.owned) n (entry_of before call outcome)) (sym named.atoms) fits));
      }

  -- what a call was answered may be laid ready
  pub may_lay : (talk : TalkValue) (before after : PassValue) (call : Call) (answer : Result Outcome Halt) → IsNamedBy c talk
      → IfOk answer (λ outcome. (J : List Entry) × AnsweredAfter c first capacity J before after call outcome) → MayLay talk after call answer
  may_lay talk before after call (Ok outcome) named answered = last_fits talk answered.0 before after call outcome named answered.1
  may_lay talk before after call (Err halt) named answered = tt

  module _ (terms : Terms) where
    text_same : (J : List Entry) (before after : PassValue) (call : Call) (outcome : Outcome) → AnsweredAfter c first capacity J before after call outcome
        → entry_text terms.sites terms.atoms (length after.front - 1) (last_of after call outcome) ≡ entry_text terms.sites terms.atoms (length J) (entry_of before call outcome)
    text_same J before after call outcome answered =
        let place = last_place J before after call outcome answered in
        ap (λ (n : ℕ). entry_text terms.sites terms.atoms n (last_of after call outcome)) (let e : length after.front - 1 ≡ length J = omega arith in e)
        ∙ ap (entry_text terms.sites terms.atoms (length J)) (last_same J before after call outcome answered)

    called : (before after : PassValue) (call : Call) (answer : Result Outcome Halt) (reply : List ℕ) (result : Result (Option Halt) NoRoom)
        → IfOk answer (λ outcome. (J : List Entry) × AnsweredAfter c first capacity J before after call outcome)
        → IfErr answer (λ halt. (J : List Entry) × HaltedAfter c first capacity J before after halt)
        → HasLaid terms after call answer reply result → HasReply c first capacity terms (Ok call) before after reply result
    called before after call (Ok outcome) reply (Ok None) answered halted laid = (
      entry_text terms.sites terms.atoms (length answered.0) (entry_of before call outcome),
      (answered.0, outcome, answered.1, refl),
      laid ∙ ap ended (text_same answered.0 before after call outcome answered.1),
    )
    called before after call (Ok outcome) reply (Ok (Some halt)) answered halted laid = absurd laid
    called before after call (Ok outcome) reply (Err no_room) answered halted laid =
        (entry_text terms.sites terms.atoms (length answered.0) (entry_of before call outcome), (answered.0, outcome, answered.1, refl))
    called before after call (Err halt) reply (Ok None) answered halted laid = absurd laid
    called before after call (Err halt) reply (Ok (Some told)) answered halted laid =
        subst (HaltedAfter c first capacity after.front before after) (sym laid) (subst (λ (J : List Entry). HaltedAfter c first capacity J before after halt) (sym halted.1.front) halted.1)
    called before after call (Err halt) reply (Err no_room) answered halted laid = absurd laid

    -- a call was made, and its reply laid ready
    pub replied : (asked : Asked) (before after : PassValue) (call : Call) (answer : Result Outcome Halt) (reply : List ℕ) (result : Result (Option Halt) NoRoom)
        → asked ≡ Ok call
        → IfOk answer (λ outcome. (J : List Entry) × AnsweredAfter c first capacity J before after call outcome)
        → IfErr answer (λ halt. (J : List Entry) × HaltedAfter c first capacity J before after halt)
        → HasLaid terms after call answer reply result → HasReply c first capacity terms asked before after reply result
    replied asked before after call answer reply result is answered halted laid =
        subst (λ (a : Asked). HasReply c first capacity terms a before after reply result) (sym is) (called before after call answer reply result answered halted laid)

    -- no call is made for the line
    pub unmade : (asked : Asked) (pass : PassValue) (text : List ℕ) → asked ≡ Err text → IsAnswered c first capacity terms asked pass pass text
    unmade asked pass text is = subst (λ (a : Asked). IsAnswered c first capacity terms a pass pass text) (sym is) (refl, refl)

    pub unmade_unsaid : (asked : Asked) (pass : PassValue) (text reply : List ℕ) (result : Result (Option Halt) NoRoom) (P : NoRoom → Type 0)
        → asked ≡ Err text → IsErrAnd result P → HasReply c first capacity terms asked pass pass reply result
    unmade_unsaid asked pass text reply (Ok told) P is err = absurd err
    unmade_unsaid asked pass text reply (Err no_room) P is err = (text, unmade asked pass text is)

    -- ---- the reply is sent

    sent_part : (failed : Type 0) (text reply : List ℕ) (n : ℕ) → reply ≡ ended text → failed → IsSent failed text (take n reply)
    sent_part failed text reply n is fault = record {
      rest = drop n reply;
      part = take-append-drop n reply ∙ is;
      whole = inr fault;
    }

    -- what is answered by one write: the bytes that it took, and what comes of the session
    abbrev pub Spoken : Asked → PassValue → PassValue → Option (List ℕ) → Option (List ℕ) → Type 0 → Option WorkCause → Type 0
    Spoken asked before after taken now failed result =
        (written : List ℕ) × Appends taken now written × HasAnswered c first capacity terms asked before after written failed result

    pub spoken_whole : (asked : Asked) (before after : PassValue) (taken now : Option (List ℕ)) (failed : Type 0) (reply : List ℕ) (told : Result (Option Halt) NoRoom) (result : Option WorkCause)
        → told ≡ Ok None → result ≡ None → HasReply c first capacity terms asked before after reply told → Appends taken now reply
        → Spoken asked before after taken now failed result
    spoken_whole asked before after taken now failed reply told result is_told is has added =
        let replied_by : HasReply c first capacity terms asked before after reply (Ok None) =
        subst (HasReply c first capacity terms asked before after reply) is_told has in
        (reply, added, subst (HasAnswered c first capacity terms asked before after reply failed) (sym is) (replied_by.0, replied_by.1, replied_by.2))

    pub spoken_part : (asked : Asked) (before after : PassValue) (taken now : Option (List ℕ)) (failed : Type 0) (reply : List ℕ) (told : Result (Option Halt) NoRoom) (result : Option WorkCause) (n : ℕ)
        → told ≡ Ok None → result ≡ Some LinkFault → HasReply c first capacity terms asked before after reply told → Appends taken now (take n reply) → failed
        → Spoken asked before after taken now failed result
    spoken_part asked before after taken now failed reply told result n is_told is has added fault =
        let replied_by : HasReply c first capacity terms asked before after reply (Ok None) =
        subst (HasReply c first capacity terms asked before after reply) is_told has in (
          take n reply,
          added,
          subst (HasAnswered c first capacity terms asked before after (take n reply) failed) (sym is)
              (replied_by.0, replied_by.1, sent_part failed replied_by.0 reply n replied_by.2 fault, fault),
        )

    -- the last words after a halt, or a beginning of them
    abbrev pub SaidLast : Option (List ℕ) → Option (List ℕ) → Type 0 → List ℕ → Result (Unit {0}) WriteFault → Type 0
    SaidLast taken now failed line (Ok done) = Appends taken now line
    SaidLast taken now failed line (Err fault) = Appends taken now (take fault.written line) × failed

    pub last_said : (taken now : Option (List ℕ)) (failed : Type 0) (line bytes : List ℕ) (said : Result (Unit {0}) WriteFault) → bytes ≡ line
        → OnOk said (Appends taken now bytes) → IfErr said (λ (fault : WriteFault). Appends taken now (take fault.written bytes)) → OnErr said failed → SaidLast taken now failed line said
    last_said taken now failed line bytes (Ok done) same all front fault = subst (Appends taken now) same all
    last_said taken now failed line bytes (Err stop) same all front fault = (subst (λ (l : List ℕ). Appends taken now (take stop.written l)) same front, fault)

    pub said_last : (taken now : Option (List ℕ)) (failed : Type 0) (text line : List ℕ) (said : Result (Unit {0}) WriteFault) → line ≡ ended text → SaidLast taken now failed line said
        → (written : List ℕ) × Appends taken now written × IsSent failed text written
    said_last taken now failed text line (Ok done) is added = (line, added, record { rest = []; part = append-nil line ∙ is; whole = inl refl })
    said_last taken now failed text line (Err fault) is added = (take fault.written line, added.0, sent_part failed text line fault.written is added.1)

    pub spoken_halt : (asked : Asked) (before after : PassValue) (taken now : Option (List ℕ)) (failed : Type 0) (reply line : List ℕ) (told : Result (Option Halt) NoRoom) (result : Option WorkCause)
        (halt : Halt) (said : Result (Unit {0}) WriteFault)
        → told ≡ Ok (Some halt) → result ≡ Some (Halted halt) → HasReply c first capacity terms asked before after reply told → line ≡ ended (halt_text halt) → SaidLast taken now failed line said
        → Spoken asked before after taken now failed result
    spoken_halt asked before after taken now failed reply line told result halt said is_told is has is_line last =
        let halted : IsHalted c first capacity terms asked before after halt = subst (HasReply c first capacity terms asked before after reply) is_told has in
        let sent = said_last taken now failed (halt_text halt) line said is_line last in
        (sent.0, sent.1, subst (HasAnswered c first capacity terms asked before after sent.0 failed) (sym is) (halted, sent.2))

    pub spoken_none : (asked : Asked) (before after : PassValue) (taken now : Option (List ℕ)) (failed : Type 0) (reply : List ℕ) (told : Result (Option Halt) NoRoom) (result : Option WorkCause) (no_room : NoRoom)
        → told ≡ Err no_room → result ≡ Some NoMemory → HasReply c first capacity terms asked before after reply told → now ≡ taken
        → Spoken asked before after taken now failed result
    spoken_none asked before after taken now failed reply told result no_room is_told is has same =
        let unsaid : HasReply c first capacity terms asked before after reply (Err no_room) =
        subst (HasReply c first capacity terms asked before after reply) is_told has in (
          [],
          subst (λ (k : Option (List ℕ)). Appends taken k []) (sym same) (none_added taken),
          subst (HasAnswered c first capacity terms asked before after [] failed) (sym is) (unsaid.0, unsaid.1, refl),
        )
