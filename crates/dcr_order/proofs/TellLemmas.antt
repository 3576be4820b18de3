-- What a site tells, and what the journal makes of it.
use Rattle.std.proofs.Common.{◌≡◌, ℕ, ◌-◌, ◌<◌, Bool, true, false, cond, eqb, List, [], ◌∷◌, ◌++◌, length, Option, Some, None, refl, sym, ap, subst, ◌∙◌, arith}
use Rattle.std.specs.Prelude.{slice_get}
use Rattle.std.specs.Option.{option_map, option_and_then}
use Rattle.std.proofs.lemmas.Bool.{eq-eqb}
use Rattle.std.proofs.lemmas.List.{append-nil, length-append}
use Rattle.std.proofs.lemmas.Option.{same_Some, none-some}
use Rattle.dcr_base.specs.Link.{Links}
use Rattle.dcr_cell.specs.ClusterId.{ClusterId}
use Rattle.dcr_proj.specs.CoverValue.{atoms_of}
use Rattle.dcr_journal.specs.Answer.{verdict_of}
use Rattle.dcr_journal.specs.JournalValue.{History}
use Rattle.dcr_journal.specs.declared.call.Call.{Call}
use Rattle.dcr_journal.specs.declared.call.Call.TheVariants.{Exec, Look, Enabled, Accepting}
use Rattle.dcr_journal.specs.declared.call.Entry.{Entry}
use Rattle.dcr_journal.specs.declared.call.Outcome.{Outcome}
use Rattle.dcr_journal.specs.declared.call.Outcome.TheVariants as outcome
use Rattle.dcr_turn.specs.Pushing.{is_fault}
use Rattle.dcr_wire.specs.Laws.{sent_question, sent_answer}
use Rattle.dcr_wire.specs.declared.answer.Answer.{Answer}
use Rattle.dcr_wire.specs.declared.answer.Told.{Told}
use Rattle.dcr_wire.specs.declared.answer.Told.TheVariants as told
use Rattle.dcr_wire.specs.declared.question.Asked.{Asked}
use Rattle.dcr_wire.specs.declared.question.Asked.TheVariants.{Marks, Can, Waits}
use Rattle.dcr_wire.specs.declared.question.Question.{Question}
use Rattle.dcr_node.specs.Gathering.{gathering, waits_told}
use Rattle.dcr_node.specs.JournalState.{IsOver, JournalState, answered_to, asks_of, entry_of, question_at, question_for, told_out, told_to, withdrawn, with_entry, with_gathered, with_verdict}
use Rattle.dcr_node.specs.Laws.{what_is_told}
use Rattle.dcr_node.specs.Right.{IsAskedAt}
use Rattle.dcr_node.specs.declared.journal_node.Proposal.{Proposal}
use Rattle.dcr_node.proofs.RightLemmas.{asked_is_true}
use Rattle.dcr_node.proofs.TruthLemmas.{question_kept, slice_get_last}
use Rattle.dcr_seat.specs.Asking.{IsAnswerTo}
use Rattle.dcr_seat.proofs.ToldLemmas.{rest_grows}
use Rattle.dcr_order.specs.Acts.{hears, withdraws}
use Rattle.dcr_order.specs.Calling.{Enters, CallEnds, AsksOne, FitsCall, HasHeard}
use Rattle.dcr_order.specs.Going.{Answers, Ends}
use Rattle.dcr_order.specs.Linked.{IsLedFrom}
use Rattle.dcr_order.specs.declared.place.Place.{Place}
use Rattle.dcr_order.proofs.CallLemmas.{entered}
use Rattle.dcr_order.proofs.LedLemmas.{led_ended, led_hearing, led_withdrawing}

-- the question to a site of the call that is out
pub question_is : (j : JournalState) (p : Proposal) (i : ℕ) (asked : Asked) → j.out ≡ Some p → asks_of p.call i ≡ Some asked → question_for j i ≡ Some (question_at j i asked)
question_is j p i asked out asks =
    ap (λ (o : Option Proposal). option_map (question_at j i) (option_and_then (λ (q : Proposal). asks_of q.call i) o)) out ∙ ap (λ (o : Option Asked). option_map (question_at j i) o) asks

-- entries come at the end
record Longer (j after : JournalState) : Type 0 where
  pub more : List Entry
  pub entries : after.history.entries ≡ j.history.entries ++ more
  pub alphabets : after.alphabets ≡ j.alphabets

no_longer : (j : JournalState) → Longer j j
no_longer j = record { more = []; entries = sym (append-nil j.history.entries); alphabets = refl }

one_longer : (j : JournalState) (entry : Entry) → Longer j (with_entry j entry)
one_longer j entry = record { more = entry ∷ []; entries = refl; alphabets = refl }

by_verdict : (j k : JournalState) (p : Proposal) (o : Option (Option ℕ)) → k.history.entries ≡ j.history.entries → k.alphabets ≡ j.alphabets → Longer j (with_verdict k p o)
by_verdict j k p None entries alphabets = record { more = []; entries = entries ∙ sym (append-nil j.history.entries); alphabets = alphabets }
by_verdict j k p (Some waits) entries alphabets =
    record { more = entry_of k p (verdict_of waits) ∷ []; entries = ap (λ (J : List Entry). J ++ entry_of k p (verdict_of waits) ∷ []) entries; alphabets = alphabets }

by_site : (j : JournalState) (entry : Entry) (b : Bool) → Longer j (cond b (with_entry j entry) j)
by_site j entry true = one_longer j entry
by_site j entry false = no_longer j

told_longer : (j : JournalState) (p : Proposal) (site : ℕ) (call : Call) (t : Told) → Longer j (told_to j p site call t)
told_longer j p site (Exec i e) t = no_longer j
told_longer j p site (Look i) (told.Marks mark) = by_site j (entry_of j p (outcome.Marks mark)) (eqb site i)
told_longer j p site (Look i) (told.Can events) = no_longer j
told_longer j p site (Look i) (told.Waits event) = no_longer j
told_longer j p site (Enabled i) (told.Marks mark) = no_longer j
told_longer j p site (Enabled i) (told.Can events) = by_site j (entry_of j p (outcome.Can events)) (eqb site i)
told_longer j p site (Enabled i) (told.Waits event) = no_longer j
told_longer j p site Accepting (told.Marks mark) = no_longer j
told_longer j p site Accepting (told.Can events) = no_longer j
told_longer j p site Accepting (told.Waits event) =
    let g = gathering j.gathered site (told.Waits event) in by_verdict j (with_gathered j g) p (waits_told g) refl refl

out_longer : (j : JournalState) (site : ℕ) (t : Told) (o : Option Proposal) → Longer j (told_out j site t o)
out_longer j site t None = record { more = []; entries = sym (append-nil j.history.entries); alphabets = refl }
out_longer j site t (Some p) = told_longer j p site p.call t

-- an answer to a question of now is taken in
pub answer_is : (j : JournalState) (i : ℕ) (asked : Asked) (a : Answer) → IsAnswerTo j (question_at j i asked) a → answered_to j a ≡ told_out j i a.told j.out
answer_is j i asked a to =
    ap (λ (b : Bool). cond b (told_out j a.site a.told j.out) j) (eq-eqb a.number (length j.history.entries) to.number) ∙ ap (λ (k : ℕ). told_out j k a.told j.out) to.site

pub led_telling : {L R : Type 0} (each : Links L R) (links : Option (List L)) (before : Option (List (ℕ × R))) (greets : ℕ → List ℕ → List ℕ → Type 0) (c : ClusterId) (first j : JournalState)
    (places after : List (Place L)) (back : Option (List (ℕ × R))) (i : ℕ) (asked : Asked) (q : Question) (a : Answer) → i < length c.owned → length j.alphabets ≡ length c.owned
    → Some q ≡ Some (question_at j i asked) → IsAnswerTo j q a → Answers each j i (sent_question q) (sent_answer a) places after
    → IsLedFrom each links before greets c first j places back → IsLedFrom each links before greets c first (answered_to j a) after back
led_telling each links before greets c first j places after back i asked q a below many asks to answers led =
    let now = question_at j i asked in
    let same : q ≡ now = same_Some q now asks in
    let step : answered_to j a ≡ told_out j i a.told j.out = answer_is j i asked a (subst (λ (x : Question). IsAnswerTo j x a) same to) in
    let longer : Longer j (answered_to j a) = subst (Longer j) (sym step) (out_longer j i a.told j.out) in
    let site : i < length j.alphabets = omega arith in
    let is : IsAskedAt j now = asked_is_true j i asked site in
    let at_rest : IsAskedAt (withdrawn j) now = asked_is_true (withdrawn j) i asked site in
    let is_then = question_kept (withdrawn j) (withdrawn (answered_to j a)) (rest_grows j (answered_to j a) longer.more longer.alphabets longer.entries) now at_rest in
    let hearing = led_hearing each links before greets c first j places back led.0 led.1 i after (sent_question now) (sent_answer a) longer.more below
    (subst (λ (x : Question). Answers each j i (sent_question x) (sent_answer a) places after) same answers)
    longer.alphabets longer.entries (refl, refl) refl refl is is_then in
    (led.0 ++ hears hearing.0 ∷ [], hearing.1)

-- ---- a call that asks one site

-- it asks that site something
pub one_asks : (call : Call) (i : ℕ) → AsksOne call i → (asked : Asked) × (asks_of call i ≡ Some asked)
one_asks (Exec k e) i one = absurd one
one_asks (Look k) i one = (Marks, ap (λ (b : Bool). cond b (Some Marks) None) (eq-eqb i k (sym one)))
one_asks (Enabled k) i one = (Can, ap (λ (b : Bool). cond b (Some Can) None) (eq-eqb i k (sym one)))
one_asks Accepting i one = absurd one

marks_can : Marks ≡ Can → ⊥
marks_can is = cc

marks_waits : Marks ≡ Waits → ⊥
marks_waits is = cc

can_waits : Can ≡ Waits → ⊥
can_waits is = cc

-- and has its entry by what it tells
record EntersBy (j after : JournalState) (p : Proposal) (call : Call) : Type 0 where
  pub outcome : Outcome
  pub enters : after ≡ with_entry j (entry_of j p outcome)
  pub ends : (k : JournalState) → Enters j k p outcome → CallEnds j k p (Some outcome)
  pub no_fault : is_fault outcome ≡ false
  pub fits : FitsCall (atoms_of j.alphabets) call outcome

one_told : (j after : JournalState) (p : Proposal) (i : ℕ) (call : Call) (asked : Asked) (t : Told) → AsksOne call i → asks_of call i ≡ Some asked → what_is_told t ≡ asked
    → IsOver (atoms_of j.alphabets) t → after ≡ told_to j p i call t → EntersBy j after p call
unfolding one_asks
one_told j after p i (Exec k e) asked t one asks kind over is = absurd one
one_told j after p i (Look k) asked (told.Marks mark) one asks kind over is = record {
  outcome = outcome.Marks mark;
  enters = is ∙ ap (λ (b : Bool). cond b (with_entry j (entry_of j p (outcome.Marks mark))) j) (eq-eqb i k (sym one));
  ends = λ k enters. enters;
  no_fault = refl;
  fits = record { kind = refl; within = over };
}
one_told j after p i (Look k) asked (told.Can events) one asks kind over is =
    absurd (let what : Some Marks ≡ Some Can = sym (one_asks (Look k) i one).1 ∙ asks ∙ ap Some (sym kind) in marks_can (same_Some Marks Can what))
one_told j after p i (Look k) asked (told.Waits event) one asks kind over is =
    absurd (let what : Some Marks ≡ Some Waits = sym (one_asks (Look k) i one).1 ∙ asks ∙ ap Some (sym kind) in marks_waits (same_Some Marks Waits what))
one_told j after p i (Enabled k) asked (told.Marks mark) one asks kind over is =
    absurd (let what : Some Can ≡ Some Marks = sym (one_asks (Enabled k) i one).1 ∙ asks ∙ ap Some (sym kind) in marks_can (sym (same_Some Can Marks what)))
one_told j after p i (Enabled k) asked (told.Can events) one asks kind over is = record {
  outcome = outcome.Can events;
  enters = is ∙ ap (λ (b : Bool). cond b (with_entry j (entry_of j p (outcome.Can events))) j) (eq-eqb i k (sym one));
  ends = λ k enters. enters;
  no_fault = refl;
  fits = record { kind = refl; within = over };
}
one_told j after p i (Enabled k) asked (told.Waits event) one asks kind over is =
    absurd (let what : Some Can ≡ Some Waits = sym (one_asks (Enabled k) i one).1 ∙ asks ∙ ap Some (sym kind) in can_waits (same_Some Can Waits what))
one_told j after p i Accepting asked t one asks kind over is = absurd one

-- the last entry is that of the call
pub one_ends : (j after : JournalState) (p : Proposal) (i : ℕ) (last : Entry) → j.out ≡ Some p → AsksOne p.call i
    → ((asked : Asked) → asks_of p.call i ≡ Some asked → HasHeard j after i asked) → Some last ≡ slice_get after.history.entries (length after.history.entries - 1)
    → CallEnds j after p (Some last.outcome)
one_ends j after p i last out one heard is =
    let asks = one_asks p.call i one in
    let h = heard asks.0 asks.1 in
    let by = one_told j after p i p.call asks.0 h.told one asks.1 h.kind h.over (h.is ∙ ap (told_out j i h.told) out) in
    let entry = entry_of j p by.outcome in
    let J = j.history.entries in
    let entries : after.history.entries ≡ J ++ entry ∷ [] = ap (λ (k : JournalState). k.history.entries) by.enters in
    let long = length-append J (entry ∷ []) in
    let all = ap (λ (K : List Entry). length K) entries in
    let place : length after.history.entries - 1 ≡ length J = omega arith in
    let found : slice_get after.history.entries (length after.history.entries - 1) ≡ Some entry =
    ap (λ (K : List Entry). slice_get K (length after.history.entries - 1)) entries ∙ slice_get_last J entry (length after.history.entries - 1) place in
    let same : last ≡ entry = same_Some last entry (is ∙ found) in
    subst (λ (o : Outcome). CallEnds j after p (Some o)) (sym (ap (λ (e : Entry). e.outcome) same)) (by.ends after (entered j after p by.outcome by.enters))

pub one_no_fault : (j after : JournalState) (p : Proposal) (i : ℕ) (last : Entry) → j.out ≡ Some p → AsksOne p.call i
    → ((asked : Asked) → asks_of p.call i ≡ Some asked → HasHeard j after i asked) → Some last ≡ slice_get after.history.entries (length after.history.entries - 1)
    → is_fault last.outcome ≡ false
one_no_fault j after p i last out one heard is =
    let asks = one_asks p.call i one in
    let h = heard asks.0 asks.1 in
    let by = one_told j after p i p.call asks.0 h.told one asks.1 h.kind h.over (h.is ∙ ap (told_out j i h.told) out) in
    let entry = entry_of j p by.outcome in
    let J = j.history.entries in
    let entries : after.history.entries ≡ J ++ entry ∷ [] = ap (λ (k : JournalState). k.history.entries) by.enters in
    let long = length-append J (entry ∷ []) in
    let all = ap (λ (K : List Entry). length K) entries in
    let place : length after.history.entries - 1 ≡ length J = omega arith in
    let found : slice_get after.history.entries (length after.history.entries - 1) ≡ Some entry =
    ap (λ (K : List Entry). slice_get K (length after.history.entries - 1)) entries ∙ slice_get_last J entry (length after.history.entries - 1) place in
    ap (λ (e : Entry). is_fault e.outcome) (same_Some last entry (is ∙ found)) ∙ by.no_fault

pub one_fits : (j after : JournalState) (p : Proposal) (i : ℕ) (last : Entry) → j.out ≡ Some p → AsksOne p.call i
    → ((asked : Asked) → asks_of p.call i ≡ Some asked → HasHeard j after i asked) → Some last ≡ slice_get after.history.entries (length after.history.entries - 1)
    → FitsCall (atoms_of j.alphabets) p.call last.outcome
one_fits j after p i last out one heard is =
    let asks = one_asks p.call i one in
    let h = heard asks.0 asks.1 in
    let by = one_told j after p i p.call asks.0 h.told one asks.1 h.kind h.over (h.is ∙ ap (told_out j i h.told) out) in
    let entry = entry_of j p by.outcome in
    let J = j.history.entries in
    let entries : after.history.entries ≡ J ++ entry ∷ [] = ap (λ (k : JournalState). k.history.entries) by.enters in
    let long = length-append J (entry ∷ []) in
    let all = ap (λ (K : List Entry). length K) entries in
    let place : length after.history.entries - 1 ≡ length J = omega arith in
    let found : slice_get after.history.entries (length after.history.entries - 1) ≡ Some entry =
    ap (λ (K : List Entry). slice_get K (length after.history.entries - 1)) entries ∙ slice_get_last J entry (length after.history.entries - 1) place in
    subst (FitsCall (atoms_of j.alphabets) p.call) (sym (ap (λ (e : Entry). e.outcome) (same_Some last entry (is ∙ found)))) by.fits

-- there is a last entry
pub one_has_last : (j after : JournalState) (p : Proposal) (i : ℕ) → j.out ≡ Some p → AsksOne p.call i → ((asked : Asked) → asks_of p.call i ≡ Some asked → HasHeard j after i asked)
    → slice_get after.history.entries (length after.history.entries - 1) ≡ None → ⊥
one_has_last j after p i out one heard none =
    let asks = one_asks p.call i one in
    let h = heard asks.0 asks.1 in
    let by = one_told j after p i p.call asks.0 h.told one asks.1 h.kind h.over (h.is ∙ ap (told_out j i h.told) out) in
    let entry = entry_of j p by.outcome in
    let J = j.history.entries in
    let entries : after.history.entries ≡ J ++ entry ∷ [] = ap (λ (k : JournalState). k.history.entries) by.enters in
    let long = length-append J (entry ∷ []) in
    let all = ap (λ (K : List Entry). length K) entries in
    let place : length after.history.entries - 1 ≡ length J = omega arith in
    let found : slice_get after.history.entries (length after.history.entries - 1) ≡ Some entry =
    ap (λ (K : List Entry). slice_get K (length after.history.entries - 1)) entries ∙ slice_get_last J entry (length after.history.entries - 1) place in
    none-some entry (sym none ∙ found)

-- the last entry
abbrev pub last_entry : History → Option Entry
last_entry h = slice_get h.entries (length h.entries - 1)

-- ---- led on, by equations

module _ {L R : Type 0} (each : Links L R) (links : Option (List L)) (before : Option (List (ℕ × R))) (greets : ℕ → List ℕ → List ℕ → Type 0) (c : ClusterId) (first : JournalState) where
  pub away_from : (j after_j : JournalState) (places after : List (Place L)) (back back_then : Option (List (ℕ × R))) (i : ℕ) → after_j ≡ j → Ends each i places after back back_then
      → IsLedFrom each links before greets c first j places back → IsLedFrom each links before greets c first after_j after back_then
  away_from j after_j places after back back_then i same ends led =
      subst (λ (k : JournalState). IsLedFrom each links before greets c first k after back_then) (sym same)
      (led.0, led_ended each links before greets c first j places back led.0 led.1 i after back_then ends)

  pub rest_from : (j after_j : JournalState) (places : List (Place L)) (back : Option (List (ℕ × R))) → after_j ≡ withdrawn j
      → IsLedFrom each links before greets c first j places back → IsLedFrom each links before greets c first after_j places back
  rest_from j after_j places back same led =
      subst (λ (k : JournalState). IsLedFrom each links before greets c first k places back) (sym same) (led.0 ++ withdraws ∷ [], led_withdrawing each links before greets c first j places back led.0 led.1)

  pub told_from : (j mid after_j : JournalState) (places after : List (Place L)) (back back_then : Option (List (ℕ × R))) (i : ℕ)
      → ((p : Proposal) × (asked : Asked) × (j.out ≡ Some p) × (asks_of p.call i ≡ Some asked)) → (q : Question) (a : Answer) → i < length c.owned → length j.alphabets ≡ length c.owned
      → Some q ≡ question_for j i → IsAnswerTo j q a → Answers each j i (sent_question q) (sent_answer a) places after → back_then ≡ back → mid ≡ j → after_j ≡ answered_to mid a
      → IsLedFrom each links before greets c first j places back → IsLedFrom each links before greets c first after_j after back_then
  told_from j mid after_j places after back back_then i asks q a below many asked to answers same_back same is led =
      let step : after_j ≡ answered_to j a = is ∙ ap (λ (k : JournalState). answered_to k a) same in
      let on : IsLedFrom each links before greets c first (answered_to j a) after back =
      led_telling each links before greets c first j places after back i asks.1 q a below many (asked ∙ question_is j asks.0 i asks.1 asks.2 asks.3) to answers led in
      subst (λ (k : JournalState). IsLedFrom each links before greets c first k after back_then) (sym step)
      (subst (λ (b : Option (List (ℕ × R))). IsLedFrom each links before greets c first (answered_to j a) after b) (sym same_back) on)
