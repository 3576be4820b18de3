-- What the sites told at the end has a place for each site.
use Rattle.std.proofs.Common.{◌≡◌, ℕ, suc, ◌+◌, Bool, true, false, ◌&&◌, cond, eqb, List, [], ◌∷◌, ◌++◌, length, get_or, map, take, Option, Some, None, refl, sym, ap, subst, ◌∙◌, length-set}
use Rattle.std.specs.Prelude.{slice_get}
use Rattle.std.specs.List.{list_all}
use Rattle.std.specs.Option.{is_some}
use Rattle.std.proofs.lemmas.Bool.{and_from}
use Rattle.std.proofs.lemmas.List.{length-replicate, map-append, take_more}
use Rattle.std.proofs.lemmas.Option.{none-some, slice_get_within, get_or_from_slice_get}
use Rattle.dcr_base.specs.Link.{Links}
use Rattle.dcr_graph.specs.declared.marking.SiteMark.{SiteMark}
use Rattle.dcr_journal.specs.Answer.{outcome_decided, verdict_of}
use Rattle.dcr_journal.specs.declared.call.Call.{Call}
use Rattle.dcr_journal.specs.declared.call.Call.TheVariants as call
use Rattle.dcr_journal.specs.declared.call.Entry.{Entry}
use Rattle.dcr_journal.specs.declared.call.Outcome.TheVariants as outcome
use Rattle.dcr_site.specs.declared.site.Decision.{Decision}
use Rattle.dcr_wire.specs.Laws.{Sent, sent_message, sent_question, sent_answer}
use Rattle.dcr_wire.specs.declared.answer.Told.{Told}
use Rattle.dcr_wire.specs.declared.answer.Told.TheVariants as told
use Rattle.dcr_wire.specs.declared.message.Message.TheVariants.{Ask, Vote, Apply}
use Rattle.dcr_node.specs.Gathering.{gathering, gathered_with, nothing_gathered, nothing_told, first_waits, waits_told}
use Rattle.dcr_laws.specs.AtSites.{least_of}
use Rattle.dcr_node.specs.JournalState.{JournalState, entry_of, execution, execution_out, is_free, told_out, told_to, voted, with_entry, with_gathered, with_out, with_verdict}
use Rattle.dcr_node.specs.declared.gathered.Gathered.{Gathered}
use Rattle.dcr_node.specs.declared.journal_node.Proposal.{Proposal}
use Rattle.dcr_cell.specs.ClusterId.{ClusterId}
use Rattle.dcr_order.specs.Acts.{Act, proposes, withdraws, hears, handed, acted, after_acts}
use Rattle.dcr_order.specs.Linked.{IsLedFrom}
use Rattle.dcr_order.specs.Tending.{HasWaits, HaveTold}
use Rattle.dcr_order.specs.declared.place.Place.{Place}

-- there is a place for each site
abbrev HasPlaces : JournalState → Type 0
HasPlaces j = length j.gathered ≡ length j.alphabets

by_test : (j k : JournalState) (b : Bool) → HasPlaces j → HasPlaces k → HasPlaces (cond b j k)
by_test j k true one two = one
by_test j k false one two = two

with_nothing : (j : JournalState) → length (nothing_gathered (length j.alphabets)) ≡ length j.alphabets
with_nothing j = length-replicate (length j.alphabets) nothing_told

entered_places : (j : JournalState) (entry : Entry) → HasPlaces (with_entry j entry)
entered_places j entry = with_nothing j

gathered_places : (j : JournalState) (site : ℕ) (t : Told) → HasPlaces j → HasPlaces (with_gathered j (gathering j.gathered site t))
gathered_places j site t has = length-set j.gathered site (gathered_with (get_or j.gathered site nothing_told) t) ∙ has

verdict_places : (j : JournalState) (p : Proposal) (o : Option (Option ℕ)) → HasPlaces j → HasPlaces (with_verdict j p o)
verdict_places j p None has = has
verdict_places j p (Some waits) has = entered_places j (entry_of j p (verdict_of waits))

told_places : (j : JournalState) (p : Proposal) (site : ℕ) (c : Call) (t : Told) → HasPlaces j → HasPlaces (told_to j p site c t)
told_places j p site (call.Exec i e) t has = has
told_places j p site (call.Look i) (told.Marks mark) has = by_test (with_entry j (entry_of j p (outcome.Marks mark))) j (eqb site i) (entered_places j (entry_of j p (outcome.Marks mark))) has
told_places j p site (call.Look i) (told.Can events) has = has
told_places j p site (call.Look i) (told.Waits event) has = has
told_places j p site (call.Enabled i) (told.Marks mark) has = has
told_places j p site (call.Enabled i) (told.Can events) has = by_test (with_entry j (entry_of j p (outcome.Can events))) j (eqb site i) (entered_places j (entry_of j p (outcome.Can events))) has
told_places j p site (call.Enabled i) (told.Waits event) has = has
told_places j p site call.Accepting (told.Marks mark) has = has
told_places j p site call.Accepting (told.Can events) has = has
told_places j p site call.Accepting (told.Waits event) has =
    let g = gathering j.gathered site (told.Waits event) in verdict_places (with_gathered j g) p (waits_told g) (gathered_places j site (told.Waits event) has)

out_places : (j : JournalState) (site : ℕ) (t : Told) (o : Option Proposal) → HasPlaces j → HasPlaces (told_out j site t o)
out_places j site t None has = gathered_places j site t has
out_places j site t (Some p) has = told_places j p site p.call t has

voted_places : (j : JournalState) (number site : ℕ) (d : Decision) (o : Option _) → HasPlaces j → HasPlaces (voted j number site d o)
voted_places j number site d None has = has
voted_places j number site d (Some x) has =
    let entry = entry_of j (execution x.session x.site x.event) (outcome_decided d) in
    by_test (with_entry j entry) j (eqb number (length j.history.entries) && eqb site x.site) (entered_places j entry) has

handed_places : (j : JournalState) (sent : Sent) → HasPlaces j → HasPlaces (handed j sent)
handed_places j (sent_message (Ask number site event count)) has = has
handed_places j (sent_message (Vote number site decision)) has = voted_places j number site decision (execution_out j) has
handed_places j (sent_message (Apply site index event)) has = has
handed_places j (sent_question question) has = has
handed_places j (sent_answer a) has = by_test (told_out j a.site a.told j.out) j (eqb a.number (length j.history.entries)) (out_places j a.site a.told j.out has) has

acted_places : (j : JournalState) (act : Act) → HasPlaces j → HasPlaces (acted j act)
acted_places j (proposes p) has = by_test (with_out j p) j (is_free j) (with_nothing j) has
acted_places j withdraws has = with_nothing j
acted_places j (hears m) has = handed_places j m.answer has

acts_places : (j : JournalState) (acts : List Act) → HasPlaces j → HasPlaces (after_acts j acts)
acts_places j [] has = has
acts_places j (act ∷ acts) has = acts_places (acted j act) acts (acted_places j act has)

pub led_places : {L R : Type 0} (each : Links L R) (links : Option (List L)) (before : Option (List (ℕ × R))) (greets : ℕ → List ℕ → List ℕ → Type 0) (c : ClusterId) (first j : JournalState)
    (places : List (Place L)) (back : Option (List (ℕ × R))) → HasPlaces first → IsLedFrom each links before greets c first j places back → length j.gathered ≡ length j.alphabets
led_places each links before greets c first j places back has led = subst (λ (k : JournalState). HasPlaces k) (sym led.1.by_acts) (acts_places first led.0 has)

-- the marks of one site more
pub marks_more : (marks : List SiteMark) (gathered : List Gathered) (k : ℕ) (g : Gathered) (mark : SiteMark) → map Some marks ≡ map (λ (x : Gathered). x.marks) (take k gathered)
    → slice_get gathered k ≡ Some g → g.marks ≡ Some mark → map Some (marks ++ mark ∷ []) ≡ map (λ (x : Gathered). x.marks) (take (k + 1) gathered)
marks_more marks gathered k g mark so_far there told =
    let more : take (k + 1) gathered ≡ take k gathered ++ get_or gathered k g ∷ [] = take_more gathered k g (slice_get_within gathered k g there) in
    map-append Some marks (mark ∷ [])
    ∙ ap (λ (xs : List (Option SiteMark)). xs ++ Some mark ∷ []) so_far
    ∙ ap (λ (o : Option SiteMark). map (λ (x : Gathered). x.marks) (take k gathered) ++ o ∷ []) (sym told ∙ ap (λ (x : Gathered). x.marks) (sym (get_or_from_slice_get gathered k g g there)))
    ∙ sym (map-append (λ (x : Gathered). x.marks) (take k gathered) (get_or gathered k g ∷ []))
    ∙ ap (map (λ (x : Gathered). x.marks)) (sym more)

-- where each site told what it waits for, all did
all_waits : (gathered : List Gathered) → ((i : ℕ) (g : Gathered) → slice_get gathered i ≡ Some g → HasWaits g) → list_all (λ (g : Gathered). is_some g.waits) gathered ≡ true
all_waits [] has = refl
all_waits (g ∷ gathered) has =
    and_from (is_some g.waits) (list_all (λ (one : Gathered). is_some one.waits) gathered) (ap (λ (o : Option (Option ℕ)). is_some o) (has 0 g refl).1)
    (all_waits gathered (λ i one there. has (suc i) one there))

pub all_have_told : (j : JournalState) → HaveTold j (length j.gathered) → waits_told j.gathered ≡ None → ⊥
all_have_told j told none =
    let all = all_waits j.gathered (λ i g there. (told i g (slice_get_within j.gathered i g there) there).waits) in
    let some = ap (λ (b : Bool). cond b (Some (least_of (map first_waits j.gathered))) None) all in
    none-some (least_of (map first_waits j.gathered)) (sym none ∙ some)
