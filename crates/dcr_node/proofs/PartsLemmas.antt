-- What the parts of a right world owe each other: a message that was sent may be taken by its node.
use Rattle.std.proofs.Common.{◌≡◌, ℕ, ◌<◌, ◌≤◌, Bool, true, false, ◌&&◌, cond, List, [], ◌∷◌, length, get_or, take, Option, Some, None, inl, inr, refl, sym, ap, subst, ◌∙◌, arith}
use Rattle.std.specs.Prelude.{slice_get}
use Rattle.std.specs.Option.{option_map, option_or, IfSome}
use Rattle.std.proofs.lemmas.Bool.{cases_lt, false≢true}
use Rattle.std.proofs.lemmas.List.Elements.{All-get_or, filter_passes}
use Rattle.std.proofs.lemmas.List.Sums.{count_by-le-length}
use Rattle.std.proofs.lemmas.List.{get_or_past, length-map}
use Rattle.std.proofs.lemmas.Option.{slice_get_within, slice_get-get_or, get_or_from_slice_get, none-some}
use Rattle.dcr_set.specs.EventSet.{Set, has}
use Rattle.dcr_set.specs.Least.{least}
use Rattle.dcr_set.proofs.LeastLemmas.{least-some}
use Rattle.dcr_set.proofs.SetLemmas.{length-those}
use Rattle.dcr_graph.specs.Cause.{cause, is_enabled_in, is_open_condition, is_pending_milestone}
use Rattle.dcr_graph.specs.Projection.{tracks_executed, tracks_included, tracks_pending}
use Rattle.dcr_graph.specs.Rows.{row}
use Rattle.dcr_graph.specs.Rules.{Rules}
use Rattle.dcr_graph.specs.declared.kind.Cause.TheVariants.{Excluded, Condition, Milestone}
use Rattle.dcr_graph.specs.declared.marking.Marking.{Marking}
use Rattle.dcr_journal.specs.Run.{after, touches}
use Rattle.dcr_journal.specs.declared.call.Call.TheVariants.{Exec}
use Rattle.dcr_site.specs.Decision.{by_cause, decision, owned_waits}
use Rattle.dcr_site.specs.Seen.{StandsAt}
use Rattle.dcr_site.specs.declared.site.Decision.TheVariants.{NotHere}
use Rattle.dcr_wire.specs.declared.answer.Answer.{Answer}
use Rattle.dcr_wire.specs.declared.message.Message.{Message}
use Rattle.dcr_wire.specs.declared.message.Message.TheVariants.{Ask, Vote, Apply}
use Rattle.dcr_wire.specs.declared.question.Asked.{Asked}
use Rattle.dcr_wire.specs.declared.question.Asked.TheVariants.{Marks, Can, Waits}
use Rattle.dcr_wire.specs.declared.question.Question.{Question}
use Rattle.dcr_node.specs.Heard.{done_events, stepped_by_all}
use Rattle.dcr_node.specs.SiteState.{SiteState, replied, answered, SiteMayTake}
use Rattle.dcr_node.specs.JournalState.{JournalState, stream_of, IsWithin, IsOver, JournalMayTake, JournalMayHear}
use Rattle.dcr_node.specs.WorldState.{WorldState, IsCallEvent}
use Rattle.dcr_node.specs.Machine.{sending, told_site, happens, answering, asked_at, question_delivered, calls}
use Rattle.dcr_node.specs.Parts.{world_with, Happened, Reached}
use Rattle.dcr_node.specs.Right.{alphabet_of, IsTrueAt, IsAskedAt, graph_tells, IsAnswerAt, IsRight}
use Rattle.dcr_node.specs.declared.event.CallEvent.{CallEvent}
use Rattle.dcr_node.specs.declared.event.CallEvent.TheVariants.{DeliverQuestion}
use Rattle.dcr_node.specs.declared.event.WorldEvent.{WorldEvent}
use Rattle.dcr_node.proofs.HeardLemmas.{length-heard}
use Rattle.dcr_node.proofs.TruthLemmas.{asked_in_range}
use Rattle.dcr_node.proofs.RightLemmas.{right_alphabet, right_atoms, right_many}
use Rattle.dcr_node.proofs.AnsweredLemmas.{right_call}

-- ---- a decision's cause is of an atom

cause_within : (G : Rules) (N : Marking) (e : ℕ) → IsWithin G.atoms (by_cause (cause G N e))
cause_within G N e =
    by_mark (has N.included e) (least G.atoms (is_open_condition G N e)) refl (least G.atoms (is_pending_milestone G N e)) refl
  where
    by_mark : (b : Bool) (c : Option ℕ) → least G.atoms (is_open_condition G N e) ≡ c → (m : Option ℕ) → least G.atoms (is_pending_milestone G N e) ≡ m
        → IsWithin G.atoms (by_cause (cond b (option_or (option_map Condition c) (option_map Milestone m)) (Some Excluded)))
    by_mark false c is_c m is_m = tt
    by_mark true (Some c) is_c m is_m = (least-some G.atoms (is_open_condition G N e) c is_c).below
    by_mark true None is_c (Some m) is_m = (least-some G.atoms (is_pending_milestone G N e) m is_m).below
    by_mark true None is_c None is_m = tt

decision_within : (G : Rules) (S : Set) (N : Marking) (e : ℕ) → IsWithin G.atoms (decision G S N e)
decision_within G S N e = by_owner (has S e)
  where
    by_owner : (b : Bool) → IsWithin G.atoms (cond b (by_cause (cause G N e)) NotHere)
    by_owner true = cause_within G N e
    by_owner false = tt

-- ---- messages that were sent may be taken

-- a stream has no more executions than there are entries
pub stream_room : (w : WorldState) (i : ℕ) → length (stream_of w.journal i) ≤ length w.journal.history.entries
stream_room w i =
    let A = has (row w.journal.alphabets i) in
    let J = w.journal.history.entries in
    let few : touches A J ≤ length J = count_by-le-length _ J in
    let same = length-heard A J in omega arith

no_site : (sites : List SiteState) (i : ℕ) → i < length sites → slice_get sites i ≡ None → ⊥
no_site [] i below none = omega arith
no_site (node ∷ sites) i below none = none-some (get_or (node ∷ sites) i node) (sym none ∙ slice_get-get_or (node ∷ sites) i node below)

module _ (G : Rules) (C : List Set) (M : Marking) (w : WorldState) (right : IsRight G C M w) where
  within_owned : (i : ℕ) (node : SiteState) → slice_get w.sites i ≡ Some node → i < length C
  within_owned i node is = let below : i < length w.sites = slice_get_within w.sites i node is in let room = right.as_many in omega arith

  pub site_may_take : (message : Message) → IsTrueAt G C M w.journal message → length w.journal.history.entries ≤ 200000
      → (i : ℕ) (node : SiteState) → slice_get w.sites i ≡ Some node → SiteMayTake node message
  site_may_take (Ask number site event count) told most i node is = λ same.
      let at = right.sites i node is in
      let own : node.site.projection.own ≡ row C i = ap (λ P. P.own) at.stands.projection in
      let room : length (row C i) ≡ G.atoms = All-get_or (λ set. length set ≡ G.atoms) C i [] (within_owned i node is) right.is_case.rooms in
      let in_range = asked_in_range G C M w.journal right.sound right.out number (Exec site event) told.0 in
      let below : event < G.atoms = in_range.1 in
      let atoms : length node.site.projection.own ≡ G.atoms = ap (λ s. length s) own ∙ room in omega arith
  site_may_take (Vote number site d) told most i node is = tt
  site_may_take (Apply site index event) told most i node is = λ same.
      let at = right.sites i node is in
      let here : site ≡ i = same ∙ at.id in
      let A = row w.journal.alphabets site in
      let stream = stream_of w.journal site in
      let within : index < length stream = slice_get_within stream index event told in
      let alphabet : node.site.projection.alphabet ≡ A =
      ap (λ P. P.alphabet) at.stands.projection ∙ sym (right_alphabet G C M w i right (within_owned i node is)) ∙ ap (row w.journal.alphabets) (sym here) in
      let passes : has A (get_or stream index event) ≡ true = filter_passes (has A) (done_events w.journal.history.entries) index event within in (
        ap (λ B. has B event) alphabet ∙ ap (has A) (sym (get_or_from_slice_get stream index event event told)) ∙ passes,
        (let room = stream_room w site in omega arith),
      )

  pub journal_may_take : (message : Message) → IsTrueAt G C M w.journal message → JournalMayTake w.journal message
  journal_may_take (Ask number site event count) told = tt
  journal_may_take (Vote number site d) told =
      let in_range = asked_in_range G C M w.journal right.sound right.out number (Exec site told.0) told.1 in
      let many : length w.journal.alphabets ≡ length C = ap (λ A. length A) right.alphabets ∙ length-map C (alphabet_of G) in (
        (let below = in_range.0 in omega arith),
        subst (λ n. IsWithin n d) (sym (right_atoms G C M w right))
            (subst (IsWithin G.atoms) (sym told.2) (decision_within G (row C site) _ told.0)),
      )
  journal_may_take (Apply site index event) told = tt

  -- the site that a question is for is one
  pub asked_site : (number site event count : ℕ) → IsTrueAt G C M w.journal (Ask number site event count) → site < length w.sites
  asked_site number site event count told =
      let in_range = asked_in_range G C M w.journal right.sound right.out number (Exec site event) told.0 in
      let below = in_range.0 in let room = right.as_many in omega arith

  -- and so is the site that an execution is told to
  pub item_site : (site index event : ℕ) → IsTrueAt G C M w.journal (Apply site index event) → site < length w.sites
  item_site site index event told =
      let A = row w.journal.alphabets site in
      let stream = stream_of w.journal site in
      let within : index < length stream = slice_get_within stream index event told in
      let passes : has A (get_or stream index event) ≡ true = filter_passes (has A) (done_events w.journal.history.entries) index event within in
      let many : length w.journal.alphabets ≡ length C = ap (λ B. length B) right.alphabets ∙ length-map C (alphabet_of G) in
      elim (cases_lt site (length w.journal.alphabets)) [
        | inl below ↦ (let room = right.as_many in omega arith)
        | inr past ↦ absurd (false≢true (sym (ap (λ B. has B (get_or stream index event)) (get_or_past w.journal.alphabets site [] past)) ∙ passes))
      ]

  -- ---- what was done to the parts is what the machine does

  -- a message that reached a site
  pub reached_is : (site : ℕ) (message : Message) (new_sites : List SiteState) (answer : Option Message) → site < length w.sites → Reached w.sites site message new_sites answer
      → told_site G C w site message (slice_get w.sites site) ≡ sending (record w { sites = new_sites }) answer
  reached_is site message new_sites answer below reached = by_node (slice_get w.sites site) refl
    where
      by_node : (o : Option SiteState) → slice_get w.sites site ≡ o
          → told_site G C w site message o ≡ sending (record w { sites = new_sites }) answer
      by_node None none = absurd (no_site w.sites site below none)
      by_node (Some node) is =
          let at = right.sites site node is in
          let done = reached G (row C site) (stepped_by_all G M (take node.count (stream_of w.journal site))) node is at.stands in
          let with_sites : List SiteState → WorldState = λ sites. record w { sites = sites } in
          ap (λ sites. sending (with_sites sites) (replied G (row C site) node message)) (sym done.0)
          ∙ ap (λ o. sending (with_sites new_sites) o) (sym done.1)

  -- the world is that of its parts
  pub parts_are : (sites : List SiteState) (sent : List Message) → sites ≡ w.sites → sent ≡ w.sent → world_with M w.journal sites sent w.questions w.answers ≡ w
  parts_are sites sent same_sites same_sent =
      ap (λ o. world_with o w.journal sites sent w.questions w.answers) (sym right.opening)
      ∙ ap (λ s. world_with w.opening w.journal s sent w.questions w.answers) same_sites
      ∙ ap (λ s. world_with w.opening w.journal w.sites s w.questions w.answers) same_sent

  pub parts_right : (sites : List SiteState) (sent : List Message) → sites ≡ w.sites → sent ≡ w.sent → IsRight G C M (world_with M w.journal sites sent w.questions w.answers)
  parts_right sites sent same_sites same_sent = subst (IsRight G C M) (sym (parts_are sites sent same_sites same_sent)) right

  -- an event that was made to happen at the parts is the machine's
  pub parts_happened : (event : WorldEvent) (sites new_sites : List SiteState) (sent : List Message) (journal : JournalState) (answer : Option Message)
      → sites ≡ w.sites → sent ≡ w.sent → Happened w.journal sites sent event journal new_sites answer
      → sending (world_with w.opening journal new_sites w.sent w.questions w.answers) answer ≡ happens G C w event
  parts_happened event sites new_sites sent journal answer same_sites same_sent happened =
      ap (λ o. sending (world_with o journal new_sites w.sent w.questions w.answers) answer) right.opening
      ∙ ap (λ s. sending (world_with M journal new_sites s w.questions w.answers) answer) (sym same_sent)
      ∙ sym (happened G C M w.questions w.answers (parts_right sites sent same_sites same_sent))
      ∙ ap (λ v. happens G C v event) (parts_are sites sent same_sites same_sent)

-- ---- any call

-- what the graph has for a site is over the atoms
tells_over : (G : Rules) (S : Set) (N : Marking) (asked : Asked) → IsOver G.atoms (graph_tells G S N asked)
tells_over G S N Marks = record {
  executed = length-those G.atoms (λ k. has N.executed k && tracks_executed G S k);
  pending = length-those G.atoms (λ k. has N.pending k && tracks_pending G S k);
  included = length-those G.atoms (λ k. has N.included k && tracks_included G S k);
}
tells_over G S N Can = length-those G.atoms (is_enabled_in G S N)
tells_over G S N Waits = by_first (owned_waits G S N) refl
  where
    by_first : (o : Option ℕ) → owned_waits G S N ≡ o → IfSome o (λ e. e < G.atoms)
    by_first None is = tt
    by_first (Some e) is = (least-some G.atoms (λ a. has S a && (has N.included a && has N.pending a)) e is).below

-- an event of any call that was made to happen keeps a world right
pub called_right : (G : Rules) (C : List Set) (M : Marking) (w after : WorldState) (event : CallEvent) → IsRight G C M w → IsCallEvent w event → after ≡ calls G C w event → IsRight G C M after
called_right G C M w after event right may is = subst (IsRight G C M) (sym is) (right_call G C M w right event may)

module _ (G : Rules) (C : List Set) (M : Marking) (w : WorldState) (right : IsRight G C M w) where
  -- the journal may be handed an answer that was sent
  pub journal_may_hear : (a : Answer) → IsAnswerAt G C M w.journal a → JournalMayHear w.journal a
  journal_may_hear a told = (
    (let below = told.site in let many = right_many G C M w right in omega arith),
    subst (λ n. IsOver n a.told) (sym (right_atoms G C M w right)) (subst (IsOver G.atoms) (sym told.told) (tells_over G (row C a.site) (after G M (take a.number w.journal.history.entries)) told.asked)),
  )

  -- the site of a question that was sent is one
  pub question_site : (q : Question) → IsAskedAt w.journal q → q.site < length w.sites
  question_site q asked_for = let below = asked_for.site in let many = right_many G C M w right in let room = right.as_many in omega arith

  -- what a site that stands answers is what the machine sends
  pub question_is : (k : ℕ) (q : Question) (answer : Option Answer) → slice_get w.questions k ≡ Some q
      → ((G' : Rules) (S : Set) (N : Marking) (node : SiteState) → slice_get w.sites q.site ≡ Some node → StandsAt G' S N node.site → answer ≡ answered G' S node q)
      → answering w answer ≡ calls G C w (DeliverQuestion k)
  question_is k q answer found told = by_node (slice_get w.sites q.site) refl ∙ ap (question_delivered G C w) (sym found)
    where
      by_node : (o : Option SiteState) → slice_get w.sites q.site ≡ o → answering w answer ≡ asked_at G C w q (slice_get w.sites q.site)
      by_node None none = absurd (no_site w.sites q.site (question_site q (right.questions k q found)) none)
      by_node (Some node) is =
          let at = right.sites q.site node is in
          ap (answering w) (told G (row C q.site) (stepped_by_all G M (take node.count (stream_of w.journal q.site))) node is at.stands)
          ∙ ap (asked_at G C w q) (sym is)
