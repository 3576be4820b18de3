-- The laws of sites apart.
use Rattle.std.proofs.Common.{◌≡◌, ℕ, ◌<◌, Bool, true, false, ◌&&◌, cond, eqb, List, [], ◌∷◌, length, get_or, set, Option, Some, None, inl, inr, refl, sym, ap, subst, ◌∙◌, arith}
use Rattle.std.specs.Prelude.{slice_get}
use Rattle.std.specs.List.{All}
use Rattle.std.specs.Option.{option_map, option_and_then}
use Rattle.std.proofs.lemmas.Bool.{and_from, eq-eqb}
use Rattle.std.proofs.lemmas.List.{length-map, map-set, set-get_or}
use Rattle.std.proofs.lemmas.List.Elements.{All-head, All-tail}
use Rattle.std.proofs.lemmas.List.FromFn.{get_or-map-range_with_len, length-map-range_with_len}
use Rattle.std.proofs.lemmas.Option.{slice_get_within, slice_get-get_or, get_or_from_slice_get, none-some}
use Rattle.dcr_set.specs.EventSet.{Set}
use Rattle.dcr_graph.specs.Rows.{row}
use Rattle.dcr_graph.specs.Rules.{Rules}
use Rattle.dcr_graph.specs.Projection.{local_step}
use Rattle.dcr_graph.specs.declared.marking.Marking.{Marking}
use Rattle.dcr_journal.specs.Answer.{answer, outcome_decided, verdict_of}
use Rattle.dcr_journal.specs.Run.{after}
use Rattle.dcr_journal.specs.declared.call.Call.{Call}
use Rattle.dcr_journal.specs.declared.call.Call.TheVariants.{Exec, Look, Enabled, Accepting}
use Rattle.dcr_journal.specs.declared.call.Outcome.{Outcome}
use Rattle.dcr_journal.specs.declared.call.Outcome.TheVariants as outcome
use Rattle.dcr_journal.proofs.SoundLemmas.{sound_none}
use Rattle.dcr_site.specs.declared.site.Decision.{Decision}
use Rattle.dcr_wire.specs.declared.answer.Answer.{Answer}
use Rattle.dcr_wire.specs.declared.answer.Told.{Told}
use Rattle.dcr_wire.specs.declared.answer.Told.TheVariants as told
use Rattle.dcr_wire.specs.declared.message.Message.{Message}
use Rattle.dcr_wire.specs.declared.message.Message.TheVariants.{Ask, Vote, Apply}
use Rattle.dcr_wire.specs.declared.question.Asked.{Asked}
use Rattle.dcr_node.specs.Gathering.{gathering, waits_told}
use Rattle.dcr_node.specs.SiteState.{SiteState, heard_one, decision_at, is_ready, replied, site_step}
use Rattle.dcr_node.specs.JournalState.{JournalState, execution, execution_in, execution_out, stream_of, ask_for, question, item, entry_of, with_entry, with_gathered, with_verdict, told_to, told_out, answered_to, voted, journal_step}
use Rattle.dcr_node.specs.WorldState.{WorldState, site_at, opened, IsKept}
use Rattle.dcr_node.specs.Machine.{sending, with_journal, with_site, told_site, delivered, delivered_if, happens, answer_delivered, Happening, of_executions, of_calls, begins_anew, IsHappening, comes, after_events}
use Rattle.dcr_node.specs.Right.{alphabet_of, IsCase, IsTrueAt, IsNodeAt, graph_tells, IsAnswerAt, AreGathered, IsRight}
use Rattle.dcr_node.specs.Laws.{EveryWorldIsRight, EveryJournalIsLegal, EverySiteHeardABeginning, EachEventKeepsRight, SitesHeardABeginning, ASiteMayBeginAnew, with_told, StayedOrTold, NothingElseIsTold, GatheredOrTold, AnAnswerTells, TheEndsAreTheGraphs, AskingTells, counts, AnItemIsHeard}
use Rattle.dcr_node.specs.declared.event.WorldEvent.TheVariants.{Propose, AskAgain, Item, Deliver}
use Rattle.dcr_node.specs.declared.gathered.Gathered.{Gathered}
use Rattle.dcr_node.specs.declared.journal_node.Execution.{Execution}
use Rattle.dcr_node.specs.declared.journal_node.Proposal.{Proposal}
use Rattle.dcr_node.proofs.TruthLemmas.{slice_get_last, out_is}
use Rattle.dcr_node.proofs.RightLemmas.{right_site, right_next, gathered_none, question_is_true, vote_is_true, vote_answers}
use Rattle.dcr_node.proofs.AnsweredLemmas.{gathered_more, all_wait, all_marks, look_answers, enabled_answers, verdict_answers, answer_now, right_call}
use Rattle.dcr_node.proofs.KeptLemmas.{kept, kept_further, comes_keeps, happening_kept}
use Rattle.dcr_node.proofs.BeginningLemmas.{heard_a_beginning}

-- ---- every world is right

-- a site that has heard of nothing
pub node_at_opening : (G : Rules) (C : List Set) (M : Marking) (j : JournalState) (i : ℕ) → IsNodeAt G C M j i (site_at G C M i)
node_at_opening G C M j i = record { id = refl; count = omega arith; stands = record { projection = refl; mark = refl } }

pub opened_is_right : (G : Rules) (C : List Set) (M : Marking) (sessions capacity : ℕ) → IsCase G C M → IsRight G C M (opened G C M sessions capacity)
opened_is_right G C M sessions capacity is = record {
  is_case = is;
  opening = refl;
  alphabets = refl;
  sound = sound_none G C M;
  out = λ p none. absurd (none-some p none);
  as_many = length-map-range_with_len (site_at G C M) 0 (length C);
  sites = λ i node found.
      let sites = (opened G C M sessions capacity).sites in
      let below : i < length C = (let within : i < length sites = slice_get_within sites i node found in let room = length-map-range_with_len (site_at G C M) 0 (length C) in omega arith) in
      let there : site_at G C M i ≡ node =
      sym (get_or-map-range_with_len (site_at G C M) 0 (length C) i i node below (omega arith)) ∙ get_or_from_slice_get sites i node node found in
      subst (IsNodeAt G C M (opened G C M sessions capacity).journal i) there (node_at_opening G C M (opened G C M sessions capacity).journal i);
  sent = λ k message none. absurd (none-some message none);
  gathered = gathered_none G C M (opened G C M sessions capacity).journal refl (length-map C (alphabet_of G));
  questions = λ k q none. absurd (none-some q none);
  answers = λ k a none. absurd (none-some a none);
}

-- a right world in which a site is put back to its beginning
pub begun_anew_right : ASiteMayBeginAnew
begun_anew_right G C M w i right below = right_site G C M w i (site_at G C M i) right (let room = right.as_many in omega arith) (node_at_opening G C M w.journal i)

-- each event keeps a world right
pub right_comes : (G : Rules) (C : List Set) (M : Marking) (w : WorldState) → IsRight G C M w → (event : Happening) → IsHappening w event → IsRight G C M (comes G C w event)
right_comes G C M w right (of_executions event) is = right_next G C M w right event is
right_comes G C M w right (of_calls event) is = right_call G C M w right event is
right_comes G C M w right (begins_anew i) is =
    subst (λ N. IsRight G C M (with_site w i (site_at G C N i))) (sym right.opening) (begun_anew_right G C M w i right (let room = right.as_many in omega arith))

right_from : (G : Rules) (C : List Set) (M : Marking) (first : WorldState) (events : List Happening) (w : WorldState) → IsKept first w → IsRight G C M w → All (IsHappening first) events
    → IsRight G C M (after_events G C w events)
right_from G C M first [] w same right are = right
right_from G C M first (event ∷ events) w same right are =
    let next = comes G C w event in
    right_from G C M first events next (kept_further first w next same (comes_keeps G C w event))
    (right_comes G C M w right event (happening_kept first w same event (All-head (IsHappening first) event events are)))
    (All-tail (IsHappening first) event events are)

pub every_world : EveryWorldIsRight
every_world G C M sessions capacity events is are =
    let first = opened G C M sessions capacity in
    right_from G C M first events first (kept first) (opened_is_right G C M sessions capacity is) are

pub every_journal : EveryJournalIsLegal
every_journal G C M sessions capacity events is are = (every_world G C M sessions capacity events is are).sound.legal

pub every_site : EverySiteHeardABeginning
every_site G C M sessions capacity events is are = heard_a_beginning G C M (after_events G C (opened G C M sessions capacity) events) (every_world G C M sessions capacity events is are)

pub each_event : EachEventKeepsRight
each_event G C M w event right is = right_comes G C M w right event is

pub each_site : SitesHeardABeginning
each_site G C M w right = heard_a_beginning G C M w right

-- ---- proposals are told

-- the entry with the graph's outcome is the told one
pub told_entry : (G : Rules) (C : List Set) (M : Marking) (j : JournalState) (p : Proposal) (outcome : Outcome) → outcome ≡ answer G C (after G M j.history.entries) p.call
    → with_entry j (entry_of j p outcome) ≡ with_told G C M j p
told_entry G C M j p outcome same = ap (λ o. with_entry j (entry_of j p o)) same

sending_leaves : (w : WorldState) (o : Option Message) → (sending w o).journal ≡ w.journal
sending_leaves w None = refl
sending_leaves w (Some message) = refl

told_leaves : (G : Rules) (C : List Set) (w : WorldState) (i : ℕ) (message : Message) (o : Option SiteState) → (told_site G C w i message o).journal ≡ w.journal
told_leaves G C w i message None = refl
told_leaves G C w i message (Some node) = sending_leaves (with_site w i (site_step G (row C i) node message)) (replied G (row C i) node message)

module _ (G : Rules) (C : List Set) (M : Marking) (w : WorldState) (right : IsRight G C M w) where
  voted_tells : (number site : ℕ) (d : Decision) → IsTrueAt G C M w.journal (Vote number site d) → (o : Option Execution) → execution_out w.journal ≡ o
      → StayedOrTold G C M w.journal (voted w.journal number site d o)
  voted_tells number site d true_vote None out = inl refl
  voted_tells number site d true_vote (Some p) out = by_number (eqb number (length w.journal.history.entries) && eqb site p.site) refl
    where
      by_number : (b : Bool) → (eqb number (length w.journal.history.entries) && eqb site p.site) ≡ b
          → StayedOrTold G C M w.journal (cond b (with_entry w.journal (entry_of w.journal (execution p.session p.site p.event) (outcome_decided d))) w.journal)
      by_number false same = inl refl
      by_number true same =
          let is = out_is w.journal p out in
          inr (execution p.session p.site p.event, is, told_entry G C M w.journal (execution p.session p.site p.event) (outcome_decided d) (vote_answers G C M w right number site d p is true_vote same))

  delivered_tells : (message : Message) → IsTrueAt G C M w.journal message → StayedOrTold G C M w.journal (delivered G C w message).journal
  delivered_tells (Ask number site event count) is = inl (told_leaves G C w site (Ask number site event count) (slice_get w.sites site))
  delivered_tells (Vote number site d) is = voted_tells number site d is (execution_out w.journal) refl
  delivered_tells (Apply site index event) is = inl (told_leaves G C w site (Apply site index event) (slice_get w.sites site))

  delivered_if_tells : (k : ℕ) (o : Option Message) → slice_get w.sent k ≡ o → StayedOrTold G C M w.journal (delivered_if G C w o).journal
  delivered_if_tells k None is = inl refl
  delivered_if_tells k (Some message) is = delivered_tells message (right.sent k message is)

pub nothing_else : NothingElseIsTold
nothing_else G C M w (Propose session site event) right nothing = absurd nothing
nothing_else G C M w AskAgain right nothing = inl (sending_leaves w (question w.journal))
nothing_else G C M w (Item site index) right nothing = inl (sending_leaves w (item w.journal site index))
nothing_else G C M w (Deliver k) right nothing = delivered_if_tells G C M w right k (slice_get w.sent k) refl

-- ---- answers tell

module _ (G : Rules) (C : List Set) (M : Marking) (w : WorldState) (right : IsRight G C M w) where
  abbrev N : Marking
  N = after G M w.journal.history.entries

  stayed : GatheredOrTold G C M w.journal w.journal
  stayed = inl (w.journal.gathered, refl)

  verdict_tells : (gathered : List Gathered) → AreGathered G C M (with_gathered w.journal gathered) → (p : Proposal) → w.journal.out ≡ Some p → p.call ≡ Accepting
      → (o : Option (Option ℕ)) → waits_told gathered ≡ o → GatheredOrTold G C M w.journal (with_verdict (with_gathered w.journal gathered) p o)
  verdict_tells gathered are p out same None told = inl (gathered, refl)
  verdict_tells gathered are p out same (Some event) told =
      inr (p, out, told_entry G C M w.journal p (verdict_of event) (verdict_answers G C M (with_gathered w.journal gathered) p.call event right.is_case.covers are same told))

  told_to_tells : (p : Proposal) → w.journal.out ≡ Some p → (site : ℕ) → site < length C → (call : Call) → p.call ≡ call → (t : Told) (asked : Asked) → t ≡ graph_tells G (row C site) N asked
      → GatheredOrTold G C M w.journal (told_to w.journal p site call t)
  told_to_tells p out site below (Exec i e) same t asked is = stayed
  told_to_tells p out site below (Look i) same (told.Marks mark) asked is = by_site (eqb site i) refl
    where
      by_site : (b : Bool) → eqb site i ≡ b → GatheredOrTold G C M w.journal (cond b (with_entry w.journal (entry_of w.journal p (outcome.Marks mark))) w.journal)
      by_site false other = stayed
      by_site true there = inr (p, out, told_entry G C M w.journal p (outcome.Marks mark) (look_answers G C N p.call i site mark asked same there is))
  told_to_tells p out site below (Look i) same (told.Can events) asked is = stayed
  told_to_tells p out site below (Look i) same (told.Waits event) asked is = stayed
  told_to_tells p out site below (Enabled i) same (told.Marks mark) asked is = stayed
  told_to_tells p out site below (Enabled i) same (told.Can events) asked is = by_site (eqb site i) refl
    where
      by_site : (b : Bool) → eqb site i ≡ b → GatheredOrTold G C M w.journal (cond b (with_entry w.journal (entry_of w.journal p (outcome.Can events))) w.journal)
      by_site false other = stayed
      by_site true there = inr (p, out, told_entry G C M w.journal p (outcome.Can events) (enabled_answers G C N p.call i site events asked same there is))
  told_to_tells p out site below (Enabled i) same (told.Waits event) asked is = stayed
  told_to_tells p out site below Accepting same (told.Marks mark) asked is = stayed
  told_to_tells p out site below Accepting same (told.Can events) asked is = stayed
  told_to_tells p out site below Accepting same (told.Waits event) asked is =
      let g = gathering w.journal.gathered site (told.Waits event) in
      verdict_tells g (gathered_more G C M w.journal site (told.Waits event) asked right.gathered below is) p out same (waits_told g) refl

  told_out_tells : (site : ℕ) → site < length C → (t : Told) (asked : Asked) → t ≡ graph_tells G (row C site) N asked → (o : Option Proposal) → w.journal.out ≡ o
      → GatheredOrTold G C M w.journal (told_out w.journal site t o)
  told_out_tells site below t asked is None out = inl (gathering w.journal.gathered site t, refl)
  told_out_tells site below t asked is (Some p) out = told_to_tells p out site below p.call refl t asked is

  answered_tells : (a : Answer) → IsAnswerAt G C M w.journal a → GatheredOrTold G C M w.journal (answered_to w.journal a)
  answered_tells a is = by_number (eqb a.number (length w.journal.history.entries)) refl
    where
      by_number : (b : Bool) → eqb a.number (length w.journal.history.entries) ≡ b → GatheredOrTold G C M w.journal (cond b (told_out w.journal a.site a.told w.journal.out) w.journal)
      by_number false stale = stayed
      by_number true next = told_out_tells a.site is.site a.told is.asked (answer_now G C M w.journal a is next) w.journal.out refl

  answer_tells : (k : ℕ) (o : Option Answer) → slice_get w.answers k ≡ o → GatheredOrTold G C M w.journal (answer_delivered w o).journal
  answer_tells k None is = stayed
  answer_tells k (Some a) is = answered_tells a (right.answers k a is)

pub an_answer : AnAnswerTells
an_answer G C M w k right = answer_tells G C M w right k (slice_get w.answers k) refl

pub the_ends : TheEndsAreTheGraphs
the_ends G C M w right = (
  λ marks is. all_marks G C M w.journal marks right.gathered is,
  λ event is. all_wait G C M w.journal event right.is_case.covers right.gathered is,
)

-- ---- what was just sent is delivered

delivers_last : (G : Rules) (C : List Set) (w : WorldState) (message : Message) → happens G C (sending w (Some message)) (Deliver (length w.sent)) ≡ delivered G C (sending w (Some message)) message
delivers_last G C w message = ap (delivered_if G C (sending w (Some message))) (slice_get_last w.sent message (length w.sent) refl)

-- a node that is put where it stands already
same_site : (w : WorldState) (i : ℕ) (node : SiteState) → slice_get w.sites i ≡ Some node → set w.sites i node ≡ w.sites
same_site w i node is = ap (set w.sites i) (sym (get_or_from_slice_get w.sites i node node is)) ∙ set-get_or w.sites i node

-- a site at the count that it is asked at votes
asked_votes : (G : Rules) (C : List Set) (w : WorldState) (number site event count : ℕ) (node : SiteState) → slice_get w.sites site ≡ Some node → is_ready node site count ≡ true
    → delivered G C w (Ask number site event count) ≡ sending (with_site w site node) (Some (Vote number site (decision_at G (row C site) node.site.mark event)))
asked_votes G C w number site event count node is ready =
    ap (told_site G C w site (Ask number site event count)) is
    ∙ ap (λ b. sending (with_site w site node) (cond b (Some (Vote number site (decision_at G (row C site) node.site.mark event))) None)) ready

-- the vote with the next number and the right site makes the entry
vote_enters : (j : JournalState) (p : Execution) (d : Decision) → j.out ≡ Some (execution p.session p.site p.event)
    → journal_step j (Vote (length j.history.entries) p.site d) ≡ with_entry j (entry_of j (execution p.session p.site p.event) (outcome_decided d))
vote_enters j p d out =
    ap (λ (o : Option Proposal). voted j (length j.history.entries) p.site d (option_and_then (λ (q : Proposal). execution_in q q.call) o)) out
    ∙ ap (λ b. cond b (with_entry j (entry_of j (execution p.session p.site p.event) (outcome_decided d))) j)
    (and_from (eqb (length j.history.entries) (length j.history.entries)) (eqb p.site p.site) (eq-eqb (length j.history.entries) (length j.history.entries) refl) (eq-eqb p.site p.site refl))

pub asking_tells : AskingTells
asking_tells G C M w session site event node right out is all =
    let j = w.journal in
    let p : Execution = record { session = session; site = site; event = event } in
    let number = length j.history.entries in
    let ask : Message = Ask number site event (length (stream_of j site)) in
    let at = right.sites p.site node is in
    let d = decision_at G (row C p.site) node.site.mark p.event in
    let vote : Message = Vote number p.site d in
    let again = happens G C w AskAgain in
    let sent_ask = sending w (Some ask) in
    let first : again ≡ sent_ask = ap (λ (o : Option Proposal). sending w (option_and_then (λ (q : Proposal). ask_for j q.call) o)) out in
    let ready : is_ready node p.site (length (stream_of j p.site)) ≡ true =
    and_from (eqb p.site node.id) (eqb (length (stream_of j p.site)) node.count) (eq-eqb p.site node.id (sym at.id)) (eq-eqb (length (stream_of j p.site)) node.count (sym all)) in
    let placed = with_site sent_ask p.site node in
    let second : happens G C again (Deliver (length w.sent)) ≡ sending placed (Some vote) =
    ap (λ v. happens G C v (Deliver (length w.sent))) first ∙ delivers_last G C w ask
    ∙ asked_votes G C sent_ask number p.site p.event (length (stream_of j p.site)) node is ready in
    let third : happens G C (happens G C again (Deliver (length w.sent))) (Deliver (length again.sent)) ≡ with_journal (sending placed (Some vote)) (journal_step j vote) =
    ap (λ v. happens G C v (Deliver (length again.sent))) second
    ∙ ap (λ (v : WorldState). happens G C (sending placed (Some vote)) (Deliver (length v.sent))) first
    ∙ delivers_last G C placed vote in
    let true_vote : IsTrueAt G C M j vote = vote_is_true G C M w right number p.site p.event (length (stream_of j p.site)) node is (question_is_true G C M j (execution session site event) site event out refl) ready in
    let same : (eqb number number && eqb p.site p.site) ≡ true = and_from (eqb number number) (eqb p.site p.site) (eq-eqb number number refl) (eq-eqb p.site p.site refl) in (
      ap (λ (v : WorldState). v.journal) third ∙ vote_enters j p d out
          ∙ told_entry G C M j (execution session site event) (outcome_decided d) (vote_answers G C M w right number p.site d p out true_vote same),
      ap (λ (v : WorldState). v.sites) third ∙ same_site w p.site node is,
    )

-- ---- sites are brought up to date

pub an_item : AnItemIsHeard
an_item G C M w i node right is fewer =
    let stream = stream_of w.journal i in
    let at = right.sites i node is in
    let event = get_or stream node.count 0 in
    let message : Message = Apply i node.count event in
    let told = happens G C w (Item i node.count) in
    let sent_item = sending w (Some message) in
    let first : told ≡ sent_item = ap (λ (o : Option ℕ). sending w (option_map (Apply i node.count) o)) (slice_get-get_or stream node.count 0 fewer) in
    let ready : is_ready node i node.count ≡ true = and_from (eqb i node.id) (eqb node.count node.count) (eq-eqb i node.id (sym at.id)) (eq-eqb node.count node.count refl) in
    let further = heard_one node (local_step G (row C i) node.site.mark event) in
    let second : happens G C told (Deliver (length w.sent)) ≡ with_site sent_item i further =
    ap (λ v. happens G C v (Deliver (length w.sent))) first ∙ delivers_last G C w message
    ∙ ap (told_site G C sent_item i message) is
    ∙ ap (λ b. with_site sent_item i (cond b further node)) ready in (
      ap (λ (v : WorldState). v.journal) second,
      ap counts second ∙ map-set (λ (n : SiteState). n.count) w.sites i further,
    )
