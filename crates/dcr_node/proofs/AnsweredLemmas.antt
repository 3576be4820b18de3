-- Questions and answers keep a world right, and what was gathered of all sites is the graph's.
use Rattle.std.proofs.Common.{◌≡◌, ℕ, ◌<◌, Bool, true, false, cond, eqb, List, [], ◌∷◌, length, get_or, map, take, Option, Some, None, inl, inr, refl, sym, ap, subst, ◌∙◌, arith, length-set}
use Rattle.std.specs.Prelude.{slice_get}
use Rattle.std.specs.List.{list_all, zip}
use Rattle.std.specs.Option.{is_some}
use Rattle.std.proofs.lemmas.Bool.{and_parts, eqb-true, false≢true}
use Rattle.std.proofs.lemmas.List.{append-nil, length-map, get_or-map, ext_get_or, take_all}
use Rattle.std.proofs.lemmas.List.Folds.{list_all_at}
use Rattle.std.proofs.lemmas.Option.{slice_get_within, slice_get-get_or, same_Some, none-some}
use Rattle.dcr_set.specs.EventSet.{Set}
use Rattle.dcr_set.proofs.ListLemmas.{set_cases}
use Rattle.dcr_graph.specs.Cause.{enabled_in, waits}
use Rattle.dcr_graph.specs.Rows.{row}
use Rattle.dcr_graph.specs.Rules.{Rules}
use Rattle.dcr_graph.specs.Projection.{project}
use Rattle.dcr_graph.specs.declared.marking.Marking.{Marking}
use Rattle.dcr_graph.specs.declared.marking.SiteMark.{SiteMark}
use Rattle.dcr_proj.specs.CoverValue.{IsCovered}
use Rattle.dcr_journal.specs.Answer.{answer, verdict_of}
use Rattle.dcr_journal.specs.Run.{IsInRange, after, marks_at}
use Rattle.dcr_journal.specs.declared.call.Call.{Call}
use Rattle.dcr_journal.specs.declared.call.Call.TheVariants.{Exec, Look, Enabled, Accepting}
use Rattle.dcr_journal.specs.declared.call.Outcome.TheVariants as outcome
use Rattle.dcr_laws.specs.AtSites.{Site, waits_at, least_of}
use Rattle.dcr_laws.proofs.SitesRunLemmas.{enabled_at-project}
use Rattle.dcr_laws.proofs.WaitsLemmas.{waits_at-project, sites_wait_as_the_graph}
use Rattle.dcr_site.specs.Decision.{owned_waits}
use Rattle.dcr_wire.specs.declared.answer.Answer.{Answer}
use Rattle.dcr_wire.specs.declared.answer.Told.{Told}
use Rattle.dcr_wire.specs.declared.answer.Told.TheVariants as told
use Rattle.dcr_wire.specs.declared.question.Asked.{Asked}
use Rattle.dcr_wire.specs.declared.question.Asked.TheVariants.{Marks, Can, Waits}
use Rattle.dcr_wire.specs.declared.question.Question.{Question}
use Rattle.dcr_node.specs.Gathering.{nothing_told, gathered_with, gathering, first_waits, waits_told}
use Rattle.dcr_node.specs.SiteState.{SiteState, told_at, answer_at, is_ready}
use Rattle.dcr_node.specs.JournalState.{JournalState, question_at, is_free, entry_of, with_entry, with_gathered, with_verdict, told_to, told_out}
use Rattle.dcr_node.specs.WorldState.{WorldState, IsCallEvent}
use Rattle.dcr_node.specs.Machine.{with_journal, answering, asked_at, question_delivered, answer_delivered, calls}
use Rattle.dcr_node.specs.Right.{asked, IsAskedAt, graph_tells, IsAnswerAt, IsGatheredAt, AreGathered, IsRight}
use Rattle.dcr_node.specs.declared.event.CallEvent.{CallEvent}
use Rattle.dcr_node.specs.declared.event.CallEvent.TheVariants.{ProposeCall, AskSite, DeliverQuestion, DeliverAnswer}
use Rattle.dcr_node.specs.declared.gathered.Gathered.{Gathered}
use Rattle.dcr_node.specs.declared.journal_node.Proposal.{Proposal}
use Rattle.dcr_node.proofs.TruthLemmas.{Grows, marks_at_beginning}
use Rattle.dcr_node.proofs.RightLemmas.{right_answering, right_asking, right_journal, right_alphabet, right_many, right_atoms, right_out, right_entry, asked_is_true}

-- ---- what was told

-- what a site tells by its projection of a marking is the graph's at the marking
pub tells_the_graph : (G : Rules) (S : Set) (N : Marking) (asked : Asked) → told_at G S (project G S N) asked ≡ graph_tells G S N asked
tells_the_graph G S N Marks = refl
tells_the_graph G S N Can = ap (λ s. told.Can s) (enabled_at-project G S N)
tells_the_graph G S N Waits = ap (λ o. told.Waits o) (waits_at-project G S N)

-- what of it was told
marks_told : (G : Rules) (S : Set) (N : Marking) (mark : SiteMark) (asked : Asked) → told.Marks mark ≡ graph_tells G S N asked → mark ≡ project G S N
marks_told G S N mark Marks is = cc
marks_told G S N mark Can is = absurd cc
marks_told G S N mark Waits is = absurd cc

can_told : (G : Rules) (S : Set) (N : Marking) (events : Set) (asked : Asked) → told.Can events ≡ graph_tells G S N asked → events ≡ enabled_in G S N
can_told G S N events Marks is = absurd cc
can_told G S N events Can is = cc
can_told G S N events Waits is = absurd cc

event_told : (G : Rules) (S : Set) (N : Marking) (event : Option ℕ) (asked : Asked) → told.Waits event ≡ graph_tells G S N asked → event ≡ owned_waits G S N
event_told G S N event Marks is = absurd cc
event_told G S N event Can is = absurd cc
event_told G S N event Waits is = cc

-- what is gathered with it
taken : (G : Rules) (S : Set) (N : Marking) (g : Gathered) (t : Told) (asked : Asked) → IsGatheredAt G S N g → t ≡ graph_tells G S N asked → IsGatheredAt G S N (gathered_with g t)
taken G S N g (told.Marks mark) asked was is = record { marks = λ found same. sym (same_Some mark found same) ∙ marks_told G S N mark asked is; waits = was.waits }
taken G S N g (told.Can events) asked was is = was
taken G S N g (told.Waits event) asked was is = record { marks = was.marks; waits = λ found same. sym (same_Some event found same) ∙ event_told G S N event asked is }

pub gathered_more : (G : Rules) (C : List Set) (M : Marking) (j : JournalState) (site : ℕ) (t : Told) (asked : Asked) → AreGathered G C M j → site < length C
    → t ≡ graph_tells G (row C site) (after G M j.history.entries) asked → AreGathered G C M (with_gathered j (gathering j.gathered site t))
gathered_more G C M j site t asked are below is =
    let N = after G M j.history.entries in
    let old = get_or j.gathered site nothing_told in
    let within : site < length j.gathered = (let many = are.as_many in omega arith) in
    record {
      as_many = length-set j.gathered site (gathered_with old t) ∙ are.as_many;
      each = λ i g found. elim (set_cases j.gathered site (gathered_with old t) i g within found) [
        | inl at ↦
            subst (IsGatheredAt G (row C i) N) (sym at.1)
            (subst (λ k. IsGatheredAt G (row C k) N (gathered_with old t)) (sym at.0)
            (taken G (row C site) N old t asked (are.each site old (slice_get-get_or j.gathered site nothing_told within)) is))
        | inr other ↦ are.each i g other.1
      ];
    }

-- ---- what all sites wait for

-- where each site told, its first is the graph's
first_is : (G : Rules) (S : Set) (N : Marking) (g : Gathered) → IsGatheredAt G S N g → is_some g.waits ≡ true → first_waits g ≡ owned_waits G S N
first_is G S N g at there = by_waits g.waits refl
  where
    by_waits : (o : Option (Option ℕ)) → g.waits ≡ o → first_waits g ≡ owned_waits G S N
    by_waits None none = absurd (false≢true (ap is_some (sym none) ∙ there))
    by_waits (Some event) some = ap (λ (o : Option (Option ℕ)). first_waits (record { marks = g.marks; waits = o })) some ∙ at.waits event some

all_firsts : (G : Rules) (C : List Set) (N : Marking) (gathered : List Gathered) → length gathered ≡ length C
    → ((i : ℕ) (g : Gathered) → slice_get gathered i ≡ Some g → IsGatheredAt G (row C i) N g) → list_all (λ (g : Gathered). is_some g.waits) gathered ≡ true
    → map first_waits gathered ≡ map (λ S. owned_waits G S N) C
all_firsts G C N gathered many each all =
    let many_first = length-map gathered first_waits in
    let many_sets = length-map C (λ S. owned_waits G S N) in
    ext_get_or None (map first_waits gathered) (map (λ S. owned_waits G S N) C) (many_first ∙ many ∙ sym many_sets) (λ k l.
    let within : k < length gathered = omega arith in
    let below : k < length C = omega arith in
    let g = get_or gathered k nothing_told in
    get_or-map first_waits gathered k nothing_told None within
    ∙ first_is G (row C k) N g (each k g (slice_get-get_or gathered k nothing_told within)) (there k within)
    ∙ sym (get_or-map (λ S. owned_waits G S N) C k [] None below))
  where
    there : (k : ℕ) → k < length gathered → is_some (get_or gathered k nothing_told).waits ≡ true
    there k within = by_told (is_some (get_or gathered k nothing_told).waits) refl
      where
        by_told : (b : Bool) → is_some (get_or gathered k nothing_told).waits ≡ b → b ≡ true
        by_told true is = refl
        by_told false is = absurd (false≢true (sym (list_all_at (λ (g : Gathered). is_some g.waits) gathered k nothing_told within is) ∙ all))

-- set by set
by_sets : (G : Rules) (C : List Set) (N : Marking) → map (λ (site : Site). waits_at G.atoms site.0 site.1) (zip C (marks_at G C N)) ≡ map (λ S. owned_waits G S N) C
by_sets G [] N = refl
by_sets G (S ∷ C) N =
    ap (λ o. o ∷ map (λ (site : Site). waits_at G.atoms site.0 site.1) (zip C (marks_at G C N))) (waits_at-project G S N)
    ∙ ap (λ os. owned_waits G S N ∷ os) (by_sets G C N)

pub all_wait : (G : Rules) (C : List Set) (M : Marking) (j : JournalState) (event : Option ℕ) → IsCovered G.atoms C → AreGathered G C M j → waits_told j.gathered ≡ Some event
    → event ≡ waits G.atoms (after G M j.history.entries)
all_wait G C M j event covers are is = by_all (list_all (λ (g : Gathered). is_some g.waits) j.gathered) refl is
  where
    by_all : (b : Bool) → list_all (λ (g : Gathered). is_some g.waits) j.gathered ≡ b → cond b (Some (least_of (map first_waits j.gathered))) None ≡ Some event
        → event ≡ waits G.atoms (after G M j.history.entries)
    by_all false some_missing none = absurd (none-some event none)
    by_all true all some =
        let N = after G M j.history.entries in
        sym (same_Some (least_of (map first_waits j.gathered)) event some)
        ∙ ap least_of (all_firsts G C N j.gathered are.as_many are.each all ∙ sym (by_sets G C N))
        ∙ sites_wait_as_the_graph G C N covers

-- the marks that all sites told are the graph's
pub all_marks : (G : Rules) (C : List Set) (M : Marking) (j : JournalState) (marks : List SiteMark) → AreGathered G C M j → map (λ (g : Gathered). g.marks) j.gathered ≡ map Some marks
    → marks ≡ marks_at G C (after G M j.history.entries)
all_marks G C M j marks are is =
    let N = after G M j.history.entries in
    let none : SiteMark = record { executed = []; pending = []; included = [] } in
    let many_told = length-map j.gathered (λ (g : Gathered). g.marks) in
    let many_marks = length-map marks (λ (m : SiteMark). Some m) in
    let many_sets = length-map C (λ S. project G S N) in
    let same_many : length (map (λ (g : Gathered). g.marks) j.gathered) ≡ length (map Some marks) = ap (λ xs. length xs) is in
    let as_many = are.as_many in
    ext_get_or none marks (marks_at G C N) (omega arith) (λ k l.
    let within : k < length j.gathered = omega arith in
    let below : k < length C = omega arith in
    let g = get_or j.gathered k nothing_told in
    let there : g.marks ≡ Some (get_or marks k none) =
    sym (get_or-map (λ (x : Gathered). x.marks) j.gathered k nothing_told None within) ∙ ap (λ xs. get_or xs k None) is ∙ get_or-map Some marks k none None l in
    (are.each k g (slice_get-get_or j.gathered k nothing_told within)).marks (get_or marks k none) there
    ∙ sym (get_or-map (λ S. project G S N) C k [] none below))

-- ---- events

gathered_grows : (j : JournalState) (gathered : List Gathered) → Grows j (with_gathered j gathered)
gathered_grows j gathered = record {
  alphabets = refl;
  new_entries = [];
  entries = sym (append-nil j.history.entries);
  new_asked = [];
  calls = sym (append-nil (asked j));
}

-- an answer of the next number is of the marking after all entries
pub answer_now : (G : Rules) (C : List Set) (M : Marking) (j : JournalState) (a : Answer) → (is : IsAnswerAt G C M j a) → eqb a.number (length j.history.entries) ≡ true
    → a.told ≡ graph_tells G (row C a.site) (after G M j.history.entries) is.asked
answer_now G C M j a is next =
    let J = j.history.entries in
    let whole : take a.number J ≡ J = ap (λ n. take n J) (eqb-true a.number (length J) next) ∙ take_all (length J) J (omega arith) in
    is.told ∙ ap (λ K. graph_tells G (row C a.site) (after G M K) is.asked) whole

-- ---- what was told is the graph's answer to the call

pub look_answers : (G : Rules) (C : List Set) (N : Marking) (call : Call) (i site : ℕ) (mark : SiteMark) (asked : Asked) → call ≡ Look i → eqb site i ≡ true
    → told.Marks mark ≡ graph_tells G (row C site) N asked → outcome.Marks mark ≡ answer G C N call
look_answers G C N call i site mark asked same there is =
    ap (λ m. outcome.Marks m) (marks_told G (row C site) N mark asked is ∙ ap (λ k. project G (row C k) N) (eqb-true site i there)) ∙ ap (answer G C N) (sym same)

pub enabled_answers : (G : Rules) (C : List Set) (N : Marking) (call : Call) (i site : ℕ) (events : Set) (asked : Asked) → call ≡ Enabled i → eqb site i ≡ true
    → told.Can events ≡ graph_tells G (row C site) N asked → outcome.Can events ≡ answer G C N call
enabled_answers G C N call i site events asked same there is =
    ap (λ s. outcome.Can s) (can_told G (row C site) N events asked is ∙ ap (λ k. enabled_in G (row C k) N) (eqb-true site i there)) ∙ ap (answer G C N) (sym same)

pub verdict_answers : (G : Rules) (C : List Set) (M : Marking) (j : JournalState) (call : Call) (event : Option ℕ) → IsCovered G.atoms C → AreGathered G C M j → call ≡ Accepting
    → waits_told j.gathered ≡ Some event → verdict_of event ≡ answer G C (after G M j.history.entries) call
verdict_answers G C M j call event covers are same told =
    ap verdict_of (all_wait G C M j event covers are told) ∙ ap (answer G C (after G M j.history.entries)) (sym same)

-- the verdict, once each site told
right_verdict : (G : Rules) (C : List Set) (M : Marking) (w : WorldState) → IsRight G C M w → (p : Proposal) → w.journal.out ≡ Some p → p.call ≡ Accepting
    → (o : Option (Option ℕ)) → waits_told w.journal.gathered ≡ o → IsRight G C M (with_journal w (with_verdict w.journal p o))
right_verdict G C M w right p out is None told = right
right_verdict G C M w right p out is (Some event) told =
    right_entry G C M w right p (verdict_of event) out (verdict_answers G C M w.journal p.call event right.is_case.covers right.gathered is told)

module _ (G : Rules) (C : List Set) (M : Marking) (w : WorldState) (right : IsRight G C M w) where
  -- what a site answers at the count that it was asked at is the graph's
  pub answer_is_true : (q : Question) (node : SiteState) → slice_get w.sites q.site ≡ Some node → IsAskedAt w.journal q → is_ready node q.site q.count ≡ true
      → IsAnswerAt G C M w.journal (answer_at G (row C q.site) node q)
  answer_is_true q node is asked_for ready =
      let J = w.journal.history.entries in
      let at = right.sites q.site node is in
      let here : q.count ≡ node.count = eqb-true q.count node.count (and_parts (eqb q.site node.id) (eqb q.count node.count) ready).1 in
      let within : q.site < length C = (let below : q.site < length w.sites = slice_get_within w.sites q.site node is in let room = right.as_many in omega arith) in
      let marks = marks_at_beginning G C M w.journal q.site q.number node right.sound (right_alphabet G C M w q.site right within) at (sym here ∙ asked_for.count) in
      record {
        site = within;
        number = asked_for.number;
        asked = q.asked;
        told = ap (λ m. told_at G (row C q.site) m q.asked) marks ∙ tells_the_graph G (row C q.site) (after G M (take q.number J)) q.asked;
      }

  right_asked_at : (q : Question) → IsAskedAt w.journal q → (o : Option SiteState) → slice_get w.sites q.site ≡ o → IsRight G C M (asked_at G C w q o)
  right_asked_at q asked_for None is = right
  right_asked_at q asked_for (Some node) is = by_ready (is_ready node q.site q.count) refl
    where
      by_ready : (b : Bool) → is_ready node q.site q.count ≡ b → IsRight G C M (answering w (cond b (Some (answer_at G (row C q.site) node q)) None))
      by_ready false ready = right
      by_ready true ready = right_answering G C M w (answer_at G (row C q.site) node q) right (answer_is_true q node is asked_for ready)

  right_question_delivered : (k : ℕ) (o : Option Question) → slice_get w.questions k ≡ o → IsRight G C M (question_delivered G C w o)
  right_question_delivered k None is = right
  right_question_delivered k (Some q) is = right_asked_at q (right.questions k q is) (slice_get w.sites q.site) refl

  pub right_gathered : (site : ℕ) (t : Told) (asked : Asked) → site < length C → t ≡ graph_tells G (row C site) (after G M w.journal.history.entries) asked
      → IsRight G C M (with_journal w (with_gathered w.journal (gathering w.journal.gathered site t)))
  right_gathered site t asked below is =
      let g = gathering w.journal.gathered site t in
      right_journal G C M w (with_gathered w.journal g) right (gathered_grows w.journal g) right.sound right.out (gathered_more G C M w.journal site t asked right.gathered below is)

  right_told_to : (p : Proposal) → w.journal.out ≡ Some p → (site : ℕ) → site < length C → (call : Call) → p.call ≡ call → (t : Told) (asked : Asked)
      → t ≡ graph_tells G (row C site) (after G M w.journal.history.entries) asked → IsRight G C M (with_journal w (told_to w.journal p site call t))
  right_told_to p out site below (Exec i e) same t asked is = right
  right_told_to p out site below (Look i) same (told.Marks mark) asked is = by_site (eqb site i) refl
    where
      N : Marking
      N = after G M w.journal.history.entries

      by_site : (b : Bool) → eqb site i ≡ b → IsRight G C M (with_journal w (cond b (with_entry w.journal (entry_of w.journal p (outcome.Marks mark))) w.journal))
      by_site false other = right
      by_site true there =
          right_entry G C M w right p (outcome.Marks mark) out (look_answers G C N p.call i site mark asked same there is)
  right_told_to p out site below (Look i) same (told.Can events) asked is = right
  right_told_to p out site below (Look i) same (told.Waits event) asked is = right
  right_told_to p out site below (Enabled i) same (told.Marks mark) asked is = right
  right_told_to p out site below (Enabled i) same (told.Can events) asked is = by_site (eqb site i) refl
    where
      N : Marking
      N = after G M w.journal.history.entries

      by_site : (b : Bool) → eqb site i ≡ b → IsRight G C M (with_journal w (cond b (with_entry w.journal (entry_of w.journal p (outcome.Can events))) w.journal))
      by_site false other = right
      by_site true there =
          right_entry G C M w right p (outcome.Can events) out (enabled_answers G C N p.call i site events asked same there is)
  right_told_to p out site below (Enabled i) same (told.Waits event) asked is = right
  right_told_to p out site below Accepting same (told.Marks mark) asked is = right
  right_told_to p out site below Accepting same (told.Can events) asked is = right
  right_told_to p out site below Accepting same (told.Waits event) asked is =
      let g = gathering w.journal.gathered site (told.Waits event) in
      right_verdict G C M (with_journal w (with_gathered w.journal g)) (right_gathered site (told.Waits event) asked below is) p out same (waits_told g) refl

  right_told_out : (site : ℕ) → site < length C → (t : Told) (asked : Asked) → t ≡ graph_tells G (row C site) (after G M w.journal.history.entries) asked
      → (o : Option Proposal) → w.journal.out ≡ o → IsRight G C M (with_journal w (told_out w.journal site t o))
  right_told_out site below t asked is None out = right_gathered site t asked below is
  right_told_out site below t asked is (Some p) out = right_told_to p out site below p.call refl t asked is

  pub right_answered : (a : Answer) → IsAnswerAt G C M w.journal a → IsRight G C M (answer_delivered w (Some a))
  right_answered a told = by_number (eqb a.number (length w.journal.history.entries)) refl
    where
      by_number : (b : Bool) → eqb a.number (length w.journal.history.entries) ≡ b
          → IsRight G C M (with_journal w (cond b (told_out w.journal a.site a.told w.journal.out) w.journal))
      by_number false stale = right
      by_number true next =
          right_told_out a.site told.site a.told told.asked (answer_now G C M w.journal a told next) w.journal.out refl

  right_answer_delivered : (k : ℕ) (o : Option Answer) → slice_get w.answers k ≡ o → IsRight G C M (answer_delivered w o)
  right_answer_delivered k None is = right
  right_answer_delivered k (Some a) is = right_answered a (right.answers k a is)

  pub right_call : (event : CallEvent) → IsCallEvent w event → IsRight G C M (calls G C w event)
  right_call (ProposeCall session call) is =
      right_out G C M w right (record { session = session; call = call })
      (subst (λ n. IsInRange n G.atoms call) right.as_many (subst (λ n. IsInRange (length w.sites) n call) (right_atoms G C M w right) is.1)) (is_free w.journal) refl
  right_call (AskSite site asked) is =
      right_asking G C M w (question_at w.journal site asked) right
      (asked_is_true w.journal site asked (let room = right.as_many in let many = right_many G C M w right in omega arith))
  right_call (DeliverQuestion k) is = right_question_delivered k (slice_get w.questions k) refl
  right_call (DeliverAnswer k) is = right_answer_delivered k (slice_get w.answers k) refl
