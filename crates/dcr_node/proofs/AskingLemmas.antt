-- Asking the sites brings the answer to the call that is out.
use Rattle.std.proofs.Common.{◌≡◌, ◌⊎◌, ℕ, suc, ◌+◌, ◌<◌, Bool, true, false, cond, eqb, List, [], ◌∷◌, ◌++◌, length, get_or, map, take, Option, Some, None, inl, inr, refl, sym, ap, subst, ◌∙◌, arith}
use Rattle.std.specs.Prelude.{slice_get}
use Rattle.std.specs.List.{All, Contains, cons_option, filter_map, fold, list_all, range_with_len}
use Rattle.std.specs.Option.{is_some, option_map}
use Rattle.std.proofs.lemmas.Bool.{and_from, eq-eqb, eqb-true, false≢true, cases_eq}
use Rattle.std.proofs.lemmas.List.{append-nil, append_assoc, get_or_default, get_or-set_same, get_or-set_other, length-append, take_all}
use Rattle.std.proofs.lemmas.List.Elements.{All-cons, All-head, All-map, All-nil, All-tail, Contains-append_cases, Contains-push_cases}
use Rattle.std.proofs.lemmas.List.FromFn.{get_or-range_with_len, length-range_with_len}
use Rattle.std.proofs.lemmas.List.Sums.{list_all-from_AllPass}
use Rattle.std.proofs.lemmas.Option.{slice_get_within, slice_get-get_or, same_Some, none-some}
use Rattle.std.proofs.Math.Seq.{get_or-append_seam}
use Rattle.dcr_set.specs.EventSet.{Set, has}
use Rattle.dcr_graph.specs.Rows.{row}
use Rattle.dcr_graph.specs.Rules.{Rules}
use Rattle.dcr_graph.specs.Projection.{project}
use Rattle.dcr_graph.specs.declared.marking.Marking.{Marking}
use Rattle.dcr_journal.specs.Answer.{verdict_of}
use Rattle.dcr_journal.specs.Run.{IsInRange, after}
use Rattle.dcr_journal.specs.declared.call.Call.{Call}
use Rattle.dcr_journal.specs.declared.call.Call.TheVariants.{Exec, Look, Enabled, Accepting}
use Rattle.dcr_journal.specs.declared.call.Entry.{Entry}
use Rattle.dcr_journal.specs.declared.call.Outcome.TheVariants as outcome
use Rattle.dcr_laws.specs.AtSites.{least_of}
use Rattle.dcr_wire.specs.declared.answer.Answer.{Answer}
use Rattle.dcr_wire.specs.declared.answer.Told.{Told}
use Rattle.dcr_wire.specs.declared.answer.Told.TheVariants as told
use Rattle.dcr_wire.specs.declared.question.Asked.{Asked}
use Rattle.dcr_wire.specs.declared.question.Asked.TheVariants.{Marks, Can, Waits}
use Rattle.dcr_wire.specs.declared.question.Question.{Question}
use Rattle.dcr_node.specs.Gathering.{nothing_told, gathered_with, gathering, first_waits, waits_told}
use Rattle.dcr_node.specs.Heard.{heard}
use Rattle.dcr_node.specs.SiteState.{SiteState, told_at, answered, is_ready}
use Rattle.dcr_node.specs.JournalState.{JournalState, stream_of, question_at, asks_of, entry_of, with_entry, with_gathered, with_verdict, told_to, told_out, answered_to}
use Rattle.dcr_node.specs.WorldState.{WorldState, site_at, IsCallEvent, IsKept}
use Rattle.dcr_node.specs.Machine.{with_journal, answering, asked_at, question_delivered, answer_delivered, calls, of_calls}
use Rattle.dcr_node.specs.Right.{graph_tells, IsAnswerAt, AreGathered, IsRight}
use Rattle.dcr_node.specs.Laws.{with_told, AsksToTell, what_is_told, IsToldAt, AllAnswersTell, asks_all, HaveHeardAsked, AskingAllTells}
use Rattle.dcr_node.specs.declared.event.CallEvent.{CallEvent}
use Rattle.dcr_node.specs.declared.event.CallEvent.TheVariants.{AskSite, DeliverQuestion, DeliverAnswer}
use Rattle.dcr_node.specs.declared.gathered.Gathered.{Gathered}
use Rattle.dcr_node.specs.declared.journal_node.Proposal.{Proposal}
use Rattle.dcr_node.proofs.TruthLemmas.{marks_at_beginning}
use Rattle.dcr_node.proofs.RightLemmas.{right_alphabet}
use Rattle.dcr_node.proofs.AnsweredLemmas.{tells_the_graph, gathered_more, look_answers, enabled_answers, verdict_answers, answer_now, right_call}
use Rattle.dcr_node.proofs.KeptLemmas.{kept, kept_further, calls_keep, happening_kept}
use Rattle.dcr_node.proofs.LawLemmas.{told_entry}

-- ---- elements of lists

contains_none : {X : Type 0} (x : X) → Contains [] x → ⊥
contains_none x at = let below : at.0 < 0 = at.1 in omega arith

contains_cases : {X : Type 0} (y : X) (xs : List X) (x : X) → Contains (y ∷ xs) x → (y ≡ x) ⊎ Contains xs x
contains_cases y xs x at = elim (Contains-append_cases (y ∷ []) xs x at) [
  | inl first ↦ elim (Contains-push_cases [] y x first) [
    | inl none ↦ absurd (contains_none x none)
    | inr same ↦ inl same
  ]
  | inr later ↦ inr later
]

contains_first : {X : Type 0} (x : X) (xs : List X) → Contains (x ∷ xs) x
contains_first x xs = (0, omega arith, refl)

contains_later : {X : Type 0} (y : X) (xs : List X) (x : X) → Contains xs x → Contains (y ∷ xs) x
contains_later y xs x at = let below = at.1 in (suc at.0, omega arith, at.2)

-- what stands behind the front of a list
slice_get_seam : {X : Type 0} (xs : List X) (x : X) (ys : List X) (k : ℕ) → k ≡ length xs → slice_get (xs ++ x ∷ ys) k ≡ Some x
slice_get_seam xs x ys k is =
    let room = length-append xs (x ∷ ys) in
    slice_get-get_or (xs ++ x ∷ ys) k x (omega arith) ∙ ap Some (ap (λ n. get_or (xs ++ x ∷ ys) n x) is ∙ get_or-append_seam xs x ys x)

-- ---- who has told what it waits for

abbrev TellsWaits : List Gathered → ℕ → Type 0
TellsWaits g i = is_some (get_or g i nothing_told).waits ≡ true

waits_now : (g : List Gathered) (site : ℕ) (event : Option ℕ) → site < length g → TellsWaits (gathering g site (told.Waits event)) site
waits_now g site event below =
    ap (λ (x : Gathered). is_some x.waits) (get_or-set_same g site (gathered_with (get_or g site nothing_told) (told.Waits event)) nothing_told below)

waits_kept : (g : List Gathered) (site : ℕ) (event : Option ℕ) (i : ℕ) → site < length g → TellsWaits g i → TellsWaits (gathering g site (told.Waits event)) i
waits_kept g site event i below was = elim (cases_eq i site) [
  | inl same ↦ subst (TellsWaits (gathering g site (told.Waits event))) (sym same) (waits_now g site event below)
  | inr other ↦
      ap (λ (x : Gathered). is_some x.waits) (get_or-set_other g site i (gathered_with (get_or g site nothing_told) (told.Waits event)) nothing_told other) ∙ was
]

-- where each has, so have all
waits_all : (g : List Gathered) → ((i : ℕ) → i < length g → TellsWaits g i) → waits_told g ≡ Some (least_of (map first_waits g))
waits_all g each =
    ap (λ b. cond b (Some (least_of (map first_waits g))) None)
    (list_all-from_AllPass (λ (x : Gathered). is_some x.waits) g (λ k d within.
    ap (λ (x : Gathered). is_some x.waits) (get_or_default g k d nothing_told within) ∙ each k within))

-- a site is asked for one thing
asked_for_one : (b : Bool) (what other asked : Asked) → cond b (Some what) None ≡ Some asked → other ≡ asked → (what ≡ other → ⊥) → ⊥
asked_for_one true what other asked asks kind apart = apart (same_Some what asked asks ∙ sym kind)
asked_for_one false what other asked asks kind apart = none-some asked asks

-- ---- one answer

-- something was gathered of an answer, and nothing else changed
record GoesOn (G : Rules) (C : List Set) (M : Marking) (j : JournalState) (p : Proposal) (g : List Gathered) (a : Answer) (next : JournalState) : Type 0 where
  more : List Gathered
  journal : next ≡ with_gathered j more
  are : AreGathered G C M (with_gathered j more)
  kept : (i : ℕ) → TellsWaits g i → TellsWaits more i
  unsettled : waits_told g ≡ None → waits_told more ≡ None
  taken : (asked : Asked) → a.number ≡ length j.history.entries → asks_of p.call a.site ≡ Some asked → what_is_told a.told ≡ asked
      → (p.call ≡ Accepting) × TellsWaits more a.site × (waits_told more ≡ None)

module _ (G : Rules) (C : List Set) (M : Marking) (w : WorldState) (right : IsRight G C M w) (p : Proposal) (out : w.journal.out ≡ Some p) (asks : AsksToTell p.call) where
  abbrev j : JournalState
  j = w.journal

  abbrev J : List Entry
  J = w.journal.history.entries

  abbrev N : Marking
  N = after G M w.journal.history.entries

  -- the journal with the call's entry
  abbrev end : JournalState
  end = with_told G C M w.journal p

  -- an answer makes the entry, or the journal goes on
  abbrev Goes : List Gathered → Answer → JournalState → Type 0
  Goes g a next = (next ≡ end) ⊎ GoesOn G C M j p g a next

  -- an answer that is none to the call changes nothing
  stays : (g : List Gathered) (a : Answer) → AreGathered G C M (with_gathered j g)
      → ((asked : Asked) → a.number ≡ length J → asks_of p.call a.site ≡ Some asked → what_is_told a.told ≡ asked → ⊥) → Goes g a (with_gathered j g)
  stays g a are no_answer = inr (record {
    more = g;
    journal = refl;
    are = are;
    kept = λ i is. is;
    unsettled = λ is. is;
    taken = λ asked next asks_it kind. absurd (no_answer asked next asks_it kind);
  })

  -- nor does one that tells something else than a site was asked
  other_kind : (g : List Gathered) (a : Answer) (t : Told) (call : Call) (b : Bool) (what : Asked) → AreGathered G C M (with_gathered j g) → a.told ≡ t → p.call ≡ call
      → asks_of call a.site ≡ cond b (Some what) None → (what ≡ what_is_told t → ⊥) → Goes g a (with_gathered j g)
  other_kind g a t call b what are is same asks_one apart =
      stays g a are (λ asked next asks_it kind.
      asked_for_one b what (what_is_told t) asked (sym asks_one ∙ ap (λ c. asks_of c a.site) (sym same) ∙ asks_it) (ap what_is_told (sym is) ∙ kind) apart)

  told_goes : (g : List Gathered) (a : Answer) → AreGathered G C M (with_gathered j g) → (is : IsAnswerAt G C M j a) → eqb a.number (length J) ≡ true
      → (call : Call) → p.call ≡ call → (t : Told) → a.told ≡ t → Goes g a (told_to (with_gathered j g) p a.site call t)
  told_goes g a are is next (Exec i e) same t tells = absurd (subst AsksToTell same asks)
  told_goes g a are is next (Look i) same (told.Marks mark) tells = by_site (eqb a.site i) refl
    where
      by_site : (b : Bool) → eqb a.site i ≡ b → Goes g a (cond b (with_entry (with_gathered j g) (entry_of (with_gathered j g) p (outcome.Marks mark))) (with_gathered j g))
      by_site false other =
          stays g a are (λ asked number asks_it kind.
          none-some asked (ap (λ b. cond b (Some Marks) None) (sym other) ∙ ap (λ c. asks_of c a.site) (sym same) ∙ asks_it))
      by_site true there =
          inl (told_entry G C M (with_gathered j g) p (outcome.Marks mark) (look_answers G C N p.call i a.site mark is.asked same there (sym tells ∙ answer_now G C M j a is next)))
  told_goes g a are is next (Look i) same (told.Can events) tells = other_kind g a (told.Can events) (Look i) (eqb a.site i) Marks are tells same refl (λ e. absurd cc)
  told_goes g a are is next (Look i) same (told.Waits event) tells = other_kind g a (told.Waits event) (Look i) (eqb a.site i) Marks are tells same refl (λ e. absurd cc)
  told_goes g a are is next (Enabled i) same (told.Marks mark) tells = other_kind g a (told.Marks mark) (Enabled i) (eqb a.site i) Can are tells same refl (λ e. absurd cc)
  told_goes g a are is next (Enabled i) same (told.Can events) tells = by_site (eqb a.site i) refl
    where
      by_site : (b : Bool) → eqb a.site i ≡ b → Goes g a (cond b (with_entry (with_gathered j g) (entry_of (with_gathered j g) p (outcome.Can events))) (with_gathered j g))
      by_site false other =
          stays g a are (λ asked number asks_it kind.
          none-some asked (ap (λ b. cond b (Some Can) None) (sym other) ∙ ap (λ c. asks_of c a.site) (sym same) ∙ asks_it))
      by_site true there =
          inl (told_entry G C M (with_gathered j g) p (outcome.Can events) (enabled_answers G C N p.call i a.site events is.asked same there (sym tells ∙ answer_now G C M j a is next)))
  told_goes g a are is next (Enabled i) same (told.Waits event) tells = other_kind g a (told.Waits event) (Enabled i) (eqb a.site i) Can are tells same refl (λ e. absurd cc)
  told_goes g a are is next Accepting same (told.Marks mark) tells = other_kind g a (told.Marks mark) Accepting true Waits are tells same refl (λ e. absurd cc)
  told_goes g a are is next Accepting same (told.Can events) tells = other_kind g a (told.Can events) Accepting true Waits are tells same refl (λ e. absurd cc)
  told_goes g a are is next Accepting same (told.Waits event) tells = by_all (waits_told more) refl
    where
      more : List Gathered
      more = gathering g a.site (told.Waits event)

      below : a.site < length g
      below = let many = are.as_many in let within = is.site in omega arith

      gathers : AreGathered G C M (with_gathered j more)
      gathers = gathered_more G C M (with_gathered j g) a.site (told.Waits event) is.asked are is.site (sym tells ∙ answer_now G C M j a is next)

      by_all : (o : Option (Option ℕ)) → waits_told more ≡ o → Goes g a (with_verdict (with_gathered j more) p o)
      by_all None none = inr (record {
        more = more;
        journal = refl;
        are = gathers;
        kept = λ i was. waits_kept g a.site event i below was;
        unsettled = λ was. none;
        taken = λ asked number asks_it kind. (same, waits_now g a.site event below, none);
      })
      by_all (Some first) some =
          inl (told_entry G C M (with_gathered j more) p (verdict_of first) (verdict_answers G C M (with_gathered j more) p.call first right.is_case.covers gathers same some))

  goes : (g : List Gathered) (a : Answer) → AreGathered G C M (with_gathered j g) → IsAnswerAt G C M j a → Goes g a (answered_to (with_gathered j g) a)
  goes g a are is =
      subst (Goes g a) (sym (ap (λ o. cond (eqb a.number (length J)) (told_out (with_gathered j g) a.site a.told o) (with_gathered j g)) out)) (by_number (eqb a.number (length J)) refl)
    where
      by_number : (b : Bool) → eqb a.number (length J) ≡ b → Goes g a (cond b (told_to (with_gathered j g) p a.site p.call a.told) (with_gathered j g))
      by_number false stale = stays g a are (λ asked number asks_it kind. false≢true (sym stale ∙ eq-eqb a.number (length J) number))
      by_number true next = told_goes g a are is next p.call refl a.told refl

  -- once the call has its entry, no answer that was sent is of the next number
  end_stays : (a : Answer) → IsAnswerAt G C M j a → answered_to end a ≡ end
  end_stays a is = by_number (eqb a.number (length end.history.entries)) refl
    where
      by_number : (b : Bool) → eqb a.number (length end.history.entries) ≡ b → cond b (told_out end a.site a.told end.out) end ≡ end
      by_number false stale = refl
      by_number true next =
          let longer : length end.history.entries ≡ length J + 1 = length-append J _ in
          let old = is.number in let new = eqb-true a.number (length end.history.entries) next in absurd (omega arith)

  -- ---- answers one after the other

  -- what each site tells that is asked is still to come, or was taken in
  abbrev AreDue : List Gathered → List ℕ → Type 0
  AreDue g places = (i : ℕ) (asked : Asked) → i < length C → asks_of p.call i ≡ Some asked
      → IsToldAt w places i asked ⊎ ((p.call ≡ Accepting) × TellsWaits g i × (waits_told g ≡ None))

  due_later : (k : ℕ) (places : List ℕ) (i : ℕ) (asked : Asked) → (at : IsToldAt w (k ∷ places) i asked) → (k ≡ at.place → IsToldAt w places i asked) → IsToldAt w places i asked
  due_later k places i asked at first = elim (contains_cases k places at.place at.listed) [
    | inl same ↦ first same
    | inr later ↦ record { place = at.place; answer = at.answer; listed = later; sent = at.sent; site = at.site; number = at.number; kind = at.kind }
  ]

  none_due : (g : List Gathered) → AreGathered G C M (with_gathered j g) → AreDue g [] → ⊥
  none_due g are due = by_call p.call refl
    where
      one : (i : ℕ) (what : Asked) → i < length C → asks_of p.call i ≡ Some what → (p.call ≡ Accepting → ⊥) → ⊥
      one i what below asks_it other = elim (due i what below asks_it) [
        | inl at ↦ contains_none at.place at.listed
        | inr taken ↦ other taken.0
      ]

      taken : (i : ℕ) → p.call ≡ Accepting → i < length C → TellsWaits g i × (waits_told g ≡ None)
      taken i same below = elim (due i Waits below (ap (λ c. asks_of c i) same)) [
        | inl at ↦ absurd (contains_none at.place at.listed)
        | inr was ↦ (was.1, was.2)
      ]

      by_call : (call : Call) → p.call ≡ call → ⊥
      by_call (Exec i e) same = subst AsksToTell same asks
      by_call (Look i) same =
          one i Marks (subst (λ c. IsInRange (length C) G.atoms c) same (right.out p out)) (ap (λ c. asks_of c i) same ∙ ap (λ b. cond b (Some Marks) None) (eq-eqb i i refl))
          (λ e. absurd cc)
      by_call (Enabled i) same =
          one i Can (subst (λ c. IsInRange (length C) G.atoms c) same (right.out p out)) (ap (λ c. asks_of c i) same ∙ ap (λ b. cond b (Some Can) None) (eq-eqb i i refl))
          (λ e. absurd cc)
      by_call Accepting same =
          let many = are.as_many in
          let some : 0 < length C = (let at_least = right.is_case.some_site in omega arith) in
          none-some (least_of (map first_waits g)) (sym (taken 0 same some).1 ∙ waits_all g (λ i within. (taken i same (omega arith)).0))

  hear_end : (places : List ℕ) → fold (calls G C) (with_journal w end) (map DeliverAnswer places) ≡ with_journal w end
  hear_end [] = refl
  hear_end (k ∷ places) = by_answer k places (hear_end places) (slice_get w.answers k) refl
    where
      by_answer : (k : ℕ) (places : List ℕ) → fold (calls G C) (with_journal w end) (map DeliverAnswer places) ≡ with_journal w end → (o : Option Answer) → slice_get w.answers k ≡ o
          → fold (calls G C) (answer_delivered (with_journal w end) o) (map DeliverAnswer places) ≡ with_journal w end
      by_answer k places rest None none = rest
      by_answer k places rest (Some a) is = ap (λ x. fold (calls G C) (with_journal w x) (map DeliverAnswer places)) (end_stays a (right.answers k a is)) ∙ rest

  hear_next : (k : ℕ) (places : List ℕ) (g : List Gathered) → AreGathered G C M (with_gathered j g) → AreDue g (k ∷ places)
      → ((g' : List Gathered) → AreGathered G C M (with_gathered j g') → AreDue g' places
      → fold (calls G C) (with_journal w (with_gathered j g')) (map DeliverAnswer places) ≡ with_journal w end)
      → (o : Option Answer) → slice_get w.answers k ≡ o
      → fold (calls G C) (answer_delivered (with_journal w (with_gathered j g)) o) (map DeliverAnswer places) ≡ with_journal w end
  hear_next k places g are due rest None none =
      rest g are (λ i asked below asks_it. elim (due i asked below asks_it) [
        | inl at ↦ inl (due_later k places i asked at (λ same. absurd (none-some at.answer (sym none ∙ ap (slice_get w.answers) same ∙ at.sent))))
        | inr taken ↦ inr taken
      ])
  hear_next k places g are due rest (Some a) found = elim (goes g a are (right.answers k a found)) [
    | inl ends ↦ ap (λ x. fold (calls G C) (with_journal w x) (map DeliverAnswer places)) ends ∙ hear_end places
    | inr on ↦
        ap (λ x. fold (calls G C) (with_journal w x) (map DeliverAnswer places)) on.journal
        ∙ rest on.more on.are (λ i asked below asks_it. elim (due i asked below asks_it) [
          | inl at ↦ elim (contains_cases k places at.place at.listed) [
            | inl same ↦
                let here : at.answer ≡ a = same_Some at.answer a (sym at.sent ∙ ap (slice_get w.answers) (sym same) ∙ found) in
                let site : a.site ≡ i = ap (λ (x : Answer). x.site) (sym here) ∙ at.site in
                let taken = on.taken asked (ap (λ (x : Answer). x.number) (sym here) ∙ at.number) (ap (asks_of p.call) site ∙ asks_it)
                (ap (λ (x : Answer). what_is_told x.told) (sym here) ∙ at.kind) in
                inr (taken.0, subst (TellsWaits on.more) site taken.1, taken.2)
            | inr later ↦ inl (record { place = at.place; answer = at.answer; listed = later; sent = at.sent; site = at.site; number = at.number; kind = at.kind })
          ]
          | inr taken ↦ inr (taken.0, on.kept i taken.1, on.unsettled taken.2)
        ])
  ]

  hear_all : (places : List ℕ) (g : List Gathered) → AreGathered G C M (with_gathered j g) → AreDue g places
      → fold (calls G C) (with_journal w (with_gathered j g)) (map DeliverAnswer places) ≡ with_journal w end
  hear_all [] g are due = absurd (none_due g are due)
  hear_all (k ∷ places) g are due = hear_next k places g are due (hear_all places) (slice_get w.answers k) refl

pub all_answers : AllAnswersTell
all_answers G C M w p places right out asks due = hear_all G C M w right p out asks places w.journal.gathered right.gathered (λ i asked below is. inl (due i asked below is))

-- ---- asking, and delivering in order

module _ (G : Rules) (C : List Set) (M : Marking) (w : WorldState) (right : IsRight G C M w) (call : Call) (all : HaveHeardAsked w call) where
  -- what a site tells after all entries
  abbrev tells : ℕ → Asked → Answer
  tells i asked = record { number = length w.journal.history.entries; site = i; told = graph_tells G (row C i) (after G M w.journal.history.entries) asked }

  -- what is asked of these sites, the questions, and what they tell
  abbrev asks_of_each : List ℕ → List CallEvent
  asks_of_each sites = filter_map (λ i. option_map (AskSite i) (asks_of call i)) sites

  abbrev questions_to : List ℕ → List Question
  questions_to sites = filter_map (λ i. option_map (question_at w.journal i) (asks_of call i)) sites

  abbrev told_by : List ℕ → List Answer
  told_by sites = filter_map (λ i. option_map (tells i) (asks_of call i)) sites

  -- the world with these questions and answers sent
  abbrev sent_with : List Question → List Answer → WorldState
  sent_with questions answers = record {
    opening = w.opening;
    journal = w.journal;
    sites = w.sites;
    sent = w.sent;
    questions = questions;
    answers = answers;
  }

  ask_each : (sites : List ℕ) (questions : List Question) → fold (calls G C) (sent_with questions w.answers) (asks_of_each sites) ≡ sent_with (questions ++ questions_to sites) w.answers
  ask_each [] questions = ap (λ qs. sent_with qs w.answers) (sym (append-nil questions))
  ask_each (i ∷ sites) questions = by_asked (ask_each sites) (asks_of call i)
    where
      by_asked : ((qs : List Question) → fold (calls G C) (sent_with qs w.answers) (asks_of_each sites) ≡ sent_with (qs ++ questions_to sites) w.answers) → (o : Option Asked)
          → fold (calls G C) (sent_with questions w.answers) (cons_option (option_map (AskSite i) o) (asks_of_each sites))
          ≡ sent_with (questions ++ cons_option (option_map (question_at w.journal i) o) (questions_to sites)) w.answers
      by_asked rest None = rest questions
      by_asked rest (Some asked) =
          let q = question_at w.journal i asked in
          rest (questions ++ q ∷ []) ∙ ap (λ qs. sent_with qs w.answers) (append_assoc questions (q ∷ []) (questions_to sites))

  -- a site that is asked tells what the graph has for it
  site_tells : (i : ℕ) (asked : Asked) (node : SiteState) → asks_of call i ≡ Some asked → slice_get w.sites i ≡ Some node
      → answered G (row C i) node (question_at w.journal i asked) ≡ Some (tells i asked)
  site_tells i asked node asks_it is =
      let J = w.journal.history.entries in
      let N = after G M J in
      let n = length (stream_of w.journal i) in
      let at = right.sites i node is in
      let heard_of : node.count ≡ n = all i asked node asks_it is in
      let within : i < length C = (let below : i < length w.sites = slice_get_within w.sites i node is in let room = right.as_many in omega arith) in
      let whole : take (length J) J ≡ J = take_all (length J) J (omega arith) in
      let count : node.count ≡ length (heard (has (row w.journal.alphabets i)) (take (length J) J)) = heard_of ∙ ap (λ K. length (heard (has (row w.journal.alphabets i)) K)) (sym whole) in
      let mark : node.site.mark ≡ project G (row C i) N =
      marks_at_beginning G C M w.journal i (length J) node right.sound (right_alphabet G C M w i right within) at count ∙ ap (λ K. project G (row C i) (after G M K)) whole in
      let ready : is_ready node i n ≡ true = and_from (eqb i node.id) (eqb n node.count) (eq-eqb i node.id (sym at.id)) (eq-eqb n node.count (sym heard_of)) in
      let made : Told → Answer = λ t. record { number = length J; site = i; told = t } in
      ap (λ b. cond b (Some (made (told_at G (row C i) node.site.mark asked))) None) ready
      ∙ ap (λ m. Some (made (told_at G (row C i) m asked))) mark
      ∙ ap (λ t. Some (made t)) (tells_the_graph G (row C i) N asked)

  -- the question that is delivered next is answered
  delivers_next : (i : ℕ) (asked : Asked) (questions : List Question) (answers : List Answer) (k : ℕ) → i < length w.sites → asks_of call i ≡ Some asked
      → slice_get questions k ≡ Some (question_at w.journal i asked) → calls G C (sent_with questions answers) (DeliverQuestion k) ≡ sent_with questions (answers ++ tells i asked ∷ [])
  delivers_next i asked questions answers k below asks_it found = by_site (slice_get w.sites i) refl
    where
      q : Question
      q = question_at w.journal i asked

      by_site : (o : Option SiteState) → slice_get w.sites i ≡ o → calls G C (sent_with questions answers) (DeliverQuestion k) ≡ sent_with questions (answers ++ tells i asked ∷ [])
      by_site None none = absurd (none-some (get_or w.sites i (site_at G C M i)) (sym none ∙ slice_get-get_or w.sites i (site_at G C M i) below))
      by_site (Some node) some =
          ap (question_delivered G C (sent_with questions answers)) found
          ∙ ap (asked_at G C (sent_with questions answers) (question_at w.journal i asked)) some
          ∙ ap (answering (sent_with questions answers)) (site_tells i asked node asks_it some)

  deliver_each : (sites : List ℕ) (questions before : List Question) (answers : List Answer) (k : ℕ) → All (λ i. i < length w.sites) sites → k ≡ length before
      → questions ≡ before ++ questions_to sites
      → fold (calls G C) (sent_with questions answers) (map DeliverQuestion (range_with_len k (length (asks_of_each sites)))) ≡ sent_with questions (answers ++ told_by sites)
  deliver_each [] questions before answers k below start same = ap (sent_with questions) (sym (append-nil answers))
  deliver_each (i ∷ sites) questions before answers k below start same =
      by_asked (λ bs xs n at is. deliver_each sites questions bs xs n (All-tail (λ s. s < length w.sites) i sites below) at is) (asks_of call i) refl same
    where
      by_asked : ((bs : List Question) (xs : List Answer) (n : ℕ) → n ≡ length bs → questions ≡ bs ++ questions_to sites
          → fold (calls G C) (sent_with questions xs) (map DeliverQuestion (range_with_len n (length (asks_of_each sites)))) ≡ sent_with questions (xs ++ told_by sites))
          → (o : Option Asked) → asks_of call i ≡ o → questions ≡ before ++ cons_option (option_map (question_at w.journal i) o) (questions_to sites)
          → fold (calls G C) (sent_with questions answers) (map DeliverQuestion (range_with_len k (length (cons_option (option_map (AskSite i) o) (asks_of_each sites)))))
          ≡ sent_with questions (answers ++ cons_option (option_map (tells i) o) (told_by sites))
      by_asked rest None none is = rest before answers k start is
      by_asked rest (Some asked) some is =
          let q = question_at w.journal i asked in
          let found : slice_get questions k ≡ Some q = ap (λ qs. slice_get qs k) is ∙ slice_get_seam before q (questions_to sites) k start in
          let further : k + 1 ≡ length (before ++ q ∷ []) = (let room = length-append before (q ∷ []) in omega arith) in
          ap (λ v. fold (calls G C) v (map DeliverQuestion (range_with_len (k + 1) (length (asks_of_each sites)))))
          (delivers_next i asked questions answers k (All-head (λ s. s < length w.sites) i sites below) some found)
          ∙ rest (before ++ q ∷ []) (answers ++ tells i asked ∷ []) (k + 1) further (is ∙ sym (append_assoc before (q ∷ []) (questions_to sites)))
          ∙ ap (sent_with questions) (append_assoc answers (tells i asked ∷ []) (told_by sites))

  -- where what a site tells stands
  stands_at : (sites : List ℕ) (answers : List Answer) (k : ℕ) (i : ℕ) (asked : Asked) → k ≡ length answers → Contains sites i → asks_of call i ≡ Some asked
      → (place : ℕ) × Contains (range_with_len k (length (asks_of_each sites))) place × (slice_get (answers ++ told_by sites) place ≡ Some (tells i asked))
  stands_at [] answers k i asked start at asks_it = absurd (contains_none i at)
  stands_at (s ∷ sites) answers k i asked start at asks_it = by_asked (λ xs n is later. stands_at sites xs n i asked is later asks_it) (asks_of call s) refl
    where
      by_asked : ((xs : List Answer) (n : ℕ) → n ≡ length xs → Contains sites i
          → (place : ℕ) × Contains (range_with_len n (length (asks_of_each sites))) place × (slice_get (xs ++ told_by sites) place ≡ Some (tells i asked)))
          → (o : Option Asked) → asks_of call s ≡ o
          → (place : ℕ) × Contains (range_with_len k (length (cons_option (option_map (AskSite s) o) (asks_of_each sites)))) place
          × (slice_get (answers ++ cons_option (option_map (tells s) o) (told_by sites)) place ≡ Some (tells i asked))
      by_asked rest None none = elim (contains_cases s sites i at) [
        | inl same ↦ absurd (none-some asked (sym none ∙ ap (asks_of call) same ∙ asks_it))
        | inr later ↦ rest answers k start later
      ]
      by_asked rest (Some first) some = elim (contains_cases s sites i at) [
        | inl same ↦
            let one : first ≡ asked = same_Some first asked (sym some ∙ ap (asks_of call) same ∙ asks_it) in (
              k,
              contains_first k (range_with_len (k + 1) (length (asks_of_each sites))),
              slice_get_seam answers (tells s first) (told_by sites) k start ∙ ap (λ n. Some (tells n first)) same ∙ ap (λ a. Some (tells i a)) one,
            )
        | inr later ↦
            let further : k + 1 ≡ length (answers ++ tells s first ∷ []) = (let room = length-append answers (tells s first ∷ []) in omega arith) in
            let there = rest (answers ++ tells s first ∷ []) (k + 1) further later in (
              there.0,
              contains_later k (range_with_len (k + 1) (length (asks_of_each sites))) there.0 there.1,
              ap (λ xs. slice_get xs there.0) (sym (append_assoc answers (tells s first ∷ []) (told_by sites))) ∙ there.2,
            )
      ]

-- what a site tells is of the kind that it was asked for
kind_told : (G : Rules) (S : Set) (N : Marking) (asked : Asked) → what_is_told (graph_tells G S N asked) ≡ asked
kind_told G S N Marks = refl
kind_told G S N Can = refl
kind_told G S N Waits = refl

-- events of calls keep a world right
right_calls : (G : Rules) (C : List Set) (M : Marking) (first : WorldState) (events : List CallEvent) (w : WorldState) → IsKept first w → IsRight G C M w
    → All (IsCallEvent first) events → IsRight G C M (fold (calls G C) w events)
right_calls G C M first [] w same right are = right
right_calls G C M first (event ∷ events) w same right are =
    let next = calls G C w event in
    right_calls G C M first events next (kept_further first w next same (calls_keep G C w event))
    (right_call G C M w right event (happening_kept first w same (of_calls event) (All-head (IsCallEvent first) event events are)))
    (All-tail (IsCallEvent first) event events are)

are_asks : (w : WorldState) (call : Call) (sites : List ℕ) → All (λ i. i < length w.sites) sites
    → All (IsCallEvent w) (filter_map (λ i. option_map (AskSite i) (asks_of call i)) sites)
are_asks w call [] below = All-nil (IsCallEvent w)
are_asks w call (i ∷ sites) below = by_asked (asks_of call i) (are_asks w call sites (All-tail (λ s. s < length w.sites) i sites below))
  where
    by_asked : (o : Option Asked) → All (IsCallEvent w) (filter_map (λ s. option_map (AskSite s) (asks_of call s)) sites)
        → All (IsCallEvent w) (cons_option (option_map (AskSite i) o) (filter_map (λ s. option_map (AskSite s) (asks_of call s)) sites))
    by_asked None rest = rest
    by_asked (Some asked) rest =
        All-cons (IsCallEvent w) (AskSite i asked) (filter_map (λ s. option_map (AskSite s) (asks_of call s)) sites) (All-head (λ s. s < length w.sites) i sites below) rest

pub asking_all : AskingAllTells
asking_all G C M w p right out asks all =
    let n = length w.sites in
    let sites = range_with_len 0 n in
    let events = asks_all n p.call in
    let questions = w.questions ++ questions_to G C M w right p.call all sites in
    let answers = w.answers ++ told_by G C M w right p.call all sites in
    let end = sent_with G C M w right p.call all questions answers in
    let deliveries = map DeliverQuestion (range_with_len (length w.questions) (length events)) in
    let places = range_with_len (length w.answers) (length events) in
    let below : All (λ i. i < n) sites = λ k d lt. (let long = length-range_with_len 0 n in let is = get_or-range_with_len 0 n k d (omega arith) in omega arith) in
    let first : fold (calls G C) w events ≡ sent_with G C M w right p.call all questions w.answers = ask_each G C M w right p.call all sites w.questions in
    let second : fold (calls G C) (fold (calls G C) w events) deliveries ≡ end =
    ap (λ v. fold (calls G C) v deliveries) first ∙ deliver_each G C M w right p.call all sites questions w.questions w.answers (length w.questions) below refl refl in
    let asked = fold (calls G C) w events in
    let right_asked : IsRight G C M asked = right_calls G C M w events w (kept w) right (are_asks w p.call sites below) in
    let right_end : IsRight G C M end =
    subst (IsRight G C M) second
    (right_calls G C M asked deliveries asked (kept asked) right_asked (All-map (IsCallEvent asked) DeliverQuestion (range_with_len (length w.questions) (length events)) (λ k d lt. tt))) in
    let third : fold (calls G C) (fold (calls G C) (fold (calls G C) w events) deliveries) (map DeliverAnswer places) ≡ with_journal end (with_told G C M w.journal p) =
    ap (λ v. fold (calls G C) v (map DeliverAnswer places)) second
    ∙ all_answers G C M end p places right_end out asks (λ i what within asks_it.
    let there : i < n = (let many = right.as_many in omega arith) in
    let at = stands_at G C M w right p.call all sites w.answers (length w.answers) i what refl (i, (let long = length-range_with_len 0 n in omega arith), (let is = get_or-range_with_len 0 n i i there in omega arith)) asks_it in
    record {
      place = at.0;
      answer = tells G C M w right p.call all i what;
      listed = at.1;
      sent = at.2;
      site = refl;
      number = refl;
      kind = kind_told G (row C i) (after G M w.journal.history.entries) what;
    }) in (
      ap (λ (v : WorldState). v.journal) third,
      ap (λ (v : WorldState). v.sites) third,
    )
