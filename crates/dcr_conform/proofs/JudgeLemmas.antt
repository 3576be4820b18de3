-- A walk over the texts of a trace gives the answer, and the only one.
use Rattle.std.proofs.Common.{◌≡◌, ℕ, zero, suc, ◌+◌, ◌<◌, ◌≤◌, List, [], ◌∷◌, drop, length, map, take, Option, Some, None, MatchOption, refl, sym, ap, subst, ◌∙◌, arith}
use Rattle.std.specs.List.{slice_get}
use Rattle.std.proofs.lemmas.List.{drop_all}
use Rattle.dcr_report.proofs.Passing.{drop_at_get}
use Rattle.dcr_set.proofs.LeastLemmas.{least-some}
use Rattle.dcr_graph.specs.Cause.{cause, waits}
use Rattle.dcr_graph.specs.GraphValue.{Flat, rules_of}
use Rattle.dcr_graph.specs.Names.{number_of}
use Rattle.dcr_graph.specs.Rules.{Rules}
use Rattle.dcr_graph.specs.Step.{step}
use Rattle.dcr_graph.specs.declared.kind.Cause.{Cause}
use Rattle.dcr_graph.specs.declared.kind.Cause.TheVariants as why
use Rattle.dcr_graph.specs.declared.marking.Marking.{Marking}
use Rattle.dcr_graph.proofs.CauseLemmas.{cause_is_what_blocks}
use Rattle.dcr_journal.specs.Answer.{outcome_of}
use Rattle.dcr_laws.specs.Laws.{IsRun}
use Rattle.dcr_line.specs.Fits.{FitsOutcome}
use Rattle.dcr_conform.specs.Judge.{IsExecuted, IsJudged, Ends, FitsJudged, stepped, verdict_on}
use Rattle.dcr_conform.specs.declared.judged.Judged.{Judged}
use Rattle.dcr_conform.specs.declared.judged.Judged.TheVariants.{Unknown, Refused}

-- ---- the walk

at_cause : ℕ → Option Cause → Judged → Judged
at_cause place (Some why) further = Refused place why
at_cause place None further = further

at_number : ℕ → Option ℕ → (ℕ → Judged) → Judged
at_number place None further = Unknown place
at_number place (Some e) further = further e

-- the answer of a walk that stands at M behind so many texts
unfoldable pub walked : Flat → Marking → ℕ → List (List ℕ) → Judged
unfolding at_cause at_number
walked graph M place [] = verdict_on place (waits (length graph.names) M)
walked graph M place (text ∷ texts) =
    at_number place (number_of graph.names text) (λ e. at_cause place (cause (rules_of graph) M e) (walked graph (step (rules_of graph) M e) (place + 1) texts))

-- a text that is unknown ends it
pub at_unknown : (graph : Flat) (M : Marking) (place : ℕ) (text : List ℕ) (texts : List (List ℕ)) → number_of graph.names text ≡ None → walked graph M place (text ∷ texts) ≡ Unknown place
unfolding walked at_number
at_unknown graph M place text texts none =
    ap (λ o. at_number place o (λ e. at_cause place (cause (rules_of graph) M e) (walked graph (step (rules_of graph) M e) (place + 1) texts))) none

-- and one that can't be executed
pub at_refused : (graph : Flat) (M : Marking) (place : ℕ) (text : List ℕ) (texts : List (List ℕ)) (e : ℕ) (why : Cause) → number_of graph.names text ≡ Some e
    → cause (rules_of graph) M e ≡ Some why → walked graph M place (text ∷ texts) ≡ Refused place why
unfolding walked at_number at_cause
at_refused graph M place text texts e why number blocked =
    ap (λ o. at_number place o (λ n. at_cause place (cause (rules_of graph) M n) (walked graph (step (rules_of graph) M n) (place + 1) texts))) number
    ∙ ap (λ o. at_cause place o (walked graph (step (rules_of graph) M e) (place + 1) texts)) blocked

-- behind another it goes on
pub goes_on : (graph : Flat) (M : Marking) (place : ℕ) (text : List ℕ) (texts : List (List ℕ)) (e : ℕ) → number_of graph.names text ≡ Some e
    → cause (rules_of graph) M e ≡ None → walked graph M place (text ∷ texts) ≡ walked graph (step (rules_of graph) M e) (place + 1) texts
unfolding walked at_number at_cause
goes_on graph M place text texts e number free =
    ap (λ o. at_number place o (λ n. at_cause place (cause (rules_of graph) M n) (walked graph (step (rules_of graph) M n) (place + 1) texts))) number
    ∙ ap (λ o. at_cause place o (walked graph (step (rules_of graph) M e) (place + 1) texts)) free

pub at_end : (graph : Flat) (M : Marking) (place : ℕ) → walked graph M place [] ≡ verdict_on place (waits (length graph.names) M)
unfolding walked
at_end graph M place = refl

-- ---- the same over the whole list, for a walk that has come to a place of it

at_place : (graph : Flat) (N : Marking) (texts : List (List ℕ)) (place : ℕ) (text : List ℕ) → slice_get texts place ≡ Some text
    → walked graph N place (drop place texts) ≡ walked graph N place (text ∷ drop (place + 1) texts)
at_place graph N texts place text e = ap (walked graph N place) (drop_at_get texts place text e)

pub stops_unknown : (graph : Flat) (M N : Marking) (texts : List (List ℕ)) (place : ℕ) (text : List ℕ) → walked graph N place (drop place texts) ≡ walked graph M 0 texts
    → slice_get texts place ≡ Some text → number_of graph.names text ≡ None → Unknown place ≡ walked graph M 0 texts
stops_unknown graph M N texts place text come e none = sym (at_unknown graph N place text (drop (place + 1) texts) none) ∙ sym (at_place graph N texts place text e) ∙ come

pub stops_refused : (graph : Flat) (M N : Marking) (texts : List (List ℕ)) (place : ℕ) (text : List ℕ) (e : ℕ) (why : Cause) → walked graph N place (drop place texts) ≡ walked graph M 0 texts
    → slice_get texts place ≡ Some text → number_of graph.names text ≡ Some e → cause (rules_of graph) N e ≡ Some why → Refused place why ≡ walked graph M 0 texts
stops_refused graph M N texts place text e why come at number blocked =
    sym (at_refused graph N place text (drop (place + 1) texts) e why number blocked) ∙ sym (at_place graph N texts place text at) ∙ come

pub comes_on : (graph : Flat) (M N : Marking) (texts : List (List ℕ)) (place : ℕ) (text : List ℕ) (e : ℕ) → walked graph N place (drop place texts) ≡ walked graph M 0 texts
    → slice_get texts place ≡ Some text → number_of graph.names text ≡ Some e → cause (rules_of graph) N e ≡ None
    → walked graph (step (rules_of graph) N e) (place + 1) (drop (place + 1) texts) ≡ walked graph M 0 texts
comes_on graph M N texts place text e come at number free =
    sym (goes_on graph N place text (drop (place + 1) texts) e number free) ∙ sym (at_place graph N texts place text at) ∙ come

pub comes_to_end : (graph : Flat) (M N : Marking) (texts : List (List ℕ)) (place : ℕ) → walked graph N place (drop place texts) ≡ walked graph M 0 texts → place ≡ length texts
    → verdict_on place (waits (length graph.names) N) ≡ walked graph M 0 texts
comes_to_end graph M N texts place come whole =
    sym (at_end graph N place) ∙ sym (ap (walked graph N place) (drop_all place texts (omega arith))) ∙ come

-- ---- what is executed

-- of a first text and others: an atom without a cause, and from its step the others
pub record IsSplit (graph : Flat) (M : Marking) (text : List ℕ) (texts : List (List ℕ)) (events : List ℕ) : Type 0 where
  pub e : ℕ
  pub number : number_of graph.names text ≡ Some e
  pub free : cause (rules_of graph) M e ≡ None
  pub rest : IsExecuted graph (step (rules_of graph) M e) texts
  pub same : events ≡ e ∷ rest.events

split : (graph : Flat) (M : Marking) (text : List ℕ) (texts : List (List ℕ)) (events : List ℕ) → map (number_of graph.names) (text ∷ texts) ≡ map Some events
    → IsRun (rules_of graph) M events → IsSplit graph M text texts events
split graph M text texts [] named run = cc named
split graph M text texts (e ∷ events) named run =
    let both : number_of graph.names text ∷ map (number_of graph.names) texts ≡ Some e ∷ map Some events = named in
    record {
      e = e;
      number = cc;
      free = run.0;
      rest = record { events = events; named = cc; run = run.1 };
      same = refl;
    }

-- and back
pub first_executed : (graph : Flat) (M : Marking) (text : List ℕ) (texts : List (List ℕ)) (e : ℕ) → number_of graph.names text ≡ Some e → cause (rules_of graph) M e ≡ None
    → IsExecuted graph (step (rules_of graph) M e) texts → IsExecuted graph M (text ∷ texts)
first_executed graph M text texts e number free rest = record {
  events = e ∷ rest.events;
  named = ap (λ o. o ∷ map (number_of graph.names) texts) number ∙ ap (λ (os : List (Option ℕ)). Some e ∷ os) rest.named;
  run = (free, rest.run);
}

none_executed : (graph : Flat) (M : Marking) (x : IsExecuted graph M []) → x.events ≡ []
none_executed graph M x = by_events x.events x.named
  where
    by_events : (events : List ℕ) → ◌≡◌ {A = List (Option ℕ)} [] (map Some events) → events ≡ []
    by_events [] e = refl
    by_events (n ∷ ns) e = cc e

-- ---- no other answer

ends_here : (graph : Flat) (M : Marking) (place : ℕ) (texts : List (List ℕ)) (answer : Judged) → Ends graph M place texts answer → answer ≡ walked graph M place texts
unfolding walked at_number at_cause
ends_here graph M place [] answer ends = ends
ends_here graph M place (text ∷ texts) answer ends = by_number (number_of graph.names text) ends
  where
    by_number : (o : Option ℕ) → MatchOption o (answer ≡ Unknown place) (λ e. (why : Cause) × (cause (rules_of graph) M e ≡ Some why) × (answer ≡ Refused place why))
        → answer ≡ at_number place o (λ e. at_cause place (cause (rules_of graph) M e) (walked graph (step (rules_of graph) M e) (place + 1) texts))
    by_number None ends = ends
    by_number (Some e) (why, blocked, is) = is ∙ sym (ap (λ o. at_cause place o (walked graph (step (rules_of graph) M e) (place + 1) texts)) blocked)

one_answer : (graph : Flat) (texts : List (List ℕ)) (M : Marking) (place : ℕ) (answer : Judged) (done : ℕ) → done ≤ length texts → (x : IsExecuted graph M (take done texts))
    → Ends graph (stepped (rules_of graph) M x.events) (place + done) (drop done texts) answer → answer ≡ walked graph M place texts
one_answer graph texts M place answer zero within x ends =
    let here : place + 0 ≡ place = omega arith in
    let at_M = subst (λ (es : List ℕ). Ends graph (stepped (rules_of graph) M es) (place + 0) texts answer) (none_executed graph M x) ends in
    ends_here graph M place texts answer (subst (λ n. Ends graph M n texts answer) here at_M)
one_answer graph [] M place answer (suc done) within x ends = absurd (omega arith)
one_answer graph (text ∷ texts) M place answer (suc done) within x ends =
    let s = split graph M text (take done texts) x.events x.named x.run in
    let N = step (rules_of graph) M s.e in
    let further : place + suc done ≡ (place + 1) + done = omega arith in
    let behind = subst (λ (es : List ℕ). Ends graph (stepped (rules_of graph) M es) (place + suc done) (drop done texts) answer) s.same ends in
    one_answer graph texts N (place + 1) answer done (omega arith) s.rest (subst (λ n. Ends graph (stepped (rules_of graph) N s.rest.events) n (drop done texts) answer) further behind)
    ∙ sym (goes_on graph M place text texts s.e s.number s.free)

-- the answer is the walk's
pub judged_is : (graph : Flat) (M : Marking) (texts : List (List ℕ)) (answer : Judged) → IsJudged graph M texts answer → answer ≡ walked graph M 0 texts
judged_is graph M texts answer h =
    let at_first : h.done ≡ 0 + h.done = omega arith in
    one_answer graph texts M 0 answer h.done h.within h.executed (subst (λ n. Ends graph (stepped (rules_of graph) M h.executed.events) n (drop h.done texts) answer) at_first h.ends)

-- ---- an answer

-- as `IsJudged`, of a walk that began behind so many texts
record Answers (graph : Flat) (M : Marking) (place : ℕ) (texts : List (List ℕ)) (answer : Judged) : Type 0 where
  done : ℕ
  within : done ≤ length texts
  executed : IsExecuted graph M (take done texts)
  ends : Ends graph (stepped (rules_of graph) M executed.events) (place + done) (drop done texts) answer

nothing : (graph : Flat) (M : Marking) → IsExecuted graph M []
nothing graph M = record { events = []; named = refl; run = tt }

here : (graph : Flat) (M : Marking) (place : ℕ) (texts : List (List ℕ)) (answer : Judged) → Ends graph M place texts answer → Answers graph M place texts answer
unfolding nothing
here graph M place texts answer ends =
    let first : place ≡ place + 0 = omega arith in
    record { done = 0; within = omega arith; executed = nothing graph M; ends = subst (λ n. Ends graph M n texts answer) first ends }

behind : (graph : Flat) (M : Marking) (place : ℕ) (text : List ℕ) (texts : List (List ℕ)) (answer : Judged) (e : ℕ) → number_of graph.names text ≡ Some e → cause (rules_of graph) M e ≡ None
    → Answers graph (step (rules_of graph) M e) (place + 1) texts answer → Answers graph M place (text ∷ texts) answer
unfolding first_executed
behind graph M place text texts answer e number free a =
    let further : (place + 1) + a.done ≡ place + suc a.done = omega arith in
    record {
      done = suc a.done;
      within = (let within = a.within in omega arith);
      executed = first_executed graph M text (take a.done texts) e number free a.executed;
      ends = subst (λ n. Ends graph (stepped (rules_of graph) (step (rules_of graph) M e) a.executed.events) n (drop a.done texts) answer) further a.ends;
    }

some_answer : (graph : Flat) (texts : List (List ℕ)) (M : Marking) (place : ℕ) → Answers graph M place texts (walked graph M place texts)
some_answer graph [] M place = here graph M place [] _ (at_end graph M place)
some_answer graph (text ∷ texts) M place = by_number (number_of graph.names text) refl (λ e. some_answer graph texts (step (rules_of graph) M e) (place + 1))
  where
    by_cause : (e : ℕ) (o : Option Cause) → number_of graph.names text ≡ Some e → cause (rules_of graph) M e ≡ o
        → Answers graph (step (rules_of graph) M e) (place + 1) texts (walked graph (step (rules_of graph) M e) (place + 1) texts) → Answers graph M place (text ∷ texts) (walked graph M place (text ∷ texts))
    by_cause e (Some why) number blocked more =
        subst (Answers graph M place (text ∷ texts)) (sym (at_refused graph M place text texts e why number blocked))
        (here graph M place (text ∷ texts) (Refused place why) (rw number (why, blocked, refl)))
    by_cause e None number free more =
        subst (Answers graph M place (text ∷ texts)) (sym (goes_on graph M place text texts e number free))
        (behind graph M place text texts _ e number free more)

    by_number : (o : Option ℕ) → number_of graph.names text ≡ o
        → ((e : ℕ) → Answers graph (step (rules_of graph) M e) (place + 1) texts (walked graph (step (rules_of graph) M e) (place + 1) texts)) → Answers graph M place (text ∷ texts) (walked graph M place (text ∷ texts))
    by_number None none more =
        subst (Answers graph M place (text ∷ texts)) (sym (at_unknown graph M place text texts none))
        (here graph M place (text ∷ texts) (Unknown place) (rw none refl))
    by_number (Some e) number more = by_cause e (cause (rules_of graph) M e) number refl (more e)

-- the walk's answer is one
pub is_judged : (graph : Flat) (M : Marking) (texts : List (List ℕ)) → IsJudged graph M texts (walked graph M 0 texts)
is_judged graph M texts =
    let a = some_answer graph texts M 0 in
    let first : 0 + a.done ≡ a.done = omega arith in
    record {
      done = a.done;
      within = a.within;
      executed = a.executed;
      ends = subst (λ n. Ends graph (stepped (rules_of graph) M a.executed.events) n (drop a.done texts) (walked graph M 0 texts)) first a.ends;
    }

-- two answers are one
pub same_answer : (graph : Flat) (M : Marking) (texts : List (List ℕ)) (a b : Judged) → IsJudged graph M texts a → IsJudged graph M texts b → a ≡ b
same_answer graph M texts a b h k = judged_is graph M texts a h ∙ sym (judged_is graph M texts b k)

-- what equals the walk's answer is one
pub judged_by : (graph : Flat) (M : Marking) (texts : List (List ℕ)) (answer : Judged) → answer ≡ walked graph M 0 texts → IsJudged graph M texts answer
judged_by graph M texts answer e = subst (IsJudged graph M texts) (sym e) (is_judged graph M texts)

-- ---- which atoms it names

-- a text that has a number is an atom's
pub numbered : (graph : Flat) (text : List ℕ) (e : ℕ) → number_of graph.names text ≡ Some e → e < length graph.names
numbered graph text e number = (least-some (length graph.names) _ e number).below

cause_fits : (G : Rules) (M : Marking) (e : ℕ) (told : Cause) → cause G M e ≡ Some told → FitsOutcome G.atoms (outcome_of (Some told))
cause_fits G M e why.Excluded blocked = tt
cause_fits G M e (why.Condition c) blocked = ((cause_is_what_blocks G M e (Some (why.Condition c))).0 blocked).1.has_it.atom
cause_fits G M e (why.Milestone m) blocked = ((cause_is_what_blocks G M e (Some (why.Milestone m))).0 blocked).2.has_it.atom

-- those of the graph
pub walked_fits : (graph : Flat) (texts : List (List ℕ)) (M : Marking) (place : ℕ) → FitsJudged (length graph.names) (walked graph M place texts)
unfolding walked at_number at_cause
walked_fits graph [] M place = by_atom (waits (length graph.names) M) refl
  where
    by_atom : (o : Option ℕ) → waits (length graph.names) M ≡ o → FitsJudged (length graph.names) (verdict_on place o)
    by_atom None e = tt
    by_atom (Some a) e = (least-some (length graph.names) _ a e).below
walked_fits graph (text ∷ texts) M place = by_number (number_of graph.names text) (λ e. walked_fits graph texts (step (rules_of graph) M e) (place + 1))
  where
    by_cause : (e : ℕ) (o : Option Cause) → cause (rules_of graph) M e ≡ o → FitsJudged (length graph.names) (walked graph (step (rules_of graph) M e) (place + 1) texts)
        → FitsJudged (length graph.names) (at_cause place o (walked graph (step (rules_of graph) M e) (place + 1) texts))
    by_cause e None free more = more
    by_cause e (Some why) blocked more = cause_fits (rules_of graph) M e why blocked

    by_number : (o : Option ℕ) → ((e : ℕ) → FitsJudged (length graph.names) (walked graph (step (rules_of graph) M e) (place + 1) texts))
        → FitsJudged (length graph.names) (at_number place o (λ e. at_cause place (cause (rules_of graph) M e) (walked graph (step (rules_of graph) M e) (place + 1) texts)))
    by_number None more = tt
    by_number (Some e) more = by_cause e (cause (rules_of graph) M e) refl (more e)

pub fits_by : (graph : Flat) (M : Marking) (texts : List (List ℕ)) (answer : Judged) → answer ≡ walked graph M 0 texts → FitsJudged (length graph.names) answer
fits_by graph M texts answer e = subst (FitsJudged (length graph.names)) (sym e) (walked_fits graph texts M 0)
