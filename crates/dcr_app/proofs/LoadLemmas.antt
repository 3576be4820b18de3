-- What `load` tells.
use Rattle.std.proofs.Common.{◌≡◌, ℕ, suc, ◌+◌, Bool, true, false, cond, not, List, [], ◌∷◌, length, map, drop, Option, Some, None, inr, refl, sym, ap, subst, ◌∙◌, arith}
use Rattle.std.specs.Prelude.{count_by, fold, slice_get, sum_by}
use Rattle.std.proofs.lemmas.List.{length-append, length-map}
use Rattle.std.proofs.lemmas.List.Sums.{sum_by-cons}
use Rattle.dcr_base.specs.Disk.{DiskView}
use Rattle.dcr_base.specs.Side.{Side}
use Rattle.dcr_base.specs.declared.status.Status.{Status}
use Rattle.dcr_base.specs.declared.status.Status.TheVariants.{Done}
use Rattle.dcr_graph.specs.Cause.{waits}
use Rattle.dcr_graph.specs.GraphValue.{rules_of}
use Rattle.dcr_graph.specs.Rules.{Rules}
use Rattle.dcr_graph.specs.declared.marking.Marking.{Marking}
use Rattle.dcr_set.specs.EventSet.{Set}
use Rattle.dcr_journal.specs.Run.{after, marks_at, numbered, told, told_next}
use Rattle.dcr_journal.specs.declared.call.Call.{Call}
use Rattle.dcr_journal.specs.declared.call.Entry.{Entry}
use Rattle.dcr_journal.specs.declared.closed.Closed.{Closed}
use Rattle.dcr_json.specs.Built.{IsCase, case_of}
use Rattle.dcr_json.specs.Written.{Spelled}
use Rattle.dcr_json.specs.declared.case.Case.{Case}
use Rattle.dcr_replay.specs.EntryLines.{is_done}
use Rattle.dcr_report.proofs.Passing.{drop_at_get}
use Rattle.dcr_load.specs.Load.{load}
use Rattle.dcr_app.specs.Adapted.{RanAlone}
use Rattle.dcr_app.specs.Answers.{IsOr}
use Rattle.dcr_app.specs.Headline.{rules_in}
use Rattle.dcr_app.specs.Loaded.{AnswersLoad, TellsLoad, count_done, load_line}
use Rattle.dcr_app.specs.Outside.{Wrote}
use Rattle.dcr_app.specs.Telling.{atoms_in}
use Rattle.dcr_app.specs.declared.command.Command.TheVariants.{Load}
use Rattle.dcr_app.proofs.OutsideLemmas.{IsEnded, ended_starved, ended_with}
use Rattle.dcr_app.proofs.SaysLemmas.{SaysAt}

-- ---- how many entries there are

length-next : (G : Rules) (C : List Set) (M : Marking) (made : List Entry) (asked : ℕ × Call) → length (told_next G C M made asked) ≡ length made + 1
length-next G C M made asked = length-append made _

length-fold_told : (G : Rules) (C : List Set) (M : Marking) (asked : List (ℕ × Call)) (made : List Entry) → length (fold (told_next G C M) made asked) ≡ length made + length asked
length-fold_told G C M [] made = omega arith
length-fold_told G C M (one ∷ asked) made =
    let more = length-fold_told G C M asked (told_next G C M made one) in let next = length-next G C M made one in omega (arith, more, next)

length-numbered : (session : ℕ) (sessions : List (List Call)) → length (numbered session sessions) ≡ sum_by length sessions
length-numbered session [] = refl
length-numbered session (calls ∷ sessions) =
    length-append (map (λ call. (session, call)) calls) (numbered (session + 1) sessions)
    ∙ ap (λ n. n + length (numbered (session + 1) sessions)) (length-map calls (λ call. (session, call)))
    ∙ ap (λ n. length calls + n) (length-numbered (session + 1) sessions)
    ∙ sym (sum_by-cons length calls sessions)

-- the told run has as many entries as the sessions have calls
length-told : (G : Rules) (C : List Set) (M : Marking) (sessions : List (List Call)) → length (told G C M sessions) ≡ sum_by length sessions
length-told G C M sessions = let all = length-fold_told G C M (numbered 0 sessions) [] in let calls = length-numbered 0 sessions in omega (arith, all, calls)

-- ---- the entries that pass and those that don't

pub all_counted : {A : Type 0} (p : A → Bool) (xs : List A) → count_by p xs + count_by (λ x. not (p x)) xs ≡ length xs
all_counted p [] = refl
all_counted p (x ∷ xs) =
    let here = sum_by-cons (λ y. cond (p y) 1 0) x xs in let there = sum_by-cons (λ y. cond (not (p y)) 1 0) x xs in let rest = all_counted p xs in
    both (p x) here there rest
  where
    both : (b : Bool) → count_by p (x ∷ xs) ≡ cond b 1 0 + count_by p xs → count_by (λ y. not (p y)) (x ∷ xs) ≡ cond (not b) 1 0 + count_by (λ y. not (p y)) xs
        → count_by p xs + count_by (λ y. not (p y)) xs ≡ length xs → count_by p (x ∷ xs) + count_by (λ y. not (p y)) (x ∷ xs) ≡ suc (length xs)
    both true here there rest = omega (arith, here, there, rest)
    both false here there rest = omega (arith, here, there, rest)

-- what is still to be counted is the next one and what comes behind it
pub counted_next : (J : List Entry) (place : ℕ) (entry : Entry) → slice_get J place ≡ Some entry → count_done (drop place J) ≡ cond (is_done entry.outcome) 1 0 + count_done (drop (place + 1) J)
counted_next J place entry here =
    let done : Entry → Bool = λ x. is_done x.outcome in
    ap (count_by done) (drop_at_get J place entry here) ∙ sum_by-cons (λ x. cond (done x) 1 0) entry (drop (place + 1) J)

-- ---- the run

-- each session has 20,000 calls together with the others
abbrev pub HaveAllCalls : Type 0
HaveAllCalls = (number : ℕ) → sum_by length (load number).sessions ≡ 20000

pub tells_load : HaveAllCalls → (number : ℕ) (case : Case) (closed : Closed) (had took : Side) (status : Status) → IsCase case → case_of case ≡ load number
    → RanAlone case.graph case.cover.owned case.opening case.sessions closed → Wrote Done (load_line number case.graph.names closed.history.entries closed.waits) status had took
    → TellsLoad number had took status closed
tells_load all number case closed had took status fits is ran wrote =
    let J = closed.history.entries in let C = case.cover.owned in let M = case.opening in let sessions = case.sessions in
    let history = ran.history ∙ ap (λ (R : Rules). told R C M sessions) fits.flat.related in
    let told_it = subst (λ (c : Spelled). J ≡ told (rules_in c) c.cover.owned c.opening c.sessions) is history in
    let end = ap (λ (N : Marking). after (rules_of case.graph) N J) ran.opening in
    let marks = ran.run.marks ∙ (ap (λ (N : Marking). marks_at (rules_of case.graph) C N) end ∙ ap (λ (R : Rules). marks_at R C (after R M J)) fits.flat.related) in
    let waited = ran.run.waits ∙ (ap (λ (N : Marking). waits (length case.graph.names) N) end ∙ ap (λ (R : Rules). waits R.atoms (after R M J)) fits.flat.related) in
    record {
      opening = ran.opening ∙ ap (λ (c : Spelled). c.opening) is;
      history = told_it;
      entries = ap (λ (K : List Entry). length K) told_it ∙ length-told (rules_in (load number)) (load number).cover.owned (load number).opening (load number).sessions ∙ all number;
      marks = subst (λ (c : Spelled). closed.marks ≡ marks_at (rules_in c) c.cover.owned (after (rules_in c) c.opening J)) is marks;
      waits = subst (λ (c : Spelled). closed.waits ≡ waits (rules_in c).atoms (after (rules_in c) c.opening J)) is waited;
      wrote = subst (λ (c : Spelled). Wrote Done (load_line number (atoms_in c) J closed.waits) status had took) is
          (subst (λ (names : List (List ℕ)). Wrote Done (load_line number names J closed.waits) status had took) fits.flat.names wrote);
    }

-- ---- how it ended

pub load_ended : (number : ℕ) (before after : DiskView) (left : Option (List ℕ)) (had took : Side) (status : Status) (closed_run : Option Closed) → AnswersLoad number had took status closed_run
    → IsEnded ⊥ (SaysAt (Some (Load number)) before after left had took closed_run) (IsOr Done status) status had took
load_ended number before after left had took status None it = ended_starved ⊥ (SaysAt (Some (Load number)) before after left had took None) (IsOr Done status) tt it (inr it.0)
load_ended number before after left had took status (Some closed) it =
    ended_with ⊥ (SaysAt (Some (Load number)) before after left had took (Some closed)) (IsOr Done status) tt tt tt it.wrote (λ adds. tt) (λ _ _ or. or)
