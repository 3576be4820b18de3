-- How worlds go on.
use Rattle.std.proofs.Common.{◌≡◌, ◌⊎◌, ℕ, suc, ◌+◌, ◌<◌, ◌≤◌, Bool, true, false, cond, List, [], ◌∷◌, ◌++◌, length, map, drop, Option, Some, None, inl, inr, refl, sym, ap, subst, ◌∙◌, arith}
use Rattle.std.specs.Prelude.{fold, filter, slice_get, sum_by, if◌then◌else◌, Result, Ok, Err, OnOk, OnErr}
use Rattle.std.proofs.lemmas.Bool.{lt-ltb}
use Rattle.std.proofs.lemmas.List.{drop_all, drop_more, length-append, length-map}
use Rattle.std.proofs.lemmas.List.Sums.{sum_by-cons}
use Rattle.std.proofs.lemmas.Option.{get_or_from_slice_get, slice_get_within}
use Rattle.dcr_set.specs.EventSet.{Set}
use Rattle.dcr_graph.specs.Rules.{Rules}
use Rattle.dcr_graph.specs.declared.marking.Marking.{Marking}
use Rattle.dcr_journal.specs.Run.{numbered, told, told_next}
use Rattle.dcr_journal.specs.declared.call.Call.{Call}
use Rattle.dcr_journal.specs.declared.call.Entry.{Entry}
use Rattle.dcr_wire.specs.declared.message.Message.{Message}
use Rattle.dcr_node.specs.JournalState.{JournalState, asked_by, execution, is_free, with_out, proposed, question, question_of}
use Rattle.dcr_node.specs.Laws.{NothingElseIsTold, ProposesNothing, StayedOrTold, with_told}
use Rattle.dcr_node.specs.Machine.{happens, sending, with_journal}
use Rattle.dcr_node.specs.Right.{IsRight}
use Rattle.dcr_node.specs.WorldState.{WorldState, IsKept}
use Rattle.dcr_node.specs.declared.event.WorldEvent.{WorldEvent}
use Rattle.dcr_node.specs.declared.event.WorldEvent.TheVariants.{Propose}
use Rattle.dcr_node.specs.declared.journal_node.Proposal.{Proposal}
use Rattle.dcr_schedule.specs.Executions.{exec_calls, executions_of, is_exec}
use Rattle.dcr_schedule.specs.Playing.{AreTold, HasTold}

-- ---- what no event changes

pub kept_self : (w : WorldState) → IsKept w w
kept_self w = record { opening = refl; alphabets = refl; sessions = refl; capacity = refl; sites = refl; sent = omega arith }

pub kept_then : (a b c : WorldState) → IsKept a b → IsKept b c → IsKept a c
kept_then a b c first second = record {
  opening = second.opening ∙ first.opening;
  alphabets = second.alphabets ∙ first.alphabets;
  sessions = second.sessions ∙ first.sessions;
  capacity = second.capacity ∙ first.capacity;
  sites = second.sites ∙ first.sites;
  sent = let one = first.sent in let two = second.sent in omega (arith, one, two);
}

-- ---- entries

one_more : (G : Rules) (C : List Set) (M : Marking) (made : List Entry) (asked : ℕ × Call) → length (told_next G C M made asked) ≡ length made + 1
one_more G C M made asked = length-append made _

pub length-fold_told : (G : Rules) (C : List Set) (M : Marking) (asked : List (ℕ × Call)) (made : List Entry)
    → length (fold (told_next G C M) made asked) ≡ length made + length asked
length-fold_told G C M [] made = omega arith
length-fold_told G C M (one ∷ asked) made =
    let more = length-fold_told G C M asked (told_next G C M made one) in let next = one_more G C M made one in omega (arith, more, next)

fold_over : {X Y : Type 0} (f : Y → X → Y) (from : Y) (xs ys : List X) → fold f from (xs ++ ys) ≡ fold f (fold f from xs) ys
fold_over f from [] ys = refl
fold_over f from (x ∷ xs) ys = fold_over f (f from x) xs ys

-- what is at a place and behind it
pub from_there : {X : Type 0} (xs : List X) (i : ℕ) (x : X) → slice_get xs i ≡ Some x → drop i xs ≡ x ∷ drop (i + 1) xs
from_there xs i x e = drop_more xs i x (slice_get_within xs i x e) ∙ ap (λ y. y ∷ drop (i + 1) xs) (get_or_from_slice_get xs i x x e)

-- those of the calls at a place and behind it that are executions
pub exec_there : (calls : List Call) (i : ℕ) (call : Call) → slice_get calls i ≡ Some call
    → filter is_exec (drop i calls) ≡ cond (is_exec call) (call ∷ filter is_exec (drop (i + 1) calls)) (filter is_exec (drop (i + 1) calls))
exec_there calls i call here = ap (filter is_exec) (from_there calls i call here)

-- ---- how many there are

pub count_next : (calls : List Call) (place count after : ℕ) (call : Call) (b : Bool) → slice_get calls place ≡ Some call → b ≡ is_exec call → after ≡ (if b then count + 1 else count)
    → (place ≤ length calls) × (count ≤ place) × (count + length (filter is_exec (drop place calls)) ≡ length (filter is_exec calls))
    → (place + 1 ≤ length calls) × (after ≤ place + 1) × (after + length (filter is_exec (drop (place + 1) calls)) ≡ length (filter is_exec calls))
count_next calls place count after call b here is next so =
    let within = slice_get_within calls place call here in
    let step = ap (λ (xs : List Call). length xs) (exec_there calls place call here
    ∙ ap (λ (c : Bool). cond c (call ∷ filter is_exec (drop (place + 1) calls)) (filter is_exec (drop (place + 1) calls))) (sym is)) in
    go b step next
  where
    go : (c : Bool) → length (filter is_exec (drop place calls)) ≡ length (cond c (call ∷ filter is_exec (drop (place + 1) calls)) (filter is_exec (drop (place + 1) calls)))
        → after ≡ (if c then count + 1 else count) → (place + 1 ≤ length calls) × (after ≤ place + 1) × (after + length (filter is_exec (drop (place + 1) calls)) ≡ length (filter is_exec calls))
    go true step more =
        let within = slice_get_within calls place call here in let most = so.1 in let whole = so.2 in (omega (arith, within), omega (arith, most, more), omega (arith, step, whole, more))
    go false step more =
        let within = slice_get_within calls place call here in let most = so.1 in let whole = so.2 in (omega (arith, within), omega (arith, most, more), omega (arith, step, whole, more))

few_of : (calls : List Call) → length (filter is_exec calls) ≤ length calls
few_of [] = omega arith
few_of (call ∷ calls) = go (is_exec call) (few_of calls)
  where
    go : (b : Bool) → length (filter is_exec calls) ≤ length calls → length (cond b (call ∷ filter is_exec calls) (filter is_exec calls)) ≤ suc (length calls)
    go true less = omega (arith, less)
    go false less = omega (arith, less)

pub few_executions : (session : ℕ) (sessions : List (List Call)) → length (numbered session (exec_calls sessions)) ≤ sum_by length sessions
few_executions session [] = omega arith
few_executions session (calls ∷ sessions) =
    let both = length-append (executions_of session calls) (numbered (session + 1) (exec_calls sessions)) in
    let mine = length-map {B = ℕ × Call} (filter is_exec calls) (λ call. (session, call)) in
    let few = few_of calls in
    let rest = few_executions (session + 1) sessions in
    let sum = sum_by-cons (λ (cs : List Call). length cs) calls sessions in
    omega (arith, both, mine, few, rest, sum)

-- a session's executions are among those that are left
pub first_fits : (sessions : List (List Call)) (k : ℕ) (calls : List Call) → slice_get sessions k ≡ Some calls
    → length (filter is_exec calls) ≤ length (numbered k (exec_calls (drop k sessions)))
first_fits sessions k calls here =
    let left = ap (λ (rest : List (List Call)). length (numbered k (exec_calls rest))) (from_there sessions k calls here) in
    let both = length-append (executions_of k calls) (numbered (k + 1) (exec_calls (drop (k + 1) sessions))) in
    let mine = length-map {B = ℕ × Call} (filter is_exec calls) (λ call. (k, call)) in
    omega (arith, left, both, mine)

-- ---- stayed, or told

pub stayed_then : (G : Rules) (C : List Set) (M : Marking) (a b c : JournalState) → StayedOrTold G C M a b → StayedOrTold G C M b c → StayedOrTold G C M a c
stayed_then G C M a b c (inl same) next = subst (λ (j : JournalState). StayedOrTold G C M j c) same next
stayed_then G C M a b c (inr told) (inl same) = inr (told.0, told.1, same ∙ told.2)
stayed_then G C M a b c (inr told) (inr again) =
    absurd (let none : b.out ≡ None = ap (λ (j : JournalState). j.out) told.2 in let some : b.out ≡ Some again.0 = again.1 in cc)

-- of an event that proposes nothing, whether it happened or memory ran out
pub event_told : NothingElseIsTold → {R E : Type 0} (result : Result R E) (w after : WorldState) (event : WorldEvent) → ProposesNothing event
    → OnOk result ((G : Rules) (C : List Set) (M : Marking) → IsRight G C M w → after ≡ happens G C w event) → OnErr result (after ≡ w)
    → (G : Rules) (C : List Set) (M : Marking) → IsRight G C M w → StayedOrTold G C M w.journal after.journal
event_told law (Ok r) w after event nothing happened refused G C M right =
    subst (λ (x : WorldState). StayedOrTold G C M w.journal x.journal) (sym (happened G C M right)) (law G C M w event right nothing)
event_told law (Err e) w after event nothing happened refused G C M right = inl (ap (λ (x : WorldState). x.journal) refused)

-- what the turns of a network have done
pub record Playing (before now : WorldState) : Type 0 where
  pub kept : IsKept before now
  pub right : (G : Rules) (C : List Set) (M : Marking) → IsRight G C M before → IsRight G C M now
  pub told : (G : Rules) (C : List Set) (M : Marking) → IsRight G C M before → StayedOrTold G C M before.journal now.journal

pub plays_first : (w : WorldState) → Playing w w
plays_first w = record { kept = kept_self w; right = λ G C M it. it; told = λ G C M it. inl refl }

pub plays_next : (before now after : WorldState) → Playing before now → Playing now after → Playing before after
plays_next before now after first second = record {
  kept = kept_then before now after first.kept second.kept;
  right = λ G C M it. second.right G C M (first.right G C M it);
  told = λ G C M it. stayed_then G C M before.journal now.journal after.journal (first.told G C M it) (second.told G C M (first.right G C M it));
}

-- the proposal is out, and the entries are as they were
pub record IsOut (p : Proposal) (before after : JournalState) : Type 0 where
  pub out : after.out ≡ Some p
  pub entries : after.history.entries ≡ before.history.entries

some_is : (q r : Proposal) → Some q ≡ Some r → q ≡ r
some_is q r e = cc

-- what is sent changes nothing of the journal
sending_journal : (w : WorldState) (message : Option Message) → (sending w message).journal ≡ w.journal
sending_journal w None = refl
sending_journal w (Some message) = refl

-- a proposal changes the journal alone
pub proposes : (G : Rules) (C : List Set) (w after : WorldState) (session site event : ℕ) → after ≡ happens G C w (Propose session site event)
    → after.journal ≡ proposed w.journal (execution session site event)
proposes G C w after session site event is =
    let p = execution session site event in
    ap (λ (x : WorldState). x.journal) is ∙ sending_journal (with_journal w (proposed w.journal p)) (question_of w.journal p)

-- what was proposed is out still, or was told
pub proposed_then : (G : Rules) (C : List Set) (M : Marking) (p : Proposal) (before after later : JournalState) → is_free before ≡ true → after ≡ proposed before p
    → StayedOrTold G C M after later → IsOut p before later ⊎ HasTold G C M p before later
proposed_then G C M p before after later free is stayed =
    let there : after ≡ with_out before p = is ∙ ap (λ (b : Bool). cond b (with_out before p) before) free in go there stayed
  where
    go : after ≡ with_out before p → StayedOrTold G C M after later → IsOut p before later ⊎ HasTold G C M p before later
    go there (inl same) = inl (record {
      out = ap (λ (j : JournalState). j.out) (same ∙ there);
      entries = ap (λ (j : JournalState). j.history.entries) (same ∙ there);
    })
    go there (inr told) =
        let mine : Some p ≡ Some told.0 = sym (ap (λ (j : JournalState). j.out) there) ∙ told.1 in
        let one : told.0 ≡ p = some_is told.0 p (sym mine) in
        inr (record {
          entries = ap (λ (j : JournalState). j.history.entries) told.2
              ∙ (ap (λ (q : Proposal). told_next G C M after.history.entries (asked_by q)) one
              ∙ ap (λ (j : JournalState). told_next G C M j.history.entries (asked_by p)) there);
          out = ap (λ (j : JournalState). j.out) told.2;
        })

-- the proposal that is out was told now
pub told_here : (G : Rules) (C : List Set) (M : Marking) (p : Proposal) (before now after : JournalState) → IsOut p before now → after ≡ with_told G C M now p → HasTold G C M p before after
told_here G C M p before now after out is = record {
  entries = ap (λ (j : JournalState). j.history.entries) is ∙ ap (λ (J : List Entry). told_next G C M J (asked_by p)) out.entries;
  out = ap (λ (j : JournalState). j.out) is;
}

-- what is out is asked for
pub asked_for : (j : JournalState) (session site event : ℕ) → j.out ≡ Some (execution session site event) → question j ≡ None → ⊥
asked_for j session site event out none = let e = ap (λ (o : Option Proposal). question (record j { out = o })) out in absurd cc

pub not_asked_for : (j : JournalState) → j.out ≡ None → question j ≡ None
not_asked_for j out = ap (λ (o : Option Proposal). question (record j { out = o })) out

-- ---- one execution after the other

-- what is left to be told from here gives what was to be told from the beginning
pub record GoesOn (G : Rules) (C : List Set) (M : Marking) (all left : List (ℕ × Call)) (before now : JournalState) : Type 0 where
  pub out : now.out ≡ None
  pub rest : fold (told_next G C M) now.history.entries left ≡ fold (told_next G C M) before.history.entries all

abbrev pub MayGoOn : Rules → List Set → Marking → List (ℕ × Call) → List (ℕ × Call) → JournalState → JournalState → Type 0
MayGoOn G C M all left before now =
    before.out ≡ None → length (fold (told_next G C M) before.history.entries all) ≤ before.history.capacity → GoesOn G C M all left before now

pub goes_first : (G : Rules) (C : List Set) (M : Marking) (all : List (ℕ × Call)) (before : JournalState) → MayGoOn G C M all all before before
goes_first G C M all before = λ out room. record { out = out; rest = refl }

-- at the end all is told
pub goes_last : (G : Rules) (C : List Set) (M : Marking) (all left : List (ℕ × Call)) (before now : JournalState) → left ≡ [] → MayGoOn G C M all left before now
    → AreTold G C M all before now
goes_last G C M all left before now empty on = λ out room.
    let it = on out room in
    record { entries = sym (ap (λ (xs : List (ℕ × Call)). fold (told_next G C M) now.history.entries xs) empty) ∙ it.rest; out = it.out }

-- there is room for the next one
room_next : (G : Rules) (C : List Set) (M : Marking) (all : List (ℕ × Call)) (next : ℕ × Call) (left : List (ℕ × Call)) (before now : JournalState)
    → now.history.capacity ≡ before.history.capacity → length (fold (told_next G C M) before.history.entries all) ≤ before.history.capacity
    → GoesOn G C M all (next ∷ left) before now → length now.history.entries < now.history.capacity
room_next G C M all next left before now same room on =
    let whole = length-fold_told G C M (next ∷ left) now.history.entries in
    let both = ap (λ (J : List Entry). length J) on.rest in
    omega (arith, whole, both, same, room)

free_at : (j : JournalState) → j.out ≡ None → length j.history.entries < j.history.capacity → is_free j ≡ true
free_at j out room = ap (λ (o : Option Proposal). is_free (record j { out = o })) out ∙ lt-ltb (length j.history.entries) j.history.capacity room

-- it may be proposed
pub is_free_next : (G : Rules) (C : List Set) (M : Marking) (all : List (ℕ × Call)) (next : ℕ × Call) (left : List (ℕ × Call)) (before now : JournalState)
    → now.history.capacity ≡ before.history.capacity → length (fold (told_next G C M) before.history.entries all) ≤ before.history.capacity
    → GoesOn G C M all (next ∷ left) before now → is_free now ≡ true
is_free_next G C M all next left before now same room on = free_at now on.out (room_next G C M all next left before now same room on)

-- and once it was told, the others are left
pub goes_next : (G : Rules) (C : List Set) (M : Marking) (all : List (ℕ × Call)) (p : Proposal) (left : List (ℕ × Call)) (before now after : JournalState)
    → now.history.capacity ≡ before.history.capacity → (is_free now ≡ true → HasTold G C M p now after)
    → MayGoOn G C M all (asked_by p ∷ left) before now → MayGoOn G C M all left before after
goes_next G C M all p left before now after same told on = λ out room.
    let it = on out room in
    let made = told (is_free_next G C M all (asked_by p) left before now same room it) in
    record { out = made.out; rest = ap (λ (J : List Entry). fold (told_next G C M) J left) made.entries ∙ it.rest }

-- the same of several
pub goes_over : (G : Rules) (C : List Set) (M : Marking) (all some left : List (ℕ × Call)) (before now after : JournalState)
    → now.history.capacity ≡ before.history.capacity → AreTold G C M some now after
    → MayGoOn G C M all (some ++ left) before now → MayGoOn G C M all left before after
goes_over G C M all some left before now after same told on = λ out room.
    let it = on out room in
    let whole = length-fold_told G C M (some ++ left) now.history.entries in
    let many = length-append some left in
    let first = length-fold_told G C M some now.history.entries in
    let both = ap (λ (J : List Entry). length J) it.rest in
    let made = told it.out (omega (arith, whole, many, first, both, same, room)) in
    record {
      out = made.out;
      rest = ap (λ (J : List Entry). fold (told_next G C M) J left) made.entries ∙ (sym (fold_over (told_next G C M) now.history.entries some left) ∙ it.rest);
    }

-- how far the executions of a list were told, of which so many places were gone through, and what stayed meanwhile
pub record Telling (all left : List (ℕ × Call)) (before now : WorldState) : Type 0 where
  pub kept : IsKept before now
  pub right : (G : Rules) (C : List Set) (M : Marking) → IsRight G C M before → IsRight G C M now
  pub goes : (G : Rules) (C : List Set) (M : Marking) → IsRight G C M before → MayGoOn G C M all left before.journal now.journal

pub tells_first : (all : List (ℕ × Call)) (w : WorldState) → Telling all all w w
tells_first all w = record { kept = kept_self w; right = λ G C M it. it; goes = λ G C M it. goes_first G C M all w.journal }

-- an execution at a place was told
pub tells_exec : (all : List (ℕ × Call)) (calls : List Call) (place : ℕ) (p : Proposal) (before now after : WorldState) → slice_get calls place ≡ Some p.call → is_exec p.call ≡ true
    → Telling all (executions_of p.session (drop place calls)) before now → IsKept now after
    → ((G : Rules) (C : List Set) (M : Marking) → IsRight G C M now → IsRight G C M after)
    → ((G : Rules) (C : List Set) (M : Marking) → IsRight G C M now → is_free now.journal ≡ true → HasTold G C M p now.journal after.journal)
    → Telling all (executions_of p.session (drop (place + 1) calls)) before after
tells_exec all calls place p before now after here exec so kept right told = record {
  kept = kept_then before now after so.kept kept;
  right = λ G C M it. right G C M (so.right G C M it);
  goes = λ G C M it.
      goes_next G C M all p (executions_of p.session (drop (place + 1) calls)) before.journal now.journal after.journal so.kept.capacity (told G C M (so.right G C M it))
      (subst (λ left. MayGoOn G C M all left before.journal now.journal) (ap (map (λ call. (p.session, call))) (exec_there calls place p.call here
      ∙ ap (λ (b : Bool). cond b (p.call ∷ filter is_exec (drop (place + 1) calls)) (filter is_exec (drop (place + 1) calls))) exec)) (so.goes G C M it));
}

-- a call that is no execution is passed over
pub tells_other : (all : List (ℕ × Call)) (session : ℕ) (calls : List Call) (place : ℕ) (call : Call) (before now : WorldState) → slice_get calls place ≡ Some call → is_exec call ≡ false
    → Telling all (executions_of session (drop place calls)) before now → Telling all (executions_of session (drop (place + 1) calls)) before now
tells_other all session calls place call before now here other so =
    let same : executions_of session (drop place calls) ≡ executions_of session (drop (place + 1) calls) =
    ap (map (λ c. (session, c))) (exec_there calls place call here
    ∙ ap (λ (b : Bool). cond b (call ∷ filter is_exec (drop (place + 1) calls)) (filter is_exec (drop (place + 1) calls))) other) in
    subst (λ left. Telling all left before now) same so

-- a session's executions were told
pub tells_session : (all : List (ℕ × Call)) (sessions : List (List Call)) (k : ℕ) (calls : List Call) (before now after : WorldState) → slice_get sessions k ≡ Some calls
    → Telling all (numbered k (exec_calls (drop k sessions))) before now → IsKept now after
    → ((G : Rules) (C : List Set) (M : Marking) → IsRight G C M now → IsRight G C M after)
    → ((G : Rules) (C : List Set) (M : Marking) → IsRight G C M now → AreTold G C M (executions_of k calls) now.journal after.journal)
    → Telling all (numbered (k + 1) (exec_calls (drop (k + 1) sessions))) before after
tells_session all sessions k calls before now after here so kept right told = record {
  kept = kept_then before now after so.kept kept;
  right = λ G C M it. right G C M (so.right G C M it);
  goes = λ G C M it.
      goes_over G C M all (executions_of k calls) (numbered (k + 1) (exec_calls (drop (k + 1) sessions))) before.journal now.journal after.journal so.kept.capacity
      (told G C M (so.right G C M it))
      (subst (λ (rest : List (List Call)). MayGoOn G C M all (numbered k (exec_calls rest)) before.journal now.journal) (from_there sessions k calls here) (so.goes G C M it));
}

-- all sessions' were
pub tells_all : (sessions : List (List Call)) (k : ℕ) (before now : WorldState) → length sessions ≤ k → Telling (numbered 0 (exec_calls sessions)) (numbered k (exec_calls (drop k sessions))) before now
    → before.journal.history.entries ≡ [] → before.journal.out ≡ None → length (numbered 0 (exec_calls sessions)) ≤ before.journal.history.capacity
    → (G : Rules) (C : List Set) (M : Marking) → IsRight G C M before → now.journal.history.entries ≡ told G C M (exec_calls sessions)
tells_all sessions k before now past so empty out room G C M it =
    let all = numbered 0 (exec_calls sessions) in
    let none : numbered k (exec_calls (drop k sessions)) ≡ [] = ap (λ (rest : List (List Call)). numbered k (exec_calls rest)) (drop_all k sessions past) in
    let whole = length-fold_told G C M all before.journal.history.entries in
    let nothing = ap (λ (J : List Entry). length J) empty in
    let made = goes_last G C M all (numbered k (exec_calls (drop k sessions))) before.journal now.journal none (so.goes G C M it) out (omega (arith, whole, nothing, room)) in
    made.entries ∙ ap (λ (J : List Entry). fold (told_next G C M) J all) empty

-- and the sites were given what they missed, which leaves the journal
pub whole_told : (sessions : List (List Call)) (k : ℕ) {R E : Type 0} (result : Result R E) (before now after : WorldState) → length sessions ≤ k
    → Telling (numbered 0 (exec_calls sessions)) (numbered k (exec_calls (drop k sessions))) before now
    → before.journal.history.entries ≡ [] → before.journal.out ≡ None → length (numbered 0 (exec_calls sessions)) ≤ before.journal.history.capacity
    → OnOk result ((G : Rules) (C : List Set) (M : Marking) → IsRight G C M now → after.journal ≡ now.journal)
    → OnOk result ((G : Rules) (C : List Set) (M : Marking) → IsRight G C M before → after.journal.history.entries ≡ told G C M (exec_calls sessions))
whole_told sessions k (Err e) before now after past so empty out room stays = tt
whole_told sessions k (Ok r) before now after past so empty out room stays = λ G C M it.
    ap (λ (j : JournalState). j.history.entries) (stays G C M (so.right G C M it)) ∙ tells_all sessions k before now past so empty out room G C M it
