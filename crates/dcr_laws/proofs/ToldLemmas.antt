-- What the told run of sessions holds, and that a run of the graph is answered done.
use Rattle.std.proofs.Common.{◌≡◌, ℕ, zero, suc, ◌+◌, ◌<◌, Bool, true, false, ◌||◌, eqb, List, [], ◌∷◌, ◌++◌, length, map, get_or, None, inl, inr, cond, refl, sym, ap, subst, ◌∙◌, append_assoc, arith}
use Rattle.std.specs.List.{All, fold, filter}
use Rattle.std.proofs.lemmas.Bool.{cases_lt, eq-eqb, ne_eqb, false≢true}
use Rattle.std.proofs.lemmas.List.{append-nil, get_or_past, map-append}
use Rattle.std.proofs.lemmas.List.Elements.{filter-append, All-nil, All-cons, All-head, All-tail, All-append, All-map, All-push}
use Rattle.std.proofs.lemmas.List.Sums.{fold_push}
use Rattle.dcr_set.specs.EventSet.{Set, has}
use Rattle.dcr_set.proofs.SetLemmas.{has_past, length-those}
use Rattle.dcr_graph.specs.Rules.{Rules}
use Rattle.dcr_graph.specs.Rows.{row}
use Rattle.dcr_graph.specs.Cause.{cause}
use Rattle.dcr_graph.specs.Step.{step}
use Rattle.dcr_graph.specs.declared.marking.Marking.{Marking}
use Rattle.dcr_graph.proofs.CauseLemmas.{cause_is_what_blocks}
use Rattle.dcr_proj.specs.CoverValue.{is_owned, IsCovered}
use Rattle.dcr_journal.specs.Answer.{answer, outcome_of}
use Rattle.dcr_journal.specs.Run.{IsInRange, IsSound, stepped_by, after, calls_of, numbered, told_next, told}
use Rattle.dcr_journal.specs.declared.call.Call.{Call}
use Rattle.dcr_journal.specs.declared.call.Call.TheVariants.{Exec}
use Rattle.dcr_journal.specs.declared.call.Outcome.TheVariants.{Done, NotHere}
use Rattle.dcr_journal.specs.declared.call.Entry.{Entry}
use Rattle.dcr_journal.proofs.SoundLemmas.{sound_none, sound_more}
use Rattle.dcr_laws.specs.Laws.{ToldHasEachCall, ToldHasNoOtherSession, ToldIsSound, IsRun, Spell, calls_for, ARunIsDone, ARunIsOfAtoms, EachRunIsSpelled}

-- what was asked by an entry
abbrev asked_by : Entry → ℕ × Call
asked_by entry = (entry.session, entry.call)

-- the calls of a session among those asked
abbrev calls_among : ℕ → List (ℕ × Call) → List Call
calls_among k asked = map (λ (a : ℕ × Call). a.1) (filter (λ (a : ℕ × Call). eqb a.0 k) asked)

-- what was asked stands in the entries, in order
asked-told : (G : Rules) (C : List Set) (M : Marking) (asked : List (ℕ × Call)) (J : List Entry)
    → map asked_by (fold (told_next G C M) J asked) ≡ map asked_by J ++ asked
asked-told G C M [] J = sym (append-nil (map asked_by J))
asked-told G C M (a ∷ asked) J =
    asked-told G C M asked (told_next G C M J a)
    ∙ ap (λ xs. xs ++ asked) (map-append asked_by J _)
    ∙ append_assoc (map asked_by J) (a ∷ []) asked

kept : (b : Bool) (entry : Entry) (es : List Entry) (asked : List (ℕ × Call)) → map (λ (x : Entry). x.call) es ≡ map (λ (a : ℕ × Call). a.1) asked
    → map (λ (x : Entry). x.call) (cond b (entry ∷ es) es) ≡ map (λ (a : ℕ × Call). a.1) (cond b (asked_by entry ∷ asked) asked)
kept true entry es as_ same = ap (λ cs. entry.call ∷ cs) same
kept false entry es as_ same = same

calls_of-asked : (k : ℕ) (J : List Entry) → calls_of k J ≡ calls_among k (map asked_by J)
calls_of-asked k [] = refl
calls_of-asked k (entry ∷ J) =
    kept (eqb entry.session k) entry (filter (λ (x : Entry). eqb x.session k) J) (filter (λ (a : ℕ × Call). eqb a.0 k) (map asked_by J)) (calls_of-asked k J)

calls_among-append : (k : ℕ) (xs ys : List (ℕ × Call)) → calls_among k (xs ++ ys) ≡ calls_among k xs ++ calls_among k ys
calls_among-append k xs ys =
    ap (λ zs. map (λ (a : ℕ × Call). a.1) zs) (filter-append (λ (a : ℕ × Call). eqb a.0 k) xs ys)
    ∙ map-append (λ (a : ℕ × Call). a.1) (filter (λ (a : ℕ × Call). eqb a.0 k) xs) (filter (λ (a : ℕ × Call). eqb a.0 k) ys)

-- the calls of one session: all where it is that session, else none
calls_among-own : (k s : ℕ) → eqb s k ≡ true → (calls : List Call) → calls_among k (map (λ call. (s, call)) calls) ≡ calls
calls_among-own k s same [] = refl
calls_among-own k s same (call ∷ calls) =
    let rest = filter (λ (a : ℕ × Call). eqb a.0 k) (map (λ c. (s, c)) calls) in
    ap (λ b. map (λ (a : ℕ × Call). a.1) (cond b ((s, call) ∷ rest) rest)) same ∙ ap (λ cs. call ∷ cs) (calls_among-own k s same calls)

calls_among-other : (k s : ℕ) → eqb s k ≡ false → (calls : List Call) → calls_among k (map (λ call. (s, call)) calls) ≡ []
calls_among-other k s other [] = refl
calls_among-other k s other (call ∷ calls) =
    let rest = filter (λ (a : ℕ × Call). eqb a.0 k) (map (λ c. (s, c)) calls) in
    ap (λ b. map (λ (a : ℕ × Call). a.1) (cond b ((s, call) ∷ rest) rest)) other ∙ calls_among-other k s other calls

-- sessions from s on have no call of a session before s
calls_among-before : (k s : ℕ) → k < s → (sessions : List (List Call)) → calls_among k (numbered s sessions) ≡ []
calls_among-before k s before [] = refl
calls_among-before k s before (calls ∷ sessions) =
    calls_among-append k (map (λ call. (s, call)) calls) (numbered (s + 1) sessions)
    ∙ ap (λ cs. cs ++ calls_among k (numbered (s + 1) sessions)) (calls_among-other k s (ne_eqb s k (λ same. absurd (omega arith))) calls)
    ∙ calls_among-before k (s + 1) (omega arith) sessions

calls_among-numbered : (sessions : List (List Call)) (s j k : ℕ) → k ≡ s + j → calls_among k (numbered s sessions) ≡ get_or sessions j []
calls_among-numbered [] s j k e = refl
calls_among-numbered (calls ∷ sessions) s zero k e =
    calls_among-append k (map (λ call. (s, call)) calls) (numbered (s + 1) sessions)
    ∙ ap (λ cs. cs ++ calls_among k (numbered (s + 1) sessions)) (calls_among-own k s (eq-eqb s k (omega arith)) calls)
    ∙ ap (λ cs. calls ++ cs) (calls_among-before k (s + 1) (omega arith) sessions)
    ∙ append-nil calls
calls_among-numbered (calls ∷ sessions) s (suc j) k e =
    calls_among-append k (map (λ call. (s, call)) calls) (numbered (s + 1) sessions)
    ∙ ap (λ cs. cs ++ calls_among k (numbered (s + 1) sessions)) (calls_among-other k s (ne_eqb s k (λ same. absurd (omega arith))) calls)
    ∙ calls_among-numbered sessions (s + 1) j k (omega arith)

pub told_has_each_call_lem : ToldHasEachCall
told_has_each_call_lem G C M sessions k =
    calls_of-asked k (told G C M sessions)
    ∙ ap (λ asked. calls_among k asked) (asked-told G C M (numbered 0 sessions) [])
    ∙ calls_among-numbered sessions 0 k k (omega arith)

-- what holds of all that is asked holds of all entries
told_all : (P : ℕ → Type 0) (G : Rules) (C : List Set) (M : Marking) (asked : List (ℕ × Call)) (J : List Entry)
    → All (λ (entry : Entry). P entry.session) J → All (λ (a : ℕ × Call). P a.0) asked → All (λ (entry : Entry). P entry.session) (fold (told_next G C M) J asked)
told_all P G C M [] J before here = before
told_all P G C M (a ∷ asked) J before here =
    told_all P G C M asked (told_next G C M J a)
    (All-push (λ (entry : Entry). P entry.session) J _ before (All-head (λ (x : ℕ × Call). P x.0) a asked here))
    (All-tail (λ (x : ℕ × Call). P x.0) a asked here)

all_of : (P : ℕ → Type 0) (s : ℕ) → P s → (calls : List Call) → All (λ (a : ℕ × Call). P a.0) (map (λ call. (s, call)) calls)
all_of P s holds [] = All-nil (λ (a : ℕ × Call). P a.0)
all_of P s holds (call ∷ calls) = All-cons (λ (a : ℕ × Call). P a.0) (s, call) (map (λ c. (s, c)) calls) holds (all_of P s holds calls)

numbered_below : (n s : ℕ) (sessions : List (List Call)) → n ≡ s + length sessions → All (λ (a : ℕ × Call). a.0 < n) (numbered s sessions)
numbered_below n s [] e = All-nil (λ (a : ℕ × Call). a.0 < n)
numbered_below n s (calls ∷ sessions) e =
    All-append (λ (a : ℕ × Call). a.0 < n) (map (λ call. (s, call)) calls) (numbered (s + 1) sessions)
    (all_of (λ k. k < n) s (omega arith) calls) (numbered_below n (s + 1) sessions (omega arith))

pub told_has_no_other_session : ToldHasNoOtherSession
told_has_no_other_session G C M sessions =
    told_all (λ k. k < length sessions) G C M (numbered 0 sessions) [] (All-nil (λ (entry : Entry). entry.session < length sessions)) (numbered_below (length sessions) 0 sessions (omega arith))

-- ---- the told run is sound

-- the calls of the sessions are in range where the sessions are
numbered_within : (sites atoms session : ℕ) (sessions : List (List Call)) → All (λ (calls : List Call). All (IsInRange sites atoms) calls) sessions
    → All (λ (a : ℕ × Call). IsInRange sites atoms a.1) (numbered session sessions)
numbered_within sites atoms session [] within = All-nil (λ (a : ℕ × Call). IsInRange sites atoms a.1)
numbered_within sites atoms session (calls ∷ sessions) within =
    let P : ℕ × Call → Type 0 = λ a. IsInRange sites atoms a.1 in
    let Q : List Call → Type 0 = λ c. All (IsInRange sites atoms) c in
    All-append P (map (λ call. (session, call)) calls) (numbered (session + 1) sessions)
    (All-map P (λ call. (session, call)) calls (All-head Q calls sessions within)) (numbered_within sites atoms (session + 1) sessions (All-tail Q calls sessions within))

-- each call more is answered
sound_from : (G : Rules) (C : List Set) (M : Marking) (asked : List (ℕ × Call)) (J : List Entry) → All (λ (a : ℕ × Call). IsInRange (length C) G.atoms a.1) asked
    → IsSound G C M J → IsSound G C M (fold (told_next G C M) J asked)
sound_from G C M [] J in_range before = before
sound_from G C M (a ∷ asked) J in_range before =
    sound_from G C M asked (told_next G C M J a) (All-tail (λ (x : ℕ × Call). IsInRange (length C) G.atoms x.1) a asked in_range)
    (sound_more G C M J before _ (All-head (λ (x : ℕ × Call). IsInRange (length C) G.atoms x.1) a asked in_range) refl refl)

pub told_is_sound : ToldIsSound
told_is_sound G C M sessions in_range =
    sound_from G C M (numbered 0 sessions) [] (numbered_within (length C) G.atoms 0 sessions in_range) (sound_none G C M)

-- ---- runs

-- an owned event without a cause is done
answer_done : (G : Rules) (C : List Set) (N : Marking) (site event : ℕ) → has (row C site) event ≡ true → cause G N event ≡ None → answer G C N (Exec site event) ≡ Done
answer_done G C N site event owned free = ap (λ b. cond b (outcome_of (cause G N event)) NotHere) owned ∙ ap outcome_of free

done_from : (G : Rules) (C : List Set) (M : Marking) (executions : List (ℕ × ℕ)) (J : List Entry) → All (λ (entry : Entry). entry.outcome ≡ Done) J
    → IsRun G (after G M J) (map (λ (x : ℕ × ℕ). x.1) executions) → All (λ (x : ℕ × ℕ). has (row C x.0) x.1 ≡ true) executions
    → All (λ (entry : Entry). entry.outcome ≡ Done) (fold (told_next G C M) J (map (λ call. (0, call)) (calls_for executions)))
done_from G C M [] J before run owned = before
done_from G C M ((site, event) ∷ executions) J before run owned =
    let N = after G M J in
    let done = answer_done G C N site event (All-head (λ (x : ℕ × ℕ). has (row C x.0) x.1 ≡ true) (site, event) executions owned) run.0 in
    let stepped : step G N event ≡ after G M (told_next G C M J (0, Exec site event)) =
    sym (fold_push (λ X (x : Entry). stepped_by G X x.call x.outcome) M J _ ∙ ap (λ o. stepped_by G N (Exec site event) o) done) in
    done_from G C M executions (told_next G C M J (0, Exec site event))
    (All-push (λ (entry : Entry). entry.outcome ≡ Done) J _ before done)
    (let P : Marking → Type 0 = λ X. IsRun G X (map (λ (x : ℕ × ℕ). x.1) executions) in subst P stepped run.1)
    (All-tail (λ (x : ℕ × ℕ). has (row C x.0) x.1 ≡ true) (site, event) executions owned)

pub a_run_is_done_lem : ARunIsDone
a_run_is_done_lem G C M events executions run spell =
    let P : List (ℕ × Call) → Type 0 = λ asked. All (λ (entry : Entry). entry.outcome ≡ Done) (fold (told_next G C M) [] asked) in
    let R : List ℕ → Type 0 = λ es. IsRun G M es in
    subst P (sym (append-nil (map (λ call. (0, call)) (calls_for executions))))
    (done_from G C M executions [] (All-nil (λ (entry : Entry). entry.outcome ≡ Done)) (subst R (sym spell.events) run) spell.owned)

-- a site that owns an atom: the first, or one of the others
owner_here : (S : Set) (C : List Set) (e : ℕ) (first : Bool) → has S e ≡ first → (first || is_owned C e) ≡ true
    → (is_owned C e ≡ true → (site : ℕ) × (has (row C site) e ≡ true)) → (site : ℕ) × (has (row (S ∷ C) site) e ≡ true)
owner_here S C e true here owned later = (0, here)
owner_here S C e false here owned later = let other = later owned in (suc other.0, other.1)

owner : (C : List Set) (e : ℕ) → is_owned C e ≡ true → (site : ℕ) × (has (row C site) e ≡ true)
owner [] e owned = absurd (false≢true owned)
owner (S ∷ C) e owned = owner_here S C e (has S e) refl owned (owner C e)

each_list_is_spelled : (G : Rules) (C : List Set) (events : List ℕ) → IsCovered G.atoms C → All (λ e. e < G.atoms) events → (executions : List (ℕ × ℕ)) × Spell C events executions
each_list_is_spelled G C [] covered atoms = ([], record { events = refl; owned = All-nil (λ (x : ℕ × ℕ). has (row C x.0) x.1 ≡ true) })
each_list_is_spelled G C (e ∷ events) covered atoms =
    let site = owner C e (covered e (All-head (λ a. a < G.atoms) e events atoms)) in
    let rest = each_list_is_spelled G C events covered (All-tail (λ a. a < G.atoms) e events atoms) in (
      (site.0, e) ∷ rest.0,
      record {
        events = ap (λ es. e ∷ es) rest.1.events;
        owned = All-cons (λ (x : ℕ × ℕ). has (row C x.0) x.1 ≡ true) (site.0, e) rest.0 site.1 rest.1.owned;
      },
    )

-- a member is below the room
member_below : (s : Set) (n e : ℕ) → length s ≡ n → has s e ≡ true → e < n
member_below s n e room member = elim (cases_lt e (length s)) [ inl below ↦ omega arith | inr past ↦ absurd (false≢true (sym (has_past s e past) ∙ member)) ]

-- an event that isn't included is excluded, so the events of a run are atoms
pub a_run_is_of_atoms : ARunIsOfAtoms
a_run_is_of_atoms G M [] room run = All-nil (λ e. e < G.atoms)
a_run_is_of_atoms G M (e ∷ events) room run =
    All-cons (λ a. a < G.atoms) e events
    (member_below M.included G.atoms e room.included ((cause_is_what_blocks G M e None).0 run.0).0)
    (a_run_is_of_atoms G (step G M e) events (record { executed = length-those G.atoms _; pending = length-those G.atoms _; included = length-those G.atoms _ }) run.1)

-- a site that owns an event is one of the sites
site_below : (C : List Set) (site e : ℕ) → has (row C site) e ≡ true → site < length C
site_below C site e owned = elim (cases_lt site (length C)) [
  | inl below ↦ below
  | inr past ↦ absurd (false≢true (sym (ap (λ s. has s e) (get_or_past C site [] past) ∙ has_past [] e (omega arith)) ∙ owned))
]

spelled_in_range : (G : Rules) (C : List Set) (executions : List (ℕ × ℕ)) → All (λ (x : ℕ × ℕ). has (row C x.0) x.1 ≡ true) executions
    → All (λ e. e < G.atoms) (map (λ (x : ℕ × ℕ). x.1) executions) → All (IsInRange (length C) G.atoms) (calls_for executions)
spelled_in_range G C [] owned atoms = All-nil (IsInRange (length C) G.atoms)
spelled_in_range G C ((site, e) ∷ executions) owned atoms =
    let Owned : ℕ × ℕ → Type 0 = λ x. has (row C x.0) x.1 ≡ true in
    let events = map (λ (x : ℕ × ℕ). x.1) executions in
    All-cons (IsInRange (length C) G.atoms) (Exec site e) (calls_for executions)
    (site_below C site e (All-head Owned (site, e) executions owned), All-head (λ a. a < G.atoms) e events atoms)
    (spelled_in_range G C executions (All-tail Owned (site, e) executions owned) (All-tail (λ a. a < G.atoms) e events atoms))

pub each_run_is_spelled : EachRunIsSpelled
each_run_is_spelled G C M events covered room run =
    let atoms = a_run_is_of_atoms G M events room run in
    let spelled = each_list_is_spelled G C events covered atoms in
    let Atoms : List ℕ → Type 0 = λ es. All (λ e. e < G.atoms) es in
    (spelled.0, spelled.1, spelled_in_range G C spelled.0 spelled.1.owned (subst Atoms (sym spelled.1.events) atoms))
