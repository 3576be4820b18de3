-- The calls of one session, call by call.
use Rattle.std.proofs.Common.{inl, inr, ◌≡◌, ℕ, ◌+◌, ◌<◌, ◌≤◌, Bool, true, false, eqb, cond, List, [], ◌∷◌, ◌++◌, length, get_or, map, take, Some, refl, sym, ap, subst, ◌∙◌, append_assoc, arith}
use Rattle.std.specs.Prelude.{Option, None, filter, slice_get}
use Rattle.std.specs.Option.{IsSome, option_copied}
use denote.Ref.{Bor}
use Rattle.std.specs.List.{All}
use Rattle.std.proofs.lemmas.Bool.{ne_eqb}
use Rattle.std.proofs.lemmas.Option.{slice_get_within, slice_get_cases, get_or_from_slice_get}
use Rattle.std.proofs.lemmas.List.{append-nil, map-append, take_all, take_more}
use Rattle.std.proofs.lemmas.List.Elements.{All-get_or, All-head, All-tail, filter-append}
use Rattle.dcr_journal.specs.Run.{calls_of}
use Rattle.dcr_journal.specs.declared.call.Call.{Call}
use Rattle.dcr_journal.specs.declared.call.Entry.{Entry}
use Rattle.dcr_journal.specs.declared.call.Outcome.{Outcome}
use Rattle.dcr_tape.specs.declared.tape.Store.{Store}
use Rattle.dcr_turn.specs.Covers.{is_by}
use Rattle.dcr_turn.specs.PassValue.{PassValue, HasMadeAll}
use Rattle.dcr_turn.specs.Pushing.{entry_of}
use Rattle.dcr_cell.specs.ClusterId.{ClusterId, IsCall, IsRunOf}
use Rattle.dcr_cluster.specs.Calls.{AnsweredAfter, HaltedAfter, Shows}
use Rattle.dcr_cluster.specs.declared.halt.Halt.{Halt}
use Rattle.dcr_work.specs.Working.{BeganWith, HasWorked}

pub call_at : (c : ClusterId) (calls : List Call) (i : ℕ) (call : Call) → All (IsCall c) calls → slice_get calls i ≡ Some call → IsCall c call
call_at c calls i call all here =
    subst (IsCall c) (get_or_from_slice_get calls i call call here) (All-get_or (IsCall c) calls i call (slice_get_within calls i call here) all)

pub get_there : {X : Type 0} (xs : List X) (i : ℕ) (got : Option (Bor X)) → i < length xs → option_copied got ≡ slice_get xs i → IsSome got
get_there xs i (Some x) within here = search
get_there xs i None within here =
    elim (slice_get_cases xs i).1 [
      | inl there ↦ (let same : None ≡ Some there.0 = here ∙ there.2 in absurd (grind arith))
      | inr past ↦ absurd (let far = past.0 in omega arith)
    ]

-- entries of which none is the session's have no call of it
calls_none : (s : ℕ) (J : List Entry) → All (λ entry. is_by s entry ≡ false) J → calls_of s J ≡ []
calls_none s [] none = refl
calls_none s (entry ∷ J) none =
    let first : is_by s entry ≡ false = All-head (λ (x : Entry). is_by s x ≡ false) entry J none in
    ap (λ (b : Bool). map (λ (x : Entry). x.call) (cond b (entry ∷ filter (is_by s) J) (filter (is_by s) J))) first
    ∙ calls_none s J (All-tail (λ (x : Entry). is_by s x ≡ false) entry J none)

calls-append : (s : ℕ) (J K : List Entry) → calls_of s (J ++ K) ≡ calls_of s J ++ calls_of s K
calls-append s J K = ap (map (λ (x : Entry). x.call)) (filter-append (is_by s) J K) ∙ map-append (λ (x : Entry). x.call) (filter (is_by s) J) (filter (is_by s) K)

eqb_same : (s : ℕ) → eqb s s ≡ true
eqb_same s = grind arith

calls_one : (pass : PassValue) (call : Call) (outcome : Outcome) → calls_of pass.session (entry_of pass call outcome ∷ []) ≡ call ∷ []
calls_one pass call outcome =
    ap (λ (b : Bool). map (λ (x : Entry). x.call) (cond b (entry_of pass call outcome ∷ []) [])) (eqb_same pass.session)

-- the first i calls were made, after the entries that the pass had seen before
pub record SoFar (c : ClusterId) (calls : List Call) (before : PassValue) (i : ℕ) (pass : PassValue) : Type 0 where
  pub session : pass.session ≡ before.session
  pub made : pass.made ≡ i
  pub in_order : calls_of before.session pass.front ≡ take i calls
  pub legal : IsRunOf c pass.front
  pub began : BeganWith before.front pass

pub so_far_first : (c : ClusterId) (calls : List Call) (before : PassValue) → before.made ≡ 0 → IsRunOf c before.front → All (λ entry. is_by before.session entry ≡ false) before.front
    → SoFar c calls before 0 before
so_far_first c calls before made legal none = record {
  session = refl;
  made = made;
  in_order = calls_none before.session before.front none;
  legal = legal;
  began = record { rest = []; whole = append-nil before.front; none_before = none };
}

-- what was seen since, with this much more
began_more : (J : List Entry) (pass after : PassValue) (more : List Entry) → after.session ≡ pass.session → pass.front ++ more ≡ after.front → BeganWith J pass → BeganWith J after
began_more J pass after more same whole began = record {
  rest = began.rest ++ more;
  whole = sym (append_assoc J began.rest more) ∙ ap (λ (K : List Entry). K ++ more) began.whole ∙ whole;
  none_before = subst (λ (s : ℕ). All (λ entry. is_by s entry ≡ false) J) (sym same) began.none_before;
}

-- the session's calls are the same where entries of others come after
calls_seen : (pass : PassValue) (J : List Entry) → HasMadeAll pass J → calls_of pass.session J ≡ calls_of pass.session pass.front
calls_seen pass J all =
    ap (calls_of pass.session) (sym all.seen.whole)
    ∙ calls-append pass.session pass.front all.seen.rest
    ∙ ap (λ (calls : List Call). calls_of pass.session pass.front ++ calls) (calls_none pass.session all.seen.rest all.seen.spared)
    ∙ append-nil (calls_of pass.session pass.front)

pub so_far_next : {D : Type 0} (c : ClusterId) (first : Option (Store D)) (capacity : ℕ) (calls : List Call) (before : PassValue) (i : ℕ) (pass after : PassValue) (call : Call) (outcome : Outcome) (J : List Entry)
    → SoFar c calls before i pass → slice_get calls i ≡ Some call → AnsweredAfter c first capacity J pass after call outcome → SoFar c calls before (i + 1) after
so_far_next c first capacity calls before i pass after call outcome J so here answered =
    let entry : Entry = entry_of pass call outcome in
    let seen : calls_of pass.session J ≡ take i calls =
    calls_seen pass J answered.seen ∙ ap (λ (s : ℕ). calls_of s pass.front) so.session ∙ so.in_order in
    let grown : calls_of pass.session after.front ≡ take (i + 1) calls =
    ap (calls_of pass.session) answered.front
    ∙ calls-append pass.session J (entry ∷ [])
    ∙ ap (λ (cs : List Call). cs ++ calls_of pass.session (entry ∷ [])) seen
    ∙ ap (λ (cs : List Call). take i calls ++ cs) (calls_one pass call outcome)
    ∙ ap (λ (x : Call). take i calls ++ x ∷ []) (sym (get_or_from_slice_get calls i call call here))
    ∙ sym (take_more calls i call (slice_get_within calls i call here)) in
    record {
      session = answered.session ∙ so.session;
      made = answered.made ∙ ap (λ (n : ℕ). n + 1) so.made;
      in_order = ap (λ (s : ℕ). calls_of s after.front) (sym so.session) ∙ grown;
      legal = answered.legal;
      began = began_more before.front pass after (answered.seen.seen.rest ++ entry ∷ []) answered.session
          (sym (append_assoc pass.front answered.seen.seen.rest (entry ∷ [])) ∙ ap (λ (K : List Entry). K ++ entry ∷ []) answered.seen.seen.whole ∙ sym answered.front) so.began;
    }

-- all that is promised of a session whose calls came so far
pub record Ended {D : Type 0} (c : ClusterId) (first : Option (Store D)) (capacity : ℕ) (calls : List Call) (before after : PassValue) : Type 0 where
  pub session : after.session ≡ before.session
  pub worked : HasWorked c first capacity calls after
  pub began : BeganWith before.front after

pub so_far_halted : {D : Type 0} (c : ClusterId) (first : Option (Store D)) (capacity : ℕ) (calls : List Call) (before : PassValue) (i : ℕ) (pass after : PassValue) (J : List Entry) (halt : Halt)
    → SoFar c calls before i pass → i < length calls → J ≡ after.front → HaltedAfter c first capacity J pass after halt → Ended c first capacity calls before after
so_far_halted c first capacity calls before i pass after J halt so more same halted =
    let made : after.made ≡ i = halted.made ∙ so.made in
    record {
      session = halted.session ∙ so.session;
      worked = record {
        within = omega arith;
        in_order =
            ap (λ (s : ℕ). calls_of s after.front) halted.session
            ∙ ap (calls_of pass.session) (sym same)
            ∙ calls_seen pass J halted.seen
            ∙ ap (λ (s : ℕ). calls_of s pass.front) so.session
            ∙ so.in_order
            ∙ ap (λ (n : ℕ). take n calls) (sym made);
        legal = subst (IsRunOf c) same halted.legal;
        ended = λ _. (halt, subst (λ (K : List Entry). Shows first capacity K halt) same halted.shows);
      };
      began = began_more before.front pass after halted.seen.seen.rest halted.session (halted.seen.seen.whole ∙ same) so.began;
    }

pub so_far_whole : {D : Type 0} (c : ClusterId) (first : Option (Store D)) (capacity : ℕ) (calls : List Call) (before : PassValue) (i : ℕ) (pass : PassValue)
    → SoFar c calls before i pass → i ≡ length calls → Ended c first capacity calls before pass
so_far_whole c first capacity calls before i pass so all =
    let made : pass.made ≡ i = so.made in
    record {
      session = so.session;
      worked = record {
        within = omega arith;
        in_order = ap (λ (s : ℕ). calls_of s pass.front) so.session ∙ so.in_order ∙ ap (λ (n : ℕ). take n calls) (sym made);
        legal = so.legal;
        ended = λ fewer. absurd (omega arith);
      };
      began = so.began;
    }
