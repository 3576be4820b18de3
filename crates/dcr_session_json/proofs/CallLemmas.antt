-- The calls of sessions: how many there are, the facts of the sessions one by one, and which calls they are.
use Rattle.std.proofs.Common.{◌≡◌, ℕ, ◌<◌, ◌≤◌, List, [], ◌∷◌, length, get_or, map, Option, Some, None, unwrap_or, sum_by, refl, arith}
use Rattle.std.specs.List.{All}
use Rattle.std.proofs.lemmas.List.{length-map}
use Rattle.std.proofs.lemmas.List.Elements.{All-map}
use Rattle.std.proofs.lemmas.List.Sums.{sum_by-cons}
use Rattle.serde_json.specs.Data.{Data, null, boolean, number, string, array, object, Items, no_items, item}
use Rattle.serde_json.specs.View.{items_view, view}
use Rattle.serde_json.specs.declared.value.Value.{Value}
use Rattle.dcr_format.specs.Size.{size, items_size}
use Rattle.dcr_format.proofs.SizeLemmas.{size-some}
use Rattle.dcr_journal.specs.Run.{IsInRange}
use Rattle.dcr_journal.specs.declared.call.Call.{Call}
use Rattle.dcr_journal.specs.declared.call.Call.TheVariants.{Accepting}
use Rattle.dcr_line.proofs.CallLemmas.{call_told}
use Rattle.dcr_format.specs.Facts.{first, at_most}
use Rattle.dcr_format.specs.Members.{listed}
use Rattle.dcr_format.specs.declared.limits.TheConstants.{MAX_SESSIONS, MAX_CALLS}
use Rattle.dcr_format.specs.declared.stop.CaseStop.{CaseStop}
use Rattle.dcr_format.specs.declared.stop.LimitKind.TheVariants as kind
use Rattle.dcr_format.proofs.FactLemmas.{at_most_holds, facts_none, facts_stop, first_none}
use Rattle.dcr_session_json.specs.Build.{build_facts, call_of, calls_fact, calls_of, session_at, sessions_in}
use Rattle.dcr_session_json.specs.Accepted.{IsAcceptedSessions}
use Rattle.dcr_session_json.specs.Limits.{call_count, limit_facts}
use Rattle.dcr_session_json.specs.Written.{calls_in, text_in}

-- ---- how many

length-listed : (ds : Items) → length (listed ds) ≤ items_size ds
length-listed no_items = omega arith
length-listed (item d ds) = omega (arith, length-listed ds, size-some d)

calls_few : (d : Data) → length (calls_in d) ≤ size d
calls_few null = omega arith
calls_few (boolean b) = omega arith
calls_few (number n) = omega arith
calls_few (string s) = omega arith
calls_few (array ds) = omega (arith, length-listed ds)
calls_few (object ms) = omega arith

-- all calls are no more than the sessions are large
pub all_calls : (vs : List Value) → call_count (map view vs) ≤ items_size (items_view vs)
all_calls [] = omega arith
all_calls (v ∷ vs) = omega (arith, sum_by-cons (λ (session : Data). length (calls_in session)) (view v) (map view vs), all_calls vs, calls_few (view v))

module _ (sites names : List (List ℕ)) where
  -- ---- the facts of the sessions

  module _ (sessions : List Data) where
    pub sessions_none : ((k : ℕ) → k < length sessions → calls_fact sites names k (calls_in (session_at sessions k)) ≡ None) → first (build_facts sites names sessions) ≡ None
    unfolding build_facts
    sessions_none each = facts_none (λ k. calls_fact sites names k (calls_in (session_at sessions k))) (length sessions) each

    pub sessions_stop : (k : ℕ) (stop : CaseStop) → k < length sessions → ((i : ℕ) → i < k → calls_fact sites names i (calls_in (session_at sessions i)) ≡ None)
        → calls_fact sites names k (calls_in (session_at sessions k)) ≡ Some stop → first (build_facts sites names sessions) ≡ Some stop
    unfolding build_facts
    sessions_stop k stop l before here = facts_stop (λ i. calls_fact sites names i (calls_in (session_at sessions i))) (length sessions) k stop l before here

  -- ---- which calls

  abbrev InRange : Call → Type 0
  InRange call = IsInRange (length sites) (length names) call

  call_within : (call : Data) → InRange (unwrap_or (call_of sites names call) Accepting)
  call_within call = at (call_of sites names call) refl
    where
      at : (o : Option Call) → call_of sites names call ≡ o → InRange (unwrap_or o Accepting)
      at None e = tt
      at (Some c) e = (call_told sites names (text_in call) c e).0

  calls_within : (calls : List Data) → All InRange (calls_of sites names calls)
  calls_within calls = All-map InRange (λ call. unwrap_or (call_of sites names call) Accepting) calls (λ j d l. call_within (get_or calls j d))

  sessions_within : (sessions : List Data) → All (λ (calls : List Call). All InRange calls) (sessions_in sites names sessions)
  unfolding sessions_in
  sessions_within sessions = All-map (λ (calls : List Call). All InRange calls) (λ session. calls_of sites names (calls_in session)) sessions (λ k d l. calls_within (calls_in (get_or sessions k d)))

  -- ---- accepted ones

  count_in : (sessions : List Data) → sum_by length (sessions_in sites names sessions) ≡ call_count sessions
  unfolding sessions_in
  count_in [] = refl
  count_in (session ∷ sessions) =
      let many = length-map (calls_in session) (λ (call : Data). unwrap_or (call_of sites names call) Accepting) in
      omega (arith, sum_by-cons (λ (d : Data). length (calls_in d)) session sessions, sum_by-cons (λ (cs : List Call). length cs) (calls_of sites names (calls_in session)) (sessions_in sites names sessions), count_in sessions)

  many_in : (sessions : List Data) → length (sessions_in sites names sessions) ≡ length sessions
  unfolding sessions_in
  many_in sessions = length-map sessions (λ session. calls_of sites names (calls_in session))

  pub sessions_accepted : (sessions : List Data) → first (limit_facts sessions) ≡ None → IsAcceptedSessions (length sites) (length names) (sessions_in sites names sessions)
  unfolding limit_facts
  sessions_accepted sessions e =
      let calls = at_most kind.Calls MAX_CALLS (call_count sessions) in
      let both = first_none (at_most kind.Sessions MAX_SESSIONS (length sessions)) (calls ∷ []) e in
      let most = at_most_holds kind.Sessions MAX_SESSIONS (length sessions) both.0 in
      let few = at_most_holds kind.Calls MAX_CALLS (call_count sessions) (first_none calls [] both.1).0 in
      record {
        most_sessions = omega (arith, many_in sessions);
        most_calls = omega (arith, count_in sessions);
        in_range = sessions_within sessions;
      }
