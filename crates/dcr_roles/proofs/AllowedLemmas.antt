-- The first call that a policy denies: what it is for there to be one, and none.
use Rattle.std.proofs.Common.{◌≡◌, ℕ, ◌<◌, true, false, List, [], length, get_or, Option, Some, None, is_some, refl, sym, ap, ◌∙◌, arith}
use Rattle.std.specs.List.{slice_get}
use Rattle.std.proofs.lemmas.Bool.{false≢true}
use Rattle.std.proofs.lemmas.Option.{get_or_from_slice_get, none-some, slice_get-get_or, slice_get_within}
use Rattle.dcr_set.proofs.LeastLemmas.{least-from, least-none, least-none_from, least-some}
use Rattle.dcr_journal.specs.declared.call.Call.{Call}
use Rattle.dcr_journal.specs.declared.call.Call.TheVariants.{Accepting}
use Rattle.dcr_policy.specs.Deny.{deny}
use Rattle.dcr_policy.specs.Roles.{Roles}
use Rattle.dcr_roles.specs.Allowed.{call_denied, denial, role_for, session_denied, IsCallDenied}
use Rattle.dcr_roles.specs.Words.{AreAllowed, IsAllowed, IsFirstDenied}
use Rattle.dcr_roles.specs.declared.stop.PolicyStop.{PolicyStop}
use Rattle.dcr_roles.specs.declared.stop.PolicyStop.TheVariants.{Denied}

-- ---- options

some_is : {A : Type 0} (o : Option A) → is_some o ≡ true → (x : A) × (o ≡ Some x)
some_is None e = absurd (false≢true e)
some_is (Some x) e = (x, refl)

none_is : {A : Type 0} (o : Option A) → is_some o ≡ false → o ≡ None
none_is None e = refl
none_is (Some x) e = absurd (false≢true (sym e))

abbrev row : List (List Call) → ℕ → List Call
row sessions k = get_or sessions k []

-- every call is allowed, or one is the first that is not
pub data DenialEnds (P : Roles) (sessions : List (List Call)) : Type 0 where
  allowed : denial P sessions ≡ None → AreAllowed P sessions → DenialEnds P sessions
  denied : (k j : ℕ) (role : List ℕ) → IsFirstDenied P sessions k j role → DenialEnds P sessions

module _ (P : Roles) where
  -- ---- the calls of a session

  pub role_at : (k : ℕ) (calls : List Call) (j : ℕ) (call : Call) → slice_get calls j ≡ Some call → role_for P k calls j ≡ deny P k call
  role_at k calls j call is = ap (deny P k) (get_or_from_slice_get calls j call Accepting is)

  pub calls_allowed : (k : ℕ) (calls : List Call) → call_denied P k calls ≡ None → IsAllowed P k calls
  calls_allowed k calls none j call is =
      sym (role_at k calls j call is) ∙ none_is (role_for P k calls j) (least-none (length calls) (λ i. is_some (role_for P k calls i)) none j (slice_get_within calls j call is))

  pub none_denied : (k : ℕ) (calls : List Call) → IsAllowed P k calls → call_denied P k calls ≡ None
  none_denied k calls all = least-none_from (length calls) (λ i. is_some (role_for P k calls i)) (λ j l.
      let call = get_or calls j Accepting in
      ap (λ o. is_some o) (all j call (slice_get-get_or calls j Accepting l)))

  pub call_found : (k : ℕ) (calls : List Call) (j : ℕ) (call : Call) (role : List ℕ) → slice_get calls j ≡ Some call → deny P k call ≡ Some role
      → ((i : ℕ) (other : Call) → i < j → slice_get calls i ≡ Some other → deny P k other ≡ None) → call_denied P k calls ≡ Some j
  call_found k calls j call role is lacks before = least-from (length calls) (λ i. is_some (role_for P k calls i)) j (record {
    below = slice_get_within calls j call is;
    passes = ap (λ o. is_some o) (role_at k calls j call is ∙ lacks);
    none_before = λ i l. (
        let within = slice_get_within calls j call is in
        let other = get_or calls i Accepting in
        ap (λ o. is_some o) (before i other l (slice_get-get_or calls i Accepting (let less : i < length calls = omega arith in less))));
  })

  -- ---- the sessions

  denial_is : (sessions : List (List Call)) (k j : ℕ) (role : List ℕ) → session_denied P sessions ≡ Some k → call_denied P k (row sessions k) ≡ Some j → role_for P k (row sessions k) j ≡ Some role
      → denial P sessions ≡ Some (Denied k j role)
  unfolding denial
  denial_is sessions k j role session call lacks = rw (session, call, lacks) refl

  none_is_denied : (sessions : List (List Call)) → session_denied P sessions ≡ None → denial P sessions ≡ None
  unfolding denial
  none_is_denied sessions none = rw none refl

  pub all_allowed : (sessions : List (List Call)) → denial P sessions ≡ None → AreAllowed P sessions
  all_allowed sessions none = by_session (session_denied P sessions) refl
    where
      by_session : (o : Option ℕ) → session_denied P sessions ≡ o → AreAllowed P sessions
      by_session None e = λ k calls is.
          calls_allowed k calls (ap (call_denied P k) (sym (get_or_from_slice_get sessions k calls [] is))
          ∙ none_is (call_denied P k (row sessions k)) (least-none (length sessions) (λ l. is_some (call_denied P l (row sessions l))) e k (slice_get_within sessions k calls is)))
      by_session (Some k) e = absurd (
          let least = least-some (length sessions) (λ l. is_some (call_denied P l (row sessions l))) k e in
          let call = some_is (call_denied P k (row sessions k)) least.passes in
          let found = least-some (length (row sessions k)) (λ i. is_some (role_for P k (row sessions k) i)) call.0 call.1 in
          let role = some_is (role_for P k (row sessions k) call.0) found.passes in
          none-some (Denied k call.0 role.0) (sym none ∙ denial_is sessions k call.0 role.0 e call.1 role.1))

  pub denial_none : (sessions : List (List Call)) → AreAllowed P sessions → denial P sessions ≡ None
  denial_none sessions all = none_is_denied sessions (least-none_from (length sessions) (λ k. is_some (call_denied P k (row sessions k))) (λ k l.
      ap (λ o. is_some o) (none_denied k (row sessions k) (all k (row sessions k) (slice_get-get_or sessions k [] l)))))

  pub denial_some : (sessions : List (List Call)) (k j : ℕ) (role : List ℕ) → IsFirstDenied P sessions k j role → denial P sessions ≡ Some (Denied k j role)
  denial_some sessions k j role h =
      let here : row sessions k ≡ h.calls = get_or_from_slice_get sessions k h.calls [] h.session in
      let call : call_denied P k (row sessions k) ≡ Some j = ap (call_denied P k) here ∙ call_found k h.calls j h.call role h.at h.lacks h.earlier_call in
      let lacks : role_for P k (row sessions k) j ≡ Some role = ap (λ calls. role_for P k calls j) here ∙ role_at k h.calls j h.call h.at ∙ h.lacks in
      let within = slice_get_within sessions k h.calls h.session in
      let session : session_denied P sessions ≡ Some k = least-from (length sessions) (λ l. is_some (call_denied P l (row sessions l))) k (record {
        below = within;
        passes = ap (λ o. is_some o) call;
        none_before = λ l before. ap (λ o. is_some o) (none_denied l (row sessions l) (h.earlier_session l (row sessions l) before (slice_get-get_or sessions l [] (let less : l < length sessions = omega arith in less))));
      }) in
      denial_is sessions k j role session call lacks

  pub denial_ends : (sessions : List (List Call)) → DenialEnds P sessions
  denial_ends sessions = by_session (session_denied P sessions) refl
    where
      by_session : (o : Option ℕ) → session_denied P sessions ≡ o → DenialEnds P sessions
      by_session None e = (let none = none_is_denied sessions e in allowed none (all_allowed sessions none))
      by_session (Some k) e =
          let least = least-some (length sessions) (λ l. is_some (call_denied P l (row sessions l))) k e in
          let call = some_is (call_denied P k (row sessions k)) least.passes in
          let found = least-some (length (row sessions k)) (λ i. is_some (role_for P k (row sessions k) i)) call.0 call.1 in
          let role = some_is (role_for P k (row sessions k) call.0) found.passes in
          denied k call.0 role.0 (record {
            calls = row sessions k;
            call = get_or (row sessions k) call.0 Accepting;
            session = slice_get-get_or sessions k [] least.below;
            at = slice_get-get_or (row sessions k) call.0 Accepting found.below;
            lacks = role.1;
            earlier_call = λ i other l is. sym (role_at k (row sessions k) i other is) ∙ none_is (role_for P k (row sessions k) i) (found.none_before i l);
            earlier_session = λ l others before is.
                calls_allowed l others (ap (call_denied P l) (sym (get_or_from_slice_get sessions l others [] is)) ∙ none_is (call_denied P l (row sessions l)) (least.none_before l before));
          })

-- ---- one call after another, and one session after another

module _ (P : Roles) where
  -- where no call before j is denied, and call j is
  pub denied_at : (k : ℕ) (calls : List Call) (j : ℕ) (role : List ℕ) → j < length calls → role_for P k calls j ≡ Some role → ((i : ℕ) → i < j → role_for P k calls i ≡ None) → IsCallDenied P k calls (Denied k j role)
  denied_at k calls j role below lacks before = record {
    j = j;
    role = role;
    least = least-from (length calls) (λ i. is_some (role_for P k calls i)) j (record { below = below; passes = ap (λ o. is_some o) lacks; none_before = λ i l. ap (λ o. is_some o) (before i l) });
    lacks = lacks;
    is = refl;
  }

  pub no_call_denied : (k : ℕ) (calls : List Call) → ((i : ℕ) → i < length calls → role_for P k calls i ≡ None) → call_denied P k calls ≡ None
  no_call_denied k calls none = least-none_from (length calls) (λ i. is_some (role_for P k calls i)) (λ i l. ap (λ o. is_some o) (none i l))

  -- where none of a session before k is, and one of session k is
  pub denied_in : (sessions : List (List Call)) (k : ℕ) (stop : PolicyStop) → k < length sessions → IsCallDenied P k (row sessions k) stop → ((l : ℕ) → l < k → call_denied P l (row sessions l) ≡ None)
      → denial P sessions ≡ Some stop
  denied_in sessions k stop below h before =
      let session : session_denied P sessions ≡ Some k = least-from (length sessions) (λ l. is_some (call_denied P l (row sessions l))) k (record {
        below = below;
        passes = ap (λ o. is_some o) h.least;
        none_before = λ l less. ap (λ o. is_some o) (before l less);
      }) in
      denial_is P sessions k h.j h.role session h.least h.lacks ∙ ap Some (sym h.is)

  pub no_session_denied : (sessions : List (List Call)) → ((k : ℕ) → k < length sessions → call_denied P k (row sessions k) ≡ None) → denial P sessions ≡ None
  no_session_denied sessions none = none_is_denied P sessions (least-none_from (length sessions) (λ k. is_some (call_denied P k (row sessions k))) (λ k l. ap (λ o. is_some o) (none k l)))
