-- The value of sessions is read back: each fact of sessions holds of it, and what it writes is the sessions.
use Rattle.std.proofs.Common.{◌≡◌, ℕ, ◌<◌, ◌≤◌, true, List, [], ◌∷◌, length, get_or, Some, None, is_some, unwrap_or, sum_by, refl, ap, ◌∙◌, arith}
use Rattle.std.specs.List.{All, list_all}
use Rattle.std.proofs.lemmas.List.{get_or-map, length-map}
use Rattle.std.proofs.lemmas.List.Elements.{All-head, All-map, All-tail}
use Rattle.std.proofs.lemmas.List.Sums.{sum_by-cons}
use Rattle.serde_json.specs.Data.{Data, array, null}
use Rattle.serde_json.specs.Find.{as_str}
use Rattle.serde_json.specs.View.{items_of}
use Rattle.dcr_journal.specs.Run.{IsInRange}
use Rattle.dcr_journal.specs.declared.call.Call.{Call}
use Rattle.dcr_journal.specs.declared.call.Call.TheVariants.{Accepting}
use Rattle.dcr_line.specs.Known.{AreNames}
use Rattle.dcr_line.proofs.CallLemmas.{call_text_read}
use Rattle.dcr_format.specs.Facts.{first, each, at_most}
use Rattle.dcr_format.specs.declared.limits.TheConstants.{MAX_SESSIONS, MAX_CALLS}
use Rattle.dcr_format.specs.declared.stop.CaseStop.TheVariants.{CallLine, Shape}
use Rattle.dcr_format.specs.declared.stop.LimitKind.TheVariants as kind
use Rattle.dcr_format.specs.declared.stop.Part.TheVariants as part
use Rattle.dcr_format.proofs.FactLemmas.{at_most_none, below_none, each_none, first_past}
use Rattle.dcr_format.proofs.MemberLemmas.{listed-items_of}
use Rattle.dcr_session_json.specs.Accepted.{IsAcceptedSessions}
use Rattle.dcr_session_json.specs.Build.{build_facts, call_of, calls_fact, calls_of, sessions_in}
use Rattle.dcr_session_json.specs.Laws.{IsReadBack}
use Rattle.dcr_session_json.specs.Limits.{call_count, limit_facts}
use Rattle.dcr_session_json.specs.Shape.{is_session, shape_facts}
use Rattle.dcr_session_json.specs.Value.{call_value, call_values, session_values, sessions_value}
use Rattle.dcr_session_json.specs.Written.{calls_in, written_in}
use Rattle.dcr_session_json.proofs.CallLemmas.{sessions_none}

module _ (sites names : List (List ℕ)) where
  abbrev session : List Call → Data
  session calls = array (items_of (call_values sites names calls))

  calls_back : (calls : List Call) → calls_in (session calls) ≡ call_values sites names calls
  calls_back calls = listed-items_of (call_values sites names calls)

  pub written_back : (sessions : List (List Call)) → written_in (Some (sessions_value sites names sessions)) ≡ session_values sites names sessions
  written_back sessions = listed-items_of (session_values sites names sessions)

  -- ---- the shape

  all_texts : (calls : List Call) → list_all (λ call. is_some (as_str call)) (call_values sites names calls) ≡ true
  all_texts [] = refl
  all_texts (call ∷ calls) = all_texts calls

  session_shaped : (calls : List Call) → is_session (session calls) ≡ true
  session_shaped calls = ap (list_all (λ call. is_some (as_str call))) (calls_back calls) ∙ all_texts calls

  each_shaped : (sessions : List (List Call)) → each is_session (Shape part.Session) (session_values sites names sessions) ≡ None
  each_shaped sessions = each_none is_session (Shape part.Session) (session_values sites names sessions) (All-map (λ d. is_session d ≡ true) session sessions (λ k d l. session_shaped (get_or sessions k d)))

  shaped : (sessions : List (List Call)) → first (shape_facts (Some (sessions_value sites names sessions))) ≡ None
  unfolding shape_facts
  shaped sessions =
      first_past (each is_session (Shape part.Session) (written_in (Some (sessions_value sites names sessions)))) []
      (ap (each is_session (Shape part.Session)) (written_back sessions) ∙ each_shaped sessions)

  -- ---- the limits

  count_back : (sessions : List (List Call)) → call_count (session_values sites names sessions) ≡ sum_by length sessions
  count_back [] = refl
  count_back (calls ∷ sessions) =
      let one = ap (λ (ds : List Data). length ds) (calls_back calls) in
      let many = length-map calls (call_value sites names) in
      omega (arith, sum_by-cons (λ (d : Data). length (calls_in d)) (session calls) (session_values sites names sessions), sum_by-cons (λ (cs : List Call). length cs) calls sessions, count_back sessions)

  kept : (sessions : List (List Call)) → length sessions ≤ MAX_SESSIONS → sum_by length sessions ≤ MAX_CALLS → first (limit_facts (written_in (Some (sessions_value sites names sessions)))) ≡ None
  unfolding limit_facts
  kept sessions most few =
      let ds = session_values sites names sessions in
      let many = length-map sessions session in
      let count = count_back sessions in
      ap (λ w. first (limit_facts w)) (written_back sessions)
      ∙ first_past (at_most kind.Sessions MAX_SESSIONS (length ds)) (at_most kind.Calls MAX_CALLS (call_count ds) ∷ []) (at_most_none kind.Sessions MAX_SESSIONS (length ds) (omega arith))
      ∙ first_past (at_most kind.Calls MAX_CALLS (call_count ds)) [] (at_most_none kind.Calls MAX_CALLS (call_count ds) (omega arith))

  -- ---- the calls

  module _ (are_sites : AreNames sites) (are_names : AreNames names) where
    abbrev InRange : Call → Type 0
    InRange call = IsInRange (length sites) (length names) call

    call_read : (call : Call) → InRange call → call_of sites names (call_value sites names call) ≡ Some call
    call_read call within = call_text_read sites names are_sites are_names call within

    calls_read : (calls : List Call) → All InRange calls → calls_of sites names (call_values sites names calls) ≡ calls
    calls_read [] within = refl
    calls_read (call ∷ calls) within =
        ap (λ o. unwrap_or o Accepting ∷ calls_of sites names (call_values sites names calls)) (call_read call (All-head InRange call calls within))
        ∙ ap (λ cs. call ∷ cs) (calls_read calls (All-tail InRange call calls within))

    sessions_read : (sessions : List (List Call)) → All (λ (calls : List Call). All InRange calls) sessions → sessions_in sites names (session_values sites names sessions) ≡ sessions
    unfolding sessions_in
    sessions_read [] within = refl
    sessions_read (calls ∷ sessions) within =
        let Within : List Call → Type 0 = λ cs. All InRange cs in
        ap (λ ds. calls_of sites names ds ∷ sessions_in sites names (session_values sites names sessions)) (calls_back calls)
        ∙ ap (λ cs. cs ∷ sessions_in sites names (session_values sites names sessions)) (calls_read calls (All-head Within calls sessions within))
        ∙ ap (λ css. calls ∷ css) (sessions_read sessions (All-tail Within calls sessions within))

    each_call : (k : ℕ) (calls : List Call) → All InRange calls → calls_fact sites names k (call_values sites names calls) ≡ None
    each_call k calls within =
        let ds = call_values sites names calls in
        let many = length-map calls (call_value sites names) in
        below_none (length ds) (λ j. is_some (call_of sites names (get_or ds j null))) (CallLine k) (λ j l.
        let inside : j < length calls = omega arith in
        ap (λ d. is_some (call_of sites names d)) (get_or-map (call_value sites names) calls j Accepting null inside) ∙ ap is_some (call_read (get_or calls j Accepting) (within j Accepting inside)))

    all_called : (sessions : List (List Call)) → All (λ (calls : List Call). All InRange calls) sessions → first (build_facts sites names (session_values sites names sessions)) ≡ None
    all_called sessions within =
        let ds = session_values sites names sessions in
        let many = length-map sessions session in
        sessions_none sites names ds (λ k l.
        let inside : k < length sessions = omega arith in
        ap (λ d. calls_fact sites names k (calls_in d)) (get_or-map session sessions k [] null inside)
        ∙ ap (calls_fact sites names k) (calls_back (get_or sessions k [])) ∙ each_call k (get_or sessions k []) (within k [] inside))

    pub read_back : (sessions : List (List Call)) → IsAcceptedSessions (length sites) (length names) sessions → IsReadBack sites names sessions
    read_back sessions ok = record {
      shape = shaped sessions;
      limits = kept sessions ok.most_sessions ok.most_calls;
      calls = ap (λ w. first (build_facts sites names w)) (written_back sessions) ∙ all_called sessions ok.in_range;
      sessions = ap (sessions_in sites names) (written_back sessions) ∙ sessions_read sessions ok.in_range;
    }
