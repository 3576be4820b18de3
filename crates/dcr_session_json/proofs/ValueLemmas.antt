-- The value of sessions in a text: it is read back from its text, which is UTF-8 and short.
use Rattle.std.proofs.Common.{◌≡◌, ℕ, ◌+◌, ◌*◌, ◌≤◌, Bool, true, false, List, [], ◌∷◌, length, refl, arith, sum_by}
use Rattle.std.proofs.lemmas.List.Sums.{sum_by-cons}
use Rattle.serde_json.specs.Data.{array, no_items}
use Rattle.serde_json.specs.View.{items_of}
use Rattle.serde_json.specs.Written.{compact_text, items_text}
use Rattle.dcr_journal.specs.declared.call.Call.{Call}
use Rattle.dcr_line.specs.Line.{call_text}
use Rattle.dcr_format.specs.Texts.{AreAllNames}
use Rattle.dcr_format.proofs.EscapeLemmas.{quoted_length}
use Rattle.dcr_format.proofs.LengthLemmas.{item_short}
use Rattle.dcr_format.proofs.PlainLemmas.{IsPlain, plain_array, plain_items, plain_string}
use Rattle.dcr_format.proofs.Utf8Lemmas.{IsUtf8Value, all_utf8}
use Rattle.dcr_session_json.specs.Value.{call_value, call_values, session_values, sessions_value}
use Rattle.dcr_session_json.proofs.TextLemmas.{call_utf8, escape_call}

module _ (sites names : List (List ℕ)) where
  pub plain_sessions : (sessions : List (List Call)) → IsPlain 3 (sessions_value sites names sessions)
  plain_sessions sessions =
      plain_array 2 _ (plain_items 2 (λ calls. array (items_of (call_values sites names calls)))
      (λ calls. plain_array 1 _ (plain_items 1 (call_value sites names) (λ call. plain_string 1 (call_text sites names call)) calls)) sessions)

  module _ (named : AreAllNames sites) (are : AreAllNames names) where
    pub sessions_utf8 : (sessions : List (List Call)) → IsUtf8Value (sessions_value sites names sessions)
    sessions_utf8 sessions =
        all_utf8 (λ calls. array (items_of (call_values sites names calls)))
        (λ calls. all_utf8 (call_value sites names) (λ call. call_utf8 sites names named are call) calls) sessions

    -- a call with the comma before it
    calls_short : (calls : List Call) (later : Bool) → length (items_text later (items_of (call_values sites names calls))) ≤ 1 + 137 * length calls
    calls_short [] later = let none : length (items_text later no_items) ≡ 1 = refl in omega arith
    calls_short (call ∷ calls) later =
        let one = item_short later (call_value sites names call) (items_of (call_values sites names calls)) in
        let here = escape_call sites names named are call in
        let whole = quoted_length (call_text sites names call) in
        let more = calls_short calls true in omega arith

    each_short : (sessions : List (List Call)) (later : Bool) → length (items_text later (items_of (session_values sites names sessions))) ≤ 1 + 3 * length sessions + 137 * sum_by length sessions
    each_short [] later = let none : length (items_text later no_items) ≡ 1 = refl in omega arith
    each_short (calls ∷ sessions) later =
        let one = item_short later (array (items_of (call_values sites names calls))) (items_of (session_values sites names sessions)) in
        let here = calls_short calls false in
        let more = each_short sessions true in
        let sum = sum_by-cons length calls sessions in omega arith

    pub sessions_short : (sessions : List (List Call)) → length (compact_text (sessions_value sites names sessions)) ≤ 2 + 3 * length sessions + 137 * sum_by length sessions
    sessions_short sessions = let all = each_short sessions false in omega arith
