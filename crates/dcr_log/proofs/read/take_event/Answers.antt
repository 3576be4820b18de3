use Rattle.std.proofs.Common.{◌≡◌, Bool, true, false, ◌&&◌, List, ℕ, Some, None, refl, ◌∙◌, sym, ap}
use Rattle.std.specs.List.{slice_get}
use Rattle.std.specs.Option.{option_map, option_map_or}
use Rattle.std.specs.Borrow.{Bor}
use Rattle.std.specs.Str.{is_utf8}
use Rattle.std.proofs.lemmas.Bool.{and_left, and_right}
use Rattle.std.proofs.lemmas.Result.{IfOk-weaker}
use Rattle.csv.specs.Records.{fields_of}
use Rattle.dcr_log.specs.Names.{is_trace_name}
use Rattle.dcr_log.specs.Records.{is_event}
use Rattle.dcr_log.proofs.FieldLemmas.{none_passes, one_passes}
use Rattle.dcr_log.proofs.read.take_event.Goals as goal

-- a name and a text tell an event where the name is one
told_by : (a name event : Bool) → name ≡ a → event ≡ true → a ≡ (name && event)
told_by a name event is text = rw (is, text) (sym (and_true a))
  where
    and_true : (b : Bool) → (b && true) ≡ b
    and_true true = refl
    and_true false = refl

pub returns-in_default-clause-told : goal.returns-in_default-clause-told
unfolding is_event
returns-in_default-clause-told c =
    let row = fields_of c.args.fields.now in
    let none : slice_get row 0 ≡ None = sym c.field.ensures ∙ ap (option_map (λ (s : Bor (List ℕ)). s.now)) c.in_default.is in
    sym (and_left _ _ (ap (λ o. option_map_or is_trace_name o false) none))

pub returns-in_default-event_text-clause-told : goal.returns-in_default-event_text-clause-told
unfolding is_event
returns-in_default-event_text-clause-told c =
    let row = fields_of c.args.fields.now in
    sym (and_right _ _ (none_passes is_utf8 (slice_get row 1) (sym c.event_text.ensures ∙ ap (option_map (λ (s : Bor (List ℕ)). s.now)) c.in_default-event_text.is)))

pub returns-clause-told : goal.returns-clause-told
unfolding is_event
returns-clause-told c =
    let row = fields_of c.args.fields.now in
    let name : slice_get row 0 ≡ Some c.in-Some.name.now = sym c.field.ensures ∙ ap (option_map (λ (s : Bor (List ℕ)). s.now)) c.in-Some.is in
    let event = one_passes is_utf8 (slice_get row 1) c.in-Some-event_text.event.now (sym c.event_text.ensures ∙ ap (option_map (λ (s : Bor (List ℕ)). s.now)) c.in-Some-event_text.is) in
    IfOk-weaker c.add.result (λ named. named ≡ is_trace_name c.in-Some.name.now) (λ told. told ≡ is_event row)
    (λ named is. is ∙ told_by (is_trace_name c.in-Some.name.now) _ _ (ap (λ o. option_map_or is_trace_name o false) name) event.1) c.add.ensures.named
