use Rattle.std.proofs.Common.{◌≡◌, ◌<◌, [], ◌∷◌, ◌++◌, true, None, length, map, sym, ap, ap₂, ◌∙◌, arith}
use Rattle.std.specs.Option.{unwrap_or}
use Rattle.std.proofs.lemmas.List.{get_or_read}
use Rattle.std.proofs.lemmas.List.Elements.{All-same, All-rest, All-head}
use Rattle.serde_json.specs.Data.{boolean, string, array, no_items, item}
use Rattle.serde_json.specs.View.{view}
use Rattle.dcr_set.specs.EventSet.{has, numbers}
use Rattle.dcr_format.proofs.ValueLemmas.{value_moved}
use Rattle.dcr_part.specs.PartText.{event_value, number_value}
use Rattle.dcr_part.specs.Told.{name_told}
use Rattle.dcr_part.proofs.TextLemmas.{below_room, each_number}
use Rattle.dcr_part.proofs.values.alphabet_value.Goals as goal
use Rattle.dcr_part.proofs.values.alphabet_value.Goals.{In-Some}

pub loop-e-init : goal.loop-e-init
loop-e-init c =
    let alphabet = c.args.alphabet.now in
    let event = event_value c.args.own.now c.args.names.now in
    let all = c.into_iter-e-iterator.ensures.into_iter_gives ∙ c.iter-e-items.ensures in
    record {
      heard = All-same (λ e. has alphabet e ≡ true) c.into_iter-e-iterator.result (numbers alphabet) all (each_number (λ e. has alphabet e ≡ true) alphabet (λ e heard. heard));
      added = ap (λ vs. map view vs ++ map event c.into_iter-e-iterator.result) c.new-values.ensures.items ∙ ap (map event) all;
    }

-- the next event is of the alphabet
next_heard : (c : In-Some) → has c.args.alphabet.now c.in-Some.e ≡ true
next_heard c =
    All-head (λ k. has c.args.alphabet.now k ≡ true) c.in-Some.e c.next.new.self
    (All-same (λ k. has c.args.alphabet.now k ≡ true) (c.in-Some.e ∷ c.next.new.self) c.loop-e.e-iterator (sym c.in-Some.ensures.steps) c.loop-e.invariant.heard)

pub bounds-names-from : goal.bounds-names-from
bounds-names-from c =
    let below = below_room c.args.alphabet.now c.in-Some.e (next_heard (goal.at.bounds-names-from c).In-Some) in
    let number : c.from.result ≡ c.in-Some.e = c.from.ensures ∙ c.e.view_is in
    omega (arith, c.requires.room)

pub loop-e-preserved : goal.loop-e-preserved
loop-e-preserved c =
    let alphabet = c.args.alphabet.now in let names = c.args.names.now in let own = c.args.own.now in let e = c.in-Some.e in
    let heard = next_heard (goal.at.loop-e-preserved c).In-Some in
    let below = below_room alphabet e heard in
    let number : c.from.result ≡ e = c.from.ensures ∙ c.e.view_is in
    let within : c.from.result < length names = omega (arith, c.requires.room) in
    let name : c.in-Some-names.name ≡ name_told names e =
    ap (λ o. unwrap_or o []) (sym c.in-Some-names.is ∙ get_or_read names c.from.result c.index-names-from.result within c.index-names-from.is None) ∙ ap (name_told names) number in
    record {
      heard = All-rest (λ k. has alphabet k ≡ true) e c.next.new.self c.loop-e.e-iterator c.in-Some.ensures.steps c.loop-e.invariant.heard;
      added =
          value_moved (event_value own names) c.loop-e.values.items c.push.new.self.items c.in_ok-event_value.field-0 e c.loop-e.e-iterator c.next.new.self _ c.in_ok-push.ensures.items
          (c.in_ok-event_value.ensures
          ∙ ap₂ (λ name owned. array (item (number_value e) (item (string name) (item (boolean owned) no_items)))) name c.contains.ensures)
          c.in-Some.ensures.steps c.loop-e.invariant.added;
    }
