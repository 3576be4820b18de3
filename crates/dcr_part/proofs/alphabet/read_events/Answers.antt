use Rattle.std.proofs.Common.{◌≡◌, Some, None, get_or, length, set, sym, ap, ◌∙◌, arith}
use Rattle.std.proofs.lemmas.List.{length-replicate, length-set}
use Rattle.std.proofs.lemmas.Option.{none-some, same_Some}
use Rattle.dcr_set.specs.EventSet.{has, numbers}
use Rattle.dcr_part.specs.Told.{name_told}
use Rattle.dcr_part.proofs.EventLemmas.{event_at, events_begun, events_grown, events_read}
use Rattle.dcr_part.proofs.alphabet.read_events.Goals as goal

pub loop-value-init : goal.loop-value-init
loop-value-init c = record {
  own_room = c.new-own.ensures.room;
  names_room = ap (λ names. length names) c.in_ok-names.ensures ∙ length-replicate c.args.atoms None;
  front = λ P it atoms same. events_begun P c.args.atoms c.new-own.result c.in_ok-names.names.items atoms c.new-own.ensures.empty c.in_ok-names.ensures;
}

pub returns-in_default-clause-read : goal.returns-in_default-clause-read
returns-in_default-clause-read c = λ P it atoms same.
    let e = get_or (numbers P.alphabet) c.loop-value.value-index 0 in
    let here = event_at P it c.args.events.now c.loop-value.value-index c.value-item.result same (omega arith) c.value-item.is in
    none-some _ (sym c.in_default.is ∙ c.in_ok-event.ensures.read e (name_told P.names e) (has P.own e) (omega (arith, here.1, atoms)) (it.named e here.2) here.3)

pub loop-value-preserved : goal.loop-value-preserved
loop-value-preserved c =
    let names = c.loop-value.names.items in let event = c.in-Some.event in
    let from : c.from.result ≡ event.number = c.from.ensures ∙ c.number.view_is in
    record {
      own_room = c.add.ensures.room ∙ c.loop-value.invariant.own_room;
      names_room = length-set names c.from.result (Some event.name) ∙ c.loop-value.invariant.names_room;
      front = λ P it atoms same.
          let e = get_or (numbers P.alphabet) c.loop-value.value-index 0 in
          let here = event_at P it c.args.events.now c.loop-value.value-index c.value-item.result same (omega arith) c.value-item.is in
          let read = same_Some _ _ (sym c.in-Some.is ∙ c.in_ok-event.ensures.read e (name_told P.names e) (has P.own e) (omega (arith, here.1, atoms)) (it.named e here.2) here.3) in
          let number : event.number ≡ e = ap (λ event. event.number) read in
          let own_room = c.loop-value.invariant.own_room in let names_room = c.loop-value.invariant.names_room in
          events_grown P c.loop-value.value-index event.number here.0 number event.name event.owned c.loop-value.own c.add.new.set names (set names c.from.result (Some event.name))
          (ap (λ event. event.name) read ∙ ap (name_told P.names) (sym number)) (ap (λ event. event.owned) read ∙ ap (has P.own) (sym number))
          (omega (arith, here.1, atoms)) (omega (arith, here.1, atoms)) c.add.ensures.added (ap (λ j. set names j (Some event.name)) from) (c.loop-value.invariant.front P it atoms same);
    }

pub returns-clause-read : goal.returns-clause-read
returns-clause-read c = λ P it atoms same.
    events_read P it c.args.events.now c.loop-value.value-index c.loop-value.own c.loop-value.names.items same (omega arith) (c.loop-value.invariant.own_room ∙ sym atoms)
    (c.loop-value.invariant.names_room ∙ sym atoms) (c.loop-value.invariant.front P it atoms same)
