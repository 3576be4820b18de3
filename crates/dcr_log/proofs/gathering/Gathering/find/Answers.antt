use Rattle.std.proofs.Common.{◌≡◌, ◌≢◌, ◌+◌, ◌-◌, ◌<◌, [], length, get_or, refl, sym, ◌∙◌, arith}
use Rattle.std.proofs.lemmas.List.{length-map}
use Rattle.dcr_log.specs.Gathered.{held_in, names_of}
use Rattle.dcr_log.specs.declared.trace.Trace.{Trace}
use Rattle.dcr_log.proofs.GatheredLemmas.{found_elsewhere, place_of_last}
use Rattle.dcr_log.proofs.gathering.Gathering.find.Goals as goal

pub returns-then-is_named : goal.returns-then-is_named
returns-then-is_named c =
    let traces = c.args.self.now.traces.items in
    let place = c.held-held.result - 1 in
    let within : place < length (names_of traces) = omega (arith, c.if-is_named.ensures.within refl, c.args.self.now.traces.ok.0, length-map traces (λ (trace : Trace). trace.name)) in
    sym (place_of_last (names_of traces) c.requires.distinct c.args.name.now place within (c.if-is_named.ensures.named refl ∙ (c.as_bytes.ensures.value ∙ c.text.ensures.text)))

pub returns : goal.returns
returns c =
    let g = c.args.self.now in
    let names = names_of g.traces.items in
    let place = c.held-held.result - 1 in
    let some : held_in g.places c.args.name.now ≡ place + 1 = sym c.held-held.ensures ∙ omega (arith, c.if-held-eq0.false) in
    let other : place < length names → get_or names place [] ≢ c.args.name.now =
    λ within is. c.is_named.ensures.other c.if-is_named.false (omega (arith, within, g.traces.ok.0, length-map g.traces.items (λ (trace : Trace). trace.name))) (is ∙ sym (c.as_bytes.ensures.value ∙ c.text.ensures.text)) in
    c.other.ensures ∙ found_elsewhere g.places names c.requires.noted c.args.name.now place some other
