use Rattle.std.proofs.Common.{◌≡◌, ◌<◌, true, false, [], List, length, get_or, ◌∙◌, sym, ap, arith}
use Rattle.std.proofs.lemmas.Bool.{ltb-true}
use Rattle.std.proofs.lemmas.List.{get_or-map}
use Rattle.std.proofs.lemmas.Slice.Eq.{bytes_eq-Decides}
use Rattle.dcr_log.specs.Gathered.{names_of}
use Rattle.dcr_log.specs.declared.trace.Trace.{Trace}
use Rattle.dcr_log.proofs.gathering.Gathering.is_named.Goals as goal
use Rattle.dcr_log.proofs.gathering.Gathering.is_named.Goals.{After-eq}

-- the name that stands at the place
stands : (c : After-eq) → get_or (names_of c.args.self.now.traces.items) c.args.place [] ≡ c.as_bytes.result.now
stands c =
    let traces = c.args.self.now.traces.items in
    let place = c.args.place in
    let trace = c.in-Some.trace.now in
    let read = c.in-Some.ensures.lookup in
    let within : place < length traces = omega (arith, ltb-true place (length c.deref.result.now) (sym read.0), ap (λ (ts : List Trace). length ts) c.deref.ensures.value) in
    get_or-map (λ (t : Trace). t.name) traces place trace [] within
    ∙ (ap (λ (t : Trace). t.name) (ap (λ (ts : List Trace). get_or ts place trace) (sym c.deref.ensures.value) ∙ sym read.1)
    ∙ (sym c.text.ensures.text ∙ sym c.as_bytes.ensures.value))

pub returns-in-Some-clause-named : goal.returns-in-Some-clause-named
returns-in-Some-clause-named c = λ e. stands c ∙ (bytes_eq-Decides c.as_bytes.result.now c.args.name.now).0 (sym c.eq.ensures ∙ e)

pub returns-in-Some-clause-other : goal.returns-in-Some-clause-other
returns-in-Some-clause-other c = λ e within is.
    let same : false ≡ true = sym e ∙ (c.eq.ensures ∙ (bytes_eq-Decides c.as_bytes.result.now c.args.name.now).1 (sym (stands c) ∙ is)) in
    absurd cc
