use Rattle.std.proofs.Common.{◌≡◌, ◌<◌, List, [], ℕ, cond, Option, Some, None, length, refl, ◌∙◌, sym, ap, arith}
use Rattle.std.proofs.lemmas.List.{length-map}
use Rattle.std.proofs.lemmas.Option.{same_Some}
use Rattle.dcr_graph.specs.Names.{number_of}
use Rattle.dcr_log.specs.Gathered.{names_of, with_event}
use Rattle.dcr_log.specs.Names.{is_trace_name}
use Rattle.dcr_log.specs.declared.trace.Trace.{Trace}
use Rattle.dcr_log.proofs.FieldLemmas.{one_passes}
use Rattle.dcr_log.proofs.GatheredLemmas.{event_at, event_behind, place_of_last, place_within}
use Rattle.dcr_log.proofs.gathering.Gathering.add.Goals as goal

no_trace : List ℕ → Trace
no_trace name = record { name = name; events = [] }

pub returns-then-is_named-clause-added : goal.returns-then-is_named-clause-added
returns-then-is_named-clause-added c = λ _.
    let g = c.args.self.now in
    let traces = g.traces.items in
    let name = c.args.name.now in
    let within : g.last < length (names_of traces) = omega (arith, c.if-is_named.ensures.within refl, g.traces.ok.0, length-map traces (λ (trace : Trace). trace.name)) in
    let at : number_of (names_of traces) name ≡ Some g.last = place_of_last (names_of traces) c.requires.distinct name g.last within (c.if-is_named.ensures.named refl) in
    c.in_ok-append.ensures.added (no_trace name) ∙ event_at traces name c.args.event.now g.last (no_trace name) at

-- the name that was read has these bytes
read_is : (bytes name : List ℕ) (found : Option (List ℕ)) → found ≡ cond (is_trace_name bytes) (Some bytes) None → found ≡ Some name → name ≡ bytes
read_is bytes name found told is = sym (same_Some bytes name (one_passes is_trace_name (Some bytes) name (sym told ∙ is)).0)

pub append-requires-in-Some-find-clause-within : goal.append-requires-in-Some-find-clause-within
append-requires-in-Some-find-clause-within c =
    let traces = c.args.self.now.traces in
    omega (arith, place_within traces.items c.in-Some.name c.in-Some-find.place (sym c.find.ensures ∙ c.in-Some-find.is), traces.ok.0)

pub returns-in_ok-append-in-Some-find-clause-added : goal.returns-in_ok-append-in-Some-find-clause-added
returns-in_ok-append-in-Some-find-clause-added c = λ _.
    let traces = c.args.self.now.traces.items in
    let is = read_is c.args.name.now c.in-Some.name c.read.result c.read.ensures c.in-Some.is in
    c.in_ok-append-in-Some-find.ensures.added (no_trace c.in-Some.name)
    ∙ (event_at traces c.in-Some.name c.args.event.now c.in-Some-find.place (no_trace c.in-Some.name) (sym c.find.ensures ∙ c.in-Some-find.is)
    ∙ ap (λ (name : List ℕ). with_event traces name c.args.event.now) is)

pub returns-in_ok-begin-in-None-clause-added : goal.returns-in_ok-begin-in-None-clause-added
returns-in_ok-begin-in-None-clause-added c = λ _.
    let traces = c.args.self.now.traces.items in
    let is = read_is c.args.name.now c.in-Some.name c.read.result c.read.ensures c.in-Some.is in
    c.in_ok-begin-in-None.ensures.added
    ∙ (event_behind traces c.in-Some.name c.args.event.now (sym c.find.ensures ∙ c.in-None.is)
    ∙ ap (λ (name : List ℕ). with_event traces name c.args.event.now) is)
