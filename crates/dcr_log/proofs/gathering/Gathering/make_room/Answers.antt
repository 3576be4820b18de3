use Rattle.std.proofs.Common.{◌≡◌, ◌<◌, ◌∷◌, ◌++◌, [], List, ℕ, None, length, get_or, take, ◌∙◌, sym, ap, subst, arith}
use Rattle.std.proofs.lemmas.List.{get_or-map, length-map, length-take, take_all, take_more}
use Rattle.dcr_graph.specs.Names.{number_of}
use Rattle.dcr_log.specs.Gathered.{AreNoted, names_of}
use Rattle.dcr_log.specs.declared.trace.Trace.{Trace}
use Rattle.dcr_log.proofs.GatheredLemmas.{new_at}
use Rattle.dcr_log.proofs.gathering.Gathering.make_room.Goals as goal

pub loop-place-preserved : goal.loop-place-preserved
loop-place-preserved c =
    let traces = c.args.self.now.traces.items in
    let names = names_of traces in
    let place = c.loop-place.place in
    let trace = c.index.result.now in
    let long = length-map traces (λ (t : Trace). t.name) in
    let within : place < length traces = omega (arith, c.loop-place-test.true, c.len-place-end.ensures, c.args.self.now.traces.ok.0) in
    let named : place < length names = omega (arith, long) in
    let is : trace.name ≡ get_or names place [] = ap (λ (t : Trace). t.name) c.index.ensures ∙ sym (get_or-map (λ (t : Trace). t.name) traces place trace [] within) in
    let none : number_of (take place names) trace.name ≡ None = ap (number_of (take place names)) is ∙ new_at names c.requires.distinct place named in
    let last : place ≡ length (take place names) = omega (arith, length-take place names) in
    subst (AreNoted c.note.new.self) (ap (λ (name : List ℕ). take place names ++ name ∷ []) is ∙ sym (take_more names place [] named)) (c.in_ok-note.ensures (take place names) c.loop-place.invariant none last)

pub returns-clause-gathers : goal.returns-clause-gathers
returns-clause-gathers c =
    let traces = c.args.self.now.traces in
    let names = names_of traces.items in
    let long = length-map traces.items (λ (t : Trace). t.name) in
    record {
      distinct = c.requires.distinct;
      noted = subst (AreNoted c.loop-place.places) (take_all c.loop-place.place names (omega (arith, c.loop-place-test.false, c.len-place-end.ensures, traces.ok.0))) c.loop-place.invariant;
    }
