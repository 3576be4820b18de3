use Rattle.std.proofs.Common.{◌≡◌, ◌∷◌, ◌++◌, [], None, Vec, Global, length, ◌∙◌, sym, ap, subst}
use Rattle.std.proofs.lemmas.List.{length-map, map_push}
use Rattle.dcr_graph.specs.Names.{AreDistinct, number_of}
use Rattle.dcr_log.specs.Gathered.{AreNoted, names_of}
use Rattle.dcr_log.specs.declared.trace.Trace.{Trace}
use Rattle.dcr_log.proofs.GatheredLemmas.{distinct_more}
use Rattle.dcr_log.proofs.gathering.Gathering.begin.Goals as goal

pub returns-clause-gathers : goal.returns-clause-gathers
returns-clause-gathers c =
    let before = c.args.self.now.traces in
    let name = c.args.name in
    let gathers = c.in_ok-make_room.ensures.gathers in
    let traces = c.make_room.new.self.traces.items in
    let names = names_of traces in
    let same = c.in_ok-make_room.ensures.traces in
    let none : number_of names name ≡ None = ap (λ (ts : Vec Trace Global). number_of (names_of ts.items) name) same ∙ c.requires.other in
    let last : c.len-place.result ≡ length names =
    c.len-place.ensures ∙ (before.ok.0 ∙ (sym (length-map before.items (λ (trace : Trace). trace.name)) ∙ ap (λ (ts : Vec Trace Global). length (names_of ts.items)) (sym same))) in
    let is : names_of c.push-2.new.self.items ≡ names ++ name ∷ [] =
    ap names_of c.in_ok-push-2.ensures.items ∙ map_push (λ (trace : Trace). trace.name) traces (record { name = name; events = c.push.new.self }) in
    record {
      distinct = subst AreDistinct (sym is) (distinct_more names name gathers.distinct none);
      noted = subst (AreNoted c.note.new.self) (sym is) (c.in_ok-note.ensures names gathers.noted none last);
    }
