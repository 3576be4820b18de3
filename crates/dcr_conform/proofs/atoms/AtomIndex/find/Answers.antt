use Rattle.std.proofs.Common.{◌<◌, ◌≡◌, [], List, ℕ, length, get_or, sym, ap, ◌∙◌, arith}
use Rattle.std.proofs.lemmas.Slice.Eq.{bytes_eq-Decides}
use Rattle.dcr_graph.specs.Names.{number_of}
use Rattle.dcr_log.proofs.GatheredLemmas.{place_of_last}
use Rattle.dcr_conform.proofs.atoms.AtomIndex.find.Goals as goal

pub returns-then-eq : goal.returns-then-eq
returns-then-eq c =
    let names = c.self.inside.graph.now.names in
    let text = c.args.text.now in
    let number = get_or c.self.inside.slots c.slot_of.result 0 in
    let within : number < length names = omega (arith, c.if-number-atoms.true, c.atoms.ensures.atoms) in
    let stands : get_or names number [] ≡ text = sym c.bytes_of.ensures ∙ (bytes_eq-Decides c.bytes_of.result.now text).0 (sym c.eq.ensures ∙ c.if-eq.true) in
    sym (ap (λ (ns : List (List ℕ)). number_of ns text) (sym c.self.view_is ∙ c.self.invariant) ∙ place_of_last names c.atoms.ensures.distinct text number within stands)
