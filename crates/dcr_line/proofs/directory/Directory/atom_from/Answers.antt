use Rattle.std.proofs.Common.{sym, ap, ◌∙◌, arith}
use Rattle.std.specs.Str.{bytes_eq}
use Rattle.dcr_graph.specs.Names.{number_of}
use Rattle.dcr_line.specs.DirectoryModel.{Named}
use Rattle.dcr_line.proofs.NameLemmas.{found_by, some_from}
use Rattle.dcr_line.proofs.directory.Directory.atom_from.Goals as goal

pub returns-then-eq : goal.returns-then-eq
returns-then-eq c =
    let names = c.self.inside.graph.now.names in let text = c.args.name.now in let low = c.args.low in
    let is = ap (λ t. bytes_eq t text) (sym (c.as_bytes.ensures.value ∙ (c.text.ensures.text ∙ c.name.ensures))) ∙ sym c.eq.ensures ∙ c.if-eq.true in
    let named = found_by names c.atoms.ensures.distinct text low (omega (arith, c.atoms.ensures.atoms, c.if-low-atoms.true)) is in
    some_from low low (number_of c.args.self.now.atoms text) (sym (ap (λ (N : Named). number_of N.atoms text) c.self.view_is) ∙ named) (omega arith)
