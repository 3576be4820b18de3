use Rattle.std.proofs.Common.{◌∙◌, ◌||◌, ◌&&◌, eqb, ◌<◌, ap, length, arith}
use Rattle.dcr_graph.specs.Rows.{leads}
use Rattle.dcr_graph.proofs.TableLemmas.{table-add, leads-add}
use Rattle.dcr_graph.proofs.table.Table.add.Goals as goal

pub invariant_of-self : goal.invariant_of-self
invariant_of-self c =
    let many = ap (λ rows. length rows) c.self.view_is in
    table-add c.self.inside _ c.args.a c.args.b c.self.invariant (omega (arith, c.requires.source)) (omega (arith, c.requires.target)) c.add_to_row.ensures.rows c.add_to_row-2.ensures.rows

pub returns-clause-pairs : goal.returns-clause-pairs
returns-clause-pairs c = λ x y.
    let many = ap (λ rows. length rows) c.self.view_is in
    let source : c.args.a < length c.self.inside.targets.items = omega (arith, c.requires.source) in
    ap (λ rows. leads rows x y) c.add_to_row.ensures.rows
    ∙ leads-add c.self.inside.targets.items c.args.a c.args.b source (omega (arith, c.self.invariant.rooms c.args.a source, c.requires.target)) x y
    ∙ ap (λ rows. leads rows x y || (eqb c.args.a x && eqb c.args.b y)) c.self.view_is
