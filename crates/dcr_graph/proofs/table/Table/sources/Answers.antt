use Rattle.std.proofs.Common.{◌≡◌, ◌∙◌, ◌<◌, ap, length, arith}
use Rattle.dcr_set.specs.EventSet.{those}
use Rattle.dcr_set.proofs.SetLemmas.{length-those}
use Rattle.dcr_graph.specs.Rows.{row, leads}
use Rattle.dcr_graph.proofs.TableLemmas.{row_read, sources_read}
use Rattle.dcr_graph.proofs.table.Table.sources.Goals as goal

pub returns-clause-sources : goal.returns-clause-sources
returns-clause-sources c =
    let rows = c.self.inside.sources.items in
    let many = ap (λ t. length t) c.self.view_is in
    let same : c.from.result ≡ c.args.e = c.from.ensures ∙ c.e.view_is in
    let within : c.args.e < length c.self.inside.targets.items = omega (arith, c.requires) in
    row_read rows c.from.result c.index.result.now (omega (arith, c.self.invariant.as_many)) c.index.ensures ∙ ap (row rows) same
    ∙ sources_read c.self.inside c.args.e c.self.invariant within ∙ ap (λ t. those (length t) (λ a. leads t a c.args.e)) c.self.view_is

pub returns-clause-room : goal.returns-clause-room
returns-clause-room c = ap (λ s. length s) (returns-clause-sources c) ∙ length-those _ _
