use Rattle.std.proofs.Common.{map}
use Rattle.serde_json.specs.View.{view}
use Rattle.dcr_set.specs.EventSet.{numbers}
use Rattle.dcr_part.specs.PartText.{row_value, sources}
use Rattle.dcr_part.proofs.ReadLemmas.{elements_are}
use Rattle.dcr_part.proofs.tables.read_table.Goals as goal

pub returns-clause-read : goal.returns-clause-read
returns-clause-read c = λ r is.
    c.table_of.ensures.read r (elements_are (map (row_value c.args.atoms r) (numbers (sources c.args.atoms r))) (view c.args.value.now) (map view c.in-Some.rows.now) c.in-Some.ensures.value is)
