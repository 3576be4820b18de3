use Rattle.std.proofs.Common.{◌∙◌}
use Rattle.csv.specs.Records.{fields_of}
use Rattle.dcr_log.proofs.FieldLemmas.{field_at-slice_get}
use Rattle.dcr_log.proofs.read.field.Goals as goal

pub returns : goal.returns
returns c = c.get.ensures.value ∙ field_at-slice_get (fields_of c.args.fields.now) c.args.place
