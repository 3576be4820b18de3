use Rattle.std.proofs.Common.{◌∙◌, ap}
use Rattle.std.specs.List.{slice_get}
use Rattle.csv.specs.Records.{fields_of}
use Rattle.dcr_log.proofs.FieldLemmas.{field_at-slice_get}
use Rattle.dcr_log.proofs.list.TextList.get.Goals as goal

pub returns : goal.returns
returns c = c.get.ensures.value ∙ (field_at-slice_get (fields_of c.self.inside.texts) c.args.i ∙ ap (λ texts. slice_get texts c.args.i) c.self.view_is)
