use Rattle.dcr_app.proofs.adapt.dropped.Goals as goal

pub returns : goal.returns
returns c = c.and.ensures _ (c.and_name.ensures _ (c.and-line.ensures _ (c.and_number.ensures _ c.line.ensures)))
