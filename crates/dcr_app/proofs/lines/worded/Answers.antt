use Rattle.dcr_app.proofs.lines.worded.Goals as goal

pub returns : goal.returns
returns c = c.and-2.ensures _ (c.and_number.ensures _ (c.and-line.ensures _ (c.and.ensures _ c.line.ensures)))
