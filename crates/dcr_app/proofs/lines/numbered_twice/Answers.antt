use Rattle.dcr_app.proofs.lines.numbered_twice.Goals as goal

pub returns : goal.returns
returns c = c.and.ensures _ (c.and_number-2.ensures _ (c.and-line.ensures _ (c.and_number.ensures _ c.line.ensures)))
