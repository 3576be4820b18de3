use Rattle.dcr_app.proofs.lines.numbered.Goals as goal

pub returns : goal.returns
returns c = c.and.ensures _ (c.and_number.ensures _ c.line.ensures)
