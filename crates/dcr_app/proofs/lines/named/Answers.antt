use Rattle.dcr_app.proofs.lines.named.Goals as goal

pub returns : goal.returns
returns c = c.and.ensures _ (c.and_name.ensures _ c.line.ensures)
