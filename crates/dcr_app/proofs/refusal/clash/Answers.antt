use Rattle.dcr_app.proofs.refusal.clash.Goals as goal

pub returns : goal.returns
returns c = c.and.ensures _ (c.and_name-2.ensures _ (c.and-line.ensures _ (c.and_name.ensures _ c.line.ensures)))
