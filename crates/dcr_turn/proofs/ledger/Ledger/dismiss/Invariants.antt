use Rattle.dcr_turn.specs.declared.record.Holder.TheVariants.{Site}
use Rattle.dcr_turn.proofs.ledger.Ledger.dismiss.Given as goal

abbrev pub ghosts-take_out : goal.ghosts-take_out
ghosts-take_out g a = record { holder = Site a.site }
