use Rattle.dcr_value_rows.proofs.set.is_just.Goals as goal

pub next-requires : goal.next-requires
next-requires c = tt
