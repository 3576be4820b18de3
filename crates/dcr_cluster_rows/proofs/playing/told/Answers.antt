use Rattle.std.proofs.Common.{refl}
use Rattle.dcr_cluster_rows.proofs.playing.told.Goals as goal

pub write_entry-requires : goal.write_entry-requires
write_entry-requires g c = (rw c.in-Ok.is at c.requires) _ refl refl
