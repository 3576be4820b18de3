use Rattle.dcr_load.proofs.LoadLemmas.{is_cover_as}
use Rattle.dcr_load.proofs.cover.cover.Goals as goal

pub new-requires : goal.new-requires
new-requires c = is_cover_as c.args.number _ _ c.in_ok-names.ensures c.in_ok-owned.ensures
