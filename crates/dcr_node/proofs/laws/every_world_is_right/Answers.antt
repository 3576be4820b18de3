use Rattle.dcr_node.proofs.LawLemmas.{every_world, every_journal, every_site, each_event}
use Rattle.dcr_node.proofs.laws.every_world_is_right.Goals as goal

pub returns : goal.returns
returns c = record { right = every_world; legal = every_journal; marks = every_site; kept = each_event }
