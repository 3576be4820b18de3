use Rattle.dcr_work.proofs.OrderLemmas.{history_in_order}
use Rattle.dcr_work.proofs.laws.history_in_worker_order.Goals as goal

pub returns : goal.returns
returns c = history_in_order
