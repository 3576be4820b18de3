use Rattle.std.proofs.Common.{Some, refl}
use Rattle.dcr_serve.proofs.ListeningLemmas.{asks_failed, asks_given}
use Rattle.dcr_serve.proofs.tcp_door.TcpDoorDoor.next.Goals as goal

pub returns-in-Ok-clause-asks : goal.returns-in-Ok-clause-asks
returns-in-Ok-clause-asks g c = asks_given g.R.Listen.answered g.R.Listener.Accept.answered c.args.self.now c.in-Ok.stream (Some c.new.result) c.accept.new.self c.in-Ok.ensures.asks

pub returns-in-Err-clause-asks : goal.returns-in-Err-clause-asks
returns-in-Err-clause-asks g c = asks_failed g.R.Listen.answered g.R.Listener.Accept.answered c.args.self.now c.in-Err.field-0 _ c.accept.new.self _ refl refl c.in-Err.ensures.asks
