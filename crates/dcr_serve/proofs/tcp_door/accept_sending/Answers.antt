use Rattle.std.proofs.Common.{inl}
use Rattle.dcr_serve.proofs.ListeningLemmas.{accepts_failed}
use Rattle.dcr_serve.proofs.tcp_door.accept_sending.Goals as goal

pub returns-in_err-stream : goal.returns-in_err-stream
returns-in_err-stream g c = accepts_failed g.L.Accept.answered c.args.listener.now c.accept_next.new.listener c.from_residual.result c.from_residual.ensures.0 (inl c.in_err-stream.ensures)
