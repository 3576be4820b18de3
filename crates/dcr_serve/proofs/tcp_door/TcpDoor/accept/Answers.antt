use Rattle.std.proofs.Common.{refl}
use Rattle.dcr_serve.specs.Listening.{began, no_port, went_on}
use Rattle.dcr_serve.proofs.tcp_door.TcpDoor.accept.Goals as goal

pub returns-in-Some-clause-asks : goal.returns-in-Some-clause-asks
returns-in-Some-clause-asks g c = went_on _ c.accept_sending.new.listener c.in-Some.is refl refl c.accept_sending.ensures

pub returns-in_err-listener-clause-asks : goal.returns-in_err-listener-clause-asks
returns-in_err-listener-clause-asks g c =
    no_port c.in_err-listener.field-0.0 c.in_default.is (c.local.result, c.local.ensures, c.in_err-listener.ensures) c.in_default.is c.from_residual.ensures.0

pub returns-clause-asks : goal.returns-clause-asks
returns-clause-asks g c =
    began c.in_ok-listener.listener c.accept_sending-accepted.new.listener c.in_default.is (c.local.result, c.local.ensures, c.in_ok-listener.ensures) refl c.accept_sending-accepted.ensures
