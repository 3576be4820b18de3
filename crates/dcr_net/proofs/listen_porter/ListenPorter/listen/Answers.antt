use Rattle.std.proofs.Common.{inl}
use Rattle.dcr_net.proofs.PorterLemmas.{listened_failed}
use Rattle.dcr_net.proofs.listen_porter.ListenPorter.listen.Goals as goal

pub returns-in_err-listener-clause-listened : goal.returns-in_err-listener-clause-listened
returns-in_err-listener-clause-listened g c =
    listened_failed g.R.Listen.answered g.R.Listener.Unwaiting.told c.args.self.now c.from_residual.result _ c.from_residual.ensures.0
    (inl (c.in_err-listener.field-0.0, (c.local.result, c.local.ensures, c.in_err-listener.ensures)))
