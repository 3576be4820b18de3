use Rattle.dcr_net.proofs.PorterLemmas.{tries_counted}
use Rattle.dcr_net.proofs.listen_porter.ListenPorterPorter.next.Goals as goal

pub returns-then-is_err-clause-tries : goal.returns-then-is_err-clause-tries
returns-then-is_err-clause-tries g c = tries_counted g.R.Listener.Accept.answered c.args.self.now c.attempt-brought.new.self _ c.attempt-brought.result c.attempt-brought.ensures.tries
