use Rattle.std.proofs.Common.{Ok, Err, Result, refl, sym, ◌∙◌}
use Rattle.std.proofs.lemmas.Bool.{false≢true}
use Rattle.std.specs.declared.io.Error.{Error}
use Rattle.std.specs.declared.net.tcp.TcpStream.{TcpStream}
use Rattle.dcr_net.specs.ListenPorter.{tried}
use Rattle.dcr_net.proofs.PorterLemmas.{over_brought}
use Rattle.dcr_net.proofs.listen_porter.ListenPorter.attempt.Goals as goal

pub returns-in-Ok-clause-tries : goal.returns-in-Ok-clause-tries
returns-in-Ok-clause-tries g c =
    let answer : Result TcpStream Error = Ok c.in-Ok.stream in
    tried _ c.accept_once.new.self answer c.in-Some.is refl c.in-Ok.ensures (over_brought c.link_over.result c.in-Ok.stream c.link_over.ensures)

pub returns-in-Err-clause-tries : goal.returns-in-Err-clause-tries
returns-in-Err-clause-tries g c =
    let answer : Result TcpStream Error = Err c.in-Err.e in
    tried _ c.accept_once.new.self answer c.in-Some.is refl c.in-Err.ensures (c.is_nobody.ensures.0 c.if-is_nobody.true)

pub returns-in-Err-2-clause-tries : goal.returns-in-Err-2-clause-tries
returns-in-Err-2-clause-tries g c =
    let answer : Result TcpStream Error = Err c.in-Err.e in
    tried _ c.accept_once.new.self answer c.in-Some.is refl c.in-Err.ensures (λ nobody. false≢true (sym c.if-is_nobody.false ∙ c.is_nobody.ensures.1 nobody))
