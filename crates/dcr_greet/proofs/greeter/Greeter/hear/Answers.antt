use Rattle.std.proofs.Common.{ap, refl}
use Rattle.std.specs.Prelude.{Result, Err}
use Rattle.dcr_porter.specs.declared.filling.Unfilled.{Unfilled}
use Rattle.dcr_greet.specs.Greeting.{heard}
use Rattle.dcr_greet.proofs.HelloLemmas.{short_of}
use Rattle.dcr_greet.proofs.greeter.Greeter.hear.Goals as goal

pub returns-in-Ok-clause-heard : goal.returns-in-Ok-clause-heard
returns-in-Ok-clause-heard g c = heard c.fill.new.buf c.fill.ensures.len c.in-Ok.ensures.all c.in-Ok.ensures.counts c.known.ensures

pub returns-in-Err-clause-heard : goal.returns-in-Err-clause-heard
returns-in-Err-clause-heard g c =
    let stop : Unfilled = c.in-Err.field-0 in
    short_of c.args.self.now c.args.challenge.now _ _ _ c.fill.new.buf stop _ refl c.fill.ensures.len c.in-Err.ensures.front c.in-Err.ensures.not_all
    (λ n is. c.in-Err.ensures.ended n (ap (λ (s : Unfilled). let r : Result Unit Unfilled = Err s in r) is)) c.in-Err.ensures.counts
