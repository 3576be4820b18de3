use Rattle.std.proofs.Common.{◌≡◌, ◌<◌, ◌^◌, false, length, None, rules, refl, sym, ◌∙◌}
use Rattle.std.proofs.lemmas.Bool.{false≢true}
use Rattle.dcr_greet.proofs.HelloLemmas.{other_known, unread_known}
use Rattle.dcr_greet.proofs.greeter.Greeter.known.Goals as goal

pub returns-in_err-hello : goal.returns-in_err-hello
returns-in_err-hello c =
    let who = c.args.self.now in
    let fits : c.args.challenge.now.run < 2 ^ 64 = search rules in
    let few : who.sites < 2 ^ 16 = search rules in
    let digest : length who.digest ≡ 32 = search rules in
    unread_known who c.args.challenge.now c.args.bytes.now c.from_residual.result fits few digest c.from_residual.ensures c.in_err-hello.ensures

pub returns-then-not-is_keyed : goal.returns-then-not-is_keyed
returns-then-not-is_keyed c =
    let who = c.args.self.now in
    let fits : c.args.challenge.now.run < 2 ^ 64 = search rules in
    let few : who.sites < 2 ^ 16 = search rules in
    let digest : length who.digest ≡ 32 = search rules in
    let not : c.is_keyed.result ≡ false = search rules in
    other_known who c.args.challenge.now c.args.bytes.now c.in_ok-hello.hello None fits few digest c.in_ok-hello.ensures refl (λ run same within keyed. false≢true (sym not ∙ c.is_keyed.ensures.1 keyed))
