use Rattle.std.proofs.Common.{◌≡◌, ◌++◌, ◌<◌, ◌^◌, true, codes, length, drop, rules, arith, ap, ◌∙◌}
use Rattle.std.specs.Int.{w64, from_be_bytes}
use Rattle.std.proofs.lemmas.Bool.Decides.{Decides-eqb}
use Rattle.std.proofs.lemmas.Slice.Eq.{starts_is}
use Rattle.hex.specs.Hex.{IsBytes}
use Rattle.dcr_greet.proofs.HelloLemmas.{challenge_spelled}
use Rattle.dcr_greet.proofs.challenge.Challenge.read.Goals as goal

pub returns : goal.returns
returns c =
    let bytes = c.args.bytes.now in
    let long : length bytes ≡ 44 = omega arith in
    let all : IsBytes bytes = λ i. omega (arith, c.type_inv.bytes i) in
    let begins : c.starts_with.result ≡ true = search rules in
    let front : bytes ≡ codes "dcrO" ++ drop 4 bytes = (starts_is Decides-eqb bytes (codes "dcrO") c.starts_with.result c.starts_with.ensures.value).0 begins in
    let fits : c.from_be_bytes.result < 2 ^ 64 = search rules in
    challenge_spelled bytes _ long all front fits (c.from_be_bytes.ensures ∙ ap (from_be_bytes w64) c.part.ensures) c.part-2.ensures
