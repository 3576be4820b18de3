use Rattle.std.proofs.Common.{◌≡◌, ◌++◌, ◌<◌, ◌^◌, true, codes, length, drop, rules, arith, ap, ◌∙◌}
use Rattle.std.specs.Int.{w16, w64, from_be_bytes}
use Rattle.std.proofs.lemmas.Bool.Decides.{Decides-eqb}
use Rattle.std.proofs.lemmas.Slice.Eq.{starts_is}
use Rattle.hex.specs.Hex.{IsBytes}
use Rattle.dcr_greet.proofs.HelloLemmas.{hello_spelled}
use Rattle.dcr_greet.proofs.hello.Hello.read.Goals as goal

pub returns : goal.returns
returns c =
    let bytes = c.args.bytes.now in
    let long : length bytes ≡ 78 = omega arith in
    let all : IsBytes bytes = λ i. omega (arith, c.type_inv.bytes i) in
    let begins : c.starts_with.result ≡ true = search rules in
    let front : bytes ≡ codes "dcrS" ++ drop 4 bytes = (starts_is Decides-eqb bytes (codes "dcrS") c.starts_with.result c.starts_with.ensures.value).0 begins in
    let fits : c.from_be_bytes.result < 2 ^ 64 = search rules in
    let small : c.from_be_bytes-2.result < 2 ^ 16 = search rules in
    hello_spelled bytes _ long all front fits small (c.from_be_bytes.ensures ∙ ap (from_be_bytes w64) c.part.ensures) (c.from_be_bytes-2.ensures ∙ ap (from_be_bytes w16) c.part-2.ensures)
    c.part-3.ensures c.part-4.ensures
