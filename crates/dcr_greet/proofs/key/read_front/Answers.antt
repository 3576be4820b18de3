use Rattle.std.proofs.Common.{◌≡◌, ℕ, List, MatchOption, drop, get_or, rules, arith, sym, subst}
use Rattle.dcr_greet.specs.KeyText.{BeginsWithKey}
use Rattle.dcr_greet.proofs.KeyLemmas.{key_read, no_key}
use Rattle.dcr_greet.proofs.key.read_front.Goals as goal

pub returns-in_err-bytes : goal.returns-in_err-bytes
returns-in_err-bytes c =
    let text = c.args.text.now in
    let none = no_key text c.part-digits.result c.from_hex.result c.ok.result c.part-digits.ensures c.from_hex.ensures c.ok.ensures.value c.in_err-bytes.was in
    subst (λ r. MatchOption r ((key rest : List ℕ) → BeginsWithKey text key rest → ⊥) (λ key. BeginsWithKey text key (drop 65 text))) (sym c.from_residual.ensures) none

pub returns : goal.returns
returns c =
    let text = c.args.text.now in
    let ends : get_or text 64 0 ≡ 10 = search rules in
    key_read text c.part-digits.result c.in_ok-bytes.bytes c.from_hex.result c.ok.result (omega arith) ends c.part-digits.ensures c.from_hex.ensures c.ok.ensures.value c.in_ok-bytes.was
