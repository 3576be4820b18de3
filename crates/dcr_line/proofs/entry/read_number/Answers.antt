use Rattle.std.proofs.Common.{◌≡◌, Some, None, sym, ◌∙◌, arith}
use Rattle.std.proofs.lemmas.Fmt.{decimal_injective}
use Rattle.dcr_line.proofs.NumberLemmas.{number_none, number_read}
use Rattle.dcr_line.proofs.entry.read_number.Goals as goal

pub returns-in_err-n : goal.returns-in_err-n
returns-in_err-n c =
    c.from_residual.ensures ∙ sym (number_none c.args.text.now (λ n small e.
    let found : c.read_decimal.result ≡ Some n = (c.read_decimal.ensures n).1 (omega arith, e) in
    let none : c.read_decimal.result ≡ None = c.in_err-n.was in
    absurd cc))

pub returns-then-n-from : goal.returns-then-n-from
returns-then-n-from c =
    let told = (c.read_decimal.ensures c.in_ok-n.n).0 c.in_ok-n.was in
    sym (number_none c.args.text.now (λ k small e.
    let same = decimal_injective c.in_ok-n.n k told.0 (omega arith) (sym told.1 ∙ e) in
    absurd (omega arith)))

pub returns : goal.returns
returns c =
    let told = (c.read_decimal.ensures c.in_ok-n.n).0 c.in_ok-n.was in
    sym (number_read c.args.text.now c.in_ok-n.n (omega arith) told.1)
