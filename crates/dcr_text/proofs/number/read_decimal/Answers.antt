use Rattle.dcr_text.proofs.NumberLemmas.{begins_as, digits_are}
use Rattle.dcr_text.proofs.number.read_decimal.Goals as goal

pub returns-then-not-begins_as_decimal : goal.returns-then-not-begins_as_decimal
returns-then-not-begins_as_decimal c = λ n. (
  λ e. absurd cc,
  λ told.
      let begins = c.begins_as_decimal.ensures.1 (begins_as c.args.bytes.now n told.0 told.1) in
      let not = c.if-not-begins_as_decimal.true in
      absurd cc,
)

pub returns : goal.returns
returns c = λ n.
    let same = digits_are c.args.bytes.now n (c.begins_as_decimal.ensures.0 c.if-not-begins_as_decimal.false) in (
      λ e. same.0 ((c.read_digits.ensures n).0 e),
      λ told. (c.read_digits.ensures n).1 (same.1 told),
    )
