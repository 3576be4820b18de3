use Rattle.std.proofs.Common.{◌+◌, ◌*◌, ◌-◌, get_or, Some, refl, sym, ap, subst, ◌∙◌, arith}
use Rattle.std.proofs.lemmas.Option.{same_Some}
use Rattle.dcr_text.proofs.NumberLemmas.{Reads, next_digit, reads_all, reads_more, reads_none}
use Rattle.dcr_text.proofs.number.read_digits.Goals as goal

pub loop-byte-preserved : goal.loop-byte-preserved
loop-byte-preserved c =
    let bytes = c.args.bytes.now in let at = c.loop-byte.byte-index in let number = c.loop-byte.number in
    let told = (c.with_digit.ensures c.in_ok-number.number).0 c.in_ok-number.was in
    record {
      reads = subst (Reads bytes (at + 1)) told.1 (reads_more bytes at number (get_or bytes at 0) c.loop-byte-test.true refl c.loop-byte.invariant.reads told.0);
      small = told.2;
    }

pub returns-in_err-number : goal.returns-in_err-number
returns-in_err-number c = λ n. (
  λ e. absurd (let none = c.from_residual.ensures in cc),
  λ told.
      let bytes = c.args.bytes.now in let at = c.loop-byte.byte-index in let number = c.loop-byte.number in let byte = get_or bytes at 0 in
      let next = next_digit bytes at number byte c.loop-byte-test.true refl c.loop-byte.invariant.reads told.0 (omega (arith, told.1, told.2)) in
      let some = (c.with_digit.ensures (number * 10 + (byte - 48))).1 (next.0, refl, next.1) in
      let none = c.in_err-number.was in
      absurd cc,
)

pub returns : goal.returns
returns c = λ n.
    let bytes = c.args.bytes.now in
    let all = reads_all bytes c.loop-byte.byte-index c.loop-byte.number (omega (arith, c.loop-byte-test.false)) c.loop-byte.invariant.reads in (
      λ e. let same = same_Some _ _ e in (all.0, all.1 ∙ same, omega (arith, same, c.loop-byte.invariant.small)),
      λ told. ap Some (sym all.1 ∙ told.1),
    )

pub loop-byte-init : goal.loop-byte-init
loop-byte-init c = record { reads = reads_none c.args.bytes.now; small = omega arith }
