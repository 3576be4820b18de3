use Rattle.std.proofs.Common.{arith, sym, ◌∙◌}
use Rattle.dcr_app.proofs.CommandLemmas.{other_number, spelled, unspelled}
use Rattle.dcr_app.proofs.command.number_of.Goals as goal

pub returns-in-Some : goal.returns-in-Some
returns-in-Some c =
    let is = (c.read_decimal.ensures c.in-Some.n).0 c.in-Some.is in
    sym (spelled c.decimal_is_one_number.ensures.one c.args.least c.args.most (omega arith) c.args.word.now c.in-Some.n (sym c.as_bytes.ensures.value ∙ is.1) c.if-n-least.true c.if-n-most.true)

pub returns-in_default : goal.returns-in_default
returns-in_default c =
    let is = (c.read_decimal.ensures c.in-Some.n).0 c.in-Some.is in
    sym (other_number c.decimal_is_one_number.ensures.one c.args.least c.args.most (omega arith) c.args.word.now c.in-Some.n is.0 (sym c.as_bytes.ensures.value ∙ is.1) (λ some most. omega (arith, most, c.if-n-most.false)))

pub returns-in_default-2 : goal.returns-in_default-2
returns-in_default-2 c =
    let is = (c.read_decimal.ensures c.in-Some.n).0 c.in-Some.is in
    sym (other_number c.decimal_is_one_number.ensures.one c.args.least c.args.most (omega arith) c.args.word.now c.in-Some.n is.0 (sym c.as_bytes.ensures.value ∙ is.1) (λ some most. omega (arith, some, c.if-n-least.false)))

pub returns-in_default-3 : goal.returns-in_default-3
returns-in_default-3 c =
    sym (unspelled c.args.least c.args.most c.args.word.now (λ n some most is.
    let found = (c.read_decimal.ensures n).1 (omega (arith, most), c.as_bytes.ensures.value ∙ is) in absurd (let wrong = sym found ∙ c.in_default.is in cc)))
