use Rattle.std.proofs.Common.{◌≤◌, decimal, arith}
use Rattle.std.proofs.lemmas.Fmt.{decimal_injective, decimal_is_IsNumeral, decimal_nonempty, length-decimal-le}
use Rattle.std.proofs.lemmas.List.Elements.{All-from_get_or}
use Rattle.std.proofs.lemmas.Str.Parse.{digit_at}
use Rattle.dcr_text.proofs.laws.decimal_is_one_number.Goals as goal

pub returns-clause-one : goal.returns-clause-one
returns-clause-one c = decimal_injective

pub returns-clause-digits : goal.returns-clause-digits
returns-clause-digits c = λ n small.
    All-from_get_or (λ byte. (48 ≤ byte) × (byte ≤ 57)) (decimal n) 0
    (λ k within. digit_at (decimal n) k (decimal_is_IsNumeral n small).0.1 within)

pub returns-clause-some : goal.returns-clause-some
returns-clause-some c = decimal_nonempty

pub returns-clause-few : goal.returns-clause-few
returns-clause-few c = λ n small. length-decimal-le 20 n (omega arith) (omega arith) small
