use Rattle.std.proofs.Common.{◌≡◌, length, sym, ap, ◌∙◌, arith}
use Rattle.std.proofs.lemmas.Bool.{eqb-true}
use Rattle.dcr_adapt.proofs.LineLemmas.{no_line}
use Rattle.dcr_adapt.proofs.lines.count_lines.Goals as goal

pub returns : goal.returns
returns c =
    let empty : length c.loop-rest.rest.now ≡ 0 = eqb-true (length c.loop-rest.rest.now) 0 (sym c.is_empty.ensures ∙ c.loop-rest-test.false) in
    let none = ap (λ l. length l) (no_line c.loop-rest.rest.now empty) in
    let counted = c.loop-rest.invariant.counted in
    omega (arith, none, counted)
