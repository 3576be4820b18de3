use Rattle.std.proofs.Common.{◌++◌, ◌∷◌, [], sym, ap₂, ◌∙◌, arith}
use Rattle.std.proofs.lemmas.List.FromFn.{map-range_with_len_more}
use Rattle.dcr_part.specs.Read.{stand_in}
use Rattle.dcr_part.proofs.graph.stand_ins.Goals as goal

pub loop-number-preserved : goal.loop-number-preserved
loop-number-preserved c =
    c.in_ok-push.ensures.items ∙ ap₂ (λ names name. names ++ name ∷ []) c.loop-number.invariant c.in_ok-name_of.ensures
    ∙ sym (map-range_with_len_more stand_in 0 c.loop-number.number c.loop-number.number (omega arith))
