use Rattle.std.proofs.Common.{◌++◌, ◌∷◌, [], Some, None, cond, get_or, sym, ap₂, ◌∙◌, arith}
use Rattle.std.proofs.lemmas.List.FromFn.{map-range_with_len_more}
use Rattle.dcr_set.specs.EventSet.{has}
use Rattle.dcr_part.proofs.write.told_names.Goals as goal

pub loop-number-preserved : goal.loop-number-preserved
loop-number-preserved c =
    c.in_ok-push.ensures.items ∙ ap₂ (λ names name. names ++ name ∷ []) c.loop-number.invariant c.in_ok-name_in.ensures
    ∙ sym (map-range_with_len_more (λ e. cond (has c.args.set.now e) (Some (get_or c.args.graph.now.names e [])) None) 0 c.loop-number.number c.loop-number.number (omega arith))
