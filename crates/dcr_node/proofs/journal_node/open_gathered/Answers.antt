use Rattle.std.proofs.Common.{◌++◌, [], ◌∷◌, ap, ◌∙◌}
use Rattle.std.proofs.lemmas.List.{replicate-append-replicate}
use Rattle.dcr_node.specs.Gathering.{nothing_told, nothing_gathered}
use Rattle.dcr_node.proofs.journal_node.open_gathered.Goals as goal

pub loop-number-preserved : goal.loop-number-preserved
loop-number-preserved c =
    c.in_ok-push.ensures.items
    ∙ ap (λ g. g ++ c.nothing.result ∷ []) c.loop-number.invariant
    ∙ ap (λ x. nothing_gathered c.loop-number._number ++ x ∷ []) c.nothing.ensures
    ∙ replicate-append-replicate c.loop-number._number 1 nothing_told
