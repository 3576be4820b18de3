use Rattle.std.proofs.Common.{◌++◌, [], ◌∷◌, ap, ◌∙◌}
use Rattle.std.proofs.lemmas.List.{replicate-append-replicate}
use Rattle.dcr_node.specs.StreamValue.{StreamValue}
use Rattle.dcr_node.specs.Streams.{new_streams}
use Rattle.dcr_node.proofs.journal_node.open_streams.Goals as goal

pub loop-number-preserved : goal.loop-number-preserved
loop-number-preserved c =
    let room = c.args.room in
    let empty : StreamValue = record { events = []; room = room } in
    c.in_ok-push.ensures.items
    ∙ ap (λ streams. streams ++ c.in_ok-stream.stream ∷ []) c.loop-number.invariant
    ∙ ap (λ es. let s : StreamValue = record { events = es; room = c.in_ok-stream.stream.room } in new_streams c.loop-number._number room ++ s ∷ []) c.in_ok-stream.ensures.events
    ∙ ap (λ n. let s : StreamValue = record { events = []; room = n } in new_streams c.loop-number._number room ++ s ∷ []) c.in_ok-stream.ensures.room
    ∙ replicate-append-replicate c.loop-number._number 1 empty
