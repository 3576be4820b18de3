use Rattle.std.proofs.Common.{◌≡◌, ℕ, List, [], Option, Some, None, IfOk, IfErr, drop, refl, subst, sym, ◌∙◌}
use Rattle.std.specs.IoError.{error_kind}
use Rattle.std.specs.Io.KnownBytes.{Appends}
use Rattle.std.specs.Vec.Iter.{into_iter_items}
use Rattle.std.proofs.lemmas.List.{append-nil}
use Rattle.std.specs.Process.{exit_status}
use Rattle.dcr.specs.Exit.{Exits, starved, IsUntouched, LeavesUnused, Outside, outside}
use Rattle.dcr.proofs.program.Goals as goal

appends_nothing : (had : Option (List ℕ)) → Appends had had []
appends_nothing None = tt
appends_nothing (Some xs) = sym (append-nil xs)

untouched : {D B P : Type 0} (door : B) (disk : D) (porter : P) (was : Outside) → IsUntouched door disk porter was was (record { door = door; disk = disk; porter = porter })
untouched door disk porter was =
    record { read = refl; wrote = (appends_nothing was.output.bytes, refl); same_door = refl; same_disk = refl; same_porter = refl }

-- memory ran out while the words were gathered
pub returns-in-Err-behind_first-clause-words : goal.returns-in-Err-behind_first-clause-words
returns-in-Err-behind_first-clause-words g c =
    let input = c.args.input.now in let output = c.args.output.now in
    let was = outside (g.I.Source.gives input) (g.I.Source.has_ended input) (g.O.Sink.takes output) in
    let code = exit_status c.unbegun.result.code in let view = g.D.Disk.view in let faults = g.D.Disk.faults in
    let doors = g.B.Door.tells in let porters = g.P.Porter.tells in let left = c.unbegun.result.left in
    subst (λ words. IfOk words (λ args. Exits view faults doors porters (drop 1 (into_iter_items args)) c.args.key c.args.door c.args.disk c.args.porter was was code left)) (sym c.in-Ok.is)
    (starved c.unbegun.ensures.code
    (subst (λ left. LeavesUnused c.args.door c.args.disk c.args.porter was was left) (sym c.unbegun.ensures.left) (untouched c.args.door c.args.disk c.args.porter was)))

-- the words behind the first are those of the command
pub returns-in-Ok-behind_first-clause-words : goal.returns-in-Ok-behind_first-clause-words
returns-in-Ok-behind_first-clause-words g c =
    let input = c.args.input.now in let output = c.args.output.now in let input' = c.answer.new.input in let output' = c.answer.new.output in
    let was = outside (g.I.Source.gives input) (g.I.Source.has_ended input) (g.O.Sink.takes output) in
    let now = outside (g.I.Source.gives input') (g.I.Source.has_ended input') (g.O.Sink.takes output') in
    let code = exit_status c.answer.result.code in let view = g.D.Disk.view in let faults = g.D.Disk.faults in
    let doors = g.B.Door.tells in let porters = g.P.Porter.tells in let left = c.answer.result.left in
    subst (λ words. IfOk words (λ args. Exits view faults doors porters (drop 1 (into_iter_items args)) c.args.key c.args.door c.args.disk c.args.porter was now code left)) (sym c.in-Ok.is)
    (subst (λ words. Exits view faults doors porters words c.args.key c.args.door c.args.disk c.args.porter was now code left) (c.deref.ensures.value ∙ c.in-Ok-behind_first.ensures) c.answer.ensures)

-- words that are no text are none
pub returns-in-Err-clause-no_text : goal.returns-in-Err-clause-no_text
returns-in-Err-clause-no_text g c =
    let input = c.args.input.now in let output = c.args.output.now in let input' = c.answer-in-Err.new.input in let output' = c.answer-in-Err.new.output in
    let was = outside (g.I.Source.gives input) (g.I.Source.has_ended input) (g.O.Sink.takes output) in
    let now = outside (g.I.Source.gives input') (g.I.Source.has_ended input') (g.O.Sink.takes output') in
    let code = exit_status c.answer-in-Err.result.code in let view = g.D.Disk.view in let faults = g.D.Disk.faults in
    let doors = g.B.Door.tells in let porters = g.P.Porter.tells in let left = c.answer-in-Err.result.left in
    subst (λ words. IfErr words (λ error. error_kind error ≡ _ → Exits view faults doors porters [] c.args.key c.args.door c.args.disk c.args.porter was now code left)) (sym c.in-Err.is)
    (λ _. c.answer-in-Err.ensures)
