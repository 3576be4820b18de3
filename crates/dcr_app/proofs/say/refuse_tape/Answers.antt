use Rattle.std.proofs.Common.{◌≡◌, inl, inr, refl, sym, subst, ◌∙◌}
use Rattle.std.specs.Prelude.{⊤}
use Rattle.dcr_base.specs.declared.status.Status.{Status}
use Rattle.dcr_base.specs.declared.status.Status.TheVariants.{TapeRefused}
use Rattle.dcr_base.specs.Side.{Side}
use Rattle.dcr_tape.specs.Opening.{IsShown}
use Rattle.dcr_tape.specs.declared.cause.TapeCause.{TapeCause}
use Rattle.dcr_tape.specs.declared.cause.TapeCause.TheVariants as cause
use Rattle.dcr_app.specs.Outside.{Wrote}
use Rattle.dcr_app.specs.Stored.{EndsFor, tape_line, tape_lost, tape_starved, tape_told}
use Rattle.dcr_app.proofs.OutsideLemmas.{adds_nothing, any_ok, told_line}
use Rattle.dcr_app.proofs.say.refuse_tape.Goals as goal

-- a cause that is shown is told by its line
shown : (why found : TapeCause) (status : Status) (had took : Side) → why ≡ found → IsShown found → Wrote TapeRefused (tape_line found) status had took → EndsFor why status had took
shown why found status had took is shows wrote = subst (λ (w : TapeCause). EndsFor w status had took) (sym is) (tape_told shows wrote)

pub returns-in-DiskFault : goal.returns-in-DiskFault
returns-in-DiskFault g c = tape_lost c.in-DiskFault.is refl (adds_nothing (g.O.Sink.takes c.args.output.now))

pub returns-in-NoMemory : goal.returns-in-NoMemory
returns-in-NoMemory g c = tape_starved (λ e. let wrong : cause.NoMemory ≡ cause.DiskFault = sym c.in-NoMemory.is ∙ e in cc) (refl, adds_nothing (g.O.Sink.takes c.args.output.now))

pub returns-in-NotTape : goal.returns-in-NotTape
returns-in-NotTape g c = shown _ _ _ _ _ c.in-NotTape.is tt c.say.ensures.wrote

pub returns-in-OtherGraph : goal.returns-in-OtherGraph
returns-in-OtherGraph g c = shown _ _ _ _ _ c.in-OtherGraph.is tt c.say-in-OtherGraph.ensures.wrote

pub returns-in-Long : goal.returns-in-Long
returns-in-Long g c = shown _ _ _ _ _ c.in-Long.is tt c.say-in-Long.ensures.wrote

pub returns-in-BadTape : goal.returns-in-BadTape
returns-in-BadTape g c =
    let had = g.O.Sink.takes c.args.output.now in let took = g.O.Sink.takes c.tell.new.output in let found = cause.BadTape c.in-BadTape.at in
    elim (told_line c.numbered-line.result (λ line. line.items) (tape_line found) ⊤ TapeRefused c.tell.result had took c.numbered-line.ensures (any_ok c.numbered-line.result) c.tell.ensures) [
      | inl starved ↦ tape_starved (λ e. let wrong : cause.BadTape c.in-BadTape.at ≡ cause.DiskFault = sym c.in-BadTape.is ∙ e in cc) starved
      | inr it ↦ shown c.args.cause found c.tell.result had took c.in-BadTape.is tt it.1
    ]
