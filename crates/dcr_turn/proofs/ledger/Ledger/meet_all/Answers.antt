use Rattle.std.proofs.Common.{◌∷◌, ◌∙◌, subst}
use Rattle.std.proofs.lemmas.List.Elements.{All-cons}
use Rattle.dcr_turn.specs.LedgerValue.{LedgerValue}
use Rattle.dcr_turn.specs.PassValue.{PassValue, HasMadeAll}
use Rattle.dcr_turn.proofs.GivingOut.{taken_more}
use Rattle.dcr_turn.proofs.ledger.Ledger.meet_all.Goals as goal

pub loop-pass-preserved : goal.loop-pass-preserved
loop-pass-preserved g c = record {
  same = c.meet.ensures.same ∙ c.loop-pass.invariant.same;
  taken = c.in-Some.pass ∷ c.loop-pass.invariant.taken;
  whole = taken_more c.args.passes.items c.loop-pass.passes.items c.pop.new.self.items c.loop-pass.invariant.taken c.in-Some.pass c.loop-pass.invariant.whole c.in-Some.ensures.items;
  seen = All-cons (λ (pass : PassValue). HasMadeAll pass c.args.self.now.entries) c.in-Some.pass c.loop-pass.invariant.taken
      (subst (λ (d : LedgerValue). HasMadeAll c.in-Some.pass d.entries) c.loop-pass.invariant.same c.meet.ensures.seen) c.loop-pass.invariant.seen;
}
