use Rattle.std.proofs.Common.{◌∷◌, ◌∙◌, subst}
use Rattle.std.proofs.lemmas.List.Elements.{All-cons}
use Rattle.dcr_turn.specs.FrontValue.{FrontValue, HasMissedNone}
use Rattle.dcr_turn.proofs.GivingOut.{taken_more}
use Rattle.dcr_turn.proofs.ledger.Ledger.enlist_all.Goals as goal

pub loop-front-preserved : goal.loop-front-preserved
loop-front-preserved g c = record {
  entries = c.enlist.ensures.entries ∙ c.loop-front.invariant.entries;
  taken = c.in-Some.front ∷ c.loop-front.invariant.taken;
  whole = taken_more c.args.fronts.items c.loop-front.fronts.items c.pop.new.self.items c.loop-front.invariant.taken c.in-Some.front c.loop-front.invariant.whole c.in-Some.ensures.items;
  seen = All-cons (λ (front : FrontValue). HasMissedNone g.N.TurnName.turn front c.args.self.now.entries) c.in-Some.front c.loop-front.invariant.taken
      (subst (HasMissedNone g.N.TurnName.turn c.in-Some.front) c.loop-front.invariant.entries c.enlist.ensures.seen) c.loop-front.invariant.seen;
}
