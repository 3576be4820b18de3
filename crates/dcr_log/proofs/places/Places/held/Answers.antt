use Rattle.std.proofs.Common.{get_or, ap, ◌∙◌}
use Rattle.std.proofs.lemmas.Grind.{get_or_default_zero}
use Rattle.dcr_log.proofs.places.Places.held.Goals as goal

pub returns : goal.returns
returns c = c.index.ensures ∙ (get_or_default_zero c.args.self.now.slots.items c.slot_of.result c.index.result.now c.slot_of.ensures.within ∙ ap (λ n. get_or c.args.self.now.slots.items n 0) c.slot_of.ensures.slot)
