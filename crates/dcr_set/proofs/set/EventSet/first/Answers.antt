use Rattle.std.proofs.Common.{◌∙◌}
use Rattle.dcr_set.specs.EventSet.{has}
use Rattle.dcr_set.proofs.StandsLemmas.{stands, first_member}
use Rattle.dcr_set.proofs.set.EventSet.first.Goals as goal

pub returns : goal.returns
returns c =
    let s = c.args.self.now in let whole = stands c.self.inside s c.self.invariant c.self.view_is in
    c.event.ensures ∙ c.lowest_of.ensures ∙ first_member c.self.inside.room _ _ (has s) whole.room_is whole.members
