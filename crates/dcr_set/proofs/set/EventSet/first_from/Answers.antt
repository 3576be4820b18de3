use Rattle.std.proofs.Common.{◌&&◌, leb, ap, ◌∙◌}
use Rattle.dcr_set.specs.EventSet.{has}
use Rattle.dcr_set.proofs.StandsLemmas.{stands, first_member}
use Rattle.dcr_set.proofs.set.EventSet.first_from.Goals as goal

pub returns : goal.returns
returns c =
    let s = c.args.self.now in let whole = stands c.self.inside s c.self.invariant c.self.view_is in
    c.event.ensures ∙ c.first_set.ensures
    ∙ first_member c.self.inside.room _ _ (λ k. has s k && leb c.args.from k) whole.room_is (λ k. ap (λ b. b && leb c.args.from k) (whole.members k))
