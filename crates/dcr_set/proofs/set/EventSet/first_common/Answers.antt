use Rattle.std.proofs.Common.{◌&&◌, ap, ◌∙◌}
use Rattle.dcr_set.specs.EventSet.{has}
use Rattle.dcr_set.specs.Bits.{bit}
use Rattle.dcr_set.proofs.StandsLemmas.{stands, first_member}
use Rattle.dcr_set.proofs.set.EventSet.first_common.Goals as goal

pub returns : goal.returns
returns c =
    let s = c.args.self.now in let t = c.args.other.now in
    let whole = stands c.self.inside s c.self.invariant c.self.view_is in
    let also = stands c.other.inside t c.other.invariant c.other.view_is in
    c.event.ensures ∙ c.lowest_common.ensures
    ∙ first_member c.self.inside.room _ _ (λ k. has s k && has t k) whole.room_is
    (λ k. ap (λ b. b && bit c.other.inside.words k) (whole.members k) ∙ ap (λ b. has s k && b) (also.members k))
