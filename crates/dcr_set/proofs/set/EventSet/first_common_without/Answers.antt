use Rattle.std.proofs.Common.{◌&&◌, not, ap, ◌∙◌}
use Rattle.dcr_set.specs.EventSet.{has}
use Rattle.dcr_set.proofs.StandsLemmas.{stands, first_member, and_all}
use Rattle.dcr_set.proofs.set.EventSet.first_common_without.Goals as goal

pub returns : goal.returns
returns c =
    let s = c.args.self.now in let t = c.args.inside.now in let u = c.args.outside.now in
    let whole = stands c.self.inside s c.self.invariant c.self.view_is in
    let inside = stands c.inside.inside t c.inside.invariant c.inside.view_is in
    let outside = stands c.outside.inside u c.outside.invariant c.outside.view_is in
    c.event.ensures ∙ c.lowest_without.ensures
    ∙ first_member c.self.inside.room _ _ (λ k. has s k && (has t k && not (has u k))) whole.room_is
    (λ k. and_all (whole.members k) (inside.members k) (ap not (outside.members k)))
