use Rattle.std.proofs.Common.{◌&&◌, ◌∙◌}
use Rattle.dcr_set.specs.EventSet.{has}
use Rattle.dcr_set.proofs.StandsLemmas.{stands, first_member, and_all}
use Rattle.dcr_set.proofs.set.EventSet.first_common_three.Goals as goal

pub returns : goal.returns
returns c =
    let s = c.args.self.now in let t = c.args.second.now in let u = c.args.third.now in
    let whole = stands c.self.inside s c.self.invariant c.self.view_is in
    let second = stands c.second.inside t c.second.invariant c.second.view_is in
    let third = stands c.third.inside u c.third.invariant c.third.view_is in
    c.event.ensures ∙ c.lowest_of_three.ensures
    ∙ first_member c.self.inside.room _ _ (λ k. has s k && (has t k && has u k)) whole.room_is (λ k. and_all (whole.members k) (second.members k) (third.members k))
