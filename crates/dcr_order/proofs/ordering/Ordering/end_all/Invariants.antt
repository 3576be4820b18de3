-- The sites so far are away, and no link is lost.
use Rattle.std.proofs.Common.{◌≡◌, length, replicate, take}
use Rattle.dcr_base.specs.Link.{links_of}
use Rattle.dcr_order.specs.Behind.{IsBehind}
use Rattle.dcr_order.specs.declared.place.Place.TheVariants.{Away}
use Rattle.dcr_order.proofs.ordering.Ordering.end_all.Given as goal

abbrev pub invariant-loop-number : goal.invariant-loop-number
invariant-loop-number g l =
    (l.self.node ≡ l.initial.self.node)
    × (l.self.store ≡ l.initial.self.store)
    × (length l.self.places.items ≡ length l.initial.self.places.items)
    × (take l.number l.self.places.items ≡ replicate l.number Away)
    × IsBehind (links_of g.P.Link.Source.gives g.P.Link.Sink.takes g.P.Link.Rest.Spent.unread g.P.Link.Rest.Spent.sent) l.initial.self.places.items (g.P.Porter.tells.back l.initial.self.porter) l.self.places.items (g.P.Porter.tells.back l.self.porter)
    × (l.self.given ≡ l.initial.self.given)
    × (g.P.Porter.tells.links l.self.porter ≡ g.P.Porter.tells.links l.initial.self.porter)
    × (g.P.Porter.tells.faults l.self.porter ≡ g.P.Porter.tells.faults l.initial.self.porter)
