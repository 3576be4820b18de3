-- The sites so far have told, and nothing else has changed but links.
use Rattle.std.proofs.Common.{◌≡◌, length, Some}
use Rattle.dcr_base.specs.Link.{links_of}
use Rattle.dcr_journal.specs.declared.call.Call.TheVariants.{Accepting}
use Rattle.dcr_node.specs.JournalState.{JournalState}
use Rattle.dcr_node.specs.declared.journal_node.Proposal.{Proposal}
use Rattle.dcr_order.specs.Linked.{IsLedFrom}
use Rattle.dcr_order.proofs.AcceptLemmas.{AllHeard}
use Rattle.dcr_order.proofs.ordering.Ordering.ask_all.Given as goal

abbrev pub invariant-loop-number : goal.invariant-loop-number
invariant-loop-number g l =
    ((first : JournalState) → IsLedFrom (links_of g.P.Link.Source.gives g.P.Link.Sink.takes g.P.Link.Rest.Spent.unread g.P.Link.Rest.Spent.sent) g.N.PorterName.links g.N.PorterName.back g.N.PorterName.greets
    g.N.ClusterName.cluster first l.initial.self.node l.initial.self.places.items (g.P.Porter.tells.back l.initial.self.porter)
    → IsLedFrom (links_of g.P.Link.Source.gives g.P.Link.Sink.takes g.P.Link.Rest.Spent.unread g.P.Link.Rest.Spent.sent) g.N.PorterName.links g.N.PorterName.back g.N.PorterName.greets
    g.N.ClusterName.cluster first l.self.node l.self.places.items (g.P.Porter.tells.back l.self.porter))
    × ((p : Proposal) → l.initial.self.node.out ≡ Some p → p.call ≡ Accepting → AllHeard l.initial.self.node p l.self.node l.number)
    × (l.self.node.alphabets ≡ l.initial.self.node.alphabets)
    × (l.self.store ≡ l.initial.self.store)
    × (l.self.given ≡ l.initial.self.given)
    × (g.P.Porter.tells.links l.self.porter ≡ g.P.Porter.tells.links l.initial.self.porter)
    × (g.P.Porter.tells.faults l.self.porter ≡ g.P.Porter.tells.faults l.initial.self.porter)
    × (length l.self.places.items ≡ length l.initial.self.places.items)
