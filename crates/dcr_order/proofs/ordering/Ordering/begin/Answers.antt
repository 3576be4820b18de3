use Rattle.std.proofs.Common.{List, length, sym, ap, ◌∙◌}
use Rattle.dcr_set.specs.EventSet.{Set}
use Rattle.dcr_base.specs.Link.{links_of}
use Rattle.dcr_node.specs.JournalState.{JournalState}
use Rattle.dcr_order.proofs.BeginLemmas.{given_none, old_proposal, ordering_begins}
use Rattle.dcr_order.proofs.ordering.Ordering.begin.Goals as goal

pub enter_all-requires-clause-possible : goal.enter_all-requires-clause-possible
enter_all-requires-clause-possible g c =
    old_proposal g.N.ClusterName.cluster g.N.TurnName.turn.sessions c.args.sessions c.args.network.now c.args.old.now c.in-Ok.node c.requires.named.some_site c.requires.network c.requires.old c.requires.sound c.in-Ok.ensures

pub returns-clause-stands : goal.returns-clause-stands
returns-clause-stands g c =
    let are = ap (λ (j : JournalState). j.alphabets) c.in-Ok.ensures in
    ordering_begins g.D.Disk.view g.D.Disk.faults (links_of g.P.Link.Source.gives g.P.Link.Sink.takes g.P.Link.Rest.Spent.unread g.P.Link.Rest.Spent.sent) g.N.PorterName.links g.N.PorterName.back g.N.PorterName.greets g.N.ClusterName.cluster g.N.TurnName.turn g.N.StoreName.first c.requires.named c.requires.sound c.in-Ok.node.alphabets c.args.sessions c.args.old.now c.enter_all.new.node c.in-Ok-all_away.places.items (g.P.Porter.tells.back c.args.porter) c.args.store
    c.sites-sites.result (are ∙ c.requires.network) c.requires.sessions c.requires.old c.enter_all.ensures c.in-Ok-all_away.ensures (c.sites-sites.ensures.sites ∙ sym (ap (λ (A : List Set). length A) are)) c.requires.back
    c.requires.store

pub returns-clause-given : goal.returns-clause-given
returns-clause-given g c = given_none g.N.PorterName.links (g.P.Porter.tells.links c.args.porter) c.requires.links
