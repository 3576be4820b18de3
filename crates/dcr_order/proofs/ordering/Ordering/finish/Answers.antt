use Rattle.std.proofs.Common.{◌<◌, ℕ, length, map, refl, sym, ap, subst, ◌∙◌, arith}
use Rattle.dcr_base.specs.Link.{links_of}
use Rattle.dcr_node.specs.Gathering.{waits_told}
use Rattle.dcr_node.specs.JournalState.{JournalState}
use Rattle.dcr_node.specs.declared.gathered.Gathered.{Gathered}
use Rattle.std.specs.Prelude.{slice_get}
use Rattle.dcr_order.specs.Tending.{HaveTold}
use Rattle.dcr_order.proofs.CloseLemmas.{ends_as_the_graph}
use Rattle.dcr_order.proofs.EndLemmas.{all_have_told}
use Rattle.dcr_order.proofs.TendLemmas.{ordering_gone, ordering_many, ordering_places}
use Rattle.dcr_order.proofs.ordering.Ordering.finish.Goals as goal

pub unreachable-requires : goal.unreachable-requires
unreachable-requires g c =
    let stands = c.requires.stands in
    let places = ordering_places g.D.Disk.view g.D.Disk.faults (links_of g.P.Link.Source.gives g.P.Link.Sink.takes g.P.Link.Rest.Spent.unread g.P.Link.Rest.Spent.sent) g.N.PorterName.links g.N.PorterName.back g.N.PorterName.greets g.N.ClusterName.cluster g.N.TurnName.turn g.N.StoreName.first stands.0 c.args.self.node c.args.self.places.items (g.P.Porter.tells.back c.args.self.porter) c.args.self.store stands.1 in
    let node = c.args.self.node in
    let told : HaveTold node (length node.gathered) = subst (λ (n : ℕ). HaveTold node n) (sym places) c.requires.told in
    let waits = c.waits_told.ensures ∙ ap (λ (j : JournalState). waits_told j.gathered) c.end_all.ensures.node in
    all_have_told node told (sym waits ∙ c.in_default.is)

pub marks_told-requires-clause-told : goal.marks_told-requires-clause-told
marks_told-requires-clause-told g c = λ i one below there.
    let stands = c.requires.stands in
    let many = ordering_many g.D.Disk.view g.D.Disk.faults (links_of g.P.Link.Source.gives g.P.Link.Sink.takes g.P.Link.Rest.Spent.unread g.P.Link.Rest.Spent.sent) g.N.PorterName.links g.N.PorterName.back g.N.PorterName.greets g.N.ClusterName.cluster g.N.TurnName.turn g.N.StoreName.first stands.0 c.args.self.node c.args.self.places.items (g.P.Porter.tells.back c.args.self.porter) c.args.self.store stands.1 in
    let sites = c.len-sites.ensures in
    let within : i < length g.N.ClusterName.cluster.owned = omega arith in
    c.requires.told i one within (sym (ap (λ (j : JournalState). slice_get j.gathered i) c.end_all.ensures.node) ∙ there)

pub returns-clause-stands : goal.returns-clause-stands
returns-clause-stands g c = λ J stands.
    ordering_gone g.D.Disk.view g.D.Disk.faults (links_of g.P.Link.Source.gives g.P.Link.Sink.takes g.P.Link.Rest.Spent.unread g.P.Link.Rest.Spent.sent) g.N.PorterName.links g.N.PorterName.back g.N.PorterName.greets g.N.ClusterName.cluster g.N.TurnName.turn g.N.StoreName.first J c.args.self.node c.args.self.places.items (g.P.Porter.tells.back c.args.self.porter) c.args.self.store stands (length g.N.ClusterName.cluster.owned) c.args.self.node c.end_all.new.self.places.items (g.P.Porter.tells.back c.end_all.new.self.porter) c.end_all.new.self.store refl c.end_all.ensures.store c.end_all.ensures.away refl c.end_all.ensures.behind

pub returns-clause-graph : goal.returns-clause-graph
returns-clause-graph g c = λ J since stands sessions came speak.
    let gone = ordering_gone g.D.Disk.view g.D.Disk.faults (links_of g.P.Link.Source.gives g.P.Link.Sink.takes g.P.Link.Rest.Spent.unread g.P.Link.Rest.Spent.sent) g.N.PorterName.links g.N.PorterName.back g.N.PorterName.greets g.N.ClusterName.cluster g.N.TurnName.turn g.N.StoreName.first J c.args.self.node c.args.self.places.items (g.P.Porter.tells.back c.args.self.porter) c.args.self.store stands (length g.N.ClusterName.cluster.owned) c.args.self.node c.end_all.new.self.places.items (g.P.Porter.tells.back c.end_all.new.self.porter) c.end_all.new.self.store refl c.end_all.ensures.store c.end_all.ensures.away refl c.end_all.ensures.behind in
    ends_as_the_graph g.D.Disk.view g.D.Disk.faults (links_of g.P.Link.Source.gives g.P.Link.Sink.takes g.P.Link.Rest.Spent.unread g.P.Link.Rest.Spent.sent) g.N.PorterName.links g.N.PorterName.back g.N.PorterName.greets g.N.ClusterName.cluster g.N.TurnName.turn g.N.StoreName.first J c.args.self.node (length g.N.ClusterName.cluster.owned) (g.P.Porter.tells.back c.end_all.new.self.porter) c.end_all.new.self.store gone sessions since came speak c.marks_told.result c.in-Some.waits
    (c.marks_told.ensures ∙ ap (λ (j : JournalState). map (λ (one : Gathered). one.marks) j.gathered) c.end_all.ensures.node)
    (sym c.in-Some.is ∙ c.waits_told.ensures ∙ ap (λ (j : JournalState). waits_told j.gathered) c.end_all.ensures.node)
