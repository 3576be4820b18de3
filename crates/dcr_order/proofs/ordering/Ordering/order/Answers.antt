use Rattle.std.proofs.Common.{Option, Some, None, refl, ap, subst, arith}
use Rattle.dcr_base.specs.Link.{links_of}
use Rattle.dcr_journal.specs.declared.call.Outcome.{Outcome}
use Rattle.dcr_node.specs.JournalState.{JournalState}
use Rattle.dcr_node.specs.declared.journal_node.Proposal.{Proposal}
use Rattle.dcr_order.specs.Calling.{IsStoredWith, told_by}
use Rattle.dcr_order.specs.Orders.{begun_journal}
use Rattle.dcr_order.proofs.OrderLemmas.{entry_fits, fault_was_voted, ordering_is_free, is_with_out, nothing_told_yet, proposal_is, proposing_from, may_keep, if_ok_is, if_err_is, ends_from, ordering_more, ordering_rests}
use Rattle.dcr_order.proofs.ordering.Ordering.order.Goals as goal

pub propose_call-requires : goal.propose_call-requires
propose_call-requires g c =
    let stands = c.requires.ready.1 in
    proposal_is g.N.ClusterName.cluster c.args.self.now.node g.N.TurnName.turn.sessions c.args.session c.args.call.now stands.alphabets stands.sessions c.requires.session c.requires.named.some_site
    c.requires.call

pub ask-requires-clause-out : goal.ask-requires-clause-out
ask-requires-clause-out g c =
    let ready = c.requires.ready in
    let free = ordering_is_free g.D.Disk.view g.D.Disk.faults (links_of g.P.Link.Source.gives g.P.Link.Sink.takes g.P.Link.Rest.Spent.unread g.P.Link.Rest.Spent.sent) g.N.PorterName.links g.N.PorterName.back g.N.PorterName.greets g.N.ClusterName.cluster g.N.TurnName.turn g.N.StoreName.first ready.0 c.args.self.now.node c.args.self.now.places.items (g.P.Porter.tells.back c.args.self.now.porter) c.args.self.now.store
    ready.1 g.N.TurnName.capacity ready.2 ready.3 c.requires.room in
    let p : Proposal = record { session = c.args.session; call = c.args.call.now } in
    let out = is_with_out c.args.self.now.node c.propose_call.new.self p c.propose_call.ensures.state free in
    (p, ap (λ (n : JournalState). n.out) out, refl)

pub ask-requires-clause-nothing : goal.ask-requires-clause-nothing
ask-requires-clause-nothing g c =
    let ready = c.requires.ready in
    let free = ordering_is_free g.D.Disk.view g.D.Disk.faults (links_of g.P.Link.Source.gives g.P.Link.Sink.takes g.P.Link.Rest.Spent.unread g.P.Link.Rest.Spent.sent) g.N.PorterName.links g.N.PorterName.back g.N.PorterName.greets g.N.ClusterName.cluster g.N.TurnName.turn g.N.StoreName.first ready.0 c.args.self.now.node c.args.self.now.places.items (g.P.Porter.tells.back c.args.self.now.porter) c.args.self.now.store
    ready.1 g.N.TurnName.capacity ready.2 ready.3 c.requires.room in
    let p : Proposal = record { session = c.args.session; call = c.args.call.now } in
    let out = is_with_out c.args.self.now.node c.propose_call.new.self p c.propose_call.ensures.state free in
    nothing_told_yet c.args.self.now.node c.propose_call.new.self p out

pub ask-requires-clause-led : goal.ask-requires-clause-led
ask-requires-clause-led g c =
    let p : Proposal = record { session = c.args.session; call = c.args.call.now } in
    let begun = begun_journal g.N.ClusterName.cluster g.N.TurnName.turn.sessions in (
      begun,
      proposing_from (links_of g.P.Link.Source.gives g.P.Link.Sink.takes g.P.Link.Rest.Spent.unread g.P.Link.Rest.Spent.sent) g.N.PorterName.links g.N.PorterName.back g.N.PorterName.greets g.N.ClusterName.cluster begun c.args.self.now.node c.propose_call.new.self c.args.self.now.places.items
          (g.P.Porter.tells.back c.args.self.now.porter) p c.requires.call c.propose_call.ensures.state c.requires.ready.1.led,
    )

pub ask-requires-clause-can : goal.ask-requires-clause-can
ask-requires-clause-can g c =
    let ready = c.requires.ready in
    let room = ready.3 in
    let most = c.requires.room in
    may_keep g.D.Disk.view g.D.Disk.faults g.N.StoreName.first g.N.ClusterName.cluster.old ready.0 c.args.self.now.store ready.1.stored ready.2 (omega arith) (omega arith)

pub returns-clause-made : goal.returns-clause-made
returns-clause-made g c = if_ok_is c.ask.result _ (λ outcome told J entry stands none session seq call tells.
    let ready = c.requires.ready in
    let free = ordering_is_free g.D.Disk.view g.D.Disk.faults (links_of g.P.Link.Source.gives g.P.Link.Sink.takes g.P.Link.Rest.Spent.unread g.P.Link.Rest.Spent.sent) g.N.PorterName.links g.N.PorterName.back g.N.PorterName.greets g.N.ClusterName.cluster g.N.TurnName.turn g.N.StoreName.first ready.0 c.args.self.now.node c.args.self.now.places.items (g.P.Porter.tells.back c.args.self.now.porter) c.args.self.now.store
    ready.1 g.N.TurnName.capacity ready.2 ready.3 c.requires.room in
    let p : Proposal = record { session = c.args.session; call = c.args.call.now } in
    let out = is_with_out c.args.self.now.node c.propose_call.new.self p c.propose_call.ensures.state free in
    let ends = ends_from c.args.self.now.node c.propose_call.new.self c.ask.new.self.node p (Some outcome) (told_by c.ask.result) out told (c.ask.ensures.ends p (ap (λ (n : JournalState). n.out) out) refl) in
    let stored = subst (λ (t : Option Outcome). IsStoredWith g.D.Disk.view g.D.Disk.faults g.N.StoreName.first g.N.ClusterName.cluster.old c.args.self.now.store c.ask.new.self.store c.args.call.now t) told c.ask.ensures.stored in
    let begun = begun_journal g.N.ClusterName.cluster g.N.TurnName.turn.sessions in (
      (stored J stands.stored none).0,
      ordering_more g.D.Disk.view g.D.Disk.faults (links_of g.P.Link.Source.gives g.P.Link.Sink.takes g.P.Link.Rest.Spent.unread g.P.Link.Rest.Spent.sent) g.N.PorterName.links g.N.PorterName.back g.N.PorterName.greets g.N.ClusterName.cluster g.N.TurnName.turn g.N.StoreName.first J c.args.self.now.node c.args.self.now.places.items (g.P.Porter.tells.back c.args.self.now.porter) c.args.self.now.store
          stands c.ask.new.self.node c.ask.new.self.places.items (g.P.Porter.tells.back c.ask.new.self.porter) c.ask.new.self.store p outcome entry none c.requires.session ends stored
          (λ led. c.ask.ensures.led begun (proposing_from (links_of g.P.Link.Source.gives g.P.Link.Sink.takes g.P.Link.Rest.Spent.unread g.P.Link.Rest.Spent.sent) g.N.PorterName.links g.N.PorterName.back g.N.PorterName.greets g.N.ClusterName.cluster begun c.args.self.now.node c.propose_call.new.self c.args.self.now.places.items
          (g.P.Porter.tells.back c.args.self.now.porter) p c.requires.call c.propose_call.ensures.state led)) session seq call tells
          (entry_fits g.N.ClusterName.cluster c.args.self.now.node c.propose_call.new.self p entry c.ask.result outcome stands.alphabets c.requires.named.some_site out c.requires.call told c.ask.ensures.fits call tells)
          (fault_was_voted (links_of g.P.Link.Source.gives g.P.Link.Sink.takes g.P.Link.Rest.Spent.unread g.P.Link.Rest.Spent.sent) g.N.PorterName.links g.N.PorterName.back g.N.PorterName.greets g.N.ClusterName.cluster
          c.args.self.now.node c.propose_call.new.self c.ask.new.self.node p c.ask.result outcome c.ask.new.self.places.items (g.P.Porter.tells.back c.ask.new.self.porter) _ out told ends c.ask.ensures.fits c.ask.ensures.voted),
    ))

pub returns-clause-away : goal.returns-clause-away
returns-clause-away g c = if_err_is c.ask.result _ (λ told J stands none.
    let ready = c.requires.ready in
    let free = ordering_is_free g.D.Disk.view g.D.Disk.faults (links_of g.P.Link.Source.gives g.P.Link.Sink.takes g.P.Link.Rest.Spent.unread g.P.Link.Rest.Spent.sent) g.N.PorterName.links g.N.PorterName.back g.N.PorterName.greets g.N.ClusterName.cluster g.N.TurnName.turn g.N.StoreName.first ready.0 c.args.self.now.node c.args.self.now.places.items (g.P.Porter.tells.back c.args.self.now.porter) c.args.self.now.store
    ready.1 g.N.TurnName.capacity ready.2 ready.3 c.requires.room in
    let p : Proposal = record { session = c.args.session; call = c.args.call.now } in
    let out = is_with_out c.args.self.now.node c.propose_call.new.self p c.propose_call.ensures.state free in
    let rests = ends_from c.args.self.now.node c.propose_call.new.self c.ask.new.self.node p None (told_by c.ask.result) out told (c.ask.ensures.ends p (ap (λ (n : JournalState). n.out) out) refl) in
    let stored = subst (λ (t : Option Outcome). IsStoredWith g.D.Disk.view g.D.Disk.faults g.N.StoreName.first g.N.ClusterName.cluster.old c.args.self.now.store c.ask.new.self.store c.args.call.now t) told c.ask.ensures.stored in
    let begun = begun_journal g.N.ClusterName.cluster g.N.TurnName.turn.sessions in
    ordering_rests g.D.Disk.view g.D.Disk.faults (links_of g.P.Link.Source.gives g.P.Link.Sink.takes g.P.Link.Rest.Spent.unread g.P.Link.Rest.Spent.sent) g.N.PorterName.links g.N.PorterName.back g.N.PorterName.greets g.N.ClusterName.cluster g.N.TurnName.turn g.N.StoreName.first J c.args.self.now.node c.args.self.now.places.items (g.P.Porter.tells.back c.args.self.now.porter) c.args.self.now.store
    stands c.ask.new.self.node c.ask.new.self.places.items (g.P.Porter.tells.back c.ask.new.self.porter) c.ask.new.self.store rests stored none
    (λ led. c.ask.ensures.led begun (proposing_from (links_of g.P.Link.Source.gives g.P.Link.Sink.takes g.P.Link.Rest.Spent.unread g.P.Link.Rest.Spent.sent) g.N.PorterName.links g.N.PorterName.back g.N.PorterName.greets g.N.ClusterName.cluster begun c.args.self.now.node c.propose_call.new.self c.args.self.now.places.items
    (g.P.Porter.tells.back c.args.self.now.porter) p c.requires.call c.propose_call.ensures.state led)))
