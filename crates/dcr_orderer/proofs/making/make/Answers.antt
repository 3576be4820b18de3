use Rattle.std.proofs.Common.{length, refl, sym, ap, ◌∙◌, arith}
use Rattle.dcr_base.specs.Link.{links_of}
use Rattle.dcr_journal.specs.Run.{HasNoFault, made_by}
use Rattle.dcr_journal.specs.declared.call.Entry.{Entry}
use Rattle.dcr_turn.specs.Pushing.{EndsWithoutFault, entry_of}
use Rattle.dcr_turn.proofs.Faults.{no_fault_at_end}
use Rattle.dcr_orderer.proofs.MakingLemmas.{entered_one, no_fault_in, none_hear, shows_full, stays}
use Rattle.dcr_orderer.proofs.making.make.Goals as goal

pub returns-then-spare-eq0-clause-unmade : goal.returns-then-spare-eq0-clause-unmade
returns-then-spare-eq0-clause-unmade g c =
    let J = c.args.guard.now.entries in
    let ends : EndsWithoutFault J = no_fault_at_end J (sym c.is_faulted.ensures ∙ c.if-is_faulted.false) in (
      stays J c.args.pass.now c.requires.seen c.requires.met,
      shows_full g.D.Disk.view g.D.Disk.faults (links_of g.P.Link.Source.gives g.P.Link.Sink.takes g.P.Link.Rest.Spent.unread g.P.Link.Rest.Spent.sent) g.N.PorterName.links g.N.PorterName.back g.N.PorterName.greets
          g.N.ClusterName.cluster g.N.TurnName.turn g.N.StoreName.first J c.args.guard.now.kept.node c.args.guard.now.kept.places.items (g.P.Porter.tells.back c.args.guard.now.kept.porter) c.args.guard.now.kept.store
          c.requires.stands c.args.pass.now g.N.TurnName.capacity c.seen-then-spare-eq0.result c.spare.result ends c.requires.met c.seen-then-spare-eq0.ensures c.spare.ensures c.if-spare-eq0.true,
    )

pub order-told-requires-clause-ready : goal.order-told-requires-clause-ready
order-told-requires-clause-ready g c =
    let J = c.args.guard.now.entries in
    let ends : EndsWithoutFault J = no_fault_at_end J (sym c.is_faulted.ensures ∙ c.if-is_faulted.false) in
    let none : HasNoFault J = no_fault_in g.D.Disk.view g.D.Disk.faults (links_of g.P.Link.Source.gives g.P.Link.Sink.takes g.P.Link.Rest.Spent.unread g.P.Link.Rest.Spent.sent) g.N.PorterName.links g.N.PorterName.back g.N.PorterName.greets
    g.N.ClusterName.cluster g.N.TurnName.turn g.N.StoreName.first J c.args.guard.now.kept.node c.args.guard.now.kept.places.items (g.P.Porter.tells.back c.args.guard.now.kept.porter) c.args.guard.now.kept.store c.requires.stands ends in
    let lent = sym c.kept.ensures.value in
    let room = c.spare.ensures in
    let spared = c.if-spare-eq0.false in
    (J, rw lent at c.requires.stands, none, omega arith)

pub push-requires-clause-hear : goal.push-requires-clause-hear
push-requires-clause-hear g c =
    none_hear g.N.TurnName.turn.alphabets (length g.N.ClusterName.cluster.owned) c.args.guard.now.enlisted c.args.call.now c.in-Ok.outcome c.requires.named.alphabets

pub returns-in-Err-clause-stands : goal.returns-in-Err-clause-stands
returns-in-Err-clause-stands g c =
    let J = c.args.guard.now.entries in
    let ends : EndsWithoutFault J = no_fault_at_end J (sym c.is_faulted.ensures ∙ c.if-is_faulted.false) in
    let none : HasNoFault J = no_fault_in g.D.Disk.view g.D.Disk.faults (links_of g.P.Link.Source.gives g.P.Link.Sink.takes g.P.Link.Rest.Spent.unread g.P.Link.Rest.Spent.sent) g.N.PorterName.links g.N.PorterName.back g.N.PorterName.greets
    g.N.ClusterName.cluster g.N.TurnName.turn g.N.StoreName.first J c.args.guard.now.kept.node c.args.guard.now.kept.places.items (g.P.Porter.tells.back c.args.guard.now.kept.porter) c.args.guard.now.kept.store c.requires.stands ends in
    let lent = sym c.kept.ensures.value in
    c.in-Err.ensures.away J (rw lent at c.requires.stands) none

pub returns-in-Ok-clause-stands : goal.returns-in-Ok-clause-stands
returns-in-Ok-clause-stands g c =
    let J = c.args.guard.now.entries in
    let ends : EndsWithoutFault J = no_fault_at_end J (sym c.is_faulted.ensures ∙ c.if-is_faulted.false) in
    let none : HasNoFault J = no_fault_in g.D.Disk.view g.D.Disk.faults (links_of g.P.Link.Source.gives g.P.Link.Sink.takes g.P.Link.Rest.Spent.unread g.P.Link.Rest.Spent.sent) g.N.PorterName.links g.N.PorterName.back g.N.PorterName.greets
    g.N.ClusterName.cluster g.N.TurnName.turn g.N.StoreName.first J c.args.guard.now.kept.node c.args.guard.now.kept.places.items (g.P.Porter.tells.back c.args.guard.now.kept.porter) c.args.guard.now.kept.store c.requires.stands ends in
    let lent = sym c.kept.ensures.value in
    let entry : Entry = entry_of c.args.pass.now c.args.call.now c.in-Ok.outcome in
    let made = c.in-Ok.ensures.made J entry (rw lent at c.requires.stands) none (sym c.session-session.ensures.session)
    (c.requires.seen.made ∙ ap (λ n. made_by n J) (sym c.session-session.ensures.session)) refl refl in
    rw c.push.ensures.entries made.1

pub returns-in-Ok-clause-made : goal.returns-in-Ok-clause-made
returns-in-Ok-clause-made g c =
    let J = c.args.guard.now.entries in
    let ends : EndsWithoutFault J = no_fault_at_end J (sym c.is_faulted.ensures ∙ c.if-is_faulted.false) in
    let none : HasNoFault J = no_fault_in g.D.Disk.view g.D.Disk.faults (links_of g.P.Link.Source.gives g.P.Link.Sink.takes g.P.Link.Rest.Spent.unread g.P.Link.Rest.Spent.sent) g.N.PorterName.links g.N.PorterName.back g.N.PorterName.greets
    g.N.ClusterName.cluster g.N.TurnName.turn g.N.StoreName.first J c.args.guard.now.kept.node c.args.guard.now.kept.places.items (g.P.Porter.tells.back c.args.guard.now.kept.porter) c.args.guard.now.kept.store c.requires.stands ends in
    let lent = sym c.kept.ensures.value in
    let entry : Entry = entry_of c.args.pass.now c.args.call.now c.in-Ok.outcome in
    let made = c.in-Ok.ensures.made J entry (rw lent at c.requires.stands) none (sym c.session-session.ensures.session)
    (c.requires.seen.made ∙ ap (λ n. made_by n J) (sym c.session-session.ensures.session)) refl refl in
    entered_one g.D.Disk.view g.D.Disk.faults (links_of g.P.Link.Source.gives g.P.Link.Sink.takes g.P.Link.Rest.Spent.unread g.P.Link.Rest.Spent.sent) g.N.PorterName.links g.N.PorterName.back g.N.PorterName.greets
    g.N.ClusterName.cluster g.N.TurnName.turn g.N.StoreName.first g.N.TurnName.capacity J c.args.pass.now c.push.new.pass c.args.call.now c.in-Ok.outcome c.order-told.new.self.node c.order-told.new.self.places.items (g.P.Porter.tells.back c.order-told.new.self.porter) c.order-told.new.self.store
    c.spare.result c.push.new.self.entries c.requires.seen none c.spare.ensures c.if-spare-eq0.false made.0 made.1 c.push.ensures.session c.push.ensures.made c.push.ensures.front
    (ap (λ guard. guard.entries) c.push.ensures.entries)
