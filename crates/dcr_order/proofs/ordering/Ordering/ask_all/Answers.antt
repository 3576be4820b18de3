use Rattle.std.proofs.Common.{◌≡◌, ◌<◌, true, false, length, sym, ap, ◌∙◌, arith}
use Rattle.dcr_base.specs.Link.{links_of}
use Rattle.dcr_journal.specs.declared.call.Call.{Call}
use Rattle.dcr_wire.specs.declared.question.Asked.TheVariants.{Waits}
use Rattle.dcr_node.specs.JournalState.{JournalState, asks_of, withdrawn}
use Rattle.dcr_order.proofs.AcceptLemmas.{one_heard, collected_rests, all_ends, all_fits, all_has_last, all_no_fault}
use Rattle.dcr_order.proofs.LinkLemmas.{room_to_tell}
use Rattle.dcr_order.proofs.TellLemmas.{rest_from, last_entry}
use Rattle.dcr_order.proofs.ordering.Ordering.ask_all.Goals as goal

pub tell-requires-clause-asks : goal.tell-requires-clause-asks
tell-requires-clause-asks g c =
    let asks = c.requires.asks in
    let room = (room_to_tell (links_of g.P.Link.Source.gives g.P.Link.Sink.takes g.P.Link.Rest.Spent.unread g.P.Link.Rest.Spent.sent) g.N.PorterName.links g.N.PorterName.back g.N.PorterName.greets
    g.N.ClusterName.cluster c.args.self.now.node c.args.self.now.places.items (g.P.Porter.tells.back c.args.self.now.porter) c.requires.sites c.requires.led).many in
    let sites = c.len-sites.ensures in
    let test = c.loop-number-test.true in
    let below : c.loop-number.number < length c.args.self.now.node.alphabets = omega arith in
    let collected = (c.loop-number.invariant.1 asks.0 asks.1 asks.2).some below in (
      asks.0,
      Waits,
      ap (λ (n : JournalState). n.out) collected.is ∙ asks.1,
      ap (λ (call : Call). asks_of call c.loop-number.number) asks.2,
    )

pub returns-then-not-tell-clause-led : goal.returns-then-not-tell-clause-led
returns-then-not-tell-clause-led g c = λ first led.
    rest_from (links_of g.P.Link.Source.gives g.P.Link.Sink.takes g.P.Link.Rest.Spent.unread g.P.Link.Rest.Spent.sent) g.N.PorterName.links g.N.PorterName.back g.N.PorterName.greets
    g.N.ClusterName.cluster first c.tell.new.self.node c.withdraw.new.self c.tell.new.self.places.items (g.P.Porter.tells.back c.tell.new.self.porter) c.withdraw.ensures
    (c.tell.ensures.led first (c.loop-number.invariant.0 first led))

pub returns-then-not-tell-clause-away : goal.returns-then-not-tell-clause-away
returns-then-not-tell-clause-away g c =
    let asks = c.requires.asks in
    let room = (room_to_tell (links_of g.P.Link.Source.gives g.P.Link.Sink.takes g.P.Link.Rest.Spent.unread g.P.Link.Rest.Spent.sent) g.N.PorterName.links g.N.PorterName.back g.N.PorterName.greets
    g.N.ClusterName.cluster c.args.self.now.node c.args.self.now.places.items (g.P.Porter.tells.back c.args.self.now.porter) c.requires.sites c.requires.led).many in
    let sites = c.len-sites.ensures in
    let test = c.loop-number-test.true in
    let many = c.requires.sites in
    let below : c.loop-number.number < length c.args.self.now.node.alphabets = omega arith in
    let away : c.tell.result ≡ false = cc in
    let same = c.tell.ensures.away away in
    let collected = (c.loop-number.invariant.1 asks.0 asks.1 asks.2).some below in
    (omega arith, collected_rests c.args.self.now.node c.loop-number.self.node c.withdraw.new.self c.loop-number.number collected (c.withdraw.ensures ∙ ap withdrawn same))

pub loop-number-preserved : goal.loop-number-preserved
loop-number-preserved g c =
    let room = (room_to_tell (links_of g.P.Link.Source.gives g.P.Link.Sink.takes g.P.Link.Rest.Spent.unread g.P.Link.Rest.Spent.sent) g.N.PorterName.links g.N.PorterName.back g.N.PorterName.greets
    g.N.ClusterName.cluster c.args.self.now.node c.args.self.now.places.items (g.P.Porter.tells.back c.args.self.now.porter) c.requires.sites c.requires.led).many in
    let sites = c.len-sites.ensures in
    let test = c.loop-number-test.true in
    let below : c.loop-number.number < length c.args.self.now.node.alphabets = omega arith in
    let told : c.tell.result ≡ true = cc in (
      λ first led. c.tell.ensures.led first (c.loop-number.invariant.0 first led),
      λ p out accepting.
          let collected = (c.loop-number.invariant.1 p out accepting).some below in
          one_heard c.args.self.now.node p out accepting c.loop-number.self.node c.tell.new.self.node c.loop-number.number collected below
          (c.tell.ensures.heard p Waits told (ap (λ (n : JournalState). n.out) collected.is ∙ out) (ap (λ (call : Call). asks_of call c.loop-number.number) accepting)),
      c.tell.ensures.alphabets ∙ c.loop-number.invariant.2,
      c.tell.ensures.store ∙ c.loop-number.invariant.3,
      c.tell.ensures.given ∙ c.loop-number.invariant.4,
      c.tell.ensures.links ∙ c.loop-number.invariant.5,
      c.tell.ensures.faults ∙ c.loop-number.invariant.6,
      c.tell.ensures.many ∙ c.loop-number.invariant.7,
    )

pub unreachable-requires : goal.unreachable-requires
unreachable-requires g c =
    let asks = c.requires.asks in
    let room = (room_to_tell (links_of g.P.Link.Source.gives g.P.Link.Sink.takes g.P.Link.Rest.Spent.unread g.P.Link.Rest.Spent.sent) g.N.PorterName.links g.N.PorterName.back g.N.PorterName.greets
    g.N.ClusterName.cluster c.args.self.now.node c.args.self.now.places.items (g.P.Porter.tells.back c.args.self.now.porter) c.requires.sites c.requires.led).many in
    let sites = c.len-sites.ensures in
    let a = c.journal.ensures.journal in
    let b = c.last.ensures in
    all_has_last c.args.self.now.node c.loop-number.self.node asks.0 c.loop-number.number (c.loop-number.invariant.1 asks.0 asks.1 asks.2) (omega arith) (ap last_entry (sym a) ∙ sym b ∙ c.in_default.is)

pub returns-clause-ends : goal.returns-clause-ends
returns-clause-ends g c = λ p out accepting.
    let room = (room_to_tell (links_of g.P.Link.Source.gives g.P.Link.Sink.takes g.P.Link.Rest.Spent.unread g.P.Link.Rest.Spent.sent) g.N.PorterName.links g.N.PorterName.back g.N.PorterName.greets
    g.N.ClusterName.cluster c.args.self.now.node c.args.self.now.places.items (g.P.Porter.tells.back c.args.self.now.porter) c.requires.sites c.requires.led).many in
    let sites = c.len-sites.ensures in
    let a = c.journal.ensures.journal in
    let b = c.last.ensures in
    all_ends c.args.self.now.node c.loop-number.self.node p c.loop-number.number c.in-Some.entry (c.loop-number.invariant.1 p out accepting) (omega arith) (sym c.in-Some.is ∙ b ∙ ap last_entry a)

pub returns-clause-no_fault : goal.returns-clause-no_fault
returns-clause-no_fault g c =
    let asks = c.requires.asks in
    let room = (room_to_tell (links_of g.P.Link.Source.gives g.P.Link.Sink.takes g.P.Link.Rest.Spent.unread g.P.Link.Rest.Spent.sent) g.N.PorterName.links g.N.PorterName.back g.N.PorterName.greets
    g.N.ClusterName.cluster c.args.self.now.node c.args.self.now.places.items (g.P.Porter.tells.back c.args.self.now.porter) c.requires.sites c.requires.led).many in
    let sites = c.len-sites.ensures in
    let a = c.journal.ensures.journal in
    let b = c.last.ensures in
    all_no_fault c.args.self.now.node c.loop-number.self.node asks.0 c.loop-number.number c.in-Some.entry (c.loop-number.invariant.1 asks.0 asks.1 asks.2) (omega arith) (sym c.in-Some.is ∙ b ∙ ap last_entry a)

pub returns-clause-fits : goal.returns-clause-fits
returns-clause-fits g c =
    let asks = c.requires.asks in
    let room = (room_to_tell (links_of g.P.Link.Source.gives g.P.Link.Sink.takes g.P.Link.Rest.Spent.unread g.P.Link.Rest.Spent.sent) g.N.PorterName.links g.N.PorterName.back g.N.PorterName.greets
    g.N.ClusterName.cluster c.args.self.now.node c.args.self.now.places.items (g.P.Porter.tells.back c.args.self.now.porter) c.requires.sites c.requires.led).many in
    let sites = c.len-sites.ensures in
    let a = c.journal.ensures.journal in
    let b = c.last.ensures in
    all_fits c.args.self.now.node c.loop-number.self.node asks.0 c.loop-number.number c.in-Some.entry (c.loop-number.invariant.1 asks.0 asks.1 asks.2) (omega arith) (sym c.in-Some.is ∙ b ∙ ap last_entry a)
