use Rattle.std.proofs.Common.{◌≡◌, true, sym, ap, ◌∙◌}
use Rattle.dcr_base.specs.Link.{links_of}
use Rattle.dcr_order.proofs.TellLemmas.{rest_from, one_ends, one_fits, one_has_last, one_no_fault, last_entry}
use Rattle.dcr_order.proofs.ordering.Ordering.ask_one.Goals as goal

pub returns-then-not-tell-clause-led : goal.returns-then-not-tell-clause-led
returns-then-not-tell-clause-led g c = λ first led.
    rest_from (links_of g.P.Link.Source.gives g.P.Link.Sink.takes g.P.Link.Rest.Spent.unread g.P.Link.Rest.Spent.sent) g.N.PorterName.links g.N.PorterName.back g.N.PorterName.greets
    g.N.ClusterName.cluster first c.tell.new.self.node c.withdraw.new.self c.tell.new.self.places.items (g.P.Porter.tells.back c.tell.new.self.porter) c.withdraw.ensures (c.tell.ensures.led first led)

pub unreachable-requires : goal.unreachable-requires
unreachable-requires g c =
    let told : c.tell.result ≡ true = cc in
    let asks = c.requires.asks in
    let a = c.journal.ensures.journal in
    let b = c.last.ensures in
    one_has_last c.args.self.now.node c.tell.new.self.node asks.0 c.args.i asks.1 asks.2 (λ asked of. c.tell.ensures.heard asks.0 asked told asks.1 of) (ap last_entry (sym a) ∙ sym b ∙ c.in_default.is)

pub returns-clause-ends : goal.returns-clause-ends
returns-clause-ends g c = λ p out one.
    let told : c.tell.result ≡ true = cc in
    let a = c.journal.ensures.journal in
    let b = c.last.ensures in
    one_ends c.args.self.now.node c.tell.new.self.node p c.args.i c.in-Some.entry out one (λ asked of. c.tell.ensures.heard p asked told out of) (sym c.in-Some.is ∙ b ∙ ap last_entry a)

pub returns-clause-no_fault : goal.returns-clause-no_fault
returns-clause-no_fault g c =
    let told : c.tell.result ≡ true = cc in
    let asks = c.requires.asks in
    let a = c.journal.ensures.journal in
    let b = c.last.ensures in
    one_no_fault c.args.self.now.node c.tell.new.self.node asks.0 c.args.i c.in-Some.entry asks.1 asks.2 (λ asked of. c.tell.ensures.heard asks.0 asked told asks.1 of)
    (sym c.in-Some.is ∙ b ∙ ap last_entry a)

pub returns-clause-fits : goal.returns-clause-fits
returns-clause-fits g c = λ p out one.
    let told : c.tell.result ≡ true = cc in
    let a = c.journal.ensures.journal in
    let b = c.last.ensures in
    one_fits c.args.self.now.node c.tell.new.self.node p c.args.i c.in-Some.entry out one (λ asked of. c.tell.ensures.heard p asked told out of) (sym c.in-Some.is ∙ b ∙ ap last_entry a)
