use Rattle.std.proofs.Common.{refl, ◌∙◌, arith}
use Rattle.dcr_base.specs.Link.{links_of}
use Rattle.dcr_order.proofs.BehindLemmas.{behind_further, behind_same}
use Rattle.dcr_order.proofs.TendLemmas.{only_further, ordering_many, told_kept_sites, told_more_sites}
use Rattle.dcr_order.proofs.ordering.Ordering.gather.Goals as goal

pub overflow_cast-sites : goal.overflow_cast-sites
overflow_cast-sites g c =
    let many = ordering_many g.D.Disk.view g.D.Disk.faults (links_of g.P.Link.Source.gives g.P.Link.Sink.takes g.P.Link.Rest.Spent.unread g.P.Link.Rest.Spent.sent) g.N.PorterName.links g.N.PorterName.back g.N.PorterName.greets g.N.ClusterName.cluster g.N.TurnName.turn g.N.StoreName.first c.requires.stands.0 c.args.self.now.node c.args.self.now.places.items (g.P.Porter.tells.back c.args.self.now.porter) c.args.self.now.store c.requires.stands.1 in
    let most = c.requires.named.most_sites in
    let sites = c.len-sites.ensures in omega arith

pub loop-number-init : goal.loop-number-init
loop-number-init g c = (
  λ J stands. stands,
  (c.args.self.now.node.gathered, refl),
  λ i one below there. absurd (omega arith),
  behind_same (links_of g.P.Link.Source.gives g.P.Link.Sink.takes g.P.Link.Rest.Spent.unread g.P.Link.Rest.Spent.sent) c.args.self.now.places.items (g.P.Porter.tells.back c.args.self.now.porter),
  refl,
  refl,
  refl,
)

pub tells-requires-clause-site : goal.tells-requires-clause-site
tells-requires-clause-site g c =
    let many = ordering_many g.D.Disk.view g.D.Disk.faults (links_of g.P.Link.Source.gives g.P.Link.Sink.takes g.P.Link.Rest.Spent.unread g.P.Link.Rest.Spent.sent) g.N.PorterName.links g.N.PorterName.back g.N.PorterName.greets g.N.ClusterName.cluster g.N.TurnName.turn g.N.StoreName.first c.requires.stands.0 c.args.self.now.node c.args.self.now.places.items (g.P.Porter.tells.back c.args.self.now.porter) c.args.self.now.store c.requires.stands.1 in
    let most = c.requires.named.most_sites in
    let sites = c.len-sites.ensures in
    let test = c.loop-number-test.true in omega arith

pub tells-requires-clause-stands : goal.tells-requires-clause-stands
tells-requires-clause-stands g c = (c.requires.stands.0, c.loop-number.invariant.0 c.requires.stands.0 c.requires.stands.1)

pub returns-then-not-tells-clause-stands : goal.returns-then-not-tells-clause-stands
returns-then-not-tells-clause-stands g c = λ J stands. c.tells.ensures.stands J (c.loop-number.invariant.0 J stands)

pub returns-then-not-tells-clause-node : goal.returns-then-not-tells-clause-node
returns-then-not-tells-clause-node g c = only_further c.args.self.now.node c.loop-number.self.node c.tells.new.self.node c.loop-number.invariant.1 c.tells.ensures.more.only

pub returns-then-not-tells-clause-before : goal.returns-then-not-tells-clause-before
returns-then-not-tells-clause-before g c = told_kept_sites c.loop-number.self.node c.tells.new.self.node c.loop-number.number c.tells.ensures.more c.loop-number.invariant.2

pub returns-then-not-tells-clause-away : goal.returns-then-not-tells-clause-away
returns-then-not-tells-clause-away g c =
    let many = ordering_many g.D.Disk.view g.D.Disk.faults (links_of g.P.Link.Source.gives g.P.Link.Sink.takes g.P.Link.Rest.Spent.unread g.P.Link.Rest.Spent.sent) g.N.PorterName.links g.N.PorterName.back g.N.PorterName.greets g.N.ClusterName.cluster g.N.TurnName.turn g.N.StoreName.first c.requires.stands.0 c.args.self.now.node c.args.self.now.places.items (g.P.Porter.tells.back c.args.self.now.porter) c.args.self.now.store c.requires.stands.1 in
    let most = c.requires.named.most_sites in
    let sites = c.len-sites.ensures in
    let test = c.loop-number-test.true in
    let away = c.tells.ensures.away c.if-not-tells.true in
    (omega arith, away.0, away.1)

pub returns-then-not-tells-clause-behind : goal.returns-then-not-tells-clause-behind
returns-then-not-tells-clause-behind g c =
    behind_further (links_of g.P.Link.Source.gives g.P.Link.Sink.takes g.P.Link.Rest.Spent.unread g.P.Link.Rest.Spent.sent) c.args.self.now.places.items c.loop-number.self.places.items c.tells.new.self.places.items (g.P.Porter.tells.back c.args.self.now.porter) (g.P.Porter.tells.back c.loop-number.self.porter) (g.P.Porter.tells.back c.tells.new.self.porter) c.loop-number.invariant.3 c.tells.ensures.behind

pub loop-number-preserved : goal.loop-number-preserved
loop-number-preserved g c = (
  λ J stands. c.tells.ensures.stands J (c.loop-number.invariant.0 J stands),
  only_further c.args.self.now.node c.loop-number.self.node c.tells.new.self.node c.loop-number.invariant.1 c.tells.ensures.more.only,
  told_more_sites c.loop-number.self.node c.tells.new.self.node c.loop-number.number c.tells.ensures.more (c.tells.ensures.told c.if-not-tells.false) c.loop-number.invariant.2,
  behind_further (links_of g.P.Link.Source.gives g.P.Link.Sink.takes g.P.Link.Rest.Spent.unread g.P.Link.Rest.Spent.sent) c.args.self.now.places.items c.loop-number.self.places.items c.tells.new.self.places.items (g.P.Porter.tells.back c.args.self.now.porter) (g.P.Porter.tells.back c.loop-number.self.porter) (g.P.Porter.tells.back c.tells.new.self.porter) c.loop-number.invariant.3 c.tells.ensures.behind,
  c.tells.ensures.given ∙ c.loop-number.invariant.4,
  c.tells.ensures.links ∙ c.loop-number.invariant.5,
  c.tells.ensures.faults ∙ c.loop-number.invariant.6,
)

pub returns-clause-all : goal.returns-clause-all
returns-clause-all g c = λ i one below there.
    let many = ordering_many g.D.Disk.view g.D.Disk.faults (links_of g.P.Link.Source.gives g.P.Link.Sink.takes g.P.Link.Rest.Spent.unread g.P.Link.Rest.Spent.sent) g.N.PorterName.links g.N.PorterName.back g.N.PorterName.greets g.N.ClusterName.cluster g.N.TurnName.turn g.N.StoreName.first c.requires.stands.0 c.args.self.now.node c.args.self.now.places.items (g.P.Porter.tells.back c.args.self.now.porter) c.args.self.now.store c.requires.stands.1 in
    let most = c.requires.named.most_sites in
    let sites = c.len-sites.ensures in
    let test = c.loop-number-test.false in
    c.loop-number.invariant.2 i one (omega arith) there
