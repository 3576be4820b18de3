use Rattle.std.proofs.Common.{ap, subst, arith}
use Rattle.dcr_base.specs.Link.{links_of}
use Rattle.dcr_wire.specs.Laws.{sent_question, sent_answer}
use Rattle.dcr_wire.specs.declared.question.Question.{Question}
use Rattle.dcr_order.specs.Going.{Answers}
use Rattle.dcr_order.specs.Tending.{answered, is_away}
use Rattle.dcr_order.proofs.TendLemmas.{ends_away, gathers_from, ordering_ended, ordering_has_room, ordering_many, ordering_sites, ordering_told}
use Rattle.dcr_order.proofs.ordering.Ordering.tell_end.Goals as goal

pub question-question-requires : goal.question-question-requires
question-question-requires g c =
    let stands = c.requires.stands in
    let many = ordering_sites g.D.Disk.view g.D.Disk.faults (links_of g.P.Link.Source.gives g.P.Link.Sink.takes g.P.Link.Rest.Spent.unread g.P.Link.Rest.Spent.sent) g.N.PorterName.links g.N.PorterName.back g.N.PorterName.greets g.N.ClusterName.cluster g.N.TurnName.turn g.N.StoreName.first stands.0 c.args.self.now.node c.args.self.now.places.items (g.P.Porter.tells.back c.args.self.now.porter) c.args.self.now.store stands.1 in
    let site = c.requires.site in omega arith

pub answer-requires-clause-site : goal.answer-requires-clause-site
answer-requires-clause-site g c =
    let stands = c.requires.stands in
    let many = ordering_sites g.D.Disk.view g.D.Disk.faults (links_of g.P.Link.Source.gives g.P.Link.Sink.takes g.P.Link.Rest.Spent.unread g.P.Link.Rest.Spent.sent) g.N.PorterName.links g.N.PorterName.back g.N.PorterName.greets g.N.ClusterName.cluster g.N.TurnName.turn g.N.StoreName.first stands.0 c.args.self.now.node c.args.self.now.places.items (g.P.Porter.tells.back c.args.self.now.porter) c.args.self.now.store stands.1 in
    let site = c.requires.site in omega arith

pub answer-requires-clause-places : goal.answer-requires-clause-places
answer-requires-clause-places g c =
    let stands = c.requires.stands in
    ordering_has_room g.D.Disk.view g.D.Disk.faults (links_of g.P.Link.Source.gives g.P.Link.Sink.takes g.P.Link.Rest.Spent.unread g.P.Link.Rest.Spent.sent) g.N.PorterName.links g.N.PorterName.back g.N.PorterName.greets g.N.ClusterName.cluster g.N.TurnName.turn g.N.StoreName.first stands.0 c.args.self.now.node c.args.self.now.places.items (g.P.Porter.tells.back c.args.self.now.porter) c.args.self.now.store stands.1

pub returns-in_default-clause-stands : goal.returns-in_default-clause-stands
returns-in_default-clause-stands g c = λ J stands.
    ordering_ended g.D.Disk.view g.D.Disk.faults (links_of g.P.Link.Source.gives g.P.Link.Sink.takes g.P.Link.Rest.Spent.unread g.P.Link.Rest.Spent.sent) g.N.PorterName.links g.N.PorterName.back g.N.PorterName.greets g.N.ClusterName.cluster g.N.TurnName.turn g.N.StoreName.first J c.args.self.now.node c.args.self.now.places.items (g.P.Porter.tells.back c.args.self.now.porter) c.args.self.now.store stands c.args.i c.answer.new.self.node c.answer.new.self.places.items (g.P.Porter.tells.back c.answer.new.self.porter) c.answer.new.self.store c.answer.ensures.node c.answer.ensures.store c.in_default.ensures.ended

pub returns-in_default-clause-only : goal.returns-in_default-clause-only
returns-in_default-clause-only g c = (c.args.self.now.node.gathered, c.answer.ensures.node)

pub returns-in_default-clause-away : goal.returns-in_default-clause-away
returns-in_default-clause-away g c = λ result.
    let stands = c.requires.stands in
    let many = ordering_many g.D.Disk.view g.D.Disk.faults (links_of g.P.Link.Source.gives g.P.Link.Sink.takes g.P.Link.Rest.Spent.unread g.P.Link.Rest.Spent.sent) g.N.PorterName.links g.N.PorterName.back g.N.PorterName.greets g.N.ClusterName.cluster g.N.TurnName.turn g.N.StoreName.first stands.0 c.args.self.now.node c.args.self.now.places.items (g.P.Porter.tells.back c.args.self.now.porter) c.args.self.now.store stands.1 in
    let site = c.requires.site in
    (c.answer.ensures.node, ends_away (links_of g.P.Link.Source.gives g.P.Link.Sink.takes g.P.Link.Rest.Spent.unread g.P.Link.Rest.Spent.sent) c.args.i c.args.self.now.places.items c.answer.new.self.places.items (g.P.Porter.tells.back c.args.self.now.porter) (g.P.Porter.tells.back c.answer.new.self.porter) (omega arith) c.in_default.ensures.ended)

pub returns-in_default-clause-asked : goal.returns-in_default-clause-asked
returns-in_default-clause-asked g c = is_away c.in_default.ensures.ended

pub returns-clause-stands : goal.returns-clause-stands
returns-clause-stands g c = λ J stands.
    ordering_told g.D.Disk.view g.D.Disk.faults (links_of g.P.Link.Source.gives g.P.Link.Sink.takes g.P.Link.Rest.Spent.unread g.P.Link.Rest.Spent.sent) g.N.PorterName.links g.N.PorterName.back g.N.PorterName.greets g.N.ClusterName.cluster g.N.TurnName.turn g.N.StoreName.first J c.args.self.now.node c.args.self.now.places.items (g.P.Porter.tells.back c.args.self.now.porter) c.args.self.now.store stands c.args.i c.args.asked c.question-question.result c.in-Some.answer c.answer.new.self.node c.hear.new.self c.answer.new.self.places.items (g.P.Porter.tells.back c.answer.new.self.porter) c.answer.new.self.store
    c.requires.site c.question-question.ensures c.in-Some.ensures.answer c.in-Some.ensures.answers.0 (ap g.P.Porter.tells.back c.in-Some.ensures.answers.1) c.answer.ensures.node c.hear.ensures
    c.answer.ensures.store

pub returns-clause-only : goal.returns-clause-only
returns-clause-only g c =
    let stands = c.requires.stands in
    let from = gathers_from g.D.Disk.view g.D.Disk.faults (links_of g.P.Link.Source.gives g.P.Link.Sink.takes g.P.Link.Rest.Spent.unread g.P.Link.Rest.Spent.sent) g.N.PorterName.links g.N.PorterName.back g.N.PorterName.greets g.N.ClusterName.cluster g.N.TurnName.turn g.N.StoreName.first stands.0 c.args.self.now.node c.args.self.now.places.items (g.P.Porter.tells.back c.args.self.now.porter) c.args.self.now.store stands.1 c.args.i c.args.asked c.question-question.result c.in-Some.answer c.answer.new.self.node c.hear.new.self c.question-question.ensures c.in-Some.ensures.answer
    c.answer.ensures.node c.hear.ensures in
    (_, from.is)

pub returns-clause-told : goal.returns-clause-told
returns-clause-told g c = λ result.
    let stands = c.requires.stands in
    gathers_from g.D.Disk.view g.D.Disk.faults (links_of g.P.Link.Source.gives g.P.Link.Sink.takes g.P.Link.Rest.Spent.unread g.P.Link.Rest.Spent.sent) g.N.PorterName.links g.N.PorterName.back g.N.PorterName.greets g.N.ClusterName.cluster g.N.TurnName.turn g.N.StoreName.first stands.0 c.args.self.now.node c.args.self.now.places.items (g.P.Porter.tells.back c.args.self.now.porter) c.args.self.now.store stands.1 c.args.i c.args.asked c.question-question.result c.in-Some.answer c.answer.new.self.node c.hear.new.self c.question-question.ensures c.in-Some.ensures.answer
    c.answer.ensures.node c.hear.ensures

pub returns-clause-asked : goal.returns-clause-asked
returns-clause-asked g c =
    answered c.in-Some.answer
    (subst (λ (q : Question). Answers (links_of g.P.Link.Source.gives g.P.Link.Sink.takes g.P.Link.Rest.Spent.unread g.P.Link.Rest.Spent.sent) c.args.self.now.node c.args.i (sent_question q) (sent_answer c.in-Some.answer) c.args.self.now.places.items c.answer.new.self.places.items) c.question-question.ensures c.in-Some.ensures.answers.0)
    (ap g.P.Porter.tells.back c.in-Some.ensures.answers.1)
