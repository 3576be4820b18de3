use Rattle.std.proofs.Common.{length, sym, ap, subst, ◌∙◌}
use Rattle.dcr_base.specs.Link.{links_of}
use Rattle.dcr_proj.specs.CoverValue.{atoms_of}
use Rattle.dcr_journal.specs.declared.call.Call.TheVariants.{Exec}
use Rattle.dcr_wire.specs.Laws.{sent_message}
use Rattle.dcr_wire.specs.declared.message.Message.TheVariants.{Vote}
use Rattle.dcr_node.specs.JournalState.{IsWithin, JournalMayTake}
use Rattle.dcr_order.specs.Calling.{FitsCall}
use Rattle.dcr_order.proofs.CallLemmas.{voting_from, vote_ends}
use Rattle.dcr_order.proofs.LinkLemmas.{ends_answered, room_to_tell}
use Rattle.dcr_order.proofs.FitLemmas.{decided_fits}
use Rattle.dcr_order.proofs.VotedLemmas.{vote_was_had}
use Rattle.dcr_order.proofs.TellLemmas.{away_from, rest_from}
use Rattle.dcr_order.proofs.ordering.Ordering.execute.Goals as goal

pub returns-in_default-vote-clause-led : goal.returns-in_default-vote-clause-led
returns-in_default-vote-clause-led g c = λ first led.
    rest_from (links_of g.P.Link.Source.gives g.P.Link.Sink.takes g.P.Link.Rest.Spent.unread g.P.Link.Rest.Spent.sent) g.N.PorterName.links g.N.PorterName.back g.N.PorterName.greets
    g.N.ClusterName.cluster first c.vote.new.self.node c.withdraw.new.self c.vote.new.self.places.items (g.P.Porter.tells.back c.vote.new.self.porter) c.withdraw.ensures
    (away_from (links_of g.P.Link.Source.gives g.P.Link.Sink.takes g.P.Link.Rest.Spent.unread g.P.Link.Rest.Spent.sent) g.N.PorterName.links g.N.PorterName.back g.N.PorterName.greets
    g.N.ClusterName.cluster first c.args.self.now.node c.vote.new.self.node c.args.self.now.places.items c.vote.new.self.places.items (g.P.Porter.tells.back c.args.self.now.porter)
    (g.P.Porter.tells.back c.vote.new.self.porter) c.args.i c.vote.ensures.node c.in_default-vote.ensures.ended led)

pub returns-then-not-may_enter-clause-led : goal.returns-then-not-may_enter-clause-led
returns-then-not-may_enter-clause-led g c = λ first led.
    let ended = rw c.in-Some-vote.ensures.answers.1 at (rw c.may_enter.ensures.porter at (rw c.may_enter.ensures.places at c.end.ensures.ended)) in
    rest_from (links_of g.P.Link.Source.gives g.P.Link.Sink.takes g.P.Link.Rest.Spent.unread g.P.Link.Rest.Spent.sent) g.N.PorterName.links g.N.PorterName.back g.N.PorterName.greets
    g.N.ClusterName.cluster first c.end.new.self.node c.withdraw-then-not-may_enter.new.self c.end.new.self.places.items (g.P.Porter.tells.back c.end.new.self.porter)
    c.withdraw-then-not-may_enter.ensures
    (away_from (links_of g.P.Link.Source.gives g.P.Link.Sink.takes g.P.Link.Rest.Spent.unread g.P.Link.Rest.Spent.sent) g.N.PorterName.links g.N.PorterName.back g.N.PorterName.greets
    g.N.ClusterName.cluster first c.args.self.now.node c.end.new.self.node c.args.self.now.places.items c.end.new.self.places.items (g.P.Porter.tells.back c.args.self.now.porter)
    (g.P.Porter.tells.back c.end.new.self.porter) c.args.i (c.end.ensures.node ∙ c.may_enter.ensures.node ∙ c.vote.ensures.node)
    (ends_answered (links_of g.P.Link.Source.gives g.P.Link.Sink.takes g.P.Link.Rest.Spent.unread g.P.Link.Rest.Spent.sent) c.args.self.now.node c.args.i (sent_message c.in-Some.ask) (sent_message c.in-Some-vote.vote) c.args.self.now.places.items c.vote.new.self.places.items
    c.end.new.self.places.items (g.P.Porter.tells.back c.args.self.now.porter) (g.P.Porter.tells.back c.end.new.self.porter) c.in-Some-vote.ensures.answers.0 ended) led)

pub returns-clause-led : goal.returns-clause-led
returns-clause-led g c = λ first led.
    rw c.may_enter.ensures.places (rw c.may_enter.ensures.porter (rw c.in-Some-vote.ensures.answers.1 (
    voting_from (links_of g.P.Link.Source.gives g.P.Link.Sink.takes g.P.Link.Rest.Spent.unread g.P.Link.Rest.Spent.sent) g.N.PorterName.links g.N.PorterName.back g.N.PorterName.greets
    g.N.ClusterName.cluster first c.args.self.now.node c.may_enter.new.self.node c.step.new.self c.args.self.now.places.items c.vote.new.self.places.items
    (g.P.Porter.tells.back c.args.self.now.porter) c.args.i c.args.e c.in-Some.ask c.in-Some-vote.vote c.requires.site c.requires.out (sym c.in-Some.is ∙ c.ask.ensures)
    c.in-Some-vote.ensures.vote c.in-Some-vote.ensures.answers.0 (c.may_enter.ensures.node ∙ c.vote.ensures.node) c.step.ensures led)))

pub returns-clause-ends : goal.returns-clause-ends
returns-clause-ends g c = λ session out.
    let vote = c.in-Some-vote.ensures.vote in
    vote_ends c.args.self.now.node c.may_enter.new.self.node c.step.new.self session c.args.i c.args.e c.in-Some-vote.vote vote c.decision_in-decision.result c.of_decision.result out c.step.ensures
    (c.may_enter.ensures.node ∙ c.vote.ensures.node) (c.decision_in-decision.ensures _ _ vote.decision vote.is) c.of_decision.ensures

pub vote-requires-clause-places : goal.vote-requires-clause-places
vote-requires-clause-places g c =
    room_to_tell (links_of g.P.Link.Source.gives g.P.Link.Sink.takes g.P.Link.Rest.Spent.unread g.P.Link.Rest.Spent.sent) g.N.PorterName.links g.N.PorterName.back g.N.PorterName.greets
    g.N.ClusterName.cluster c.args.self.now.node c.args.self.now.places.items (g.P.Porter.tells.back c.args.self.now.porter) c.requires.sites c.requires.led

pub returns-then-not-may_enter-clause-voted : goal.returns-then-not-may_enter-clause-voted
returns-then-not-may_enter-clause-voted g c = λ fault session out.
    let ended = rw c.in-Some-vote.ensures.answers.1 at (rw c.may_enter.ensures.porter at (rw c.may_enter.ensures.places at c.end.ensures.ended)) in
    let vote = c.in-Some-vote.ensures.vote in
    let enabled = sym (c.decision_in-decision.ensures _ _ vote.decision vote.is) ∙ c.may_enter.ensures.refused c.if-not-may_enter.true in
    vote_was_had (links_of g.P.Link.Source.gives g.P.Link.Sink.takes g.P.Link.Rest.Spent.unread g.P.Link.Rest.Spent.sent) g.N.PorterName.links g.N.PorterName.back g.N.PorterName.greets
    g.N.ClusterName.cluster c.requires.led.0 c.args.self.now.node c.args.self.now.places.items c.vote.new.self.places.items c.end.new.self.places.items
    (g.P.Porter.tells.back c.args.self.now.porter) (g.P.Porter.tells.back c.end.new.self.porter) session c.args.i c.args.e c.in-Some.ask c.in-Some-vote.vote out
    (sym c.in-Some.is ∙ c.ask.ensures) (vote.is ∙ ap (Vote (length c.args.self.now.node.history.entries) c.args.i) enabled) c.in-Some-vote.ensures.answers.0 ended c.requires.led.1

pub returns-clause-fits : goal.returns-clause-fits
returns-clause-fits g c =
    let vote = c.in-Some-vote.ensures.vote in
    let may = subst (JournalMayTake c.args.self.now.node) vote.is vote.may in
    subst (FitsCall (atoms_of c.args.self.now.node.alphabets) (Exec c.args.i c.args.e)) (sym c.of_decision.ensures)
    (decided_fits (atoms_of c.args.self.now.node.alphabets) c.args.i c.args.e c.decision_in-decision.result
    (subst (IsWithin (atoms_of c.args.self.now.node.alphabets)) (sym (c.decision_in-decision.ensures _ _ vote.decision vote.is)) may.1))
