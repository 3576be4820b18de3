use Rattle.std.proofs.Common.{subst}
use Rattle.dcr_link.specs.Replies.{Terms, terms_of}
use Rattle.dcr_serving.specs.Serving.{AreServed}
use Rattle.dcr_serving.proofs.ServingLemmas.{door_unasked, served_none}
use Rattle.dcr_serving.proofs.serve.serve_sessions.Goals as goal

pub returns-in_default-clause-served : goal.returns-in_default-clause-served
returns-in_default-clause-served g c =
    served_none g.B.Door.tells.each
    g.N.StoreName.first g.N.TurnName.capacity (terms_of c.args.cover.now.names c.args.graph.now.names c.args.policy.now) (g.B.Door.tells.links c.args.door) g.N.TurnName.turn.sessions c.args.passes.items c.new-in_default.result.items
    c.requires.passes c.new-in_default.ensures.items

pub returns-in_default-clause-door : goal.returns-in_default-clause-door
returns-in_default-clause-door g c =
    door_unasked g.B.Door.tells c.args.door g.N.TurnName.turn.sessions c.new-in_default.result.items c.new-in_default.ensures.items

pub returns-clause-served : goal.returns-clause-served
returns-clause-served g c =
    subst (λ (terms : Terms). AreServed g.B.Door.tells.each
    g.N.StoreName.first g.N.TurnName.capacity terms (g.B.Door.tells.links c.args.door) g.N.TurnName.turn.sessions c.at_desk.result.passes.items c.at_desk.result.ends.items)
    c.in-Ok.ensures c.at_desk.ensures.served
