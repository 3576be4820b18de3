-- What the fields of a world stand for.
use Rattle.std.specs.Prelude.{List}
use Rattle.dcr_set.specs.EventSet.{Set}
use Rattle.dcr_graph.specs.Rules.{Rules}
use Rattle.dcr_node.specs.WorldState.{WorldState}
use Rattle.dcr_node.specs.Right.{IsRight}
use Rattle.dcr_node.specs.declared.world.World.TheInside.{Inside}

abbrev pub world_of : Inside → WorldState
world_of w = record {
  opening = w.opening;
  journal = w.journal;
  sites = w.sites.items;
  sent = w.sent.items;
  questions = w.questions.items;
  answers = w.answers.items;
}

-- there are rules and owned sets for which the world is right from its opening
abbrev pub IsWorld : Inside → Type 0
IsWorld w = (G : Rules) × (C : List Set) × IsRight G C w.opening (world_of w)
