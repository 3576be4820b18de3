use Rattle.std.proofs.Common.{map, sym, arith}
use Rattle.std.proofs.lemmas.List.{length-map}
use Rattle.serde_json.specs.View.{view}
use Rattle.dcr_graph_json.proofs.LoopLemmas.{atoms_few}
use Rattle.dcr_graph_json.proofs.atoms.try_atoms.Goals as goal

pub returns-then-events-le-MAX_ATOMS-clause-fact : goal.returns-then-events-le-MAX_ATOMS-clause-fact
returns-then-events-le-MAX_ATOMS-clause-fact c = sym (atoms_few (map view c.args.events.now) (omega (arith, length-map c.args.events.now view)))

pub returns-then-events-le-MAX_ATOMS-clause-few : goal.returns-then-events-le-MAX_ATOMS-clause-few
returns-then-events-le-MAX_ATOMS-clause-few c = λ few. atoms_few (map view c.args.events.now) (omega (arith, length-map c.args.events.now view))
