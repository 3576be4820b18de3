use Rattle.std.proofs.Common.{◌≡◌, true, map, take}
use Rattle.std.specs.List.{All}
use Rattle.dcr_graph.specs.Names.{is_name}
use Rattle.dcr_line.proofs.directory.atom_texts.Given as goal

-- the names of the atoms before this one, which are names
abbrev pub invariant-loop-number : goal.invariant-loop-number
invariant-loop-number l = record {
  texts : map (λ text. text.now) l.texts.items ≡ take l.number l.graph.names;
  names : All (λ text. is_name text ≡ true) (take l.number l.graph.names);
}
