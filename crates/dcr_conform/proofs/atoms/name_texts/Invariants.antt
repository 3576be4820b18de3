use Rattle.std.proofs.Common.{◌≡◌, map, take}
use Rattle.dcr_conform.proofs.atoms.name_texts.Given as goal

-- the names of the atoms before this one
abbrev pub invariant-loop-number : goal.invariant-loop-number
invariant-loop-number l = record {
  texts : map (λ text. text.now) l.texts.items ≡ take l.number l.graph.names;
}
