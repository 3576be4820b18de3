use Rattle.std.proofs.Common.{◌≡◌, map, take}
use Rattle.dcr_nest.specs.Nest.{names_of}
use Rattle.dcr_cover_json.proofs.index.name_texts.Given as goal

-- the names of the nodes before this one
abbrev pub invariant-loop-node : goal.invariant-loop-node
invariant-loop-node l = map (λ text. text.now) l.texts.items ≡ take l.node-index (names_of l.nodes)
