use Rattle.std.proofs.Common.{◌-◌, map}
use Rattle.dcr_graph.specs.IndexModel.{HasPlaces}
use Rattle.dcr_graph.proofs.index.spread.Given as goal

-- the hash that is kept gives the maps that are kept
abbrev pub invariant-loop-tried : goal.invariant-loop-tried
invariant-loop-tried l = HasPlaces l.best l.places.items (map (λ text. text.now) l.texts)

abbrev pub decreases-loop-tried : goal.decreases-loop-tried
decreases-loop-tried l = 8 - l.tried
