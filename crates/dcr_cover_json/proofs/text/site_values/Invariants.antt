use Rattle.std.proofs.Common.{◌≡◌, map}
use Rattle.std.specs.List.{range_with_len}
use Rattle.serde_json.specs.View.{view}
use Rattle.dcr_cover_json.specs.Text.{site_value_at}
use Rattle.dcr_cover_json.proofs.text.site_values.Given as goal

-- the sites before this one
abbrev pub invariant-loop-number : goal.invariant-loop-number
invariant-loop-number l = map view l.values.items ≡ map (site_value_at l.graph.names l.cover) (range_with_len 0 l.number)
