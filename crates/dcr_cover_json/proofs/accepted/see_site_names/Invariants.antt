use Rattle.std.proofs.Common.{◌≡◌, true, take}
use Rattle.std.specs.List.{All}
use Rattle.dcr_graph.specs.Names.{is_name}
use Rattle.dcr_cover_json.proofs.accepted.see_site_names.Given as goal

abbrev pub invariant-loop-name : goal.invariant-loop-name
invariant-loop-name l = All (λ name. is_name name ≡ true) (take l.name-index l.names)
