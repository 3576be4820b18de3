use Rattle.std.proofs.Common.{Bor, List, ℕ, length, map, ap, arith}
use Rattle.std.proofs.lemmas.List.{length-map}
use Rattle.serde_json.specs.View.{view}
use Rattle.dcr_graph_json.specs.Written.{name_in}
use Rattle.dcr_graph_json.proofs.names.index_names.Goals as goal

pub new-requires : goal.new-requires
new-requires c =
    let texts = c.in_ok-texts.texts in
    let many = ap (λ (ns : List (List ℕ)). length ns) c.in_ok-texts.ensures.texts in
    omega (arith, texts.ok.0, many, length-map texts.items (λ (text : Bor (List ℕ)). text.now), length-map (map view c.args.events.now) name_in, length-map c.args.events.now view)
