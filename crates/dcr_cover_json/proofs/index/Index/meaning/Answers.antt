use Rattle.std.proofs.Common.{◌≡◌, List, Some, length, get_or, ap, sym, ◌∙◌, option_map, arith}
use Rattle.std.proofs.lemmas.List.FromFn.{length-map-range_with_len, get_or-map-range_with_len}
use Rattle.dcr_set.specs.EventSet.{Set}
use Rattle.dcr_nest.specs.Nest.{parents_of}
use Rattle.dcr_nest.specs.Tree.{atoms_below}
use Rattle.dcr_nest.proofs.FlatLemmas.{room-atoms_below}
use Rattle.dcr_cover_json.specs.Sites.{node_named}
use Rattle.dcr_cover_json.proofs.MeaningLemmas.{node_found, node_within}
use Rattle.dcr_cover_json.proofs.index.Index.meaning.Goals as goal
use Rattle.dcr_cover_json.proofs.index.Index.meaning.Goals.{After-from, After-index}

named : (c : After-from) → node_named c.args.self.now.nested.now c.args.text.now ≡ Some c.in_ok-node.node
named c = node_found c.args.self.now.nested.now c.args.self.now.names c.as_bytes.result.now c.args.text.now c.in_ok-node.node c.args.self.now.named c.as_bytes.ensures.value c.in_ok-node.ensures

pub index-requires : goal.index-requires
index-requires c =
    let N = c.args.self.now.nested.now in
    omega (
      arith,
      node_within N c.args.text.now c.in_ok-node.node (named (goal.at.index-requires c).After-from),
      c.from.ensures,
      c.args.self.now.below.ok.0,
      ap (λ (sets : List Set). length sets) c.args.self.now.gathered,
      length-map-range_with_len (atoms_below (parents_of N.nodes)) 0 (length N.nodes),
    )

-- what stands at the node
gathered : (c : After-index) → c.index.result.now ≡ atoms_below (parents_of c.args.self.now.nested.now.nodes) c.in_ok-node.node
gathered c =
    let N = c.args.self.now.nested.now in
    let named = node_found N c.args.self.now.names c.as_bytes.result.now c.args.text.now c.in_ok-node.node c.args.self.now.named c.as_bytes.ensures.value c.in_ok-node.ensures in
    c.index.ensures ∙ ap (λ (sets : List Set). get_or sets c.from.result c.index.result.now) c.args.self.now.gathered
    ∙ get_or-map-range_with_len (atoms_below (parents_of N.nodes)) 0 (length N.nodes) c.from.result c.in_ok-node.node c.index.result.now
    (omega (arith, node_within N c.args.text.now c.in_ok-node.node named, c.from.ensures)) (omega (arith, c.from.ensures))

pub returns-clause-meaning : goal.returns-clause-meaning
returns-clause-meaning c =
    let N = c.args.self.now.nested.now in
    let named = node_found N c.args.self.now.names c.as_bytes.result.now c.args.text.now c.in_ok-node.node c.args.self.now.named c.as_bytes.ensures.value c.in_ok-node.ensures in
    ap Some (gathered (goal.at.returns-clause-meaning c).After-index) ∙ sym (ap (option_map (atoms_below (parents_of N.nodes))) named)

pub returns-clause-room : goal.returns-clause-room
returns-clause-room c =
    ap (λ (set : Set). length set) (gathered (goal.at.returns-clause-room c).After-index) ∙ room-atoms_below (parents_of c.args.self.now.nested.now.nodes) c.in_ok-node.node
