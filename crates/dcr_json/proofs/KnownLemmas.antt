-- The names of the atoms of an accepted graph and of the sites of an accepted cover are names, and distinct.
use Rattle.std.proofs.Common.{◌≡◌, true, length, sym, ◌∙◌}
use Rattle.std.proofs.lemmas.List.{length-map}
use Rattle.dcr_graph.specs.Names.{is_name}
use Rattle.dcr_nest.specs.Nest.{Nest, names_of, parents_of}
use Rattle.dcr_nest.specs.declared.node.Node.{Node}
use Rattle.dcr_nest.specs.declared.node.Version.{Version}
use Rattle.dcr_nest.proofs.FlatLemmas.{all_atoms, distinct_atoms}
use Rattle.dcr_proj.specs.CoverValue.{Owners}
use Rattle.dcr_line.specs.Known.{AreNames}
use Rattle.dcr_cover_json.specs.Accepted.{IsAcceptedCover}
use Rattle.dcr_graph_json.specs.Accepted.{IsAcceptedGraph}
use Rattle.dcr_graph_json.specs.Build.{atom_names}

pub atoms_are_names : (version : Version) (N : Nest) → IsAcceptedGraph version N → AreNames (atom_names N)
atoms_are_names version N ok =
    let many : length (parents_of N.nodes) ≡ length (names_of N.nodes) = length-map N.nodes (λ (node : Node). node.parent) ∙ sym (length-map N.nodes (λ (node : Node). node.name)) in
    record {
      names = all_atoms (λ text. is_name text ≡ true) (parents_of N.nodes) (names_of N.nodes) many ok.names;
      distinct = distinct_atoms (parents_of N.nodes) (names_of N.nodes) many ok.nested.distinct;
    }

pub sites_are_names : (N : Nest) (C : Owners) → IsAcceptedCover N C → AreNames C.names
sites_are_names N C ok = record { names = ok.names; distinct = ok.is_cover.distinct }
