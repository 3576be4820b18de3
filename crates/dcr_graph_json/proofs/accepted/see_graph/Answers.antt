use Rattle.std.proofs.Common.{◌≡◌, true, IsUtf8, refl, subst}
use Rattle.std.specs.List.{All}
use Rattle.dcr_graph.specs.Names.{is_label}
use Rattle.dcr_nest.specs.Nest.{names_of, labels_of}
use Rattle.dcr_format.specs.Texts.{AreAllNames}
use Rattle.dcr_graph_json.proofs.accepted.see_graph.Goals as goal

pub returns : goal.returns
returns c = record {
  of_version = refl;
  nested = c.nodes.ensures.nested;
  names = subst (λ nodes. AreAllNames (names_of nodes)) c.nodes.ensures.nodes c.see_texts.ensures.names;
  labels = subst (λ nodes. All (λ label. is_label label ≡ true) (labels_of nodes)) c.nodes.ensures.nodes c.see_texts.ensures.labels;
  texts = subst (λ nodes. All IsUtf8 (labels_of nodes)) c.nodes.ensures.nodes c.see_texts.ensures.texts;
  unclashed = c.requires;
}
