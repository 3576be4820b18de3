use Rattle.std.proofs.Common.{◌≡◌, None, Option, Some, sym, ap, ◌∙◌, arith}
use Rattle.std.proofs.lemmas.Option.{same_Some}
use Rattle.serde_json.specs.Read.{read}
use Rattle.dcr_graph.specs.declared.marking.Marking.{Marking}
use Rattle.dcr_nest.specs.Nest.{Nest}
use Rattle.dcr_nest.specs.declared.node.Version.{Version}
use Rattle.dcr_format.specs.Facts.{first}
use Rattle.dcr_format.proofs.LineLemmas.{one_line}
use Rattle.dcr_format.proofs.PlainLemmas.{read_plain}
use Rattle.dcr_graph_json.specs.Accepted.{IsAcceptedGraph, graph_facts}
use Rattle.dcr_graph_json.specs.Build.{nest_in, opening_in}
use Rattle.dcr_graph_json.specs.Shape.{written_in}
use Rattle.dcr_graph_json.specs.Text.{graph_text, graph_value}
use Rattle.dcr_graph_json.proofs.OpeningLemmas.{opening_read}
use Rattle.dcr_graph_json.proofs.RoundLemmas.{all_hold, same_nest, written_is}
use Rattle.dcr_graph_json.proofs.ValueLemmas.{plain_graph}
use Rattle.dcr_graph_json.proofs.laws.graphs_are_read_back.Goals as goal

read_as : (version : Version) (N : Nest) (opening : Option Marking) → IsAcceptedGraph version N → nest_in (written_in version (Some (graph_value N opening))) ≡ N
read_as version N opening ok =
    ap (λ v. nest_in (written_in v (Some (graph_value N opening)))) (sym ok.of_version)
    ∙ ap nest_in (written_is N opening ok.nested ok.names ok.labels) ∙ same_nest N opening ok.nested ok.names ok.labels

pub returns : goal.returns
unfolding graph_text
returns c = record {
  facts = λ version N opening ok. ap (λ v. first (graph_facts v (Some (graph_value N opening)))) (sym ok.of_version) ∙ all_hold N opening ok.nested ok.names ok.labels ok.unclashed;
  nested = read_as;
  opening = λ version N M ok room. ap (λ v. opening_in (written_in v (Some (graph_value N (Some M))))) (sym ok.of_version) ∙ opening_read N M ok.nested ok.names ok.labels room;
  text = λ N. read_plain 3 (graph_value N None) (plain_graph N None) (omega arith);
  one_line = λ N. one_line (graph_value N None);
  one = λ version M N a b same.
      let value = same_Some _ _ (sym (read_plain 3 (graph_value M None) (plain_graph M None) (omega arith)) ∙ (ap read same ∙ read_plain 3 (graph_value N None) (plain_graph N None) (omega arith))) in
      sym (read_as version M None a) ∙ ap (λ d. nest_in (written_in version (Some d))) value ∙ read_as version N None b;
}
