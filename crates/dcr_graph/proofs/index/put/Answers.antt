use Rattle.std.proofs.Common.{◌∙◌, sym}
use Rattle.std.proofs.lemmas.Map.Text.{btree_map_updates_str}
use Rattle.dcr_graph.specs.IndexModel.{number_at}
use Rattle.dcr_graph.proofs.IndexLemmas.{with_put}
use Rattle.dcr_graph.proofs.index.put.Goals as goal

pub returns-in_ok-insert : goal.returns-in_ok-insert
returns-in_ok-insert c = λ other.
    btree_map_updates_str c.args.text.now c.args.map.now c.insert.new.self _ c.in_ok-insert.ensures.updates other
    ∙ with_put (number_at c.args.map.now) c.args.text.now c.args.number other (sym c.contains_key.ensures ∙ c.if-not-contains_key.true)
