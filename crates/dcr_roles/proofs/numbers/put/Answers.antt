use Rattle.std.proofs.Common.{is_some, ap, ◌∙◌}
use Rattle.std.proofs.lemmas.Map.Text.{btree_map_updates_str}
use Rattle.dcr_graph.specs.IndexModel.{number_at}
use Rattle.dcr_graph.proofs.IndexLemmas.{with_put}
use Rattle.dcr_roles.proofs.numbers.put.Goals as goal

pub returns : goal.returns
returns c = λ other.
    btree_map_updates_str c.args.text.now c.args.numbers.now c.insert.new.self _ c.in_ok-insert.ensures.updates other
    ∙ with_put (number_at c.args.numbers.now) c.args.text.now c.args.number other (ap (λ o. is_some o) c.requires)
