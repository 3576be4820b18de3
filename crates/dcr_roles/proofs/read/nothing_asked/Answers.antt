use Rattle.std.proofs.Common.{◌∙◌}
use Rattle.dcr_nest.specs.Nest.{parents_of}
use Rattle.dcr_roles.proofs.ReadLemmas.{nothing_read}
use Rattle.dcr_roles.proofs.read.nothing_asked.Goals as goal

pub returns : goal.returns
returns c =
    let nodes = c.args.nested.now.nodes in
    c.in_ok-policy.ensures
    ∙ nothing_read (parents_of nodes) _ _ _ _ _ c.new.ensures.items c.in_ok-own.ensures c.new-none.ensures.items c.new-2.ensures.items
