use Rattle.std.proofs.Common.{arith, ap, ◌∙◌, refl}
use Rattle.dcr_graph.specs.Names.{is_name}
use Rattle.dcr_load.proofs.NameLemmas.{lettered_is_name}
use Rattle.dcr_load.proofs.names.atom_name.Goals as goal

pub name-requires : goal.name-requires
name-requires c = ap is_name (c.as_str.ensures.value ∙ c.in_ok-text.ensures.ok) ∙ lettered_is_name 101 c.args.i refl (omega arith)
