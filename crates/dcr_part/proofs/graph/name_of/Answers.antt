use Rattle.std.proofs.Common.{◌≡◌, true, Err, sym, ap, ◌∙◌, arith}
use Rattle.std.proofs.lemmas.Bool.{false≢true}
use Rattle.dcr_graph.specs.Names.{is_name}
use Rattle.dcr_part.proofs.NameLemmas.{stand_in_is_name}
use Rattle.dcr_part.proofs.graph.name_of.Goals as goal

pub unreachable-requires : goal.unreachable-requires
unreachable-requires c =
    let is : is_name c.as_str.result.now ≡ true = ap is_name (c.as_str.ensures.value ∙ c.in_ok-text.ensures.ok) ∙ stand_in_is_name c.args.number (omega arith) in
    false≢true (sym (c.read.ensures.not_name.0 (c.in-Err-NotName.is ∙ ap Err c.in-Err-NotName.field-0-is)) ∙ is)
