use Rattle.std.proofs.Common.{sym, subst}
use Rattle.dcr_format.specs.Texts.{AreAllNames}
use Rattle.dcr_json.proofs.KnownLemmas.{atoms_are_names}
use Rattle.dcr_json.proofs.text.case_value.Goals as goal

pub sessions_value-requires-clause-atoms : goal.sessions_value-requires-clause-atoms
sessions_value-requires-clause-atoms c = subst AreAllNames (sym c.requires.flat.names) (atoms_are_names c.args.case.now.nested.version c.args.case.now.nested c.requires.accepted_graph).names
