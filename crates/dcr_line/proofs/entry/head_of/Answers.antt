use Rattle.std.proofs.Common.{ap, ◌∙◌}
use Rattle.dcr_line.specs.EntryLine.{head_from}
use Rattle.dcr_line.specs.Words.{words_of}
use Rattle.dcr_line.proofs.EntryLemmas.{first_read_is}
use Rattle.dcr_line.proofs.entry.head_of.Goals as goal

pub returns : goal.returns
returns c =
    let sites = c.args.directory.now.sites in let atoms = c.args.directory.now.atoms in
    first_read_is c.take_head.result (head_from sites atoms (words_of c.args.line.now)) _ (c.take_head.ensures ∙ ap (head_from sites atoms) c.of-words.ensures)
