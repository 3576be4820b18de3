use Rattle.std.proofs.Common.{rules, append_assoc, decimal}
use Rattle.std.proofs.lemmas.Result.{IfOk-equal}
use Rattle.dcr_line.proofs.JoinLemmas.{word_and_answer}
use Rattle.dcr_line.proofs.write.put_entry.Goals as goal

pub returns-clause-added : goal.returns-clause-added
returns-clause-added c =
    let entry = c.args.entry.now in
    rw (word_and_answer (decimal entry.seq) c.args.cover.now.names c.args.graph.now.names entry.call entry.outcome)
    (search (rules, IfOk-equal, append_assoc))
