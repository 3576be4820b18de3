use Rattle.std.proofs.Common.{[], ◌∷◌, length, arith}
use Rattle.std.proofs.lemmas.List.{length-append}
use Rattle.dcr_conform.specs.Lines.{count_line, judged_lines}
use Rattle.dcr_conform.proofs.LineLemmas.{length-judged_lines}
use Rattle.dcr_conform.proofs.lines.JudgedLinesLines.count.Goals as goal

pub returns-clause-all : goal.returns-clause-all
returns-clause-all c =
    let told = c.args.self.now in
    let lines = judged_lines told.graph.now.names told.traces.now told.judged.now in
    omega (arith, length-judged_lines told.graph.now.names told.traces.now told.judged.now c.requires.0, length-append lines (count_line (length told.traces.now) ∷ []))
