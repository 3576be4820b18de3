use Rattle.dcr_replay.proofs.VerdictLemmas.{each_has_a_verdict}
use Rattle.dcr_replay.proofs.laws.each_text_has_a_verdict.Goals as goal

pub returns : goal.returns
returns c =
    let graphs = c.graphs_are_read_back.ensures in
    let covers = c.covers_are_read_back.ensures in
    each_has_a_verdict covers (record { graph = graphs.one_line; cover = covers.one_line }) (record { graph = graphs.one; cover = λ N nested C D. covers.one N C D nested })
