use Rattle.dcr_replay.proofs.canonical.canonical_texts.Goals as goal

pub returns-clause-one_line : goal.returns-clause-one_line
returns-clause-one_line c = record { graph = c.graphs_are_read_back.ensures.one_line; cover = c.covers_are_read_back.ensures.one_line }

pub returns-clause-one : goal.returns-clause-one
returns-clause-one c = record { graph = c.graphs_are_read_back.ensures.one; cover = λ N nested C D. c.covers_are_read_back.ensures.one N C D nested }
