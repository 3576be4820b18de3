use Rattle.std.proofs.Common.{◌+◌, rules, ◌∙◌}
use Rattle.std.proofs.lemmas.List.{take_rest}
use Rattle.dcr_app.proofs.ConformLemmas.{case_at, case_whole, log_at, log_none}
use Rattle.dcr_app.proofs.conform.parts.Goals as goal

pub returns-in-Some-clause-case : goal.returns-in-Some-clause-case
returns-in-Some-clause-case c = case_at c.args.bytes.now c.in-Some.at (search rules) (search rules) (search rules)

pub returns-in-Some-clause-log : goal.returns-in-Some-clause-log
returns-in-Some-clause-log c = take_rest c.args.bytes.now (c.in-Some.at + 1) ∙ log_at c.args.bytes.now c.in-Some.at (search rules) (returns-in-Some-clause-case c)

pub returns-in-None-clause-case : goal.returns-in-None-clause-case
returns-in-None-clause-case c = case_whole c.args.bytes.now (search rules)

pub returns-in-None-clause-log : goal.returns-in-None-clause-log
returns-in-None-clause-log c = log_none c.args.bytes.now (returns-in-None-clause-case c)
