use Rattle.std.proofs.Common.{arith}
use Rattle.dcr_load.proofs.CaseLemmas.{few_calls_as}
use Rattle.dcr_load.proofs.text.load_text.Goals as goal

pub case_text-requires-clause-few_calls : goal.case_text-requires-clause-few_calls
case_text-requires-clause-few_calls c = omega (arith, few_calls_as c.args.number _ c.in_ok-case.ensures.load)
