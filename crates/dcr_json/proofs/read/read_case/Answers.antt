use Rattle.std.proofs.Common.{◌≡◌, ◌≢◌, Err, ◌∙◌, rules}
use Rattle.serde_json.specs.View.{view}
use Rattle.dcr_format.specs.declared.stop.CaseStop.TheVariants.{NoMemory}
use Rattle.dcr_json.specs.Case.{case_in}
use Rattle.dcr_json.proofs.RefusalLemmas.{file_given, file_refused}
use Rattle.dcr_json.proofs.read.read_case.Goals as goal

pub returns-in_err-value-clause-says : goal.returns-in_err-value-clause-says
returns-in_err-value-clause-says c =
    let stopped : c.in_err-value.field-0.0 ≢ NoMemory → case_in c.args.bytes.now ≡ Err c.in_err-value.field-0.0 = λ memory. file_refused c.args.bytes.now c.in_err-value.field-0.0 (c.in_err-value.ensures.says memory) in
    search rules

pub returns-in_err-case-clause-says : goal.returns-in_err-case-clause-says
returns-in_err-case-clause-says c =
    let stopped : c.in_err-case.field-0.0 ≢ NoMemory → case_in c.args.bytes.now ≡ Err c.in_err-case.field-0.0 = λ memory.
    file_given c.args.bytes.now (view c.in_ok-value.value) c.in_ok-value.ensures.says ∙ c.in_err-case.ensures.says memory in
    search rules

pub returns-clause-says : goal.returns-clause-says
returns-clause-says c = file_given c.args.bytes.now (view c.in_ok-value.value) c.in_ok-value.ensures.says ∙ c.in_ok-case.ensures.says
