use Rattle.std.proofs.Common.{◌≡◌, ◌≢◌, Err, None, Some, sym, ap, ◌∙◌, rules}
use Rattle.serde_json.specs.View.{view}
use Rattle.dcr_format.specs.Facts.{first}
use Rattle.dcr_format.specs.declared.stop.CaseStop.TheVariants.{NoMemory}
use Rattle.dcr_json.specs.Built.{case_of}
use Rattle.dcr_json.specs.Case.{value_in}
use Rattle.dcr_json.specs.Facts.{case_facts}
use Rattle.dcr_json.specs.Seen.{written}
use Rattle.dcr_json.specs.Written.{spelled_in}
use Rattle.dcr_json.proofs.FileLemmas.{case_built, case_limit, case_shape, value_given, value_stop}
use Rattle.dcr_json.proofs.read.read_value.Goals as goal

pub returns-in_err-file-clause-facts : goal.returns-in_err-file-clause-facts
returns-in_err-file-clause-facts c =
    let d = view c.args.value.now in
    let stopped : c.in_err-file.field-0.0 ≢ NoMemory → first (case_facts d) ≡ Some c.in_err-file.field-0.0 = λ memory. case_shape d c.in_err-file.field-0.0 (sym c.in_err-file.ensures.facts) in
    search rules

pub returns-in_err-file-clause-says : goal.returns-in_err-file-clause-says
returns-in_err-file-clause-says c =
    let d = view c.args.value.now in
    let stopped : c.in_err-file.field-0.0 ≢ NoMemory → value_in d ≡ Err c.in_err-file.field-0.0 = λ memory. value_stop d c.in_err-file.field-0.0 (case_shape d c.in_err-file.field-0.0 (sym c.in_err-file.ensures.facts)) in
    search rules

pub returns-in_err-limits-clause-facts : goal.returns-in_err-limits-clause-facts
returns-in_err-limits-clause-facts c =
    let d = view c.args.value.now in
    let stopped : c.in_err-limits.field-0.0 ≢ NoMemory → first (case_facts d) ≡ Some c.in_err-limits.field-0.0 = λ memory.
    case_limit d (written c.in_ok-file.file) c.in_ok-file.ensures.written (sym c.in_ok-file.ensures.facts) c.in_err-limits.field-0.0 (c.in_err-limits.ensures memory) in
    search rules

pub returns-in_err-limits-clause-says : goal.returns-in_err-limits-clause-says
returns-in_err-limits-clause-says c =
    let d = view c.args.value.now in
    let stopped : c.in_err-limits.field-0.0 ≢ NoMemory → value_in d ≡ Err c.in_err-limits.field-0.0 = λ memory.
    value_stop d c.in_err-limits.field-0.0 (case_limit d (written c.in_ok-file.file) c.in_ok-file.ensures.written (sym c.in_ok-file.ensures.facts) c.in_err-limits.field-0.0 (c.in_err-limits.ensures memory)) in
    search rules

pub returns-in_err-case-clause-facts : goal.returns-in_err-case-clause-facts
returns-in_err-case-clause-facts c =
    let d = view c.args.value.now in
    let stopped : c.in_err-case.field-0.0 ≢ NoMemory → first (case_facts d) ≡ Some c.in_err-case.field-0.0 = λ memory.
    case_built d (written c.in_ok-file.file) c.in_ok-file.ensures.written (sym c.in_ok-file.ensures.facts) c.in_ok-limits.ensures (Some c.in_err-case.field-0.0) (c.in_err-case.ensures.facts memory) in
    search rules

pub returns-in_err-case-clause-says : goal.returns-in_err-case-clause-says
returns-in_err-case-clause-says c =
    let d = view c.args.value.now in
    let stopped : c.in_err-case.field-0.0 ≢ NoMemory → value_in d ≡ Err c.in_err-case.field-0.0 = λ memory.
    value_stop d c.in_err-case.field-0.0 (case_built d (written c.in_ok-file.file) c.in_ok-file.ensures.written (sym c.in_ok-file.ensures.facts) c.in_ok-limits.ensures (Some c.in_err-case.field-0.0) (c.in_err-case.ensures.facts memory)) in
    search rules

pub returns-clause-facts : goal.returns-clause-facts
returns-clause-facts c =
    case_built (view c.args.value.now) (written c.in_ok-file.file) c.in_ok-file.ensures.written (sym c.in_ok-file.ensures.facts) c.in_ok-limits.ensures None c.in_ok-case.ensures.facts

pub returns-clause-case : goal.returns-clause-case
returns-clause-case c = c.in_ok-case.ensures.case ∙ ap spelled_in c.in_ok-file.ensures.written

pub returns-clause-says : goal.returns-clause-says
returns-clause-says c =
    value_given (view c.args.value.now) (case_of c.in_ok-case.case)
    (case_built (view c.args.value.now) (written c.in_ok-file.file) c.in_ok-file.ensures.written (sym c.in_ok-file.ensures.facts) c.in_ok-limits.ensures None c.in_ok-case.ensures.facts)
    (c.in_ok-case.ensures.case ∙ ap spelled_in c.in_ok-file.ensures.written)
