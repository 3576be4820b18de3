use Rattle.std.proofs.Common.{option_map, sym, ap, ◌∙◌}
use Rattle.serde_json.specs.View.{view}
use Rattle.dcr_json.proofs.RefusalLemmas.{file_long, file_no_json, file_so}
use Rattle.dcr_json.proofs.read.read_file.Goals as goal

pub returns-then-bytes-gt-MAX_BYTES-clause-says : goal.returns-then-bytes-gt-MAX_BYTES-clause-says
returns-then-bytes-gt-MAX_BYTES-clause-says c = λ memory. file_long c.args.bytes.now c.if-bytes-gt-MAX_BYTES.true

pub returns-in_default-clause-says : goal.returns-in_default-clause-says
returns-in_default-clause-says c = λ memory.
    file_no_json c.args.bytes.now c.if-bytes-gt-MAX_BYTES.false (sym c.in_ok-value.ensures.json ∙ ap (option_map view) c.in_default.is)

pub returns-clause-says : goal.returns-clause-says
returns-clause-says c =
    file_so c.args.bytes.now (view c.in-Some.value) (record { short = c.if-bytes-gt-MAX_BYTES.false; json = sym c.in_ok-value.ensures.json ∙ ap (option_map view) c.in-Some.is })
