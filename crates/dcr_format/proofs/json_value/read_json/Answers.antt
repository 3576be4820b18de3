use Rattle.std.proofs.Common.{sym, rules}
use Rattle.dcr_format.proofs.SizeLemmas.{no_value_is_larger}
use Rattle.dcr_format.proofs.JsonLemmas.{json_read, json_none}
use Rattle.dcr_format.proofs.json_value.read_json.Goals as goal

pub returns-in-Ok-clause-json : goal.returns-in-Ok-clause-json
returns-in-Ok-clause-json c = sym (json_read _ _ c.in-Ok.ensures.ok.0 c.in-Ok.ensures.ok.1)

pub returns-in-Ok-clause-size : goal.returns-in-Ok-clause-size
returns-in-Ok-clause-size c = no_value_is_larger.of_text _ _ c.in-Ok.ensures.ok.1

pub returns-else-is_memory-clause-json : goal.returns-else-is_memory-clause-json
returns-else-is_memory-clause-json c = sym (json_none _ (c.in-Err.ensures.err (search rules)))
