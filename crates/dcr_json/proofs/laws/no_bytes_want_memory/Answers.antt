use Rattle.dcr_json.proofs.RefusalLemmas.{no_memory_law}
use Rattle.dcr_json.proofs.laws.no_bytes_want_memory.Goals as goal

pub returns : goal.returns
returns c = no_memory_law
