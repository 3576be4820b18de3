use Rattle.std.proofs.Common.{ap, ◌∙◌}
use Rattle.std.specs.Result.{result_ok}
use Rattle.hex.specs.Hex.{decode_sized}
use Rattle.hex.proofs.HexLemmas.{decode_sized-encode_lower}
use Rattle.dcr_part.proofs.fields.read_digest.Goals as goal

pub returns-clause-read : goal.returns-clause-read
returns-clause-read c = λ digest many bytes is.
    c.ok.ensures.value ∙ ap result_ok (c.from_hex.ensures ∙ ap (λ text. decode_sized text 32) is ∙ decode_sized-encode_lower digest 32 many bytes)
