use Rattle.std.proofs.Common.{Bor, List, ℕ, ◌∙◌, ap}
use Rattle.std.specs.Option.{option_and_then, option_map}
use Rattle.std.specs.Str.{is_utf8}
use Rattle.dcr_log.proofs.FieldLemmas.{passing, text_passes}
use Rattle.dcr_log.proofs.read.event_text.Goals as goal

pub returns : goal.returns
returns c =
    ap (option_map (λ (s : Bor (List ℕ)). s.now)) c.ok.ensures.value
    ∙ (text_passes c.in_ok-field.field-0.now c.from_utf8.result c.from_utf8.ensures.cases ∙ ap (option_and_then (passing is_utf8)) c.in_ok-field.ensures)
