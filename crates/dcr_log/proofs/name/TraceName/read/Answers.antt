use Rattle.std.proofs.Common.{◌≡◌, true, cond, List, ℕ, Some, None, Bor, ◌∙◌, sym, ap}
use Rattle.std.specs.Option.{option_map}
use Rattle.std.proofs.lemmas.Str.{is_utf8-from_IsUtf8}
use Rattle.dcr_log.specs.Names.{is_trace_name}
use Rattle.dcr_log.proofs.FieldLemmas.{text_passes}
use Rattle.dcr_log.proofs.NameLemmas.{name_utf8}
use Rattle.dcr_log.proofs.name.TraceName.read.Goals as goal

pub returns-in_err-text : goal.returns-in_err-text
returns-in_err-text c =
    let bytes = c.args.bytes.now in
    let name : is_trace_name bytes ≡ true = sym c.spells_trace_name.ensures ∙ c.if-not-spells_trace_name.false in
    let told = text_passes bytes c.from_utf8.result c.from_utf8.ensures.cases in
    let text = is_utf8-from_IsUtf8 bytes (name_utf8 bytes name) in
    let none : None ≡ Some bytes = ap (option_map (λ (s : Bor (List ℕ)). s.now)) (sym c.in_err-text.was ∙ c.ok.ensures.value) ∙ (told ∙ ap (λ b. cond b (Some bytes) None) text) in
    absurd cc
