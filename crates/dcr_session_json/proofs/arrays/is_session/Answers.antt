use Rattle.std.proofs.Common.{false, is_some, sym, ap, ◌∙◌}
use Rattle.std.specs.List.{list_all}
use Rattle.std.specs.Option.{option_map_or}
use Rattle.std.proofs.lemmas.List.Folds.{list_all-map}
use Rattle.serde_json.specs.Data.{Data}
use Rattle.serde_json.specs.Find.{as_str}
use Rattle.serde_json.specs.View.{view}
use Rattle.dcr_session_json.proofs.arrays.is_session.Goals as goal

pub returns-in-Some : goal.returns-in-Some
returns-in-Some c =
    c.are_texts.ensures ∙ (sym (list_all-map (λ (call : Data). is_some (as_str call)) view c.in-Some.calls.now)
    ∙ ap (λ o. option_map_or (list_all (λ (call : Data). is_some (as_str call))) o false) c.in-Some.ensures.value)
