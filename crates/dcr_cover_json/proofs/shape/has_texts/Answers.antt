use Rattle.std.proofs.Common.{List, Option, false, is_some, sym, ap, ◌∙◌}
use Rattle.std.specs.List.{list_all}
use Rattle.std.specs.Option.{option_map_or}
use Rattle.std.proofs.lemmas.List.Folds.{list_all-map}
use Rattle.serde_json.specs.Data.{Data}
use Rattle.serde_json.specs.Find.{as_str}
use Rattle.serde_json.specs.View.{view}
use Rattle.dcr_cover_json.proofs.shape.has_texts.Goals as goal

pub returns-in-Some : goal.returns-in-Some
returns-in-Some c =
    let are = λ (text : Data). is_some (as_str text) in
    c.are_texts.ensures ∙ sym (list_all-map are view c.in-Some.values.now) ∙ ap (λ (o : Option (List Data)). option_map_or (list_all are) o false) c.in-Some.ensures.value

pub returns-in-None : goal.returns-in-None
returns-in-None c = ap (λ (o : Option (List Data)). option_map_or (list_all (λ text. is_some (as_str text))) o false) c.in-None.ensures.value
