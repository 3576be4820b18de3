use Rattle.std.proofs.Common.{List, ℕ, Option, [], ap, unwrap_or}
use Rattle.serde_json.specs.View.{view}
use Rattle.dcr_cover_json.proofs.ShapeLemmas.{text_lent}
use Rattle.dcr_cover_json.proofs.site.ValueAsSiteText.owned_text.Goals as goal

pub returns-in-Some : goal.returns-in-Some
returns-in-Some c =
    text_lent (view c.args.self.now) c.texts.result.now c.args.j c.index-texts-j.result c.in-Some.text.now c.texts.ensures c.index-texts-j.is c.requires (ap (λ (o : Option (List ℕ)). unwrap_or o []) c.in-Some.ensures)

pub returns-in-None : goal.returns-in-None
returns-in-None c =
    text_lent (view c.args.self.now) c.texts.result.now c.args.j c.index-texts-j.result [] c.texts.ensures c.index-texts-j.is c.requires (ap (λ (o : Option (List ℕ)). unwrap_or o []) c.in-None.ensures)
