use Rattle.std.proofs.Common.{◌≡◌, ℕ, List, [], Option, Some, None, MatchOption, drop, length, arith, subst}
use Rattle.std.proofs.lemmas.List.{drop_all}
use Rattle.dcr_greet.specs.KeyText.{BeginsWithKey, IsKeyText}
use Rattle.dcr_greet.proofs.key.Key.read.Goals as goal

-- where nothing stands behind the key
whole : (text : List ℕ) (read : Option (List ℕ)) → drop 65 text ≡ [] → MatchOption read ((key rest : List ℕ) → BeginsWithKey text key rest → ⊥) (λ key. BeginsWithKey text key (drop 65 text))
    → MatchOption read ((key : List ℕ) → IsKeyText text key → ⊥) (IsKeyText text)
whole text None none front = λ key is. front key [] is
whole text (Some key) none front = subst (BeginsWithKey text key) none front

pub returns : goal.returns
returns c =
    let text = c.args.text.now in
    let long : length text ≡ 65 = omega arith in
    whole text c.read_front.result (drop_all 65 text (omega (arith, long))) c.read_front.ensures
