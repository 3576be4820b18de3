use Rattle.std.proofs.Common.{◌≡◌, ◌<◌, true, [], ◌∷◌, ◌++◌, List, ℕ, length, get_or, map, take, sym, ap, subst, ◌∙◌, arith}
use Rattle.std.proofs.lemmas.List.{map_push, take_more}
use Rattle.std.proofs.lemmas.List.Elements.{All-more}
use Rattle.std.specs.Borrow.{Bor}
use Rattle.dcr_graph.specs.Names.{is_name}
use Rattle.dcr_line.proofs.directory.site_texts.Goals as goal

pub loop-number-preserved : goal.loop-number-preserved
loop-number-preserved c =
    let names = c.args.cover.now.names in
    let n = c.loop-number.number in
    let within : n < length names = omega (arith, c.loop-number-test.true, c.sites-number-end.ensures.sites) in
    let same : c.as_bytes.result.now ≡ get_or names n [] = c.as_bytes.ensures.value ∙ c.text.ensures.text ∙ c.name.ensures in
    record {
      texts =
          ap (map (λ (text : Bor (List ℕ)). text.now)) c.in_ok-push.ensures.items
          ∙ map_push (λ (text : Bor (List ℕ)). text.now) c.loop-number.texts.items c.as_bytes.result
          ∙ ap (λ texts. texts ++ c.as_bytes.result.now ∷ []) c.loop-number.invariant.texts
          ∙ ap (λ text. take n names ++ text ∷ []) same ∙ sym (take_more names n [] within);
      names = All-more (λ text. is_name text ≡ true) names n [] within c.loop-number.invariant.names
          (subst (λ text. is_name text ≡ true) c.name.ensures c.text.ensures.name);
    }
