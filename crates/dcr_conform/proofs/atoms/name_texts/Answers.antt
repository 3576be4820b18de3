use Rattle.std.proofs.Common.{◌≡◌, ◌<◌, [], ◌∷◌, ◌++◌, List, ℕ, length, get_or, map, take, sym, ap, ◌∙◌, arith}
use Rattle.std.proofs.lemmas.List.{map_push, take_more}
use Rattle.std.specs.Borrow.{Bor}
use Rattle.dcr_conform.proofs.atoms.name_texts.Goals as goal

pub loop-number-preserved : goal.loop-number-preserved
loop-number-preserved c =
    let names = c.args.graph.now.names in
    let n = c.loop-number.number in
    let within : n < length names = omega (arith, c.loop-number-test.true, c.atoms-number-end.ensures.atoms) in
    let same : c.bytes_of.result.now ≡ get_or names n [] = c.bytes_of.ensures in
    record {
      texts =
          ap (map (λ (text : Bor (List ℕ)). text.now)) c.in_ok-push.ensures.items
          ∙ map_push (λ (text : Bor (List ℕ)). text.now) c.loop-number.texts.items c.bytes_of.result
          ∙ ap (λ texts. texts ++ c.bytes_of.result.now ∷ []) c.loop-number.invariant.texts
          ∙ ap (λ text. take n names ++ text ∷ []) same ∙ sym (take_more names n [] within);
    }
