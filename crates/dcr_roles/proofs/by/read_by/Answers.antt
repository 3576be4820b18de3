use Rattle.std.proofs.Common.{◌≡◌, ◌<◌, ◌++◌, ◌∷◌, [], false, is_some, length, map, take, Some, ap, sym, ◌∙◌, arith}
use Rattle.std.proofs.lemmas.List.{length-map, map_push}
use Rattle.serde_json.specs.Data.{Data}
use Rattle.serde_json.specs.View.{view}
use Rattle.dcr_format.proofs.SizeLemmas.{length-items}
use Rattle.dcr_roles.specs.Numbering.{user_in}
use Rattle.dcr_roles.specs.Parts.{failing}
use Rattle.dcr_roles.specs.declared.stop.PolicyPart.TheVariants as part
use Rattle.dcr_roles.proofs.WordLemmas.{and_next, is_wrong, none_found, right_found, seen_at, seen_more, wrong_found}
use Rattle.dcr_roles.proofs.by.read_by.Goals as goal

pub overflow_cast-result : goal.overflow_cast-result
overflow_cast-result c = omega (arith, c.requires, c.loop-i-test.true, length-items c.args.items.now)

pub returns-in_default-clause-says : goal.returns-in_default-clause-says
returns-in_default-clause-says c = λ _.
    let items = c.args.items.now in let users = c.args.users.now in let i = c.loop-i.i in let item = c.index-items-i.result in
    ap (failing part.By) (wrong_found (λ _ (d : Data). is_some (user_in users d)) (map view items) i (view item) (seen_at view items i item (omega arith) c.index-items-i.is)
    (ap (λ o. is_some o) (sym c.find_user.ensures ∙ c.in_default.is)) c.loop-i.invariant.right)

pub loop-i-preserved : goal.loop-i-preserved
loop-i-preserved c =
    let items = c.args.items.now in let users = c.args.users.now in let i = c.loop-i.i in let item = c.index-items-i.result in let by = c.loop-i.by.items in
    let within : i < length items = omega arith in
    let found = sym c.find_user.ensures ∙ c.in-Some.is in
    record {
      right = and_next (λ j. is_wrong (λ _ (d : Data). is_some (user_in users d)) (map view items) j ≡ false) i c.loop-i.invariant.right
          (right_found (λ _ (d : Data). is_some (user_in users d)) (map view items) i (view item) (seen_at view items i item within c.index-items-i.is) (ap (λ o. is_some o) found));
      by = ap (map (user_in users)) (seen_more view items i item within c.index-items-i.is)
          ∙ map_push (user_in users) (map view (take i items)) (view item)
          ∙ ap (λ found. found ++ user_in users (view item) ∷ []) c.loop-i.invariant.by
          ∙ ap (λ o. map Some by ++ o ∷ []) found
          ∙ sym (map_push Some by c.in-Some.user) ∙ ap (map Some) (sym c.in_ok-push.ensures.items);
    }

pub returns-clause-says : goal.returns-clause-says
returns-clause-says c =
    let items = c.args.items.now in let users = c.args.users.now in
    ap (failing part.By) (none_found (λ _ (d : Data). is_some (user_in users d)) (map view items) (λ j below. c.loop-i.invariant.right j (omega (arith, below, length-map items view))))
