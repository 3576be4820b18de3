use Rattle.std.proofs.Common.{◌≡◌, ◌<◌, ◌≤◌, [], ◌∷◌, ◌++◌, true, false, length, map, take, unwrap_or, sym, ap, subst, ◌∙◌, arith}
use Rattle.std.specs.List.{list_all}
use Rattle.std.specs.Option.{option_map_or}
use Rattle.std.proofs.lemmas.Bool.{and_from}
use Rattle.std.proofs.lemmas.List.{take_all}
use Rattle.std.proofs.lemmas.List.Folds.{list_all_more}
use Rattle.std.proofs.lemmas.Option.{MatchOption-at_none, MatchOption-at_some}
use Rattle.serde_json.specs.View.{view}
use Rattle.dcr_graph.specs.Names.{is_name}
use Rattle.dcr_roles.specs.Numbering.{AreNumbersOf}
use Rattle.dcr_roles.specs.Written.{texts_of}
use Rattle.dcr_roles.proofs.NumberLemmas.{goes_on_twice, number_named, numbers_next}
use Rattle.dcr_roles.proofs.TextLemmas.{all_names, is_name_value, no_names, text_value, texts_read}
use Rattle.dcr_roles.proofs.WordLemmas.{seen_more}
use Rattle.dcr_roles.proofs.roles.read_roles.Goals as goal

pub returns-in_default-as_str-clause-read : goal.returns-in_default-as_str-clause-read
returns-in_default-as_str-clause-read c =
    no_names (view c.args.value.now) c.in-Some.items.now (sym c.in-Some.ensures.value) c.loop-item.item-index c.item-item.result (omega arith) c.item-item.is
    (ap (λ o. option_map_or is_name o false) (sym c.in_default-as_str.ensures))

pub returns-in_default-2-clause-read : goal.returns-in_default-2-clause-read
returns-in_default-2-clause-read c =
    no_names (view c.args.value.now) c.in-Some.items.now (sym c.in-Some.ensures.value) c.loop-item.item-index c.item-item.result (omega arith) c.item-item.is
    (ap (λ o. option_map_or is_name o false) (sym c.in-Some-as_str.ensures) ∙ MatchOption-at_none _ _ c.in_default-2.is c.in_ok-number.ensures.number)

pub loop-item-preserved : goal.loop-item-preserved
loop-item-preserved c =
    let items = c.in-Some.items.now in let i = c.loop-item.item-index in let item = c.item-item.result in let text = c.in-Some-as_str.text.now in
    let old = c.loop-item.names.names.items in let new = c.number.new.self.names.items in
    let within : i < length items = omega arith in
    let stands = MatchOption-at_some _ _ c.in-Some-2.number c.in-Some-2.is c.in_ok-number.ensures.number in
    record {
      numbered = c.in_ok-number.ensures.numbered;
      goes_on = goes_on_twice c.args.names.now.names.items old new c.loop-item.invariant.goes_on c.in_ok-number.ensures.goes_on;
      are_names = list_all_more is_name_value items i item within
          ∙ and_from _ _ c.loop-item.invariant.are_names
          (ap is_name_value (sym c.item-item.is) ∙ ap (λ o. option_map_or is_name o false) (sym c.in-Some-as_str.ensures)
          ∙ number_named c.number.new.self.numbers new text c.in-Some-2.number c.in_ok-number.ensures.numbered stands);
      numbers = numbers_next old new (map text_value (take i items)) _ c.loop-item.numbers.items _ text c.in-Some-2.number c.in_ok-number.ensures.goes_on c.loop-item.invariant.numbers stands
          (seen_more text_value items i item within c.item-item.is ∙ ap (λ t. map text_value (take i items) ++ t ∷ []) (ap (λ o. unwrap_or o []) (sym c.in-Some-as_str.ensures)))
          c.in_ok-push.ensures.items;
    }

pub returns-clause-read : goal.returns-clause-read
returns-clause-read c =
    let items = c.in-Some.items.now in let i = c.loop-item.item-index in let d = view c.args.value.now in
    let names = c.loop-item.names.names.items in let numbers = c.loop-item.numbers.items in
    let past : length items ≤ i = omega arith in
    let whole = take_all i items past in
    let all : list_all is_name_value items ≡ true = ap (list_all is_name_value) (sym whole) ∙ c.loop-item.invariant.are_names in
    let told = subst (λ vs. AreNumbersOf names (map text_value vs) numbers) whole c.loop-item.invariant.numbers in (
      all_names d items (sym c.in-Some.ensures.value) all,
      subst (AreNumbersOf names (texts_of d)) (sym c.new.ensures) (subst (λ texts. AreNumbersOf names texts numbers) (sym (texts_read d items (sym c.in-Some.ensures.value) all)) told),
    )
