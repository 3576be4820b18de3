use Rattle.std.proofs.Common.{◌≡◌, ℕ, List, Option, not, length, sym, ap, ◌∙◌, arith}
use Rattle.std.specs.Option.{is_none}
use Rattle.dcr_set.proofs.LeastLemmas.{least-from, least-none_from}
use Rattle.dcr_graph.specs.Names.{number_of}
use Rattle.dcr_line.specs.Line.{name_of as name_at}
use Rattle.dcr_adapt.proofs.dropping.first_dropped.Goals as goal

-- what was found in the index of the names
found_in : (index names : List (List ℕ)) (bytes name : List ℕ) (found : Option ℕ) → found ≡ number_of index bytes → index ≡ names → bytes ≡ name → number_of names name ≡ found
found_in index names bytes name found told same is = ap (number_of names) (sym is) ∙ ap (λ ns. number_of ns bytes) (sym same) ∙ sym told

pub returns-then-is_none : goal.returns-then-is_none
returns-then-is_none c =
    let names = c.args.graph.now.names in
    let number = c.loop-number.number in
    let found : number_of c.args.next.now.names (name_at names number) ≡ c.find.result =
    found_in c.in_ok-names.names c.args.next.now.names c.as_bytes.result.now (name_at names number) c.find.result c.find.ensures c.in_ok-names.ensures
    (c.as_bytes.ensures.value ∙ c.text.ensures.text ∙ c.name.ensures) in
    sym (least-from (length names) (λ a. is_none (number_of c.args.next.now.names (name_at names a))) number (record {
      below = omega (arith, c.atoms-number-end.ensures.atoms);
      passes = ap is_none found ∙ ap not (c.is_none.ensures ∙ ap not c.if-is_none.true);
      none_before = c.loop-number.invariant;
    }))

pub returns : goal.returns
returns c =
    let names = c.args.graph.now.names in
    sym (least-none_from (length names) (λ a. is_none (number_of c.args.next.now.names (name_at names a))) (λ k below. c.loop-number.invariant k (omega (arith, c.atoms-number-end.ensures.atoms))))
