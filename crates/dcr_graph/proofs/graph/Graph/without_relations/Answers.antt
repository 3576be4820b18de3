use Rattle.std.proofs.Common.{◌≡◌, List, ℕ, length, get_or, replicate, ap, sym, subst, ◌∙◌, arith}
use Rattle.std.proofs.lemmas.List.{get_or-replicate, length-replicate}
use Rattle.dcr_set.specs.EventSet.{Set, no_event}
use Rattle.dcr_graph.specs.Names.{AreDistinct}
use Rattle.dcr_graph.proofs.GraphLemmas.{unrelated}
use Rattle.dcr_graph.proofs.graph.Graph.without_relations.Goals as goal

pub invariant_of-result : goal.invariant_of-result
invariant_of-result c =
    let names = c.in_ok-names.names in let tables = c.in_ok-tables.tables.items in let n = c.count.result in
    let same = ap (λ (xs : List (List ℕ)). length xs) c.in_ok-names.ensures in
    let none : tables ≡ replicate 6 (replicate n (no_event n)) = c.in_ok-tables.ensures in
    let six : length tables ≡ 6 = ap (λ (ts : List (List Set)). length ts) none ∙ length-replicate 6 (replicate n (no_event n)) in record {
      most = c.count.ensures.most;
      as_many_labels = omega (arith, same, c.requires.as_many_labels, c.args.names.ok.0, c.args.labels.ok.0);
      distinct = subst AreDistinct (sym c.in_ok-names.ensures) c.requires.distinct;
      six_kinds = six;
      rows = λ k d within.
          ap (λ (ts : List (List Set)). length (get_or ts k d)) none ∙ ap (λ (table : List Set). length table) (get_or-replicate 6 k (replicate n (no_event n)) d (omega (arith, six)))
          ∙ length-replicate n (no_event n) ∙ c.count.ensures.count;
    }

pub returns-clause-related : goal.returns-clause-related
returns-clause-related c = unrelated c.in_ok-tables.tables.items c.count.result c.in_ok-tables.ensures
