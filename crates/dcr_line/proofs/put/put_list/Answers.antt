use Rattle.std.proofs.Common.{◌++◌, List, ℕ, length, drop, sym, ap, subst, ◌∙◌, arith}
use Rattle.std.proofs.lemmas.Result.{on_ok_weaker}
use Rattle.dcr_set.specs.EventSet.{numbers_from}
use Rattle.dcr_graph.specs.Names.{comma_names}
use Rattle.dcr_set.proofs.RunLemmas.{IsFound, IsRun, run_within}
use Rattle.dcr_line.proofs.RunLemmas.{is_first, run_some, run_long, list_none, list_some, list_put, none_put}
use Rattle.dcr_line.proofs.put.put_list.Goals as goal
use Rattle.dcr_line.proofs.put.put_list.Goals.{In-Some, After-first_missing_from-end}

found : (c : In-Some) → IsFound c.args.set.now 0 c.in-Some.first
found c = is_first c.args.set.now c.in-Some.first (sym c.first.ensures ∙ c.in-Some.is)

run : (c : After-first_missing_from-end) → IsRun c.args.set.now c.in-Some.first c.first_missing_from-end.result
run c =
    let ends = c.first_missing_from-end.ensures in
    subst (λ a. IsRun c.args.set.now a c.first_missing_from-end.result) c.first-in-Some.view_is (record { begins = ends.from; ends = ends.missing; all = λ k above below. ends.run k above below })

pub returns-in-None-clause-added : goal.returns-in-None-clause-added
returns-in-None-clause-added c =
    on_ok_weaker c.put-in-None.result (none_put _ _ _ _ _ _ c.in_ok-put.ensures.added (list_none c.args.graph.now.names c.args.set.now (sym c.first.ensures ∙ c.in-None.is))) c.put-in-None.ensures.added

pub names_from-requires-clause-to : goal.names_from-requires-clause-to
names_from-requires-clause-to c =
    let t = goal.at.names_from-requires-clause-to c in let first = found t.In-Some in
    omega (arith, run_within c.args.set.now c.in-Some.first c.first_missing_from-end.result (run t.After-first_missing_from-end) (omega (arith, first.below)), c.requires)

pub behind_first-requires : goal.behind_first-requires
behind_first-requires c =
    let t = goal.at.behind_first-requires c in
    let less = run_some c.args.set.now c.in-Some.first c.first_missing_from-end.result (run t.After-first_missing_from-end) (found t.In-Some).member in
    omega (arith, ap (λ (xs : List ℕ). length xs) c.names_from.ensures, run_long c.args.graph.now.names c.in-Some.first c.first_missing_from-end.result less)

pub returns-in_ok-put-in-Some-clause-added : goal.returns-in_ok-put-in-Some-clause-added
returns-in_ok-put-in-Some-clause-added c =
    let t = goal.at.returns-in_ok-put-in-Some-clause-added c in
    on_ok_weaker c.put_runs.result (list_put _ _ _ _ _ _ _ _ c.in_ok-put.ensures.added c.in_ok-put-in-Some.ensures.added
    (list_some c.args.graph.now.names c.args.set.now c.in-Some.first c.first_missing_from-end.result (sym c.first.ensures ∙ c.in-Some.is) (run t.After-first_missing_from-end)
    ∙ ap (λ xs. xs ++ comma_names c.args.graph.now.names (numbers_from c.args.set.now c.first_missing_from-end.result)) (sym (c.behind_first.ensures ∙ ap (λ (xs : List ℕ). drop 1 xs) c.names_from.ensures))))
    c.put_runs.ensures.added
