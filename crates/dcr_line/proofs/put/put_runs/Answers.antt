use Rattle.std.proofs.Common.{sym, subst, ◌∙◌, arith}
use Rattle.std.proofs.lemmas.Grind.{common_steps}
use Rattle.dcr_set.proofs.RunLemmas.{IsFound, IsRun, is_found, run_within}
use Rattle.dcr_line.proofs.RunLemmas.{run_some, run_more, runs_end}
use Rattle.dcr_line.proofs.put.put_runs.Goals as goal
use Rattle.dcr_line.proofs.put.put_runs.Goals.{In-Some, After-first_missing_from-next}

found : (c : In-Some) → IsFound c.args.set.now c.loop-first.next c.in-Some.first
found c = is_found c.args.set.now c.loop-first.next c.in-Some.first (sym c.first_from.ensures ∙ c.in-Some.is)

run : (c : After-first_missing_from-next) → IsRun c.args.set.now c.in-Some.first c.first_missing_from-next.result
run c =
    let ends = c.first_missing_from-next.ensures in
    subst (λ a. IsRun c.args.set.now a c.first_missing_from-next.result) c.first.view_is (record { begins = ends.from; ends = ends.missing; all = λ k above below. ends.run k above below })

pub names_from-requires-clause-to : goal.names_from-requires-clause-to
names_from-requires-clause-to c =
    let t = goal.at.names_from-requires-clause-to c in let first = found t.In-Some in
    omega (arith, run_within c.args.set.now c.in-Some.first c.first_missing_from-next.result (run t.After-first_missing_from-next) (omega (arith, first.below)), c.requires)

pub loop-first-preserved : goal.loop-first-preserved
loop-first-preserved c =
    let t = goal.at.loop-first-preserved c in record {
      added = run_more c.args.graph.now.names c.args.set.now c.loop-first.next c.in-Some.first c.first_missing_from-next.result _ _ _ _ (found t.In-Some) (run t.After-first_missing_from-next)
          c.in_ok-put.ensures.added c.names_from.ensures c.loop-first.invariant.added;
      kept = grind (arith, common_steps);
    }

pub loop-first-smaller : goal.loop-first-smaller
loop-first-smaller c =
    let t = goal.at.loop-first-smaller c in let first = found t.In-Some in
    omega (arith, first.from_on, first.below, run_some c.args.set.now c.in-Some.first c.first_missing_from-next.result (run t.After-first_missing_from-next) first.member)

pub returns-clause-added : goal.returns-clause-added
returns-clause-added c = runs_end c.args.graph.now.names c.args.set.now c.loop-first.next _ _ (sym c.first_from.ensures ∙ c.in_default.is) c.loop-first.invariant.added
