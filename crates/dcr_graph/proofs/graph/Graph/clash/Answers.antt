use Rattle.std.proofs.Common.{◌≡◌, sym, ap, ◌∙◌, arith, below_more}
use Rattle.dcr_set.specs.Least.{least}
use Rattle.dcr_set.specs.EventSet.{first_in_both}
use Rattle.dcr_graph.specs.Pairs.{clashes}
use Rattle.dcr_graph.specs.GraphValue.{rules_of}
use Rattle.dcr_graph.proofs.GraphLemmas.{first_in_both-those, first_clash-found, first_clash-none}
use Rattle.dcr_graph.proofs.graph.Graph.clash.Goals as goal
use Rattle.dcr_graph.proofs.graph.Graph.clash.Goals.{After-first_common}

-- what is in both sets is the least clash of this atom
here : (c : After-first_common) → c.first_common.result ≡ least (rules_of c.args.self.now).atoms (clashes (rules_of c.args.self.now) c.loop-number.number)
here c =
    c.first_common.ensures ∙ ap (λ s. first_in_both s c.targets-in-loop-number.result.now) c.targets.ensures.targets
    ∙ ap (first_in_both _) c.targets-in-loop-number.ensures.targets
    ∙ first_in_both-those _ _ _

pub returns-in-Some : goal.returns-in-Some
returns-in-Some c =
    sym (first_clash-found (rules_of c.args.self.now) c.loop-number.number c.in-Some.b (omega (arith, c.atoms-number-end.ensures.atoms))
    (sym (here (goal.at.returns-in-Some c).After-first_common) ∙ c.in-Some.is) c.loop-number.invariant)

pub loop-number-preserved : goal.loop-number-preserved
loop-number-preserved c = below_more _ _ c.loop-number.invariant (sym (here (goal.at.loop-number-preserved c).After-first_common) ∙ c.in_default.is)

pub returns : goal.returns
returns c = sym (first_clash-none (rules_of c.args.self.now) (λ k below. c.loop-number.invariant k (omega (arith, c.atoms-number-end.ensures.atoms))))
