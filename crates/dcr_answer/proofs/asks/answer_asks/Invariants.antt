-- So many were asked, and all that is answered to them was written.
use Rattle.dcr_set.specs.EventSet.{Set}
use Rattle.dcr_graph.specs.Rules.{Rules}
use Rattle.dcr_graph.specs.declared.marking.Marking.{Marking}
use Rattle.dcr_site.specs.Seen.{StandsAt}
use Rattle.dcr_answer.proofs.TalkedLemmas.{Talked}
use Rattle.dcr_answer.proofs.asks.answer_asks.Given as goal

abbrev pub invariant-loop-count : goal.invariant-loop-count
invariant-loop-count g l = (G : Rules) (S : Set) (M : Marking) → StandsAt G S M l.initial.node.site
    → Talked G S l.initial.node l.node (g.L.Source.gives l.initial.link) (g.L.Source.gives l.link) (g.L.Sink.takes l.initial.link) (g.L.Sink.takes l.link) l._count
