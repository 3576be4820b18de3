-- The walk from here over the events that are left gives the answer of the whole.
use Rattle.std.proofs.Common.{◌≡◌, drop}
use Rattle.dcr_conform.proofs.JudgeLemmas.{walked}
use Rattle.dcr_conform.proofs.judging.walk.Given as goal

abbrev pub invariant-loop-place : goal.invariant-loop-place
invariant-loop-place l = record {
  graph : l.plain.graph ≡ l.graph;
  answer : walked l.graph l.plain.marking l.place (drop l.place l.events) ≡ walked l.graph l.start 0 l.events;
}
