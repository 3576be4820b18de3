use Rattle.std.proofs.Common.{◌≡◌, Some, ap, sym, ◌∙◌, arith}
use Rattle.std.proofs.lemmas.Bool.Decides.{nat_tests}
use Rattle.std.specs.Box.{with_value}
use Rattle.dcr_site.specs.Seen.{Seen}
use Rattle.dcr_cell.specs.Laws.{asked}
use Rattle.dcr_cell.specs.declared.cell.Cell.{Cell}
use Rattle.dcr_cell.proofs.AskLemmas.{asked_here, asked_elsewhere}
use Rattle.dcr_cell.proofs.cell.Cell.ask.Goals as goal

pub answer-requires-clause-asked : goal.answer-requires-clause-asked
answer-requires-clause-asked g c =
    let here : c.in-Some.i ≡ c.args.self.now.front.site = grind (arith, nat_tests) in
    sym c.asked_site.ensures ∙ c.in-Some.is ∙ ap Some here

pub returns-then-eq-clause-found : goal.returns-then-eq-clause-found
returns-then-eq-clause-found g c = λ fronts is.
    let here : c.in-Some.i ≡ c.args.self.now.front.site = grind (arith, nat_tests) in
    let asks : asked c.args.call.now ≡ Some c.args.self.now.front.site = sym c.asked_site.ensures ∙ c.in-Some.is ∙ ap Some here in
    asked_here g.N.ClusterName.cluster c.args.call.now fronts c.args.self.now.front c.args.found.now c.answer.new.told asks c.answer.ensures.told

pub returns-else-eq-clause-found : goal.returns-else-eq-clause-found
returns-else-eq-clause-found g c = λ fronts is.
    let other : ¬ (c.in-Some.i ≡ c.args.self.now.front.site) = grind (arith, nat_tests) in
    asked_elsewhere g.N.ClusterName.cluster c.args.call.now fronts c.args.self.now.front c.args.found.now c.args.found.now c.in-Some.i (sym c.asked_site.ensures ∙ c.in-Some.is) other is

pub returns-in-None-clause-same : goal.returns-in-None-clause-same
returns-in-None-clause-same g c =
    ap (λ (site : Seen). let cell : Cell g.row.N.Denot = record { site = with_value c.args.self.now.site site; front = c.args.self.now.front } in cell)
    (c.waits_again.ensures.same ∙ c.deref_mut.ensures.value)
