use Rattle.std.proofs.Common.{◌≡◌, ap, sym, ◌∙◌, subst}
use Rattle.std.specs.Box.{with_value}
use Rattle.dcr_graph.specs.Rows.{row}
use Rattle.dcr_journal.specs.Answer.{outcome_decided}
use Rattle.dcr_journal.specs.declared.call.Call.TheVariants.{Exec}
use Rattle.dcr_site.specs.Seen.{Seen, StandsAt}
use Rattle.dcr_cell.specs.ClusterId.{marking_after, answer_after}
use Rattle.dcr_cell.specs.declared.cell.Cell.{Cell}
use Rattle.dcr_cell.proofs.AskLemmas.{decided_is, execution_by}
use Rattle.dcr_cell.proofs.cell.Cell.answer.Goals as goal

pub returns-in-Exec-clause-told : goal.returns-in-Exec-clause-told
returns-in-Exec-clause-told g c =
    let cluster = g.N.ClusterName.cluster in
    let front = c.args.self.now.front in
    let M = marking_after cluster front.front in
    let is_here : c.args.call.now ≡ Exec front.site c.in-Exec.e =
    execution_by c.args.call.now front.site c.in-Exec.field-0 c.in-Exec.e c.in-Exec.is c.requires.asked in
    let stands : StandsAt cluster.rules (row cluster.owned front.site) M c.deref.result.now =
    subst (λ (site : Seen). StandsAt cluster.rules (row cluster.owned front.site) M site) (sym c.deref.ensures) c.requires.stands.stands in
    let found = c.decide.ensures cluster.rules (row cluster.owned front.site) M stands in
    c.decided.ensures ∙ ap outcome_decided found ∙ decided_is cluster.rules cluster.owned front.site c.in-Exec.e M ∙ sym (ap (answer_after cluster front.front) is_here)

pub returns-in_default-clause-same : goal.returns-in_default-clause-same
returns-in_default-clause-same g c =
    ap (λ (site : Seen). let cell : Cell g.row.N.Denot = record { site = with_value c.args.self.now.site site; front = c.args.self.now.front } in cell)
    (c.show.ensures.same ∙ c.deref_mut.ensures.value)

pub returns-in_default-clause-told : goal.returns-in_default-clause-told
returns-in_default-clause-told g c =
    let cluster = g.N.ClusterName.cluster in
    let front = c.args.self.now.front in
    let M = marking_after cluster front.front in
    c.show.ensures.told front.front
    (subst (λ i. StandsAt cluster.rules (row cluster.owned i) M c.deref_mut.result.now) (sym c.site.ensures)
    (subst (λ (site : Seen). StandsAt cluster.rules (row cluster.owned front.site) M site) (sym c.deref_mut.ensures.value) c.requires.stands.stands))
