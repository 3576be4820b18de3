use Rattle.std.proofs.Common.{◌≡◌, ◌∙◌, ap, sym, inl, inr, true, false, None}
use Rattle.std.specs.Prelude.{is_some}
use Rattle.dcr_node.specs.JournalState.{execution, question}
use Rattle.dcr_schedule.proofs.PlayingLemmas.{not_asked_for, proposed_then, proposes, told_here}
use Rattle.dcr_schedule.proofs.run.execute.Goals as goal

pub returns-in_ok-settle-clause-told : goal.returns-in_ok-settle-clause-told
returns-in_ok-settle-clause-told c = λ G C M it free.
    let p = execution c.args.session c.args.site c.args.event in
    let w0 = c.args.world.now in let w1 = c.event.new.self in let w2 = c.play.new.world in let w3 = c.settle.new.world in
    let is1 = c.event.ensures.right G C M it in let is2 = c.play.ensures.right G C M is1 in
    elim (proposed_then G C M p w0.journal w1.journal w2.journal free (proposes G C w0 w1 c.args.session c.args.site c.args.event (c.in_ok-event.ensures.happened G C M it)) (c.play.ensures.told G C M is1)) [
      | inl out ↦ told_here G C M p w0.journal w2.journal w3.journal out (c.in_ok-settle.ensures.told G C M c.args.session c.args.event is2 out.out)
      | inr told ↦ absurd (
          let none : question c.journal_node.result.now ≡ None = ap question c.journal_node.ensures.node ∙ not_asked_for w2.journal told.out in
          let wrong : false ≡ true = sym (ap is_some (c.ask.ensures ∙ none)) ∙ (sym c.is_some.ensures ∙ c.if-is_some.true) in cc)
    ]
