use Rattle.std.proofs.Common.{◌≡◌, false, ◌&&◌, sym, ap, ◌∙◌}
use Rattle.std.proofs.lemmas.Bool.{and_left, and_right}
use Rattle.std.proofs.lemmas.Result.{IfOk-weaker}
use Rattle.dcr_journal.specs.declared.call.Outcome.{Outcome}
use Rattle.dcr_journal.specs.declared.call.Entry.{Entry}
use Rattle.dcr_text.specs.Lines.{Line}
use Rattle.dcr_replay.specs.EntryLines.{answer_after, is_done, is_faulted, text_next}
use Rattle.dcr_replay.proofs.AnsweredLemmas.{answer_is, fits_answered, judged, text_is}
use Rattle.dcr_replay.proofs.entries.Run.is_answered.Goals as goal
use Rattle.dcr_replay.proofs.entries.Run.is_answered.Goals.{else-is_done-via-then-is_done+else-is_faulted, else-is_done-via-else-is_done}

pub is_line-requires : goal.is_line-requires
is_line-requires c =
    let entry = c.args.entry.now in
    fits_answered c.args.self.now c.requires.sound entry.session entry.seq entry.call c.answer-outcome.result c.requires.fits.call c.answer-outcome.ensures

pub returns : goal.returns
returns c = IfOk-weaker c.is_line.result _ _ (λ is tested S J ended stands next.
    let run = c.args.self.now in let entry = c.args.entry.now in let outcome = c.answer-outcome.result in
    let With : Outcome → Entry = λ o. record { session = entry.session; seq = entry.seq; call = entry.call; outcome = o } in
    let answered = answer_is S J run stands c.requires.sound entry.call outcome c.answer-outcome.ensures in
    let done = answer_after S J entry.call in
    let other : is_done done && is_faulted entry.outcome ≡ false = elim c.else-is_done.branch [
      | else-is_done-via-then-is_done+else-is_faulted w ↦ and_right (is_done done) (is_faulted entry.outcome) (sym w.is_faulted.ensures ∙ w.if-is_faulted.false)
      | else-is_done-via-else-is_done w ↦ and_left (is_done done) (is_faulted entry.outcome) (ap is_done (sym answered) ∙ sym c.is_done.ensures ∙ w.if-is_done.false)
    ] in
    judged S J entry next.0 other c.args.text.now _ (ap (λ (l : Line). l.text) next.1) (text_is S J run stands (With outcome) ∙ ap (λ o. text_next S J (With o)) answered) is tested) c.is_line.ensures
