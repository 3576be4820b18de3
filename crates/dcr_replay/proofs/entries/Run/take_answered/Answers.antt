use Rattle.std.proofs.Common.{inl, true, sym, ap, ◌∙◌}
use Rattle.std.proofs.lemmas.Slice.Eq.{bytes_eq-Decides}
use Rattle.dcr_journal.specs.declared.call.Entry.{Entry}
use Rattle.dcr_line.specs.Line.{entry_text}
use Rattle.dcr_text.specs.Lines.{line_of}
use Rattle.dcr_replay.proofs.AnsweredLemmas.{answer_is, fits_answered, may_come, text_is}
use Rattle.dcr_replay.proofs.HeadLemmas.{whole_told}
use Rattle.dcr_replay.proofs.entries.Run.take_answered.Goals as goal

pub is_line-requires : goal.is_line-requires
is_line-requires c =
    let head = c.in-Some-next_head.head in
    fits_answered c.args.self.now c.requires head.session head.seq head.call c.answer-outcome.result c.in-Some-next_head.ensures.call c.answer-outcome.ensures

pub count-requires-clause-fits : goal.count-requires-clause-fits
count-requires-clause-fits c =
    let head = c.in-Some-next_head.head in
    fits_answered c.args.self.now c.requires head.session head.seq head.call c.answer-outcome.result c.in-Some-next_head.ensures.call c.answer-outcome.ensures

pub returns-clause-taken : goal.returns-clause-taken
returns-clause-taken c = λ _ S J stands.
    let run = c.args.self.now in let head = c.in-Some-next_head.head in let text = c.in-Some.text.now in
    let entry : Entry = record { session = head.session; seq = head.seq; call = head.call; outcome = c.answer-outcome.result } in
    let fits = fits_answered run c.requires head.session head.seq head.call c.answer-outcome.result c.in-Some-next_head.ensures.call c.answer-outcome.ensures in
    let said = (bytes_eq-Decides text (entry_text run.cover.now.names run.graph.now.names run.len entry)).0 (sym c.in-Ok-true.ensures ∙ c.in-Ok-true.field-0-test) in
    let is = whole_told (line_of c.args.line.text.now c.args.line.ended) text (sym c.in-Some.ensures) in
    let may = may_come S J run stands entry c.in-Some-next_head.ensures.comes fits in
    let answered = inl (answer_is S J run stands c.requires head.call c.answer-outcome.result c.answer-outcome.ensures) in (
      entry,
      (may, is ∙ ap (λ t. line_of t true) (said ∙ text_is S J run stands entry)),
      answered,
      c.count.ensures.stands S J stands may answered,
    )
