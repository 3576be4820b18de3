use Rattle.std.proofs.Common.{ℕ, ◌<◌, ◌≤◌, ◌+◌, ◌∙◌, List, length, Err, IfSome, refl, sym, subst, ap, arith}
use Rattle.dcr_app.specs.Answers.{WasRead}
use Rattle.dcr_app.specs.Outside.{TookAtMost, most_bytes}
use Rattle.dcr_app.proofs.AnswerLemmas.{unread_leaves, unread_told, whole_task}
use Rattle.dcr_app.proofs.OutsideLemmas.{read_counts, took_all, uncounted, were_left}
use Rattle.dcr_app.proofs.app.read_input.Goals as goal

pub returns-in-Ok-clause-task : goal.returns-in-Ok-clause-task
returns-in-Ok-clause-task g c =
    let left = g.I.Source.gives c.args.input.now in let rest = g.I.Source.gives c.read_all.new.source in let has_ended = g.I.Source.has_ended c.read_all.new.source in let items = c.in-Ok.bytes.items in
    let few : length items ≤ most_bytes c.args.reading.now = (let limit = c.limit_of.ensures in let within = c.in-Ok.ensures.within in let many = c.in-Ok.bytes.ok in omega (arith, limit, within, many)) in
    let read : WasRead c.args.reading.now left rest has_ended items = record {
      were_left = were_left left.bytes items c.in-Ok.ensures.all;
      few = few;
      ended = c.in-Ok.ensures.has_ended;
      leaves = λ status other. (
        took_all (most_bytes c.args.reading.now) left.bytes rest.bytes items few c.in-Ok.ensures.all c.in-Ok.ensures.told c.in-Ok.ensures.ended,
        λ done. (c.in-Ok.ensures.has_ended, c.in-Ok.ensures.ended),
        uncounted other c.in-Ok.ensures.counts,
      );
    } in
    whole_task c.args.reading.now left rest has_ended c.deref.result.now (g.O.Sink.takes c.args.output.now) (g.O.Sink.takes c.task_of_bytes.new.output) c.task_of_bytes.result.0
    (subst (λ (text : List ℕ). WasRead c.args.reading.now left rest has_ended text) (sym c.deref.ensures.value) read) c.task_of_bytes.ensures.task

pub returns-in-Err-clause-task : goal.returns-in-Err-clause-task
returns-in-Err-clause-task g c =
    let left = g.I.Source.gives c.args.input.now in let rest = g.I.Source.gives c.read_all.new.source in let had = g.O.Sink.takes c.args.output.now in let took = g.O.Sink.takes c.unread-status.new.output in (
      unread_told c.in-Err.stop c.args.reading.now left.bytes _ had took c.unread-status.result _ _ (refl, refl)
          (λ long. subst (λ (n : ℕ). IfSome left.bytes (λ it. n < length it)) c.limit_of.ensures (c.read_all.ensures.too_long (c.in-Err.is ∙ ap Err long))) c.unread-status.ensures,
      unread_leaves c.in-Err.stop (most_bytes c.args.reading.now) left rest (g.I.Source.has_ended c.read_all.new.source) c.unread-status.result had took
          (subst (λ (n : ℕ). TookAtMost (n + 1) left.bytes rest.bytes) c.limit_of.ensures c.in-Err.ensures.lost) (read_counts c.in-Err.stop _ _ c.in-Err.ensures.counts) c.unread-status.ensures,
    )
