use Rattle.std.proofs.Common.{List, ℕ, take, Ok, refl, subst, ap, ◌∙◌}
use Rattle.std.specs.Io.KnownBytes.{Appends}
use Rattle.dcr_link.proofs.LineLemmas.{last_said, spoken_halt, spoken_part}
use Rattle.dcr_link.proofs.PieceLemmas.{risen}
use Rattle.dcr_link.proofs.talk.Talk.answer.Goals as goal

pub returns-in-Err-write_all-clause-answered : goal.returns-in-Err-write_all-clause-answered
returns-in-Err-write_all-clause-answered g c =
    spoken_part g.N.ClusterName.cluster g.N.StoreName.first g.N.TurnName.capacity c.args.self.now.terms _ c.args.pass.now c.reply_to.new.pass _ _ _
    c.reply_to.new.self.reply c.reply_to.result _ c.in-Err-write_all.field-0.written (c.in-Ok-None.is ∙ ap Ok c.in-Ok-None.field-0-is) refl c.reply_to.ensures.reply
    (subst (λ (bytes : List ℕ). Appends (g.L.Sink.takes c.args.link.now).bytes (g.L.Sink.takes c.write_all.new.sink).bytes (take c.in-Err-write_all.field-0.written bytes)) c.reply.ensures c.in-Err-write_all.ensures.front)
    c.in-Err-write_all.ensures.counts.1

pub returns-in-Ok-Some-clause-answered : goal.returns-in-Ok-Some-clause-answered
returns-in-Ok-Some-clause-answered g c =
    spoken_halt g.N.ClusterName.cluster g.N.StoreName.first g.N.TurnName.capacity c.args.self.now.terms _ c.args.pass.now c.reply_to.new.pass _ _ _
    c.reply_to.new.self.reply c.halt_line.result.items c.reply_to.result _ c.in-Ok-Some.halt c.write_all-in-Ok-Some.result (c.in-Ok-Some.is ∙ ap Ok c.in-Ok-Some.field-0-is) refl c.reply_to.ensures.reply
    c.halt_line.ensures
    (last_said g.N.ClusterName.cluster g.N.StoreName.first g.N.TurnName.capacity c.args.self.now.terms _ _ _ c.halt_line.result.items c.deref.result.now c.write_all-in-Ok-Some.result c.deref.ensures.0
    c.write_all-in-Ok-Some.ensures.all c.write_all-in-Ok-Some.ensures.front (risen c.write_all-in-Ok-Some.result _ _ _ refl c.write_all-in-Ok-Some.ensures.counts))
