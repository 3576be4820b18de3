use Rattle.std.proofs.Common.{refl}
use Rattle.dcr_base.specs.declared.status.Status.TheVariants.{Refused}
use Rattle.dcr_roles.specs.Accepted.{HadMemory}
use Rattle.dcr_app.specs.Refusal.{refusal_line}
use Rattle.dcr_app.proofs.OutsideLemmas.{told_line}
use Rattle.dcr_app.proofs.say.refuse.Goals as goal

pub returns : goal.returns
returns g c = (
  (refl, refl),
  told_line c.line_of.result (λ line. line.items) (refusal_line c.args.stop.now) (HadMemory c.args.stop.now) Refused c.tell-status.result (g.O.Sink.takes c.args.output.now) (g.O.Sink.takes c.tell-status.new.output)
      c.line_of.ensures.line c.line_of.ensures.had c.tell-status.ensures,
)
