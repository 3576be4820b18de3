use Rattle.std.proofs.Common.{refl, subst, sym}
use Rattle.std.specs.Process.{exit_status}
use Rattle.dcr.specs.Exit.{Serves, outside}
use Rattle.dcr.specs.declared.Left.TheVariants.{Served}
use Rattle.dcr.proofs.serve.Goals as goal

-- the end is that of the call
pub returns-in-Text : goal.returns-in-Text
returns-in-Text g c =
    let input = c.args.input.now in let output = c.args.output.now in let input' = c.site-end.new.input in let output' = c.site-end.new.output in
    let was = outside (g.I.Source.gives input) (g.I.Source.has_ended input) (g.O.Sink.takes output) in
    let now = outside (g.I.Source.gives input') (g.I.Source.has_ended input') (g.O.Sink.takes output') in
    let code = exit_status c.exit_of-code.result in let it = c.site-end.ensures in
    subst (λ key. Serves {L = g.row.B-Link.Denot} {R = g.row.B-Link-Rest.Denot} g.P.Porter.tells c.args.words.now key c.args.door c.args.disk c.args.porter was now code (Served c.site-end.result c.args.door c.args.disk)) (sym c.in-Text.is)
    (c.exit_of-code.ensures, record { answers = it.answers; input = it.input; output = it.output; porter = it.porter }, refl, refl)
