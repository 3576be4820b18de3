use Rattle.std.proofs.Common.{◌∙◌, sym, arith}
use Rattle.std.proofs.lemmas.Bool.{le-ltb}
use Rattle.dcr_set.proofs.SetLemmas.{has_past}
use Rattle.dcr_set.proofs.StandsLemmas.{stands, tested}
use Rattle.dcr_set.proofs.set.EventSet.contains.Goals as goal

pub returns-then-e-self : goal.returns-then-e-self
returns-then-e-self c = c.test_bit.ensures ∙ tested c.e.inside.0 c.args.e c.e.view_is (stands c.self.inside c.args.self.now c.self.invariant c.self.view_is)

pub returns-else-e-self : goal.returns-else-e-self
returns-else-e-self c =
    let whole = stands c.self.inside c.args.self.now c.self.invariant c.self.view_is in
    le-ltb c.e.inside.0 c.self.inside.room c.if-e-self.false ∙ sym (has_past c.args.self.now c.args.e (omega (arith, whole.room_is, c.e.view_is)))
