use Rattle.std.proofs.Common.{◌+◌, ◌∷◌, length, take, rules, arith, sym, ap, ◌∙◌}
use Rattle.std.proofs.lemmas.List.{take_rest}
use Rattle.dcr_text.specs.Lines.{pieces_of}
use Rattle.dcr_line.specs.PiecesModel.{pieces_of_rest}
use Rattle.dcr_line.proofs.PiecesLemmas.{pieces_at, pieces_whole}
use Rattle.dcr_line.proofs.pieces.PiecesIterator.next.Goals as goal

-- the piece ends at the first separator
pub returns-in-Some-clause-steps : goal.returns-in-Some-clause-steps
returns-in-Some-clause-steps c =
    let rest = c.in_ok-rest.rest.now in
    let at = c.in-Some.at in
    let separator = c.self.inside.separator in
    sym c.self.view_is ∙ ap (pieces_of_rest separator) c.in_ok-rest.was ∙ pieces_at separator rest at (search rules) (search rules) (search rules)
    ∙ ap (λ t. take at rest ∷ pieces_of separator t) (sym (take_rest rest (at + 1)))

pub returns-in-Some-clause-goes : goal.returns-in-Some-clause-goes
returns-in-Some-clause-goes c =
    record { on = λ _. (tt, tt, omega (arith, ap length (returns-in-Some-clause-steps c))); keeps = tt; rests = λ _. tt }

pub returns-in-None-clause-steps : goal.returns-in-None-clause-steps
returns-in-None-clause-steps c =
    sym c.self.view_is ∙ ap (pieces_of_rest c.self.inside.separator) c.in_ok-rest.was ∙ pieces_whole c.self.inside.separator c.in_ok-rest.rest.now (search rules)

pub returns-in-None-clause-goes : goal.returns-in-None-clause-goes
returns-in-None-clause-goes c =
    record { on = λ _. (tt, tt, omega (arith, ap length (returns-in-None-clause-steps c))); keeps = tt; rests = λ _. tt }
