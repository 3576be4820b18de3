use Rattle.std.proofs.Common.{rules, ◌+◌, ◌∷◌, length, drop, take, sym, ap, ◌∙◌, arith}
use Rattle.std.proofs.lemmas.List.{take_rest, length-drop}
use Rattle.dcr_adapt.specs.Stages.{line_texts}
use Rattle.dcr_adapt.proofs.LineLemmas.{first_line, one_line, no_line}
use Rattle.dcr_adapt.proofs.lines.cut.Goals as goal

pub returns-in-Some-clause-lines : goal.returns-in-Some-clause-lines
returns-in-Some-clause-lines c =
    let text = c.args.text.now in let at = c.in-Some.at in
    first_line text at (search rules) (search rules) (search rules) ∙ ap (λ rest. take at text ∷ line_texts rest) (sym (take_rest text (at + 1)))

pub returns-in-None-clause-lines : goal.returns-in-None-clause-lines
returns-in-None-clause-lines c =
    let text = c.args.text.now in
    one_line text (search rules) (search rules)
    ∙ ap (λ lines. text ∷ lines) (sym (no_line (drop (length text) text) (let shorter = length-drop (length text) text in omega (arith, shorter))))
    ∙ ap (λ rest. text ∷ line_texts rest) (sym (take_rest text (length text)))
