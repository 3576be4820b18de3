use Rattle.std.proofs.Common.{rules, ◌<◌, ◌+◌, ◌∷◌, length, drop, take, true, false, sym, ap, ◌∙◌, arith}
use Rattle.std.proofs.lemmas.List.{take_rest, length-drop}
use Rattle.dcr_text.specs.Lines.{line_of, lines_of}
use Rattle.dcr_replay.proofs.LinesLemmas.{lines_at, lines_whole, lines_none, unended_is}
use Rattle.dcr_replay.proofs.lines.Lines.of.Goals as goal

pub returns-then-is_empty : goal.returns-then-is_empty
returns-then-is_empty c = sym (lines_none c.args.text.now (search rules))

pub returns-in-Some : goal.returns-in-Some
returns-in-Some c =
    let text = c.args.text.now in let at = c.in-Some.at in
    ap (λ rest. line_of (take at text) true ∷ lines_of rest) (take_rest text (at + 1)) ∙ sym (lines_at text at (search rules) (search rules) (search rules))

pub returns-in-None : goal.returns-in-None
returns-in-None c =
    let text = c.args.text.now in
    let some : 0 < length text = search rules in
    ap (λ rest. line_of text false ∷ lines_of rest) (take_rest text (length text))
    ∙ ap (λ lines. line_of text false ∷ lines) (lines_none (drop (length text) text) (let shorter = length-drop (length text) text in omega (arith, shorter)))
    ∙ sym (unended_is text some) ∙ sym (lines_whole text (search rules))
