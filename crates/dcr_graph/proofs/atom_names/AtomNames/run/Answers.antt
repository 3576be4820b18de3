use Rattle.std.proofs.Common.{◌<◌, ◌-◌, List, ℕ, length, take, drop, get_or, ap, ◌∙◌, arith}
use Rattle.std.specs.List.{range_with_len}
use Rattle.std.proofs.lemmas.List.{get_or_read}
use Rattle.dcr_graph.specs.Names.{comma_names}
use Rattle.dcr_graph.proofs.JoinedLemmas.{IsPiece, is_piece}
use Rattle.dcr_graph.proofs.atom_names.AtomNames.run.Goals as goal
use Rattle.dcr_graph.proofs.atom_names.AtomNames.run.Goals.{After-deref}

-- the piece that the starts of the two numbers bound
is_run : (c : After-deref) → IsPiece c.self.inside.names.items c.self.inside.joined.items c.args.from c.args.to c.index.result.now c.index-2.result.now
is_run c =
    let names = c.self.inside.names.items in let starts = c.self.inside.starts.items in
    let many = ap (λ (xs : List (List ℕ)). length xs) c.self.view_is in
    let first : c.from.result < length starts = omega (arith, many, c.from.ensures, c.self.invariant.as_many, c.requires.from, c.requires.to) in
    let last : c.from-2.result < length starts = omega (arith, many, c.from-2.ensures, c.self.invariant.as_many, c.requires.to) in
    is_piece names c.self.inside.joined.items starts c.args.from c.args.to c.index.result.now c.index-2.result.now c.requires.from (omega (arith, many, c.requires.to))
    c.self.invariant.joined c.self.invariant.starts
    (get_or_read starts c.from.result c.index.result.now first c.index.ensures 0 ∙ ap (λ k. get_or starts k 0) c.from.ensures)
    (get_or_read starts c.from-2.result c.index-2.result.now last c.index-2.ensures 0 ∙ ap (λ k. get_or starts k 0) c.from-2.ensures)

pub piece-requires-clause-up : goal.piece-requires-clause-up
piece-requires-clause-up c = (is_run (goal.at.piece-requires-clause-up c).After-deref).up

pub piece-requires-clause-within : goal.piece-requires-clause-within
piece-requires-clause-within c =
    omega (arith, (is_run (goal.at.piece-requires-clause-within c).After-deref).within, ap (λ (xs : List ℕ). length xs) c.deref.ensures.value)

pub returns : goal.returns
returns c =
    c.piece.ensures ∙ ap (λ (xs : List ℕ). take (c.index-2.result.now - c.index.result.now) (drop c.index.result.now xs)) c.deref.ensures.value
    ∙ (is_run (goal.at.returns c).After-deref).piece
    ∙ ap (λ (names : List (List ℕ)). comma_names names (range_with_len c.args.from (c.args.to - c.args.from))) c.self.view_is
