-- What pieces of a text are still to come.
use Rattle.std.specs.Prelude.{ℕ, List, [], Option, Some, None}
use Rattle.std.specs.Borrow.{Bor}
use Rattle.dcr_text.specs.Lines.{pieces_of}
use Rattle.dcr_line.specs.declared.pieces.Pieces.TheInside.{Inside}

abbrev pub pieces_of_rest : ℕ → Option (Bor (List ℕ)) → List (List ℕ)
pieces_of_rest separator None = []
pieces_of_rest separator (Some rest) = pieces_of separator rest.now

abbrev pub pieces_left : Inside → List (List ℕ)
pieces_left it = pieces_of_rest it.separator it.rest
