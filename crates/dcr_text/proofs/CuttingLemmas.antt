-- What comes of a piece, told by the place of its first line end.
use Rattle.std.proofs.Common.{◌≡◌, ◌==◌, ℕ, ◌+◌, ◌<◌, ◌≤◌, Bool, true, false, List, ◌∷◌, ◌++◌, length, take, drop, get_or, sym, ap, subst, ◌∙◌, arith}
use Rattle.std.proofs.lemmas.List.{take-append-drop, take-append-le, drop_more, length-append, length-take, take_all}
use Rattle.std.proofs.lemmas.List.Elements.{All-take}
use Rattle.dcr_text.specs.Cutting.{Cutter, CutsLine, TakesAll, FindsLong, HasNoEnd, begun}

take_end : (piece : List ℕ) (end : ℕ) → end ≤ length piece → length (take end piece) ≡ end
take_end piece end within = omega (arith, length-take end piece)

-- a front of a front
take_less : (piece : List ℕ) (end few : ℕ) → end ≤ length piece → few ≤ end → take few piece ≡ take few (take end piece)
take_less piece end few within less =
    ap (take few) (sym (take-append-drop end piece)) ∙ take-append-le few (take end piece) (drop end piece) (omega (arith, take_end piece end within))

-- a cutter with more bytes
abbrev with_more : List ℕ → Bool → Cutter → Cutter
with_more bytes is_line cutter = record { limit = cutter.limit; bytes = cutter.bytes ++ bytes; is_line = is_line; is_long = false }

-- what a cutter has that began its line and added to it
pub added : (before begins after : Cutter) (bytes : List ℕ) (is_line : Bool)
    → begins ≡ record { limit = before.limit; bytes = begun before; is_line = false; is_long = false }
    → after ≡ record { limit = begins.limit; bytes = begins.bytes ++ bytes; is_line = is_line; is_long = false }
    → after ≡ record { limit = before.limit; bytes = begun before ++ bytes; is_line = is_line; is_long = false }
added before begins after bytes is_line begins_is is = is ∙ ap (with_more bytes is_line) begins_is

module _ (before after : Cutter) (piece : List ℕ) (room end : ℕ) (goes_on : before.is_long ≡ false)
    (room_is : room + length (begun before) ≡ before.limit) (within : end ≤ length piece) (no_end : HasNoEnd (take end piece)) where
  pub cuts_line : end < length piece → get_or piece end 0 ≡ 10 → end ≤ room
      → after ≡ record { limit = before.limit; bytes = begun before ++ take end piece; is_line = true; is_long = false }
      → CutsLine before piece (end + 1) after
  cuts_line inside stands fits is = record {
    goes_on = goes_on;
    head = take end piece;
    rest = drop (end + 1) piece;
    piece_is = sym (take-append-drop end piece) ∙ ap (λ (l : List ℕ). take end piece ++ l) (drop_more piece end 0 inside ∙ ap (λ (byte : ℕ). byte ∷ drop (end + 1) piece) stands);
    no_end = no_end;
    fits = omega (arith, length-append (begun before) (take end piece), take_end piece end within);
    used_is = omega (arith, take_end piece end within);
    after_is = is;
  }

  pub takes_all : end ≡ length piece → end ≤ room
      → after ≡ record { limit = before.limit; bytes = begun before ++ piece; is_line = false; is_long = false }
      → TakesAll before piece end after
  takes_all whole fits is = record {
    goes_on = goes_on;
    no_end = subst HasNoEnd (take_all end piece (omega arith)) no_end;
    fits = omega (arith, length-append (begun before) piece);
    used_is = whole;
    after_is = is;
  }

  pub finds_long : room < end → after.is_long ≡ true → after.limit ≡ before.limit → FindsLong before piece (room + 1) after
  finds_long long is_long limit = record {
    goes_on = goes_on;
    head = take (room + 1) piece;
    rest = drop (room + 1) piece;
    piece_is = sym (take-append-drop (room + 1) piece);
    no_end = subst HasNoEnd (sym (take_less piece end (room + 1) within (omega arith))) (All-take (λ byte. (byte == 10) ≡ false) (room + 1) (take end piece) no_end);
    long = omega (arith, length-append (begun before) (take (room + 1) piece), take_end piece (room + 1) (omega arith));
    used_is = omega (arith, take_end piece (room + 1) (omega arith));
    stays = (is_long, limit);
  }
