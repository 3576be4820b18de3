-- What the fields of a `LineCutter` stand for.
use Rattle.std.specs.Prelude.{◌≤◌, Bool, true, false, vec_len, vec_capacity}
use Rattle.dcr_text.specs.Cutting.{Cutter}
use Rattle.dcr_text.specs.declared.cutter.LineCutter.TheInside.{Inside}
use Rattle.dcr_text.specs.declared.cutter.Cut.{Cut}
use Rattle.dcr_text.specs.declared.cutter.Cut.TheVariants.{More, Line, TooLong}

abbrev pub is_line : Cut → Bool
is_line Line = true
is_line More = false
is_line TooLong = false

abbrev pub is_long : Cut → Bool
is_long TooLong = true
is_long More = false
is_long Line = false

abbrev pub cutter_of : Inside → Cutter
cutter_of c = record { limit = c.limit; bytes = c.bytes.items; is_line = is_line c.last; is_long = is_long c.last }

-- there is memory for a whole line, and no more of one
pub record HasRoom (c : Inside) : Type 0 where
  pub fits : vec_len c.bytes ≤ c.limit
  pub reserved : c.limit ≤ vec_capacity c.bytes
