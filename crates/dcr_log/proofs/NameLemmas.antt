-- The names of traces are ASCII text, and short.
use Rattle.std.proofs.Common.{◌≡◌, ℕ, zero, suc, ◌<◌, ◌≤◌, true, List, [], ◌∷◌, length, arith}
use Rattle.std.specs.Prelude.{IsUtf8, slice_index}
use Rattle.std.specs.List.{list_all}
use Rattle.std.proofs.lemmas.Bool.{and_parts, leb-true}
use Rattle.std.proofs.lemmas.Bool.Decides.{nat_tests}
use Rattle.std.proofs.lemmas.Str.{IsUtf8-from_ascii}
use Rattle.dcr_graph.specs.Names.{is_name_byte}
use Rattle.dcr_log.specs.Names.{is_trace_name}

byte_ascii : (b : ℕ) → is_name_byte b ≡ true → b < 128
byte_ascii b e = grind (arith, nat_tests)

all_ascii : (bs : List ℕ) → list_all is_name_byte bs ≡ true → (i : ℕ) → slice_index bs i < 128
all_ascii [] e i = omega arith
all_ascii (b ∷ bs) e zero = byte_ascii b (and_parts (is_name_byte b) (list_all is_name_byte bs) e).0
all_ascii (b ∷ bs) e (suc i) = all_ascii bs (and_parts (is_name_byte b) (list_all is_name_byte bs) e).1 i

-- a name is text
pub name_utf8 : (text : List ℕ) → is_trace_name text ≡ true → IsUtf8 text
name_utf8 text e = IsUtf8-from_ascii text (all_ascii text (and_parts _ _ (and_parts _ _ e).1).1)

-- of 64 bytes at most
pub name_short : (text : List ℕ) → is_trace_name text ≡ true → length text ≤ 64
name_short text e = leb-true (length text) 64 (and_parts _ _ (and_parts _ _ e).1).0
