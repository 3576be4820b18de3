-- The names of traces.
use Rattle.std.specs.Prelude.{ℕ, Bool, ◌&&◌, List, length, nat_le}
use Rattle.std.specs.List.{list_all}
use Rattle.dcr_graph.specs.Names.{is_name_byte}

-- 1 to 64 letters, digits, `_`, `-` and `.`
abbrev pub is_trace_name : List ℕ → Bool
is_trace_name text = nat_le 1 (length text) && (nat_le (length text) 64 && list_all is_name_byte text)
