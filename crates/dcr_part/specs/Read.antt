-- What is found in the JSON value of a part, where it is one.
use Rattle.std.specs.Prelude.{◌≡◌, ℕ, ◌<◌, ◌≤◌, Bool, true, List, [], ◌++◌, codes, decimal, length, Option, Some, None, MatchOption, slice_index_or, vec_len, if◌then◌else◌}
use Rattle.std.specs.List.{All}
use Rattle.hex.specs.Hex.{IsBytes}
use Rattle.dcr_set.specs.EventSet.{Set, has}
use Rattle.dcr_graph.specs.Names.{is_name}
use Rattle.dcr_graph.specs.Projection.{as_marking, FitsAtoms, HasRoom}
use Rattle.dcr_graph.specs.Rows.{leads}
use Rattle.dcr_graph.specs.Rules.{Rules, kind_number}
use Rattle.dcr_graph.specs.declared.kind.Kind.{Kind}
use Rattle.dcr_part.specs.Told.{Told, name_told}
use Rattle.dcr_part.specs.declared.fields.Fields.{Fields}

-- something is found, and it is so
abbrev pub IsFound : {A : Type 0} → Option A → (A → Type 0) → Type 0
IsFound found P = MatchOption found ⊥ P

-- the table has the pairs of a relation between n atoms
abbrev pub IsTableOf : ℕ → (ℕ → ℕ → Bool) → List Set → Type 0
IsTableOf n related table = (a b : ℕ) → a < n → b < n → leads table a b ≡ related a b

-- the relation of a table for each kind, by its number
abbrev pub table_rules : ℕ → List (List Set) → Rules
table_rules n tables = record { atoms = n; related = λ kind a b. leads (slice_index_or tables (kind_number kind) []) a b }

-- there is a table of each kind
abbrev pub AreTablesOf : Rules → List (List Set) → Type 0
AreTablesOf R tables = (kind : Kind) → IsTableOf R.atoms (R.related kind) (slice_index_or tables (kind_number kind) [])

-- the name that stands in for that of an atom
abbrev pub stand_in : ℕ → List ℕ
stand_in number = codes "e" ++ decimal number

-- What is told is over at most 1,024 atoms, with a digest of 32 bytes, a site's number and name, and names just on the alphabet, which
-- has what is owned.
pub record IsTold (P : Told) : Type 0 where
  pub atoms : P.rules.atoms ≤ 1024
  pub own : length P.own ≡ P.rules.atoms
  pub alphabet : length P.alphabet ≡ P.rules.atoms
  pub marks : FitsAtoms P.rules.atoms P.mark.executed P.mark.pending P.mark.included
  pub digest : length P.head.digest ≡ 32
  pub bytes : IsBytes P.head.digest
  pub site : P.head.site < 64
  pub site_name : is_name P.head.name ≡ true
  pub owned : (e : ℕ) → has P.own e ≡ true → has P.alphabet e ≡ true
  pub as_many : length P.names ≡ P.rules.atoms
  pub named : (e : ℕ) → has P.alphabet e ≡ true → is_name (name_told P.names e) ≡ true
  pub just : (e : ℕ) → e < P.rules.atoms → slice_index_or P.names e None ≡ (if has P.alphabet e then Some (name_told P.names e) else None)

-- the fields are over as many atoms, and within the limits
pub record FitFields (f : Fields) : Type 0 where
  pub atoms : length f.own ≤ 1024
  pub names : length f.names.items ≡ length f.own
  pub six : vec_len f.tables ≡ 6
  pub rows : All (λ table. length table ≡ length f.own) f.tables.items
  pub opening : HasRoom (length f.own) f.opening
  pub digest : length f.head.digest ≡ 32
  pub bytes : IsBytes f.head.digest
  pub site : f.head.site < 64

-- the fields are what is told
pub record AreFields (P : Told) (f : Fields) : Type 0 where
  pub head : f.head ≡ P.head
  pub own : f.own ≡ P.own
  pub names : f.names.items ≡ P.names
  pub tables : AreTablesOf P.rules f.tables.items
  pub opening : f.opening ≡ as_marking P.mark
