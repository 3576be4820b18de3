-- What lies under the journal's lock, as contracts see it.
use Rattle.std.specs.Prelude.{ℕ, List}
use Rattle.dcr_journal.specs.declared.call.Entry.{Entry}

pub record GuardValue (K : Type 0) : Type 0 where
  -- the journal's list
  pub entries : List Entry
  -- the numbers of the sites whose fronts lie there, the last one that came first
  pub enlisted : List ℕ
  -- what is kept beside the journal
  pub kept : K

-- the same with another kept value
abbrev pub with_kept : {K : Type 0} → GuardValue K → K → GuardValue K
with_kept guard kept = record guard { kept = kept }

-- the same with other sites' fronts
abbrev pub with_enlisted : {K : Type 0} → GuardValue K → List ℕ → GuardValue K
with_enlisted guard enlisted = record guard { enlisted = enlisted }

-- the same with another list
abbrev pub with_entries : {K : Type 0} → GuardValue K → List Entry → GuardValue K
with_entries guard entries = record guard { entries = entries }
