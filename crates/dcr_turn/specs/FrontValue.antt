-- What a site has seen, as contracts see it.
use Rattle.std.specs.Prelude.{ℕ, List, [], map, slice_index_or}
use Rattle.std.specs.List.{range_with_len}
use Rattle.dcr_journal.specs.declared.call.Entry.{Entry}
use Rattle.dcr_turn.specs.Covers.{Covers, is_heard}
use Rattle.dcr_turn.specs.TurnId.{TurnId}

pub record FrontValue : Type 0 where
  -- the number of the site
  pub site : ℕ
  -- the entries that it has seen
  pub front : List Entry

-- the front begins the list, and no later execution that was done is of the site's alphabet
abbrev pub HasMissedNone : TurnId → FrontValue → List Entry → Type 0
HasMissedNone turn site J = Covers (is_heard (slice_index_or turn.alphabets site.site [])) site.front J

-- the fronts of these sites, which have seen these entries
abbrev pub fronts_at : List Entry → List ℕ → List FrontValue
fronts_at J sites = map (λ (i : ℕ). record { site = i; front = J }) sites

-- the fronts of so many sites, in order, which have seen nothing
abbrev pub new_fronts : ℕ → List FrontValue
new_fronts sites = map (λ (i : ℕ). record { site = i; front = [] }) (range_with_len 0 sites)
