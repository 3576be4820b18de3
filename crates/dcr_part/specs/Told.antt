-- What a part tells: the site and the digest of the case, the names of the events of the alphabet, which of them the site
-- owns, the local relations, and the opening marks that it tracks.
use Rattle.std.specs.Prelude.{◌≡◌, ℕ, ◌<◌, Bool, false, List, [], Option, Some, None, length, map, slice_index_or, unwrap_or, if◌then◌else◌}
use Rattle.std.specs.List.{range_with_len}
use Rattle.std.specs.Str.{bytes_eq}
use Rattle.dcr_set.specs.EventSet.{Set, has}
use Rattle.dcr_graph.specs.Rules.{Rules}
use Rattle.dcr_graph.specs.declared.marking.SiteMark.{SiteMark}
use Rattle.dcr_part.specs.declared.head.PartHead.{PartHead}

pub record Told : Type 0 where
  pub head : PartHead
  -- how many atoms the case has, and the local relations
  pub rules : Rules
  pub own : Set
  pub alphabet : Set
  -- at the number of each atom its name, where it is told
  pub names : List (Option (List ℕ))
  pub mark : SiteMark

abbrev pub told : PartHead → Rules → Set → Set → List (Option (List ℕ)) → SiteMark → Told
told head rules own alphabet names mark = record { head = head; rules = rules; own = own; alphabet = alphabet; names = names; mark = mark }

-- the names of the events in a set, each at its number
abbrev pub told_names : Set → List (List ℕ) → List (Option (List ℕ))
told_names set names = map (λ e. if has set e then Some (slice_index_or names e []) else None) (range_with_len 0 (length set))

-- the name that is told of an event
abbrev pub name_told : List (Option (List ℕ)) → ℕ → List ℕ
name_told names e = unwrap_or (slice_index_or names e None) []

-- whether a name that may be told is this text
abbrev pub is_text : Option (List ℕ) → List ℕ → Bool
is_text (Some name) text = bytes_eq name text
is_text None text = false

-- whether two names are told, and are one
abbrev pub are_one : Option (List ℕ) → Option (List ℕ) → Bool
are_one name (Some text) = is_text name text
are_one name None = false

-- no two names that are told are one
abbrev pub AreDistinct : List (Option (List ℕ)) → Type 0
AreDistinct names = (d e : ℕ) → d < e → e < length names → are_one (slice_index_or names d None) (slice_index_or names e None) ≡ false
