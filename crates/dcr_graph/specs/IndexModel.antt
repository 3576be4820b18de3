-- What an index of texts stands for: each text's number stands in the map at the text's place.
use Rattle.std.specs.Prelude.{◌≡◌, ℕ, ◌<◌, ◌≤◌, ◌%◌, List, length, map, Option, Some, None, if◌then◌else◌, slice_index_or}
use Rattle.std.specs.Borrow.{Bor}
use Rattle.std.specs.Str.{bytes_eq}
use Rattle.std.specs.Ordering.{nat_cmp}
use Rattle.std.specs.Cmp.Lexicographic.{slice_cmp}
use Rattle.std.specs.BTreeMap.{BTreeMap, get_by}
use Rattle.std.specs.Hash.FoldHasher as hash
use Rattle.std.specs.declared.hash.FoldHasher.{FoldHasher}
use Rattle.dcr_graph.specs.Names.{number_of}
use Rattle.dcr_graph.specs.declared.index.NameIndex.TheInside.{Inside}

-- the texts in order
abbrev pub texts_of : Inside → List (List ℕ)
texts_of x = map (λ text. text.now) x.texts.items

-- the numbers of the texts of one place
abbrev pub Numbers : Type 0
Numbers = BTreeMap (Bor (List ℕ)) ℕ

-- the place of a text among so many, where its hash goes on from this start
unfoldable pub place_among : ℕ → FoldHasher → List ℕ → ℕ
place_among places start text = hash.finish (hash.write start text) % places

-- the number of a text in a map
abbrev pub number_at : Numbers → List ℕ → Option ℕ
number_at numbers text = get_by (λ key. slice_cmp nat_cmp text key.now) numbers

-- the number that a text has, or else the one that this text is given
abbrev pub with_number : Option ℕ → List ℕ → ℕ → List ℕ → Option ℕ
with_number (Some old) text number other = Some old
with_number None text number other = if bytes_eq text other then Some number else None

-- the map at a text's place has its number
abbrev pub HasNumbers : FoldHasher → List Numbers → List (List ℕ) → Type 0
HasNumbers start places texts = (text : List ℕ) (d : Numbers) → number_at (slice_index_or places (place_among (length places) start text) d) text ≡ number_of texts text

-- there is a place, and each text's number stands at its own
pub record HasPlaces (start : FoldHasher) (places : List Numbers) (texts : List (List ℕ)) : Type 0 where
  pub some : 0 < length places
  pub numbers : HasNumbers start places texts

pub record IsIndex (x : Inside) : Type 0 where
  pub most : length x.texts.items ≤ 2048
  pub places : HasPlaces x.start x.places.items (texts_of x)
