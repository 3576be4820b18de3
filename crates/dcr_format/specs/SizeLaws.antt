-- What bounds the size of a JSON value, and what it bounds.
use Rattle.std.specs.Prelude.{◌≡◌, ℕ, ◌<◌, ◌≤◌, List, length, Option, Some, None, if◌then◌else◌}
use Rattle.std.specs.List.{All}
use Rattle.std.specs.Str.{is_utf8}
use Rattle.serde_json.specs.Data.{Data}
use Rattle.serde_json.specs.Find.{get, as_str, as_array}
use Rattle.serde_json.specs.Read.{read}
use Rattle.serde_json.specs.View.{view, items_view}
use Rattle.serde_json.specs.declared.value.Value.{Value}
use Rattle.dcr_format.specs.Size.{size, items_size}

-- the JSON value that the bytes are: UTF-8 text that the reader of JSON takes
unfoldable pub json_in : List ℕ → Option Data
json_in bytes = if is_utf8 bytes then read bytes else None

-- no value is larger than the text that it was read from
pub record NoValueIsLarger : Type 0 where
  pub of_text : (text : List ℕ) (d : Data) → read text ≡ Some d → size d ≤ length text
  pub of_bytes : (bytes : List ℕ) (d : Data) → json_in bytes ≡ Some d → size d ≤ length bytes

-- the elements of an array of this size: smaller in all, so fewer, and each smaller
pub record AreSmaller (vs : List Value) (n : ℕ) : Type 0 where
  pub total : items_size (items_view vs) < n
  pub fewer : length vs < n
  pub smaller : All (λ v. size (view v) < n) vs

-- what is in a value is smaller than the value
pub record PartsAreSmaller : Type 0 where
  pub some : (d : Data) → 0 < size d
  pub members : (name : List ℕ) (d part : Data) → get name d ≡ Some part → size part < size d
  pub elements : (d : Data) (vs : List Value) → as_array d ≡ Some (items_view vs) → AreSmaller vs (size d)
  pub strings : (d : Data) (text : List ℕ) → as_str d ≡ Some text → length text < size d
