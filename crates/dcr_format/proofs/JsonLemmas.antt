-- The JSON value that bytes are.
use Rattle.std.proofs.Common.{◌≡◌, ℕ, Bool, true, false, cond, List, Option, Some, None, IsUtf8, refl}
use Rattle.std.specs.Str.{is_utf8}
use Rattle.std.proofs.lemmas.Str.{IsUtf8-from_is_utf8, is_utf8-from_IsUtf8}
use Rattle.serde_json.specs.Data.{Data}
use Rattle.serde_json.specs.Read.{read}
use Rattle.dcr_format.specs.SizeLaws.{json_in}

pub json_read : (bytes : List ℕ) (d : Data) → IsUtf8 bytes → read bytes ≡ Some d → json_in bytes ≡ Some d
unfolding json_in
json_read bytes d text is = rw (is_utf8-from_IsUtf8 bytes text) is

either : (b : Bool) (o : Option Data) → (b ≡ true → o ≡ None) → cond b o None ≡ None
either true o h = h refl
either false o h = refl

pub json_none : (bytes : List ℕ) → (IsUtf8 bytes → read bytes ≡ None) → json_in bytes ≡ None
unfolding json_in
json_none bytes h = either (is_utf8 bytes) (read bytes) (λ e. h (IsUtf8-from_is_utf8 bytes e))
