-- The case that bytes spell, or which refusal comes first.
use Rattle.std.specs.Prelude.{ℕ, List, [], ◌∷◌, ◌++◌, length, is_some, nat_le, unwrap_or, Result}
use Rattle.serde_json.specs.Data.{Data, null}
use Rattle.dcr_format.specs.SizeLaws.{json_in}
use Rattle.dcr_format.specs.Facts.{Fact, unless}
use Rattle.dcr_format.specs.declared.stop.CaseStop.{CaseStop}
use Rattle.dcr_format.specs.declared.stop.CaseStop.TheVariants.{TooLong, NotJson}
use Rattle.dcr_json.specs.Facts.{case_facts}
use Rattle.dcr_json.specs.Refusing.{given}
use Rattle.dcr_json.specs.Written.{Spelled, spelled_in, written_in}

-- the JSON value that the bytes are
abbrev pub data_in : List ℕ → Data
data_in bytes = unwrap_or (json_in bytes) null

-- no more than 16,777,216 bytes, which are a JSON text
abbrev pub file_facts : List ℕ → List Fact
file_facts bytes = unless (nat_le (length bytes) 16777216) TooLong ∷ unless (is_some (json_in bytes)) NotJson ∷ []

-- all that is tried of bytes
abbrev pub bytes_facts : List ℕ → List Fact
bytes_facts bytes = file_facts bytes ++ case_facts (data_in bytes)

-- the case that a JSON value spells
abbrev pub case_of_value : Data → Spelled
case_of_value d = spelled_in (written_in d)

-- the JSON value of a file, or the refusal of its bytes
unfoldable pub file_in : List ℕ → Result Data CaseStop
file_in bytes = given (file_facts bytes) (data_in bytes)

-- the case of a JSON value, or the first refusal
unfoldable pub value_in : Data → Result Spelled CaseStop
value_in d = given (case_facts d) (case_of_value d)

-- the case of bytes, or the first refusal
unfoldable pub case_in : List ℕ → Result Spelled CaseStop
case_in bytes = given (bytes_facts bytes) (case_of_value (data_in bytes))
