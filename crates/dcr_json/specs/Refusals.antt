-- When each refusal of a case file comes.
use Rattle.std.specs.Prelude.{◌≡◌, ◌↔◌, ℕ, ◌<◌, ◌≤◌, true, false, List, length, None, Some, Ok, Err}
use Rattle.std.specs.List.{All}
use Rattle.serde_json.specs.Data.{Data}
use Rattle.dcr_format.specs.SizeLaws.{json_in}
use Rattle.dcr_graph.specs.Rules.{Rules}
use Rattle.dcr_graph.specs.Pairs.{clashes, first_clash}
use Rattle.dcr_format.specs.Order.{IsFirst}
use Rattle.dcr_format.specs.declared.stop.CaseStop.{CaseStop}
use Rattle.dcr_json.specs.Case.{bytes_facts, case_in, case_of_value}
use Rattle.dcr_json.specs.Facts.{case_facts}
use Rattle.dcr_json.specs.Written.{Spelled}

-- the bytes are few enough, and are this JSON value
pub record SpellsJson (bytes : List ℕ) (d : Data) : Type 0 where
  pub short : length bytes ≤ 16777216
  pub json : json_in bytes ≡ Some d

-- one of the facts of a case file fails so, and all that are tried before it hold
abbrev pub Comes : List ℕ → CaseStop → Type 0
Comes bytes stop = IsFirst (bytes_facts bytes) stop

-- nothing is wrong, and this is the case that is written
pub record SpellsCase (bytes : List ℕ) (spelled : Spelled) : Type 0 where
  pub value : Data
  pub json : SpellsJson bytes value
  pub facts : All (λ fact. fact ≡ None) (case_facts value)
  pub is : spelled ≡ case_of_value value

-- ---- a clash

-- no pair of atoms is both included and excluded
abbrev pub HasNoClash : Rules → Type 0
HasNoClash G = (a b : ℕ) → a < G.atoms → b < G.atoms → clashes G a b ≡ false

-- the pair of the atoms a and b is both included and excluded, and no pair before it is, by a and then by b
pub record IsLeastClash (G : Rules) (a b : ℕ) : Type 0 where
  pub source : a < G.atoms
  pub target : b < G.atoms
  pub clash : clashes G a b ≡ true
  pub earlier_source : (x y : ℕ) → x < a → y < G.atoms → clashes G x y ≡ false
  pub earlier_target : (y : ℕ) → y < b → clashes G a y ≡ false

-- ---- the laws

-- a refusal comes exactly where nothing that is tried before it is wrong, and this is
abbrev pub RefusalsAreTheFormats : Type 0
RefusalsAreTheFormats = (bytes : List ℕ) (stop : CaseStop) → (case_in bytes ≡ Err stop) ↔ Comes bytes stop

-- a case is given exactly where it is spelled
abbrev pub CasesAreTheFormats : Type 0
CasesAreTheFormats = (bytes : List ℕ) (spelled : Spelled) → (case_in bytes ≡ Ok spelled) ↔ SpellsCase bytes spelled

-- one is given exactly where no refusal comes
abbrev pub OneOfTheTwo : Type 0
OneOfTheTwo = (bytes : List ℕ) → ((spelled : Spelled) × (case_in bytes ≡ Ok spelled)) ↔ ((stop : CaseStop) → ¬ Comes bytes stop)

-- the pair that is told of a clash is the least, and none is told exactly where there is none
pub record ClashesAreTheLeast (G : Rules) : Type 0 where
  pub none : (first_clash G ≡ None) ↔ HasNoClash G
  pub least : (a b : ℕ) → (first_clash G ≡ Some (a, b)) ↔ IsLeastClash G a b

-- no bytes are refused so
abbrev pub NeverRefuses : CaseStop → Type 0
NeverRefuses stop = (bytes : List ℕ) → case_in bytes ≡ Err stop → ⊥
