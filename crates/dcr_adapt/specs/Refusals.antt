-- When each refusal of stages comes, and when a text is stages, in words.
use Rattle.std.specs.Prelude.{◌≡◌, ◌≢◌, ◌↔◌, ℕ, ◌+◌, ◌<◌, ◌≤◌, List, length, Some, Ok, Err}
use Rattle.std.specs.List.{slice_get}
use Rattle.dcr_graph_json.specs.Build.{atom_names}
use Rattle.dcr_json.specs.Written.{Spelled}
use Rattle.dcr_line.specs.Line.{name_of as name_at}
use Rattle.dcr_roles.specs.Accepted.{accepted_in}
use Rattle.dcr_roles.specs.Laws.{AcceptsCase}
use Rattle.dcr_roles.specs.declared.accepted.AcceptStop.{AcceptStop}
use Rattle.dcr_roles.specs.declared.accepted.AcceptStop.TheVariants as cause
use Rattle.dcr_adapt.specs.Stages.{line_texts, stages_in}
use Rattle.dcr_adapt.specs.declared.stop.StageStop.{StageStop}
use Rattle.dcr_adapt.specs.declared.stop.StageStop.TheVariants.{Cases, Stage, Policy, Dropped, NoMemory}

-- ---- atoms that are dropped

-- a name of these that is none of the next ones
pub record IsDropped (names next : List (List ℕ)) (a : ℕ) : Type 0 where
  pub atom : a < length names
  pub missing : (b : ℕ) → b < length next → name_at next b ≢ name_at names a

-- the least of them
pub record IsLeastDropped (names next : List (List ℕ)) (a : ℕ) : Type 0 where
  pub dropped : IsDropped names next a
  pub earlier : (b : ℕ) → b < a → ¬ IsDropped names next b

-- ---- one stage

-- line i spells this case, and writes a policy that allows each call of its sessions
pub record SpellsLine (texts : List (List ℕ)) (i : ℕ) (case : Spelled) : Type 0 where
  pub text : List ℕ
  pub line : slice_get texts i ≡ Some text
  pub accepted : AcceptsCase text case

-- line i is no case, or a case whose policy is refused, for this cause
pub record RefusesLine (texts : List (List ℕ)) (i : ℕ) (stop : AcceptStop) : Type 0 where
  pub text : List ℕ
  pub line : slice_get texts i ≡ Some text
  pub refused : accepted_in text ≡ Err stop

-- line i is this case, and no atom of the case before it is dropped
pub record IsAccepted (texts : List (List ℕ)) (i : ℕ) (case : Spelled) : Type 0 where
  pub spells : SpellsLine texts i case
  pub keeps : (h : ℕ) (before : Spelled) → h + 1 ≡ i → SpellsLine texts h before
      → (a : ℕ) → ¬ IsDropped (atom_names before.nested) (atom_names case.nested) a

-- line i is a case, and so is the one before it, whose least atom that is dropped has this name
pub record DropsName (texts : List (List ℕ)) (i : ℕ) (name : List ℕ) : Type 0 where
  pub h : ℕ
  pub next : h + 1 ≡ i
  pub before : Spelled
  pub case : Spelled
  pub was : SpellsLine texts h before
  pub is : SpellsLine texts i case
  pub atom : ℕ
  pub least : IsLeastDropped (atom_names before.nested) (atom_names case.nested) atom
  pub named : name ≡ name_at (atom_names before.nested) atom

-- ---- the refusals

-- 1 to 16
pub record AreSoMany (count : ℕ) : Type 0 where
  pub some : 1 ≤ count
  pub most : count ≤ 16

-- there are 1 to 16 lines, and each stage before stage i is accepted
pub record IsReached (texts : List (List ℕ)) (i : ℕ) : Type 0 where
  pub many : AreSoMany (length texts)
  pub earlier : (h : ℕ) → h < i → (case : Spelled) × IsAccepted texts h case

-- nothing that is tried before is wrong, and this is
abbrev pub ComesOf : List (List ℕ) → StageStop → Type 0
ComesOf texts (Cases count) = (count ≡ length texts) × ¬ AreSoMany count
ComesOf texts (Stage i stop) = IsReached texts i × RefusesLine texts i (cause.Case stop)
ComesOf texts (Policy i stop) = IsReached texts i × RefusesLine texts i (cause.Policy stop)
ComesOf texts (Dropped i name) = IsReached texts i × DropsName texts i name
ComesOf texts NoMemory = ⊥

abbrev pub Comes : List ℕ → StageStop → Type 0
Comes bytes stop = ComesOf (line_texts bytes) stop

-- ---- the stages

-- there are 1 to 16 lines, as many as cases, and each stage is accepted with its case
pub record AreStages (texts : List (List ℕ)) (cases : List Spelled) : Type 0 where
  pub many : AreSoMany (length texts)
  pub as_many : length cases ≡ length texts
  pub accepted : (i : ℕ) (case : Spelled) → slice_get cases i ≡ Some case → IsAccepted texts i case

-- ---- the laws

-- a refusal comes exactly where nothing that is tried before it is wrong, and this is
abbrev pub RefusalsAreTheStages : Type 0
RefusalsAreTheStages = (bytes : List ℕ) (stop : StageStop) → (stages_in bytes ≡ Err stop) ↔ Comes bytes stop

-- the stages are given exactly where each is accepted
abbrev pub StagesAreTheLines : Type 0
StagesAreTheLines = (bytes : List ℕ) (cases : List Spelled) → (stages_in bytes ≡ Ok cases) ↔ AreStages (line_texts bytes) cases

-- they are given exactly where no refusal comes
abbrev pub OneOfTheTwo : Type 0
OneOfTheTwo = (bytes : List ℕ) → ((cases : List Spelled) × (stages_in bytes ≡ Ok cases)) ↔ ((stop : StageStop) → ¬ Comes bytes stop)
