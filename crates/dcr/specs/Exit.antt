-- What the process ends with.
use Rattle.std.specs.Prelude.{◌≡◌, ℕ, List, [], ◌∷◌, codes, drop, String, string_bytes, Option}
use Rattle.std.specs.Option.{option_map}
use Rattle.std.specs.declared.alloc.Global.{Global}
use Rattle.dcr_apart.specs.SiteAnswer.{AnswersSite, limit_of}
use Rattle.dcr_apart.specs.declared.site_end.SiteEnd.{SiteEnd}
use Rattle.dcr_base.specs.Count.{Rose}
use Rattle.dcr_base.specs.Disk.{DiskView}
use Rattle.dcr_base.specs.Door.{Doors}
use Rattle.dcr_base.specs.Side.{Adds, Side}
use Rattle.dcr_base.specs.Status.{code_of}
use Rattle.dcr_base.specs.declared.status.Status.TheVariants.{ReadFault, WriteFault, NoMemory, DoorFault}
use Rattle.dcr_app.specs.Answers.{Answers, EndsAs, IsConverse, IsHeadline, Says, is_stored}
use Rattle.dcr_app.specs.Command.{command_in}
use Rattle.dcr_app.specs.Outside.{CountsWhere, LeavesInput, limit_in}
use Rattle.dcr_app.specs.Stored.{LeavesDisk}
use Rattle.dcr_app.specs.Telling.{LeavesDoor}
use Rattle.dcr_app.specs.declared.app.End.{End}
use Rattle.dcr_app.specs.declared.command.Command.{Command}
use Rattle.dcr_porter.specs.Porter.{Porters}
use Rattle.dcr.specs.declared.key_file.KeyFile.{KeyFile}
use Rattle.dcr.specs.declared.key_file.KeyFile.TheVariants.{Text, Unread}
use Rattle.dcr.specs.declared.Left.{Left}
use Rattle.dcr.specs.declared.Left.TheVariants.{Answered, Served, Unbegun}
use Rattle.dcr.specs.declared.Unused.{Unused}

-- what the input and the output tell at one moment
pub record Outside : Type 1 where
  pub input : Side
  pub has_ended : Type 0
  pub output : Side

abbrev pub outside : Side → Type 0 → Side → Outside
outside input has_ended output = record { input = input; has_ended = has_ended; output = output }

-- The end is that of one call for this command, with this door and this disk, that began where the input and the output told
-- `was`, and after which they tell `now`: each clause of the call holds of it.
pub record IsEndOf {D B L R : Type 0} (view : D → DiskView) (faults : D → ℕ) (doors : Doors B L R) (command : Option Command) (first_door : B) (first_disk : D) (was now : Outside) (end : End B D L R) : Type 0 where
  pub headline : IsHeadline view faults doors command first_door first_disk was.input.bytes now.has_ended was.output now.output end
  pub answers : Answers view faults doors command first_door first_disk was.input.bytes now.has_ended was.output now.output end
  pub says : Says command (view first_disk) (view end.disk) was.input.bytes was.output now.output end.closed end.status
  pub converse : IsConverse command was.input.bytes end.closed
  pub ends : EndsAs command (view first_disk) was.input.bytes (Rose was.input.faults now.input.faults) (Rose was.output.faults now.output.faults) (Rose (faults first_disk) (faults end.disk))
      (Rose (doors.faults first_door) (doors.faults end.door)) end.status
  pub input : LeavesInput (limit_in command) was.input now.input now.has_ended end.status
  pub output : CountsWhere (end.status ≡ WriteFault) was.output.faults now.output.faults
  pub disk : LeavesDisk (is_stored command) view faults was.input.bytes first_disk end.disk end.status end.closed
  pub door : LeavesDoor doors command end.closed first_door end.door end.ends.items end.status

-- The same of a call of `site` with these words behind its own, with this key and this porter.
pub record IsSiteEndOf {P L R : Type 0} (porters : Porters P L R) (words : List (String Global)) (key : Option (List ℕ)) (first : P) (was now : Outside) (end : SiteEnd P L R) : Type 0 where
  pub answers : AnswersSite porters words key was.input.bytes now.has_ended was.output now.output first end.porter end.status
  pub input : LeavesInput (limit_of words) was.input now.input now.has_ended end.status
  pub output : CountsWhere (end.status ≡ WriteFault) was.output.faults now.output.faults
  pub porter : CountsWhere (end.status ≡ DoorFault) (porters.faults first) (porters.faults end.porter)

-- nothing was read and nothing was written, and the door, the disk and the porter are those that were handed in
pub record IsUntouched {D B P : Type 0} (door : B) (disk : D) (porter : P) (was now : Outside) (unused : Unused B D P) : Type 0 where
  pub read : now.input ≡ was.input
  pub wrote : Adds [] was.output now.output
  pub same_door : unused.door ≡ door
  pub same_disk : unused.disk ≡ disk
  pub same_porter : unused.porter ≡ porter

abbrev pub LeavesUnused : {D B P L R K S : Type 0} → B → D → P → Outside → Outside → Left B D P L R K S → Type 0
LeavesUnused door disk porter was now (Answered end last_porter) = ⊥
LeavesUnused door disk porter was now (Served end last_door last_disk) = ⊥
LeavesUnused door disk porter was now (Unbegun unused) = IsUntouched door disk porter was now unused

-- the first word is that of a site
abbrev pub IsSite : List (String Global) → Type 0
IsSite [] = ⊥
IsSite (word ∷ words) = string_bytes word ≡ codes "site"

-- Of a site with these words behind its own: the code is that of the status of one call of `site`, and the door and the disk are
-- as they were; or there is a key that couldn't be read, and nothing was touched.
abbrev pub Serves : {D B P L R K S : Type 0} → Porters P K S → List (String Global) → KeyFile → B → D → P → Outside → Outside → ℕ → Left B D P L R K S → Type 0
Serves porters words (Text key) door disk porter was now exit (Served end last_door last_disk) =
    (exit ≡ code_of end.status) × IsSiteEndOf porters words (option_map (λ text. text.items) key) porter was now end × (last_door ≡ door) × (last_disk ≡ disk)
Serves porters words Unread door disk porter was now exit (Unbegun unused) = (exit ≡ code_of ReadFault) × IsUntouched door disk porter was now unused
Serves porters words key door disk porter was now exit left = ⊥

-- What the process ends with for these words: that of the one call of `dcr`, with the porter as it was, or of a site; or memory ran
-- out while the words were gathered, before anything was touched.
pub data Exits {D B P L R K S : Type 0} (view : D → DiskView) (faults : D → ℕ) (doors : Doors B L R) (porters : Porters P K S) (words : List (String Global)) (key : KeyFile)
    (door : B) (disk : D) (porter : P) (was now : Outside) (exit : ℕ) (left : Left B D P L R K S) : Type 0 where
  answered : (IsSite words → ⊥) → (end : End B D L R) → left ≡ Answered end porter → exit ≡ code_of end.status → IsEndOf view faults doors (command_in words) door disk was now end
      → Exits view faults doors porters words key door disk porter was now exit left
  served : IsSite words → Serves porters (drop 1 words) key door disk porter was now exit left → Exits view faults doors porters words key door disk porter was now exit left
  starved : exit ≡ code_of NoMemory → LeavesUnused door disk porter was now left → Exits view faults doors porters words key door disk porter was now exit left
