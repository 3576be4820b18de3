-- What each status says, by the status.
use Rattle.std.proofs.Common.{◌≡◌, ◌≢◌, List, ℕ, Option, Some, None, IfSome, length, true, subst}
use Rattle.std.specs.Prelude.{⊤}
use Rattle.dcr_base.specs.Disk.{DiskView}
use Rattle.dcr_base.specs.Side.{Side}
use Rattle.dcr_base.specs.declared.status.Status.{Status}
use Rattle.dcr_base.specs.declared.status.Status.TheVariants.{Done, Usage, Refused, DiskFault, Invalid, Full, TapeRefused, DoorFault}
use Rattle.dcr_journal.specs.declared.closed.Closed.{Closed}
use Rattle.dcr_engine.specs.Served.{most_served}
use Rattle.dcr_app.specs.Adapted.{WroteReports}
use Rattle.dcr_app.specs.Answers.{IsReporting, IsTapeRefused, Refuses, Says, SaysInvalid, SaysValid, WroteReport, is_stored}
use Rattle.dcr_app.specs.Outside.{WereLeft}
use Rattle.dcr_app.specs.Telling.{IsServing}
use Rattle.dcr_app.specs.declared.command.Command.{Command}
use Rattle.dcr_app.specs.declared.command.Command.TheVariants.{Load, Read}
use Rattle.dcr_app.specs.declared.command.Reading.{Reading}
use Rattle.dcr_app.specs.declared.command.Reading.TheVariants.{Execute, Replay, Nodes, Conform, Adapt, Part}

module _ (command : Option Command) (before after : DiskView) (left : Option (List ℕ)) (had took : Side) (closed_run : Option Closed) where
  -- what is said with `Done` of a report, of a verdict and of several reports
  abbrev pub DoneSays : Option Command → Type 0
  DoneSays (Some (Read (Execute way store))) = WroteReport had.bytes took.bytes closed_run
  DoneSays (Some (Read (Nodes number))) = WroteReport had.bytes took.bytes closed_run
  DoneSays (Some (Read Replay)) = SaysValid left had.bytes took.bytes
  DoneSays (Some (Read Adapt)) = WroteReports had.bytes took.bytes
  DoneSays command = ⊤

  abbrev pub SaysAt : Status → Type 0
  SaysAt Done = DoneSays command
  SaysAt Usage = command ≡ None
  SaysAt Refused = (reading : Reading) × (command ≡ Some (Read reading)) × Refuses reading left had.bytes took.bytes
  SaysAt TapeRefused = (is_stored command ≡ true) × ((bytes : List ℕ) × WereLeft left bytes × IsTapeRefused bytes before after had took TapeRefused)
  SaysAt Invalid = (command ≡ Some (Read Replay)) × SaysInvalid left had.bytes took.bytes
  SaysAt Full = IsServing command × IfSome closed_run (λ closed. length closed.history.entries ≡ most_served)
  SaysAt DoorFault = IsServing command × (closed_run ≢ None)
  SaysAt DiskFault = is_stored command ≡ true
  SaysAt status = ⊤

  reports_by : (asked : Option Command) → DoneSays asked → IsReporting asked → WroteReport had.bytes took.bytes closed_run
  reports_by (Some (Read (Execute way store))) it reports = it
  reports_by (Some (Read (Nodes number))) it reports = it
  reports_by None it reports = elim reports [ ]
  reports_by (Some (Load number)) it reports = elim reports [ ]
  reports_by (Some (Read Replay)) it reports = elim reports [ ]
  reports_by (Some (Read Conform)) it reports = elim reports [ ]
  reports_by (Some (Read Adapt)) it reports = elim reports [ ]
  reports_by (Some (Read (Part site))) it reports = elim reports [ ]

  pub says_all : (status : Status) → SaysAt status → Says command before after left had took closed_run status
  says_all status it = (
    λ is. reports_by command (subst SaysAt is it),
    λ is replay. subst DoneSays replay (subst SaysAt is it),
    λ is adapt. subst DoneSays adapt (subst SaysAt is it),
    λ is. subst SaysAt is it,
    λ is. subst SaysAt is it,
    λ is. subst SaysAt is it,
    λ is. subst SaysAt is it,
    λ is. subst SaysAt is it,
    λ is. subst SaysAt is it,
    λ is. subst SaysAt is it,
  )
