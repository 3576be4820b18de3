-- The headline: the history that `run` or `serve` hands back is one run of the whole graph, and the report that is written is its journal.
use Rattle.std.specs.Prelude.{◌≡◌, ◌⊎◌, ℕ, Bool, true, false, IsTrue, List, [], Option}
use Rattle.sha2.specs.Sha256.{sha256}
use Rattle.dcr_base.specs.Disk.{DiskView}
use Rattle.dcr_base.specs.Side.{Side}
use Rattle.dcr_base.specs.declared.status.Status.{Status}
use Rattle.dcr_base.specs.declared.status.Status.TheVariants.{Done}
use Rattle.dcr_graph.specs.Cause.{waits}
use Rattle.dcr_graph.specs.Rules.{Rules}
use Rattle.dcr_nest.specs.FlatRelation.{flat_relation}
use Rattle.dcr_journal.specs.Run.{after, marks_at, HasNoFault, IsLegal}
use Rattle.dcr_journal.specs.declared.call.Entry.{Entry}
use Rattle.dcr_journal.specs.declared.closed.Closed.{Closed}
use Rattle.dcr_tape.specs.Tape.{StandsFor}
use Rattle.dcr_tape.specs.declared.entry.TapeEntry.{TapeEntry}
use Rattle.dcr_tape.specs.declared.tape.Store.{Store}
use Rattle.dcr_cell.specs.ClusterId.{ClusterId, begun}
use Rattle.dcr_json.specs.Written.{Spelled}
use Rattle.dcr_policy.specs.Roles.{Roles}
use Rattle.dcr_roles.specs.Laws.{SpellsBoth}
use Rattle.dcr_report.specs.Report.{digested_text, report_text}
use Rattle.dcr_app.specs.Outside.{WereLeft, Wrote}
use Rattle.dcr_app.specs.Telling.{IsDueBy, Telling}

-- ---- the case

-- the rules of a case: the flat relation of its nested graph
abbrev pub rules_in : Spelled → Rules
rules_in case = flat_relation case.nested

-- the digest that names a case on its tape
abbrev pub digest_of : Spelled → List ℕ
digest_of case = sha256 (digested_text case.nested case.cover case.opening)

-- the cluster of a case that goes on from these executions
abbrev pub cluster_in : Spelled → List TapeEntry → ClusterId
cluster_in case old = record { rules = rules_in case; owned = case.cover.owned; opening = case.opening; old = old }

-- ---- the disk at entry

-- the disk stood for these executions of the case with this digest, where it tells its content; for none where it was empty
abbrev pub StoodFor : List ℕ → DiskView → List TapeEntry → Type 0
StoodFor digest disk old = IsTrue disk.told → ((disk.content ≡ []) × (old ≡ [])) ⊎ StandsFor digest old disk.content

-- the executions with which a run begins: those that the disk stood for, with a store, and none without one
abbrev pub BeginsWith : Bool → List ℕ → DiskView → List TapeEntry → Type 0
BeginsWith true digest disk old = StoodFor digest disk old
BeginsWith false digest disk old = old ≡ []

-- ---- the run

-- the status with which the report of a history is due
abbrev pub IsDueFor : {D : Type 0} → Telling D → List Entry → Status → Type 0
IsDueFor telling J due = IsDueBy (HasNoFault J) (telling.full J) telling.door_failed due

-- The journal of one run of the whole graph, of the case and the policy that were read, with a store or without one; with one it goes on
-- from the executions `old`. `telling` is what the command tells of its own: `by_workers` of `run`, `over_links` of `serve`.
-- `disk` is the disk at entry, and `first` the store that the run began with. `left` is what the input had left at entry,
-- where it tells that, and `has_ended` that it has come to its end; `had` is what the output had taken at entry, and `took`
-- what it has taken now, where it tells that, with its count of failed writes; `status` is how the program ended.
pub record Headline {D : Type 0} (telling : Telling D) (store : Bool) (disk : DiskView) (first : Store D) (case : Spelled) (policy : Roles) (old : List TapeEntry) (left : Option (List ℕ)) (has_ended : Type 0)
    (had took : Side) (status : Status) (closed : Closed) : Type 0 where
  -- 1. The bytes that the input had left at entry spell the case and its policy, which denies no call of its sessions, and
  -- none is left.
  pub input : (bytes : List ℕ) × WereLeft left bytes × SpellsBoth bytes (record { case = case; policy = policy }) × has_ended
  -- 2. The run begins with the opening marking of the case, stepped by the executions that the disk stood for, where it tells
  -- its content. Its history is a run of the whole graph, in which each call has the graph's answer at its place, but that the
  -- last may be a fault in the place of `done`; with `Done`, and also whenever there is no store, no execution failed.
  pub history : BeginsWith store (digest_of case) disk old
      × (closed.opening ≡ begun (cluster_in case old))
      × IsLegal (rules_in case) case.cover.owned closed.opening closed.history.entries
      × ((status ≡ Done) ⊎ (store ≡ false) → HasNoFault closed.history.entries)
  -- 3. It has the first calls of each session, in order and each once, all of them where nothing failed, and no entry of
  -- another session (`HasCalls`). Sessions over links have those that their links asked for, all of them where the link has
  -- ended, and each was answered by its entries (`ServedIn`).
  pub sessions : telling.sessions first case policy closed.history.entries
  -- 4. Of two sessions of one worker every entry of the earlier one stands before every entry of the later one. Of sessions
  -- over links no order is claimed.
  pub order : telling.order closed.history.entries
  -- 5. Every site's marks are the projection of the marking after the history, and the verdict is that marking's.
  pub sites : (closed.marks ≡ marks_at (rules_in case) case.cover.owned (after (rules_in case) closed.opening closed.history.entries))
      × (closed.waits ≡ waits (rules_in case).atoms (after (rules_in case) closed.opening closed.history.entries))
  -- 6. What the output took is the report of this history: all of it with the status that was due, or a front of it where the
  -- output failed or memory ran out.
  pub report : (due : Status) × IsDueFor telling closed.history.entries due
      × Wrote due (report_text case.nested case.cover closed.opening closed.history.entries) status had took
