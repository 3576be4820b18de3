-- What is told of sessions that were served over the links of a door.
use Rattle.std.proofs.Common.{◌≡◌, ◌≢◌, ◌⊎◌, ℕ, ◌<◌, ◌≤◌, arith, Bool, true, false, IsTrue, List, [], ◌∷◌, ◌++◌, length, get_or, Option, Some, inl, inr, refl, sym, ◌∙◌}
use Rattle.std.specs.Prelude.{slice_get}
use Rattle.std.specs.List.{All}
use Rattle.std.proofs.lemmas.Bool.{false≢true}
use Rattle.std.proofs.lemmas.List.{length-append}
use Rattle.std.proofs.lemmas.Option.{slice_get-get_or}
use Rattle.dcr_base.specs.Count.{Rose}
use Rattle.dcr_base.specs.declared.status.Status.{Status}
use Rattle.dcr_base.specs.declared.status.Status.TheVariants.{Done, NoMemory, DiskFault, DoorFault}
use Rattle.dcr_base.specs.declared.status.Status.TheVariants as status
use Rattle.dcr_base.specs.Side.{Side, Stopped as StoppedText}
use Rattle.dcr_graph.specs.declared.marking.Marking.{Marking}
use Rattle.dcr_nest.specs.Nest.{Nest}
use Rattle.dcr_proj.specs.CoverValue.{Owners}
use Rattle.dcr_journal.specs.Run.{HasNoFault}
use Rattle.dcr_journal.specs.declared.call.Entry.{Entry}
use Rattle.dcr_journal.specs.declared.call.Outcome.TheVariants.{Faulted}
use Rattle.dcr_tape.specs.declared.tape.Store.{Store}
use Rattle.dcr_cluster.specs.Calls.{Shows}
use Rattle.dcr_cluster.specs.declared.halt.Halt.{Halt}
use Rattle.dcr_cluster.specs.declared.halt.Halt.TheVariants.{Full, Stopped}
use Rattle.dcr_link.specs.Replies.{Terms}
use Rattle.dcr_link.specs.declared.end.WorkCause.{WorkCause}
use Rattle.dcr_link.specs.declared.end.WorkCause.TheVariants as cause
use Rattle.dcr_serving.specs.Serving.{CountsDoor, DoorEnds}
use Rattle.dcr_serving.specs.declared.end.LinkEnd.{LinkEnd}
use Rattle.dcr_engine.specs.Served.{ServedIn, most_served}
use Rattle.dcr_report.specs.Report.{report_text, version_text}
use Rattle.dcr_app.specs.Outside.{Wrote}
use Rattle.dcr_app.specs.Telling.{IsDueBy, IsOfLink, LeavesServed}
use Rattle.dcr_base.specs.Door.{Doors}
use Rattle.dcr_app.proofs.DueLemmas.{by_due}
use Rattle.dcr_app.proofs.OutsideLemmas.{appends_nothing, wrote_at}
use Rattle.dcr_app.proofs.RunLemmas.{entry_at, no_fault_done}

-- ---- where nothing is written

one_byte : (text rest : List ℕ) → 0 < length ((text ++ 10 ∷ []) ++ rest)
one_byte text rest =
    let all = length-append (text ++ 10 ∷ []) rest in let here = length-append text (10 ∷ []) in omega (arith, all, here)

-- a report has some bytes
pub some_bytes : (N : Nest) (C : Owners) (M : Marking) (J : List Entry) → 0 < length (report_text N C M J)
unfolding report_text
some_bytes N C M J = one_byte (version_text N.version) _

-- so nothing is a front of it
pub nothing_of : (N : Nest) (C : Owners) (M : Marking) (J : List Entry) (had : Side) → StoppedText (report_text N C M J) had had
nothing_of N C M J had = record { count = 0; fewer = some_bytes N C M J; wrote = appends_nothing had.bytes }

-- ---- the door

-- a report that is due with the status of a failed door tells that it failed
failed_due : {fine full failed : Type 0} {due : Status} → IsDueBy fine full failed due → DoorFault ≡ due → failed
failed_due {fine} {full} {failed} due_is same =
    by_due (λ s. DoorFault ≡ s → failed) (λ _ e. absurd (let wrong : DoorFault ≡ DiskFault = e in cc)) (λ _ _ e. absurd (let wrong : DoorFault ≡ status.Full = e in cc)) (λ _ fell _. fell)
    (λ _ _ e. absurd (let wrong : DoorFault ≡ Done = e in cc)) due_is same

no_halt : {D : Type 0} (first : Option (Store D)) (J : List Entry) (halt : Halt) → HasNoFault J → (length J ≡ most_served → ⊥) → Shows first most_served J halt → ⊥
no_halt first J (Full most) none room shows = room shows.1
no_halt first J (Stopped at) none room shows = let fault = shows.2 in entry_at (λ (entry : Entry). entry.outcome ≡ Faulted → ⊥) J at fault.0 none fault.1 fault.2

pub is_false : (b : Bool) → (IsTrue b → ⊥) → b ≡ false
is_false true never = absurd (never refl)
is_false false never = refl

-- what is told of a door
door_fine : (told : Bool) (old new : ℕ) → CountsDoor told old new → told ≡ false → new ≡ old
door_fine true old new fails fine = absurd (false≢true (sym fine))
door_fine false old new same fine = same

pub door_rose : (told : Bool) (old new : ℕ) → CountsDoor told old new → IsTrue told → Rose old new
door_rose true old new fails is = fails.1
door_rose false old new same is = absurd (false≢true is)

door_counts : (told : Bool) (old new : ℕ) → CountsDoor told old new → old ≤ new
door_counts true old new fails = fails.0
door_counts false old new same = omega (arith, same)

module _ {D B L R : Type 0} (doors : Doors B L R) (first : Store D) (terms : Terms) (before after : B) (sessions : ℕ) (ends : List (LinkEnd L R)) (J : List Entry)
    (served : ServedIn doors.each first terms (doors.links before) sessions ends J) where
  of_link : (k : ℕ) (end : LinkEnd L R) → slice_get ends k ≡ Some end → HasNoFault J → (length J ≡ most_served → ⊥) → end.end.cause ≢ cause.NoMemory → (why : WorkCause) → end.end.cause ≡ why
      → IsOfLink why
  of_link k end there none room had cause.Ended is = tt
  of_link k end there none room had cause.LinkFault is = tt
  of_link k end there none room had cause.LongLine is = tt
  of_link k end there none room had cause.ManyLines is = tt
  of_link k end there none room had (cause.Halted halt) is = no_halt (Some first) J halt none room ((served.each k end there).served.halted halt is)
  of_link k end there none room had cause.NoMemory is = had is

  pub leaves_door : (door_fell no_memory : Bool) (due : Status) (text : List ℕ) (status : Status) (had took : Side)
      → DoorEnds doors before after sessions ends door_fell no_memory → (IsTrue no_memory → status ≡ NoMemory) → (due ≡ Done → door_fell ≡ false)
      → IsDueBy (HasNoFault J) (length J ≡ most_served) (Rose (doors.faults before) (doors.faults after)) due → Wrote due text status had took
      → LeavesServed doors before after sessions ends status
  leaves_door door_fell no_memory due text status had took door wanted unfailed_due due_is wrote = record {
    left = door.left;
    all = all;
    by_links = λ done. by_each done;
    unfailed = λ done. door_fine door_fell (doors.faults before) (doors.faults after) door.counts (unfailed done);
    failed = λ is. failed_due due_is (wrote_at DoorFault tt wrote is).0;
    never_falls = door_counts door_fell (doors.faults before) (doors.faults after) door.counts;
  }
    where
      unfailed : status ≡ Done → door_fell ≡ false
      unfailed done = unfailed_due (sym (wrote_at Done tt wrote done).0)

      remembered : status ≢ NoMemory → no_memory ≡ false
      remembered other = is_false no_memory (λ e. other (wanted e))

      all : (status ≡ Done) ⊎ ((status ≢ NoMemory) × (Rose (doors.faults before) (doors.faults after) → ⊥)) → (length ends ≡ sessions) ⊎ doors.is_shut after
      all (inl done) = door.all (unfailed done) (remembered (λ e. absurd (let wrong = sym done ∙ e in cc)))
      all (inr other) = door.all (is_false door_fell (λ e. other.1 (door_rose door_fell (doors.faults before) (doors.faults after) door.counts e))) (remembered other.0)

      by_each : status ≡ Done → All (λ (end : LinkEnd L R). IsOfLink end.end.cause) ends
      by_each done i d within =
          let fine = no_fault_done due_is wrote done in
          let had_all = door.had (remembered (λ e. absurd (let wrong = sym done ∙ e in cc))) in
          let there : slice_get ends i ≡ Some (get_or ends i d) = slice_get-get_or ends i d within in
          of_link i (get_or ends i d) there fine.0 fine.1 (had_all i d within) (get_or ends i d).end.cause refl
