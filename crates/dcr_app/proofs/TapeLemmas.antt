-- What a run over a tape, or a refusal of one, leaves on the disk.
use Rattle.std.proofs.Common.{◌≡◌, ◌≢◌, ◌⊎◌, inl, inr, ℕ, ◌≤◌, ◌+◌, Bool, true, false, IsTrue, List, [], ◌∷◌, ◌++◌, length, take, Option, Some, None, Ok, refl, sym, ap, subst, ◌∙◌, arith}
use Rattle.std.proofs.lemmas.List.{append_assoc, take-append-le, take_all}
use Rattle.dcr_base.specs.Count.{Rose}
use Rattle.dcr_base.specs.Disk.{DiskView, IsSteady, LeavesOnly}
use Rattle.dcr_base.proofs.DiskLemmas.{joined, started, weaker}
use Rattle.dcr_journal.specs.Run.{HasNoFault}
use Rattle.dcr_journal.specs.declared.call.Entry.{Entry}
use Rattle.dcr_tape.specs.Kept.{part_of}
use Rattle.dcr_tape.specs.Laws.{OneList}
use Rattle.dcr_tape.specs.Opening.{IsUnmade, Opened, Refused as NotOpened}
use Rattle.dcr_tape.specs.Tape.{Holds, Part, StandsFor, part_bytes}
use Rattle.dcr_base.specs.declared.status.Status.{Status}
use Rattle.dcr_base.specs.declared.status.Status.TheVariants.{DiskFault}
use Rattle.dcr_journal.specs.declared.closed.Closed.{Closed}
use Rattle.dcr_tape.specs.declared.cause.TapeCause.{TapeCause}
use Rattle.dcr_tape.specs.declared.cause.TapeCause.TheVariants as cause
use Rattle.dcr_tape.specs.declared.entry.TapeEntry.{TapeEntry}
use Rattle.dcr_tape.specs.declared.tape.Tape.{Tape}
use Rattle.dcr_tape.proofs.OpenLemmas.{made_holds}
use Rattle.dcr_cell.specs.Stored.{StandsForSome, TapeStands, executions, failed_executions, kept_for, tried_for}
use Rattle.dcr_json.specs.Written.{Spelled}
use Rattle.dcr_roles.specs.Accepted.{case_accepted}
use Rattle.dcr_app.specs.Headline.{StoodFor, digest_of}
use Rattle.dcr_app.specs.Outside.{WereLeft}
use Rattle.dcr_app.specs.Stored.{CallsDisk, HasKept, IsMaking, KeepsContent, LeavesDisk, StandsStill, StaysSettled, as_it_was, was_empty, was_its_tape}

-- ---- contents

-- no tape is empty
pub none_stands : (digest : List ℕ) (old : List TapeEntry) (content : List ℕ) → content ≡ [] → StandsFor digest old content → ⊥
none_stands digest old content empty stands =
    let long : stands.part.start + 65 ≤ length content = stands.holds.in_force.long in
    let none : length content ≡ 0 = ap (λ (l : List ℕ). length l) empty in absurd (omega arith)

-- a content stands for one list of one case
pub one_stands : OneList → (content digest other : List ℕ) (old others : List TapeEntry) → StandsFor digest old content → StandsFor other others content
    → (digest ≡ other) × (old ≡ others)
one_stands one content digest other old others stands also =
    let same = one content stands.part also.part old others stands.holds also.holds in
    (sym stands.same_case ∙ ap (λ (p : Part). p.digest) same.0 ∙ also.same_case, same.1)

-- ---- a disk that is not called

pub still_same : {D : Type 0} (view : D → DiskView) (before after : D) → after ≡ before → StandsStill view before after
still_same view before after same =
    subst (λ d. StandsStill view before d) (sym same)
    (λ digest old steady stands. started (view before) (StandsFor digest old) (λ c left. subst (StandsFor digest old) (sym (steady.only c left)) stands))

pub settled_same : {D : Type 0} (view : D → DiskView) (before after : D) (status : Status) → after ≡ before → StaysSettled view before after status
settled_same view before after status same = subst (λ d. StaysSettled view before d status) (sym same) (record {
  steady = λ other steady. steady;
  empty = λ steady none. started (view before) IsMaking (λ c left. inl (let many = ap length (steady.only c left ∙ none) in omega arith));
})

pub content_same : {D : Type 0} (view : D → DiskView) (left : Option (List ℕ)) (before after : D) → after ≡ before → IsTrue (view before).told → KeepsContent left (view before) (view after)
content_same view left before after same told =
    as_it_was (subst (λ d. IsTrue (view d).told) (sym same) told) (ap (λ d. (view d).content) same)

pub uncalled_disk : {D : Type 0} (view : D → DiskView) (faults : D → ℕ) (left : Option (List ℕ)) (before after : D) (status : Status) (closed_run : Option Closed) → after ≡ before → status ≢ DiskFault
    → CallsDisk view faults left before after status closed_run
uncalled_disk view faults left before after status closed_run same fine = record {
  never_falls = let count = ap faults same in omega (arith, count);
  counted = λ is. absurd (fine is);
  told = λ _ _. ap faults same;
  still = λ _. still_same view before after same;
  settled = λ _. settled_same view before after status same;
  content = λ _ told. content_same view left before after same told;
  uncalled = λ _. same;
}

pub uncalled_by : {D : Type 0} (store : Bool) (view : D → DiskView) (faults : D → ℕ) (left : Option (List ℕ)) (before after : D) (status : Status) (closed_run : Option Closed) → after ≡ before → status ≢ DiskFault
    → LeavesDisk store view faults left before after status closed_run
uncalled_by true view faults left before after status closed_run same fine = uncalled_disk view faults left before after status closed_run same fine
uncalled_by false view faults left before after status closed_run same fine = same

-- what is said of bytes holds of the input that had them left
pub content_left : (left : Option (List ℕ)) (bytes : List ℕ) (before after : DiskView) → WereLeft left bytes → KeepsContent (Some bytes) before after → KeepsContent left before after
content_left left bytes before after all (as_it_was told same) = as_it_was told same
content_left left bytes before after all (was_empty none) = was_empty none
content_left (Some it) bytes before after all (was_its_tape found read case spelled old stands) = was_its_tape found (all ∙ read) case spelled old stands
content_left None bytes before after all (was_its_tape found read case spelled old stands) = was_its_tape found tt case spelled old stands

pub disk_left : {D : Type 0} (store : Bool) (view : D → DiskView) (faults : D → ℕ) (left : Option (List ℕ)) (bytes : List ℕ) (before after : D) (status : Status) (closed_run : Option Closed)
    → WereLeft left bytes → LeavesDisk store view faults (Some bytes) before after status closed_run → LeavesDisk store view faults left before after status closed_run
disk_left true view faults left bytes before after status closed_run all it = record {
  never_falls = it.never_falls;
  counted = it.counted;
  told = it.told;
  still = it.still;
  settled = it.settled;
  content = λ none told. content_left left bytes (view before) (view after) all (it.content none told);
  uncalled = it.uncalled;
}
disk_left false view faults left bytes before after status closed_run all it = it

-- ---- a tape that was opened

module _ {D : Type 0} (view : D → DiskView) (faults : D → ℕ) (one : OneList) (before : D) (tape : Tape D) (digest : List ℕ) (old : List TapeEntry) (long : length digest ≡ 32)
    (opened : Opened (view before) (view tape.disk) digest (part_of tape) old) where
  same_case : tape.digest ≡ digest
  same_case = opened.same_case

  pub honest_now : IsTrue (view before).honest → IsTrue (view tape.disk).honest
  honest_now honest = (opened.steady honest).honest

  none_by : (part : Part) → Holds (part_bytes digest []) part [] → opened.before ≡ [] → old ≡ []
  none_by part made empty =
      (one (view tape.disk).content (part_of tape) part old [] opened.holds (subst (λ c. Holds c part []) (sym (opened.made empty)) made)).1

  -- an empty disk stands for no execution
  pub none_made : opened.before ≡ [] → old ≡ []
  none_made empty = none_by _ (made_holds digest long) empty

  -- one that is not empty stood for them at entry
  pub stood : opened.before ≢ [] → StandsFor digest old opened.before
  stood some = record { part = part_of tape; same_case = same_case; holds = subst (λ c. Holds c (part_of tape) old) (opened.kept some) opened.holds }

  pub stood_for : StoodFor digest (view before) old
  stood_for told = by_before opened.before refl (opened.was told)
    where
      by_before : (content : List ℕ) → opened.before ≡ content → (view before).content ≡ opened.before
          → (((view before).content ≡ []) × (old ≡ [])) ⊎ StandsFor digest old (view before).content
      by_before [] is was = inl (was ∙ is, none_made is)
      by_before (b ∷ bs) is was = inr (subst (StandsFor digest old) (sym was) (stood (λ empty. let wrong = sym is ∙ empty in cc)))

  -- the disk was not empty where it stood for a list
  some_before : (digest' : List ℕ) (old' : List TapeEntry) → IsTrue (view before).told → StandsFor digest' old' (view before).content → opened.before ≢ []
  some_before digest' old' told stands empty = none_stands digest' old' (view before).content (opened.was told ∙ empty) stands

  -- opening it left what it stood for
  pub left_opening : (digest' : List ℕ) (old' : List TapeEntry) → IsSteady (view before) → StandsFor digest' old' (view before).content
      → LeavesOnly (view before) (view tape.disk) (StandsFor digest' old')
  left_opening digest' old' steady stands =
      weaker (view before) (view tape.disk) (view before).may_leave (StandsFor digest' old')
      (λ c left. subst (StandsFor digest' old') (sym (steady.only c left)) stands)
      (opened.any_moment steady.honest (some_before digest' old' ((view before).honest_tells steady.honest) stands))

  -- the same list, of the same case
  same_list : (digest' : List ℕ) (old' : List TapeEntry) → IsSteady (view before) → StandsFor digest' old' (view before).content → (digest ≡ digest') × (old ≡ old')
  same_list digest' old' steady stands =
      let told = (view before).honest_tells steady.honest in
      one_stands one (view before).content digest digest' old old'
      (subst (StandsFor digest old) (sym (opened.was told)) (stood (some_before digest' old' told stands))) stands

  pub still_opened : StandsStill view before tape.disk
  still_opened digest' old' steady stands = left_opening digest' old' steady stands

  -- and what came then left the executions of the tape
  pub still_then : (after : D) → (IsTrue (view tape.disk).honest → LeavesOnly (view tape.disk) (view after) (StandsFor tape.digest old)) → StandsStill view before after
  still_then after then digest' old' steady stands =
      let same = same_list digest' old' steady stands in
      joined (view before) (view tape.disk) (view after) (StandsFor digest' old') (left_opening digest' old' steady stands)
      (weaker (view tape.disk) (view after) (StandsFor tape.digest old) (StandsFor digest' old')
      (λ c here. subst (λ d. StandsFor d old' c) (same_case ∙ same.0) (subst (λ l. StandsFor tape.digest l c) same.1 here)) (then (honest_now steady.honest)))

  pub content_opened : (bytes : List ℕ) (case : Spelled) → case_accepted bytes ≡ Ok case → digest_of case ≡ digest → IsTrue (view before).told → (after : D)
      → KeepsContent (Some bytes) (view before) (view after)
  content_opened bytes case spelled named told after = by_before opened.before refl
    where
      by_before : (content : List ℕ) → opened.before ≡ content → KeepsContent (Some bytes) (view before) (view after)
      by_before [] is = was_empty (opened.was told ∙ is)
      by_before (b ∷ bs) is = was_its_tape bytes refl case spelled old
          (subst (λ d. StandsFor d old (view before).content) (sym named) (subst (StandsFor digest old) (sym (opened.was told)) (stood (λ empty. let wrong = sym is ∙ empty in cc))))

  -- where it was made, a crash meanwhile left at most its bytes
  few_opened : IsSteady (view before) → (view before).content ≡ [] → LeavesOnly (view before) (view tape.disk) IsUnmade
  few_opened steady none = opened.making steady (sym (opened.was ((view before).honest_tells steady.honest)) ∙ none)

  pub making_opened : IsSteady (view before) → (view before).content ≡ [] → LeavesOnly (view before) (view tape.disk) IsMaking
  making_opened steady none = weaker (view before) (view tape.disk) IsUnmade IsMaking (λ c few. inl few) (few_opened steady none)

  pub making_then : (after : D) → (IsTrue (view tape.disk).honest → LeavesOnly (view tape.disk) (view after) (StandsFor tape.digest old)) → IsSteady (view before) → (view before).content ≡ []
      → LeavesOnly (view before) (view after) IsMaking
  making_then after then steady none =
      let nothing : old ≡ [] = none_made (sym (opened.was ((view before).honest_tells steady.honest)) ∙ none) in
      joined (view before) (view tape.disk) (view after) IsMaking (making_opened steady none)
      (weaker (view tape.disk) (view after) (StandsFor tape.digest old) IsMaking (λ c here. inr (tape.digest, subst (λ l. StandsFor tape.digest l c) nothing here)) (then (honest_now steady.honest)))

  -- a run over it
  module _ (J : List Entry) (last : Tape D) (stands : TapeStands view faults tape old J last) (same_faults : faults tape.disk ≡ faults before) where
    of_case : last.digest ≡ digest
    of_case = stands.same_case ∙ same_case

    pub stands_after : HasNoFault J → IsTrue (view last.disk).told × StandsFor digest (kept_for old J) (view last.disk).content
    stands_after none =
        let going = stands.goes_on none in
        (going.keeps.told, record { part = part_of last; same_case = of_case; holds = going.keeps.holds })

    leaves_after : HasNoFault J ⊎ (¬ HasNoFault J) → IsTrue (view before).honest → (content : List ℕ) → (view last.disk).may_leave content
        → StandsFor digest (kept_for old J) content ⊎ StandsFor digest (tried_for old J) content
    leaves_after (inl none) honest content left =
        let steady = (stands.goes_on none).steady (honest_now honest) in
        inl (subst (StandsFor digest (kept_for old J)) (sym (steady.only content left)) (stands_after none).1)
    leaves_after (inr some) honest content left =
        subst (λ d. StandsFor d (kept_for old J) content ⊎ StandsFor d (tried_for old J) content) same_case ((stands.has_stopped some).leaves (honest_now honest) content left)

    -- what it stood for begins what was tried
    old_first : take (length old) (tried_for old J) ≡ old
    old_first =
        ap (take (length old)) (append_assoc old (executions J) (failed_executions J))
        ∙ take-append-le (length old) old (executions J ++ failed_executions J) (omega arith)
        ∙ take_all (length old) old (omega arith)

    moment_after : IsSteady (view before) → StandsFor digest old (view before).content
        → LeavesOnly (view before) (view last.disk) (StandsForSome digest old (tried_for old J))
    moment_after steady here =
        joined (view before) (view tape.disk) (view last.disk) (StandsForSome digest old (tried_for old J))
        (weaker (view before) (view tape.disk) (StandsFor digest old) (StandsForSome digest old (tried_for old J))
        (λ c is. record { count = length old; has_old = omega arith; stands = subst (λ l. StandsFor digest l c) (sym old_first) is })
        (left_opening digest old steady here))
        (subst (λ d. LeavesOnly (view tape.disk) (view last.disk) (StandsForSome d old (tried_for old J))) same_case (stands.any_moment (honest_now steady.honest)))

    first_after : IsSteady (view before) → (view before).content ≡ []
        → LeavesOnly (view before) (view last.disk) (λ content. IsUnmade content ⊎ StandsForSome digest old (tried_for old J) content)
    first_after steady none =
        joined (view before) (view tape.disk) (view last.disk) (λ content. IsUnmade content ⊎ StandsForSome digest old (tried_for old J) content)
        (weaker (view before) (view tape.disk) IsUnmade (λ content. IsUnmade content ⊎ StandsForSome digest old (tried_for old J) content) (λ c few. inl few) (few_opened steady none))
        (weaker (view tape.disk) (view last.disk) (StandsForSome digest old (tried_for old J)) (λ content. IsUnmade content ⊎ StandsForSome digest old (tried_for old J) content) (λ c some. inr some)
        (subst (λ d. LeavesOnly (view tape.disk) (view last.disk) (StandsForSome d old (tried_for old J))) same_case (stands.any_moment (honest_now steady.honest))))

    pub has_kept : HasNoFault J ⊎ (¬ HasNoFault J) → HasKept view faults digest old J before last.disk
    has_kept either = record {
      stands = stands_after;
      leaves = leaves_after either;
      any_moment = moment_after;
      first_moment = first_after;
      steady = λ none steady. (stands.goes_on none).steady (honest_now steady.honest);
      no_fault = λ none. (stands.goes_on none).no_fault ∙ same_faults;
      failed = λ some. let stopped = stands.has_stopped some in
          (subst (λ n. n ≤ faults last.disk) same_faults stopped.no_fewer, subst (λ n. Rose n (faults last.disk)) same_faults stopped.rose);
    }

-- ---- a disk that was not opened as a tape

module _ {D : Type 0} (view : D → DiskView) (before after : D) (digest : List ℕ) (why : TapeCause) (refused : NotOpened (view before) (view after) digest why) where
  pub content_refused : (left : Option (List ℕ)) → IsTrue (view before).told → KeepsContent left (view before) (view after)
  content_refused left told = by_before refused.before refl
    where
      by_before : (content : List ℕ) → refused.before ≡ content → KeepsContent left (view before) (view after)
      by_before [] is = was_empty (refused.was told ∙ is)
      by_before (b ∷ bs) is =
          let kept = refused.kept (λ empty. let wrong = sym is ∙ empty in cc) told in as_it_was kept.0 (kept.1 ∙ sym (refused.was told))

  pub making_refused : IsSteady (view before) → (view before).content ≡ [] → LeavesOnly (view before) (view after) IsMaking
  making_refused steady none =
      weaker (view before) (view after) IsUnmade IsMaking (λ c few. inl few) (refused.making steady (sym (refused.was ((view before).honest_tells steady.honest)) ∙ none))

  pub still_refused : StandsStill view before after
  still_refused digest' old' steady stands =
      let told = (view before).honest_tells steady.honest in
      weaker (view before) (view after) (view before).may_leave (StandsFor digest' old')
      (λ c left. subst (StandsFor digest' old') (sym (steady.only c left)) stands)
      (refused.any_moment steady.honest (λ empty. none_stands digest' old' (view before).content (refused.was told ∙ empty) stands))

-- memory ran out before the disk was called
pub unopened : (disk : DiskView) (digest : List ℕ) → NotOpened disk disk digest cause.NoMemory
unopened disk digest = record {
  before = disk.content;
  was = λ told. refl;
  stands = tt;
  shown = λ shown. elim shown [ ];
  kept = λ some told. (told, refl);
  any_moment = λ honest some. started disk disk.may_leave (λ c left. left);
  steady = λ other steady. steady;
  making = λ steady none. started disk IsUnmade (λ c left. let many = ap length (steady.only c left ∙ none) in omega arith);
}
