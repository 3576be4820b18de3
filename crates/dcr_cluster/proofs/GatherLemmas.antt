-- The sites of a call, whose locks it takes one after the other and gives back with the entry.
use Rattle.std.proofs.Common.{◌≡◌, ℕ, ◌<◌, Bool, true, false, cond, List, [], ◌∷◌, ◌++◌, length, map, take, get_or, Option, Some, None, Result, Ok, Err, refl, sym, ap, ◌∙◌, subst, arith, append-nil, length-append}
use Rattle.std.specs.Prelude.{IfErr, OnOk}
use Rattle.std.specs.List.{All, Contains}
use Rattle.std.proofs.Math.Seq.{take-append_seam, get_or-append_seam}
use Rattle.std.proofs.lemmas.List.{get_or_append_left, map-append}
use Rattle.std.proofs.lemmas.List.Elements.{All-head, All-tail}
use Rattle.dcr_set.specs.EventSet.{Set, has}
use Rattle.dcr_graph.specs.Rows.{row}
use Rattle.dcr_graph.specs.Rules.{Rules}
use Rattle.dcr_graph.specs.Step.{step}
use Rattle.dcr_graph.specs.declared.marking.Marking.{Marking}
use Rattle.dcr_journal.specs.declared.call.Call.{Call}
use Rattle.dcr_journal.specs.declared.call.Call.TheVariants.{Exec, Look, Enabled, Accepting}
use Rattle.dcr_journal.specs.declared.call.Entry.{Entry}
use Rattle.dcr_journal.specs.declared.call.Outcome.{Outcome}
use Rattle.dcr_journal.specs.declared.call.Outcome.TheVariants.{Done}
use Rattle.dcr_proj.specs.NetworkValue.{participants_of}
use Rattle.dcr_site.specs.Seen.{Seen, StandsAt}
use Rattle.dcr_tape.specs.declared.tape.Store.{Store}
use Rattle.dcr_turn.specs.FrontValue.{FrontValue, HasMissedNone}
use Rattle.dcr_turn.specs.PassValue.{PassValue}
use Rattle.dcr_turn.specs.Pushing.{entry_of}
use Rattle.dcr_turn.specs.TurnId.{TurnId}
use Rattle.dcr_cell.specs.Asking.{sites_for, sites_of}
use Rattle.dcr_cell.specs.CellStands.{CellStands}
use Rattle.dcr_cell.specs.ClusterId.{ClusterId, IsNamed, IsRunOf}
use Rattle.dcr_cell.proofs.CellLemmas.{cell_stays, cell_spared, cell_steps}
use Rattle.dcr_cell.proofs.RunLemmas.{calls_of_run}
use Rattle.dcr_cluster.specs.Calls.{AnsweredAfter, HaltedAfter, EndsAfter, Made, done_by, ending, seeing}
use Rattle.dcr_cluster.specs.declared.halt.Halt.{Halt}
use Rattle.dcr_cluster.proofs.EnterLemmas.{same_sites}

-- ---- the sites that are left

no_more : (left : List ℕ) → length left ≡ 0 → left ≡ []
no_more [] none = refl
no_more (i ∷ left) none = absurd (omega arith)

-- where none is left, all were asked
pub all_asked : (asked left sites : List ℕ) → length left ≡ 0 → asked ++ left ≡ sites → asked ≡ sites
all_asked asked left sites none are = sym (append-nil asked) ∙ ap (λ l. asked ++ l) (sym (no_more left none)) ∙ are

-- the first of them is a site
pub first_within : (n first : ℕ) (left rest : List ℕ) → All (λ i. i < n) left → left ≡ first ∷ rest → first < n
first_within n first left rest all is = All-head (λ i. i < n) first rest (subst (All (λ i. i < n)) is all)

-- and so are the others
pub rest_within : (n first : ℕ) (left rest : List ℕ) → All (λ i. i < n) left → left ≡ first ∷ rest → All (λ i. i < n) rest
rest_within n first left rest all is = All-tail (λ i. i < n) first rest (subst (All (λ i. i < n)) is all)

-- it is one that the call takes
pub first_there : (asked left rest sites : List ℕ) (first : ℕ) → asked ++ left ≡ sites → left ≡ first ∷ rest → Contains sites first
first_there asked left rest sites first are is =
    let e : asked ++ first ∷ rest ≡ sites = ap (λ l. asked ++ l) (sym is) ∙ are in
    let n = length-append asked (first ∷ rest) in
    subst (λ (l : List ℕ). Contains l first) e (length asked, omega arith, get_or-append_seam asked first rest first)

-- with its front on the row the others are left
pub still_left : (fronts more : List FrontValue) (front : FrontValue) (first : ℕ) (left rest sites : List ℕ) → more ≡ fronts ++ front ∷ [] → front.site ≡ first → left ≡ first ∷ rest
    → sites_of fronts ++ left ≡ sites → sites_of more ++ rest ≡ sites
still_left fronts more front first left rest sites is at left_is are =
    same_sites more fronts front rest is ∙ ap (λ i. sites_of fronts ++ i ∷ rest) at ∙ ap (λ l. sites_of fronts ++ l) (sym left_is) ∙ are

-- ---- the row that comes back

-- its last is the front that was put there
pub comes_back : (row rest after : List FrontValue) (front : FrontValue) (i : ℕ) (seen : List Entry) → row ≡ rest ++ front ∷ [] → front.site ≡ i → after ≡ map (seeing seen) row
    → after ≡ map (seeing seen) rest ++ record { site = i; front = seen } ∷ []
comes_back row rest after front i seen is at are =
    are ∙ ap (map (seeing seen)) is ∙ map-append (seeing seen) rest (front ∷ []) ∙ ap (λ k. map (seeing seen) rest ++ record { site = k; front = seen } ∷ []) at

same_ends : {X : Type 0} (xs ys : List X) (x y : X) → xs ++ x ∷ [] ≡ ys ++ y ∷ [] → (xs ≡ ys) × (x ≡ y)
same_ends xs ys x y e =
    let many = ap length e in
    let one = length-append xs (x ∷ []) in
    let other = length-append ys (y ∷ []) in
    let n : length xs ≡ length ys = omega arith in (
      sym (take-append_seam xs (x ∷ [])) ∙ ap (λ k. take k (xs ++ x ∷ [])) n ∙ ap (take (length ys)) e ∙ take-append_seam ys (y ∷ []),
      sym (get_or-append_seam xs x [] x) ∙ ap (λ k. get_or (xs ++ x ∷ []) k x) n ∙ ap (λ l. get_or l (length ys) x) e ∙ get_or-append_seam ys y [] x,
    )

-- and the others are those from before
pub came_back : (row rest after rest_after : List FrontValue) (front back : FrontValue) (seen : List Entry) → row ≡ rest ++ front ∷ [] → after ≡ map (seeing seen) row
    → after ≡ rest_after ++ back ∷ [] → (rest_after ≡ map (seeing seen) rest) × (back ≡ seeing seen front)
came_back row rest after rest_after front back seen is are back_is =
    same_ends rest_after (map (seeing seen) rest) back (seeing seen front)
    (sym back_is ∙ are ∙ ap (map (seeing seen)) is ∙ map-append (seeing seen) rest (front ∷ []))

-- ---- what is said of all of the row

pub last_of : {X : Type 0} (P : X → Type 0) (row rest : List X) (last : X) → row ≡ rest ++ last ∷ [] → All P row → P last
last_of P row rest last is all =
    let n = length-append rest (last ∷ []) in
    subst P (get_or-append_seam rest last [] last) (subst (All P) is all (length rest) last (omega arith))

pub others_of : {X : Type 0} (P : X → Type 0) (row rest : List X) (last : X) → row ≡ rest ++ last ∷ [] → All P row → All P rest
others_of P row rest last is all = λ k d below.
    let n = length-append rest (last ∷ []) in
    subst P (get_or_append_left rest (last ∷ []) d k below) (subst (All P) is all k d (omega arith))

-- ---- who hears of an execution

chosen : (owned : Bool) (sites : List ℕ) (i : ℕ) → Contains (cond owned sites []) i → Contains sites i
chosen true sites i there = there
chosen false sites i there = absurd (omega (arith, there.1))

-- whose lock is held for an execution that was done is a participant
pub is_participant : (c : ClusterId) (turn : TurnId) (call : Call) (result : Result Outcome Halt) (event i : ℕ) → done_by call result ≡ Some event → Contains (sites_for c turn call) i
    → Contains (participants_of turn.alphabets event) i
is_participant c turn (Exec k e) (Ok Done) event i is there =
    let same : e ≡ event = cc in
    subst (λ a. Contains (participants_of turn.alphabets a) i) same (chosen (has (row c.owned k) e) (participants_of turn.alphabets e) i there)
is_participant c turn (Exec k e) (Ok outcome) event i is there = absurd cc
is_participant c turn (Look k) (Ok outcome) event i is there = absurd cc
is_participant c turn (Enabled k) (Ok outcome) event i is there = absurd cc
is_participant c turn Accepting (Ok outcome) event i is there = absurd cc
is_participant c turn call (Err halt) event i is there = absurd cc

-- ---- the site, when its lock is given back

module _ {D : Type 0} (c : ClusterId) (first : Option (Store D)) (capacity : ℕ) where
  run_before : (J : List Entry) (before after : PassValue) (call : Call) (result : Result Outcome Halt) → EndsAfter c first capacity J before after call result → IsRunOf c J
  run_before J before after call (Ok outcome) ends = ends.sound.legal
  run_before J before after call (Err halt) ends = ends.legal

  left_so : (i number : ℕ) (site : Seen) (J : List Entry) (before after : PassValue) (call : Call) (result : Result Outcome Halt) → EndsAfter c first capacity J before after call result
      → done_by call result ≡ None → CellStands c i site record { site = number; front = J } → CellStands c i site record { site = number; front = after.front }
  left_so i number site J before after call (Ok outcome) ends none stands =
      subst (λ (seen : List Entry). CellStands c i site record { site = number; front = seen }) (sym ends.front) (cell_spared c i site number J (entry_of before call outcome) none stands)
  left_so i number site J before after call (Err halt) ends none stands =
      subst (λ (seen : List Entry). CellStands c i site record { site = number; front = seen }) (sym ends.front) stands

  stepped_so : (i number event : ℕ) (old new : Seen) (J : List Entry) (before after : PassValue) (call : Call) (result : Result Outcome Halt) → EndsAfter c first capacity J before after call result
      → done_by call result ≡ Some event → ((G : Rules) (S : Set) (M : Marking) → StandsAt G S M old → StandsAt G S (step G M event) new)
      → CellStands c i old record { site = number; front = J } → CellStands c i new record { site = number; front = after.front }
  stepped_so i number event old new J before after call (Ok outcome) ends done stepped stands =
      subst (λ (seen : List Entry). CellStands c i new record { site = number; front = seen }) (sym ends.front)
      (cell_steps c i old new number J (entry_of before call outcome) event done stepped stands)
  stepped_so i number event old new J before after call (Err halt) ends done stepped stands = absurd cc

  -- the site at its own place, where the fronts that had missed none have its front as the last
  stays_by : (turn : TurnId) (i : ℕ) (site : Seen) (front : FrontValue) (row rest row_after : List FrontValue) (before after : PassValue) (call : Call) (result : Result Outcome Halt)
      → IsNamed c turn → i < length c.owned → CellStands c i site front → row ≡ rest ++ front ∷ []
      → (made : Made c first capacity turn before after row row_after call result) → CellStands c i site record { site = front.site; front = made.J }
  stays_by turn i site front row rest row_after before after call result named within stands is made =
      cell_stays c turn i site front made.J named within (calls_of_run c made.J (run_before made.J before after call result made.ends)) stands
      (last_of (λ (f : FrontValue). HasMissedNone turn f made.J) row rest front is made.returned.missed_none)

  -- it is left as it is where no execution was done
  pub left_as_is : (turn : TurnId) (i : ℕ) (site : Seen) (front : FrontValue) (row rest row_after : List FrontValue) (before after : PassValue) (call : Call) (result : Result Outcome Halt)
      → IsNamed c turn → i < length c.owned → CellStands c i site front → row ≡ rest ++ front ∷ []
      → Made c first capacity turn before after row row_after call result → done_by call result ≡ None → CellStands c i site (seeing after.front front)
  left_as_is turn i site front row rest row_after before after call result named within stands is made none =
      left_so i front.site site made.J before after call result made.ends none (stays_by turn i site front row rest row_after before after call result named within stands is made)

  -- and stepped by one that was
  pub stepped_on : (turn : TurnId) (i event : ℕ) (old new : Seen) (front : FrontValue) (row rest row_after : List FrontValue) (before after : PassValue) (call : Call) (result : Result Outcome Halt)
      → IsNamed c turn → i < length c.owned → CellStands c i old front → row ≡ rest ++ front ∷ []
      → Made c first capacity turn before after row row_after call result → done_by call result ≡ Some event
      → ((G : Rules) (S : Set) (M : Marking) → StandsAt G S M old → StandsAt G S (step G M event) new) → CellStands c i new (seeing after.front front)
  stepped_on turn i event old new front row rest row_after before after call result named within stands is made done stepped =
      stepped_so i front.site event old new made.J before after call result made.ends done stepped
      (stays_by turn i old front row rest row_after before after call result named within stands is made)

  -- the call was made with the fronts of the others
  pub made_without : (turn : TurnId) (before after : PassValue) (row rest row_after rest_after : List FrontValue) (front : FrontValue) (call : Call) (result : Result Outcome Halt)
      → row ≡ rest ++ front ∷ [] → rest_after ≡ map (seeing after.front) rest → Made c first capacity turn before after row row_after call result
      → Made c first capacity turn before after rest rest_after call result
  made_without turn before after row rest row_after rest_after front call result is are made = record {
    J = made.J;
    ends = made.ends;
    returned = record { missed_none = others_of (λ (f : FrontValue). HasMissedNone turn f made.J) row rest front is made.returned.missed_none; fronts = are };
  }

  -- ---- what the call says

  pub answered_by : (turn : TurnId) (before after : PassValue) (row row_after : List FrontValue) (call : Call) (told : Outcome) (ended : Result (Unit {0}) Halt)
      → Made c first capacity turn before after row row_after call (ending told ended) → OnOk ended ((J : List Entry) × AnsweredAfter c first capacity J before after call told)
  answered_by turn before after row row_after call told (Ok done) made = (made.J, made.ends)
  answered_by turn before after row row_after call told (Err halt) made = tt

  pub halted_by : (turn : TurnId) (before after : PassValue) (row row_after : List FrontValue) (call : Call) (told : Outcome) (ended : Result (Unit {0}) Halt)
      → Made c first capacity turn before after row row_after call (ending told ended) → IfErr ended (λ halt. (J : List Entry) × HaltedAfter c first capacity J before after halt)
  halted_by turn before after row row_after call told (Ok done) made = tt
  halted_by turn before after row row_after call told (Err halt) made = (made.J, made.ends)
