-- What all sites told, one after the other, of what they wait for.
use Rattle.std.proofs.Common.{◌≡◌, ◌≢◌, ℕ, ◌+◌, ◌-◌, ◌<◌, ◌≤◌, Bool, true, false, cond, List, [], ◌∷◌, ◌++◌, length, get_or, map, Option, Some, None, inl, inr, refl, sym, ap, subst, ◌∙◌, arith, length-set, get_or-set_same, get_or-set_other}
use Rattle.std.specs.Prelude.{fold, is_some}
use Rattle.std.specs.List.{All}
use Rattle.std.specs.Option.{IfSome}
use Rattle.std.proofs.lemmas.Bool.{cases_eq}
use Rattle.std.proofs.lemmas.List.{get_or-replicate, get_or_default, length-append, length-replicate}
use Rattle.std.proofs.lemmas.List.Elements.{All-head, All-tail}
use Rattle.std.proofs.lemmas.List.Folds.{list_all_at}
use Rattle.std.proofs.lemmas.List.Sums.{list_all-from_AllPass}
use Rattle.std.proofs.lemmas.Option.{none-some, same_Some}
use Rattle.dcr_set.specs.Least.{lesser}
use Rattle.dcr_proj.specs.CoverValue.{atoms_of}
use Rattle.dcr_laws.specs.AtSites.{least_of}
use Rattle.dcr_journal.specs.Answer.{verdict_of}
use Rattle.dcr_journal.specs.declared.call.Call.{Call}
use Rattle.dcr_journal.specs.declared.call.Call.TheVariants.{Accepting}
use Rattle.dcr_journal.specs.declared.call.Entry.{Entry}
use Rattle.dcr_journal.specs.declared.call.Outcome.{Outcome}
use Rattle.dcr_turn.specs.Pushing.{is_fault}
use Rattle.dcr_wire.specs.declared.answer.Told.{Told}
use Rattle.dcr_wire.specs.declared.answer.Told.TheVariants as told
use Rattle.dcr_wire.specs.declared.question.Asked.TheVariants.{Marks, Can, Waits}
use Rattle.dcr_node.specs.Gathering.{first_waits, gathered_with, gathering, nothing_gathered, nothing_told, waits_told}
use Rattle.dcr_node.specs.JournalState.{IsOver, JournalState, entry_of, told_out, told_to, withdrawn, with_entry, with_gathered, with_verdict}
use Rattle.dcr_node.specs.Laws.{what_is_told}
use Rattle.dcr_node.specs.declared.gathered.Gathered.{Gathered}
use Rattle.dcr_node.specs.declared.journal_node.Proposal.{Proposal}
use Rattle.dcr_node.proofs.TruthLemmas.{slice_get_last}
use Rattle.dcr_order.specs.Calling.{CallEnds, FitsCall, HasHeard, Rests}
use Rattle.dcr_order.proofs.CallLemmas.{entered}
use Rattle.dcr_order.proofs.TellLemmas.{last_entry}

-- what a site waits for, where it told that, is one of so many atoms
abbrev WaitsWithin : ℕ → Gathered → Type 0
WaitsWithin atoms g = IfSome (first_waits g) (λ e. e < atoms)

lesser_within : (n : ℕ) (a b : Option ℕ) → IfSome a (λ e. e < n) → IfSome b (λ e. e < n) → IfSome (lesser a b) (λ e. e < n)
lesser_within n None b first second = second
lesser_within n (Some a) None first second = first
lesser_within n (Some a) (Some b) first second = grind arith

least_within : (n : ℕ) (g : List Gathered) (start : Option ℕ) → IfSome start (λ e. e < n) → All (WaitsWithin n) g → IfSome (fold lesser start (map first_waits g)) (λ e. e < n)
least_within n [] start is all = is
least_within n (x ∷ g) start is all = least_within n g (lesser start (first_waits x)) (lesser_within n start (first_waits x) is (All-head (WaitsWithin n) x g all)) (All-tail (WaitsWithin n) x g all)

-- the sites before this one told, and the others did not
pub record Collected (j node : JournalState) (k : ℕ) : Type 0 where
  pub is : node ≡ with_gathered j node.gathered
  pub many : length node.gathered ≡ length j.alphabets
  pub told : (m : ℕ) → m < k → is_some (get_or node.gathered m nothing_told).waits ≡ true
  pub untold : (m : ℕ) → k ≤ m → m < length j.alphabets → get_or node.gathered m nothing_told ≡ nothing_told
  pub within : (m : ℕ) → m < length j.alphabets → WaitsWithin (atoms_of j.alphabets) (get_or node.gathered m nothing_told)

-- until all have told, by which the call has its entry
pub record AllHeard (j : JournalState) (p : Proposal) (node : JournalState) (k : ℕ) : Type 0 where
  pub some : k < length j.alphabets → Collected j node k
  pub all : k ≡ length j.alphabets → (waits : Option ℕ) × (node ≡ with_entry j (entry_of j p (verdict_of waits))) × IfSome waits (λ e. e < atoms_of j.alphabets)

pub none_heard : (j : JournalState) (p : Proposal) → j.gathered ≡ nothing_gathered (length j.alphabets) → 1 ≤ length j.alphabets → AllHeard j p j 0
none_heard j p none some = record {
  some = λ below. record {
    is = refl;
    many = ap (λ (g : List Gathered). length g) none ∙ length-replicate (length j.alphabets) nothing_told;
    told = λ m under. absurd (omega arith);
    untold = λ m past within. none_told m within;
    within = λ m below. subst (WaitsWithin (atoms_of j.alphabets)) (sym (none_told m below)) tt;
  };
  all = λ at. absurd (omega arith);
}
  where
    none_told : (m : ℕ) → m < length j.alphabets → get_or j.gathered m nothing_told ≡ nothing_told
    none_told m below = ap (λ (g : List Gathered). get_or g m nothing_told) none ∙ get_or-replicate (length j.alphabets) m nothing_told nothing_told below

-- what was told is what is waited for
waits_only : (t : Told) → what_is_told t ≡ Waits → (event : Option ℕ) × (t ≡ told.Waits event)
waits_only (told.Marks mark) is = absurd (marks_waits is)
  where
    marks_waits : Marks ≡ Waits → ⊥
    marks_waits is = cc
waits_only (told.Can events) is = absurd (can_waits is)
  where
    can_waits : Can ≡ Waits → ⊥
    can_waits is = cc
waits_only (told.Waits event) is = (event, refl)

module _ (j : JournalState) (p : Proposal) (out : j.out ≡ Some p) (accepting : p.call ≡ Accepting) (node after : JournalState) (k : ℕ) (collected : Collected j node k) (below : k < length j.alphabets)
    (heard : HasHeard node after k Waits) where
  abbrev event : Option ℕ
  event = (waits_only heard.told heard.kind).0

  abbrev g : List Gathered
  g = gathering node.gathered k (told.Waits event)

  -- what the journal makes of it
  step_is : after ≡ with_verdict (with_gathered j g) p (waits_told g)
  step_is =
      heard.is
      ∙ ap (told_out node k heard.told) (ap (λ (n : JournalState). n.out) collected.is ∙ out)
      ∙ ap (λ (t : Told). told_to node p k p.call t) (waits_only heard.told heard.kind).1
      ∙ ap (λ (call : Call). told_to node p k call (told.Waits event)) accepting
      ∙ ap (λ (n : JournalState). with_verdict (with_gathered n g) p (waits_told g)) collected.is

  many_then : length g ≡ length j.alphabets
  many_then = length-set node.gathered k (gathered_with (get_or node.gathered k nothing_told) (told.Waits event)) ∙ collected.many

  told_then : (m : ℕ) → m < k + 1 → is_some (get_or g m nothing_told).waits ≡ true
  told_then m under = elim (cases_eq m k) [
    | inl same ↦
        let room : k < length node.gathered = (let many = collected.many in omega arith) in
        let put = gathered_with (get_or node.gathered k nothing_told) (told.Waits event) in
        ap (λ (n : ℕ). is_some (get_or g n nothing_told).waits) same ∙ ap (λ (x : Gathered). is_some x.waits) (get_or-set_same node.gathered k put nothing_told room)
    | inr other ↦
        let put = gathered_with (get_or node.gathered k nothing_told) (told.Waits event) in
        ap (λ (x : Gathered). is_some x.waits) (get_or-set_other node.gathered k m put nothing_told other) ∙ collected.told m (omega arith)
  ]

  untold_then : (m : ℕ) → k + 1 ≤ m → m < length j.alphabets → get_or g m nothing_told ≡ nothing_told
  untold_then m past within =
      let put = gathered_with (get_or node.gathered k nothing_told) (told.Waits event) in
      let other : m ≢ k = λ same. (omega arith) in
      get_or-set_other node.gathered k m put nothing_told other ∙ collected.untold m (omega arith) within

  within_then : (m : ℕ) → m < length j.alphabets → WaitsWithin (atoms_of j.alphabets) (get_or g m nothing_told)
  within_then m below = elim (cases_eq m k) [
    | inl same ↦
        let room : k < length node.gathered = (let many = collected.many in omega arith) in
        let put = gathered_with (get_or node.gathered k nothing_told) (told.Waits event) in
        let here : get_or g m nothing_told ≡ put = ap (λ (n : ℕ). get_or g n nothing_told) same ∙ get_or-set_same node.gathered k put nothing_told room in
        let over : IsOver (atoms_of node.alphabets) (told.Waits event) = subst (IsOver (atoms_of node.alphabets)) (waits_only heard.told heard.kind).1 heard.over in
        subst (WaitsWithin (atoms_of j.alphabets)) (sym here)
        (subst (λ (n : JournalState). IfSome event (λ e. e < atoms_of n.alphabets)) collected.is over)
    | inr other ↦
        let put = gathered_with (get_or node.gathered k nothing_told) (told.Waits event) in
        subst (WaitsWithin (atoms_of j.alphabets)) (sym (get_or-set_other node.gathered k m put nothing_told other)) (collected.within m below)
  ]

  -- the least of all is one
  least_then : IfSome (least_of (map first_waits g)) (λ e. e < atoms_of j.alphabets)
  least_then = least_within (atoms_of j.alphabets) g None tt (λ m d below. (let many = many_then in
      subst (WaitsWithin (atoms_of j.alphabets)) (get_or_default g m nothing_told d below) (within_then m (omega arith))))

  -- a site is left that has not told
  one_left : k + 1 < length j.alphabets → waits_told g ≡ None
  one_left left =
      let room : k + 1 < length g = (let many = many_then in omega arith) in
      let none : is_some (get_or g (k + 1) nothing_told).waits ≡ false = ap (λ (x : Gathered). is_some x.waits) (untold_then (k + 1) (omega arith) left) in
      ap (λ (b : Bool). cond b (Some (least_of (map first_waits g))) None) (list_all_at (λ (x : Gathered). is_some x.waits) g (k + 1) nothing_told room none)

  none_left : k + 1 ≡ length j.alphabets → waits_told g ≡ Some (least_of (map first_waits g))
  none_left last =
      ap (λ (b : Bool). cond b (Some (least_of (map first_waits g))) None)
      (list_all-from_AllPass (λ (x : Gathered). is_some x.waits) g (λ m d within. (let many = many_then in
      let here : get_or g m d ≡ get_or g m nothing_told = get_or_default g m d nothing_told within in
      ap (λ (x : Gathered). is_some x.waits) here ∙ told_then m (omega arith))))

  pub one_heard : AllHeard j p after (k + 1)
  one_heard = record {
    some = λ left.
        let now : after ≡ with_gathered j g = step_is ∙ ap (with_verdict (with_gathered j g) p) (one_left left) in
        let same : after.gathered ≡ g = ap (λ (n : JournalState). n.gathered) now in
        record {
          is = now ∙ ap (with_gathered j) (sym same);
          many = ap (λ (x : List Gathered). length x) same ∙ many_then;
          told = λ m under. ap (λ (x : List Gathered). is_some (get_or x m nothing_told).waits) same ∙ told_then m under;
          untold = λ m past within. ap (λ (x : List Gathered). get_or x m nothing_told) same ∙ untold_then m past within;
          within = λ m below. subst (λ (x : List Gathered). WaitsWithin (atoms_of j.alphabets) (get_or x m nothing_told)) (sym same) (within_then m below);
        };
    all = λ last. (least_of (map first_waits g), step_is ∙ ap (with_verdict (with_gathered j g) p) (none_left last), least_then);
  }

-- the call was taken back before all had told
pub collected_rests : (j node after : JournalState) (k : ℕ) → Collected j node k → after ≡ withdrawn node → Rests j after
collected_rests j node after k collected is =
    let all : after ≡ withdrawn (with_gathered j node.gathered) = is ∙ ap withdrawn collected.is in
    record {
      alphabets = ap (λ (n : JournalState). n.alphabets) all;
      history = ap (λ (n : JournalState). n.history) all;
      sessions = ap (λ (n : JournalState). n.sessions) all;
      out = ap (λ (n : JournalState). n.out) all;
    }

-- the entry stands last
entry_last : (j node : JournalState) (entry : Entry) → node ≡ with_entry j entry → last_entry node.history ≡ Some entry
entry_last j node entry is =
    let J = j.history.entries in
    let long = length-append J (entry ∷ []) in
    ap (λ (n : JournalState). last_entry n.history) is ∙ slice_get_last J entry (length (J ++ entry ∷ []) - 1) (omega arith)

pub all_ends : (j node : JournalState) (p : Proposal) (k : ℕ) (last : Entry) → AllHeard j p node k → k ≡ length j.alphabets → Some last ≡ last_entry node.history → CallEnds j node p (Some last.outcome)
all_ends j node p k last heard at is =
    let by = heard.all at in
    let entry = entry_of j p (verdict_of by.0) in
    let same : last ≡ entry = same_Some last entry (is ∙ entry_last j node entry by.1) in
    subst (λ (o : Outcome). CallEnds j node p (Some o)) (sym (ap (λ (e : Entry). e.outcome) same)) (by_waits by.0 by.1)
  where
    by_waits : (waits : Option ℕ) → node ≡ with_entry j (entry_of j p (verdict_of waits)) → CallEnds j node p (Some (verdict_of waits))
    by_waits None is = entered j node p (verdict_of None) is
    by_waits (Some event) is = entered j node p (verdict_of (Some event)) is

pub all_no_fault : (j node : JournalState) (p : Proposal) (k : ℕ) (last : Entry) → AllHeard j p node k → k ≡ length j.alphabets → Some last ≡ last_entry node.history → is_fault last.outcome ≡ false
all_no_fault j node p k last heard at is =
    let by = heard.all at in
    ap (λ (e : Entry). is_fault e.outcome) (same_Some last (entry_of j p (verdict_of by.0)) (is ∙ entry_last j node (entry_of j p (verdict_of by.0)) by.1)) ∙ by_waits by.0
  where
    by_waits : (waits : Option ℕ) → is_fault (verdict_of waits) ≡ false
    by_waits None = refl
    by_waits (Some e) = refl

pub all_fits : (j node : JournalState) (p : Proposal) (k : ℕ) (last : Entry) → AllHeard j p node k → k ≡ length j.alphabets → Some last ≡ last_entry node.history
    → FitsCall (atoms_of j.alphabets) Accepting last.outcome
all_fits j node p k last heard at is =
    let by = heard.all at in
    let entry = entry_of j p (verdict_of by.0) in
    subst (FitsCall (atoms_of j.alphabets) Accepting) (sym (ap (λ (e : Entry). e.outcome) (same_Some last entry (is ∙ entry_last j node entry by.1)))) (by_waits by.0 by.2)
  where
    by_waits : (waits : Option ℕ) → IfSome waits (λ e. e < atoms_of j.alphabets) → FitsCall (atoms_of j.alphabets) Accepting (verdict_of waits)
    by_waits None within = record { kind = refl; within = tt }
    by_waits (Some e) within = record { kind = refl; within = within }

pub all_has_last : (j node : JournalState) (p : Proposal) (k : ℕ) → AllHeard j p node k → k ≡ length j.alphabets → last_entry node.history ≡ None → ⊥
all_has_last j node p k heard at none =
    let by = heard.all at in
    none-some (entry_of j p (verdict_of by.0)) (sym none ∙ entry_last j node (entry_of j p (verdict_of by.0)) by.1)
