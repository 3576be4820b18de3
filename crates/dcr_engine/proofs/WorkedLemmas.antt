-- Which calls a history has, by what the passes of its sessions have done.
use Rattle.std.proofs.Common.{inl, inr, ◌≡◌, ℕ, ◌+◌, ◌<◌, ◌≤◌, Bool, false, cond, List, [], ◌∷◌, ◌++◌, length, get_or, map, take, Option, refl, sym, ap, subst, ◌∙◌, arith}
use Rattle.std.specs.Prelude.{filter, slice_index_or}
use Rattle.std.specs.List.{All, range_with_len, sum_by}
use Rattle.std.proofs.lemmas.Bool.{cases_lt}
use Rattle.std.proofs.lemmas.Option.{slice_get_within, get_or_from_slice_get}
use Rattle.std.proofs.lemmas.List.{append-nil, get_or_append_left, get_or_past, get_or-map, length-append, length-map, map-append, take_all}
use Rattle.std.proofs.lemmas.List.Elements.{All-head, All-tail, filter-append}
use Rattle.std.proofs.lemmas.List.FromFn.{length-range_with_len, get_or-range_with_len}
use Rattle.dcr_journal.specs.Run.{HasNoFault, calls_of, made_by}
use Rattle.dcr_journal.specs.declared.call.Call.{Call}
use Rattle.dcr_journal.specs.declared.call.Entry.{Entry}
use Rattle.dcr_tape.specs.declared.tape.Store.{Store}
use Rattle.dcr_turn.specs.Covers.{is_by}
use Rattle.dcr_turn.specs.PassValue.{PassValue, HasMadeAll}
use Rattle.dcr_cell.specs.ClusterId.{ClusterId}
use Rattle.dcr_cluster.specs.Calls.{Shows}
use Rattle.dcr_cluster.specs.declared.halt.Halt.{Halt}
use Rattle.dcr_cluster.specs.declared.halt.Halt.TheVariants.{Full, Stopped}
use Rattle.dcr_work.specs.Dealing.{session_of}
use Rattle.dcr_work.specs.Working.{AllWorked, HasWorkedOf}
use Rattle.dcr_engine.proofs.CountLemmas.{IsWithin, made_each, made_none, most}

-- entries of which none is the session's have no call of it
calls_none : (s : ℕ) (J : List Entry) → All (λ entry. is_by s entry ≡ false) J → calls_of s J ≡ []
calls_none s [] none = refl
calls_none s (entry ∷ J) none =
    let first : is_by s entry ≡ false = All-head (λ (x : Entry). is_by s x ≡ false) entry J none in
    ap (λ (b : Bool). map (λ (x : Entry). x.call) (cond b (entry ∷ filter (is_by s) J) (filter (is_by s) J))) first
    ∙ calls_none s J (All-tail (λ (x : Entry). is_by s x ≡ false) entry J none)

-- the session's calls are those that its pass has seen
calls_seen : (pass : PassValue) (J : List Entry) → HasMadeAll pass J → calls_of pass.session J ≡ calls_of pass.session pass.front
calls_seen pass J all =
    let s = pass.session in
    let rest = all.seen.rest in
    ap (calls_of s) (sym all.seen.whole)
    ∙ ap (map (λ (x : Entry). x.call)) (filter-append (is_by s) pass.front rest)
    ∙ map-append (λ (x : Entry). x.call) (filter (is_by s) pass.front) (filter (is_by s) rest)
    ∙ ap (λ (calls : List Call). calls_of s pass.front ++ calls) (calls_none s rest all.seen.spared)
    ∙ append-nil (calls_of s pass.front)

-- a history without a fault in which a call halted has as many entries as there may be
shows_all : {D : Type 0} (first : Option (Store D)) (capacity : ℕ) (front rest J : List Entry) (halt : Halt) → front ++ rest ≡ J → HasNoFault J → Shows first capacity front halt → capacity ≤ length J
shows_all first capacity front rest J (Full most_entries) whole sound shows =
    let long : length J ≡ length front + length rest = ap (λ (l : List Entry). length l) (sym whole) ∙ length-append front rest in
    let full = shows.1 in
    omega (arith, long, full)
shows_all first capacity front rest J (Stopped at) whole sound shows =
    let entry = shows.2.0 in
    let within : at < length front = slice_get_within front at entry shows.2.1 in
    let long : length J ≡ length front + length rest = ap (λ (l : List Entry). length l) (sym whole) ∙ length-append front rest in
    let here : get_or J at entry ≡ entry =
    ap (λ (l : List Entry). get_or l at entry) (sym whole) ∙ get_or_append_left front rest entry at within ∙ get_or_from_slice_get front at entry entry shows.2.1 in
    absurd (sound at entry (omega (arith, long, within)) (ap (λ (x : Entry). x.outcome) here ∙ shows.2.2))

-- what the history has of one session
record Of (sessions : List (List Call)) (capacity : ℕ) (J : List Entry) (k : ℕ) : Type 0 where
  within : made_by k J ≤ length (get_or sessions k [])
  in_order : calls_of k J ≡ take (made_by k J) (get_or sessions k [])
  many : HasNoFault J → made_by k J < length (get_or sessions k []) → capacity ≤ length J

of_pass : {D : Type 0} (c : ClusterId) (first : Option (Store D)) (capacity : ℕ) (sessions : List (List Call)) (pass : PassValue) (J : List Entry) → HasMadeAll pass J
    → HasWorkedOf c first capacity sessions pass → Of sessions capacity J pass.session
of_pass c first capacity sessions pass J all worked = record {
  within = (let same = all.made in let few = worked.within in omega (arith, same, few));
  in_order = calls_seen pass J all ∙ worked.in_order ∙ ap (λ (n : ℕ). take n (get_or sessions pass.session [])) all.made;
  many = λ sound fewer.
      let halted = worked.ended (let same = all.made in omega (arith, same, fewer)) in
      shows_all first capacity pass.front all.seen.rest J halted.0 all.seen.whole sound halted.1;
}

-- the pass of a session that is there
pub pass_of : (P : PassValue → Type 0) (passes : List PassValue) (n k : ℕ) → map session_of passes ≡ range_with_len 0 n → k < n → All P passes
    → (pass : PassValue) × (pass.session ≡ k) × P pass
pass_of P passes n k are within all =
    let none : PassValue = record { session = 0; front = []; made = 0 } in
    let many : length passes ≡ n = sym (length-map passes session_of) ∙ ap (λ (l : List ℕ). length l) are ∙ length-range_with_len 0 n in
    let place : k < length passes = omega (arith, many, within) in (
      get_or passes k none,
      sym (get_or-map session_of passes k none 0 place) ∙ ap (λ (l : List ℕ). get_or l k 0) are ∙ get_or-range_with_len 0 n k 0 within ∙ (let same : 0 + k ≡ k = omega arith in same),
      all k none place,
    )

module _ {D : Type 0} (c : ClusterId) (first : Option (Store D)) (capacity workers : ℕ) (sessions : List (List Call)) (passes : List PassValue) (J : List Entry)
    (worked : AllWorked c first capacity workers sessions passes) (made : All (λ pass. HasMadeAll pass J) passes) (below : All (λ (entry : Entry). entry.session < length sessions) J) where
  each : (k : ℕ) → k < length sessions → Of sessions capacity J k
  each k within =
      let pass = pass_of (λ pass. HasMadeAll pass J × HasWorkedOf c first capacity sessions pass) passes (length sessions) k worked.in_order within (λ i d place. (made i d place, worked.each i d place)) in
      subst (Of sessions capacity J) pass.1 (of_pass c first capacity sessions pass.0 J pass.2.0 pass.2.1)

  few : IsWithin sessions J
  few k within = (each k within).within

  pub no_more : length J ≤ sum_by (λ (calls : List Call). length calls) sessions
  no_more = most sessions J below few

  pub begins_each : (k : ℕ) → (count : ℕ) × (calls_of k J ≡ take count (slice_index_or sessions k []))
  begins_each k = elim (cases_lt k (length sessions)) [
    | inl within ↦ (made_by k J, (each k within).in_order)
    | inr past ↦ (0, made_none (length sessions) k J past below)
  ]

  pub has_each : capacity ≡ sum_by (λ (calls : List Call). length calls) sessions → HasNoFault J → (k : ℕ) → calls_of k J ≡ slice_index_or sessions k []
  has_each all sound k = elim (cases_lt k (length sessions)) [
    | inl within ↦
        (let count : made_by k J ≡ length (get_or sessions k []) =
        made_each sessions J below few k within (λ fewer. let enough = (each k within).many sound fewer in omega (arith, all, enough)) in
        (each k within).in_order ∙ take_all (made_by k J) (get_or sessions k []) (omega (arith, count)))
    | inr past ↦ made_none (length sessions) k J past below ∙ sym (get_or_past sessions k [] past)
  ]
