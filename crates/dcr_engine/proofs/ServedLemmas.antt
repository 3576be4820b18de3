-- What the passes of a cluster say whose sessions were served, its history says.
use Rattle.std.proofs.Common.{inl, inr, ◌≡◌, ℕ, zero, suc, ◌+◌, ◌-◌, ◌<◌, ◌≤◌, Bool, eqb, cond, List, [], ◌∷◌, ◌++◌, length, get_or, map, drop, Option, Some, refl, sym, ap, subst, ◌∙◌, arith}
use Rattle.std.specs.Prelude.{slice_get, slice_index_or}
use Rattle.std.specs.List.{All, range_with_len}
use Rattle.std.proofs.lemmas.Bool.{cases_lt, eq-eqb}
use Rattle.std.proofs.lemmas.Option.{get_or_from_slice_get, slice_get_within}
use Rattle.std.proofs.lemmas.List.{get_or-append_right, get_or-drop, get_or-map, get_or_append_left, length-append, length-drop, length-map}
use Rattle.std.proofs.lemmas.List.FromFn.{get_or-range_with_len, length-map-range_with_len, length-range_with_len}
use Rattle.std.proofs.lemmas.List.Sums.{sum_by-cons}
use Rattle.dcr_base.specs.Disk.{DiskView}
use Rattle.dcr_base.specs.Link.{Links}
use Rattle.dcr_journal.specs.Run.{made_by}
use Rattle.dcr_journal.specs.declared.call.Entry.{Entry}
use Rattle.dcr_journal.specs.declared.closed.Closed.{Closed}
use Rattle.dcr_tape.specs.declared.tape.Store.{Store}
use Rattle.dcr_turn.specs.PassValue.{HasMadeAll, PassValue, new_passes}
use Rattle.dcr_turn.specs.TurnId.{TurnId}
use Rattle.dcr_cell.specs.ClusterId.{ClusterId, IsNamed, begun}
use Rattle.dcr_cluster.specs.Closing.{IsEnd}
use Rattle.dcr_link.specs.Replies.{Terms}
use Rattle.dcr_serve.specs.Left.{numbers_from}
use Rattle.dcr_serving.specs.History.{pass_in}
use Rattle.dcr_serving.specs.Serving.{AreServed, IsServedOf, new_pass}
use Rattle.dcr_serving.specs.declared.end.LinkEnd.{LinkEnd}
use Rattle.dcr_serving.proofs.HistoryLemmas.{session_in}
use Rattle.dcr_engine.specs.Served.{HasServed, most_served}
use Rattle.dcr_engine.proofs.AskedLemmas.{asked_of}
use Rattle.dcr_engine.proofs.RanLemmas.{whole_of}

-- what stands at a place of a list that was made of another
mapped_at : {X Y : Type 0} (f : X → Y) (xs : List X) (k : ℕ) (y : Y) → slice_get (map f xs) k ≡ Some y → (x : X) × (slice_get xs k ≡ Some x) × (f x ≡ y)
mapped_at f [] k y is = absurd (cc)
mapped_at f (x ∷ xs) zero y is = (x, refl, cc)
mapped_at f (x ∷ xs) (suc k) y is = mapped_at f xs k y is

numbered_at : {X : Type 0} (f : X → ℕ) (xs : List X) (k : ℕ) (x : X) → map f xs ≡ numbers_from 0 (length xs) → slice_get xs k ≡ Some x → f x ≡ k
numbered_at f xs k x are is =
    let within : k < length xs = slice_get_within xs k x is in
    let same : length xs - 0 ≡ length xs = omega arith in
    ap f (sym (get_or_from_slice_get xs k x x is)) ∙ sym (get_or-map f xs k x 0 within) ∙ ap (λ (l : List ℕ). get_or l k 0) are
    ∙ get_or-range_with_len 0 (length xs - 0) k 0 (subst (λ (n : ℕ). k < n) (sym same) within) ∙ (let none : 0 + k ≡ k = omega arith in none)

-- an entry of a session counts
some_made : (s : ℕ) (H : List Entry) (i : ℕ) (d : Entry) → i < length H → (get_or H i d).session ≡ s → 0 < made_by s H
some_made s [] i d within is = absurd (omega (arith, within))
some_made s (entry ∷ H) zero d within is =
    let made : made_by s (entry ∷ H) ≡ 1 + made_by s H =
    sum_by-cons (λ (x : Entry). cond (eqb x.session s) 1 0) entry H ∙ ap (λ (b : Bool). cond b 1 0 + made_by s H) (eq-eqb entry.session s is) in
    omega (arith, made)
some_made s (entry ∷ H) (suc i) d within is =
    let made : made_by s (entry ∷ H) ≡ cond (eqb entry.session s) 1 0 + made_by s H = sum_by-cons (λ (x : Entry). cond (eqb x.session s) 1 0) entry H in
    let more = some_made s H i d (omega (arith, within)) is in
    omega (arith, made, more)

module _ {D L R : Type 0} (view : D → DiskView) (faults : D → ℕ) (tells : Links L R) (c : ClusterId) (turn : TurnId) (first : Option (Store D)) (begun_with : Store D) (capacity : ℕ) (terms : Terms)
    (links : Option (List L)) (passes : List PassValue) (ends : List (LinkEnd L R)) (closed : Closed) (store : Store D) where
  abbrev pub Pair : Type 0
  Pair = PassValue × LinkEnd L R

  abbrev pub H : List Entry
  H = closed.history.entries

  -- the pass of a session that was served has made all that the history has of it
  made_of : All (λ pass. HasMadeAll pass H) passes → (served : List Pair) (rest : List PassValue) → passes ≡ map (λ (one : Pair). one.0) served ++ rest → (k : ℕ) (one : Pair) → slice_get served k ≡ Some one → HasMadeAll one.0 H
  made_of made pairs rest are k one is =
      let within : k < length pairs = slice_get_within pairs k one is in
      let mapped : k < length (map (λ (o : Pair). o.0) pairs) = subst (λ (n : ℕ). k < n) (sym (length-map pairs (λ (o : Pair). o.0))) within in
      let long : length passes ≡ length (map (λ (o : Pair). o.0) pairs) + length rest = ap (λ (l : List PassValue). length l) are ∙ length-append (map (λ (o : Pair). o.0) pairs) rest in
      let here : get_or passes k one.0 ≡ one.0 =
      ap (λ (l : List PassValue). get_or l k one.0) are ∙ get_or_append_left (map (λ (o : Pair). o.0) pairs) rest one.0 k mapped
      ∙ get_or-map (λ (o : Pair). o.0) pairs k one one.0 within ∙ ap (λ (o : Pair). o.0) (get_or_from_slice_get pairs k one one is) in
      subst (λ (pass : PassValue). HasMadeAll pass H) here (made k one.0 (omega (arith, long, mapped)))

  -- a session without a link has no entry
  none_of : (served : List Pair) → length served ≤ turn.sessions → passes ≡ map (λ (one : Pair). one.0) served ++ drop (length served) (new_passes turn.sessions) → All (λ pass. HasMadeAll pass H) passes
      → (s : ℕ) → length served ≤ s → s < turn.sessions → made_by s H ≡ 0
  none_of served within are made s past below =
      let first_ones = map (λ (one : Pair). one.0) served in
      let many : length first_ones ≡ length served = length-map served (λ (one : Pair). one.0) in
      let new : ℕ → PassValue = new_pass in
      let numbers : List ℕ = range_with_len 0 turn.sessions in
      let all_new : length (new_passes turn.sessions) ≡ turn.sessions = length-map-range_with_len new 0 turn.sessions in
      let here : get_or passes s (new s) ≡ new s =
      ap (λ (l : List PassValue). get_or l s (new s)) are
      ∙ get_or-append_right first_ones (drop (length served) (new_passes turn.sessions)) (length served) s (new s) many past
      ∙ get_or-drop (length served) (new_passes turn.sessions) (s - length served) (new s)
      ∙ ap (λ (i : ℕ). get_or (new_passes turn.sessions) i (new s)) (let same : length served + (s - length served) ≡ s = omega (arith, past) in same)
      ∙ get_or-map new numbers s s (new s) (subst (λ (n : ℕ). s < n) (sym (length-range_with_len 0 turn.sessions)) below)
      ∙ ap new (get_or-range_with_len 0 turn.sessions s s below ∙ (let same : 0 + s ≡ s = omega arith in same)) in
      let long : length passes ≡ length served + (turn.sessions - length served) =
      ap (λ (l : List PassValue). length l) are ∙ length-append first_ones (drop (length served) (new_passes turn.sessions)) ∙ ap (λ (n : ℕ). n + length (drop (length served) (new_passes turn.sessions))) many
      ∙ ap (λ (n : ℕ). length served + n) (length-drop (length served) (new_passes turn.sessions) ∙ ap (λ (n : ℕ). n - length served) all_new) in
      let inside : s < length passes = omega (arith, long, within, below) in
      let all : HasMadeAll (new s) H = subst (λ (pass : PassValue). HasMadeAll pass H) here (made s (new s) inside) in
      sym all.made

  pub served : IsNamed c turn → first ≡ Some begun_with → capacity ≡ most_served → length H ≤ 200000 → AreServed tells first capacity terms links turn.sessions passes ends
      → IsEnd view faults c turn first capacity passes closed store → HasServed view faults tells c begun_with terms links turn.sessions ends closed store
  served named is most few were end = record {
    whole = whole_of view faults c turn first begun_with capacity passes closed store named is end few;
    sessions_served = record {
      most = subst (λ (n : ℕ). n ≤ turn.sessions) (sym ends_many) were.within;
      each = in_history;
      calls = λ k link_end there. asked_of tells (Some begun_with) most_served terms H k links link_end (in_history k link_end there);
      no_other = λ i d within.
          let below = end.sessions i d within in
          elim (cases_lt (slice_index_or H i d).session (length were.served)) [
            | inl fewer ↦ subst (λ (n : ℕ). (slice_index_or H i d).session < n) (sym ends_many) fewer
            | inr past ↦ absurd (let some = some_made (slice_index_or H i d).session H i d within refl in let none = none_of were.served were.within were.passes end.made (slice_index_or H i d).session past below in omega (arith, some, none))
          ];
    };
  }
    where
      ends_many : length ends ≡ length were.served
      ends_many = ap (λ (l : List (LinkEnd L R)). length l) were.ends ∙ length-map were.served (λ (one : Pair). one.1)

      in_history : (k : ℕ) (link_end : LinkEnd L R) → slice_get ends k ≡ Some link_end → IsServedOf tells (Some begun_with) most_served terms links (pass_in H k) link_end
      in_history k link_end there =
          let found = mapped_at (λ (one : Pair). one.1) were.served k link_end (subst (λ (l : List (LinkEnd L R)). slice_get l k ≡ Some link_end) were.ends there) in
          let one : Pair = found.0 in
          let number : one.0.session ≡ k = numbered_at (λ (o : Pair). o.0.session) were.served k one were.in_order found.1 in
          let made : HasMadeAll one.0 H = made_of end.made were.served (drop (length were.served) (new_passes turn.sessions)) were.passes k one found.1 in
          let over : IsServedOf tells first capacity terms links one.0 one.1 =
          subst (λ (o : Pair). IsServedOf tells first capacity terms links o.0 o.1) (get_or_from_slice_get were.served k one one found.1) (were.each k one (slice_get_within were.served k one found.1)) in
          let inside : IsServedOf tells first capacity terms links (pass_in H one.0.session) one.1 =
          session_in tells c.rules c.owned (begun c) first capacity terms links one.0 one.1 H made end.legal (subst (λ (n : ℕ). length H ≤ n) (sym most) few) over in
          subst (λ (f : Option (Store D)). IsServedOf tells f most_served terms links (pass_in H k) link_end) is
          (subst (λ (n : ℕ). IsServedOf tells first n terms links (pass_in H k) link_end) most
          (subst (λ (s : ℕ). IsServedOf tells first capacity terms links (pass_in H s) link_end) number
          (subst (λ (e : LinkEnd L R). IsServedOf tells first capacity terms links (pass_in H one.0.session) e) found.2 inside)))
