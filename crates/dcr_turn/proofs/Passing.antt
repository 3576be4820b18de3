-- What a pass has seen and made, when it sees more.
use Rattle.std.proofs.Common.{◌≡◌, ℕ, ◌+◌, ◌<◌, ◌≤◌, Bool, true, false, List, [], ◌∷◌, ◌++◌, length, refl, ap, ◌∙◌, arith, max, cond}
use Rattle.std.specs.Prelude.{nat_lt, slice_index_or, ◌==◌}
use Rattle.std.proofs.lemmas.Bool.Decides.{nat_tests}
use Rattle.std.proofs.lemmas.List.Sums.{sum_by-append}
use Rattle.std.proofs.lemmas.List.Elements.{All-head, All-tail}
use Rattle.dcr_set.specs.EventSet.{Set}
use Rattle.dcr_journal.specs.Run.{made_by}
use Rattle.dcr_journal.specs.declared.call.Entry.{Entry}
use Rattle.dcr_turn.specs.declared.record.Holder.TheVariants.{Session}
use Rattle.dcr_turn.specs.declared.record.Record.{Record}
use Rattle.dcr_turn.specs.Covers.{Covers, is_by}
use Rattle.dcr_turn.specs.PassValue.{HasMadeAll}
use Rattle.dcr_turn.specs.Records.{knowing, first_seen, once}
use Rattle.dcr_turn.specs.Rule.{IsRight}
use Rattle.dcr_turn.specs.Steps.{Stand, longer}
use Rattle.dcr_turn.proofs.Covering.{covers_itself, covers_longer, covers_count}

-- the one view in a place
pub one_view : (v w : List Record) → v ∷ [] ≡ w ∷ [] → v ≡ w
one_view v w is = ap (λ (vs : List (List Record)). slice_index_or vs 0 []) is

-- the list that it has
pub seen_is : (views : List (List Record)) (v : List Record) (r : Record) → views ≡ v ∷ [] → v ≡ r ∷ [] → first_seen (slice_index_or views 0 []) ≡ r.seen
seen_is views v r is one = ap (λ (vs : List (List Record)). first_seen (slice_index_or vs 0 [])) is ∙ ap first_seen one

pub made_all : (k n : ℕ) (front J : List Entry) → n ≡ made_by k front → Covers (is_by k) front J → HasMadeAll record { session = k; front = front; made = n } J
made_all k n front J is c = record { seen = c; made = is ∙ covers_count (is_by k) front J c }

-- one call more
pub made_one_more : (k n : ℕ) (J : List Entry) (entry : Entry) → entry.session ≡ k → n ≡ made_by k J → n + 1 ≡ made_by k (J ++ entry ∷ [])
made_one_more k n J entry is made =
    let a = sum_by-append (λ (e : Entry). cond {A = ℕ} (e.session == k) 1 0) J (entry ∷ []) in
    let b : cond {A = ℕ} (entry.session == k) 1 0 ≡ 1 = grind (arith, nat_tests) in omega arith

module _ (A : List Set) (m k l : ℕ) (front other : List Entry) where
  abbrev pub two : List Record
  two = knowing front (Session k) ∷ knowing other (Session l) ∷ []

  -- the sessions of two passes in hand differ
  pub differ : (J : List Entry) → Stand A m two J → ¬ (k ≡ l)
  differ J stand same =
      let a = stand.once (Session k) in
      let b : once (k == k) ≡ 1 = grind (arith, nat_tests) in
      let c : once (k == l) ≡ 1 = grind (arith, nat_tests) in omega arith

  module _ (J : List Entry) (stand : Stand A m two J) where
    mine : Covers (is_by k) front J
    mine = All-head (IsRight A J) (knowing front (Session k)) (knowing other (Session l) ∷ []) stand.right

    theirs : Covers (is_by l) other J
    theirs = All-head (IsRight A J) (knowing other (Session l)) [] (All-tail (IsRight A J) (knowing front (Session k)) (knowing other (Session l) ∷ []) stand.right)

    learned_at : (b : Bool) → nat_lt (length front) (length other) ≡ b → Covers (is_by k) front (longer front other) × Covers (is_by l) other (longer front other)
    learned_at true h =
        let lt : length front < length other = grind (arith, nat_tests) in
        let both : Covers (is_by k) front other × Covers (is_by l) other other =
        (covers_longer (is_by k) front other J mine theirs.rest theirs.whole (omega arith), covers_itself (is_by l) other) in rw h both
    learned_at false h =
        let le : length other ≤ length front = grind (arith, nat_tests) in
        let both : Covers (is_by k) front front × Covers (is_by l) other front =
        (covers_itself (is_by k) front, covers_longer (is_by l) other front J theirs mine.rest mine.whole le) in rw h both

    -- the longer of both begins with either, and has no further entry of either session
    pub learned : Covers (is_by k) front (longer front other) × Covers (is_by l) other (longer front other)
    learned = learned_at (nat_lt (length front) (length other)) refl

longer_length_at : (front other : List Entry) (b : Bool) → nat_lt (length front) (length other) ≡ b → max (length front) (length other) ≡ length (longer front other)
longer_length_at front other true h = let lt : length front < length other = grind (arith, nat_tests) in rw h (omega arith)
longer_length_at front other false h = let le : length other ≤ length front = grind (arith, nat_tests) in rw h (omega arith)

pub longer_length : (front other : List Entry) → max (length front) (length other) ≡ length (longer front other)
longer_length front other = longer_length_at front other (nat_lt (length front) (length other)) refl
