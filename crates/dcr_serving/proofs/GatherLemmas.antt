-- What the workers have served is put in its places.
use Rattle.std.proofs.Common.{◌≡◌, ◌⊎◌, ℕ, ◌+◌, ◌≤◌, List, [], ◌∷◌, ◌++◌, length, Option, None, Some, refl, sym, ap, subst, ◌∙◌, append_assoc, arith, inl, inr}
use Rattle.std.specs.Prelude.{slice_get, slice_index_or, slice_set}
use Rattle.std.specs.List.{All, Contains}
use Rattle.std.proofs.lemmas.List.{append-nil, get_or_append_left, length-append, length-set}
use Rattle.std.proofs.lemmas.List.Elements.{All-contains, All-contains_itself, Contains-append_left, Contains-push}
use Rattle.dcr_serving.specs.Placing.{AreInPlace, filled}
use Rattle.dcr_serving.specs.declared.record.Record.{Record}
use Rattle.dcr_serving.specs.declared.work.Hand.{Hand}
use Rattle.dcr_serving.proofs.PlacingLemmas.{all_of_more, filled_put, placed_put}

-- the last one of those that are left of a whole
pub record IsLastOf {X : Type 0} (whole rest : List X) (x : X) : Type 0 where
  pub gone : List X
  pub parts : whole ≡ rest ++ x ∷ gone
  pub there : Contains whole x

pub last_of : {X : Type 0} (whole before rest gone : List X) (x : X) → whole ≡ before ++ gone → before ≡ rest ++ x ∷ [] → IsLastOf whole rest x
last_of {X = X} whole before rest gone x left is =
    let parts : whole ≡ rest ++ x ∷ gone = left ∙ ap (λ (l : List X). l ++ gone) is ∙ append_assoc rest (x ∷ []) gone in
    record {
      gone = gone;
      parts = parts;
      there = subst (λ (l : List X). Contains l x) (sym (left ∙ ap (λ (l : List X). l ++ gone) is)) (Contains-append_left (rest ++ x ∷ []) gone x (Contains-push rest x));
    }

-- all of a whole are all of those before the last one, and that one
pub all_of_rest : {X : Type 0} (P : X → Type 0) (whole rest : List X) (x : X) → All P whole → whole ≡ rest ++ x ∷ [] → All P rest × P x
all_of_rest {X = X} P whole rest x all is =
    let last = last_of whole whole rest [] x (sym (append-nil whole)) is in (
      (λ k d within.
          subst P (ap (λ (l : List X). slice_index_or l k d) is ∙ get_or_append_left rest (x ∷ []) d k within)
          (all k d (let more : length whole ≡ length rest + 1 = ap (λ (l : List X). length l) is ∙ length-append rest (x ∷ []) in omega (arith, within, more)))),
      All-contains P whole x all last.there,
    )

pub one_more : (many rest more all hands : ℕ) → hands + many ≡ all → many ≡ rest + 1 → more ≡ hands + 1 → more + rest ≡ all
one_more many rest more all hands before shorter longer = omega (arith, before, shorter, longer)

pub part_given : (parts_after parts many rest : ℕ) → parts_after + 1 ≡ parts → parts ≡ many + 1 → many ≡ rest + 1 → parts_after ≡ rest + 1
part_given parts_after parts many rest given before shorter = omega (arith, given, before, shorter)

pub room_more : (many rest more room room_after hands : ℕ) → hands + many ≤ room → many ≡ rest + 1 → more ≡ hands + 1 → room_after ≡ room → more + rest ≤ room_after
room_more many rest more room room_after hands before shorter longer same = omega (arith, before, shorter, longer, same)

module _ {X : Type 0} (number : X → ℕ) where
  pub record Placing (slots_before slots : List (Option X)) (whole rest : List X) : Type 0 where
    pub count : length (filled slots) + length rest ≡ length (filled slots_before) + length whole
    pub as_many : length slots ≡ length slots_before
    pub in_place : (i : ℕ) (x : X) → slice_get slots i ≡ Some (Some x) → number x ≡ i
    pub from : All (λ (x : X). Contains (filled slots_before) x ⊎ Contains whole x) (filled slots)
    pub gone : List X
    pub left : whole ≡ rest ++ gone

  pub placing_first : (slots : List (Option X)) (whole : List X) → ((i : ℕ) (x : X) → slice_get slots i ≡ Some (Some x) → number x ≡ i) → Placing slots slots whole whole
  placing_first slots whole in_place = record {
    count = refl;
    as_many = refl;
    in_place = in_place;
    from = λ k d within. inl (All-contains_itself (filled slots) k d within);
    gone = [];
    left = sym (append-nil whole);
  }

  pub last_placed : (slots_before slots : List (Option X)) (whole before rest : List X) (x : X) → Placing slots_before slots whole before → before ≡ rest ++ x ∷ [] → IsLastOf whole rest x
  last_placed slots_before slots whole before rest x placing is = last_of whole before rest placing.gone x placing.left is

  pub placing_next : (slots_before slots after : List (Option X)) (whole before rest : List X) (x : X) → Placing slots_before slots whole before → before ≡ rest ++ x ∷ []
      → slice_get slots (number x) ≡ Some None → after ≡ slice_set slots (number x) (Some x) → Placing slots_before after whole rest
  placing_next slots_before slots after whole before rest x placing is free put =
      let last = last_of whole before rest placing.gone x placing.left is in
      let more = filled_put slots (number x) x free in
      let filled_are : filled after ≡ more.0 ++ x ∷ more.1 = ap filled put ∙ more.3 in
      let longer : length (filled after) ≡ length (filled slots) + 1 =
      ap (λ (l : List X). length l) filled_are ∙ length-append more.0 (x ∷ more.1) ∙ (let short : length (filled slots) ≡ length more.0 + length more.1 = ap (λ (l : List X). length l) more.2 ∙ length-append more.0 more.1 in omega (arith, short)) in
      let shorter : length before ≡ length rest + 1 = ap (λ (l : List X). length l) is ∙ length-append rest (x ∷ []) in
      record {
        count = (let count = placing.count in omega (arith, longer, shorter, count));
        as_many = ap (λ (l : List (Option X)). length l) put ∙ length-set slots (number x) (Some x) ∙ placing.as_many;
        in_place = subst (λ (l : List (Option X)). (i : ℕ) (y : X) → slice_get l i ≡ Some (Some y) → number y ≡ i) (sym put) (placed_put number slots (number x) x refl placing.in_place);
        from =
            subst (All (λ (y : X). Contains (filled slots_before) y ⊎ Contains whole y)) (sym filled_are)
            (all_of_more (λ (y : X). Contains (filled slots_before) y ⊎ Contains whole y) more.0 more.1 x
            (subst (All (λ (y : X). Contains (filled slots_before) y ⊎ Contains whole y)) more.2 placing.from) (inr last.there));
        gone = x ∷ last.gone;
        left = last.parts;
      }

-- ---- the workers' shares, and what they have served

module _ {L N M R : Type 0} where
  -- what a hand has served is among what was there, or is a hand's
  abbrev pub IsFrom : List (Option (Record L N R)) → List (Hand L N M R) → Record L N R → Type 0
  IsFrom slots_before whole one = Contains (filled slots_before) one ⊎ ((hand : Hand L N M R) × Contains whole hand × Contains hand.records.items one)

  pub record Gathering (parts_before taken_before parts taken : ℕ) (slots_before slots : List (Option (Record L N R))) (whole rest : List (Hand L N M R)) : Type 0 where
    pub parts_are : parts + length rest ≡ parts_before + length whole
    pub count : taken + length (filled slots_before) ≡ taken_before + length (filled slots)
    pub as_many : length slots ≡ length slots_before
    pub in_place : AreInPlace slots
    pub from : All (IsFrom slots_before whole) (filled slots)
    pub gone : List (Hand L N M R)
    pub left : whole ≡ rest ++ gone

  pub gathering_first : (parts taken : ℕ) (slots : List (Option (Record L N R))) (whole : List (Hand L N M R)) → AreInPlace slots → Gathering parts taken parts taken slots slots whole whole
  gathering_first parts taken slots whole in_place = record {
    parts_are = refl;
    count = refl;
    as_many = refl;
    in_place = in_place;
    from = λ k d within. inl (All-contains_itself (filled slots) k d within);
    gone = [];
    left = sym (append-nil whole);
  }

  pub last_gathered : (parts_before taken_before parts taken : ℕ) (slots_before slots : List (Option (Record L N R))) (whole before rest : List (Hand L N M R)) (hand : Hand L N M R)
      → Gathering parts_before taken_before parts taken slots_before slots whole before → before ≡ rest ++ hand ∷ [] → IsLastOf whole rest hand
  last_gathered parts_before taken_before parts taken slots_before slots whole before rest hand gathering is = last_of whole before rest gathering.gone hand gathering.left is

  pub gathering_next : (parts_before taken_before parts taken parts_after taken_after : ℕ) (slots_before slots after : List (Option (Record L N R))) (whole before rest : List (Hand L N M R)) (hand : Hand L N M R)
      → Gathering parts_before taken_before parts taken slots_before slots whole before → before ≡ rest ++ hand ∷ []
      → hand.share.parts ≡ 1 → length hand.records.items ≡ hand.share.taken → parts_after ≡ parts + hand.share.parts → taken_after ≡ taken + hand.share.taken
      → length (filled after) ≡ length (filled slots) + length hand.records.items → length after ≡ length slots → AreInPlace after
      → All (λ one. Contains (filled slots) one ⊎ Contains hand.records.items one) (filled after)
      → Gathering parts_before taken_before parts_after taken_after slots_before after whole rest
  gathering_next parts_before taken_before parts taken parts_after taken_after slots_before slots after whole before rest hand gathering is one_part count parts_are taken_are filled_are as_many in_place from =
      let last = last_of whole before rest gathering.gone hand gathering.left is in
      let shorter : length before ≡ length rest + 1 = ap (λ (l : List (Hand L N M R)). length l) is ∙ length-append rest (hand ∷ []) in
      record {
        parts_are = (let before_are = gathering.parts_are in omega (arith, shorter, before_are, one_part, parts_are));
        count = (let before_are = gathering.count in omega (arith, before_are, count, taken_are, filled_are));
        as_many = as_many ∙ gathering.as_many;
        in_place = in_place;
        from = λ k d within. elim (from k d within) [
          | inl old ↦ All-contains (IsFrom slots_before whole) (filled slots) (slice_index_or (filled after) k d) gathering.from old
          | inr new ↦ inr (hand, last.there, new)
        ];
        gone = hand ∷ last.gone;
        left = last.parts;
      }
