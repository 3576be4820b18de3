-- What is taken out of the first places of a desk, and how its sessions and its door stand then.
use Rattle.std.proofs.Common.{◌≡◌, ◌≢◌, ℕ, ◌+◌, ◌-◌, ◌≤◌, List, [], ◌++◌, length, map, take, sym, ap, subst, ◌∙◌, arith, inr}
use Rattle.std.specs.Prelude.{Bool, IsSome, IsTrue, None, Option, Some, false, slice_get}
use Rattle.std.specs.List.{All, Any}
use Rattle.std.proofs.lemmas.List.{length-map}
use Rattle.std.proofs.lemmas.List.FromFn.{length-range_with_len}
use Rattle.dcr_base.specs.Door.{Doors}
use Rattle.dcr_base.specs.Link.{Links}
use Rattle.dcr_tape.specs.declared.tape.Store.{Store}
use Rattle.dcr_turn.specs.PassValue.{PassValue, new_passes}
use Rattle.dcr_link.specs.Replies.{Terms}
use Rattle.dcr_serve.specs.Left.{AreAllButFirst, numbers_from}
use Rattle.dcr_serve.specs.declared.stand.DoorStand.{DoorStand}
use Rattle.dcr_serve.specs.declared.stand.DoorStand.TheVariants.{Failed, Open}
use Rattle.dcr_link.specs.declared.end.WorkCause.TheVariants.{NoMemory}
use Rattle.dcr_serving.specs.Placing.{AreInPlace, filled}
use Rattle.dcr_serving.specs.Serving.{AreServed, CountsDoor, DoorEnds, IsServedOf, Stands}
use Rattle.dcr_serving.specs.declared.end.LinkEnd.{LinkEnd}
use Rattle.dcr_serving.specs.declared.record.Record.{Record}
use Rattle.dcr_serving.proofs.DeskLemmas.{in_order, settled}
use Rattle.dcr_serving.proofs.ServingLemmas.{Way, counts_so, length-new, served_first, stands_so}

pub as_many_new : (count len n : ℕ) (passes : List PassValue) → count ≡ len → len ≡ length passes → passes ≡ new_passes n → count ≡ n
as_many_new count len n passes is len_is new = is ∙ len_is ∙ ap (λ (l : List PassValue). length l) new ∙ length-new n

left_many : (left : List PassValue) (t n : ℕ) → map (λ (seat : PassValue). seat.session) left ≡ numbers_from t n → length left ≡ n - t
left_many left t n are = sym (length-map left (λ (seat : PassValue). seat.session)) ∙ ap (λ (l : List ℕ). length l) are ∙ length-range_with_len t (n - t)

-- as many as have no seat left
count_is : (sessions len left t m n : ℕ) → sessions ≡ n → m ≡ n → len ≡ left → left ≡ m - t → t ≤ m → (sessions - len ≡ t) × (len ≤ sessions) × (t + left ≡ n)
count_is sessions len left t m n all same len_is left_is within =
    (omega (arith, all, same, len_is, left_is, within), omega (arith, all, same, len_is, left_is, within), omega (arith, all, same, len_is, left_is, within))

taken_out : {L N R Y : Type 0} (f : Record L N R → Y) (slots : List (Option (Record L N R))) (before after : List Y) (count : ℕ) → before ≡ [] → count ≡ length (filled slots)
    → filled (take (length (filled slots)) slots) ≡ filled slots → after ≡ before ++ map f (filled (take count slots)) → after ≡ map f (filled slots)
taken_out {Y = Y} f slots before after count none count_is same is =
    is ∙ ap (λ (l : List Y). l ++ map f (filled (take count slots))) none ∙ ap (λ (n : ℕ). map f (filled (take n slots))) count_is ∙ ap (map f) same

module _ {L N R : Type 0} (slots : List (Option (Record L N R))) where
  -- of n sessions those that have no seat left, with so many seats, have the first places
  pub record AreFirst (left : List PassValue) (sessions seats n : ℕ) : Type 0 where
    pub count : sessions - seats ≡ length (filled slots)
    pub fits : seats ≤ sessions
    pub total : length (filled slots) + length left ≡ n
    pub full : All IsSome (take (sessions - seats) slots)
    pub same : filled (take (length (filled slots)) slots) ≡ filled slots
    pub numbers : map (λ (one : Record L N R). one.pass.session) (filled slots) ≡ numbers_from 0 (length (filled slots))

  pub are_first : (left : List PassValue) (sessions seats m n : ℕ) → sessions ≡ n → m ≡ n → seats ≡ length left → length slots ≡ m → length (filled slots) ≤ m
      → map (λ (seat : PassValue). seat.session) left ≡ numbers_from (length (filled slots)) m → All (λ (seat : PassValue). slice_get slots seat.session ≡ Some None) left → AreInPlace slots
      → AreFirst left sessions seats n
  are_first left sessions seats m n all same many as_many within are free in_place =
      let full = settled slots left m as_many within are free in
      let counts = count_is sessions seats (length left) (length (filled slots)) m n all same many (left_many left (length (filled slots)) m are) within in
      record {
        count = counts.0;
        fits = counts.1;
        total = counts.2;
        full = subst (λ (k : ℕ). All IsSome (take k slots)) (sym counts.0) full.0;
        same = full.1;
        numbers = in_order slots (length (filled slots)) (omega (arith, as_many, within)) in_place full.0 full.1;
      }

  -- the passes and the ends of what stands there
  pub record AreTaken (passes : List PassValue) (ends : List (LinkEnd L R)) : Type 0 where
    pub passes_are : passes ≡ map (λ (one : Record L N R). one.pass) (filled slots)
    pub ends_are : ends ≡ map (λ (one : Record L N R). one.end) (filled slots)
    pub passes_many : length passes ≡ length (filled slots)
    pub ends_many : length ends ≡ length (filled slots)

  pub are_taken : (left : List PassValue) (sessions seats n : ℕ) (passes_before passes : List PassValue) (ends_before ends : List (LinkEnd L R)) → AreFirst left sessions seats n
      → passes_before ≡ [] → ends_before ≡ [] → passes ≡ passes_before ++ map (λ (one : Record L N R). one.pass) (filled (take (sessions - seats) slots))
      → ends ≡ ends_before ++ map (λ (one : Record L N R). one.end) (filled (take (sessions - seats) slots)) → AreTaken passes ends
  are_taken left sessions seats n passes_before passes ends_before ends first no_passes no_ends passes_are ends_are =
      let all_passes = taken_out (λ (one : Record L N R). one.pass) slots passes_before passes (sessions - seats) no_passes first.count first.same passes_are in
      let all_ends = taken_out (λ (one : Record L N R). one.end) slots ends_before ends (sessions - seats) no_ends first.count first.same ends_are in
      record {
        passes_are = all_passes;
        ends_are = all_ends;
        passes_many = ap (λ (l : List PassValue). length l) all_passes ∙ length-map (filled slots) (λ (one : Record L N R). one.pass);
        ends_many = ap (λ (l : List (LinkEnd L R)). length l) all_ends ∙ length-map (filled slots) (λ (one : Record L N R). one.end);
      }

  pub left_numbers : (left : List PassValue) (passes t m n : ℕ) → passes ≡ t → t + length left ≡ n → m ≡ n → map (λ (seat : PassValue). seat.session) left ≡ numbers_from t m
      → map (λ (seat : PassValue). seat.session) left ≡ numbers_from passes (passes + length left)
  left_numbers left passes t m n many total same are =
      are ∙ ap (λ (k : ℕ). numbers_from k m) (sym many) ∙ ap (numbers_from passes) (let all : m ≡ passes + length left = omega (arith, many, total, same) in all)

  -- those that were served at the desk are the first ones of all
  pub way_after : {D B : Type 0} (tells : Links L R) (first : Option (Store D)) (capacity : ℕ) (terms : Terms) (doors : Doors B L R)
      (links : Option (List L)) (count : ℕ) (left : List PassValue) (sessions seats n : ℕ) (passes : List PassValue) (ends : List (LinkEnd L R)) (stand : DoorStand) (door : B)
      → AreFirst left sessions seats n → AreTaken passes ends → All (λ (one : Record L N R). IsServedOf tells first capacity terms links one.pass one.end) (filled slots)
      → Stands doors links count (length (filled slots)) stand door → Way tells first capacity terms doors links count passes ends stand door
  way_after tells first capacity terms doors links count left sessions seats n passes ends stand door are taken each stands = record {
    served =
        subst (λ (k : ℕ). AreServed tells first capacity terms links k passes ends) (sym taken.passes_many)
        (subst (λ (l : List PassValue). AreServed tells first capacity terms links (length (filled slots)) l ends) (sym taken.passes_are)
        (subst (λ (l : List (LinkEnd L R)). AreServed tells first capacity terms links (length (filled slots)) (map (λ (one : Record L N R). one.pass) (filled slots)) l) (sym taken.ends_are)
        (served_first tells first capacity terms links (filled slots) are.numbers each)));
    stands = subst (λ (k : ℕ). Stands doors links count k stand door) (sym taken.ends_many) stands;
    still_open = λ is. taken.ends_many ∙ sym taken.passes_many;
  }

pub room_for : (passes t left n sessions room capacity : ℕ) → passes ≡ t → t + left ≡ n → sessions ≡ n → sessions ≤ room → capacity ≡ room → passes + left ≤ capacity
room_for passes t left n sessions room capacity many total all enough same = omega (arith, many, total, all, enough, same)

pub door_ends : {B L R : Type 0} (doors : Doors B L R) (before after : B) (links : Option (List L)) (count sessions : ℕ) (ends : List (LinkEnd L R))
    (stand : DoorStand) (door_failed no_memory : Bool) → doors.links before ≡ links → doors.faults before ≡ count → Stands doors links count (length ends) stand after
    → (stand ≡ Open → length ends ≡ sessions) → (IsTrue door_failed → stand ≡ Failed) → (door_failed ≡ false → stand ≢ Failed)
    → (IsTrue no_memory → Any (λ (end : LinkEnd L R). end.end.cause ≡ NoMemory) ends) → (no_memory ≡ false → All (λ (end : LinkEnd L R). end.end.cause ≢ NoMemory) ends)
    → DoorEnds doors before after sessions ends door_failed no_memory
door_ends doors before after links count sessions ends stand door_failed no_memory links_are count_is stands all failed not_failed wanted had = record {
  left = subst (λ (l : Option (List _)). AreAllButFirst l (length ends) (doors.links after)) (sym links_are) stands.left;
  all = λ fine enough. stands_so doors count stand after stands.stands (not_failed fine) all;
  counts = subst (λ (k : ℕ). CountsDoor door_failed k (doors.faults after)) (sym count_is) (counts_so doors count stand after door_failed stands.stands failed not_failed);
  wanted = λ is. inr (wanted is);
  had = had;
}
