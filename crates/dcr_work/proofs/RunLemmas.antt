-- What all workers have done together.
use Rattle.std.proofs.Common.{inl, inr, ◌≡◌, ℕ, zero, suc, ◌+◌, ◌-◌, ◌%◌, ◌<◌, ◌≤◌, List, [], ◌∷◌, ◌++◌, length, get_or, map, refl, sym, ap, subst, ◌∙◌, arith}
use Rattle.std.specs.Prelude.{◌⊎◌, Option, filter, slice_index_or, vec_len}
use Rattle.std.specs.List.{All, AllPairs, Contains, range_with_len}
use Rattle.std.proofs.lemmas.Bool.{cases_eq, cases_lt}
use Rattle.std.proofs.lemmas.Nat.{mod_below}
use Rattle.std.proofs.lemmas.List.{get_or-map, length-map}
use Rattle.std.proofs.lemmas.List.Elements.{All-contains, All-nil, All-push, All-weaker}
use Rattle.std.proofs.lemmas.List.FromFn.{length-map-range_with_len}
use Rattle.std.proofs.lemmas.List.Kept.{AllPairs-filter}
use Rattle.std.proofs.lemmas.List.Quantifiers.{all_pairs_push}
use Rattle.dcr_journal.specs.declared.call.Call.{Call}
use Rattle.dcr_tape.specs.declared.tape.Store.{Store}
use Rattle.dcr_turn.specs.PassValue.{PassValue, new_passes}
use Rattle.dcr_cell.specs.ClusterId.{ClusterId}
use Rattle.dcr_work.specs.Dealing.{AreDealt, Hand, IsNew, down, is_of, session_of}
use Rattle.dcr_work.specs.Working.{AllHands, AllWorked, BeganWith, HasWorkedOf, HaveWorked}
use Rattle.dcr_work.proofs.DealingLemmas.{any_default}

pub count_of : (n : ℕ) (passes : Hand) → passes.items ≡ new_passes n → vec_len passes ≡ n
count_of n passes new =
    let ok : vec_len passes ≡ length passes.items = passes.ok.0 in
    ok ∙ ap (λ (l : List PassValue). length l) new ∙ length-map-range_with_len (λ (k : ℕ). record { session = k; front = []; made = 0 }) 0 n

pub new_by_count : (n : ℕ) (passes : Hand) → passes.items ≡ new_passes n → passes.items ≡ new_passes (vec_len passes)
new_by_count n passes new = new ∙ ap new_passes (sym (count_of n passes new))

-- ---- the numbers go down

from_below : (n i : ℕ) → i ≤ n → All (λ x. n - i ≤ x) (down n i)
from_below n zero some = All-nil (λ x. n - zero ≤ x)
from_below n (suc i) some =
    All-push (λ x. n - suc i ≤ x) (down n i) (n - suc i)
    (All-weaker (λ x. n - i ≤ x) (λ x. n - suc i ≤ x) (λ x more. omega arith) (down n i) (from_below n i (omega arith)))
    (omega arith)

goes_down : (n i : ℕ) → i ≤ n → AllPairs (λ x y. y < x) (down n i)
goes_down n zero some = λ a b d less within. absurd (omega arith)
goes_down n (suc i) some =
    all_pairs_push (λ x y. y < x) (down n i) (n - suc i) (goes_down n i (omega arith))
    (λ k d within. let far : n - i ≤ get_or (down n i) k d = from_below n i (omega arith) k d within in omega arith)

-- of two passes in a hand the one that stands first has the greater session
pub hand_goes_down : (W n w : ℕ) (hand : List PassValue) → map session_of hand ≡ filter (is_of W w) (down n n) → AllPairs (λ (x y : PassValue). y.session < x.session) hand
hand_goes_down W n w hand are a b d less within =
    let long : length (map session_of hand) ≡ length hand = length-map hand session_of in
    let pairs : AllPairs (λ (x y : ℕ). y < x) (map session_of hand) =
    subst (AllPairs (λ (x y : ℕ). y < x)) (sym are) (AllPairs-filter (λ (x y : ℕ). y < x) (is_of W w) (down n n) (goes_down n n (omega arith))) in
    let here : get_or (map session_of hand) b d.session < get_or (map session_of hand) a d.session = pairs a b d.session less (omega arith) in
    let first : get_or (map session_of hand) a d.session ≡ session_of (get_or hand a d) = get_or-map session_of hand a d d.session (omega arith) in
    let second : get_or (map session_of hand) b d.session ≡ session_of (get_or hand b d) = get_or-map session_of hand b d d.session within in
    subst (λ (s : ℕ). s < session_of (get_or hand a d)) second (subst (λ (s : ℕ). get_or (map session_of hand) b d.session < s) first here)

-- two passes of one hand, by their sessions
in_hand : (hand : List PassValue) (earlier later : PassValue) → AllPairs (λ (x y : PassValue). y.session < x.session) hand → AllPairs (λ (x y : PassValue). BeganWith y.front x) hand
    → Contains hand earlier → Contains hand later → earlier.session < later.session → BeganWith earlier.front later
in_hand hand earlier later sorted began (a, a_within, a_is) (b, b_within, b_is) less =
    let earlier_is : (d : PassValue) → get_or hand a d ≡ earlier = λ d. any_default hand a d earlier a_within ∙ a_is in
    let later_is : (d : PassValue) → get_or hand b d ≡ later = λ d. any_default hand b d later b_within ∙ b_is in
    elim (cases_eq a b) [
      | inl same ↦
          (let one : earlier ≡ later = sym a_is ∙ ap (λ (k : ℕ). get_or hand k earlier) same ∙ later_is earlier in
          let sessions : earlier.session ≡ later.session = ap session_of one in absurd (omega arith))
      | inr other ↦
          elim (cases_lt a b) [
            | inl below ↦
                (let down : (get_or hand b earlier).session < (get_or hand a earlier).session = sorted a b earlier below b_within in
                let first : (get_or hand a earlier).session ≡ earlier.session = ap session_of (earlier_is earlier) in
                let second : (get_or hand b earlier).session ≡ later.session = ap session_of (later_is earlier) in absurd (omega arith))
            | inr above ↦
                subst (λ (x : PassValue). BeganWith earlier.front x) (later_is earlier)
                (subst (λ (x : PassValue). BeganWith x.front (get_or hand b earlier)) (earlier_is earlier) (began b a earlier (omega arith) a_within))
          ]
    ]

module _ {D : Type 0} (c : ClusterId) (first : Option (Store D)) (capacity W n : ℕ) (sessions : List (List Call)) (before after : List Hand) (passes : List PassValue)
    (some : 0 < W) (as_many : length before ≡ W) (after_many : length after ≡ W) (count : n ≡ length sessions) (dealt : AreDealt W n n before) (worked : AllHands c first capacity sessions before after)
    (are : map session_of passes ≡ range_with_len 0 n) (from_hands : All (λ (pass : PassValue). (d : Hand) → Contains (slice_index_or after (pass.session % W) d).items pass) passes) where
  hand_worked : (w : ℕ) (d : Hand) → w < W → HaveWorked c first capacity sessions (slice_index_or before w d).items (slice_index_or after w d).items
  hand_worked w d within = worked w d (omega arith)

  hand_sorted : (w : ℕ) (d : Hand) → w < W → AllPairs (λ (x y : PassValue). y.session < x.session) (slice_index_or after w d).items
  hand_sorted w d within = hand_goes_down W n w (slice_index_or after w d).items ((hand_worked w d within).same_sessions ∙ dealt.sessions w d (omega arith))

  pub all_worked : Hand → AllWorked c first capacity W sessions passes
  all_worked d = record {
    in_order = are ∙ ap (range_with_len 0) count;
    each = λ k p within.
        let pass : PassValue = slice_index_or passes k p in
        let there : Contains (slice_index_or after (pass.session % W) d).items pass = from_hands k p within d in
        All-contains (HasWorkedOf c first capacity sessions) (slice_index_or after (pass.session % W) d).items pass (hand_worked (pass.session % W) d (mod_below pass.session W some)).each there;
    in_turn = λ earlier later earlier_in later_in less same.
        let place : ℕ = later.session % W in
        let within : place < W = mod_below later.session W some in
        let from : (pass : PassValue) → Contains passes pass → Contains (slice_index_or after (pass.session % W) d).items pass = λ pass in_passes.
        All-contains (λ (x : PassValue). (e : Hand) → Contains (slice_index_or after (x.session % W) e).items x) passes pass from_hands in_passes d in
        in_hand (slice_index_or after place d).items earlier later (hand_sorted place d within) (hand_worked place d within).in_turn
        (subst (λ (w : ℕ). Contains (slice_index_or after w d).items earlier) same (from earlier earlier_in)) (from later later_in) less;
  }
