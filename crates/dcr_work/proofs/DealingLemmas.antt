-- One pass dealt out more, and one taken back more.
use Rattle.std.proofs.Common.{inl, inr, ◌≡◌, ◌≢◌, ℕ, zero, suc, ◌+◌, ◌-◌, ◌%◌, ◌<◌, ◌≤◌, Bool, true, false, eqb, cond, List, [], ◌∷◌, ◌++◌, length, get_or, map, take, drop, Some, refl, sym, ap, subst, ◌∙◌, arith}
use Rattle.std.specs.Prelude.{◌⊎◌, filter, set, slice_index_or, vec_len, vec_capacity}
use Rattle.std.specs.List.{All, Contains, range_with_len}
use Rattle.std.proofs.lemmas.Bool.{ne_eqb, cases_eq}
use Rattle.std.proofs.lemmas.Nat.{mod_below}
use Rattle.std.proofs.lemmas.Option.{slice_get-get_or, get_or_from_slice_get}
use Rattle.std.proofs.lemmas.List.{append-nil, length-append, map-append, map-id, length-map, get_or-set_same, get_or-set_other}
use Rattle.std.proofs.lemmas.List.Elements.{All-push, All-nil, Contains-append_left, Contains-push, filter-append}
use Rattle.std.proofs.lemmas.List.FromFn.{map-range_with_len_more}
use Rattle.dcr_turn.specs.PassValue.{PassValue, new_passes}
use Rattle.dcr_work.specs.Dealing.{AreDealt, AreHands, Hand, IsEmptyHand, IsNew, down, is_of, session_of}

pub snoc : {X : Type 0} (xs ys : List X) (x y : X) → xs ++ x ∷ [] ≡ ys ++ y ∷ [] → (xs ≡ ys) × (x ≡ y)
snoc [] [] x y e = (refl, ap (λ (l : List _). get_or l 0 x) e)
snoc [] (b ∷ []) x y e = absurd (let same = ap (λ (l : List _). length l) e in omega arith)
snoc [] (b ∷ c ∷ ys) x y e = absurd (let same = ap (λ (l : List _). length l) e in omega arith)
snoc (a ∷ []) [] x y e = absurd (let same = ap (λ (l : List _). length l) e in omega arith)
snoc (a ∷ c ∷ xs) [] x y e = absurd (let same = ap (λ (l : List _). length l) e in omega arith)
snoc (a ∷ xs) (b ∷ ys) x y e =
    let rest : (xs ≡ ys) × (x ≡ y) = snoc xs ys x y (ap (drop 1) e) in
    (ap (λ z. z ∷ xs) (ap (λ (l : List _). get_or l 0 a) e) ∙ ap (λ (l : List _). b ∷ l) rest.0, rest.1)

-- the sessions of a worker, with one more dealt out
own_more : (W n dealt w s : ℕ) → s ≡ n - suc dealt → s % W ≡ w → filter (is_of W w) (down n (suc dealt)) ≡ filter (is_of W w) (down n dealt) ++ s ∷ []
own_more W n dealt w s is own =
    filter-append (is_of W w) (down n dealt) ((n - suc dealt) ∷ [])
    ∙ ap (λ (k : ℕ). filter (is_of W w) (down n dealt) ++ filter (is_of W w) (k ∷ [])) (sym is)
    ∙ ap (λ (b : Bool). filter (is_of W w) (down n dealt) ++ cond b (s ∷ []) []) (let yes : is_of W w s ≡ true = grind (arith, own) in yes)

other_more : (W n dealt w s : ℕ) → s ≡ n - suc dealt → s % W ≢ w → filter (is_of W w) (down n (suc dealt)) ≡ filter (is_of W w) (down n dealt)
other_more W n dealt w s is other =
    filter-append (is_of W w) (down n dealt) ((n - suc dealt) ∷ [])
    ∙ ap (λ (k : ℕ). filter (is_of W w) (down n dealt) ++ filter (is_of W w) (k ∷ [])) (sym is)
    ∙ ap (λ (b : Bool). filter (is_of W w) (down n dealt) ++ cond b (s ∷ []) []) (ne_eqb (s % W) w other)
    ∙ append-nil (filter (is_of W w) (down n dealt))

pub own_place : (s : ℕ) (hands_before hands : List Hand) → 0 < length hands_before → length hands ≡ length hands_before → s % length hands_before < length hands
own_place s hands_before hands some many = subst (λ (W : ℕ). s % length hands_before < W) (sym many) (mod_below s (length hands_before) some)

-- ---- dealing out

pub record DealtTo (W n dealt w : ℕ) (hand : Hand) : Type 0 where
  pub sessions : map session_of hand.items ≡ filter (is_of W w) (down n dealt)
  pub new : All (IsNew n) hand.items
  pub few : vec_len hand ≤ dealt
  pub room : n ≤ vec_capacity hand

pub record Dealing (before : Hand) (hands_before : List Hand) (passes : Hand) (hands : List Hand) : Type 0 where
  pub left : passes.items ≡ new_passes (vec_len passes)
  pub most : vec_len passes ≤ vec_len before
  pub capacity : vec_capacity passes ≡ vec_capacity before
  pub many : length hands ≡ length hands_before
  pub each : (w : ℕ) (d : Hand) → w < length hands → DealtTo (length hands_before) (vec_len before) (vec_len before - vec_len passes) w (slice_index_or hands w d)

dealt_own : (W n dealt w : ℕ) (hand after : Hand) (pass : PassValue) → DealtTo W n dealt w hand → IsNew n pass → pass.session ≡ n - suc dealt → pass.session % W ≡ w
    → after.items ≡ hand.items ++ pass ∷ [] → vec_len after ≡ vec_len hand + 1 → vec_capacity after ≡ vec_capacity hand → DealtTo W n (suc dealt) w after
dealt_own W n dealt w hand after pass dealt_to new is own items len capacity = record {
  sessions =
      ap (map session_of) items
      ∙ map-append session_of hand.items (pass ∷ [])
      ∙ ap (λ (l : List ℕ). l ++ pass.session ∷ []) dealt_to.sessions
      ∙ sym (own_more W n dealt w pass.session is own);
  new = subst (All (IsNew n)) (sym items) (All-push (IsNew n) hand.items pass dealt_to.new new);
  few = (let few = dealt_to.few in omega arith);
  room = (let room = dealt_to.room in omega arith);
}

dealt_other : (W n dealt w s : ℕ) (hand : Hand) → DealtTo W n dealt w hand → s ≡ n - suc dealt → s % W ≢ w → DealtTo W n (suc dealt) w hand
dealt_other W n dealt w s hand dealt_to is other = record {
  sessions = dealt_to.sessions ∙ sym (other_more W n dealt w s is other);
  new = dealt_to.new;
  few = (let few = dealt_to.few in omega arith);
  room = dealt_to.room;
}

pub dealing_first : (passes : Hand) (hands : List Hand) → passes.items ≡ new_passes (vec_len passes) → All (IsEmptyHand (vec_len passes)) hands
    → ((hand : Hand) → hand.items ≡ [] → vec_len hand ≡ 0) → Dealing passes hands passes hands
dealing_first passes hands new empty none = record {
  left = new;
  most = omega arith;
  capacity = refl;
  many = refl;
  each = λ w d within.
      let hand : IsEmptyHand (vec_len passes) (slice_index_or hands w d) = empty w d within in
      let zero_dealt : vec_len passes - vec_len passes ≡ 0 = omega arith in
      subst (λ (dealt : ℕ). DealtTo (length hands) (vec_len passes) dealt w (slice_index_or hands w d)) (sym zero_dealt)
      (record {
        sessions = ap (map session_of) hand.none;
        new = subst (All (IsNew (vec_len passes))) (sym hand.none) (All-nil (IsNew (vec_len passes)));
        few = (let len = none (slice_index_or hands w d) hand.none in omega arith);
        room = hand.room_left;
      });
}

new_last : (m : ℕ) → new_passes (m + 1) ≡ new_passes m ++ record { session = m; front = []; made = 0 } ∷ []
new_last m = map-range_with_len_more (λ (k : ℕ). record { session = k; front = []; made = 0 }) 0 m m (omega arith)

pub popped_new : (passes rest : List PassValue) (m : ℕ) (pass : PassValue) → passes ≡ new_passes (m + 1) → passes ≡ rest ++ pass ∷ []
    → (rest ≡ new_passes m) × (pass ≡ record { session = m; front = []; made = 0 })
popped_new passes rest m pass new is = snoc rest (new_passes m) pass (record { session = m; front = []; made = 0 }) (sym is ∙ new ∙ new_last m)

pub dealing_next : (before passes rest : Hand) (hands_before hands hands_after : List Hand) (pass : PassValue) (w : ℕ) (hand after : Hand) → Dealing before hands_before passes hands
    → passes.items ≡ rest.items ++ pass ∷ [] → vec_len rest + 1 ≡ vec_len passes → vec_capacity rest ≡ vec_capacity passes → w ≡ pass.session % length hands_before → w < length hands
    → hand ≡ slice_index_or hands w hand → hands_after ≡ set hands w after
    → after.items ≡ hand.items ++ pass ∷ [] → vec_len after ≡ vec_len hand + 1 → vec_capacity after ≡ vec_capacity hand → length hands_after ≡ length hands → Dealing before hands_before rest hands_after
dealing_next before passes rest hands_before hands hands_after pass w hand after dealing items len capacity own within read written pushed pushed_len pushed_capacity many =
    let m : ℕ = vec_len rest in
    let W : ℕ = length hands_before in
    let n : ℕ = vec_len before in
    let dealt : ℕ = n - vec_len passes in
    let most : vec_len passes ≤ n = dealing.most in
    let both = popped_new passes.items rest.items m pass (dealing.left ∙ ap new_passes (sym len)) items in
    let session : pass.session ≡ m = ap session_of both.1 in
    let next : n - m ≡ suc dealt = omega arith in
    let new : IsNew n pass = record { seen = ap (λ (p : PassValue). p.front) both.1; made = ap (λ (p : PassValue). p.made) both.1; session = omega arith } in
    let at : pass.session ≡ n - suc dealt = omega arith in record {
      left = both.0;
      most = omega arith;
      capacity = capacity ∙ dealing.capacity;
      many = many ∙ dealing.many;
      each = λ v d below.
          subst (λ (k : ℕ). DealtTo W n k v (slice_index_or hands_after v d)) (sym next)
          (subst (λ (l : List Hand). DealtTo W n (suc dealt) v (slice_index_or l v d)) (sym written)
          (elim (cases_eq v w) [
            | inl same ↦
                subst (λ (x : Hand). DealtTo W n (suc dealt) v x) (sym (ap (λ (j : ℕ). get_or (set hands w after) j d) same ∙ get_or-set_same hands w after d within))
                (dealt_own W n dealt v hand after pass
                (subst (DealtTo W n dealt v) (ap (λ (j : ℕ). slice_index_or hands j hand) same ∙ sym read) (dealing.each v hand (omega arith))) new at (sym own ∙ sym same) pushed pushed_len pushed_capacity)
            | inr other ↦
                subst (λ (x : Hand). DealtTo W n (suc dealt) v x) (sym (get_or-set_other hands w v after d other))
                (dealt_other W n dealt v pass.session (slice_index_or hands v d) (dealing.each v d (omega arith)) at (λ e. other (sym e ∙ sym own)))
          ]));
    }

-- ---- taking back

pub record Gathering (n : ℕ) (hands_before : List Hand) (k : ℕ) (passes : Hand) (hands : List Hand) : Type 0 where
  pub gathered : map session_of passes.items ≡ range_with_len 0 k
  pub count : vec_len passes ≡ k
  pub room : n ≤ vec_capacity passes
  pub from_hands : All (λ (pass : PassValue). (d : Hand) → Contains (slice_index_or hands_before (pass.session % length hands_before) d).items pass) passes.items
  pub many : length hands ≡ length hands_before
  pub left : AreHands (length hands_before) n (n - k) hands
  pub among : (w : ℕ) (d : Hand) → w < length hands → (pass : PassValue) → Contains (slice_index_or hands w d).items pass → Contains (slice_index_or hands_before w d).items pass

pub any_default : {X : Type 0} (xs : List X) (i : ℕ) (d e : X) → i < length xs → get_or xs i d ≡ get_or xs i e
any_default xs i d e within = get_or_from_slice_get xs i (get_or xs i e) d (slice_get-get_or xs i e within)

module _ (n k : ℕ) (hands_before : List Hand) (passes : Hand) (hands : List Hand) (g : Gathering n hands_before k passes hands) (more : k < n) (w : ℕ) (own : w ≡ k % length hands_before) (within : w < length hands) where
  abbrev W : ℕ
  W = length hands_before

  -- the session that comes next is the last of its worker's
  next_own : (d : Hand) → map session_of (slice_index_or hands w d).items ≡ filter (is_of W w) (down n (n - suc k)) ++ k ∷ []
  next_own d =
      let one : n - k ≡ suc (n - suc k) = omega arith in
      let here : k ≡ n - suc (n - suc k) = omega arith in
      g.left w d within ∙ ap (λ (m : ℕ). filter (is_of W w) (down n m)) one ∙ own_more W n (n - suc k) w k here (sym own)

  pub hand_there : (d : Hand) → 0 < vec_len (slice_index_or hands w d)
  hand_there d =
      let ok : vec_len (slice_index_or hands w d) ≡ length (slice_index_or hands w d).items = (slice_index_or hands w d).ok.0 in
      let long : length (slice_index_or hands w d).items ≡ length (filter (is_of W w) (down n (n - suc k)) ++ k ∷ []) =
      sym (length-map (slice_index_or hands w d).items session_of) ∙ ap (λ (l : List ℕ). length l) (next_own d) in
      let more : length (filter (is_of W w) (down n (n - suc k)) ++ k ∷ []) ≡ length (filter (is_of W w) (down n (n - suc k))) + 1 = length-append (filter (is_of W w) (down n (n - suc k))) (k ∷ []) in
      omega arith

  pub gathering_next : (d rest passes_after : Hand) (hands_after : List Hand) (pass : PassValue) → (slice_index_or hands w d).items ≡ rest.items ++ pass ∷ [] → hands_after ≡ set hands w rest
      → length hands_after ≡ length hands → passes_after.items ≡ passes.items ++ pass ∷ [] → vec_len passes_after ≡ vec_len passes + 1 → vec_capacity passes_after ≡ vec_capacity passes
      → Gathering n hands_before (k + 1) passes_after hands_after
  gathering_next d rest passes_after hands_after pass items written many pushed pushed_len pushed_capacity =
      let both = snoc (map session_of rest.items) (filter (is_of W w) (down n (n - suc k))) pass.session k
      (sym (map-append session_of rest.items (pass ∷ [])) ∙ ap (map session_of) (sym items) ∙ next_own d) in
      let left : n - (k + 1) ≡ n - suc k = omega arith in
      let one : n - k ≡ suc (n - suc k) = omega arith in
      let here : k ≡ n - suc (n - suc k) = omega arith in
      let before : ℕ → PassValue → Type 0 = λ v p. (e : Hand) → Contains (slice_index_or hands_before v e).items p in
      let from : (p : PassValue) → Contains rest.items p ⊎ (pass ≡ p) → (e : Hand) → Contains (slice_index_or hands_before w e).items p = λ p which e.
      g.among w e within p
      (subst (λ (h : Hand). Contains h.items p) (any_default hands w d e within)
      (subst (λ (l : List PassValue). Contains l p) (sym items)
      (elim which [
        | inl old ↦ Contains-append_left rest.items (pass ∷ []) p old
        | inr last ↦ subst (λ (x : PassValue). Contains (rest.items ++ pass ∷ []) x) last (Contains-push rest.items pass)
      ]))) in record {
        gathered =
            ap (map session_of) pushed
            ∙ map-append session_of passes.items (pass ∷ [])
            ∙ ap (λ (l : List ℕ). l ++ pass.session ∷ []) g.gathered
            ∙ ap (λ (s : ℕ). range_with_len 0 k ++ s ∷ []) both.1
            ∙ ap (λ (l : List ℕ). l ++ k ∷ []) (sym (map-id (range_with_len 0 k)))
            ∙ sym (map-range_with_len_more (λ (x : ℕ). x) 0 k k (omega arith))
            ∙ map-id (range_with_len 0 (k + 1));
        count = (let count = g.count in omega arith);
        room = (let room = g.room in omega arith);
        from_hands =
            subst (All (λ (p : PassValue). before (p.session % W) p)) (sym pushed)
            (All-push (λ (p : PassValue). before (p.session % W) p) passes.items pass g.from_hands
            (subst (λ (v : ℕ). before v pass) (own ∙ ap (λ (s : ℕ). s % W) (sym both.1)) (from pass (inr refl))));
        many = many ∙ g.many;
        left = λ v e below.
            subst (λ (m : ℕ). map session_of (slice_index_or hands_after v e).items ≡ filter (is_of W v) (down n m)) (sym left)
            (subst (λ (l : List Hand). map session_of (slice_index_or l v e).items ≡ filter (is_of W v) (down n (n - suc k))) (sym written)
            (elim (cases_eq v w) [
              | inl same ↦
                  subst (λ (u : ℕ). map session_of (slice_index_or (set hands w rest) u e).items ≡ filter (is_of W u) (down n (n - suc k))) (sym same)
                  (ap (λ (h : Hand). map session_of h.items) (get_or-set_same hands w rest e within) ∙ both.0)
              | inr other ↦
                  ap (λ (h : Hand). map session_of h.items) (get_or-set_other hands w v rest e other)
                  ∙ g.left v e (omega arith)
                  ∙ ap (λ (m : ℕ). filter (is_of W v) (down n m)) one
                  ∙ other_more W n (n - suc k) v k here (λ same. other (sym same ∙ sym own))
            ]));
        among = λ v e below p there.
            let moved : Contains (slice_index_or (set hands w rest) v e).items p = subst (λ (l : List Hand). Contains (slice_index_or l v e).items p) written there in
            elim (cases_eq v w) [
              | inl same ↦
                  subst (λ (u : ℕ). Contains (slice_index_or hands_before u e).items p) (sym same)
                  (from p (inl (subst (λ (h : Hand). Contains h.items p) (ap (λ (u : ℕ). get_or (set hands w rest) u e) same ∙ get_or-set_same hands w rest e within) moved)) e)
              | inr other ↦ g.among v e (omega arith) p (subst (λ (h : Hand). Contains h.items p) (get_or-set_other hands w v rest e other) moved)
            ];
      }
