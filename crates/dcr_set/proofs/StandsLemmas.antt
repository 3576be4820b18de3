-- Words stand for a set: what each operation on words does to the set that they stand for.
use Rattle.std.proofs.Common.{◌≡◌, ℕ, ◌<◌, ◌≤◌, Bool, false, not, ◌&&◌, ◌||◌, ◌/◌, ◌%◌, eqb, List, length, get_or, replicate, inl, inr, refl, sym, ap, ◌∙◌, arith}
use Rattle.std.proofs.Math.Bool.{and-true}
use Rattle.std.proofs.lemmas.Bool.{cases_lt, ne_eqb}
use Rattle.std.proofs.lemmas.List.{get_or-replicate, get_or_past, length-replicate}
use Rattle.dcr_set.specs.Bits.{bit}
use Rattle.dcr_set.specs.Least.{least}
use Rattle.dcr_set.specs.EventSet.{has, those, no_event, with_event, without_event}
use Rattle.dcr_set.specs.EventSetModel.{set_of_words, FitsRoom}
use Rattle.dcr_set.specs.declared.set.EventSet.TheInside.{Inside}
use Rattle.dcr_set.proofs.BitLemmas.{bit_digit, digit, digit-zero}
use Rattle.dcr_set.proofs.LeastLemmas.{least-ext}
use Rattle.dcr_set.proofs.SetLemmas.{has-those, has_past, has_past-those, length-those, same_set}

-- the room is the set's, and there is a bit for each member and no other
pub record Stands (ws : List ℕ) (room : ℕ) (s : List Bool) : Type 0 where
  pub room_is : length s ≡ room
  pub most : room ≤ 1024
  pub members : (k : ℕ) → bit ws k ≡ has s k

-- a test that fails from the room on is the membership in the set of what passes
pub has-those_all : (n : ℕ) (p : ℕ → Bool) → ((k : ℕ) → n ≤ k → p k ≡ false) → (k : ℕ) → has (those n p) k ≡ p k
has-those_all n p past k = elim (cases_lt k n) [ inl below ↦ has-those n p k below | inr from ↦ has_past-those n p k from ∙ sym (past k from) ]

-- what the model's view and invariant say together
pub stands : (x : Inside) (s : List Bool) → FitsRoom x → set_of_words x ≡ s → Stands x.words x.room s
stands x s fits view = record {
  room_is = ap length (sym view) ∙ length-those x.room (bit x.words);
  most = fits.most;
  members = λ k. sym (ap (λ t. has t k) (sym view) ∙ has-those_all x.room (bit x.words) fits.clear k);
}

-- words that stand for a set meet the invariant
pub fits_from : (ws : List ℕ) (room : ℕ) (s : List Bool) → Stands ws room s → FitsRoom (record { words = ws; room = room })
fits_from ws room s h = record { most = h.most; clear = λ k past. h.members k ∙ has_past s k (let e = h.room_is in omega arith) }

-- and they are seen as that set
pub set_from : (ws : List ℕ) (room : ℕ) (s : List Bool) → Stands ws room s → those room (bit ws) ≡ s
set_from ws room s h = same_set (those room (bit ws)) s (length-those room (bit ws) ∙ sym h.room_is) (λ k l.
    has-those room (bit ws) k (let e = length-those room (bit ws) in omega arith) ∙ h.members k)

-- a test on each bit of two sets of words
pub combined : (f : Bool → Bool → Bool) → f false false ≡ false → {ws xs ys : List ℕ} {r q : ℕ} {a b : List Bool} → Stands ws r a → Stands xs q b → length a ≡ length b
    → ((k : ℕ) → bit ys k ≡ f (bit ws k) (bit xs k)) → Stands ys r (those (length a) (λ k. f (has a k) (has b k)))
combined f at_none {ws = ws} {xs = xs} {a = a} {b = b} h i rooms bits = record {
  room_is = length-those (length a) (λ k. f (has a k) (has b k)) ∙ h.room_is;
  most = h.most;
  members = λ k. bits k ∙ ap (λ t. f t (bit xs k)) (h.members k) ∙ ap (f (has a k)) (i.members k)
      ∙ sym (has-those_all (length a) (λ j. f (has a j) (has b j)) (λ j past. ap (λ t. f t (has b j)) (has_past a j past) ∙ ap (f false) (has_past b j (omega arith)) ∙ at_none) k);
}

-- one bit is set
pub added : {ws ys : List ℕ} {r : ℕ} {a : List Bool} (n e : ℕ) → n ≡ e → Stands ws r a → e < length a
    → ((k : ℕ) → bit ys k ≡ (eqb k n || bit ws k)) → Stands ys r (with_event a e)
added {ws = ws} {a = a} n e same_number h below bits = record {
  room_is = length-those (length a) (λ k. eqb k e || has a k) ∙ h.room_is;
  most = h.most;
  members = λ k. bits k ∙ ap (λ m. eqb k m || bit ws k) same_number ∙ ap (λ t. eqb k e || t) (h.members k)
      ∙ sym (has-those_all (length a) (λ j. eqb j e || has a j) (λ j past. ap (λ t. t || has a j) (ne_eqb j e (λ same. absurd (omega arith))) ∙ has_past a j past) k);
}

-- one bit is cleared
pub removed : {ws ys : List ℕ} {r : ℕ} {a : List Bool} (n e : ℕ) → n ≡ e → Stands ws r a
    → ((k : ℕ) → bit ys k ≡ (bit ws k && not (eqb k n))) → Stands ys r (without_event a e)
removed {ws = ws} {a = a} n e same_number h bits = record {
  room_is = length-those (length a) (λ k. has a k && not (eqb k e)) ∙ h.room_is;
  most = h.most;
  members = λ k. bits k ∙ ap (λ m. bit ws k && not (eqb k m)) same_number ∙ ap (λ t. t && not (eqb k e)) (h.members k)
      ∙ sym (has-those_all (length a) (λ j. has a j && not (eqb j e)) (λ j past. ap (λ t. t && not (eqb j e)) (has_past a j past)) k);
}

-- what isn't below the room can't be taken out
pub without_past : (a : List Bool) (e : ℕ) → length a ≤ e → a ≡ without_event a e
without_past a e past = same_set a (without_event a e) (sym (length-those (length a) (λ k. has a k && not (eqb k e)))) (λ k below.
    sym (has-those (length a) (λ j. has a j && not (eqb j e)) k below ∙ ap (λ t. has a k && not t) (ne_eqb k e (λ same. absurd (omega arith))) ∙ and-true (has a k)))

-- the least bit is the least member of the set that the bits tell
pub first_member : (room n : ℕ) (p q : ℕ → Bool) → n ≡ room → ((k : ℕ) → p k ≡ q k) → least room p ≡ least n q
first_member room n p q same agree = ap (λ m. least m p) (sym same) ∙ least-ext n p q (λ j _. agree j)

-- the room of what the words stand for
pub room_from : (ws : List ℕ) (room : ℕ) (s : List Bool) (p : ℕ → Bool) → Stands ws room s → length (those room p) ≡ length s
room_from ws room s p h = length-those room p ∙ sym h.room_is

-- an event below the room is in the set where its bit is set, and no other is
pub tested : {ws : List ℕ} {r : ℕ} {a : List Bool} (n e : ℕ) → n ≡ e → Stands ws r a → bit ws n ≡ has a e
tested {ws = ws} n e same_number h = ap (bit ws) same_number ∙ h.members e

-- three bits, joined
pub and_all : {a b c x y z : Bool} → a ≡ x → b ≡ y → c ≡ z → (a && (b && c)) ≡ (x && (y && z))
and_all {a = a} {b = b} {c = c} {x = x} {y = y} {z = z} p q r = ap (λ t. t && (b && c)) p ∙ ap (λ t. x && (t && c)) q ∙ ap (λ t. x && (y && t)) r

-- words of zeros have no bit
pub bit-zeros : (n k : ℕ) → bit (replicate n 0) k ≡ false
bit-zeros n k = bit_digit (replicate n 0) k ∙ ap (λ m. digit m (k % 64)) (zero_at n (k / 64)) ∙ digit-zero (k % 64)
  where
    zero_at : (n i : ℕ) → get_or {A = ℕ} (replicate n 0) i 0 ≡ 0
    zero_at n i = elim (cases_lt i n) [ inl within ↦ get_or-replicate n i 0 0 within | inr past ↦ get_or_past (replicate n 0) i 0 (omega (arith, length-replicate {A = ℕ} n 0)) ]

-- words of zeros stand for the empty set
pub nothing_stands : (room : ℕ) → room ≤ 1024 → Stands (replicate 16 0) room (no_event room)
nothing_stands room most = record {
  room_is = length-those room (λ _. false);
  most = most;
  members = λ k. bit-zeros 16 k ∙ sym (has-those_all room (λ _. false) (λ _ _. refl) k);
}
