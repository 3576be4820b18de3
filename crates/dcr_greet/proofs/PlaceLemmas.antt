-- Parts of a text at their places, written one behind the other and read again.
use Rattle.std.proofs.Common.{◌≡◌, ℕ, ◌+◌, ◌≤◌, List, [], ◌++◌, length, take, drop, refl, sym, ap, ◌∙◌, append_assoc, arith, inl, inr}
use Rattle.std.proofs.lemmas.Bool.{cases_lt}
use Rattle.std.proofs.lemmas.List.{drop-drop, get_or-drop, get_or-take, get_or_past, length-append, length-drop, length-take, length-take-le, take-append-drop, take_all}
use Rattle.std.proofs.Math.Seq.{take-append_seam}
use Rattle.hex.specs.Hex.{IsBytes}
use Rattle.dcr_base.specs.Disk.{written}

-- ---- writing

-- the first n of so many bytes are this text
pub record IsFront (content : List ℕ) (n room : ℕ) (text : List ℕ) : Type 0 where
  pub long : length content ≡ room
  pub within : n ≤ room
  pub front : take n content ≡ text

pub nothing_put : (content : List ℕ) (room : ℕ) → length content ≡ room → IsFront content 0 room []
nothing_put content room long = record { long = long; within = omega arith; front = refl }

pub one_put : (content more part text : List ℕ) (n end room : ℕ) → IsFront content n room text → more ≡ written n part content → end ≡ n + length part → end ≤ room
    → IsFront more end room (text ++ part)
one_put content more part text n end room before is ends within =
    let front = take n content in
    let rest = drop (n + length part) content in
    let short = length-take-le n content (omega (arith, before.long, before.within)) in
    let both = length-append front part in
    let behind = length-drop (n + length part) content in
    let long : length (front ++ part) ≡ end = omega (arith, both, short, ends) in
    let whole = length-append front (part ++ rest) in
    let other = length-append part rest in
    let seam : take end ((front ++ part) ++ rest) ≡ front ++ part = ap (λ k. take k ((front ++ part) ++ rest)) (sym long) ∙ take-append_seam (front ++ part) rest in
    record {
      long = ap (λ (l : List ℕ). length l) is ∙ (let e : length (front ++ (part ++ rest)) ≡ room = omega (arith, whole, other, behind, short, before.long, ends, within) in e);
      within = within;
      front = ap (take end) is ∙ ap (take end) (sym (append_assoc front part rest)) ∙ seam ∙ ap (λ l. l ++ part) before.front;
    }

pub all_put : (content text : List ℕ) (room : ℕ) → IsFront content room room text → content ≡ text
all_put content text room done = sym (take_all room content (omega (arith, done.long))) ∙ done.front

-- ---- reading

-- what stands from a place on is so many bytes, and what stands behind them
pub cut_at : (bytes : List ℕ) (n k m : ℕ) → m ≡ n + k → drop n bytes ≡ take k (drop n bytes) ++ drop m bytes
cut_at bytes n k m is =
    sym (take-append-drop k (drop n bytes)) ∙ ap (λ l. take k (drop n bytes) ++ l) (drop-drop k n bytes ∙ ap (λ (i : ℕ). drop i bytes) (sym is))

pub length_part : (bytes : List ℕ) (n k : ℕ) → n + k ≤ length bytes → length (take k (drop n bytes)) ≡ k
length_part bytes n k within = length-take-le k (drop n bytes) (omega (arith, length-drop n bytes, within))

-- bytes are bytes in any part
pub part_bytes : (bytes : List ℕ) (n k : ℕ) → IsBytes bytes → IsBytes (take k (drop n bytes))
part_bytes bytes n k all i =
    elim (cases_lt i k) [
      | inl below ↦
          let e = get_or-take k (drop n bytes) i 0 below ∙ get_or-drop n bytes i 0 in
          let fits = all (n + i) in
          omega (arith, e, fits)
      | inr above ↦
          let long : length (take k (drop n bytes)) ≤ k = omega (arith, length-take k (drop n bytes)) in
          let e = get_or_past (take k (drop n bytes)) i 0 (omega (arith, long, above)) in
          omega (arith, e)
    ]
