-- The rule holds of a new row's table, whose places are all empty.
use Rattle.std.proofs.Common.{◌≡◌, ℕ, zero, suc, ◌<◌, ◌≤◌, List, [], length, map, replicate, sym, refl, ap, ◌∙◌, subst, inr, arith, Option, None}
use Rattle.std.proofs.Math.ListN.{length-replicate}
use Rattle.std.proofs.lemmas.List.{take-replicate, get_or-replicate}
use mathlib.Core.Option as maybe
use lib.ListN.{get_elem?, take}
use Rattle.atomic_table.specs.Table.{opening}
use Rattle.dcr_lock.specs.Rule.{knows, AreKept}
use Rattle.dcr_lock.proofs.Keeping.{knows-most}

length_homes : (T : Type 0) (n : ℕ) → length (map (λ (x : Option T). maybe.some x) (replicate n None)) ≡ n
length_homes T zero = refl
length_homes T (suc n) = ap suc (length_homes T n)

home_there : {T : Type 0} (n p : ℕ) → p < n → get_elem? (map (λ (x : Option T). maybe.some x) (replicate n None)) p ≡ maybe.some (maybe.some None)
home_there {T} zero p h = absurd (omega arith)
home_there {T} (suc n) zero h = refl
home_there {T} (suc n) (suc p) h = home_there {T = T} n p (omega arith)

opens_whole : {T : Type 0} (belongs : ℕ → T → Type 0) (n : ℕ) → AreKept belongs (opening (replicate n 2) (replicate n None) (knows [] n))
opens_whole {T} belongs n =
    let long = length_homes T n in
    record {
      words = length-replicate n 2 ∙ sym long;
      each = λ p below.
          let h : p < n = omega arith in
          inr (inr record { word = get_or-replicate n p 2 0 h; home = home_there {T = T} n p h; unheld = refl; known = let k = knows-most p n in omega arith });
    }

-- the words stand at the front of a longer row of them
pub opens : {T : Type 0} (belongs : ℕ → T → Type 0) (n most : ℕ) → n ≤ most → AreKept belongs (opening (take n (replicate most 2)) (replicate n None) (knows [] n))
opens {T} belongs n most h =
    subst (λ (words : List ℕ). AreKept belongs (opening words (replicate n None) (knows [] n))) (sym (take-replicate n most 2 h)) (opens_whole belongs n)
