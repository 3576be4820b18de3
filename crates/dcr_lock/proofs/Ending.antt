-- What a table holds at its end, once a seat knows that its places are empty; and its slots, taken out one after the other.
use Rattle.std.proofs.Common.{◌≡◌, ℕ, ◌+◌, ◌<◌, ◌≤◌, List, [], length, set, get_or, Bool, true, false, sym, ◌∙◌, subst, arith, Option, None}
use Rattle.std.proofs.lemmas.List.{get_or-set_same, get_or-set_other}
use mathlib.Core.Option as maybe
use mathlib.Core.Logic.{dite}
use native.Mathlib.Decide.{ℕ_discrete}
use lib.ListN.{get_elem?}
use Rattle.atomic_table.specs.Table.{Final, Seen}
use Rattle.dcr_lock.specs.Rule.{knows, AreKept}
use Rattle.dcr_lock.proofs.Keeping.{is_empty}

pub nothing_there : {T : Type 0} (belongs : ℕ → T → Type 0) (words : List ℕ) (slots : List (Option T)) (id empty p : ℕ) (x : Option T)
    → Final (Seen (AreKept belongs) id (knows [] empty)) words slots → p < empty → p < length slots → get_elem? slots p ≡ maybe.some x → x ≡ None
nothing_there {T} belongs words slots id empty p x last below inside at =
    let s = last.0 in
    let here : p < length s.homes = let e = last.3 in omega arith in
    let was = is_empty belongs s p id (knows [] empty) (last.1.0.each p here) last.1.1 below in
    let there = last.4 p None was.home in
    maybe.some-injective x None (sym at ∙ there)

-- the places behind the one that was taken out are still full
pub left_more : (filled : List Bool) (p k : ℕ) → p + 1 ≤ k → get_or filled k false ≡ true → get_or (set filled p false) k false ≡ true
left_more filled p k h full = get_or-set_other filled p k false false (λ e. absurd (omega arith)) ∙ full

-- and those up to it are not
pub gone_more : (filled : List Bool) (p : ℕ) → ((k : ℕ) → k < p → get_or filled k false ≡ false) → p < length filled → (k : ℕ) → k < p + 1 → get_or (set filled p false) k false ≡ false
gone_more filled p gone inside k h =
    dite (ℕ_discrete k p)
    (λ e. subst (λ (n : ℕ). get_or (set filled p false) n false ≡ false) (sym e) (get_or-set_same filled p false false inside))
    (λ ne. get_or-set_other filled p k false false ne ∙ gone k (omega arith))
