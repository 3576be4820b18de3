-- How often a holder stands among records, and in all views.
use Rattle.std.proofs.Common.{◌≡◌, ◌≢◌, ℕ, zero, suc, ◌+◌, ◌<◌, ◌≤◌, Bool, true, false, List, [], ◌∷◌, ◌++◌, length, map, set, take, drop, sym, refl, ap, ◌∙◌, arith}
use Rattle.std.proofs.lemmas.Bool.{false≢true}
use Rattle.std.proofs.lemmas.Bool.Decides.{nat_tests}
use Rattle.std.proofs.lemmas.List.{take-append-drop}
use Rattle.std.specs.Prelude.{nat_lt, ◌==◌}
use mathlib.Core.Option.{some, some-injective, some-ne-none}
use lib.ListN.{get_elem?}
use Rattle.atomic_table.proofs.Lists.{set_else}
use Rattle.dcr_set.specs.EventSet.{Set}
use Rattle.dcr_journal.specs.declared.call.Entry.{Entry}
use Rattle.dcr_turn.specs.declared.record.Holder.{Holder}
use Rattle.dcr_turn.specs.declared.record.Holder.TheVariants.{Journal, Site, Session}
use Rattle.dcr_turn.specs.declared.record.Record.{Record}
use Rattle.dcr_turn.specs.Records.{same, once, times, standing, told, without, only, sites_from, sessions_from, everyone, is_of_turn}
use Rattle.dcr_turn.specs.Steps.{joined, kept, cut, with_longer}

pub once_of : (b : Bool) → b ≡ true → once b ≡ 1
once_of b h = rw h refl

pub once_most : (b : Bool) → once b ≤ 1
once_most true = omega arith
once_most false = omega arith

-- what stands once or more is there
pub once_there : (b : Bool) → 0 < once b → b ≡ true
once_there true h = refl
once_there false h = absurd (omega arith)

pub same_self : (x : Holder) → same x x ≡ true
same_self Journal = refl
same_self (Site i) = grind (arith, nat_tests)
same_self (Session k) = grind (arith, nat_tests)

pub same_is : (x y : Holder) → same x y ≡ true → x ≡ y
same_is Journal Journal h = refl
same_is Journal (Site i) h = absurd (false≢true h)
same_is Journal (Session k) h = absurd (false≢true h)
same_is (Site i) Journal h = absurd (false≢true h)
same_is (Site i) (Site j) h = let e : i ≡ j = grind (arith, nat_tests) in ap Site e
same_is (Site i) (Session k) h = absurd (false≢true h)
same_is (Session k) Journal h = absurd (false≢true h)
same_is (Session k) (Site i) h = absurd (false≢true h)
same_is (Session k) (Session l) h = let e : k ≡ l = grind (arith, nat_tests) in ap Session e

pub times-append : (x : Holder) (us vs : List Record) → times x (us ++ vs) ≡ times x us + times x vs
times-append x [] vs = omega arith
times-append x (u ∷ us) vs = let e = times-append x us vs in omega arith

pub times-told : (x : Holder) (J : List Entry) (v : List Record) → times x (map (told J) v) ≡ times x v
times-told x J [] = refl
times-told x J (r ∷ rs) = ap (λ (n : ℕ). once (same x r.holder) + n) (times-told x J rs)

pub times-longer : (x : Holder) (v : List Record) → times x (with_longer v) ≡ times x v
times-longer x [] = refl
times-longer x (r ∷ []) = refl
times-longer x (r ∷ q ∷ rs) = refl

pub times-joined : (x : Holder) (v w : List Record) → times x (joined v w) ≡ times x v + times x w
times-joined x [] w = times-append x w [] ∙ omega arith
times-joined x (r ∷ rs) w = let e = times-append x w rs in omega arith

pub times-cut : (x : Holder) (v : List Record) → times x (kept v) + times x (cut v) ≡ times x v
times-cut x [] = refl
times-cut x (r ∷ []) = omega arith
times-cut x (r ∷ q ∷ rs) = omega arith

pub times-parted : (x : Holder) (n : ℕ) (v : List Record) → times x (take n v) + times x (drop n v) ≡ times x v
times-parted x n v = sym (times-append x (take n v) (drop n v)) ∙ ap (times x) (take-append-drop n v)

times-out_step : (x y : Holder) (r : Record) (rs : List Record) → times x (without y rs) + times x (only y rs) ≡ times x rs → (b : Bool) → same y r.holder ≡ b
    → times x (without y (r ∷ rs)) + times x (only y (r ∷ rs)) ≡ times x (r ∷ rs)
times-out_step x y r rs rest true h = rw h (omega arith)
times-out_step x y r rs rest false h = rw h (omega arith)

pub times-out : (x y : Holder) (v : List Record) → times x (without y v) + times x (only y v) ≡ times x v
times-out x y [] = refl
times-out x y (r ∷ rs) = times-out_step x y r rs (times-out x y rs) (same y r.holder) refl

pub standing-set : (x : Holder) (views : List (List Record)) (id : ℕ) (v w : List Record) → get_elem? views id ≡ some v → standing x (set views id w) + times x v ≡ standing x views + times x w
standing-set x [] id v w at = absurd (some-ne-none v (sym at))
standing-set x (u ∷ us) zero v w at = let e = ap (times x) (some-injective u v at) in omega arith
standing-set x (u ∷ us) (suc id) v w at = let e = standing-set x us id v w at in omega arith

pub standing-push : (x : Holder) (views : List (List Record)) (w : List Record) → standing x (views ++ w ∷ []) ≡ standing x views + times x w
standing-push x [] w = omega arith
standing-push x (u ∷ us) w = let e = standing-push x us w in omega arith

-- a view's own number is part of the sum
pub standing-has : (x : Holder) (views : List (List Record)) (id : ℕ) (v : List Record) → get_elem? views id ≡ some v → times x v ≤ standing x views
standing-has x [] id v at = absurd (some-ne-none v (sym at))
standing-has x (u ∷ us) zero v at = let e = ap (times x) (some-injective u v at) in omega arith
standing-has x (u ∷ us) (suc id) v at = let e = standing-has x us id v at in omega arith

at_else : (views : List (List Record)) (id other : ℕ) (w : List Record) → other ≢ id → get_elem? views other ≡ some w → get_elem? (set views id []) other ≡ some w
at_else views id other w ne there = set_else views id other [] ne ∙ there

-- so are those of two views
pub standing-has_two : (x : Holder) (views : List (List Record)) (id other : ℕ) (v w : List Record) → other ≢ id → get_elem? views id ≡ some v → get_elem? views other ≡ some w
    → times x v + times x w ≤ standing x views
standing-has_two x views id other v w ne at there =
    let e = standing-set x views id v [] at in
    let f = standing-has x (set views id []) other w (at_else views id other w ne there) in omega arith

-- the sites and the sessions from a number on
sites-journal : (i n : ℕ) → times Journal (sites_from i n) ≡ 0
sites-journal i zero = refl
sites-journal i (suc n) = let e = sites-journal (i + 1) n in omega arith

sites-session : (k i n : ℕ) → times (Session k) (sites_from i n) ≡ 0
sites-session k i zero = refl
sites-session k i (suc n) = let e = sites-session k (i + 1) n in omega arith

sessions-journal : (k n : ℕ) → times Journal (sessions_from k n) ≡ 0
sessions-journal k zero = refl
sessions-journal k (suc n) = let e = sessions-journal (k + 1) n in omega arith

sessions-site : (i k n : ℕ) → times (Site i) (sessions_from k n) ≡ 0
sessions-site i k zero = refl
sessions-site i k (suc n) = let e = sessions-site i (k + 1) n in omega arith

one_further : (j i : ℕ) → once (j == i) + once (nat_lt j i) ≡ once (nat_lt j (i + 1))
one_further j i = grind (arith, nat_tests)

sites-site : (j i n : ℕ) → times (Site j) (sites_from i n) + once (nat_lt j i) ≡ once (nat_lt j (i + n))
sites-site j i zero = let g : i + 0 ≡ i = omega arith in rw g (omega arith)
sites-site j i (suc n) =
    let e = sites-site j (i + 1) n in
    let f = one_further j i in
    let g : i + suc n ≡ i + 1 + n = omega arith in rw g (omega arith)

sessions-session : (l k n : ℕ) → times (Session l) (sessions_from k n) + once (nat_lt l k) ≡ once (nat_lt l (k + n))
sessions-session l k zero = let g : k + 0 ≡ k = omega arith in rw g (omega arith)
sessions-session l k (suc n) =
    let e = sessions-session l (k + 1) n in
    let f = one_further l k in
    let g : k + suc n ≡ k + 1 + n = omega arith in rw g (omega arith)

none_below : (j : ℕ) → once (nat_lt j 0) ≡ 0
none_below j = grind (arith, nat_tests)

-- all have one record
pub times-everyone : (alphabets : List Set) (sessions : ℕ) (x : Holder) → times x (everyone (length alphabets) sessions) ≡ once (is_of_turn alphabets sessions x)
times-everyone alphabets sessions Journal =
    let n = length alphabets in
    let a = times-append Journal (sites_from 0 n) (sessions_from 0 sessions) in
    let b = sites-journal 0 n in
    let c = sessions-journal 0 sessions in omega arith
times-everyone alphabets sessions (Site i) =
    let n = length alphabets in
    let a = times-append (Site i) (sites_from 0 n) (sessions_from 0 sessions) in
    let b = sites-site i 0 n in
    let c = sessions-site i 0 sessions in
    let d = none_below i in
    let z : 0 + n ≡ n = omega arith in
    let f : once (nat_lt i (0 + n)) ≡ once (nat_lt i n) = ap (λ (j : ℕ). once (nat_lt i j)) z in omega arith
times-everyone alphabets sessions (Session k) =
    let n = length alphabets in
    let a = times-append (Session k) (sites_from 0 n) (sessions_from 0 sessions) in
    let b = sites-session k 0 n in
    let c = sessions-session k 0 sessions in
    let d = none_below k in
    let z : 0 + sessions ≡ sessions = omega arith in
    let f : once (nat_lt k (0 + sessions)) ≡ once (nat_lt k sessions) = ap (λ (j : ℕ). once (nat_lt k j)) z in omega arith
