-- How a run of calls on a disk goes on, and what a write leaves outside its range.
use Rattle.std.proofs.Common.{◌≡◌, inl, inr, ⊎_elim, ℕ, ◌+◌, ◌-◌, ◌≤◌, List, ◌++◌, length, take, drop, refl, sym, ◌∙◌, ap, min, arith}
use Rattle.std.proofs.lemmas.List.{take_at, drop_at, drop-drop, drop-take, take-take, length-take, length-drop, length-append, append_assoc}
use Rattle.std.proofs.Math.Seq.{take-add}
use Rattle.dcr_base.specs.Disk.{DiskView, Torn, Elapses, LeavesOnly, bytes_at, written}

-- ---- moments

-- before the first call
pub started : (disk : DiskView) (P : List ℕ → Type 0) → ((c : List ℕ) → disk.may_leave c → P c) → LeavesOnly disk disk P
started disk P here = record { later = omega arith; each = λ c left. here c (disk.only_now c left); before = λ t c le left. inl left }

-- one call more, after which a crash leaves what has P
pub goes_on : (old mid new : DiskView) (P : List ℕ → Type 0) → LeavesOnly old mid P → Elapses mid new
    → ((c : List ℕ) → new.may_leave c → P c) → LeavesOnly old new P
goes_on old mid new P so_far time here = record {
  later = omega (arith, so_far.later, time.later);
  each = λ c left. ⊎_elim (so_far.each c) (here c) (time.nothing_else old.moment c so_far.later left);
  before = λ t c le left. ⊎_elim (so_far.before t c le) (λ now. inr (here c now)) (time.nothing_else t c (omega (arith, le, so_far.later)) left);
}

-- two runs, one after the other
pub joined : (old mid new : DiskView) (P : List ℕ → Type 0) → LeavesOnly old mid P → LeavesOnly mid new P → LeavesOnly old new P
joined old mid new P first second = record {
  later = omega (arith, first.later, second.later);
  each = λ c left. ⊎_elim (first.each c) (λ now. now) (second.before old.moment c first.later left);
  before = λ t c le left. ⊎_elim (first.before t c le) (λ now. inr now) (second.before t c (omega (arith, le, first.later)) left);
}

-- what has P has Q
pub weaker : (old new : DiskView) (P Q : List ℕ → Type 0) → ((c : List ℕ) → P c → Q c) → LeavesOnly old new P → LeavesOnly old new Q
weaker old new P Q of run = record {
  later = run.later;
  each = λ c left. of c (run.each c left);
  before = λ t c le left. ⊎_elim (λ was. inl was) (λ now. inr (of c now)) (run.before t c le left);
}

-- ---- bytes

pub bytes_at-take : (c : List ℕ) (at n m : ℕ) → at + n ≤ m → bytes_at (take m c) at n ≡ bytes_at c at n
bytes_at-take c at n m within =
    let split : m ≡ at + (m - at) = omega (arith, within) in
    ap (λ k. take n (drop at (take k c))) split ∙ ap (take n) (drop-take at (m - at) c) ∙ take-take n (m - at) (drop at c) (omega (arith, within))

pub bytes_at-drop : (c : List ℕ) (at n m : ℕ) → m ≤ at → bytes_at (drop m c) (at - m) n ≡ bytes_at c at n
bytes_at-drop c at n m behind = ap (take n) (drop-drop (at - m) m c) ∙ ap (λ k. take n (drop k c)) (omega (arith, behind))

-- so many bytes and then so many
pub bytes_at-add : (c : List ℕ) (at n m : ℕ) → bytes_at c at (n + m) ≡ bytes_at c at n ++ bytes_at c (at + n) m
bytes_at-add c at n m = take-add n m (drop at c) ∙ ap (λ l. take n (drop at c) ++ take m l) (drop-drop n at c)

-- the bytes at an offset are as many as there are
pub length-bytes_at : (c : List ℕ) (at n : ℕ) → length (bytes_at c at n) ≡ min n (length c - at)
length-bytes_at c at n = length-take n (drop at c) ∙ ap (min n) (length-drop at c)

-- a part of what is at an offset
pub bytes_at-part : (c : List ℕ) (at n k m : ℕ) → k + m ≤ n → bytes_at (bytes_at c at n) k m ≡ bytes_at c (at + k) m
bytes_at-part c at n k m within = bytes_at-take (drop at c) k m n within ∙ ap (take m) (drop-drop k at c)

-- outside the range of a write the bytes stay, whatever a crash makes of it
pub torn_below : (at count : ℕ) (old new : List ℕ) → Torn at count old new → (from n : ℕ) → from + n ≤ at → bytes_at new from n ≡ bytes_at old from n
torn_below at count old new torn from n below =
    sym (bytes_at-take new from n at below) ∙ ap (λ l. bytes_at l from n) torn.before ∙ bytes_at-take old from n at below

pub torn_behind : (at count : ℕ) (old new : List ℕ) → Torn at count old new → (from n : ℕ) → at + count ≤ from → bytes_at new from n ≡ bytes_at old from n
torn_behind at count old new torn from n behind =
    sym (bytes_at-drop new from n (at + count) behind) ∙ ap (λ l. bytes_at l (from - (at + count)) n) torn.behind ∙ bytes_at-drop old from n (at + count) behind

-- a write is one of the things that a crash may make of it
pub torn_written : (at : ℕ) (piece content : List ℕ) (count : ℕ) → at ≤ length content → length piece ≤ count → Torn at count content (written at piece content)
torn_written at piece content count within short = record {
  before = take_at (take at content) (piece ++ drop (at + length piece) content) at long;
  behind = back;
  no_shorter = omega (arith, whole);
  no_longer = omega (arith, whole);
}
  where
    long : length (take at content) ≡ at
    long = omega (arith, length-take at content, within)

    whole : length (written at piece content) ≡ at + (length piece + (length content - (at + length piece)))
    whole = omega (arith, long, length-append (take at content) (piece ++ drop (at + length piece) content), length-append piece (drop (at + length piece) content), length-drop (at + length piece) content)

    front : length (take at content ++ piece) ≡ at + length piece
    front = omega (arith, long, length-append (take at content) piece)

    back : drop (at + count) (written at piece content) ≡ drop (at + count) content
    back =
        ap (λ k. drop k (written at piece content)) (omega (arith, short))
        ∙ sym (drop-drop (count - length piece) (at + length piece) (written at piece content))
        ∙ ap (drop (count - length piece)) (ap (drop (at + length piece)) (sym (append_assoc (take at content) piece (drop (at + length piece) content))) ∙ drop_at (take at content ++ piece) (drop (at + length piece) content) (at + length piece) front)
        ∙ drop-drop (count - length piece) (at + length piece) content
        ∙ ap (λ k. drop k content) (omega (arith, short))

-- what was written is there
pub written_there : (at : ℕ) (piece content : List ℕ) → at ≤ length content → bytes_at (written at piece content) at (length piece) ≡ piece
written_there at piece content within =
    ap (take (length piece)) (drop_at (take at content) (piece ++ drop (at + length piece) content) at (omega (arith, length-take at content, within)))
    ∙ take_at piece (drop (at + length piece) content) (length piece) refl
