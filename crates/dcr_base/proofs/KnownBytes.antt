-- What two runs of reads or writes, one after the other, do to known bytes.
use Rattle.std.proofs.Common.{◌≡◌, ℕ, ◌+◌, ◌≤◌, List, ◌++◌, Option, Some, None, IfSome, Result, Ok, Err, OnErr, length, take, drop, refl, sym, ap, ◌∙◌, append_assoc}
use Rattle.std.proofs.Math.Seq.{take-add, drop-append_seam}
use Rattle.std.proofs.lemmas.List.{length-append}
use Rattle.std.specs.Io.KnownBytes.{Appends, Consumes}

-- the first bytes were taken, and then n of the rest
pub Appends-take : (a b c : Option (List ℕ)) (bytes rest : List ℕ) (written n : ℕ) → rest ≡ drop written bytes
    → Appends a b (take written bytes) → Appends b c (take n rest) → Appends a c (take (written + n) bytes)
Appends-take None b c bytes rest written n is before here = tt
Appends-take (Some xs) None c bytes rest written n is before here = absurd before
Appends-take (Some xs) (Some ys) None bytes rest written n is before here = absurd here
Appends-take (Some xs) (Some ys) (Some zs) bytes rest written n is before here =
    let more = take n (drop written bytes) in
    here ∙ ap (λ l. ys ++ take n l) is ∙ ap (λ l. l ++ more) before ∙ append_assoc xs (take written bytes) more
    ∙ ap (λ l. xs ++ l) (sym (take-add written n bytes))

-- two pieces are gone from what was left
pub left_after : (a b c : Option (List ℕ)) (bytes piece : List ℕ) (n : ℕ) → Consumes a b bytes → Consumes b c piece
    → length bytes + length piece ≡ n → IfSome a (λ left. c ≡ Some (drop n left))
left_after None b c bytes piece n before here long = tt
left_after (Some xs) None c bytes piece n before here long = absurd before
left_after (Some xs) (Some ys) None bytes piece n before here long = absurd here
left_after (Some xs) (Some ys) (Some zs) bytes piece n before here long =
    let whole : xs ≡ (bytes ++ piece) ++ zs = before ∙ ap (λ l. bytes ++ l) here ∙ sym (append_assoc bytes piece zs) in
    let count : n ≡ length (bytes ++ piece) = sym (length-append bytes piece ∙ long) in
    ap Some (sym (ap (λ k. drop k xs) count ∙ ap (drop (length (bytes ++ piece))) whole ∙ drop-append_seam (bytes ++ piece) zs))

-- the same where only a bound on their length is known
pub lost_within : (a b c : Option (List ℕ)) (bytes piece : List ℕ) (n : ℕ) → Consumes a b bytes → Consumes b c piece
    → length bytes + length piece ≤ n → IfSome a (λ left. (k : ℕ) × (k ≤ n) × (c ≡ Some (drop k left)))
lost_within None b c bytes piece n before here short = tt
lost_within (Some xs) b c bytes piece n before here short =
    let k = length bytes + length piece in
    (k, short, left_after (Some xs) b c bytes piece k before here refl)

-- what holds at all holds at an error
pub OnErr-of : {T E : Type 0} (r : Result T E) (P : Type 0) → P → OnErr r P
OnErr-of (Ok x) P holds = tt
OnErr-of (Err e) P holds = holds
