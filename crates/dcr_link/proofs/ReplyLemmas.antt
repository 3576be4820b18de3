-- Replies to whole lines, and what comes behind the lines that were met.
use Rattle.std.proofs.Common.{◌≡◌, ℕ, zero, suc, ◌+◌, ◌-◌, ◌<◌, ◌≤◌, Bool, true, false, eqb, cond, List, [], ◌∷◌, ◌++◌, length, take, Ok, Err, refl, sym, ap, ◌∙◌, append_assoc, length-append, arith}
use Rattle.std.specs.Prelude.{filter}
use Rattle.std.specs.List.{All, take_while, prefix_len, enumerate_from, onto_first}
use Rattle.std.proofs.lemmas.List.{append-nil}
use Rattle.std.proofs.lemmas.List.Sums.{sum_by-cons}
use Rattle.std.proofs.lemmas.List.Elements.{All-head, All-tail, filter-append}
use Rattle.std.proofs.lemmas.List.Splits.{length-slice_split, slice_split-cons_no, slice_split_at, slice_split_none}
use Rattle.dcr_text.specs.Cutting.{HasNoEnd}
use Rattle.dcr_journal.specs.declared.call.Call.{Call}
use Rattle.dcr_journal.specs.declared.call.Entry.{Entry}
use Rattle.dcr_journal.specs.declared.call.Outcome.{Outcome}
use Rattle.dcr_journal.specs.Run.{made_by}
use Rattle.dcr_turn.specs.Covers.{is_by}
use Rattle.dcr_turn.specs.PassValue.{PassValue, HasMadeAll}
use Rattle.dcr_turn.specs.Pushing.{entry_of}
use Rattle.dcr_line.specs.Line.{entry_text}
use Rattle.dcr_text.specs.Lines.{pieces_of}
use Rattle.dcr_link.specs.Replies.{Asked, Placed, Terms, answers, calls_in, ended, is_short, lines_met, lines_text, most_bytes, most_lines, placed_of, whole_lines}

-- ---- what is asked, and what it is answered

pub walk_append : (terms : Terms) (xs ys : List Asked) (es fs : List Placed) → length (calls_in xs) ≡ length es
    → answers terms (xs ++ ys) (es ++ fs) ≡ answers terms xs es ++ answers terms ys fs
walk_append terms [] ys [] fs same = refl
walk_append terms [] ys (e ∷ es) fs same = absurd (omega (arith, same))
walk_append terms (Err reply ∷ xs) ys es fs same = ap (λ (l : List (List ℕ)). reply ∷ l) (walk_append terms xs ys es fs same)
walk_append terms (Ok call ∷ xs) ys [] fs same = absurd (omega (arith, same))
walk_append terms (Ok call ∷ xs) ys (e ∷ es) fs same =
    ap (λ (l : List (List ℕ)). entry_text terms.sites terms.atoms e.0 e.1 ∷ l) (walk_append terms xs ys es fs (omega (arith, same)))

pub calls-append : (xs ys : List Asked) → calls_in (xs ++ ys) ≡ calls_in xs ++ calls_in ys
calls-append [] ys = refl
calls-append (Err reply ∷ xs) ys = calls-append xs ys
calls-append (Ok call ∷ xs) ys = ap (λ (l : List Call). call ∷ l) (calls-append xs ys)

pub text-append : (xs ys : List (List ℕ)) → lines_text (xs ++ ys) ≡ lines_text xs ++ lines_text ys
text-append [] ys = refl
text-append (x ∷ xs) ys = ap (λ (l : List ℕ). ended x ++ l) (text-append xs ys) ∙ sym (append_assoc (ended x) (lines_text xs) (lines_text ys))

-- ---- whole lines

pieces_some : (bytes : List ℕ) → 1 ≤ length (pieces_of 10 bytes)
pieces_some bytes = omega (arith, length-slice_split (λ (byte : ℕ). eqb byte 10) bytes)

first_of : (x : List ℕ) (ps : List (List ℕ)) → 1 ≤ length ps → take (length (x ∷ ps) - 1) (x ∷ ps) ≡ x ∷ take (length ps - 1) ps
first_of x ps some =
    let n : length (x ∷ ps) - 1 ≡ suc (length ps - 1) = omega arith in
    ap (λ (k : ℕ). take k (x ∷ ps)) n

pub whole_first : (line rest : List ℕ) → HasNoEnd line → whole_lines (line ++ 10 ∷ rest) ≡ line ∷ whole_lines rest
whole_first line rest none =
    ap (λ (ps : List (List ℕ)). take (length ps - 1) ps) (slice_split_at (λ (byte : ℕ). eqb byte 10) line 10 rest none refl)
    ∙ first_of line (pieces_of 10 rest) (pieces_some rest)

pub whole_none : (bytes : List ℕ) → HasNoEnd bytes → whole_lines bytes ≡ []
whole_none bytes none = ap (λ (ps : List (List ℕ)). take (length ps - 1) ps) (slice_split_none (λ (byte : ℕ). eqb byte 10) bytes none)

pub whole_behind : (lines : List (List ℕ)) (more : List ℕ) → All HasNoEnd lines → whole_lines (lines_text lines ++ more) ≡ lines ++ whole_lines more
whole_behind [] more none = refl
whole_behind (line ∷ lines) more none =
    let same : lines_text (line ∷ lines) ++ more ≡ line ++ 10 ∷ (lines_text lines ++ more) =
    append_assoc (ended line) (lines_text lines) more ∙ append_assoc line (10 ∷ []) (lines_text lines ++ more) in
    ap whole_lines same
    ∙ whole_first line (lines_text lines ++ more) (All-head HasNoEnd line lines none)
    ∙ ap (λ (l : List (List ℕ)). line ∷ l) (whole_behind lines more (All-tail HasNoEnd line lines none))

-- ---- the lines that are met

pub while-cons : (line : List ℕ) (lines : List (List ℕ)) → is_short line ≡ true → take_while is_short (line ∷ lines) ≡ line ∷ take_while is_short lines
while-cons line lines short =
    ap (λ (b : Bool). take (cond b (1 + prefix_len is_short lines) 0) (line ∷ lines)) short
    ∙ ap (λ (n : ℕ). take n (line ∷ lines)) (let e : 1 + prefix_len is_short lines ≡ suc (prefix_len is_short lines) = omega arith in e)

while_short : (lines more : List (List ℕ)) → All (λ line. is_short line ≡ true) lines → take_while is_short (lines ++ more) ≡ lines ++ take_while is_short more
while_short [] more short = refl
while_short (line ∷ lines) more short =
    while-cons line (lines ++ more) (All-head (λ (l : List ℕ). is_short l ≡ true) line lines short)
    ∙ ap (λ (l : List (List ℕ)). line ∷ l) (while_short lines more (All-tail (λ (l : List ℕ). is_short l ≡ true) line lines short))

take_behind : {X : Type 0} (n : ℕ) (xs ys : List X) → length xs ≤ n → take n (xs ++ ys) ≡ xs ++ take (n - length xs) ys
take_behind n [] ys fits = ap (λ (k : ℕ). take k ys) (let e : n ≡ n - 0 = omega arith in e)
take_behind zero (x ∷ xs) ys fits = absurd (omega arith)
take_behind {X = X} (suc n) (x ∷ xs) ys fits =
    ap (λ (l : List X). x ∷ l) (take_behind n xs ys (omega arith)
    ∙ ap (λ (k : ℕ). xs ++ take k ys) (let e : n - length xs ≡ suc n - length (x ∷ xs) = omega arith in e))

pub met_behind : (lines : List (List ℕ)) (more : List ℕ) → All HasNoEnd lines → All (λ line. is_short line ≡ true) lines → length lines ≤ most_lines
    → lines_met (lines_text lines ++ more) ≡ lines ++ take (most_lines - length lines) (take_while is_short (whole_lines more))
met_behind lines more none short few =
    ap (λ (l : List (List ℕ)). take most_lines (take_while is_short l)) (whole_behind lines more none)
    ∙ ap (take most_lines) (while_short lines (whole_lines more) short)
    ∙ take_behind most_lines lines (take_while is_short (whole_lines more)) few

-- ---- the entries of a session

enumerate-append : {X : Type 0} (n : ℕ) (xs ys : List X) → enumerate_from n (xs ++ ys) ≡ enumerate_from n xs ++ enumerate_from (n + length xs) ys
enumerate-append n [] ys = ap (λ (k : ℕ). enumerate_from k ys) (let e : n ≡ n + 0 = omega arith in e)
enumerate-append n (x ∷ xs) ys =
    ap (λ (l : List _). (n, x) ∷ l) (enumerate-append (n + 1) xs ys
    ∙ ap (λ (k : ℕ). enumerate_from (n + 1) xs ++ enumerate_from k ys) (let e : n + 1 + length xs ≡ n + length (x ∷ xs) = omega arith in e))

abbrev pub is_of : ℕ → Placed → Bool
is_of session placed = eqb placed.1.session session

none_of : (session n : ℕ) (J : List Entry) → All (λ (entry : Entry). is_by session entry ≡ false) J → filter (is_of session) (enumerate_from n J) ≡ []
none_of session n [] none = refl
none_of session n (entry ∷ J) none =
    let first : is_by session entry ≡ false = All-head (λ (x : Entry). is_by session x ≡ false) entry J none in
    ap (λ (b : Bool). cond b ((n, entry) ∷ filter (is_of session) (enumerate_from (n + 1) J)) (filter (is_of session) (enumerate_from (n + 1) J))) first
    ∙ none_of session (n + 1) J (All-tail (λ (x : Entry). is_by session x ≡ false) entry J none)

placed-append : (session : ℕ) (J K : List Entry) → placed_of session (J ++ K) ≡ placed_of session J ++ filter (is_of session) (enumerate_from (length J) K)
placed-append session J K =
    ap (filter (is_of session)) (enumerate-append 0 J K ∙ ap (λ (n : ℕ). enumerate_from 0 J ++ enumerate_from n K) (let e : 0 + length J ≡ length J = omega arith in e))
    ∙ filter-append (is_of session) (enumerate_from 0 J) (enumerate_from (length J) K)

-- entries of others add none
pub placed_seen : (pass : PassValue) (J : List Entry) → HasMadeAll pass J → placed_of pass.session J ≡ placed_of pass.session pass.front
placed_seen pass J all =
    ap (placed_of pass.session) (sym all.seen.whole)
    ∙ placed-append pass.session pass.front all.seen.rest
    ∙ ap (λ (l : List Placed). placed_of pass.session pass.front ++ l) (none_of pass.session (length pass.front) all.seen.rest all.seen.spared)
    ∙ append-nil (placed_of pass.session pass.front)

-- and the session's next entry adds itself
pub placed_next : (pass : PassValue) (J : List Entry) (call : Call) (outcome : Outcome) → HasMadeAll pass J
    → placed_of pass.session (J ++ entry_of pass call outcome ∷ []) ≡ placed_of pass.session pass.front ++ (length J, entry_of pass call outcome) ∷ []
placed_next pass J call outcome all =
    placed-append pass.session J (entry_of pass call outcome ∷ [])
    ∙ ap (λ (b : Bool). placed_of pass.session J ++ cond b ((length J, entry_of pass call outcome) ∷ []) []) (let e : eqb pass.session pass.session ≡ true = grind arith in e)
    ∙ ap (λ (l : List Placed). l ++ (length J, entry_of pass call outcome) ∷ []) (placed_seen pass J all)

-- a session has as many entries as calls were made
counted : {X : Type 0} (x : X) (xs : List X) (m : ℕ) (b : Bool) → length xs ≡ m → length (cond b (x ∷ xs) xs) ≡ cond b 1 0 + m
counted x xs m true e = omega (arith, e)
counted x xs m false e = omega (arith, e)

pub length-placed : (session n : ℕ) (entries : List Entry) → length (filter (is_of session) (enumerate_from n entries)) ≡ made_by session entries
length-placed session n [] = refl
length-placed session n (entry ∷ entries) =
    counted (n, entry) (filter (is_of session) (enumerate_from (n + 1) entries)) (made_by session entries) (eqb entry.session session) (length-placed session (n + 1) entries)
    ∙ sym (sum_by-cons (λ (e : Entry). cond (eqb e.session session) 1 0) entry entries)

-- ---- a line that is too long

one_more : (pieces : List (List ℕ)) → 1 ≤ length pieces → (p : List ℕ) × (ps : List (List ℕ)) × (pieces ≡ p ∷ ps)
one_more [] some = absurd (omega arith)
one_more (p ∷ ps) some = (p, ps, refl)

-- bytes without a line end stand at the front of the first piece
in_front : (head tail : List ℕ) → HasNoEnd head → (p : List ℕ) × (ps : List (List ℕ)) × (pieces_of 10 (head ++ tail) ≡ (head ++ p) ∷ ps)
in_front [] tail none = one_more (pieces_of 10 tail) (pieces_some tail)
in_front (byte ∷ head) tail none =
    let rest = in_front head tail (All-tail (λ (b : ℕ). eqb b 10 ≡ false) byte head none) in (
      rest.0,
      rest.1,
      slice_split-cons_no (λ (b : ℕ). eqb b 10) byte (head ++ tail) (All-head (λ (b : ℕ). eqb b 10 ≡ false) byte head none) ∙ ap (onto_first byte) rest.2,
    )

while_none : (line : List ℕ) (ps : List (List ℕ)) → most_bytes < length line → take_while is_short (take (length (line ∷ ps) - 1) (line ∷ ps)) ≡ []
while_none line [] long = refl
while_none line (q ∷ qs) long =
    let n : length (line ∷ q ∷ qs) - 1 ≡ suc (length qs) = omega arith in
    let not_short : is_short line ≡ false = grind arith in
    ap (λ (k : ℕ). take_while is_short (take k (line ∷ q ∷ qs))) n
    ∙ ap (λ (b : Bool). take (cond b (1 + prefix_len is_short (take (length qs) (q ∷ qs))) 0) (line ∷ take (length qs) (q ∷ qs))) not_short

-- where more bytes than a line may have come without a line end, no line is met
pub long_none : (head tail : List ℕ) → most_bytes < length head → HasNoEnd head → take_while is_short (whole_lines (head ++ tail)) ≡ []
long_none head tail long none =
    let cut = in_front head tail none in
    ap (λ (ps : List (List ℕ)). take_while is_short (take (length ps - 1) ps)) cut.2
    ∙ while_none (head ++ cut.0) cut.1 (let n = length-append head cut.0 in omega arith)
