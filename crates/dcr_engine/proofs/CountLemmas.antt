-- How many entries a history has, session by session.
use Rattle.std.proofs.Common.{inl, inr, ◌≡◌, ℕ, zero, suc, ◌+◌, ◌<◌, ◌≤◌, Bool, eqb, cond, List, [], ◌∷◌, length, get_or, map, take, refl, sym, ap, subst, ◌∙◌, arith}
use Rattle.std.specs.Prelude.{filter, ltb}
use Rattle.std.specs.List.{All, count_by, sum_by}
use Rattle.std.proofs.lemmas.Bool.{cases_lt, cases_order, lt-ltb, le-ltb, eq-eqb, ne_eqb}
use Rattle.std.proofs.lemmas.List.{take_all}
use Rattle.std.proofs.lemmas.List.Elements.{All-head, All-tail}
use Rattle.std.proofs.lemmas.List.Sums.{sum_by-cons, sum_by_more}
use Rattle.dcr_journal.specs.Run.{calls_of, made_by}
use Rattle.dcr_journal.specs.declared.call.Call.{Call}
use Rattle.dcr_journal.specs.declared.call.Entry.{Entry}

-- how many entries are of the sessions below k
abbrev made_below : ℕ → List Entry → ℕ
made_below k J = count_by (λ (entry : Entry). ltb entry.session k) J

below_none : (J : List Entry) → made_below 0 J ≡ 0
below_none [] = refl
below_none (entry ∷ J) =
    sum_by-cons (λ (x : Entry). cond (ltb x.session 0) 1 0) entry J
    ∙ ap (λ (b : Bool). cond b 1 0 + made_below 0 J) (le-ltb entry.session 0 (omega arith))
    ∙ (let rest = below_none J in omega arith)

-- an entry is of a session below k, or of k, or of a later one
one_more : (s k : ℕ) → cond (ltb s (k + 1)) 1 0 ≡ cond (ltb s k) 1 0 + cond (eqb s k) 1 0
one_more s k = elim (cases_order s k) [
  | inl same ↦
      ap (λ (b : Bool). cond b 1 0) (lt-ltb s (k + 1) (omega arith))
      ∙ sym (ap (λ (b : Bool). cond b 1 0 + cond (eqb s k) 1 0) (le-ltb s k (omega arith)) ∙ ap (λ (b : Bool). 0 + cond b 1 0) (eq-eqb s k same))
  | inr (inl less) ↦
      ap (λ (b : Bool). cond b 1 0) (lt-ltb s (k + 1) (omega arith))
      ∙ sym (ap (λ (b : Bool). cond b 1 0 + cond (eqb s k) 1 0) (lt-ltb s k less) ∙ ap (λ (b : Bool). 1 + cond b 1 0) (ne_eqb s k (λ same. absurd (omega arith))))
  | inr (inr more) ↦
      ap (λ (b : Bool). cond b 1 0) (le-ltb s (k + 1) (omega arith))
      ∙ sym (ap (λ (b : Bool). cond b 1 0 + cond (eqb s k) 1 0) (le-ltb s k (omega arith)) ∙ ap (λ (b : Bool). 0 + cond b 1 0) (ne_eqb s k (λ same. absurd (omega arith))))
]

below_more : (k : ℕ) (J : List Entry) → made_below (k + 1) J ≡ made_below k J + made_by k J
below_more k [] = refl
below_more k (entry ∷ J) =
    let s = entry.session in
    let first : made_below (k + 1) (entry ∷ J) ≡ cond (ltb s (k + 1)) 1 0 + made_below (k + 1) J = sum_by-cons (λ (x : Entry). cond (ltb x.session (k + 1)) 1 0) entry J in
    let second : made_below k (entry ∷ J) ≡ cond (ltb s k) 1 0 + made_below k J = sum_by-cons (λ (x : Entry). cond (ltb x.session k) 1 0) entry J in
    let third : made_by k (entry ∷ J) ≡ cond (eqb s k) 1 0 + made_by k J = sum_by-cons (λ (x : Entry). cond (eqb x.session k) 1 0) entry J in
    let here = one_more s k in
    let rest = below_more k J in
    omega (arith, first, second, third, here, rest)

below_all : (n : ℕ) (J : List Entry) → All (λ (entry : Entry). entry.session < n) J → made_below n J ≡ length J
below_all n [] all = refl
below_all n (entry ∷ J) all =
    sum_by-cons (λ (x : Entry). cond (ltb x.session n) 1 0) entry J
    ∙ ap (λ (b : Bool). cond b 1 0 + made_below n J) (lt-ltb entry.session n (All-head (λ (x : Entry). x.session < n) entry J all))
    ∙ (let rest = below_all n J (All-tail (λ (x : Entry). x.session < n) entry J all) in omega (arith, rest))

abbrev len : List Call → ℕ
len calls = length calls

-- no session has made more than its calls
abbrev pub IsWithin : List (List Call) → List Entry → Type 0
IsWithin sessions J = (k : ℕ) → k < length sessions → made_by k J ≤ length (get_or sessions k [])

next : (k : ℕ) → suc k ≡ k + 1
next k = omega arith

below_within : (sessions : List (List Call)) (J : List Entry) → IsWithin sessions J → (k : ℕ) → k ≤ length sessions → made_below k J ≤ sum_by len (take k sessions)
below_within sessions J within zero fits = let none = below_none J in omega (arith, none)
below_within sessions J within (suc k) fits =
    let here : k < length sessions = omega arith in
    let before = below_within sessions J within k (omega arith) in
    let grown : made_below (suc k) J ≡ made_below k J + made_by k J = ap (λ (i : ℕ). made_below i J) (next k) ∙ below_more k J in
    let sum : sum_by len (take (suc k) sessions) ≡ sum_by len (take k sessions) + length (get_or sessions k []) = ap (λ (i : ℕ). sum_by len (take i sessions)) (next k) ∙ sum_by_more len sessions k [] here in
    let one = within k here in
    omega (arith, before, grown, sum, one)

-- where one has made fewer, all together have
below_fewer : (sessions : List (List Call)) (J : List Entry) → IsWithin sessions J → (j : ℕ) → made_by j J < length (get_or sessions j []) → (k : ℕ) → k ≤ length sessions → j < k
    → made_below k J < sum_by len (take k sessions)
below_fewer sessions J within j fewer zero fits less = absurd (omega arith)
below_fewer sessions J within j fewer (suc k) fits less =
    let here : k < length sessions = omega arith in
    let grown : made_below (suc k) J ≡ made_below k J + made_by k J = ap (λ (i : ℕ). made_below i J) (next k) ∙ below_more k J in
    let sum : sum_by len (take (suc k) sessions) ≡ sum_by len (take k sessions) + length (get_or sessions k []) = ap (λ (i : ℕ). sum_by len (take i sessions)) (next k) ∙ sum_by_more len sessions k [] here in
    elim (cases_lt j k) [
      | inl earlier ↦
          (let before = below_fewer sessions J within j fewer k (omega arith) earlier in
          let one = within k here in
          omega (arith, before, grown, sum, one))
      | inr last ↦
          (let before = below_within sessions J within k (omega arith) in
          let same : j ≡ k = omega arith in
          let one : made_by k J < length (get_or sessions k []) = subst (λ (i : ℕ). made_by i J < length (get_or sessions i [])) same fewer in
          omega (arith, before, grown, sum, one))
    ]

whole : (sessions : List (List Call)) → sum_by len (take (length sessions) sessions) ≡ sum_by len sessions
whole sessions = ap (sum_by len) (take_all (length sessions) sessions (omega arith))

pub most : (sessions : List (List Call)) (J : List Entry) → All (λ (entry : Entry). entry.session < length sessions) J → IsWithin sessions J
    → length J ≤ sum_by (λ (calls : List Call). length calls) sessions
most sessions J below within =
    let all = below_all (length sessions) J below in
    let few = below_within sessions J within (length sessions) (omega arith) in
    let sum = whole sessions in
    omega (arith, all, few, sum)

-- where the entries are as many as the calls, no session has made fewer
pub made_each : (sessions : List (List Call)) (J : List Entry) → All (λ (entry : Entry). entry.session < length sessions) J → IsWithin sessions J
    → (k : ℕ) → k < length sessions → (made_by k J < length (get_or sessions k []) → sum_by (λ (calls : List Call). length calls) sessions ≤ length J) → made_by k J ≡ length (get_or sessions k [])
made_each sessions J below within k here many =
    elim (cases_lt (made_by k J) (length (get_or sessions k []))) [
      | inl fewer ↦
          (let all = below_all (length sessions) J below in
          let few = below_fewer sessions J within k fewer (length sessions) (omega arith) here in
          let sum = whole sessions in
          let enough = many fewer in
          absurd (omega (arith, all, few, sum, enough)))
      | inr more ↦ (let most_made = within k here in omega (arith, most_made, more))
    ]

-- a session that isn't there has no entry
pub made_none : (n k : ℕ) (J : List Entry) → n ≤ k → All (λ (entry : Entry). entry.session < n) J → calls_of k J ≡ []
made_none n k [] past below = refl
made_none n k (entry ∷ J) past below =
    let first : entry.session < n = All-head (λ (x : Entry). x.session < n) entry J below in
    let rest = filter (λ (x : Entry). eqb x.session k) J in
    ap (λ (b : Bool). map (λ (x : Entry). x.call) (cond b (entry ∷ rest) rest)) (ne_eqb entry.session k (λ same. absurd (omega arith)))
    ∙ made_none n k J past (All-tail (λ (x : Entry). x.session < n) entry J below)

-- entries of sessions of which none has one are none
pub none_made : (n : ℕ) (J : List Entry) → All (λ (entry : Entry). entry.session < n) J → ((k : ℕ) → k < n → made_by k J ≡ 0) → J ≡ []
none_made n [] below none = refl
none_made n (entry ∷ J) below none =
    let first : entry.session < n = All-head (λ (x : Entry). x.session < n) entry J below in
    let made : made_by entry.session (entry ∷ J) ≡ 1 + made_by entry.session J =
    sum_by-cons (λ (x : Entry). cond (eqb x.session entry.session) 1 0) entry J
    ∙ ap (λ (b : Bool). cond b 1 0 + made_by entry.session J) (eq-eqb entry.session entry.session refl) in
    let no_more = none entry.session first in
    absurd (omega (arith, made, no_more))
