-- A history in which the sessions never fall has their calls one session after the other.
use Rattle.std.proofs.Common.{inl, inr, ◌≡◌, ℕ, suc, ◌+◌, ◌-◌, ◌<◌, ◌≤◌, Bool, eqb, cond, List, [], ◌∷◌, ◌++◌, length, get_or, map, Some, refl, sym, ap, subst, ◌∙◌, arith}
use Rattle.std.specs.Prelude.{filter, slice_get}
use Rattle.std.proofs.lemmas.Bool.{cases_lt, cases_order, eq-eqb, ne_eqb}
use Rattle.dcr_journal.specs.Run.{calls_of, numbered}
use Rattle.dcr_journal.specs.declared.call.Call.{Call}
use Rattle.dcr_journal.specs.declared.call.Entry.{Entry}

-- what was asked by an entry
abbrev pub asked_by : Entry → ℕ × Call
asked_by entry = (entry.session, entry.call)

-- the sessions don't fall, from this one on
abbrev pub RisesFrom : ℕ → List Entry → Type 0
RisesFrom s [] = Unit {0}
RisesFrom s (entry ∷ J) = (s ≤ entry.session) × RisesFrom entry.session J

calls_own : (s : ℕ) (entry : Entry) (J : List Entry) → entry.session ≡ s → calls_of s (entry ∷ J) ≡ entry.call ∷ calls_of s J
calls_own s entry J same =
    let rest = filter (λ (x : Entry). eqb x.session s) J in
    ap (λ (b : Bool). map (λ (x : Entry). x.call) (cond b (entry ∷ rest) rest)) (eq-eqb entry.session s same)

calls_other : (s : ℕ) (entry : Entry) (J : List Entry) → (entry.session ≡ s → ⊥) → calls_of s (entry ∷ J) ≡ calls_of s J
calls_other s entry J other =
    let rest = filter (λ (x : Entry). eqb x.session s) J in
    ap (λ (b : Bool). map (λ (x : Entry). x.call) (cond b (entry ∷ rest) rest)) (ne_eqb entry.session s other)

-- no call of an earlier session comes
none_earlier : (s t : ℕ) (J : List Entry) → s < t → RisesFrom t J → calls_of s J ≡ []
none_earlier s t [] less rises = refl
none_earlier s t (entry ∷ J) less rises =
    calls_other s entry J (λ same. absurd (let first = rises.0 in omega arith))
    ∙ none_earlier s entry.session J (let first = rises.0 in omega arith) rises.1

no_call : (call : Call) (calls : List Call) → call ∷ calls ≡ [] → ⊥
no_call call calls is = let e : length (call ∷ calls) ≡ 0 = ap (λ (l : List Call). length l) is in absurd (omega arith)

-- an entry of a later session has none of this one behind it
no_more : (s : ℕ) (entry : Entry) (J : List Entry) (call : Call) (calls : List Call) → s < entry.session → RisesFrom entry.session J → calls_of s (entry ∷ J) ≡ call ∷ calls → ⊥
no_more s entry J call calls later rises are =
    no_call call calls (sym are ∙ calls_other s entry J (λ same. absurd (omega arith)) ∙ none_earlier s entry.session J later rises)

abbrev first_of : Call → List Call → Call
first_of d [] = d
first_of d (call ∷ calls) = call

abbrev others_of : List Call → List Call
others_of [] = []
others_of (call ∷ calls) = calls

-- what follows the calls of one session
abbrev Follows : ℕ → List Entry → List (ℕ × Call) → Type 0
Follows s J rest = (K : List Entry) → RisesFrom (s + 1) K → ((k : ℕ) → s < k → calls_of k K ≡ calls_of k J) → map asked_by K ≡ rest

one_session : (s : ℕ) (calls : List Call) (J : List Entry) (rest : List (ℕ × Call)) → RisesFrom s J → calls_of s J ≡ calls → Follows s J rest
    → map asked_by J ≡ map (λ call. (s, call)) calls ++ rest
one_session s [] [] rest rises are follows = follows [] (record {}) (λ k less. refl)
one_session s [] (entry ∷ J) rest rises are follows = elim (cases_order s entry.session) [
  | inl same ↦ absurd (no_call entry.call (calls_of s J) (sym (calls_own s entry J (sym same)) ∙ are))
  | inr (inl less) ↦ follows (entry ∷ J) ((let e : s + 1 ≤ entry.session = omega arith in e), rises.1) (λ k later. refl)
  | inr (inr more) ↦ absurd (let first = rises.0 in omega arith)
]
one_session s (call ∷ calls) [] rest rises are follows = absurd (no_call call calls (sym are))
one_session s (call ∷ calls) (entry ∷ J) rest rises are follows = elim (cases_order s entry.session) [
  | inl same ↦
      (let own : entry.call ∷ calls_of s J ≡ call ∷ calls = sym (calls_own s entry J (sym same)) ∙ are in
      let one : entry.call ≡ call = ap (first_of call) own in
      let left : calls_of s J ≡ calls = ap others_of own in
      let later : RisesFrom s J = subst (λ (t : ℕ). RisesFrom t J) (sym same) rises.1 in
      let next : Follows s J rest = λ K up kept. follows K up (λ k less. kept k less ∙ sym (calls_other k entry J (λ is. absurd (omega arith)))) in
      ap (λ (xs : List (ℕ × Call)). asked_by entry ∷ xs) (one_session s calls J rest later left next)
      ∙ ap (λ (t : ℕ). (t, entry.call) ∷ (map (λ c. (s, c)) calls ++ rest)) (sym same)
      ∙ ap (λ (c : Call). (s, c) ∷ (map (λ d. (s, d)) calls ++ rest)) one)
  | inr (inl less) ↦ absurd (no_more s entry J call calls less rises.1 are)
  | inr (inr more) ↦ absurd (let first = rises.0 in omega arith)
]

-- the calls of all sessions from s on
pub in_turn : (sessions : List (List Call)) (s : ℕ) (J : List Entry) → RisesFrom s J → ((j : ℕ) → calls_of (s + j) J ≡ get_or sessions j []) → map asked_by J ≡ numbered s sessions
in_turn [] s [] rises are = refl
in_turn [] s (entry ∷ J) rises are =
    let first = rises.0 in
    let at : s + (entry.session - s) ≡ entry.session = omega arith in
    absurd (no_call entry.call (calls_of entry.session J)
    (sym (calls_own entry.session entry J refl) ∙ ap (λ (k : ℕ). calls_of k (entry ∷ J)) (sym at) ∙ are (entry.session - s)))
in_turn (calls ∷ sessions) s J rises are =
    one_session s calls J (numbered (s + 1) sessions) rises (ap (λ (k : ℕ). calls_of k J) (let e : s ≡ s + 0 = omega arith in e) ∙ are 0)
    (λ K up kept. in_turn sessions (s + 1) K up (λ j.
    let at : s + 1 + j ≡ s + suc j = omega arith in
    kept (s + 1 + j) (omega arith) ∙ ap (λ (k : ℕ). calls_of k J) at ∙ are (suc j)))

-- of entries whose sessions never fall by their places
pub rises_by_place : (s : ℕ) (J : List Entry) → ((a : ℕ) (x : Entry) → slice_get J a ≡ Some x → s ≤ x.session)
    → ((a b : ℕ) (x y : Entry) → slice_get J a ≡ Some x → slice_get J b ≡ Some y → x.session < y.session → a < b) → RisesFrom s J
rises_by_place s [] least order = record {}
rises_by_place s (entry ∷ J) least order = (
  least 0 entry refl,
  rises_by_place entry.session J
      (λ a x here. elim (cases_lt x.session entry.session) [
        | inl less ↦ absurd (let turned : suc a < 0 = order (suc a) 0 x entry here refl less in omega arith)
        | inr fits ↦ fits
      ])
      (λ a b x y x_at y_at less. let below : suc a < suc b = order (suc a) (suc b) x y x_at y_at less in omega arith),
)
