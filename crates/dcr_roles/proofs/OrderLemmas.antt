-- Stages that refuse in an order: what the first refusal is, both ways.
use Rattle.std.proofs.Common.{◌≡◌, ℕ, ◌+◌, ◌<◌, inl, inr, List, Result, Ok, Err, sym, ap, ◌∙◌, subst, arith}
use Rattle.std.proofs.lemmas.Bool.{cases_lt}
use Rattle.dcr_roles.specs.Order.{EachAt, FailsFirst, IsFirstToFail, RefusesFirst}
use Rattle.dcr_roles.specs.Stages.{next_stage}

-- ---- one stage

-- it gave something, and its kind holds, or it refused its kind in a way in which it fails
pub data Outcome {A I E : Type 0} (stop : I → E) (r : Result A E) (Holding : Type 0) (Failing : I → Type 0) : Type 0 where
  passed : (x : A) → r ≡ Ok x → Holding → Outcome stop r Holding Failing
  failed : (i : I) → r ≡ Err (stop i) → Failing i → Outcome stop r Holding Failing

-- ---- each of a list

pub not_each : {A : Type 0} (P : ℕ → A → Type 0) (xs : List A) (i : ℕ) → FailsFirst P xs i → EachAt P xs → ⊥
not_each P xs i first each = first.fails (each i first.element first.at)

pub least_alone : {A : Type 0} (P : ℕ → A → Type 0) (xs : List A) (i j : ℕ) → FailsFirst P xs i → FailsFirst P xs j → i ≡ j
least_alone P xs i j a b = elim (cases_lt i j) [
  | inl less ↦ absurd (a.fails (b.earlier i a.element less a.at))
  | inr not_less ↦ elim (cases_lt j i) [
    | inl more ↦ absurd (b.fails (a.earlier j b.element more b.at))
    | inr not_more ↦ omega arith
  ]
]

-- ---- stages one after another

-- all hold, or one is the first to fail
pub data Ends {K I W E : Type 0} (rank : K → ℕ) (stop : K → I → E) (Holds : K → Type 0) (Fails : K → I → Type 0) (r : Result W E) : Type 0 where
  all_hold : (w : W) → r ≡ Ok w → ((k : K) → Holds k) → Ends rank stop Holds Fails r
  first_fails : (k : K) (i : I) → r ≡ Err (stop k i) → IsFirstToFail rank Holds Fails k i → Ends rank stop Holds Fails r

-- the kinds can be told apart by their ranks, and one that fails does not hold and fails in one way
pub record IsOrder {K I E : Type 0} (rank : K → ℕ) (stop : K → I → E) (Holds : K → Type 0) (Fails : K → I → Type 0) : Type 0 where
  pub same_kind : (k other : K) → rank k ≡ rank other → k ≡ other
  pub not_both : (k : K) (i : I) → Fails k i → Holds k → ⊥
  pub one_way : (k : K) (i j : I) → Fails k i → Fails k j → i ≡ j
  pub stop_kind : (k other : K) (i j : I) → stop k i ≡ stop other j → k ≡ other
  pub stop_way : (k other : K) (i j : I) → stop k i ≡ stop other j → i ≡ j

-- the kinds below a rank hold
abbrev pub UpTo : {K : Type 0} → (K → ℕ) → (K → Type 0) → ℕ → Type 0
UpTo {K} rank Holds n = (other : K) → rank other < n → Holds other

pub up_to_none : {K : Type 0} (rank : K → ℕ) (Holds : K → Type 0) → UpTo rank Holds 0
up_to_none rank Holds other l = absurd (omega arith)

module _ {K I E : Type 0} (rank : K → ℕ) (stop : K → I → E) (Holds : K → Type 0) (Fails : K → I → Type 0) (order : IsOrder rank stop Holds Fails) where
  pub up_to_next : (k : K) → UpTo rank Holds (rank k) → Holds k → UpTo rank Holds (rank k + 1)
  up_to_next k before here other l = elim (cases_lt (rank other) (rank k)) [
    | inl less ↦ before other less
    | inr not_less ↦ let same : rank k ≡ rank other = omega arith in subst Holds (order.same_kind k other same) here
  ]

  -- ---- one refusal alone

  kind_alone : (k other : K) (i j : I) → IsFirstToFail rank Holds Fails k i → IsFirstToFail rank Holds Fails other j → k ≡ other
  kind_alone k other i j a b = elim (cases_lt (rank k) (rank other)) [
    | inl less ↦ absurd (order.not_both k i a.fails (b.earlier k less))
    | inr not_less ↦ elim (cases_lt (rank other) (rank k)) [ inl more ↦ absurd (order.not_both other j b.fails (a.earlier other more)) | inr not_more ↦ order.same_kind k other (omega arith) ]
  ]

  same_stop : (k other : K) (i j : I) → IsFirstToFail rank Holds Fails k i → IsFirstToFail rank Holds Fails other j → stop k i ≡ stop other j
  same_stop k other i j a b =
      let kind = kind_alone k other i j a b in
      let way = order.one_way other i j (subst (λ (q : K). Fails q i) kind a.fails) b.fails in
      ap (λ (q : K). stop q i) kind ∙ ap (stop other) way

  -- one stage and those after it
  pub stage : {A W : Type 0} (k : K) (r : Result A E) (f : A → Result W E) (H : Type 0) (F : I → Type 0) → Outcome (stop k) r H F → (H → Holds k) → ((i : I) → F i → Fails k i) → UpTo rank Holds (rank k)
      → ((x : A) → r ≡ Ok x → UpTo rank Holds (rank k + 1) → Ends rank stop Holds Fails (f x)) → Ends rank stop Holds Fails (next_stage f r)
  stage k r f H F (passed x e h) holding failing before next = subst (Ends rank stop Holds Fails) (sym (ap (next_stage f) e)) (next x e (up_to_next k before (holding h)))
  stage k r f H F (failed i e h) holding failing before next = first_fails k i (ap (next_stage f) e) (record { earlier = before; fails = failing i h })

  -- ---- the law

  refused_from : {W : Type 0} (r : Result W E) → Ends rank stop Holds Fails r → (k : K) (i : I) → r ≡ Err (stop k i) → IsFirstToFail rank Holds Fails k i
  refused_from r (all_hold w is holds) k i e = absurd (let bad = sym is ∙ e in cc)
  refused_from r (first_fails other j is first) k i e =
      let same : stop other j ≡ stop k i = let whole = sym is ∙ e in cc in
      subst (λ (way : I). IsFirstToFail rank Holds Fails k way) (order.stop_way other k j i same) (subst (λ (q : K). IsFirstToFail rank Holds Fails q j) (order.stop_kind other k j i same) first)

  refused_where : {W : Type 0} (r : Result W E) → Ends rank stop Holds Fails r → (k : K) (i : I) → IsFirstToFail rank Holds Fails k i → r ≡ Err (stop k i)
  refused_where r (all_hold w is holds) k i first = absurd (order.not_both k i first.fails (holds k))
  refused_where r (first_fails other j is this) k i first = is ∙ ap Err (same_stop other k j i this first)

  no_other : {W : Type 0} (r : Result W E) → Ends rank stop Holds Fails r → (e : E) → r ≡ Err e → (k : K) × (i : I) × (e ≡ stop k i)
  no_other r (all_hold w is holds) e h = absurd (let bad = sym is ∙ h in cc)
  no_other r (first_fails k i is first) e h = (k, i, let whole = sym is ∙ h in cc)

  given_where : {W : Type 0} (r : Result W E) → Ends rank stop Holds Fails r → ((k : K) → Holds k) → (w : W) × (r ≡ Ok w)
  given_where r (all_hold w is all) holds = (w, is)
  given_where r (first_fails k i is first) holds = absurd (order.not_both k i first.fails (holds k))

  given_from : {W : Type 0} (r : Result W E) → Ends rank stop Holds Fails r → (w : W) × (r ≡ Ok w) → (k : K) → Holds k
  given_from r (all_hold w is all) found = all
  given_from r (first_fails k i is first) found = absurd (let bad = sym is ∙ found.1 in cc)

  pub refuses_first : {W : Type 0} (r : Result W E) → Ends rank stop Holds Fails r → RefusesFirst rank stop Holds Fails r
  refuses_first r ends = record {
    refused = λ k i. (refused_from r ends k i, refused_where r ends k i);
    no_other = no_other r ends;
    given = (given_from r ends, given_where r ends);
  }
