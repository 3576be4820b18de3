-- What a draw relates, and that no two draws include and exclude one pair.
use Rattle.std.proofs.Common.{◌≡◌, ℕ, ◌+◌, ◌%◌, ◌<◌, ◌⊎◌, Bool, true, false, ◌&&◌, cond, eqb, List, get_or, min, max, Some, None, inl, inr, refl, sym, ap, subst, ◌∙◌, arith}
use Rattle.std.specs.List.{All}
use Rattle.std.proofs.lemmas.Bool.{and_parts, cases_eq, eqb-true, eqb-false, false_from_ne_true}
use Rattle.std.proofs.lemmas.List.Folds.{list_any_none}
use Rattle.dcr_set.specs.EventSet.{has}
use Rattle.dcr_set.proofs.LeastLemmas.{least-none_from}
use Rattle.dcr_graph.specs.Pairs.{Pair, clashes, first_clash}
use Rattle.dcr_graph.specs.Rules.{kind_number, same_kind}
use Rattle.dcr_graph.specs.declared.kind.Kind.{Kind}
use Rattle.dcr_graph.specs.declared.kind.Kind.TheVariants.{Condition, Response, Milestone, Include, Exclude, Cancel}
use Rattle.dcr_graph.proofs.BoolLemmas.{and_false}
use Rattle.dcr_graph.proofs.GraphLemmas.{first_clash-none}
use Rattle.dcr_nest.specs.FlatRelation.{is_related, flat_relation}
use Rattle.dcr_nest.specs.Nest.{Nest, parents_of}
use Rattle.dcr_nest.specs.Tree.{atoms_below}
use Rattle.dcr_load.specs.LoadGraph.{drawn}
use Rattle.dcr_load.proofs.TopLemmas.{tops, only_itself}

-- two of 200 atoms, an include where their sum is even, an exclude where it is odd, and no cancel
pub record IsDrawn (pair : Pair) : Type 0 where
  pub first : pair.1 < 200
  pub second : pair.2 < 200
  pub even : kind_number pair.0 ≡ 3 → (pair.1 + pair.2) % 2 ≡ 0
  pub odd : kind_number pair.0 ≡ 4 → (pair.1 + pair.2) % 2 ≡ 1
  pub no_cancel : same_kind pair.0 Cancel ≡ false

module _ (a b : ℕ) (first : a < 200) (second : b < 200) where
  found : (x pair : Pair) → Some x ≡ Some pair → IsDrawn x → IsDrawn pair
  found x pair is drawn = let same : x ≡ pair = cc in subst IsDrawn same drawn

  ordered : (kind : Kind) (same : Bool) (pair : Pair) → (kind_number kind ≡ 3 → ⊥) → (kind_number kind ≡ 4 → ⊥) → same_kind kind Cancel ≡ false
      → cond same None (Some (kind, min a b, max a b)) ≡ Some pair → IsDrawn pair
  ordered kind true pair three four cancel is = absurd cc
  ordered kind false pair three four cancel is = found (kind, min a b, max a b) pair is (record {
    first = omega arith;
    second = omega arith;
    even = λ e. absurd (three e);
    odd = λ e. absurd (four e);
    no_cancel = cancel;
  })

  parted : (even : Bool) (pair : Pair) → eqb ((a + b) % 2) 0 ≡ even → Some (cond even Include Exclude, a, b) ≡ Some pair → IsDrawn pair
  parted true pair test is = found (Include, a, b) pair is (record {
    first = first;
    second = second;
    even = λ _. eqb-true ((a + b) % 2) 0 test;
    odd = λ e. absurd (omega arith);
    no_cancel = refl;
  })
  parted false pair test is = found (Exclude, a, b) pair is (record {
    first = first;
    second = second;
    even = λ e. absurd (omega arith);
    odd = λ _. (let not_even = eqb-false ((a + b) % 2) 0 test in omega arith);
    no_cancel = refl;
  })

  chosen : (zeroth one two : Bool) (pair : Pair)
      → cond zeroth (cond (eqb a b) None (Some (Condition, min a b, max a b))) (cond one (cond (eqb a b) None (Some (Milestone, min a b, max a b))) (cond two (Some (Response, a, b)) (Some (cond (eqb ((a + b) % 2) 0) Include Exclude, a, b)))) ≡ Some pair
      → IsDrawn pair
  chosen true one two pair is = ordered Condition (eqb a b) pair (λ e. absurd (omega arith)) (λ e. absurd (omega arith)) refl is
  chosen false true two pair is = ordered Milestone (eqb a b) pair (λ e. absurd (omega arith)) (λ e. absurd (omega arith)) refl is
  chosen false false true pair is = found (Response, a, b) pair is (record {
    first = first;
    second = second;
    even = λ e. absurd (omega arith);
    odd = λ e. absurd (omega arith);
    no_cancel = refl;
  })
  chosen false false false pair is = parted (eqb ((a + b) % 2) 0) pair refl is

  pub drawn_is : (kind : ℕ) (pair : Pair) → drawn kind a b ≡ Some pair → IsDrawn pair
  unfolding drawn
  drawn_is kind pair is = chosen (eqb kind 0) (eqb kind 1) (eqb kind 2) pair is

-- atoms are not related by a kind of which no draw relates them
unrelated : (n : ℕ) (relations : List Pair) (kind a b : ℕ) → All IsDrawn relations
    → ((pair : Pair) → IsDrawn pair → kind_number pair.0 ≡ kind → pair.1 ≡ a → pair.2 ≡ b → ⊥) → is_related (tops n) relations kind a b ≡ false
unfolding is_related
unrelated n relations kind a b all never =
    list_any_none (λ (pair : Pair). eqb (kind_number pair.0) kind && (has (atoms_below (tops n) pair.1) a && has (atoms_below (tops n) pair.2) b)) relations (λ k d within.
    let pair = get_or relations k d in
    false_from_ne_true (eqb (kind_number pair.0) kind && (has (atoms_below (tops n) pair.1) a && has (atoms_below (tops n) pair.2) b)) (λ is.
    let outer = and_parts (eqb (kind_number pair.0) kind) (has (atoms_below (tops n) pair.1) a && has (atoms_below (tops n) pair.2) b) is in
    let inner = and_parts (has (atoms_below (tops n) pair.1) a) (has (atoms_below (tops n) pair.2) b) outer.1 in
    never pair (all k d within) (eqb-true (kind_number pair.0) kind outer.0) (sym (only_itself n pair.1 a inner.0)) (sym (only_itself n pair.2 b inner.1))))

parity : (m : ℕ) → (m % 2 ≡ 0) ⊎ (m % 2 ≡ 1)
parity m = elim (cases_eq (m % 2) 0) [ inl even ↦ inl even | inr other ↦ inr (omega arith) ]

pub no_clash : (N : Nest) (n : ℕ) → parents_of N.nodes ≡ tops n → All IsDrawn N.relations → first_clash (flat_relation N) ≡ None
no_clash N n top all =
    first_clash-none (flat_relation N) (λ a _. least-none_from (flat_relation N).atoms (clashes (flat_relation N) a) (λ b _.
    ap (λ parents. is_related parents N.relations 3 a b && is_related parents N.relations 4 a b) top
    ∙ elim (parity (a + b)) [
      | inl even ↦ ap (λ t. is_related (tops n) N.relations 3 a b && t)
          (unrelated n N.relations 4 a b all (λ pair is four first second. let odd = is.odd four in let sum : pair.1 + pair.2 ≡ a + b = omega arith in let bad = ap (λ m. m % 2) sum in absurd (omega arith)))
          ∙ and_false (is_related (tops n) N.relations 3 a b)
      | inr odd ↦ ap (λ t. t && is_related (tops n) N.relations 4 a b)
          (unrelated n N.relations 3 a b all (λ pair is three first second. let even = is.even three in let sum : pair.1 + pair.2 ≡ a + b = omega arith in let bad = ap (λ m. m % 2) sum in absurd (omega arith)))
    ]))
