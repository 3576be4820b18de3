-- What following parents meets: one step at a time, and of tests that are joined.
use Rattle.std.proofs.Common.{◌≡◌, ℕ, zero, suc, ◌<◌, ◌≤◌, Bool, true, false, ◌&&◌, ◌||◌, eqb, List, [], ◌∷◌, length, Option, Some, None, inl, inr, refl, sym, ap, ◌∙◌, arith}
use Rattle.std.specs.List.{list_any}
use Rattle.std.specs.Option.{option_map_or}
use Rattle.std.proofs.lemmas.Bool.{cases_lt}
use Rattle.std.proofs.lemmas.List.{get_or_past}
use Rattle.std.proofs.lemmas.Option.{none-some}
use Rattle.dcr_graph.proofs.BoolLemmas.{and_false, or_false}
use Rattle.dcr_nest.specs.Tree.{Parents, parent_of, AreEarlier, meets}

-- only a node has a parent
pub parent_within : (parents : Parents) (x p : ℕ) → parent_of parents x ≡ Some p → x < length parents
parent_within parents x p h = elim (cases_lt x (length parents)) [
  | inl within ↦ within
  | inr past ↦ absurd (none-some p (sym (get_or_past parents x None past) ∙ h))
]

-- two tests that agree on the parent
pub same_at_parent : (f g : ℕ → Bool) (parent : Option ℕ) → ((p : ℕ) → parent ≡ Some p → f p ≡ g p) → option_map_or f parent false ≡ option_map_or g parent false
same_at_parent f g None h = refl
same_at_parent f g (Some p) h = h p refl

pub no_parent : (f : ℕ → Bool) (parent : Option ℕ) → ((p : ℕ) → parent ≡ Some p → ⊥) → option_map_or f parent false ≡ false
no_parent f None h = refl
no_parent f (Some p) h = absurd (h p refl)

-- from x there are at most x steps
enough : (parents : Parents) (passes : ℕ → Bool) → AreEarlier parents → (n x : ℕ) → x ≤ n → meets parents passes (suc n) x ≡ meets parents passes n x
unfolding meets
enough parents passes earlier zero x h =
    ap (λ t. passes x || t) (no_parent (meets parents passes zero) (parent_of parents x) (λ p e. let l = earlier x p e in omega arith))
    ∙ or_false (passes x)
enough parents passes earlier (suc n) x h =
    ap (λ t. passes x || t) (same_at_parent (meets parents passes (suc n)) (meets parents passes n) (parent_of parents x)
    (λ p e. let l = earlier x p e in enough parents passes earlier n p (omega arith)))

-- what is met from x is met at x, or from its parent
pub meets_once : (parents : Parents) (passes : ℕ → Bool) → AreEarlier parents → (n x : ℕ) → n ≡ length parents
    → meets parents passes n x ≡ (passes x || option_map_or (meets parents passes n) (parent_of parents x) false)
unfolding meets
meets_once parents passes earlier zero x all =
    sym (ap (λ t. passes x || t) (no_parent (meets parents passes zero) (parent_of parents x) (λ p e. let l = parent_within parents x p e in omega arith)) ∙ or_false (passes x))
meets_once parents passes earlier (suc n) x all =
    ap (λ t. passes x || t) (same_at_parent (meets parents passes n) (meets parents passes (suc n)) (parent_of parents x)
    (λ p e. let l = parent_within parents x p e in let k = earlier x p e in sym (enough parents passes earlier n p (omega arith))))

or_four : (a b c d : Bool) → ((a || b) || (c || d)) ≡ ((a || c) || (b || d))
or_four true b c d = refl
or_four false true true d = refl
or_four false true false d = refl
or_four false false c d = refl

at_parent-or : (F f g : ℕ → Bool) → ((p : ℕ) → F p ≡ (f p || g p)) → (parent : Option ℕ) → option_map_or F parent false ≡ (option_map_or f parent false || option_map_or g parent false)
at_parent-or F f g h None = refl
at_parent-or F f g h (Some p) = h p

-- either of two
pub meets-or : (parents : Parents) (f g : ℕ → Bool) (n x : ℕ) → meets parents (λ z. f z || g z) n x ≡ (meets parents f n x || meets parents g n x)
unfolding meets
meets-or parents f g zero x = refl
meets-or parents f g (suc n) x =
    ap (λ t. (f x || g x) || t) (at_parent-or (meets parents (λ z. f z || g z) n) (meets parents f n) (meets parents g n) (meets-or parents f g n) (parent_of parents x))
    ∙ or_four (f x) (g x) (option_map_or (meets parents f n) (parent_of parents x) false) (option_map_or (meets parents g n) (parent_of parents x) false)

both_in : (a b c d : Bool) → ((a && (c && b)) || (a && (d && b))) ≡ (a && ((c || d) && b))
both_in false b c d = refl
both_in true true true d = refl
both_in true true false d = refl
both_in true false true d = and_false d
both_in true false false d = refl

at_parent-and : (F f : ℕ → Bool) (a b : Bool) → ((p : ℕ) → F p ≡ (a && (f p && b))) → (parent : Option ℕ) → option_map_or F parent false ≡ (a && (option_map_or f parent false && b))
at_parent-and F f a b h None = sym (and_false a)
at_parent-and F f a b h (Some p) = h p

-- what does not depend on the node stands outside
pub meets-and : (parents : Parents) (a b : Bool) (f : ℕ → Bool) (n x : ℕ) → meets parents (λ z. a && (f z && b)) n x ≡ (a && (meets parents f n x && b))
unfolding meets
meets-and parents a b f zero x = refl
meets-and parents a b f (suc n) x =
    ap (λ t. (a && (f x && b)) || t) (at_parent-and (meets parents (λ z. a && (f z && b)) n) (meets parents f n) a b (meets-and parents a b f n) (parent_of parents x))
    ∙ both_in a b (f x) (option_map_or (meets parents f n) (parent_of parents x) false)

at_parent-none : (F : ℕ → Bool) → ((p : ℕ) → F p ≡ false) → (parent : Option ℕ) → option_map_or F parent false ≡ false
at_parent-none F h None = refl
at_parent-none F h (Some p) = h p

pub meets-none : (parents : Parents) (n x : ℕ) → meets parents (λ _. false) n x ≡ false
unfolding meets
meets-none parents zero x = refl
meets-none parents (suc n) x = at_parent-none (meets parents (λ _. false) n) (meets-none parents n) (parent_of parents x)

-- some of a list that names the node
pub meets-any : {R : Type 0} (parents : Parents) (A B : R → Bool) (node : R → ℕ) (rs : List R) (n x : ℕ)
    → meets parents (λ z. list_any (λ r. A r && (eqb z (node r) && B r)) rs) n x ≡ list_any (λ r. A r && (meets parents (λ z. eqb z (node r)) n x && B r)) rs
meets-any parents A B node [] n x = meets-none parents n x
meets-any parents A B node (r ∷ rs) n x =
    meets-or parents (λ z. A r && (eqb z (node r) && B r)) (λ z. list_any (λ s. A s && (eqb z (node s) && B s)) rs) n x
    ∙ ap (λ t. t || meets parents (λ z. list_any (λ s. A s && (eqb z (node s) && B s)) rs) n x) (meets-and parents (A r) (B r) (λ z. eqb z (node r)) n x)
    ∙ ap (λ t. (A r && (meets parents (λ z. eqb z (node r)) n x && B r)) || t) (meets-any parents A B node rs n x)

-- from a node without a parent nothing else is met
pub meets_at_top : (parents : Parents) (passes : ℕ → Bool) (n x : ℕ) → parent_of parents x ≡ None → meets parents passes n x ≡ passes x
unfolding meets
meets_at_top parents passes zero x top = refl
meets_at_top parents passes (suc n) x top = ap (λ parent. passes x || option_map_or (meets parents passes n) parent false) top ∙ or_false (passes x)
