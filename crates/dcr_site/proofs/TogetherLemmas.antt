-- Lists of sites that stand together: one site more, and the least atom that waits.
use Rattle.std.proofs.Common.{◌≡◌, ℕ, ◌+◌, ◌<◌, ◌≤◌, Bool, true, false, ◌&&◌, ◌||◌, List, [], ◌∷◌, ◌++◌, length, take, Option, Some, None, inl, inr, refl, sym, ap, subst, ◌∙◌, arith}
use Rattle.std.specs.List.{list_any}
use Rattle.std.specs.Prelude.{slice_get}
use Rattle.std.proofs.lemmas.List.{length-append, take_all}
use Rattle.std.proofs.lemmas.List.Folds.{list_any_more}
use Rattle.std.proofs.lemmas.Option.{slice_get_within}
use Rattle.dcr_set.specs.EventSet.{Set, has}
use Rattle.dcr_set.specs.Least.{least, lesser}
use Rattle.dcr_set.proofs.LeastLemmas.{least-none_from, least-ext, lesser-least}
use Rattle.dcr_set.proofs.ListLemmas.{push_cases}
use Rattle.dcr_graph.specs.Cause.{waits}
use Rattle.dcr_graph.specs.Rows.{row}
use Rattle.dcr_graph.specs.Rules.{Rules}
use Rattle.dcr_graph.specs.declared.marking.Marking.{Marking}
use Rattle.dcr_proj.specs.CoverValue.{IsCovered}
use Rattle.dcr_site.specs.Decision.{owned_waits}
use Rattle.dcr_site.specs.Seen.{Seen, StandsAt}
use Rattle.dcr_site.specs.Together.{IsOver, AreOver, waits_in}

-- the sites before i stand with their owned sets
pub record StandBefore (G : Rules) (C : List Set) (M : Marking) (i : ℕ) (sites : List Seen) : Type 0 where
  pub as_many : length sites ≡ i
  pub each : (j : ℕ) (site : Seen) → slice_get sites j ≡ Some site → StandsAt G (row C j) M site

pub stand_none : (G : Rules) (C : List Set) (M : Marking) → StandBefore G C M 0 []
stand_none G C M = record { as_many = refl; each = λ j site is. absurd (let below : j < 0 = slice_get_within [] j site is in omega arith) }

pub stand_more : (G : Rules) (C : List Set) (M : Marking) (i : ℕ) (sites : List Seen) (site : Seen) → StandBefore G C M i sites → StandsAt G (row C i) M site
    → StandBefore G C M (i + 1) (sites ++ site ∷ [])
stand_more G C M i sites site before here = record {
  as_many = length-append sites (site ∷ []) ∙ ap (λ n. n + 1) before.as_many;
  each = λ j found is. elim (push_cases sites site j found is) [
    | inl at ↦ subst (StandsAt G (row C j) M) (sym at.1) (subst (λ k. StandsAt G (row C k) M site) (sym (at.0 ∙ before.as_many)) here)
    | inr old ↦ before.each j found old
  ];
}

pub over_none : (n : ℕ) → AreOver n []
over_none n = λ j site is. absurd (let below : j < 0 = slice_get_within [] j site is in omega arith)

pub over_more : (n : ℕ) (sites : List Seen) (site : Seen) → AreOver n sites → IsOver n site → AreOver n (sites ++ site ∷ [])
over_more n sites site before here = λ j found is. elim (push_cases sites site j found is) [
  | inl at ↦ subst (IsOver n) (sym at.1) here
  | inr old ↦ before j found old
]

-- ---- what the sites wait for together

pub waits_none : (n : ℕ) (C : List Set) (M : Marking) → None ≡ least n (waits_in (take 0 C) M)
waits_none n C M = sym (least-none_from n (waits_in (take 0 C) M) (λ j below. refl))

pub waits_more : (G : Rules) (C : List Set) (M : Marking) (i : ℕ) (first own : Option ℕ) → i < length C → first ≡ least G.atoms (waits_in (take i C) M)
    → own ≡ owned_waits G (row C i) M → lesser first own ≡ least G.atoms (waits_in (take (i + 1) C) M)
waits_more G C M i first own within before here =
    ap (λ o. lesser o own) before ∙ ap (lesser (least G.atoms (waits_in (take i C) M))) here
    ∙ lesser-least G.atoms (waits_in (take i C) M) (λ a. has (row C i) a && (has M.included a && has M.pending a))
    ∙ least-ext G.atoms _ _ (λ a below.
    both (list_any (λ set. has set a) (take i C)) (has (row C i) a) (has M.included a && has M.pending a)
    ∙ ap (λ t. t && (has M.included a && has M.pending a)) (sym (list_any_more (λ set. has set a) C i [] within)))
  where
    both : (x y z : Bool) → ((x && z) || (y && z)) ≡ ((x || y) && z)
    both true true true = refl
    both true true false = refl
    both true false true = refl
    both true false false = refl
    both false y z = refl

-- all the sites
pub waits_all : (G : Rules) (C : List Set) (M : Marking) (i : ℕ) (first : Option ℕ) → length C ≤ i → first ≡ least G.atoms (waits_in (take i C) M) → first ≡ least G.atoms (waits_in C M)
waits_all G C M i first all is = is ∙ ap (λ D. least G.atoms (waits_in D M)) (take_all i C all)

-- where the owned sets cover all atoms, these are all that wait
pub waits_covered : (G : Rules) (C : List Set) (M : Marking) → IsCovered G.atoms C → least G.atoms (waits_in C M) ≡ waits G.atoms M
waits_covered G C M covers = least-ext G.atoms (waits_in C M) (λ a. has M.included a && has M.pending a) (λ a below. ap (λ t. t && (has M.included a && has M.pending a)) (covers a below))
