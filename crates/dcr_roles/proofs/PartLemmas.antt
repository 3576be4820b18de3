-- The parts of a policy, one after another: each is as it should be, or is the first to fail.
use Rattle.std.proofs.Common.{◌≡◌, ℕ, zero, suc, ◌+◌, ◌<◌, Bool, true, false, codes, cond, List, [], ◌⊎◌, inl, inr, Option, Some, None, unwrap_or, Result, Ok, Err, refl, sym, ap, ◌∙◌, arith}
use Rattle.std.specs.List.{slice_get}
use Rattle.std.proofs.lemmas.Bool.{false≢true}
use Rattle.serde_json.specs.Data.{Data, null, boolean, number, string, array, object}
use Rattle.serde_json.specs.Find.{get}
use Rattle.dcr_roles.specs.Elements.{◌>>=◌}
use Rattle.dcr_format.specs.Members.{elements}
use Rattle.dcr_roles.specs.Order.{EachAt, FailsFirst, RefusesFirst}
use Rattle.dcr_roles.specs.Stages.{next_stage}
use Rattle.dcr_roles.specs.Elements.{elements_at, graph_elements}
use Rattle.dcr_roles.proofs.OrderLemmas.{Outcome, passed, failed, not_each, least_alone, Ends, all_hold, first_fails, IsOrder, UpTo, up_to_none, up_to_next, stage, refuses_first}
use Rattle.dcr_roles.specs.Parts.{array_fits, events_fit, items_fit, parts_fit, users_fit}
use Rattle.dcr_roles.specs.Words.{rank, users_of, HasArray, Holds, FailsAt}
use Rattle.dcr_roles.specs.Written.{fits_event, fits_item, fits_user, is_array, so_where_there}
use Rattle.dcr_roles.specs.declared.stop.PolicyPart.{PolicyPart}
use Rattle.dcr_roles.specs.declared.stop.PolicyPart.TheVariants as part
use Rattle.dcr_roles.specs.declared.stop.PolicyStop.{PolicyStop}
use Rattle.dcr_roles.specs.declared.stop.PolicyStop.TheVariants.{Policy}
use Rattle.dcr_roles.proofs.WordLemmas.{failing_outcome, Passes}

-- ---- one part

abbrev IsNone : Type 0 → ℕ → Type 0
IsNone P i = (i ≡ 0) × ¬ P

array_outcome : (p : PolicyPart) (member : Option Data) → Outcome (Policy p) (array_fits p member) (so_where_there is_array member ≡ true) (IsNone (so_where_there is_array member ≡ true))
array_outcome p member = at (so_where_there is_array member) refl
  where
    at : (b : Bool) → so_where_there is_array member ≡ b → Outcome (Policy p) (cond b (Ok (tt {0})) (Err (Policy p 0))) (so_where_there is_array member ≡ true) (IsNone (so_where_there is_array member ≡ true))
    at true e = passed tt refl e
    at false e = failed 0 refl (refl, λ h. false≢true (sym e ∙ h))

-- of two steps of one part
after : (p : PolicyPart) (H K : Type 0) (F G : ℕ → Type 0) (r s : Result (Unit {0}) PolicyStop) → Outcome (Policy p) r H F → Outcome (Policy p) s K G → Outcome (Policy p) (next_stage (λ _. s) r) (H × K) (λ i. F i ⊎ G i)
after p H K F G r s (failed i e f) other = failed i (ap (next_stage (λ _. s)) e) (inl f)
after p H K F G r s (passed x e h) (passed y g k) = passed y (ap (next_stage (λ _. s)) e ∙ g) (h, k)
after p H K F G r s (passed x e h) (failed j g f) = failed j (ap (next_stage (λ _. s)) e ∙ g) (inr f)

-- ---- the order of the parts

part_ranked : ℕ → PolicyPart
part_ranked zero = part.Event
part_ranked (suc zero) = part.Users
part_ranked (suc (suc zero)) = part.User
part_ranked (suc (suc (suc n))) = part.By

part_ranked-rank : (p : PolicyPart) → part_ranked (rank p) ≡ p
unfolding part_ranked
part_ranked-rank part.Event = refl
part_ranked-rank part.Users = refl
part_ranked-rank part.User = refl
part_ranked-rank part.By = refl

same_rank : (p q : PolicyPart) → rank p ≡ rank q → p ≡ q
same_rank p q e = sym (part_ranked-rank p) ∙ (ap part_ranked e ∙ part_ranked-rank q)

rank_below : (p : PolicyPart) → rank p < 4
rank_below part.Event = omega arith
rank_below part.Users = omega arith
rank_below part.User = omega arith
rank_below part.By = omega arith

-- ---- one refusal alone

-- what is there and is no array has no elements
no_elements : (member : Option Data) → (so_where_there is_array member ≡ true → ⊥) → unwrap_or (member >>= elements) [] ≡ []
no_elements None h = absurd (h refl)
no_elements (Some null) h = refl
no_elements (Some (boolean b)) h = refl
no_elements (Some (number n)) h = refl
no_elements (Some (string s)) h = refl
no_elements (Some (array ds)) h = absurd (h refl)
no_elements (Some (object ms)) h = refl

none_fails : (P : ℕ → Data → Type 0) (ds : List Data) (i : ℕ) → ds ≡ [] → FailsFirst P ds i → ⊥
none_fails P ds i none first = let here = ap (λ es. slice_get es i) (sym none) ∙ first.at in absurd cc

not_both : (d : Data) (p : PolicyPart) (i : ℕ) → FailsAt d p i → Holds d p → ⊥
not_both d part.Event i f h = not_each _ _ i f h
not_both d part.Users i f h = f.1 h
not_both d part.User i f h = not_each _ _ i f h
not_both d part.By i (inl f) h = f.1 h.0
not_both d part.By i (inr f) h = not_each _ _ i f h.1

one_way : (d : Data) (p : PolicyPart) (i j : ℕ) → FailsAt d p i → FailsAt d p j → i ≡ j
one_way d part.Event i j a b = least_alone _ _ i j a b
one_way d part.Users i j a b = a.0 ∙ sym b.0
one_way d part.User i j a b = least_alone _ _ i j a b
one_way d part.By i j (inl a) (inl b) = a.0 ∙ sym b.0
one_way d part.By i j (inl a) (inr b) = absurd (none_fails _ _ j (no_elements (get (codes "by") d) a.1) b)
one_way d part.By i j (inr a) (inl b) = absurd (none_fails _ _ i (no_elements (get (codes "by") d) b.1) a)
one_way d part.By i j (inr a) (inr b) = least_alone _ _ i j a b

ordered : (d : Data) → IsOrder rank Policy (Holds d) (FailsAt d)
ordered d = record { same_kind = same_rank; not_both = not_both d; one_way = one_way d; stop_kind = λ k other i j e. cc; stop_way = λ k other i j e. cc }

-- ---- the whole

one_part : (d : Data) (p : PolicyPart) (r s : Result (Unit {0}) PolicyStop) → Outcome (Policy p) r (Holds d p) (FailsAt d p) → UpTo rank (Holds d) (rank p)
    → (UpTo rank (Holds d) (rank p + 1) → Ends rank Policy (Holds d) (FailsAt d) s) → Ends rank Policy (Holds d) (FailsAt d) (next_stage (λ _. s) r)
one_part d p r s outcome before next =
    stage rank Policy (Holds d) (FailsAt d) (ordered d) p r (λ _. s) (Holds d p) (FailsAt d p) outcome (λ h. h) (λ i f. f) before (λ x e up. next up)

last_part : (d : Data) (r : Result (Unit {0}) PolicyStop) → Outcome (Policy part.By) r (Holds d part.By) (FailsAt d part.By) → UpTo rank (Holds d) 3 → Ends rank Policy (Holds d) (FailsAt d) r
last_part d r (passed x e h) before =
    let all = up_to_next rank Policy (Holds d) (FailsAt d) (ordered d) part.By before h in
    all_hold x e (λ p. all p (rank_below p))
last_part d r (failed i e f) before = first_fails part.By i e (record { earlier = before; fails = f })

ends : (d : Data) → Ends rank Policy (Holds d) (FailsAt d) (parts_fit d)
unfolding parts_fit
ends d =
    one_part d part.Event (events_fit d) _ (failing_outcome (λ _ event. fits_event event) (graph_elements (codes "events") d) part.Event) (up_to_none rank (Holds d)) (λ u1.
    one_part d part.Users (array_fits part.Users (get (codes "users") d)) _ (array_outcome part.Users (get (codes "users") d)) u1 (λ u2.
    one_part d part.User (users_fit d) _ (failing_outcome (fits_user (users_of d)) (users_of d) part.User) u2 (λ u3.
    last_part d _
    (after part.By (HasArray (codes "by") d) (EachAt (Passes (λ _ item. fits_item (users_of d) item)) (elements_at (codes "by") d))
    (IsNone (HasArray (codes "by") d)) (FailsFirst (Passes (λ _ item. fits_item (users_of d) item)) (elements_at (codes "by") d))
    (array_fits part.By (get (codes "by") d)) (items_fit d)
    (array_outcome part.By (get (codes "by") d)) (failing_outcome (λ _ item. fits_item (users_of d) item) (elements_at (codes "by") d) part.By)) u3)))

pub parts_law : (d : Data) → RefusesFirst rank Policy (Holds d) (FailsAt d) (parts_fit d)
parts_law d = refuses_first rank Policy (Holds d) (FailsAt d) (ordered d) (parts_fit d) (ends d)
