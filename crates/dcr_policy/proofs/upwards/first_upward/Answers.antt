use Rattle.std.proofs.Common.{◌≡◌, ℕ, ◌<◌, [], length, get_or, Option, Some, None, refl, ap, sym, subst, ◌∙◌, arith}
use Rattle.std.specs.Prelude.{IfSome}
use Rattle.std.specs.List.{slice_get}
use Rattle.std.specs.Option.{option_map_or}
use Rattle.std.proofs.lemmas.List.{get_or_read}
use Rattle.dcr_policy.specs.Upward.{upward}
use Rattle.dcr_policy.proofs.UpwardLemmas.{first_own, first_parent}
use Rattle.dcr_policy.proofs.upwards.first_upward.Goals as goal

below_all : (n : ℕ) (o : Option ℕ) → ((p : ℕ) → o ≡ Some p → p < n) → IfSome o (λ x. x < n)
below_all n None h = tt
below_all n (Some p) h = h p refl

pub returns-in-Some-first : goal.returns-in-Some-first
returns-in-Some-first c =
    let parents = c.args.parents.now in
    let own = c.args.own.now in
    let x = c.in-Some.x in
    let B : Option ℕ → Type 0 = λ o. IfSome o (λ y. y < length parents) in
    let node : x < length parents = subst B c.in-Some.is c.loop-next.invariant.node in
    let within : c.from.result < length own = omega (arith, c.from.ensures, c.requires.as_many) in
    let here = get_or_read own c.from.result c.index-own-from.result within c.index-own-from.is [] ∙ ap (λ k. get_or own k []) c.from.ensures in
    sym (c.loop-next.invariant.first
    ∙ ap (λ o. option_map_or (λ y. slice_get (upward parents own y) 0) o None) c.in-Some.is
    ∙ first_own parents own x c.in-Some-first.role c.requires.earlier (ap (λ roles. slice_get roles 0) (sym here) ∙ sym c.first.ensures ∙ c.in-Some-first.is))

pub loop-next-preserved : goal.loop-next-preserved
loop-next-preserved c =
    let parents = c.args.parents.now in
    let own = c.args.own.now in
    let x = c.in-Some.x in
    let B : Option ℕ → Type 0 = λ o. IfSome o (λ y. y < length parents) in
    let node : x < length parents = subst B c.in-Some.is c.loop-next.invariant.node in
    let within : c.from.result < length own = omega (arith, c.from.ensures, c.requires.as_many) in
    let here = get_or_read own c.from.result c.index-own-from.result within c.index-own-from.is [] ∙ ap (λ k. get_or own k []) c.from.ensures in
    let parent = ap (λ k. get_or parents k None) c.from-in-Some.ensures in
    record {
      node = below_all (length parents) (get_or parents c.from-in-Some.result None) (λ p is. (let before = c.requires.earlier x p (sym parent ∙ is) in omega arith));
      first =
          c.loop-next.invariant.first
          ∙ ap (λ o. option_map_or (λ y. slice_get (upward parents own y) 0) o None) c.in-Some.is
          ∙ first_parent parents own x c.requires.earlier (ap (λ roles. slice_get roles 0) (sym here) ∙ sym c.first.ensures ∙ c.in_default-first.is)
          ∙ ap (λ o. option_map_or (λ y. slice_get (upward parents own y) 0) o None) (sym parent);
    }
