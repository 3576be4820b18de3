-- The least clash, and that there is none.
use Rattle.std.proofs.Common.{◌≡◌, ℕ, ◌<◌, Bool, false, Option, Some, None, refl, sym, ap, subst, ◌∙◌}
use Rattle.std.specs.Option.{is_some, option_map, option_and_then}
use Rattle.std.proofs.lemmas.Option.{same_Some}
use Rattle.dcr_set.specs.Least.{least, some_below}
use Rattle.dcr_set.proofs.LeastLemmas.{least-some, least-none, least-from, least-none_from}
use Rattle.dcr_graph.specs.Rules.{Rules}
use Rattle.dcr_graph.specs.Pairs.{clashes, first_clash}
use Rattle.dcr_json.specs.Refusals.{ClashesAreTheLeast, HasNoClash, IsLeastClash}

not_some : {A : Type 0} (o : Option A) → is_some o ≡ false → o ≡ None
not_some None e = refl
not_some (Some x) e = absurd cc

-- there is no clash, or there is a least one
data Clashing (G : Rules) : Type 0 where
  apart : first_clash G ≡ None → HasNoClash G → Clashing G
  clash : (a b : ℕ) → first_clash G ≡ Some (a, b) → IsLeastClash G a b → Clashing G

module _ (G : Rules) where
  abbrev second : ℕ → Option (ℕ × ℕ)
  second a = option_map (λ b. (a, b)) (least G.atoms (clashes G a))

  abbrev is_first : ℕ → Bool
  is_first a = some_below G.atoms (clashes G a)

  none_of : (a : ℕ) → is_first a ≡ false → (b : ℕ) → b < G.atoms → clashes G a b ≡ false
  none_of a e b l = least-none G.atoms (clashes G a) (not_some _ e) b l

  no_first : (a : ℕ) → ((b : ℕ) → b < G.atoms → clashes G a b ≡ false) → is_first a ≡ false
  no_first a h = ap is_some (least-none_from G.atoms (clashes G a) h)

  clashing : Clashing G
  clashing = at (least G.atoms is_first) refl
    where
      within : (a : ℕ) → least G.atoms is_first ≡ Some a → (o : Option ℕ) → least G.atoms (clashes G a) ≡ o → Clashing G
      within a e None f = absurd (let bad = sym (least-some G.atoms is_first a e).passes ∙ ap is_some f in cc)
      within a e (Some b) f =
          let outer = least-some G.atoms is_first a e in
          let inner = least-some G.atoms (clashes G a) b f in
          clash a b (ap (option_and_then second) e ∙ ap (option_map (λ y. (a, y))) f) (record {
            source = outer.below;
            target = inner.below;
            clash = inner.passes;
            earlier_source = λ x y l. none_of x (outer.none_before x l) y;
            earlier_target = inner.none_before;
          })

      at : (o : Option ℕ) → least G.atoms is_first ≡ o → Clashing G
      at None e = apart (ap (option_and_then second) e) (λ a b l m. none_of a (least-none G.atoms is_first e a l) b m)
      at (Some a) e = within a e (least G.atoms (clashes G a)) refl

  no_clash_told : HasNoClash G → first_clash G ≡ None
  no_clash_told h = ap (option_and_then second) (least-none_from G.atoms is_first (λ a l. no_first a (λ b m. h a b l m)))

  clash_told : (a b : ℕ) → IsLeastClash G a b → first_clash G ≡ Some (a, b)
  clash_told a b c =
      let inner = least-from G.atoms (clashes G a) b (record { below = c.target; passes = c.clash; none_before = c.earlier_target }) in
      let outer = least-from G.atoms is_first a (record { below = c.source; passes = ap is_some inner; none_before = λ x l. no_first x (λ y m. c.earlier_source x y l m) }) in
      ap (option_and_then second) outer ∙ ap (option_map (λ y. (a, y))) inner

  pub least_clashes : ClashesAreTheLeast G
  least_clashes = record {
    none = ((λ e. none_at clashing e), no_clash_told);
    least = λ a b. ((λ e. least_at clashing a b e), clash_told a b);
  }
    where
      none_at : Clashing G → first_clash G ≡ None → HasNoClash G
      none_at (apart e h) f = h
      none_at (clash a b e h) f = absurd (let both = sym e ∙ f in cc)

      least_at : Clashing G → (a b : ℕ) → first_clash G ≡ Some (a, b) → IsLeastClash G a b
      least_at (apart e h) a b f = absurd (let both = sym e ∙ f in cc)
      least_at (clash x y e h) a b f =
          let one : ℕ × ℕ = (x, y) in
          let other : ℕ × ℕ = (a, b) in
          let same : one ≡ other = same_Some one other (sym e ∙ f) in
          let P : ℕ × ℕ → Type 0 = λ p. IsLeastClash G p.0 p.1 in
          subst P same h
