-- How many links the porter has brought.
use Rattle.std.proofs.Common.{◌≡◌, ℕ, ◌+◌, ◌<◌, ◌≤◌, List, ◌∷◌, length, get_or, drop, Option, Some, None, sym, ap, ◌∙◌, arith}
use Rattle.std.specs.Prelude.{slice_get, Ok, Err}
use Rattle.std.proofs.lemmas.List.{drop_more, length-drop}
use Rattle.std.proofs.lemmas.Option.{same_Some, none-some, slice_get-get_or}
use Rattle.dcr_base.specs.declared.failed.Failed.{Failed}
use Rattle.dcr_porter.specs.Porter.{BringsNext}
use Rattle.dcr_porter.specs.declared.brought.Brought.TheVariants.{Link, Nobody, Shut}
use Rattle.dcr_order.specs.Giving.{HasGiven}

module _ {L : Type 0} (links : Option (List L)) (given : ℕ) where
  -- nobody came
  pub given_nobody : (left after : Option (List L)) → HasGiven links given left → BringsNext left after (Ok Nobody) → HasGiven links given after
  given_nobody None after has brings = λ all is. absurd (none-some (drop given all) (has all is).1)
  given_nobody (Some before) after has brings = λ all is. ((has all is).0, brings ∙ (has all is).1)

  pub given_shut : (left after : Option (List L)) → HasGiven links given left → BringsNext left after (Ok Shut) → HasGiven links given after
  given_shut None after has brings = λ all is. absurd (none-some (drop given all) (has all is).1)
  given_shut (Some before) after has brings = λ all is. ((has all is).0, brings.1 ∙ ap (λ (xs : List L). Some xs) (sym brings.0) ∙ (has all is).1)

  pub given_failed : (left after : Option (List L)) (failed : Failed) → HasGiven links given left → BringsNext left after (Err failed) → HasGiven links given after
  given_failed None after failed has brings = λ all is. absurd (none-some (drop given all) (has all is).1)
  given_failed (Some before) after failed has brings = λ all is. ((has all is).0, brings ∙ (has all is).1)

  -- a link came, which stands there
  abbrev Comes : Option (List L) → L → Type 0
  Comes after link = (all : List L) → links ≡ Some all → (given + 1 ≤ length all) × (after ≡ Some (drop (given + 1) all)) × (slice_get all given ≡ Some link)

  comes : (left after : Option (List L)) (link : L) → HasGiven links given left → BringsNext left after (Ok (Link link)) → Comes after link
  comes None after link has brings = λ all is. absurd (none-some (drop given all) (has all is).1)
  comes (Some before) after link has brings = λ all is.
      let rest = brings.0 in
      let front : drop given all ≡ link ∷ rest = sym (same_Some before (drop given all) (has all is).1) ∙ brings.1 in
      let long = length-drop given all in
      let some = ap (λ (xs : List L). length xs) front in
      let below : given < length all = omega arith in
      let both : drop given all ≡ get_or all given link ∷ drop (given + 1) all = drop_more all given link below in
      let seam : get_or all given link ∷ drop (given + 1) all ≡ link ∷ rest = sym both ∙ front in
      let first : get_or all given link ≡ link = cc in
      let others : drop (given + 1) all ≡ rest = cc in (
        omega arith,
        brings.2 ∙ ap (λ (xs : List L). Some xs) (sym others),
        slice_get-get_or all given link below ∙ ap Some first,
      )

  pub given_more : (left after : Option (List L)) (link : L) → HasGiven links given left → BringsNext left after (Ok (Link link)) → HasGiven links (given + 1) after
  given_more left after link has brings = λ all is. let it = comes left after link has brings all is in (it.0, it.1)

  pub given_is : (left after : Option (List L)) (link : L) → HasGiven links given left → BringsNext left after (Ok (Link link)) → (all : List L) → links ≡ Some all → slice_get all given ≡ Some link
  given_is left after link has brings = λ all is. (comes left after link has brings all is).2
