-- Facts in their order, both ways.
use Rattle.std.proofs.Common.{◌≡◌, inl, inr, ℕ, zero, suc, ◌<◌, Bool, true, false, not, List, [], ◌∷◌, get_or, Option, Some, None, option_map, refl, sym, ap, ◌∙◌, arith}
use Rattle.std.specs.List.{All, position, slice_get}
use Rattle.std.proofs.lemmas.Bool.{cases_lt}
use Rattle.std.proofs.lemmas.List.Quantifiers.{position-Some}
use Rattle.std.proofs.lemmas.Option.{get_or_from_slice_get, same_Some, slice_get-get_or, slice_get_within}
use Rattle.serde_json.specs.Data.{Data, null}
use Rattle.dcr_set.specs.Least.{IsLeast, least}
use Rattle.dcr_set.proofs.LeastLemmas.{least-from, least-some}
use Rattle.dcr_format.specs.Facts.{Fact, each, each_below, first, unless}
use Rattle.dcr_format.specs.Order.{FactsAreTold, FailsFirst, IsFirst}
use Rattle.dcr_format.specs.declared.stop.CaseStop.{CaseStop}
use Rattle.dcr_format.proofs.FactLemmas.{below_holds, below_none, each_holds, each_none, first_none, first_past}

-- ---- in order

past_first : (facts : List Fact) (place : ℕ) → ((i : ℕ) (fact : Fact) → i < place → slice_get facts i ≡ Some fact → fact ≡ None) → (i : ℕ) (fact : Fact) → i < suc place → slice_get (None ∷ facts) i ≡ Some fact → fact ≡ None
past_first facts place before zero fact l e = sym (same_Some None fact e)
past_first facts place before (suc i) fact l e = before i fact (omega arith) e

refused_at : (facts : List Fact) (stop : CaseStop) → first facts ≡ Some stop → IsFirst facts stop
refused_at [] stop e = absurd cc
refused_at (None ∷ facts) stop e =
    let later = refused_at facts stop e in
    record { place = suc later.place; fails = later.fails; earlier = past_first facts later.place later.earlier }
refused_at (Some other ∷ facts) stop e = record { place = 0; fails = ap Some e; earlier = λ i fact l. absurd (omega arith) }

first_at : (facts : List Fact) (stop : CaseStop) (place : ℕ) → slice_get facts place ≡ Some (Some stop) → ((i : ℕ) (fact : Fact) → i < place → slice_get facts i ≡ Some fact → fact ≡ None) → first facts ≡ Some stop
first_at [] stop place e before = absurd (let l = slice_get_within [] place (Some stop) e in omega arith)
first_at (f ∷ facts) stop zero e before = ap (λ g. first (g ∷ facts)) (same_Some f (Some stop) e)
first_at (f ∷ facts) stop (suc place) e before =
    first_past f facts (before 0 f (omega arith) refl) ∙ first_at facts stop place e (λ i fact l is. before (suc i) fact (omega arith) is)

each_passes : (facts : List Fact) → first facts ≡ None → All (λ fact. fact ≡ None) facts
each_passes [] e k d l = absurd (omega arith)
each_passes (f ∷ facts) e zero d l = (first_none f facts e).0
each_passes (f ∷ facts) e (suc k) d l = each_passes facts (first_none f facts e).1 k d (omega arith)

all_pass : (facts : List Fact) → All (λ fact. fact ≡ None) facts → first facts ≡ None
all_pass [] h = refl
all_pass (f ∷ facts) h = first_past f facts (h 0 f (omega arith)) ∙ all_pass facts (λ k d l. h (suc k) d (omega arith))

-- ---- one fact

unless_told : (holds : Bool) (stop why : CaseStop) → unless holds stop ≡ Some why → (holds ≡ false) × (why ≡ stop)
unless_told true stop why e = absurd cc
unless_told false stop why e = (refl, sym (same_Some stop why e))

unless_passes : (holds : Bool) (stop : CaseStop) → unless holds stop ≡ None → holds ≡ true
unless_passes true stop e = refl
unless_passes false stop e = absurd cc

-- ---- each of many

turned : (b : Bool) → not b ≡ true → b ≡ false
turned true e = absurd cc
turned false e = refl

back : (b : Bool) → not b ≡ false → b ≡ true
back true e = refl
back false e = absurd cc

module _ (holds : Data → Bool) (stop : ℕ → CaseStop) (ds : List Data) where
  abbrev fails : Data → Bool
  fails d = not (holds d)

  each_told : (why : CaseStop) → each holds stop ds ≡ Some why → (i : ℕ) × FailsFirst holds ds i × (why ≡ stop i)
  each_told why e = at (position fails ds) refl e
    where
      at : (o : Option ℕ) → position fails ds ≡ o → option_map stop o ≡ Some why → (i : ℕ) × FailsFirst holds ds i × (why ≡ stop i)
      at None is f = absurd cc
      at (Some i) is f =
          let found = position-Some fails ds i null is in (
            i,
            record {
              element = get_or ds i null;
              at = slice_get-get_or ds i null found.0;
              fails = turned _ found.1;
              earlier = λ j d l here. ap holds (sym (get_or_from_slice_get ds j d null here)) ∙ back _ (found.2 j l);
            },
            sym (same_Some (stop i) why f),
          )

  told_each : (why : CaseStop) → ((i : ℕ) × FailsFirst holds ds i × (why ≡ stop i)) → each holds stop ds ≡ Some why
  told_each why (i, first, same) = at (each holds stop ds) refl
    where
      at : (f : Fact) → each holds stop ds ≡ f → each holds stop ds ≡ Some why
      at None e = absurd (
          let passes = each_holds holds stop ds e i null (slice_get_within ds i first.element first.at) in
          let here = ap holds (get_or_from_slice_get ds i first.element null first.at) in
          let bad = sym passes ∙ here ∙ first.fails in cc)
      at (Some other) e = e ∙ ap Some (same_place (each_told other e))
        where
          same_place : ((j : ℕ) × FailsFirst holds ds j × (other ≡ stop j)) → other ≡ why
          same_place (j, found, is) = is ∙ ap stop (one j found) ∙ sym same
            where
              one : (j : ℕ) → FailsFirst holds ds j → j ≡ i
              one j found = elim (cases_lt j i) [
                | inl less ↦ absurd (let bad = sym (first.earlier j found.element less found.at) ∙ found.fails in cc)
                | inr not_less ↦ elim (cases_lt i j) [
                  | inl more ↦ absurd (let bad = sym (found.earlier i first.element more first.at) ∙ first.fails in cc)
                  | inr not_more ↦ omega arith
                ]
              ]

module _ (n : ℕ) (holds : ℕ → Bool) (stop : ℕ → CaseStop) where
  below_told : (why : CaseStop) → each_below n holds stop ≡ Some why → (i : ℕ) × IsLeast n (λ j. not (holds j)) i × (why ≡ stop i)
  below_told why e = at (least n (λ j. not (holds j))) refl e
    where
      at : (o : Option ℕ) → least n (λ j. not (holds j)) ≡ o → option_map stop o ≡ Some why → (i : ℕ) × IsLeast n (λ j. not (holds j)) i × (why ≡ stop i)
      at None is f = absurd cc
      at (Some i) is f = (i, least-some n (λ j. not (holds j)) i is, sym (same_Some (stop i) why f))

  told_below : (why : CaseStop) → ((i : ℕ) × IsLeast n (λ j. not (holds j)) i × (why ≡ stop i)) → each_below n holds stop ≡ Some why
  told_below why (i, first, same) = ap (option_map stop) (least-from n (λ j. not (holds j)) i first) ∙ ap Some (sym same)

pub facts_told : FactsAreTold
facts_told = record {
  refused = λ facts stop. (refused_at facts stop, λ is. first_at facts stop is.place is.fails is.earlier);
  passed = λ facts. (each_passes facts, all_pass facts);
  unless_refused = λ holds stop why. (unless_told holds stop why, λ is. ap (λ b. unless b stop) is.0 ∙ ap Some (sym is.1));
  unless_passed = λ holds stop. (unless_passes holds stop, λ is. ap (λ b. unless b stop) is);
  each_refused = λ holds stop ds why. (each_told holds stop ds why, told_each holds stop ds why);
  each_passed = λ holds stop ds. (each_holds holds stop ds, each_none holds stop ds);
  below_refused = λ n holds stop why. (below_told n holds stop why, told_below n holds stop why);
  below_passed = λ n holds stop. (below_holds n holds stop, below_none n holds stop);
}
