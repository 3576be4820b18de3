-- What facts let pass.
use Rattle.std.proofs.Common.{◌≡◌, List, Some, None, Ok, Err, refl, ap, ◌∙◌}
use Rattle.dcr_format.specs.Facts.{Fact, first}
use Rattle.dcr_format.specs.declared.stop.CaseStop.{CaseStop}
use Rattle.dcr_json.specs.Refusing.{given, unless_refused}

pub given_stop : {A : Type 0} (facts : List Fact) (x : A) (stop : CaseStop) → first facts ≡ Some stop → given facts x ≡ Err stop
given_stop facts x stop e = ap (λ f. unless_refused f x) e

pub given_all : {A : Type 0} (facts : List Fact) (x y : A) → first facts ≡ None → x ≡ y → given facts x ≡ Ok y
given_all facts x y e same = ap (λ f. unless_refused f x) e ∙ ap Ok same

pub given_ok : {A : Type 0} (facts : List Fact) (x y : A) → given facts x ≡ Ok y → (first facts ≡ None) × (x ≡ y)
given_ok {A = A} facts x y e = at (first facts) e
  where
    at : (f : Fact) → unless_refused f x ≡ Ok y → (f ≡ None) × (x ≡ y)
    at None h = (refl, (let same : x ≡ y = cc in same))
    at (Some stop) h = absurd cc

pub given_err : {A : Type 0} (facts : List Fact) (x : A) (stop : CaseStop) → given facts x ≡ Err stop → first facts ≡ Some stop
given_err {A = A} facts x stop e = at (first facts) e
  where
    at : (f : Fact) → unless_refused f x ≡ Err stop → f ≡ Some stop
    at None h = absurd cc
    at (Some other) h = ap Some (let same : other ≡ stop = cc in same)
