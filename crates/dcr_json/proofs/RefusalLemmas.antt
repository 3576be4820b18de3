-- When each refusal comes, and when a case is given.
use Rattle.std.proofs.Common.{◌≡◌, ℕ, ◌<◌, ◌≤◌, true, List, [], ◌∷◌, length, Option, Some, None, Ok, Err, is_some, nat_le, unwrap_or, refl, sym, ap, subst, ◌∙◌}
use Rattle.std.proofs.lemmas.Bool.{le-leb, leb-true, lt-leb}
use Rattle.serde_json.specs.Data.{Data, null}
use Rattle.dcr_format.specs.SizeLaws.{json_in}
use Rattle.dcr_format.specs.Facts.{Fact, first, unless}
use Rattle.dcr_format.specs.declared.stop.CaseStop.{CaseStop}
use Rattle.dcr_format.specs.declared.stop.CaseStop.TheVariants.{NoMemory, NotJson, TooLong}
use Rattle.dcr_format.proofs.FactLemmas.{append_here, append_none, append_past, first_here, first_none, first_past, unless_holds}
use Rattle.dcr_format.proofs.OrderLemmas.{facts_told}
use Rattle.dcr_json.specs.Case.{bytes_facts, case_in, case_of_value, data_in, file_facts, file_in, value_in}
use Rattle.dcr_json.specs.Facts.{case_facts}
use Rattle.dcr_json.specs.Refusals.{CasesAreTheFormats, Comes, NeverRefuses, OneOfTheTwo, RefusalsAreTheFormats, SpellsCase, SpellsJson}
use Rattle.dcr_json.specs.Refusing.{given, unless_refused}
use Rattle.dcr_json.specs.Written.{Spelled}
use Rattle.dcr_json.proofs.MemoryLemmas.{never_memory}
use Rattle.dcr_json.proofs.GivingLemmas.{given_all, given_err, given_ok, given_stop}

-- ---- the bytes

is_found : (o : Option Data) → is_some o ≡ true → o ≡ Some (unwrap_or o null)
is_found None e = absurd cc
is_found (Some d) e = refl

pub file_told : (bytes : List ℕ) → first (file_facts bytes) ≡ None → SpellsJson bytes (data_in bytes)
file_told bytes e =
    let json = unless (is_some (json_in bytes)) NotJson in
    let both = first_none (unless (nat_le (length bytes) 16777216) TooLong) (json ∷ []) e in
    record {
      short = leb-true (length bytes) 16777216 (unless_holds (nat_le (length bytes) 16777216) TooLong both.0);
      json = is_found (json_in bytes) (unless_holds (is_some (json_in bytes)) NotJson (first_none json [] both.1).0);
    }

pub data_is : (bytes : List ℕ) (d : Data) → json_in bytes ≡ Some d → data_in bytes ≡ d
data_is bytes d e = ap (λ o. unwrap_or o null) e

pub file_holds : (bytes : List ℕ) (d : Data) → SpellsJson bytes d → first (file_facts bytes) ≡ None
file_holds bytes d is =
    let json = unless (is_some (json_in bytes)) NotJson in
    first_past (unless (nat_le (length bytes) 16777216) TooLong) (json ∷ []) (ap (λ b. unless b TooLong) (le-leb (length bytes) 16777216 is.short))
    ∙ first_past json [] (ap (λ o. unless (is_some o) NotJson) is.json)

-- ---- the file and then its value

pub file_long : (bytes : List ℕ) → 16777216 < length bytes → file_in bytes ≡ Err TooLong
unfolding file_in
file_long bytes l =
    given_stop (file_facts bytes) (data_in bytes) TooLong
    (first_here (unless (nat_le (length bytes) 16777216) TooLong) (unless (is_some (json_in bytes)) NotJson ∷ []) TooLong (ap (λ b. unless b TooLong) (lt-leb (length bytes) 16777216 l)))

pub file_no_json : (bytes : List ℕ) → length bytes ≤ 16777216 → json_in bytes ≡ None → file_in bytes ≡ Err NotJson
unfolding file_in
file_no_json bytes l e =
    let json = unless (is_some (json_in bytes)) NotJson in
    given_stop (file_facts bytes) (data_in bytes) NotJson
    (first_past (unless (nat_le (length bytes) 16777216) TooLong) (json ∷ []) (ap (λ b. unless b TooLong) (le-leb (length bytes) 16777216 l))
    ∙ first_here json [] NotJson (ap (λ o. unless (is_some o) NotJson) e))

pub file_so : (bytes : List ℕ) (d : Data) → SpellsJson bytes d → file_in bytes ≡ Ok d
unfolding file_in
file_so bytes d is = given_all (file_facts bytes) (data_in bytes) d (file_holds bytes d is) (data_is bytes d is.json)

pub json_from : (bytes : List ℕ) (d : Data) → file_in bytes ≡ Ok d → SpellsJson bytes d
unfolding file_in
json_from bytes d e =
    let both = given_ok (file_facts bytes) (data_in bytes) d e in
    subst (SpellsJson bytes) both.1 (file_told bytes both.0)

pub file_refused : (bytes : List ℕ) (stop : CaseStop) → file_in bytes ≡ Err stop → case_in bytes ≡ Err stop
unfolding file_in case_in
file_refused bytes stop e =
    given_stop (bytes_facts bytes) (case_of_value (data_in bytes)) stop
    (append_here (file_facts bytes) (case_facts (data_in bytes)) stop (given_err (file_facts bytes) (data_in bytes) stop e))

pub file_given : (bytes : List ℕ) (d : Data) → file_in bytes ≡ Ok d → case_in bytes ≡ value_in d
unfolding file_in value_in case_in
file_given bytes d e =
    let both = given_ok (file_facts bytes) (data_in bytes) d e in
    ap (λ f. unless_refused f (case_of_value (data_in bytes))) (append_past (file_facts bytes) (case_facts (data_in bytes)) both.0)
    ∙ ap (λ v. given (case_facts v) (case_of_value v)) both.1

-- ---- a case

-- the bytes of a value of which all facts hold
pub case_given : (bytes : List ℕ) (d : Data) (case : Spelled) → SpellsJson bytes d → first (case_facts d) ≡ None → case_of_value d ≡ case → case_in bytes ≡ Ok case
unfolding case_in
case_given bytes d case is holds same =
    let value = data_is bytes d is.json in
    given_all (bytes_facts bytes) (case_of_value (data_in bytes)) case
    (append_past (file_facts bytes) (case_facts (data_in bytes)) (file_holds bytes d is) ∙ ap (λ v. first (case_facts v)) value ∙ holds) (ap case_of_value value ∙ same)

-- ---- the laws

pub refusals_law : RefusalsAreTheFormats
unfolding case_in
refusals_law bytes stop =
    let told = facts_told.refused (bytes_facts bytes) stop in (
      λ e. told.0 (given_err (bytes_facts bytes) (case_of_value (data_in bytes)) stop e),
      λ comes. given_stop (bytes_facts bytes) (case_of_value (data_in bytes)) stop (told.1 comes),
    )

spelled : (bytes : List ℕ) (case : Spelled) → case_in bytes ≡ Ok case → SpellsCase bytes case
unfolding case_in
spelled bytes case e =
    let both = given_ok (bytes_facts bytes) (case_of_value (data_in bytes)) case e in
    let parts = append_none (file_facts bytes) (case_facts (data_in bytes)) both.0 in
    record {
      value = data_in bytes;
      json = file_told bytes parts.0;
      facts = (facts_told.passed (case_facts (data_in bytes))).0 parts.1;
      is = sym both.1;
    }

pub cases_law : CasesAreTheFormats
cases_law bytes case = (
  spelled bytes case,
  λ is. case_given bytes is.value case is.json ((facts_told.passed (case_facts is.value)).1 is.facts) (sym is.is),
)

pub either_law : OneOfTheTwo
unfolding case_in
either_law bytes = (λ some stop comes. (let bad = sym some.1 ∙ (refusals_law bytes stop).1 comes in absurd cc), λ none. at (first (bytes_facts bytes)) refl none)
  where
    at : (f : Fact) → first (bytes_facts bytes) ≡ f → ((stop : CaseStop) → ¬ Comes bytes stop) → (case : Spelled) × (case_in bytes ≡ Ok case)
    at None e none = (case_of_value (data_in bytes), given_all (bytes_facts bytes) (case_of_value (data_in bytes)) (case_of_value (data_in bytes)) e refl)
    at (Some stop) e none = absurd (none stop ((facts_told.refused (bytes_facts bytes) stop).0 e))

pub no_memory_law : NeverRefuses NoMemory
unfolding case_in
no_memory_law bytes e = never_memory bytes (given_err (bytes_facts bytes) (case_of_value (data_in bytes)) NoMemory e)
