-- What bytes are accepted as, or their first refusal, both ways.
use Rattle.std.proofs.Common.{◌≡◌, ℕ, List, Result, Ok, Err, refl, sym, ap, subst, ◌∙◌}
use Rattle.serde_json.specs.Data.{Data}
use Rattle.dcr_policy.specs.Roles.{Roles}
use Rattle.dcr_roles.specs.Stages.{next_stage}
use Rattle.dcr_json.specs.Case.{case_in, file_in, value_in}
use Rattle.dcr_json.specs.Written.{Spelled}
use Rattle.dcr_json.specs.Refusals.{SpellsJson}
use Rattle.dcr_format.specs.declared.stop.CaseStop.{CaseStop}
use Rattle.dcr_json.proofs.RefusalLemmas.{cases_law, file_given, file_refused, file_so, json_from, refusals_law}
use Rattle.dcr_roles.specs.Accepted.{accepted_in, of_case, of_policy, SpelledBoth}
use Rattle.dcr_roles.specs.Laws.{Comes, Spells, SpellsBoth, RefusalsAreTheFormats, AcceptedAreTheFormats, OneOfTheTwo}
use Rattle.dcr_roles.specs.Read.{policy_in, IsSpelledBy}
use Rattle.dcr_roles.specs.Words.{AreAllowed}
use Rattle.dcr_roles.specs.declared.accepted.AcceptStop.{AcceptStop}
use Rattle.dcr_roles.specs.declared.accepted.AcceptStop.TheVariants.{Case, Policy as OfPolicy}
use Rattle.dcr_roles.specs.declared.stop.PolicyStop.{PolicyStop}
use Rattle.dcr_roles.proofs.PolicyLemmas.{granted, policies_law, refused, verdict, Verdict}

-- ---- stages

abbrev both : Spelled → Roles → SpelledBoth
both case policy = record { case = case; policy = policy }

abbrev from_policy : Data → Spelled → Result SpelledBoth AcceptStop
from_policy d case = next_stage (λ policy. Ok (both case policy)) (of_policy (policy_in d case))

abbrev from_value : Data → Result SpelledBoth AcceptStop
from_value d = next_stage (from_policy d) (of_case (value_in d))

accepted_so : (bytes : List ℕ) (r : Result Data CaseStop) → file_in bytes ≡ r → accepted_in bytes ≡ next_stage from_value (of_case r)
unfolding accepted_in
accepted_so bytes r e = ap (λ s. next_stage from_value (of_case s)) e

-- a value that was read, and a case
pub spelled_by : (bytes : List ℕ) (d : Data) (case : Spelled) → file_in bytes ≡ Ok d → value_in d ≡ Ok case → IsSpelledBy d case
spelled_by bytes d case file is = record { bytes = bytes; json = json_from bytes d file; spells = file_given bytes d file ∙ is }

-- bytes that spell a case are a value
pub spelled_json : (bytes : List ℕ) (case : Spelled) → case_in bytes ≡ Ok case → (d : Data) × SpellsJson bytes d
spelled_json bytes case e = let spells = (cases_law bytes case).0 e in (spells.value, spells.json)

-- a policy that is given allows every call
pub given_allowed : (d : Data) (case : Spelled) (P : Roles) → policy_in d case ≡ Ok P → AreAllowed P case.sessions
given_allowed d case P e = let is = (policies_law.given d case P).0 e in is.allowed

-- the case is refused
refused_case : (bytes : List ℕ) (stop : CaseStop) → case_in bytes ≡ Err stop → accepted_in bytes ≡ Err (Case stop)
refused_case bytes stop e = at (file_in bytes) refl
  where
    at_value : (d : Data) (r : Result Spelled CaseStop) → value_in d ≡ r → r ≡ Err stop → from_value d ≡ Err (Case stop)
    at_value d r is same = ap (λ s. next_stage (from_policy d) (of_case s)) (is ∙ same)

    at : (r : Result Data CaseStop) → file_in bytes ≡ r → accepted_in bytes ≡ Err (Case stop)
    at (Err other) is = let same : other ≡ stop = let whole = sym (file_refused bytes other is) ∙ e in cc in accepted_so bytes (Err other) is ∙ ap (λ s. Err (Case s)) same
    at (Ok d) is = accepted_so bytes (Ok d) is ∙ at_value d (value_in d) refl (sym (file_given bytes d is) ∙ e)

-- the case is spelled
case_spelled : (bytes : List ℕ) (d : Data) (case : Spelled) → SpellsJson bytes d → case_in bytes ≡ Ok case → accepted_in bytes ≡ from_policy d case
case_spelled bytes d case json e =
    let file = file_so bytes d json in
    accepted_so bytes (Ok d) file
    ∙ ap (λ s. next_stage (from_policy d) (of_case s)) (sym (file_given bytes d file) ∙ e)

policy_so : (d : Data) (case : Spelled) (r : Result Roles PolicyStop) → policy_in d case ≡ r → from_policy d case ≡ next_stage (λ policy. Ok (both case policy)) (of_policy r)
policy_so d case r e = ap (λ s. next_stage (λ policy. Ok (both case policy)) (of_policy s)) e

-- ---- both ways

comes : (bytes : List ℕ) (stop : AcceptStop) → Comes bytes stop → accepted_in bytes ≡ Err stop
comes bytes (Case stop) h = refused_case bytes stop ((refusals_law bytes stop).1 h)
comes bytes (OfPolicy stop) h =
    case_spelled bytes h.0 h.1 h.2.json ((cases_law bytes h.1).1 h.2.spells)
    ∙ policy_so h.0 h.1 (Err stop) ((policies_law.refused h.0 h.1 stop).1 h.3)

accepts : (bytes : List ℕ) (whole : SpelledBoth) → SpellsBoth bytes whole → accepted_in bytes ≡ Ok whole
accepts bytes whole h =
    case_spelled bytes h.value whole.case h.spells.json ((cases_law bytes whole.case).1 h.spells.spells)
    ∙ policy_so h.value whole.case (Ok whole.policy) ((policies_law.given h.value whole.case whole.policy).1 h.granted)

data Ends (bytes : List ℕ) : Type 0 where
  is_accepted : (whole : SpelledBoth) → SpellsBoth bytes whole → Ends bytes
  is_refused : (stop : AcceptStop) → Comes bytes stop → Ends bytes

ends : (bytes : List ℕ) → Ends bytes
ends bytes = at (case_in bytes) refl
  where
    by_policy : (d : Data) (case : Spelled) → Spells bytes d case → Verdict d case → Ends bytes
    by_policy d case h (granted P is g) = is_accepted (both case P) (record { value = d; spells = h; granted = g })
    by_policy d case h (refused stop is c) = is_refused (OfPolicy stop) (d, case, h, c)

    at : (r : Result Spelled CaseStop) → case_in bytes ≡ r → Ends bytes
    at (Err stop) e = is_refused (Case stop) ((refusals_law bytes stop).0 e)
    at (Ok case) e =
        let spells = (cases_law bytes case).0 e in
        by_policy spells.value case (record { json = spells.json; spells = spells }) (verdict spells.value case)

-- ---- the laws

refusal_comes : (bytes : List ℕ) (stop : AcceptStop) → accepted_in bytes ≡ Err stop → Comes bytes stop
refusal_comes bytes stop e = at (ends bytes)
  where
    at : Ends bytes → Comes bytes stop
    at (is_accepted whole h) = absurd (let bad = sym (accepts bytes whole h) ∙ e in cc)
    at (is_refused other h) = let same : other ≡ stop = let all = sym (comes bytes other h) ∙ e in cc in subst (Comes bytes) same h

both_spelled : (bytes : List ℕ) (whole : SpelledBoth) → accepted_in bytes ≡ Ok whole → SpellsBoth bytes whole
both_spelled bytes whole e = at (ends bytes)
  where
    at : Ends bytes → SpellsBoth bytes whole
    at (is_accepted other h) = let same : other ≡ whole = let all = sym (accepts bytes other h) ∙ e in cc in subst (SpellsBoth bytes) same h
    at (is_refused stop h) = absurd (let bad = sym (comes bytes stop h) ∙ e in cc)

pub refusals : RefusalsAreTheFormats
refusals bytes stop = (refusal_comes bytes stop, comes bytes stop)

pub accepted : AcceptedAreTheFormats
accepted bytes whole = (both_spelled bytes whole, accepts bytes whole)

none_comes : (bytes : List ℕ) → (whole : SpelledBoth) × (accepted_in bytes ≡ Ok whole) → (stop : AcceptStop) → ¬ Comes bytes stop
none_comes bytes found stop h = let bad = sym (comes bytes stop h) ∙ found.1 in absurd cc

one_is_given : (bytes : List ℕ) → ((stop : AcceptStop) → ¬ Comes bytes stop) → (whole : SpelledBoth) × (accepted_in bytes ≡ Ok whole)
one_is_given bytes none = at (ends bytes)
  where
    at : Ends bytes → (whole : SpelledBoth) × (accepted_in bytes ≡ Ok whole)
    at (is_accepted whole h) = (whole, accepts bytes whole h)
    at (is_refused stop h) = absurd (none stop h)

pub one_of_the_two : OneOfTheTwo
one_of_the_two bytes = (none_comes bytes, one_is_given bytes)
