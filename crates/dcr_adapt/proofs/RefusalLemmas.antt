-- The stages of a text, or the first refusal, both ways.
use Rattle.std.proofs.Common.{◌≡◌, ℕ, ◌<◌, ◌⊎◌, inl, inr, Bool, true, false, ◌&&◌, cond, nat_le, List, [], length, Some, Result, Ok, Err, refl, sym, ap, subst, ◌∙◌, arith}
use Rattle.std.specs.List.{slice_get}
use Rattle.std.proofs.lemmas.Bool.Decides.{leb_tells}
use Rattle.std.proofs.lemmas.Option.{same_Some, slice_get-get_or, slice_get_within}
use Rattle.dcr_roles.specs.Stages.{next_stage}
use Rattle.dcr_adapt.proofs.FromLemmas.{from_length, each_read}
use Rattle.dcr_json.specs.Written.{Spelled}
use Rattle.dcr_roles.specs.declared.accepted.AcceptStop.{AcceptStop}
use Rattle.dcr_roles.specs.declared.accepted.AcceptStop.TheVariants as cause
use Rattle.dcr_adapt.specs.Stages.{by_line, case_before, line_texts, counted, stages_from, stages_in}
use Rattle.dcr_adapt.specs.Refusals.{IsAccepted, RefusesLine, AreSoMany, IsReached, ComesOf, Comes, AreStages, RefusalsAreTheStages, StagesAreTheLines, OneOfTheTwo}
use Rattle.dcr_adapt.specs.declared.stop.StageStop.{StageStop}
use Rattle.dcr_adapt.specs.declared.stop.StageStop.TheVariants.{Cases, Stage, Policy, Dropped, NoMemory}
use Rattle.dcr_adapt.proofs.EachLemmas.{AreRead, IsFirstRefused, first_refused, refused_where, given_where}
use Rattle.dcr_adapt.proofs.StageLemmas.{Refused, by_itself, by_drop, refused_is, read, accepted_read, read_accepted, line_refused, name_dropped, dropped_name}

-- ---- how many lines there are

abbrev few : ℕ → Bool
few count = nat_le 1 count && nat_le count 16

pub few_so : (count : ℕ) → AreSoMany count → few count ≡ true
few_so count many = elim (leb_tells 1 count) [
  | inl some ↦ elim (leb_tells count 16) [
    | inl most ↦ ap (λ b. b && nat_le count 16) some.0 ∙ most.0
    | inr more ↦ absurd (let past = more.1 in let most = many.most in omega (arith, past, most))
  ]
  | inr none ↦ absurd (let past = none.1 in let some = many.some in omega (arith, past, some))
]

pub few_not : (count : ℕ) → ¬ AreSoMany count → few count ≡ false
few_not count other = elim (leb_tells 1 count) [
  | inl some ↦ elim (leb_tells count 16) [
    | inl most ↦ absurd (other (record { some = some.1; most = most.1 }))
    | inr more ↦ ap (λ b. b && nat_le count 16) some.0 ∙ more.0
  ]
  | inr none ↦ ap (λ b. b && nat_le count 16) none.0
]

pub so_many : (count : ℕ) → AreSoMany count ⊎ (¬ AreSoMany count)
so_many count = elim (leb_tells 1 count) [
  | inl some ↦ elim (leb_tells count 16) [
    | inl most ↦ inl (record { some = some.1; most = most.1 })
    | inr more ↦ inr (λ many. let past = more.1 in let most = many.most in absurd (omega (arith, past, most)))
  ]
  | inr none ↦ inr (λ many. let past = none.1 in let some = many.some in absurd (omega (arith, past, some)))
]

from_count : (texts : List (List ℕ)) (b : Bool) → few (length texts) ≡ b → next_stage stages_from (counted texts) ≡ next_stage stages_from (cond b (Ok texts) (Err (Cases (length texts))))
from_count texts b e = ap (λ c. next_stage stages_from (cond c (Ok texts) (Err (Cases (length texts))))) e

pub stages_so : (bytes : List ℕ) → AreSoMany (length (line_texts bytes)) → stages_in bytes ≡ stages_from (line_texts bytes)
unfolding stages_in
stages_so bytes many = from_count (line_texts bytes) true (few_so _ many)

pub counted_so : (bytes : List ℕ) → (¬ AreSoMany (length (line_texts bytes))) → stages_in bytes ≡ Err (Cases (length (line_texts bytes)))
unfolding stages_in
counted_so bytes other = from_count (line_texts bytes) false (few_not _ other)

-- ---- the stages of these lines

module _ (texts : List (List ℕ)) where
  reached_read : (i : ℕ) → ((h : ℕ) → h < i → (case : Spelled) × IsAccepted texts h case) → AreRead (read texts) texts i
  reached_read i earlier h text before at =
      let stage = earlier h before in
      let same : stage.1.spells.text ≡ text = same_Some _ _ (sym stage.1.spells.line ∙ at) in
      (stage.0, ap (read texts h) (sym same) ∙ accepted_read texts h stage.0 stage.1)

  read_reached : (i : ℕ) → i < length texts → AreRead (read texts) texts i → (h : ℕ) → h < i → (case : Spelled) × IsAccepted texts h case
  read_reached i within earlier h before =
      let at = slice_get-get_or texts h [] (omega (arith, within, before)) in
      let stage = earlier h _ before at in
      (stage.0, read_accepted texts h _ stage.0 at stage.1)

  pub comes_of : (stop : StageStop) → AreSoMany (length texts) → stages_from texts ≡ Err stop → ComesOf texts stop
  comes_of stop many e = at (first_refused (read texts) texts stop e)
    where
      reached : (first : IsFirstRefused (read texts) texts stop) → IsReached texts first.i
      reached first = record { many = many; earlier = read_reached first.i (slice_get_within texts first.i first.x first.at) first.earlier }

      by_cause : (i : ℕ) (why : AcceptStop) → IsReached texts i → RefusesLine texts i why → ComesOf texts (by_line i why)
      by_cause i (cause.Case stop) there refuses = (there, refuses)
      by_cause i (cause.Policy stop) there refuses = (there, refuses)

      why : (first : IsFirstRefused (read texts) texts stop) → Refused first.i (case_before texts first.i) first.x stop → ComesOf texts stop
      why first (by_itself because is stop_is) = subst (ComesOf texts) (sym stop_is) (by_cause first.i because (reached first) (record { text = first.x; line = first.at; refused = is }))
      why first (by_drop case is drop) =
          let named = dropped_name texts first.i first.x case stop first.at is drop in
          subst (ComesOf texts) (sym named.1) (reached first, named.2)

      at : IsFirstRefused (read texts) texts stop → ComesOf texts stop
      at first = why first (refused_is first.i (case_before texts first.i) first.x stop first.refused)

  stopped : (i : ℕ) (text : List ℕ) (stop : StageStop) → IsReached texts i → slice_get texts i ≡ Some text → read texts i text ≡ Err stop → stages_from texts ≡ Err stop
  stopped i text stop reached at refused = refused_where (read texts) texts stop (record { i = i; x = text; at = at; refused = refused; earlier = reached_read i reached.earlier })

  pub given_of : (cases : List Spelled) → AreSoMany (length texts) → stages_from texts ≡ Ok cases → AreStages texts cases
  given_of cases many e = record {
    many = many;
    as_many = from_length (read texts) 0 texts cases e;
    accepted = λ i case at.
        let long = from_length (read texts) 0 texts cases e in
        let below = slice_get_within cases i case at in
        let line = slice_get-get_or texts i [] (omega (arith, long, below)) in
        let one = each_read (read texts) texts cases e i _ line in
        let same : one.0 ≡ case = same_Some _ _ (sym one.1 ∙ at) in
        read_accepted texts i _ case line (one.2 ∙ ap Ok same);
  }

  pub stages_given : (cases : List Spelled) → AreStages texts cases → stages_from texts ≡ Ok cases
  stages_given cases are = given_where (read texts) texts cases are.as_many (λ i text case line at.
      let stage = are.accepted i case at in
      let same : stage.spells.text ≡ text = same_Some _ _ (sym stage.spells.line ∙ line) in
      ap (read texts i) (sym same) ∙ accepted_read texts i case stage)

-- ---- the laws

comes_from : (bytes : List ℕ) (stop : StageStop) → Comes bytes stop → stages_in bytes ≡ Err stop
comes_from bytes (Cases count) h =
    let n = length (line_texts bytes) in
    let other : ¬ AreSoMany n = subst (λ m. ¬ AreSoMany m) h.0 h.1 in
    counted_so bytes other ∙ ap (λ m. Err (Cases m)) (sym h.0)
comes_from bytes (Stage i why) h = stages_so bytes h.0.many ∙ stopped (line_texts bytes) i h.1.text (Stage i why) h.0 h.1.line (line_refused (line_texts bytes) i (cause.Case why) h.1)
comes_from bytes (Policy i why) h = stages_so bytes h.0.many ∙ stopped (line_texts bytes) i h.1.text (Policy i why) h.0 h.1.line (line_refused (line_texts bytes) i (cause.Policy why) h.1)
comes_from bytes (Dropped i name) h = stages_so bytes h.0.many ∙ stopped (line_texts bytes) i h.1.is.text (Dropped i name) h.0 h.1.is.line (name_dropped (line_texts bytes) i name h.1)
comes_from bytes NoMemory h = absurd h

comes_to : (bytes : List ℕ) (stop : StageStop) → stages_in bytes ≡ Err stop → Comes bytes stop
comes_to bytes stop e = elim (so_many (length (line_texts bytes))) [
  | inl many ↦ comes_of (line_texts bytes) stop many (sym (stages_so bytes many) ∙ e)
  | inr other ↦
      let same : Cases (length (line_texts bytes)) ≡ stop = let whole = sym (counted_so bytes other) ∙ e in cc in
      subst (ComesOf (line_texts bytes)) same (refl, other)
]

pub refusals_law : RefusalsAreTheStages
refusals_law bytes stop = (comes_to bytes stop, comes_from bytes stop)

stages_to : (bytes : List ℕ) (cases : List Spelled) → stages_in bytes ≡ Ok cases → AreStages (line_texts bytes) cases
stages_to bytes cases e = elim (so_many (length (line_texts bytes))) [
  | inl many ↦ given_of (line_texts bytes) cases many (sym (stages_so bytes many) ∙ e)
  | inr other ↦ absurd (let wrong = sym (counted_so bytes other) ∙ e in cc)
]

pub stages_law : StagesAreTheLines
stages_law bytes cases = (stages_to bytes cases, λ are. stages_so bytes are.many ∙ stages_given (line_texts bytes) cases are)

one_of : (bytes : List ℕ) (r : Result (List Spelled) StageStop) → stages_in bytes ≡ r → ((stop : StageStop) → ¬ Comes bytes stop) → (cases : List Spelled) × (stages_in bytes ≡ Ok cases)
one_of bytes (Ok cases) e none = (cases, e)
one_of bytes (Err stop) e none = absurd (none stop (comes_to bytes stop e))

pub one_law : OneOfTheTwo
one_law bytes = (λ given stop comes. absurd (let wrong = sym given.1 ∙ comes_from bytes stop comes in cc), one_of bytes (stages_in bytes) refl)
