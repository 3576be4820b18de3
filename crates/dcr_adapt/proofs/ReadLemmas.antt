-- The lines of a text, read one after another.
use Rattle.std.proofs.Common.{◌≡◌, ℕ, ◌+◌, ◌-◌, ◌<◌, ◌≤◌, inl, inr, suc, List, [], ◌∷◌, ◌++◌, length, get_or, map, take, drop, Option, Some, None, Result, Ok, Err, refl, sym, ap, subst, ◌∙◌, arith}
use Rattle.std.specs.Borrow.{Bor}
use Rattle.std.specs.List.{All, AllZip, slice_get}
use Rattle.std.specs.Option.{option_copied, option_map}
use Rattle.std.proofs.lemmas.Bool.{cases_lt}
use Rattle.std.proofs.lemmas.List.{drop_more, get_or_push, length-drop, length_push, map_push, take_all, take_more}
use Rattle.std.proofs.lemmas.List.Elements.{All-nil, All-push}
use Rattle.std.proofs.lemmas.Option.{slice_get-get_or}
use Rattle.std.proofs.lemmas.Slice.Zip.{all_zipped_more}
use Rattle.dcr_adapt.specs.Each.{each_from}
use Rattle.dcr_adapt.proofs.FromLemmas.{from_step, from_stop, from_end}
use Rattle.dcr_json.specs.Built.{case_of, IsCase}
use Rattle.dcr_json.specs.Case.{case_in}
use Rattle.dcr_json.specs.Written.{Spelled}
use Rattle.dcr_json.specs.declared.case.Case.{Case}
use Rattle.dcr_format.specs.declared.stop.CaseStop.TheVariants.{TooLong}
use Rattle.dcr_json.proofs.RefusalLemmas.{file_long, file_refused}
use Rattle.dcr_roles.specs.Accepted.{accepted_in}
use Rattle.dcr_roles.specs.Laws.{AcceptsCase}
use Rattle.dcr_adapt.specs.Stages.{case_before, case_if_accepted, line_texts, stage_in, stages_from}
use Rattle.dcr_adapt.specs.declared.stop.StageStop.{StageStop}
use Rattle.dcr_adapt.proofs.LineLemmas.{no_line}
use Rattle.dcr_adapt.proofs.StageLemmas.{accepted_case, accepted_spelled, read}

-- a text spells this case
abbrev pub Spells : List ℕ → Case → Type 0
Spells text case = case_in text ≡ Ok (case_of case)

-- and is accepted
abbrev pub Accepts : List ℕ → Case → Type 0
Accepts text case = AcceptsCase text (case_of case)

-- the last of the cases
abbrev pub last_of : List Case → Option Spelled
last_of cases = option_map case_of (slice_get cases (length cases - 1))

-- it is not too long then
short_spelled : (text : List ℕ) (case : Case) → Accepts text case → length text ≤ 16777216
short_spelled text case accepts = elim (cases_lt 16777216 (length text)) [
  | inl long ↦ absurd (let wrong = sym (file_refused text TooLong (file_long text long)) ∙ accepted_spelled text (case_of case) accepts in cc)
  | inr not_long ↦ omega (arith, not_long)
]

-- the lines before line i are these cases, and those from it on are left
pub record HasRead (texts : List (List ℕ)) (i : ℕ) (cases : List Case) (left : List (List ℕ)) : Type 0 where
  pub stages : each_from (read texts) 0 (take i texts) ≡ Ok (map case_of cases)
  pub lines : AllZip Accepts (take i texts) cases
  pub before : case_before texts i ≡ last_of cases
  pub behind : left ≡ drop i texts
  pub fits : All IsCase cases
  -- the first of them was not too long
  pub short : 0 < i → length (get_or texts 0 []) ≤ 16777216

pub none_read : (texts left : List (List ℕ)) (cases : List Case) → left ≡ texts → cases ≡ [] → HasRead texts 0 cases left
none_read texts left cases all none =
    let P : List Case → Type 0 = λ cs. HasRead texts 0 cs left in
    subst P (sym none) (record { stages = refl; lines = tt; before = refl; behind = all; fits = All-nil IsCase; short = λ some. absurd (omega (arith, some)) })

-- the case that was lent as the last one
pub lent_last : (cases : List Case) (lent : Option (Bor Case)) → option_copied lent ≡ slice_get cases (length cases - 1) → option_map (λ (was : Bor Case). case_of was.now) lent ≡ last_of cases
lent_last cases lent e = copied lent ∙ ap (option_map case_of) e
  where
    copied : (o : Option (Bor Case)) → option_map (λ (was : Bor Case). case_of was.now) o ≡ option_map case_of (option_copied o)
    copied None = refl
    copied (Some was) = refl

module _ (texts : List (List ℕ)) (i : ℕ) (cases : List Case) (left : List (List ℕ)) (text : List ℕ) (behind : List (List ℕ)) (has : HasRead texts i cases left) (within : i < length texts) (first : left ≡ text ∷ behind) where
  parts : text ∷ behind ≡ get_or texts i [] ∷ drop (i + 1) texts
  parts = sym first ∙ has.behind ∙ drop_more texts i [] within

  here : text ≡ get_or texts i []
  here = let both = parts in cc

  pub line_at : slice_get texts i ≡ Some text
  line_at = slice_get-get_or texts i [] within ∙ ap Some (sym here)

  stage_at : (before : Option Spelled) (r : Result Spelled StageStop) → before ≡ last_of cases → stage_in i before text ≡ r → read texts i text ≡ r
  stage_at before r last told = ap (λ o. stage_in i o text) (has.before ∙ sym last) ∙ told

  -- one more was read
  pub more_read : (before : Option Spelled) (case : Case) (more : List Case) → before ≡ last_of cases → stage_in i before text ≡ Ok (case_of case) → Accepts text case → IsCase case
      → more ≡ cases ++ case ∷ [] → HasRead texts (i + 1) more behind
  more_read before case more last told spells fits longer =
      let P : List Case → Type 0 = λ cs. HasRead texts (i + 1) cs behind in
      let taken : take (i + 1) texts ≡ take i texts ++ text ∷ [] = take_more texts i [] within ∙ ap (λ t. take i texts ++ t ∷ []) (sym here) in
      let next : i + 1 ≡ suc i = omega arith in
      let at : length (cases ++ case ∷ []) - 1 ≡ length cases = let long = length_push cases case in omega (arith, long) in
      let pushed : slice_get (cases ++ case ∷ []) (length cases) ≡ Some case =
      slice_get-get_or (cases ++ case ∷ []) (length cases) case (let long = length_push cases case in omega (arith, long)) ∙ ap Some (get_or_push cases case case (length cases) refl) in
      subst P (sym longer) (record {
        stages = from_step (read texts) texts i text (map case_of cases) (case_of case) line_at has.stages (stage_at before (Ok (case_of case)) last told) ∙ ap Ok (sym (map_push case_of cases case));
        lines = subst (λ ts. AllZip Accepts ts (cases ++ case ∷ [])) (sym taken) (all_zipped_more Accepts (take i texts) cases text case has.lines spells);
        before =
            ap (case_before texts) next ∙ ap (λ t. case_if_accepted (accepted_in t)) (sym here) ∙ accepted_case text (case_of case) spells
            ∙ sym (ap (λ k. option_map case_of (slice_get (cases ++ case ∷ []) k)) at ∙ ap (option_map case_of) pushed);
        behind = let both = parts in cc;
        fits = All-push IsCase cases case has.fits fits;
        short = λ _. elim (cases_lt 0 i) [
          | inl some ↦ has.short some
          | inr none ↦ let start : i ≡ 0 = omega (arith, none) in subst (λ t. length t ≤ 16777216) (here ∙ ap (λ k. get_or texts k []) start) (short_spelled text case spells)
        ];
      })

  -- where the first line is too long, this is that line
  pub long_first : 16777216 < length (get_or texts 0 []) → (i ≡ 0) × (16777216 < length text)
  long_first long = elim (cases_lt 0 i) [
    | inl some ↦ absurd (let short = has.short some in omega (arith, long, short))
    | inr none ↦ let start : i ≡ 0 = omega (arith, none) in (start, subst (λ t. 16777216 < length t) (sym (here ∙ ap (λ k. get_or texts k []) start)) long)
  ]

  -- one is refused
  pub stop_read : (before : Option Spelled) (stop : StageStop) → before ≡ last_of cases → stage_in i before text ≡ Err stop → stages_from texts ≡ Err stop
  stop_read before stop last told = from_stop (read texts) texts i text (map case_of cases) stop line_at has.stages (stage_at before (Err stop) last told)

-- all were read
pub all_read : (texts : List (List ℕ)) (i : ℕ) (cases : List Case) (left : List (List ℕ)) → HasRead texts i cases left → length texts ≤ i → stages_from texts ≡ Ok (map case_of cases)
all_read texts i cases left has past = from_end (read texts) texts i (Ok (map case_of cases)) past has.stages

pub all_accepted : (texts : List (List ℕ)) (i : ℕ) (cases : List Case) (left : List (List ℕ)) → HasRead texts i cases left → length texts ≤ i → AllZip Accepts texts cases
all_accepted texts i cases left has past = subst (λ ts. AllZip Accepts ts cases) (take_all i texts past) has.lines

each_spelled : (texts : List (List ℕ)) (cases : List Case) → AllZip Accepts texts cases → AllZip Spells texts cases
each_spelled [] [] h = tt
each_spelled [] (case ∷ cases) h = absurd h
each_spelled (text ∷ texts) [] h = absurd h
each_spelled (text ∷ texts) (case ∷ cases) h = (accepted_spelled text (case_of case) h.0, each_spelled texts cases h.1)

pub all_lines : (texts : List (List ℕ)) (i : ℕ) (cases : List Case) (left : List (List ℕ)) → HasRead texts i cases left → length texts ≤ i → AllZip Spells texts cases
all_lines texts i cases left has past = each_spelled texts cases (all_accepted texts i cases left has past)

-- a text with a line has a byte
some_byte : (text : List ℕ) → 0 < length (line_texts text) → 0 < length text
some_byte [] some = absurd (let none = ap (λ l. length l) (no_line [] refl) in omega (arith, some, none))
some_byte (byte ∷ bytes) some = omega arith

-- where a line is left, a byte is
pub byte_left : (texts : List (List ℕ)) (i : ℕ) (cases : List Case) (rest : List ℕ) → HasRead texts i cases (line_texts rest) → i < length texts → 0 < length rest
byte_left texts i cases rest has within =
    let left = ap (λ (l : List (List ℕ)). length l) has.behind in let long = length-drop i texts in some_byte rest (omega (arith, within, left, long))
