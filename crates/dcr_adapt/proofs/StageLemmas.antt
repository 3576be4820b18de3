-- One stage: when it is accepted, and what it is refused for.
use Rattle.std.proofs.Common.{◌≡◌, ℕ, zero, suc, ◌+◌, ◌<◌, Bool, true, List, [], length, get_or, Option, Some, None, Result, Ok, Err, refl, sym, ap, subst, ◌∙◌, arith}
use Rattle.std.specs.List.{slice_get}
use Rattle.std.specs.Option.{is_none}
use Rattle.std.specs.Str.{bytes_eq}
use Rattle.std.proofs.lemmas.Bool.{false≢true, false_from_ne_true}
use Rattle.std.proofs.lemmas.Option.{get_or_from_slice_get, slice_get-get_or, slice_get_within, same_Some}
use Rattle.std.proofs.lemmas.Slice.Eq.{bytes_eq-Decides}
use Rattle.dcr_set.proofs.LeastLemmas.{least-some, least-none, least-from, least-none_from}
use Rattle.dcr_graph.specs.Names.{number_of}
use Rattle.dcr_roles.specs.Stages.{next_stage}
use Rattle.dcr_graph_json.specs.Build.{atom_names}
use Rattle.dcr_json.specs.Case.{case_in}
use Rattle.dcr_json.specs.Written.{Spelled}
use Rattle.dcr_line.specs.Line.{name_of as name_at}
use Rattle.dcr_json.proofs.RefusalLemmas.{cases_law}
use Rattle.dcr_roles.specs.Accepted.{accepted_in, SpelledBoth}
use Rattle.dcr_roles.specs.Laws.{AcceptsCase}
use Rattle.dcr_roles.specs.declared.accepted.AcceptStop.{AcceptStop}
use Rattle.dcr_roles.proofs.AcceptedLemmas.{accepted}
use Rattle.dcr_adapt.specs.Stages.{by_line, of_stage, first_dropped, by_dropped, kept, stage_in, case_before, case_if_accepted}
use Rattle.dcr_adapt.specs.Refusals.{IsDropped, IsLeastDropped, SpellsLine, RefusesLine, IsAccepted, DropsName}
use Rattle.dcr_adapt.specs.declared.stop.StageStop.{StageStop}
use Rattle.dcr_adapt.specs.declared.stop.StageStop.TheVariants.{Dropped}

-- ---- names that are missing

none_is : {A : Type 0} (o : Option A) → is_none o ≡ true → o ≡ None
none_is None e = refl
none_is (Some x) e = absurd (false≢true e)

abbrev missing : List (List ℕ) → List (List ℕ) → ℕ → Bool
missing names next a = is_none (number_of next (name_at names a))

dropped_from : (names next : List (List ℕ)) (a : ℕ) → a < length names → missing names next a ≡ true → IsDropped names next a
dropped_from names next a atom gone = record {
  atom = atom;
  missing = λ b below same.
      false≢true (sym (least-none (length next) (λ k. bytes_eq (name_at next k) (name_at names a)) (none_is _ gone) b below) ∙ (bytes_eq-Decides (name_at next b) (name_at names a)).1 same);
}

missing_from : (names next : List (List ℕ)) (a : ℕ) → IsDropped names next a → missing names next a ≡ true
missing_from names next a dropped =
    ap is_none (least-none_from (length next) (λ k. bytes_eq (name_at next k) (name_at names a))
    (λ b below. false_from_ne_true _ (λ same. dropped.missing b below ((bytes_eq-Decides (name_at next b) (name_at names a)).0 same))))

-- the least atom that is dropped
pub least_dropped : (names next : List (List ℕ)) (a : ℕ) → first_dropped names next ≡ Some a → IsLeastDropped names next a
least_dropped names next a found =
    let first = least-some (length names) (missing names next) a found in
    record {
      dropped = dropped_from names next a first.below first.passes;
      earlier = λ b before dropped. false≢true (sym (first.none_before b before) ∙ missing_from names next b dropped);
    }

pub first_from : (names next : List (List ℕ)) (a : ℕ) → IsLeastDropped names next a → first_dropped names next ≡ Some a
first_from names next a first = least-from (length names) (missing names next) a (record {
  below = first.dropped.atom;
  passes = missing_from names next a first.dropped;
  none_before = λ b before. false_from_ne_true _ (λ gone. first.earlier b before (dropped_from names next b (let atom = first.dropped.atom in omega (arith, before, atom)) gone));
})

-- there is none
pub none_dropped : (names next : List (List ℕ)) → first_dropped names next ≡ None → (a : ℕ) → ¬ IsDropped names next a
none_dropped names next none a dropped = false≢true (sym (least-none (length names) (missing names next) none a dropped.atom) ∙ missing_from names next a dropped)

pub none_from : (names next : List (List ℕ)) → ((a : ℕ) → ¬ IsDropped names next a) → first_dropped names next ≡ None
none_from names next each = least-none_from (length names) (missing names next) (λ a atom. false_from_ne_true _ (λ gone. each a (dropped_from names next a atom gone)))

-- ---- what is accepted

-- a case, with its policy
pub of_both : (text : List ℕ) (both : SpelledBoth) (case : Spelled) → accepted_in text ≡ Ok both → both.case ≡ case → AcceptsCase text case
of_both text both case e same = subst (AcceptsCase text) same (record { policy = both.policy; spells = (accepted text both).0 e })

-- the other way round
accepted_as : (text : List ℕ) (case : Spelled) (a : AcceptsCase text case) → accepted_in text ≡ Ok (record { case = case; policy = a.policy })
accepted_as text case a = (accepted text (record { case = case; policy = a.policy })).1 a.spells

-- it is that case
pub accepted_case : (text : List ℕ) (case : Spelled) → AcceptsCase text case → case_if_accepted (accepted_in text) ≡ Some case
accepted_case text case a = ap case_if_accepted (accepted_as text case a)

-- and spelled as one
pub accepted_spelled : (text : List ℕ) (case : Spelled) → AcceptsCase text case → case_in text ≡ Ok case
accepted_spelled text case a = (cases_law text case).1 a.spells.spells.spells

-- ---- the case before

pub before_is : (texts : List (List ℕ)) (h : ℕ) (before : Spelled) → SpellsLine texts h before → case_before texts (suc h) ≡ Some before
before_is texts h before was =
    ap (λ text. case_if_accepted (accepted_in text)) (get_or_from_slice_get texts h was.text [] was.line)
    ∙ accepted_case was.text before was.accepted

if_accepted : (text : List ℕ) (case : Spelled) (r : Result SpelledBoth AcceptStop) → accepted_in text ≡ r → case_if_accepted r ≡ Some case → AcceptsCase text case
if_accepted text case (Ok both) is e = of_both text both case is (same_Some _ _ e)
if_accepted text case (Err stop) is e = absurd cc

-- the line that it is
pub spelled_before : (texts : List (List ℕ)) (h : ℕ) (before : Spelled) → h < length texts → case_before texts (suc h) ≡ Some before → SpellsLine texts h before
spelled_before texts h before below e = record { text = get_or texts h []; line = slice_get-get_or texts h [] below; accepted = if_accepted (get_or texts h []) before (accepted_in (get_or texts h [])) refl e }

-- ---- what is kept

pub kept_where : (i : ℕ) (before case : Spelled) → first_dropped (atom_names before.nested) (atom_names case.nested) ≡ None → kept i (Some before) case ≡ Ok tt
kept_where i before case none = ap (by_dropped i (atom_names before.nested)) none

pub dropped_where : (i : ℕ) (before case : Spelled) (a : ℕ) → first_dropped (atom_names before.nested) (atom_names case.nested) ≡ Some a → kept i (Some before) case ≡ Err (Dropped i (name_at (atom_names before.nested) a))
dropped_where i before case a found = ap (by_dropped i (atom_names before.nested)) found

by_none : (i : ℕ) (names : List (List ℕ)) (o : Option ℕ) → by_dropped i names o ≡ Ok tt → o ≡ None
by_none i names None e = refl
by_none i names (Some a) e = absurd cc

pub none_kept : (i : ℕ) (before case : Spelled) → kept i (Some before) case ≡ Ok tt → first_dropped (atom_names before.nested) (atom_names case.nested) ≡ None
none_kept i before case e = by_none i (atom_names before.nested) (first_dropped (atom_names before.nested) (atom_names case.nested)) e

-- an atom was dropped
pub record Drops (i : ℕ) (before : Option Spelled) (case : Spelled) (stop : StageStop) : Type 0 where
  pub was : Spelled
  pub atom : ℕ
  pub there : before ≡ Some was
  pub first : first_dropped (atom_names was.nested) (atom_names case.nested) ≡ Some atom
  pub stop_is : stop ≡ Dropped i (name_at (atom_names was.nested) atom)

drops_by : (i : ℕ) (was case : Spelled) (o : Option ℕ) (stop : StageStop) → first_dropped (atom_names was.nested) (atom_names case.nested) ≡ o → by_dropped i (atom_names was.nested) o ≡ Err stop → Drops i (Some was) case stop
drops_by i was case None stop found e = absurd cc
drops_by i was case (Some a) stop found e = record { was = was; atom = a; there = refl; first = found; stop_is = let same : Dropped i (name_at (atom_names was.nested) a) ≡ stop = cc in sym same }

pub drops : (i : ℕ) (before : Option Spelled) (case : Spelled) (stop : StageStop) → kept i before case ≡ Err stop → Drops i before case stop
drops i None case stop e = absurd cc
drops i (Some was) case stop e = drops_by i was case (first_dropped (atom_names was.nested) (atom_names case.nested)) stop refl e

-- ---- one stage

-- the stage behind what its line is by itself
behind : ℕ → Option Spelled → Result SpelledBoth AcceptStop → Result Spelled StageStop
behind i before r = next_stage (λ case. next_stage (λ _. Ok case) (kept i before case)) (of_stage i r)

behind_is : (i : ℕ) (before : Option Spelled) (text : List ℕ) → stage_in i before text ≡ behind i before (accepted_in text)
unfolding stage_in behind
behind_is i before text = refl

-- it is accepted
pub stage_ok : (i : ℕ) (before : Option Spelled) (text : List ℕ) (case : Spelled) → AcceptsCase text case → kept i before case ≡ Ok tt → stage_in i before text ≡ Ok case
unfolding behind
stage_ok i before text case is keeps = behind_is i before text ∙ ap (behind i before) (accepted_as text case is) ∙ ap (next_stage (λ _. Ok case)) keeps

-- its line is refused
pub stage_refused : (i : ℕ) (before : Option Spelled) (text : List ℕ) (why : AcceptStop) → accepted_in text ≡ Err why → stage_in i before text ≡ Err (by_line i why)
unfolding behind
stage_refused i before text why is = behind_is i before text ∙ ap (behind i before) is

-- an atom is dropped
pub stage_drops : (i : ℕ) (before : Option Spelled) (text : List ℕ) (case : Spelled) (stop : StageStop) → AcceptsCase text case → kept i before case ≡ Err stop → stage_in i before text ≡ Err stop
unfolding behind
stage_drops i before text case stop is drops = behind_is i before text ∙ ap (behind i before) (accepted_as text case is) ∙ ap (next_stage (λ _. Ok case)) drops

-- what an accepted stage is
pub record IsGiven (i : ℕ) (before : Option Spelled) (text : List ℕ) (case : Spelled) : Type 0 where
  pub accepted : AcceptsCase text case
  pub keeps : kept i before case ≡ Ok tt

given_by : (i : ℕ) (before : Option Spelled) (text : List ℕ) (case : Spelled) (both : SpelledBoth) (k : Result (Unit {0}) StageStop) → accepted_in text ≡ Ok both → kept i before both.case ≡ k → next_stage (λ _. Ok both.case) k ≡ Ok case → IsGiven i before text case
given_by i before text case both (Ok u) is keeps e =
    let same : both.case ≡ case = cc in
    record { accepted = of_both text both case is same; keeps = ap (kept i before) (sym same) ∙ keeps }
given_by i before text case both (Err stop) is keeps e = absurd cc

given_as : (i : ℕ) (before : Option Spelled) (text : List ℕ) (case : Spelled) (r : Result SpelledBoth AcceptStop) → accepted_in text ≡ r → behind i before r ≡ Ok case → IsGiven i before text case
unfolding behind
given_as i before text case (Ok both) is e = given_by i before text case both (kept i before both.case) is refl e
given_as i before text case (Err why) is e = absurd cc

pub given_is : (i : ℕ) (before : Option Spelled) (text : List ℕ) (case : Spelled) → stage_in i before text ≡ Ok case → IsGiven i before text case
given_is i before text case e = given_as i before text case (accepted_in text) refl (sym (behind_is i before text) ∙ e)

-- what a stage is refused for
pub data Refused (i : ℕ) (before : Option Spelled) (text : List ℕ) (stop : StageStop) : Type 0 where
  by_itself : (why : AcceptStop) → accepted_in text ≡ Err why → stop ≡ by_line i why → Refused i before text stop
  by_drop : (case : Spelled) → AcceptsCase text case → Drops i before case stop → Refused i before text stop

refused_by : (i : ℕ) (before : Option Spelled) (text : List ℕ) (case : Spelled) (stop : StageStop) (k : Result (Unit {0}) StageStop) → AcceptsCase text case → kept i before case ≡ k → next_stage (λ _. Ok case) k ≡ Err stop → Refused i before text stop
refused_by i before text case stop (Ok u) is keeps e = absurd cc
refused_by i before text case stop (Err other) is keeps e =
    let same : other ≡ stop = cc in by_drop case is (drops i before case stop (keeps ∙ ap Err same))

refused_as : (i : ℕ) (before : Option Spelled) (text : List ℕ) (stop : StageStop) (r : Result SpelledBoth AcceptStop) → accepted_in text ≡ r → behind i before r ≡ Err stop → Refused i before text stop
unfolding behind
refused_as i before text stop (Ok both) is e = refused_by i before text both.case stop (kept i before both.case) (of_both text both both.case is refl) refl e
refused_as i before text stop (Err why) is e = by_itself why is (let same : by_line i why ≡ stop = cc in sym same)

pub refused_is : (i : ℕ) (before : Option Spelled) (text : List ℕ) (stop : StageStop) → stage_in i before text ≡ Err stop → Refused i before text stop
refused_is i before text stop e = refused_as i before text stop (accepted_in text) refl (sym (behind_is i before text) ∙ e)

-- ---- one stage among the lines

module _ (texts : List (List ℕ)) where
  abbrev pub read : ℕ → List ℕ → Result Spelled StageStop
  read i text = stage_in i (case_before texts i) text

  pub accepted_read : (i : ℕ) (case : Spelled) (a : IsAccepted texts i case) → read i a.spells.text ≡ Ok case
  accepted_read zero case a = stage_ok zero None a.spells.text case a.spells.accepted refl
  accepted_read (suc h) case a = at (case_before texts (suc h)) refl
    where
      at : (o : Option Spelled) → case_before texts (suc h) ≡ o → read (suc h) a.spells.text ≡ Ok case
      at None e = stage_ok (suc h) (case_before texts (suc h)) a.spells.text case a.spells.accepted (ap (λ o. kept (suc h) o case) e)
      at (Some before) e =
          let last = slice_get_within texts (suc h) a.spells.text a.spells.line in
          let was = spelled_before texts h before (omega (arith, last)) e in
          stage_ok (suc h) (case_before texts (suc h)) a.spells.text case a.spells.accepted
          (ap (λ o. kept (suc h) o case) e ∙ kept_where (suc h) before case (none_from _ _ (a.keeps h before (omega arith) was)))

  keeps_by : (i : ℕ) (case : Spelled) → kept i (case_before texts i) case ≡ Ok tt → (h : ℕ) (before : Spelled) → h + 1 ≡ i → SpellsLine texts h before
      → (a : ℕ) → ¬ IsDropped (atom_names before.nested) (atom_names case.nested) a
  keeps_by i case keeps h before next was a dropped =
      let same : suc h ≡ i = omega (arith, next) in
      let there : case_before texts i ≡ Some before = ap (case_before texts) (sym same) ∙ before_is texts h before was in
      none_dropped _ _ (none_kept i before case (ap (λ o. kept i o case) (sym there) ∙ keeps)) a dropped

  pub read_accepted : (i : ℕ) (text : List ℕ) (case : Spelled) → slice_get texts i ≡ Some text → read i text ≡ Ok case → IsAccepted texts i case
  read_accepted i text case at e =
      let given = given_is i (case_before texts i) text case e in
      record { spells = record { text = text; line = at; accepted = given.accepted }; keeps = keeps_by i case given.keeps }

  pub line_refused : (i : ℕ) (why : AcceptStop) (r : RefusesLine texts i why) → read i r.text ≡ Err (by_line i why)
  line_refused i why r = stage_refused i (case_before texts i) r.text why r.refused

  pub name_dropped : (i : ℕ) (name : List ℕ) (d : DropsName texts i name) → read i d.is.text ≡ Err (Dropped i name)
  name_dropped i name d =
      let same : suc d.h ≡ i = omega (arith, d.next) in
      let there : case_before texts i ≡ Some d.before = ap (case_before texts) (sym same) ∙ before_is texts d.h d.before d.was in
      stage_drops i (case_before texts i) d.is.text d.case (Dropped i name) d.is.accepted
      (ap (λ o. kept i o d.case) there ∙ dropped_where i d.before d.case d.atom (first_from _ _ d.atom d.least) ∙ ap (λ n. Err (Dropped i n)) (sym d.named))

  pub dropped_name : (i : ℕ) (text : List ℕ) (case : Spelled) (stop : StageStop) → slice_get texts i ≡ Some text → AcceptsCase text case → Drops i (case_before texts i) case stop
      → (name : List ℕ) × (stop ≡ Dropped i name) × DropsName texts i name
  dropped_name zero text case stop at is d = absurd (let none = d.there in cc)
  dropped_name (suc h) text case stop at is d =
      let last = slice_get_within texts (suc h) text at in (
        name_at (atom_names d.was.nested) d.atom,
        d.stop_is,
        record {
          h = h;
          next = omega arith;
          before = d.was;
          case = case;
          was = spelled_before texts h d.was (omega (arith, last)) d.there;
          is = record { text = text; line = at; accepted = is };
          atom = d.atom;
          least = least_dropped _ _ d.atom d.first;
          named = refl;
        },
      )
