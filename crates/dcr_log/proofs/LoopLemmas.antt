-- The records behind the header, one after the other.
use Rattle.std.proofs.Common.{◌≡◌, ◌≢◌, ℕ, ◌+◌, ◌<◌, ◌≤◌, true, false, not, List, [], ◌∷◌, ◌++◌, eqb, length, take, drop, get_or, Option, Some, None, IfSome, IsSome, cond, refl, sym, ap, ◌∙◌, inl, inr, arith}
use Rattle.std.specs.Option.{option_map, unwrap_or}
use Rattle.std.proofs.lemmas.Bool.{and_from, and_left, and_right, cases_lt, eq-eqb, ne_eqb}
use Rattle.std.proofs.lemmas.List.{drop_more, length-drop, take_all, take_more}
use Rattle.std.proofs.lemmas.Option.{same_Some}
use Rattle.csv.specs.Reading.{expected_len}
use Rattle.dcr_set.proofs.LeastLemmas.{least-from, least-none_from}
use Rattle.dcr_log.specs.Records.{Record, TellsBad, first_bad, first_bad_behind, is_bad_behind, is_event, is_header}
use Rattle.dcr_log.specs.Traces.{event_in, name_in, traces_of}
use Rattle.dcr_log.specs.Left.{SliceReader, HasRead, IsGoing, TellsUneven, left_of}
use Rattle.dcr_log.specs.Gathered.{IsGathering, with_event}
use Rattle.dcr_log.specs.declared.stop.LogStop.{LogStop}
use Rattle.dcr_log.specs.declared.stop.LogStop.TheVariants.{Bad, NoMemory}
use Rattle.dcr_log.specs.declared.gathering.Gathering.{Gathering}
use Rattle.dcr_log.proofs.TraceLemmas.{traces_more, traces_none}

-- so many records were read behind a header of so many fields, none of them bad; their traces are gathered, and the others are left
pub record HasTaken (width : ℕ) (start now : SliceReader) (count : ℕ) (g : Gathering) : Type 0 where
  pub going : IsGoing now
  pub gathering : IsGathering g
  pub even : expected_len now ≡ Some width
  pub within : count ≤ length (left_of start)
  pub left : left_of now ≡ drop count (left_of start)
  pub good : (k : ℕ) → k < count → is_bad_behind width (get_or (left_of start) k []) ≡ false
  pub traces : g.traces.items ≡ traces_of (take count (left_of start))

-- at first none was read
pub taken_none : (width : ℕ) (start : SliceReader) (g : Gathering) → IsGoing start → expected_len start ≡ Some width → IsGathering g → g.traces.items ≡ [] → HasTaken width start start 0 g
taken_none width start g going even gathering none = record {
  going = going;
  gathering = gathering;
  even = even;
  within = omega arith;
  left = refl;
  good = λ k less. absurd (omega arith);
  traces = none ∙ sym traces_none;
}

-- the record at the front of those that are left
record IsFront (rows : List Record) (count : ℕ) (row : Record) (more : List Record) : Type 0 where
  pub within : count < length rows
  pub row_is : get_or rows count [] ≡ row
  pub more_is : drop (count + 1) rows ≡ more

front : (rows : List Record) (count : ℕ) (row : Record) (more : List Record) → drop count rows ≡ row ∷ more → IsFront rows count row more
front rows count row more e =
    let within : count < length rows = omega (arith, length-drop count rows, ap (λ (rs : List Record). length rs) e) in
    let both : get_or rows count [] ∷ drop (count + 1) rows ≡ row ∷ more = sym (drop_more rows count [] within) ∙ e in
    record { within = within; row_is = cc; more_is = cc }

-- a record of as many fields that is an event's is not bad, any other is
good_row : (width : ℕ) (row : Record) → length row ≡ width → is_event row ≡ true → is_bad_behind width row ≡ false
good_row width row long event = ap not (and_from (eqb (length row) width) (is_event row) (eq-eqb (length row) width long) event)

pub uneven_row : (width : ℕ) (row : Record) → length row ≢ width → is_bad_behind width row ≡ true
uneven_row width row other = ap not (and_left (eqb (length row) width) (is_event row) (ne_eqb (length row) width other))

pub no_event_row : (width : ℕ) (row : Record) → is_event row ≡ false → is_bad_behind width row ≡ true
no_event_row width row none = ap not (and_right (eqb (length row) width) (is_event row) none)

kept_width : (expected next : Option ℕ) (width n : ℕ) → expected ≡ Some width → next ≡ Some n → IfSome expected (λ w. next ≡ Some w) → (next ≡ Some width) × (n ≡ width)
kept_width None next width n e f kept = cc e
kept_width (Some w) next width n e f kept = let same = same_Some w width e in (kept ∙ ap Some same, same_Some n width (sym f ∙ (kept ∙ ap Some same)))

-- one record more
pub taken_more : (width : ℕ) (start now next : SliceReader) (count : ℕ) (g more : Gathering) (row : Record) → HasTaken width start now count g → HasRead now next row → is_event row ≡ true
    → IsGathering more → more.traces.items ≡ with_event g.traces.items (name_in row) (event_in row) → HasTaken width start next (count + 1) more
taken_more width start now next count g more row h r event gathering added =
    let rows = left_of start in
    let f = front rows count row (left_of next) (sym h.left ∙ r.first) in
    let wide = kept_width (expected_len now) (expected_len next) width (length row) h.even r.counted r.kept in
    record {
      going = r.going;
      gathering = gathering;
      even = wide.0;
      within = (let within = f.within in omega arith);
      left = sym f.more_is;
      good = λ k less. elim (cases_lt k count) [
        | inl before ↦ h.good k before
        | inr last ↦
            let here : k ≡ count = omega arith in
            ap (λ n. is_bad_behind width (get_or rows n [])) here ∙ (ap (is_bad_behind width) f.row_is ∙ good_row width row wide.1 event)
      ];
      traces =
          added ∙ (ap (λ (traces : List _). with_event traces (name_in row) (event_in row)) h.traces
          ∙ (sym (traces_more (take count rows) row)
          ∙ ap traces_of (ap (λ (r : Record). take count rows ++ r ∷ []) (sym f.row_is) ∙ sym (take_more rows count [] f.within))));
    }

-- the next record is the first bad one
pub taken_bad : (width : ℕ) (start now : SliceReader) (count : ℕ) (g : Gathering) (row : Record) (more : List Record) → HasTaken width start now count g → left_of now ≡ row ∷ more
    → is_bad_behind width row ≡ true → first_bad_behind width (left_of start) ≡ Some count
unfolding first_bad_behind
taken_bad width start now count g row more h e bad =
    let rows = left_of start in
    let f = front rows count row more (sym h.left ∙ e) in
    least-from (length rows) (λ k. is_bad_behind width (get_or rows k [])) count (record {
      below = f.within;
      passes = ap (is_bad_behind width) f.row_is ∙ bad;
      none_before = h.good;
    })

-- a stop of the reader tells the first bad record
pub stop_tells : (width : ℕ) (start now : SliceReader) (count : ℕ) (g : Gathering) → HasTaken width start now count g → (stop : LogStop)
    → TellsUneven (count + 1) (expected_len now) (left_of now) stop → TellsBad (option_map (λ k. k + 1) (first_bad_behind width (left_of start))) stop
stop_tells width start now count g h NoMemory told = tt
stop_tells width start now count g h (Bad row) told =
    let u = told.1 in
    let same : width ≡ u.width = same_Some width u.width (sym h.even ∙ u.wanted) in
    let bad = taken_bad width start now count g u.row u.more h u.first (uneven_row width u.row (λ e. u.other (e ∙ same))) in
    ap (option_map (λ (k : ℕ). k + 1)) bad ∙ ap Some (sym told.0)

-- none is left, and none was bad
pub taken_all : (width : ℕ) (start now : SliceReader) (count : ℕ) (g : Gathering) → HasTaken width start now count g → left_of now ≡ []
    → (first_bad_behind width (left_of start) ≡ None) × (g.traces.items ≡ traces_of (left_of start))
unfolding first_bad_behind
taken_all width start now count g h none =
    let rows = left_of start in
    let all : length rows ≤ count = omega (arith, length-drop count rows, ap (λ (rs : List Record). length rs) (sym h.left ∙ none)) in (
      least-none_from (length rows) (λ k. is_bad_behind width (get_or rows k [])) (λ k less. h.good k (omega arith)),
      h.traces ∙ ap traces_of (take_all count rows all),
    )

-- what is there is a number
pub some_is : (o : Option ℕ) → IsSome o → o ≡ Some (unwrap_or o 0)
some_is None h = cc h
some_is (Some n) h = refl

-- the records of a log behind its header
pub record BehindHeader (records rows : List Record) (expected : Option ℕ) : Type 0 where
  pub bad : first_bad records ≡ option_map (λ k. k + 1) (first_bad_behind (unwrap_or expected 0) rows)
  pub rest : drop 1 records ≡ rows
  pub fewer : length rows + 1 ≡ length records

pub behind_header : (records rows : List Record) (header : Record) (expected : Option ℕ) → records ≡ header ∷ rows → is_header header ≡ true → expected ≡ Some (length header)
    → BehindHeader records rows expected
behind_header records rows header expected e begins wide = record {
  bad =
      ap first_bad e
      ∙ (ap (λ b. cond b (option_map (λ (k : ℕ). k + 1) (first_bad_behind (length header) rows)) (Some 0)) begins
      ∙ ap (λ o. option_map (λ (k : ℕ). k + 1) (first_bad_behind (unwrap_or o 0) rows)) (sym wide));
  rest = ap (drop 1) e;
  fewer = omega (arith, ap (λ (rs : List Record). length rs) e);
}

-- none of them is bad
pub none_bad : {records rows : List Record} {expected : Option ℕ} → BehindHeader records rows expected → first_bad_behind (unwrap_or expected 0) rows ≡ None → first_bad records ≡ None
none_bad b none = b.bad ∙ ap (option_map (λ (k : ℕ). k + 1)) none
