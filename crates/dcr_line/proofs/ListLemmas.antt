-- Lists of names, both ways.
use Rattle.std.proofs.Common.{◌≡◌, inl, inr, ℕ, suc, ◌+◌, ◌<◌, ◌≤◌, Bool, true, false, not, cond, ◌&&◌, ◌||◌, eqb, leb, List, [], ◌∷◌, ◌++◌, length, map, codes, Some, None, Option, refl, sym, ap, ◌∙◌, arith}
use Rattle.std.specs.List.{All, AllPairs, fold, join_with_byte, list_all, list_any}
use Rattle.std.specs.Option.{option_and_then}
use Rattle.std.specs.Str.{bytes_eq}
use Rattle.std.proofs.Math.Bool.{and-false, and-true, or-false}
use Rattle.std.proofs.lemmas.Bool.{and_parts, cases_lt, eq-eqb, false_from_ne_true, le-leb, leb-true, lt-leb, ne_eqb, true≢false}
use Rattle.std.proofs.lemmas.List.Elements.{All-cons, All-head, All-nil, All-same, All-tail}
use Rattle.std.proofs.lemmas.List.Folds.{list_all-append}
use Rattle.std.proofs.lemmas.List.Kept.{AllPairs-from_increasing}
use Rattle.std.proofs.lemmas.List.Splits.{length-slice_split}
use Rattle.std.proofs.lemmas.Option.{option_and_then_some, same_Some}
use Rattle.dcr_set.specs.EventSet.{Set, has, those, numbers, no_event, with_event}
use Rattle.dcr_set.proofs.SetLemmas.{has-those, length-those, those-ext, those-has}
use Rattle.dcr_set.proofs.NumbersLemmas.{numbers-ascend, numbers-below, numbers-those, passing, passing-ext, passing_first, passing_none, set_from_numbers}
use Rattle.dcr_graph.specs.Names.{AreDistinct, comma_names, is_letter, is_name, is_name_byte, number_of}
use Rattle.dcr_line.specs.Known.{AreNames}
use Rattle.dcr_line.specs.Line.{list_text, name_of, names_text}
use Rattle.dcr_line.specs.MarkLine.{ascends_from, each, from_low, list_in, listed_in, set_numbered}
use Rattle.dcr_text.specs.Lines.{pieces_of}
use Rattle.dcr_line.proofs.CallLemmas.{chosen, is_word}
use Rattle.dcr_line.proofs.NameLemmas.{found_at, name_found, name_lacks}
use Rattle.dcr_line.proofs.PiecesLemmas.{joined_pieces, lacks, pieces_joined}

-- ---- reading name by name

-- the set, with the atoms that these pieces name, from low on in ascending order
abbrev pub more_from : List (List ℕ) → ℕ → Set → List (List ℕ) → Option Set
more_from names low set [] = Some set
more_from names low set (piece ∷ pieces) =
    option_and_then (λ e. cond (leb low e) (more_from names (e + 1) (with_event set e) pieces) None) (number_of names piece)

gathered : ℕ → Set → List ℕ → Option Set
gathered low set events = cond (ascends_from low events) (Some (fold with_event set events)) None

more_is : (names : List (List ℕ)) (low : ℕ) (set : Set) (pieces : List (List ℕ)) → more_from names low set pieces ≡ option_and_then (gathered low set) (each (number_of names) pieces)
unfolding gathered
more_is names low set [] = refl
more_is names low set (piece ∷ pieces) = by_number (number_of names piece) (λ e. more_is names (e + 1) (with_event set e) pieces)
  where
    both : (a b : Bool) (x : Option Set) → cond a (cond b x None) None ≡ cond (a && b) x None
    both true b x = refl
    both false b x = refl

    no_more : (a : Bool) → cond {A = Option Set} a None None ≡ None
    no_more true = refl
    no_more false = refl

    by_rest : (e : ℕ) (o : Option (List ℕ)) → cond (leb low e) (option_and_then (gathered (e + 1) (with_event set e)) o) None ≡ option_and_then (gathered low set) (option_and_then (λ ys. Some (e ∷ ys)) o)
    by_rest e None = no_more (leb low e)
    by_rest e (Some events) = both (leb low e) (ascends_from (e + 1) events) (Some (fold with_event (with_event set e) events))

    by_number : (o : Option ℕ) → ((e : ℕ) → more_from names (e + 1) (with_event set e) pieces ≡ option_and_then (gathered (e + 1) (with_event set e)) (each (number_of names) pieces))
        → option_and_then (λ e. cond (leb low e) (more_from names (e + 1) (with_event set e) pieces) None) o
        ≡ option_and_then (gathered low set) (option_and_then (λ y. option_and_then (λ ys. Some (y ∷ ys)) (each (number_of names) pieces)) o)
    by_number None later = refl
    by_number (Some e) later = ap (λ t. cond (leb low e) t None) (later e) ∙ by_rest e (each (number_of names) pieces)

-- the set with these atoms
fold_with : (set : Set) (events : List ℕ) → fold with_event set events ≡ those (length set) (λ k. list_any (λ e. eqb k e) events || has set k)
fold_with set [] = sym (those-has set)
fold_with set (e ∷ events) =
    let room = length-those (length set) (λ k. eqb k e || has set k) in
    fold_with (with_event set e) events
    ∙ ap (λ n. those n (λ k. list_any (λ f. eqb k f) events || has (with_event set e) k)) room
    ∙ those-ext (length set) (λ k. list_any (λ f. eqb k f) events || has (with_event set e) k) (λ k. (eqb k e || list_any (λ f. eqb k f) events) || has set k) (λ k below.
    ap (λ t. list_any (λ f. eqb k f) events || t) (has-those (length set) (λ j. eqb j e || has set j) k below) ∙ turned (list_any (λ f. eqb k f) events) (eqb k e) (has set k))
  where
    turned : (a b c : Bool) → (a || (b || c)) ≡ ((b || a) || c)
    turned true true c = refl
    turned true false c = refl
    turned false true c = refl
    turned false false c = refl

-- the atoms added to the empty set
fold_none : (n : ℕ) (events : List ℕ) → fold with_event (no_event n) events ≡ set_numbered n events
fold_none n events =
    fold_with (no_event n) events
    ∙ ap (λ m. those m (λ k. list_any (λ f. eqb k f) events || has (no_event n) k)) (length-those n (λ _. false))
    ∙ those-ext n (λ k. list_any (λ f. eqb k f) events || has (no_event n) k) (λ k. list_any (λ f. eqb k f) events) (λ k below.
    ap (λ t. list_any (λ f. eqb k f) events || t) (has-those n (λ _. false) k below) ∙ or-false (list_any (λ f. eqb k f) events))

-- reading name by name reads the list
pub listed_is : (names : List (List ℕ)) (text : List ℕ) → more_from names 0 (no_event (length names)) (pieces_of 44 text) ≡ listed_in names text
unfolding listed_in gathered
listed_is names text = more_is names 0 (no_event (length names)) (pieces_of 44 text) ∙ by_events (each (number_of names) (pieces_of 44 text))
  where
    by_events : (o : Option (List ℕ)) → option_and_then (gathered 0 (no_event (length names))) o ≡ option_and_then (λ events. cond (ascends_from 0 events) (Some (set_numbered (length names) events)) None) o
    by_events None = refl
    by_events (Some events) = ap (λ s. cond (ascends_from 0 events) (Some s) None) (fold_none (length names) events)

-- a number from low on
pub low_found : (low e : ℕ) (o : Option ℕ) → Some e ≡ from_low low o → (o ≡ Some e) × (low ≤ e)
low_found low e None is = absurd cc
low_found low e (Some k) is = elim (cases_lt k low) [
  | inl below ↦ let lost : Some e ≡ None = is ∙ ap (λ t. cond t (Some k) None) (lt-leb low k below) in absurd cc
  | inr above ↦
      let same : k ≡ e = sym (same_Some _ _ (is ∙ ap (λ t. cond t (Some k) None) (le-leb low k above))) in
      (ap Some same, rw (sym same) above)
]

low_lost : (low e : ℕ) (o : Option ℕ) → None ≡ from_low low o → o ≡ Some e → e < low
low_lost low e None is found = absurd cc
low_lost low e (Some k) is found = elim (cases_lt k low) [
  | inl below ↦ rw (sym (same_Some _ _ found)) below
  | inr above ↦ let lost : None ≡ Some k = is ∙ ap (λ t. cond t (Some k) None) (le-leb low k above) in absurd cc
]

-- one name more
pub more_found : (names : List (List ℕ)) (low : ℕ) (set : Set) (pieces : List (List ℕ)) (piece : List ℕ) (rest : List (List ℕ)) (e : ℕ)
    → pieces ≡ piece ∷ rest → Some e ≡ from_low low (number_of names piece) → more_from names low set pieces ≡ more_from names (e + 1) (with_event set e) rest
more_found names low set pieces piece rest e is found =
    let named = low_found low e (number_of names piece) found in
    ap (more_from names low set) is
    ∙ ap (option_and_then (λ f. cond (leb low f) (more_from names (f + 1) (with_event set f) rest) None)) named.0
    ∙ ap (λ t. cond t (more_from names (e + 1) (with_event set e) rest) None) (le-leb low e named.1)

-- a piece that is no name, or one that comes too late
pub more_lost : (names : List (List ℕ)) (low : ℕ) (set : Set) (pieces : List (List ℕ)) (piece : List ℕ) (rest : List (List ℕ))
    → pieces ≡ piece ∷ rest → None ≡ from_low low (number_of names piece) → more_from names low set pieces ≡ None
more_lost names low set pieces piece rest is lost = ap (more_from names low set) is ∙ by_number (number_of names piece) lost
  where
    by_number : (o : Option ℕ) → None ≡ from_low low o → option_and_then (λ f. cond (leb low f) (more_from names (f + 1) (with_event set f) rest) None) o ≡ None
    by_number None l = refl
    by_number (Some k) l = ap (λ t. cond t (more_from names (k + 1) (with_event set k) rest) None) (lt-leb low k (low_lost low k (Some k) l refl))

-- ---- the numbers of the set that was read

any_below : (low k : ℕ) (events : List ℕ) → ascends_from low events ≡ true → k < low → list_any (λ e. eqb k e) events ≡ false
any_below low k [] ascending below = refl
any_below low k (e ∷ events) ascending below =
    let both = and_parts _ _ ascending in
    let first : low ≤ e = leb-true low e both.0 in
    rw (ne_eqb k e (λ same. absurd (omega arith))) (any_below (e + 1) k events both.1 (omega arith))

abbrev IsBelow : ℕ → ℕ → Type 0
IsBelow n e = e < n

passing_events : (n low : ℕ) (events : List ℕ) → ascends_from low events ≡ true → All (IsBelow n) events → passing 0 n (λ k. list_any (λ e. eqb k e) events && leb low k) ≡ events
passing_events n low [] ascending below = passing_none 0 n (λ k. false && leb low k) (λ k _ _. refl)
passing_events n low (e ∷ events) ascending below =
    let both = and_parts _ _ ascending in
    let first : low ≤ e = leb-true low e both.0 in
    let here : e < n = All-head (IsBelow n) e events below in
    let p : ℕ → Bool = λ k. (eqb k e || list_any (λ f. eqb k f) events) && leb low k in
    passing_first 0 n e p (omega arith) (omega arith)
    (ap (λ t. (t || list_any (λ f. eqb e f) events) && leb low e) (eq-eqb e e refl) ∙ both.0)
    (λ k _ before. ap (λ t. (t || list_any (λ f. eqb k f) events) && leb low k) (ne_eqb k e (λ same. absurd (omega arith)))
    ∙ ap (λ t. t && leb low k) (any_below (e + 1) k events both.1 (omega arith)))
    ∙ ap (λ xs. e ∷ xs) (passing-ext 0 n (λ k. p k && leb (e + 1) k) (λ k. list_any (λ f. eqb k f) events && leb (e + 1) k) (λ k _ _. elim (cases_lt k (e + 1)) [
      | inl past ↦ ap (λ t. p k && t) (lt-leb (e + 1) k past) ∙ and-false (p k) ∙ sym (ap (λ t. list_any (λ f. eqb k f) events && t) (lt-leb (e + 1) k past) ∙ and-false (list_any (λ f. eqb k f) events))
      | inr later ↦
          ap (λ t. ((t || list_any (λ f. eqb k f) events) && leb low k) && leb (e + 1) k) (ne_eqb k e (λ same. absurd (omega arith)))
          ∙ ap (λ t. (list_any (λ f. eqb k f) events && t) && leb (e + 1) k) (le-leb low k (omega arith))
          ∙ ap (λ t. t && leb (e + 1) k) (and-true (list_any (λ f. eqb k f) events))
    ])
    ∙ passing_events n (e + 1) events both.1 (All-tail (IsBelow n) e events below))

-- the numbers of the set of ascending atoms are those
numbers_set_of : (n : ℕ) (events : List ℕ) → ascends_from 0 events ≡ true → All (IsBelow n) events → numbers (set_numbered n events) ≡ events
numbers_set_of n events ascending below =
    numbers-those n (λ k. list_any (λ e. eqb k e) events)
    ∙ passing-ext 0 n (λ k. list_any (λ e. eqb k e) events) (λ k. list_any (λ e. eqb k e) events && leb 0 k) (λ k _ _.
    sym (ap (λ t. list_any (λ e. eqb k e) events && t) (le-leb 0 k (omega arith)) ∙ and-true (list_any (λ e. eqb k e) events)))
    ∙ passing_events n 0 events ascending below

ascends_above : (low : ℕ) (events : List ℕ) → All (λ e. low ≤ e) events → AllPairs (λ x y. x < y) events → ascends_from low events ≡ true
ascends_above low [] above pairs = refl
ascends_above low (e ∷ events) above pairs =
    rw (le-leb low e (All-head (λ f. low ≤ f) e events above))
    (ascends_above (e + 1) events (λ k d l. omega (arith, pairs 0 (suc k) d (omega arith) (omega arith))) (λ i j d l m. pairs (suc i) (suc j) d (omega arith) (omega arith)))

numbers_ascend : (set : Set) → ascends_from 0 (numbers set) ≡ true
numbers_ascend set = ascends_above 0 (numbers set) (λ k d l. omega arith) (AllPairs-from_increasing (numbers set) (numbers-ascend set))

-- ---- names and their numbers

each_named : (names texts : List (List ℕ)) (events : List ℕ) → each (number_of names) texts ≡ Some events → All (IsBelow (length names)) events × (map (name_of names) events ≡ texts)
each_named names [] events e =
    let none : [] ≡ events = same_Some _ _ e in
    (All-same (IsBelow (length names)) events [] (sym none) (All-nil (IsBelow (length names))), ap (map (name_of names)) (sym none))
each_named names (text ∷ texts) events e =
    option_and_then_some _ (number_of names text) _ e (λ k is_k e1.
    option_and_then_some _ (each (number_of names) texts) _ e1 (λ ks are_ks e2.
    let same : k ∷ ks ≡ events = same_Some _ _ e2 in
    let name = name_found names text k is_k in
    let later = each_named names texts ks are_ks in (
      All-same (IsBelow (length names)) events (k ∷ ks) (sym same) (All-cons (IsBelow (length names)) k ks name.0 later.0),
      ap (map (name_of names)) (sym same) ∙ ap (λ t. t ∷ map (name_of names) ks) (sym name.1) ∙ ap (λ ts. text ∷ ts) later.1,
    )))

named_each : (names : List (List ℕ)) → AreDistinct names → (events : List ℕ) → All (IsBelow (length names)) events → each (number_of names) (map (name_of names) events) ≡ Some events
named_each names apart [] below = refl
named_each names apart (e ∷ events) below =
    rw (found_at names apart e (All-head (IsBelow (length names)) e events below)) (rw (named_each names apart events (All-tail (IsBelow (length names)) e events below)) refl)

-- the first name, and each other behind a comma
joined_names : (names : List (List ℕ)) (e : ℕ) (events : List ℕ) → join_with_byte 44 (map (name_of names) (e ∷ events)) ≡ name_of names e ++ comma_names names events
joined_names names e [] = sym (append_nil (name_of names e))
  where
    append_nil : (xs : List ℕ) → xs ++ [] ≡ xs
    append_nil [] = refl
    append_nil (x ∷ xs) = ap (λ t. x ∷ t) (append_nil xs)
joined_names names e (f ∷ events) = ap (λ t. name_of names e ++ (44 ∷ t)) (joined_names names f events)

some_piece : (text : List ℕ) → pieces_of 44 text ≡ [] → ⊥
some_piece text none = omega (arith, length-slice_split (λ byte. eqb byte 44) text, ap length none)

-- the names of the atoms that the pieces of a text name are the text
names_told : (names : List (List ℕ)) (text : List ℕ) (events : List ℕ) → map (name_of names) events ≡ pieces_of 44 text → names_text names events ≡ text
names_told names text [] e = absurd (some_piece text (sym e))
names_told names text (e ∷ events) same = sym (joined_names names e events) ∙ ap (join_with_byte 44) same ∙ joined_pieces 44 text

each_lacks : (separator : ℕ) (names : List (List ℕ)) → is_name_byte separator ≡ false → AreNames names → (events : List ℕ) → All (IsBelow (length names)) events
    → list_all (lacks separator) (map (name_of names) events) ≡ true
each_lacks separator names none are [] below = refl
each_lacks separator names none are (e ∷ events) below =
    rw (name_lacks separator (name_of names e) none (are.names e [] (All-head (IsBelow (length names)) e events below)))
    (each_lacks separator names none are events (All-tail (IsBelow (length names)) e events below))

-- a text that begins with a name is no dash
no_dash : (name rest : List ℕ) → is_name name ≡ true → bytes_eq (name ++ rest) (codes "-") ≡ false
no_dash [] rest name = absurd (true≢false (sym name))
no_dash (b ∷ bs) rest name = false_from_ne_true _ (λ same.
    let first : b ≡ 45 = (let e : b ∷ (bs ++ rest) ≡ 45 ∷ [] = is_word (b ∷ (bs ++ rest)) (codes "-") same in cc) in
    let letter : is_letter b ≡ true = (and_parts _ _ name).0 in
    true≢false (sym letter ∙ ap is_letter first))

no_numbers : (n : ℕ) → numbers (no_event n) ≡ []
no_numbers n = numbers-those n (λ _. false) ∙ passing_none 0 n (λ _. false) (λ _ _ _. refl)

-- ---- lists

-- a text that is read as a set is the list of it
pub list_told : (names : List (List ℕ)) (text : List ℕ) (set : Set) → list_in names text ≡ Some set → (length set ≡ length names) × (text ≡ list_text names set)
unfolding list_in listed_in
list_told names text set e = elim (chosen (bytes_eq text (codes "-")) _ _ _ e) [
  | inl dash ↦
      let same : no_event (length names) ≡ set = same_Some _ _ dash.1 in (
        ap length (sym same) ∙ length-those (length names) (λ _. false),
        is_word text (codes "-") dash.0 ∙ sym (ap (λ s. names_text names (numbers s)) (sym same) ∙ ap (names_text names) (no_numbers (length names))),
      )
  | inr listed ↦ option_and_then_some _ (each (number_of names) (pieces_of 44 text)) _ listed.1 (λ events are_events e1. elim (chosen (ascends_from 0 events) _ _ _ e1) [
    | inl ascending ↦
        let same : set_numbered (length names) events ≡ set = same_Some _ _ ascending.1 in
        let named = each_named names (pieces_of 44 text) events are_events in (
          ap length (sym same) ∙ length-those (length names) (λ k. list_any (λ f. eqb k f) events),
          sym (ap (λ s. names_text names (numbers s)) (sym same) ∙ ap (names_text names) (numbers_set_of (length names) events ascending.0 named.0) ∙ names_told names text events named.1),
        )
    | inr falling ↦ absurd (let no = falling.1 in cc)
  ])
]

-- the list of a set is read as the set
pub list_read : (names : List (List ℕ)) → AreNames names → (set : Set) → length set ≡ length names → list_in names (list_text names set) ≡ Some set
unfolding list_in listed_in
list_read names are set room = by_numbers (numbers set) refl
  where
    by_numbers : (events : List ℕ) → numbers set ≡ events → list_in names (names_text names events) ≡ Some set
    by_numbers [] none = ap Some (set_from_numbers (no_event (length names)) set (length-those (length names) (λ _. false) ∙ sym room) (no_numbers (length names) ∙ sym none))
    by_numbers (e ∷ events) some =
        let below : All (IsBelow (length names)) (e ∷ events) = (λ k d l. omega (arith, All-same (IsBelow (length set)) (e ∷ events) (numbers set) (sym some) (numbers-below set) k d l)) in
        let ascending : ascends_from 0 (e ∷ events) ≡ true = ap (ascends_from 0) (sym some) ∙ numbers_ascend set in
        let first : is_name (name_of names e) ≡ true = are.names e [] (All-head (IsBelow (length names)) e events below) in
        let pieces : pieces_of 44 (name_of names e ++ comma_names names events) ≡ map (name_of names) (e ∷ events) =
        ap (pieces_of 44) (sym (joined_names names e events)) ∙ pieces_joined 44 (name_of names e) (map (name_of names) events) (each_lacks 44 names refl are (e ∷ events) below) in
        let same : set_numbered (length names) (e ∷ events) ≡ set =
        set_from_numbers (set_numbered (length names) (e ∷ events)) set (length-those (length names) (λ k. list_any (λ f. eqb k f) (e ∷ events)) ∙ sym room)
        (numbers_set_of (length names) (e ∷ events) ascending below ∙ sym some) in
        ap (λ t. cond t (Some (no_event (length names))) (listed_in names (name_of names e ++ comma_names names events))) (no_dash (name_of names e) (comma_names names events) first)
        ∙ ap (λ ps. option_and_then (λ found. cond (ascends_from 0 found) (Some (set_numbered (length names) found)) None) (each (number_of names) ps)) pieces
        ∙ ap (option_and_then (λ found. cond (ascends_from 0 found) (Some (set_numbered (length names) found)) None)) (named_each names are.distinct (e ∷ events) below)
        ∙ ap (λ t. cond t (Some (set_numbered (length names) (e ∷ events))) None) ascending
        ∙ ap Some same

comma_lacks : (names : List (List ℕ)) → AreNames names → (events : List ℕ) → All (IsBelow (length names)) events → lacks 32 (comma_names names events) ≡ true
comma_lacks names are [] below = refl
comma_lacks names are (e ∷ events) below =
    list_all-append (λ byte. not (eqb byte 32)) (44 ∷ name_of names e) (comma_names names events)
    ∙ rw (name_lacks 32 (name_of names e) refl (are.names e [] (All-head (IsBelow (length names)) e events below)))
    (comma_lacks names are events (All-tail (IsBelow (length names)) e events below))

-- a list has no space
pub list_lacks : (names : List (List ℕ)) → AreNames names → (set : Set) → length set ≡ length names → lacks 32 (list_text names set) ≡ true
list_lacks names are set room = by_numbers (numbers set) (λ k d l. omega (arith, numbers-below set k d l))
  where
    by_numbers : (events : List ℕ) → All (IsBelow (length names)) events → lacks 32 (names_text names events) ≡ true
    by_numbers [] below = refl
    by_numbers (e ∷ events) below =
        list_all-append (λ byte. not (eqb byte 32)) (name_of names e) (comma_names names events)
        ∙ rw (name_lacks 32 (name_of names e) refl (are.names e [] (All-head (IsBelow (length names)) e events below)))
        (comma_lacks names are events (All-tail (IsBelow (length names)) e events below))
