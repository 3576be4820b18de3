-- The traces of records, with one record more.
use Rattle.std.proofs.Common.{◌≡◌, ℕ, ◌<◌, ◌≤◌, Bool, true, false, not, ◌||◌, cond, List, [], ◌∷◌, ◌++◌, length, map, filter, get_or, refl, sym, ap, ◌∙◌, arith}
use Rattle.std.specs.List.{All, list_any}
use Rattle.std.specs.Bool.{⊤}
use Rattle.std.specs.Str.{bytes_eq}
use Rattle.std.proofs.lemmas.Bool.{or_parts}
use Rattle.std.proofs.lemmas.Cmp.{nat_list_eq_equiv}
use Rattle.std.proofs.lemmas.List.{append-nil, length-map, map-append}
use Rattle.std.proofs.lemmas.List.Elements.{All-map, filter-append}
use Rattle.std.proofs.lemmas.List.Filters.{length-filter_both}
use Rattle.std.proofs.lemmas.Map.Views.{any-filter_same}
use Rattle.std.proofs.lemmas.Slice.Eq.{bytes_eq-Decides}
use Rattle.dcr_log.specs.Records.{Record}
use Rattle.dcr_log.specs.Traces.{name_in, event_in, first_appearances, events_named, trace_named, traces_of}
use Rattle.dcr_log.specs.Gathered.{longer, with_event}
use Rattle.dcr_log.specs.declared.trace.Trace.{Trace}

-- the text stands among these
abbrev stands : List ℕ → List (List ℕ) → Bool
stands text texts = list_any (bytes_eq text) texts

same : (a b : List ℕ) → bytes_eq a b ≡ true → a ≡ b
same a b e = (bytes_eq-Decides a b).0 e

turned : (a b : List ℕ) (t : Bool) → bytes_eq a b ≡ t → bytes_eq b a ≡ t
turned a b t e = nat_list_eq_equiv.symm b a ∙ e

-- ---- first appearances

-- a filter by another text leaves this one where it stood
other_kept : (text out : List ℕ) (texts : List (List ℕ)) → bytes_eq text out ≡ false → stands text (filter (λ other. not (bytes_eq out other)) texts) ≡ stands text texts
other_kept text out texts apart = any-filter_same (bytes_eq text) (λ other. not (bytes_eq out other)) true (λ k e. kept k e) texts
  where
    kept : (k : List ℕ) → bytes_eq text k ≡ true → not (bytes_eq out k) ≡ true
    kept k e = ap not (ap (bytes_eq out) (sym (same text k e)) ∙ turned text out false apart)

-- a filter by a text leaves none of it
none_kept : (out : List ℕ) (texts : List (List ℕ)) → stands out (filter (λ other. not (bytes_eq out other)) texts) ≡ false
none_kept out texts = any-filter_same (bytes_eq out) (λ other. not (bytes_eq out other)) false (λ k e. ap not e) texts

-- the same texts appear first as stand there
stands_first : (text : List ℕ) (texts : List (List ℕ)) → stands text (first_appearances texts) ≡ stands text texts
unfolding first_appearances
stands_first text [] = refl
stands_first text (x ∷ xs) = by_first (bytes_eq text x) refl (stands_first text xs)
  where
    by_first : (b : Bool) → bytes_eq text x ≡ b → stands text (first_appearances xs) ≡ stands text xs
        → (b || stands text (filter (λ other. not (bytes_eq x other)) (first_appearances xs))) ≡ (b || stands text xs)
    by_first true e more = refl
    by_first false e more = other_kept text x (first_appearances xs) e ∙ more

-- no text stands twice
IsApart : List (List ℕ) → Type 0
IsApart [] = ⊤
IsApart (x ∷ xs) = (stands x xs ≡ false) × IsApart xs

-- nor does one that stood nowhere stand in what a filter keeps
stands_kept : (p : List ℕ → Bool) (text : List ℕ) (texts : List (List ℕ)) → stands text texts ≡ false → stands text (filter p texts) ≡ false
stands_kept p text [] none = refl
stands_kept p text (x ∷ xs) none = by_test (p x) (stands_kept p text xs (or_parts (bytes_eq text x) (stands text xs) none).1)
  where
    by_test : (b : Bool) → stands text (filter p xs) ≡ false → stands text (cond b (x ∷ filter p xs) (filter p xs)) ≡ false
    by_test true more = rw (or_parts (bytes_eq text x) (stands text xs) none).0 more
    by_test false more = more

apart_kept : (p : List ℕ → Bool) (texts : List (List ℕ)) → IsApart texts → IsApart (filter p texts)
unfolding IsApart
apart_kept p [] apart = tt
apart_kept p (x ∷ xs) apart = by_test (p x) (apart_kept p xs apart.1)
  where
    by_test : (b : Bool) → IsApart (filter p xs) → IsApart (cond b (x ∷ filter p xs) (filter p xs))
    by_test true more = (stands_kept p x xs apart.0, more)
    by_test false more = more

-- no text appears first twice
apart_first : (texts : List (List ℕ)) → IsApart (first_appearances texts)
unfolding IsApart first_appearances
apart_first [] = tt
apart_first (x ∷ xs) = (none_kept x (first_appearances xs), apart_kept (λ other. not (bytes_eq x other)) (first_appearances xs) (apart_first xs))

-- one text more
one_more : (texts : List (List ℕ)) (text : List ℕ) → first_appearances (texts ++ text ∷ []) ≡ first_appearances texts ++ cond (stands text texts) [] (text ∷ [])
unfolding first_appearances
one_more [] text = refl
one_more (x ∷ xs) text =
    ap (λ (firsts : List (List ℕ)). x ∷ filter (λ other. not (bytes_eq x other)) firsts) (one_more xs text)
    ∙ ap (λ (firsts : List (List ℕ)). x ∷ firsts)
    (filter-append (λ other. not (bytes_eq x other)) (first_appearances xs) (cond (stands text xs) [] (text ∷ []))
    ∙ ap (λ (last : List (List ℕ)). filter (λ other. not (bytes_eq x other)) (first_appearances xs) ++ last) (by_both (bytes_eq text x) (stands text xs) refl))
  where
    by_both : (b seen : Bool) → bytes_eq text x ≡ b → filter (λ other. not (bytes_eq x other)) (cond seen [] (text ∷ [])) ≡ cond (b || seen) [] (text ∷ [])
    by_both true true e = refl
    by_both true false e = rw (turned text x true e) refl
    by_both false true e = refl
    by_both false false e = rw (turned text x false e) refl

-- ---- one record more

events_more : (rows : List Record) (row : Record) (name : List ℕ)
    → events_named (rows ++ row ∷ []) name ≡ events_named rows name ++ cond (bytes_eq name (name_in row)) (event_in row ∷ []) []
unfolding events_named
events_more rows row name =
    ap (map event_in) (filter-append (λ (r : Record). bytes_eq name (name_in r)) rows (row ∷ []))
    ∙ (map-append event_in (filter (λ (r : Record). bytes_eq name (name_in r)) rows) (cond (bytes_eq name (name_in row)) (row ∷ []) [])
    ∙ ap (λ (last : List (List ℕ)). map event_in (filter (λ (r : Record). bytes_eq name (name_in r)) rows) ++ last) (by_name (bytes_eq name (name_in row))))
  where
    by_name : (b : Bool) → map event_in (cond b (row ∷ []) []) ≡ cond b (event_in row ∷ []) []
    by_name true = refl
    by_name false = refl

with_events : List ℕ → List (List ℕ) → Trace
with_events name events = record { name = name; events = events }

-- the trace of the record's name gets its event
its_trace : (rows : List Record) (row : Record) (name : List ℕ) → bytes_eq name (name_in row) ≡ true → trace_named (rows ++ row ∷ []) name ≡ longer (trace_named rows name) (event_in row)
unfolding with_events
its_trace rows row name e = ap (with_events name) (events_more rows row name ∙ ap (λ b. events_named rows name ++ cond b (event_in row ∷ []) []) e)

-- the others stay
other_trace : (rows : List Record) (row : Record) (name : List ℕ) → bytes_eq name (name_in row) ≡ false → trace_named (rows ++ row ∷ []) name ≡ trace_named rows name
unfolding with_events
other_trace rows row name e =
    ap (with_events name) (events_more rows row name ∙ (ap (λ b. events_named rows name ++ cond b (event_in row ∷ []) []) e ∙ append-nil (events_named rows name)))

others_stay : (rows : List Record) (row : Record) (names : List (List ℕ)) → stands (name_in row) names ≡ false → map (trace_named (rows ++ row ∷ [])) names ≡ map (trace_named rows) names
others_stay rows row [] none = refl
others_stay rows row (x ∷ xs) none =
    let parts = or_parts (bytes_eq (name_in row) x) (stands (name_in row) xs) none in
    ap (λ (trace : Trace). trace ∷ map (trace_named (rows ++ row ∷ [])) xs) (other_trace rows row x (turned (name_in row) x false parts.0))
    ∙ ap (λ (traces : List Trace). trace_named rows x ∷ traces) (others_stay rows row xs parts.1)

-- over distinct names, with the record's behind them where it is a new one
grown : (rows : List Record) (row : Record) (names : List (List ℕ)) → IsApart names → (stands (name_in row) names ≡ false → events_named rows (name_in row) ≡ [])
    → map (trace_named (rows ++ row ∷ [])) (names ++ cond (stands (name_in row) names) [] (name_in row ∷ [])) ≡ with_event (map (trace_named rows) names) (name_in row) (event_in row)
unfolding IsApart with_event with_events
grown rows row [] apart new =
    ap (λ (trace : Trace). trace ∷ []) (its_trace rows row (name_in row) (nat_list_eq_equiv.refl (name_in row)) ∙ ap (λ (events : List (List ℕ)). with_events (name_in row) (events ++ event_in row ∷ [])) (new refl))
grown rows row (x ∷ xs) apart new = by_name (bytes_eq (name_in row) x) refl (grown rows row xs apart.1)
  where
    by_name : (b : Bool) → bytes_eq (name_in row) x ≡ b
        → ((stands (name_in row) xs ≡ false → events_named rows (name_in row) ≡ [])
        → map (trace_named (rows ++ row ∷ [])) (xs ++ cond (stands (name_in row) xs) [] (name_in row ∷ [])) ≡ with_event (map (trace_named rows) xs) (name_in row) (event_in row))
        → map (trace_named (rows ++ row ∷ [])) ((x ∷ xs) ++ cond (bytes_eq (name_in row) x || stands (name_in row) xs) [] (name_in row ∷ [])) ≡ with_event (map (trace_named rows) (x ∷ xs)) (name_in row) (event_in row)
    by_name true e more =
        let is = turned (name_in row) x true e in
        let none : stands (name_in row) xs ≡ false = ap (λ (t : List ℕ). stands t xs) (same (name_in row) x e) ∙ apart.0 in
        rw (e, is, append-nil xs)
        (ap (λ (trace : Trace). trace ∷ map (trace_named (rows ++ row ∷ [])) xs) (its_trace rows row x is)
        ∙ ap (λ (traces : List Trace). longer (trace_named rows x) (event_in row) ∷ traces) (others_stay rows row xs none))
    by_name false e more =
        let is = turned (name_in row) x false e in
        rw (e, is)
        (ap (λ (trace : Trace). trace ∷ map (trace_named (rows ++ row ∷ [])) (xs ++ cond (stands (name_in row) xs) [] (name_in row ∷ []))) (other_trace rows row x is)
        ∙ ap (λ (traces : List Trace). trace_named rows x ∷ traces) (more (λ out. new (ap (λ b. b || stands (name_in row) xs) e ∙ out))))

-- a name of no record has no events
none_named : (rows : List Record) (name : List ℕ) → stands name (map name_in rows) ≡ false → events_named rows name ≡ []
unfolding events_named
none_named [] name none = refl
none_named (row ∷ rows) name none =
    let parts = or_parts (bytes_eq name (name_in row)) (stands name (map name_in rows)) none in
    ap (λ b. map event_in (cond b (row ∷ filter (λ (r : Record). bytes_eq name (name_in r)) rows) (filter (λ (r : Record). bytes_eq name (name_in r)) rows))) parts.0
    ∙ none_named rows name parts.1

-- the traces with one record more are those before with one event more
pub traces_more : (rows : List Record) (row : Record) → traces_of (rows ++ row ∷ []) ≡ with_event (traces_of rows) (name_in row) (event_in row)
unfolding traces_of
traces_more rows row =
    let names = map name_in rows in
    let first = stands_first (name_in row) names in
    ap (map (trace_named (rows ++ row ∷ [])))
    (ap first_appearances (map-append name_in rows (row ∷ []))
    ∙ (one_more names (name_in row)
    ∙ ap (λ b. first_appearances names ++ cond b [] (name_in row ∷ [])) (sym first)))
    ∙ grown rows row (first_appearances names) (apart_first names) (λ out. none_named rows (name_in row) (sym first ∙ out))

-- no record, no trace
pub traces_none : traces_of [] ≡ []
unfolding traces_of first_appearances
traces_none = refl

-- ---- how many

fewer : {X : Type 0} (p : X → Bool) (xs : List X) → length (filter p xs) ≤ length xs
fewer p xs = omega (arith, length-filter_both p (λ x. not (p x)) (λ x. refl) xs)

first_fewer : (texts : List (List ℕ)) → length (first_appearances texts) ≤ length texts
unfolding first_appearances
first_fewer [] = omega arith
first_fewer (x ∷ xs) = let kept = fewer (λ other. not (bytes_eq x other)) (first_appearances xs) in let more = first_fewer xs in omega arith

-- no more traces than records
pub traces_few : (rows : List Record) → length (traces_of rows) ≤ length rows
unfolding traces_of
traces_few rows =
    let firsts = first_fewer (map name_in rows) in
    omega (arith, length-map (first_appearances (map name_in rows)) (trace_named rows), length-map rows name_in)

events_few : (rows : List Record) (name : List ℕ) → length (events_named rows name) ≤ length rows
unfolding events_named
events_few rows name =
    let kept = fewer (λ (r : Record). bytes_eq name (name_in r)) rows in
    omega (arith, length-map (filter (λ (r : Record). bytes_eq name (name_in r)) rows) event_in)

-- nor has one of them more events
pub traces_short : (rows : List Record) (n : ℕ) → length rows < n → All (λ (trace : Trace). length trace.events < n) (traces_of rows)
unfolding traces_of
traces_short rows n few =
    All-map (λ (trace : Trace). length trace.events < n) (trace_named rows) (first_appearances (map name_in rows)) (λ k d within.
    let less = events_few rows (get_or (first_appearances (map name_in rows)) k d) in omega arith)
