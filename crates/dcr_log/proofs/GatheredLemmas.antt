-- Traces by their places: where an event goes, and where a name is found then.
use Rattle.std.proofs.Common.{◌≡◌, ◌≢◌, ◌⊎◌, ℕ, zero, suc, ◌+◌, ◌<◌, Bool, true, false, cond, List, [], ◌∷◌, ◌++◌, length, get_or, set, take, Option, Some, None, refl, sym, ap, subst, ◌∙◌, inl, inr, arith}
use Rattle.std.specs.Global.{Global}
use Rattle.std.specs.Prelude.{Vec}
use Rattle.std.specs.Map.{lookup}
use Rattle.std.specs.Str.{bytes_eq}
use Rattle.std.specs.Ordering.{nat_cmp}
use Rattle.std.specs.Cmp.Lexicographic.{slice_cmp}
use Rattle.std.specs.BTreeMap as tree
use Rattle.std.proofs.lemmas.Bool.{cases_lt}
use Rattle.std.proofs.lemmas.List.{length-map, length-set, length-take, get_or-take, length_push, get_or_push, get_or_append_left, get_or-set_same, get_or-set_other, map-set, set-get_or}
use Rattle.std.proofs.lemmas.Option.{same_Some}
use Rattle.std.proofs.lemmas.Map.Text.{is_eq-slice_cmp}
use Rattle.std.proofs.lemmas.Slice.Eq.{bytes_eq-Decides}
use Rattle.dcr_set.specs.Least.{least, IsLeast, NonePasses}
use Rattle.dcr_set.proofs.LeastLemmas.{or_this, least-ext, least-from, least-none, least-none_from, least-some, least-suc, least-zero}
use Rattle.dcr_graph.specs.IndexModel.{place_among, with_number}
use Rattle.dcr_graph.specs.Names.{AreDistinct, number_of}
use Rattle.dcr_graph.proofs.IndexLemmas.{within}
use Rattle.dcr_log.specs.Gathered.{AreNoted, held_in, names_of, longer, place_in, with_event}
use Rattle.dcr_log.specs.declared.places.Places.{Places}
use Rattle.dcr_log.specs.declared.trace.Trace.{Trace}

named : List (List ℕ) → List ℕ → ℕ → Bool
named names name k = bytes_eq (get_or names k []) name

-- ---- one event more

at_least : (traces : List Trace) (name event : List ℕ) (k : ℕ) (d : Trace) → IsLeast (length (names_of traces)) (named (names_of traces) name) k
    → set traces k (longer (get_or traces k d) event) ≡ with_event traces name event
unfolding named with_event
at_least [] name event k d h = absurd (let below = h.below in omega arith)
at_least (trace ∷ traces) name event zero d h = rw h.passes refl
at_least (trace ∷ traces) name event (suc k) d h =
    rw (h.none_before 0 (omega arith)) (ap (λ (rest : List Trace). trace ∷ rest) (at_least traces name event k d (record {
      below = (let below = h.below in omega arith);
      passes = h.passes;
      none_before = λ j less. h.none_before (suc j) (omega arith);
    })))

behind_all : (traces : List Trace) (name event : List ℕ) → NonePasses (length (names_of traces)) (named (names_of traces) name)
    → traces ++ record { name = name; events = event ∷ [] } ∷ [] ≡ with_event traces name event
unfolding named with_event
behind_all [] name event h = refl
behind_all (trace ∷ traces) name event h =
    rw (h 0 (omega arith)) (ap (λ (rest : List Trace). trace ∷ rest) (behind_all traces name event (λ j less. h (suc j) (omega arith))))

-- at the place that the name has
pub event_at : (traces : List Trace) (name event : List ℕ) (k : ℕ) (d : Trace) → number_of (names_of traces) name ≡ Some k
    → set traces k (longer (get_or traces k d) event) ≡ with_event traces name event
unfolding named
event_at traces name event k d e = at_least traces name event k d (least-some (length (names_of traces)) (named (names_of traces) name) k e)

-- or behind all, where it has none
pub event_behind : (traces : List Trace) (name event : List ℕ) → number_of (names_of traces) name ≡ None
    → traces ++ record { name = name; events = event ∷ [] } ∷ [] ≡ with_event traces name event
unfolding named
event_behind traces name event e = behind_all traces name event (least-none (length (names_of traces)) (named (names_of traces) name) e)

-- ---- names

-- the place that a name has is one of a trace
pub place_within : (traces : List Trace) (name : List ℕ) (k : ℕ) → number_of (names_of traces) name ≡ Some k → k < length traces
unfolding named
place_within traces name k e =
    let found = least-some (length (names_of traces)) (named (names_of traces) name) k e in
    omega (arith, found.below, length-map traces (λ (trace : Trace). trace.name))

-- where the name stands it is found, since it stands once
pub place_of_last : (names : List (List ℕ)) → AreDistinct names → (name : List ℕ) (k : ℕ) → k < length names → get_or names k [] ≡ name → number_of names name ≡ Some k
unfolding named
place_of_last names distinct name k within is =
    least-from (length names) (named names name) k (record {
      below = within;
      passes = (bytes_eq-Decides (get_or names k []) name).1 is;
      none_before = λ j less. ap (bytes_eq (get_or names j [])) (sym is) ∙ distinct j k less within;
    })

-- an event more changes no name
pub names_stay : (traces : List Trace) (k : ℕ) (d : Trace) (event : List ℕ) → names_of (set traces k (longer (get_or traces k d) event)) ≡ names_of traces
names_stay traces k d event =
    map-set (λ (trace : Trace). trace.name) traces k (longer (get_or traces k d) event)
    ∙ (sym (map-set (λ (trace : Trace). trace.name) traces k (get_or traces k d))
    ∙ ap names_of (set-get_or traces k d))

-- one name more, which is a new one
pub distinct_more : (names : List (List ℕ)) (name : List ℕ) → AreDistinct names → number_of names name ≡ None → AreDistinct (names ++ name ∷ [])
unfolding named
distinct_more names name distinct new i j less within =
    let long = length_push names name in
    let first = get_or_append_left names (name ∷ []) [] i (omega arith) in
    elim (cases_lt j (length names)) [
      | inl old ↦ ap (λ t. bytes_eq t (get_or (names ++ name ∷ []) j [])) first ∙ (ap (bytes_eq (get_or names i [])) (get_or_append_left names (name ∷ []) [] j old) ∙ distinct i j less old)
      | inr last ↦
          let at_end : length names ≡ j = omega arith in
          ap (λ t. bytes_eq t (get_or (names ++ name ∷ []) j [])) first
          ∙ (ap (bytes_eq (get_or names i [])) (get_or_push names name [] j at_end) ∙ least-none (length names) (named names name) new i (omega arith))
    ]

number_more : (names : List (List ℕ)) (name other : List ℕ) → number_of (names ++ name ∷ []) other ≡ with_number (number_of names other) name (length names) other
unfolding named
number_more names name other =
    let long : length (names ++ name ∷ []) ≡ suc (length names) = omega (arith, length_push names name) in
    ap (λ n. least n (named (names ++ name ∷ []) other)) long
    ∙ (least-suc (length names) (named (names ++ name ∷ []) other)
    ∙ (ap (λ o. or_this o (length names) (named (names ++ name ∷ []) other (length names)))
    (least-ext (length names) (named (names ++ name ∷ []) other) (named names other) (λ j l. ap (λ t. bytes_eq t other) (get_or_append_left names (name ∷ []) [] j l)))
    ∙ (ap (λ t. or_this (number_of names other) (length names) (bytes_eq t other)) (get_or_push names name [] (length names) refl)
    ∙ as_given (number_of names other))))
  where
    as_given : (o : Option ℕ) → or_this o (length names) (bytes_eq name other) ≡ with_number o name (length names) other
    as_given None = refl
    as_given (Some k) = refl

-- ---- where names stand

-- a name whose slot is empty is none of them
pub found_none : (p : Places) (names : List (List ℕ)) → AreNoted p names → (name : List ℕ) → held_in p name ≡ 0 → number_of names name ≡ None
found_none p names noted name empty = by (number_of names name) refl
  where
    by : (o : Option ℕ) → number_of names name ≡ o → o ≡ None
    by None e = refl
    by (Some k) e = elim (noted.found name k e) [
      | inl held ↦ absurd (omega arith)
      | inr both ↦ let full = both.0 in absurd (omega arith)
    ]

-- a name that isn't where its slot says is where the map says
pub found_elsewhere : (p : Places) (names : List (List ℕ)) → AreNoted p names → (name : List ℕ) (k : ℕ) → held_in p name ≡ k + 1 → (k < length names → get_or names k [] ≢ name)
    → place_in p.others name ≡ number_of names name
unfolding named
found_elsewhere p names noted name k held other = by (number_of names name) refl (place_in p.others name) refl
  where
    by : (o : Option ℕ) → number_of names name ≡ o → (q : Option ℕ) → place_in p.others name ≡ q → q ≡ o
    by None e None f = refl
    by None e (Some j) f = cc (sym e ∙ noted.known name j f)
    by (Some j) e q f = elim (noted.found name j e) [
      | inl here ↦
          let same : j ≡ k = omega arith in
          let least = least-some (length names) (named names name) j e in
          let below = least.below in
          absurd (other (omega arith) (ap (λ n. get_or names n []) (sym same) ∙ (bytes_eq-Decides (get_or names j []) name).0 least.passes))
      | inr both ↦ sym f ∙ both.1
    ]

same_text : (a b : List ℕ) → bytes_eq a b ≡ true → a ≡ b
same_text a b e = (bytes_eq-Decides a b).0 e

-- what a name's number comes to where one more name stands behind
grown : (names : List (List ℕ)) (name other : List ℕ) (o : Option ℕ) → number_of names other ≡ o → (k : ℕ) → number_of (names ++ name ∷ []) other ≡ Some k
    → (number_of names other ≡ Some k) ⊎ ((number_of names other ≡ None) × ((name ≡ other) × (length names ≡ k)))
grown names name other (Some j) e k more =
    inl (e ∙ (sym (ap (λ o. with_number o name (length names) other) e) ∙ (sym (number_more names name other) ∙ more)))
grown names name other None e k more = by (bytes_eq name other) refl (sym (ap (λ o. with_number o name (length names) other) e) ∙ (sym (number_more names name other) ∙ more))
  where
    by : (b : Bool) → bytes_eq name other ≡ b → cond b (Some (length names)) None ≡ Some k → (number_of names other ≡ Some k) ⊎ ((number_of names other ≡ None) × ((name ≡ other) × (length names ≡ k)))
    by true is some = inr (e, (same_text name other is, same_Some (length names) k some))
    by false is some = cc some

-- what had a number keeps it
kept : (names : List (List ℕ)) (name other : List ℕ) (k : ℕ) → number_of names other ≡ Some k → number_of (names ++ name ∷ []) other ≡ Some k
kept names name other k e = number_more names name other ∙ ap (λ o. with_number o name (length names) other) e

last_number : (names : List (List ℕ)) (name : List ℕ) → number_of names name ≡ None → number_of (names ++ name ∷ []) name ≡ Some (length names)
last_number names name none =
    number_more names name name ∙ (ap (λ o. with_number o name (length names) name) none ∙ ap (λ b. cond b (Some (length names)) None) ((bytes_eq-Decides name name).1 refl))

-- a new name behind all takes its slot, where that is empty
pub noted_in_slot : (p q : Places) (names : List (List ℕ)) (name : List ℕ) → AreNoted p names → number_of names name ≡ None → held_in p name ≡ 0
    → q.slots.items ≡ set p.slots.items (place_among (length p.slots.items) p.start name) (length names + 1) → q.start ≡ p.start → q.others ≡ p.others → AreNoted q (names ++ name ∷ [])
noted_in_slot p q names name noted none empty slots_are start_is others_are = record {
  some = (let long = ap (λ (xs : List ℕ). length xs) slots_are ∙ length-set slots slot more in let some = noted.some in omega arith);
  found = λ other k e. elim (grown names name other (number_of names other) refl k e) [
    | inl old ↦ elim (noted.found other k old) [
      | inl held ↦ inl (held_as other (λ e. omega arith) ∙ held)
      | inr both ↦
          let full = both.0 in
          let same = held_as other (λ e. omega arith) in
          inr (omega arith, ap (λ m. place_in m other) others_are ∙ both.1)
    ]
    | inr new ↦ inl (held_here other new.1.0 ∙ ap (λ n. n + 1) new.1.1)
  ];
  known = λ other k e. kept names name other k (noted.known other k (ap (λ m. place_in m other) (sym others_are) ∙ e));
}
  where
    slots : List ℕ
    slots = p.slots.items

    slot : ℕ
    slot = place_among (length slots) p.start name

    more : ℕ
    more = length names + 1

    -- what the table has at the slot of a name
    read : (other : List ℕ) → held_in q other ≡ get_or (set slots slot more) (place_among (length slots) p.start other) 0
    read other =
        ap (λ (xs : List ℕ). get_or xs (place_among (length xs) q.start other) 0) slots_are
        ∙ (ap (λ s. get_or (set slots slot more) (place_among (length (set slots slot more)) s other) 0) start_is
        ∙ ap (λ n. get_or (set slots slot more) (place_among n p.start other) 0) (length-set slots slot more))

    -- a slot that isn't empty is another one
    held_as : (other : List ℕ) → held_in p other ≢ 0 → held_in q other ≡ held_in p other
    held_as other full = read other ∙ get_or-set_other slots slot (place_among (length slots) p.start other) more 0 (λ same. full (ap (λ n. get_or slots n 0) same ∙ empty))

    held_here : (other : List ℕ) → name ≡ other → held_in q other ≡ more
    held_here other is =
        read other
        ∙ (ap (λ (t : List ℕ). get_or (set slots slot more) (place_among (length slots) p.start t) 0) (sym is)
        ∙ get_or-set_same slots slot more 0 (within (length slots) p.start name noted.some))

-- or else it goes into the map
pub noted_in_map : (p q : Places) (names : List (List ℕ)) (name : List ℕ) → AreNoted p names → number_of names name ≡ None → held_in p name ≢ 0 → q.slots ≡ p.slots → q.start ≡ p.start
    → tree.Updates (slice_cmp nat_cmp) p.others q.others name (Some (length names)) → AreNoted q (names ++ name ∷ [])
noted_in_map p q names name noted none full slots_are start_is updates = record {
  some = subst (λ (s : Vec ℕ Global). 0 < length s.items) (sym slots_are) noted.some;
  found = λ other k e. elim (grown names name other (number_of names other) refl k e) [
    | inl was ↦ elim (noted.found other k was) [
      | inl held ↦ inl (same other ∙ held)
      | inr both ↦ inr (subst (λ n. 0 < n) (sym (same other)) both.0, elsewhere other (λ is. cc (sym none ∙ (ap (number_of names) is ∙ was))) ∙ both.1)
    ]
    | inr added ↦
        let some : held_in q other ≢ 0 = λ e. full (ap (held_in p) added.1.0 ∙ (sym (same other) ∙ e)) in
        inr (omega arith, here other added.1.0 ∙ ap Some added.1.1)
  ];
  known = λ other k e. at other (bytes_eq name other) refl k e;
}
  where
    same : (other : List ℕ) → held_in q other ≡ held_in p other
    same other =
        ap (λ (s : Vec ℕ Global). get_or s.items (place_among (length s.items) q.start other) 0) slots_are
        ∙ ap (λ s. get_or p.slots.items (place_among (length p.slots.items) s other) 0) start_is

    updated : (other : List ℕ) → place_in q.others other ≡ cond (bytes_eq name other) (Some (length names)) (place_in p.others other)
    updated other = updates.0 other ∙ ap (λ b. cond b (Some (length names)) (place_in p.others other)) (is_eq-slice_cmp name other)

    elsewhere : (other : List ℕ) → name ≢ other → place_in q.others other ≡ place_in p.others other
    elsewhere other away = updated other ∙ by (bytes_eq name other) refl
      where
        by : (b : Bool) → bytes_eq name other ≡ b → cond b (Some (length names)) (place_in p.others other) ≡ place_in p.others other
        by false e = refl
        by true e = absurd (away (same_text name other e))

    here : (other : List ℕ) → name ≡ other → place_in q.others other ≡ Some (length names)
    here other is = updated other ∙ ap (λ b. cond b (Some (length names)) (place_in p.others other)) ((bytes_eq-Decides name other).1 is)

    at : (other : List ℕ) (b : Bool) → bytes_eq name other ≡ b → (k : ℕ) → place_in q.others other ≡ Some k → number_of (names ++ name ∷ []) other ≡ Some k
    at other true e k some =
        let is = same_text name other e in
        ap (number_of (names ++ name ∷ [])) (sym is) ∙ (last_number names name none ∙ (sym (here other is) ∙ some))
    at other false e k some =
        kept names name other k (noted.known other k (sym (ap (λ b. cond b (Some (length names)) (place_in p.others other)) e) ∙ (sym (updated other) ∙ some)))

-- at first none is noted
pub noted_none : (p : Places) → 0 < length p.slots.items → p.others.entries ≡ [] → AreNoted p []
noted_none p some empty = record {
  some = some;
  found = λ name k e. cc (sym (least-zero (λ j. bytes_eq (get_or {A = List ℕ} [] j []) name)) ∙ e);
  known = λ name k e. cc (sym (ap (lookup (tree.is_at (slice_cmp nat_cmp name))) empty) ∙ e);
}

-- of names that are distinct none before a place is the one that stands there
pub new_at : (names : List (List ℕ)) → AreDistinct names → (i : ℕ) → i < length names → number_of (take i names) (get_or names i []) ≡ None
unfolding named
new_at names distinct i less = least-none_from (length (take i names)) (named (take i names) (get_or names i [])) (λ j below.
    let long = length-take i names in
    let before : j < i = omega arith in
    ap (λ t. bytes_eq t (get_or names i [])) (get_or-take i names j [] before) ∙ distinct j i before less)
