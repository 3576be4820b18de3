-- Participants: which sites are among them, and the list that grows site by site.
use Rattle.std.proofs.Common.{◌≡◌, ℕ, ◌+◌, ◌<◌, inl, inr, Bool, true, false, List, [], ◌∷◌, ◌++◌, length, get_or, map, cond, sym, ap, subst, ◌∙◌, arith}
use Rattle.std.specs.List.{Contains, All, filter, range_with_len}
use Rattle.std.specs.List.Sorted.{IsStrictlyIncreasing}
use Rattle.std.proofs.lemmas.Bool.{cases_lt, false≢true}
use Rattle.std.proofs.lemmas.List.{append-nil, get_or_past, get_or-map, length-map, map_push, map-id}
use Rattle.std.proofs.lemmas.List.FromFn.{filter_of_map_range_with_len_more, map-range_with_len_more, length-map-range_with_len, get_or-map-range_with_len}
use Rattle.dcr_set.specs.EventSet.{Set, has, those}
use Rattle.dcr_set.proofs.SetLemmas.{has-those, has_past, length-those}
use Rattle.dcr_set.proofs.NumbersLemmas.{passing, numbers-those, numbers-ascend, numbers-below, member_from_numbers, numbers_from_member}
use Rattle.dcr_proj.specs.CoverValue.{atoms_of}
use Rattle.dcr_proj.specs.NetworkValue.{participants_of, lists_of}

-- whether a site's alphabet has the event
abbrev pub hears : List Set → ℕ → ℕ → Bool
hears alphabets e i = has (get_or alphabets i []) e

-- one number more is tried at the end
passing_push : (n : ℕ) (p : ℕ → Bool) → passing 0 (n + 1) p ≡ passing 0 n p ++ cond (p n) (n ∷ []) []
passing_push n p =
    ap (filter p) (sym (map-id (range_with_len 0 (n + 1)))) ∙ filter_of_map_range_with_len_more p (λ k. k) 0 n n (omega arith)
    ∙ ap (λ ks. filter p ks ++ cond (p n) (n ∷ []) []) (map-id (range_with_len 0 n))

pub passing_more : (n : ℕ) (p : ℕ → Bool) → p n ≡ true → passing 0 (n + 1) p ≡ passing 0 n p ++ n ∷ []
passing_more n p passes = passing_push n p ∙ ap (λ t. passing 0 n p ++ cond t (n ∷ []) []) passes

pub passing_same : (n : ℕ) (p : ℕ → Bool) → p n ≡ false → passing 0 (n + 1) p ≡ passing 0 n p
passing_same n p fails = passing_push n p ∙ ap (λ t. passing 0 n p ++ cond t (n ∷ []) []) fails ∙ append-nil (passing 0 n p)

-- all sites were tried
pub all_tried : (alphabets : List Set) (e n : ℕ) → n ≡ length alphabets → passing 0 n (hears alphabets e) ≡ participants_of alphabets e
all_tried alphabets e n all = ap (λ m. passing 0 m (hears alphabets e)) all ∙ sym (numbers-those (length alphabets) (hears alphabets e))

-- a site is a participant just where its alphabet has the event
pub participant_hears : (alphabets : List Set) (e i : ℕ) → Contains (participants_of alphabets e) i → hears alphabets e i ≡ true
participant_hears alphabets e i found =
    let member = member_from_numbers (those (length alphabets) (hears alphabets e)) i found in
    elim (cases_lt i (length alphabets)) [
      | inl within ↦ sym (has-those (length alphabets) (hears alphabets e) i within) ∙ member
      | inr past ↦ absurd (false≢true (sym (has_past (those (length alphabets) (hears alphabets e)) i (omega (arith, length-those (length alphabets) (hears alphabets e)))) ∙ member))
    ]

pub hears_participant : (alphabets : List Set) (e i : ℕ) → hears alphabets e i ≡ true → Contains (participants_of alphabets e) i
hears_participant alphabets e i h = elim (cases_lt i (length alphabets)) [
  | inl within ↦ numbers_from_member (those (length alphabets) (hears alphabets e)) i (has-those (length alphabets) (hears alphabets e) i within ∙ h)
  | inr past ↦ absurd (false≢true (sym (ap (λ s. has s e) (get_or_past alphabets i [] past)) ∙ h))
]

pub participants_ascend : (alphabets : List Set) (e : ℕ) → IsStrictlyIncreasing (participants_of alphabets e)
participants_ascend alphabets e = numbers-ascend (those (length alphabets) (hears alphabets e))

-- each participant is a site
pub participants_below : (alphabets : List Set) (e : ℕ) → All (λ i. i < length alphabets) (participants_of alphabets e)
participants_below alphabets e =
    subst (λ n. All (λ i. i < n) (participants_of alphabets e)) (length-those (length alphabets) (hears alphabets e)) (numbers-below (those (length alphabets) (hears alphabets e)))

-- the list of an event more
pub lists_more : {V : Type 0} (see : V → List ℕ) (lists more : List V) (list : V) (alphabets : List Set) (e : ℕ) → more ≡ lists ++ list ∷ []
    → map see lists ≡ map (participants_of alphabets) (range_with_len 0 e) → see list ≡ participants_of alphabets e → map see more ≡ map (participants_of alphabets) (range_with_len 0 (e + 1))
lists_more see lists more list alphabets e pushed before here =
    ap (map see) pushed ∙ map_push see lists list ∙ ap (λ ls. ls ++ see list ∷ []) before
    ∙ ap (λ l. map (participants_of alphabets) (range_with_len 0 e) ++ l ∷ []) here
    ∙ sym (map-range_with_len_more (participants_of alphabets) 0 e e (omega arith))

-- there is a list for each event
pub many_lists : {V : Type 0} (see : V → List ℕ) (lists : List V) (alphabets : List Set) → map see lists ≡ lists_of alphabets → length lists ≡ atoms_of alphabets
many_lists see lists alphabets listed =
    sym (length-map lists see) ∙ ap (λ ls. length ls) listed ∙ length-map-range_with_len (participants_of alphabets) 0 (atoms_of alphabets)

-- the list that stands where it was looked for
pub lent_list : {V : Type 0} (see : V → List ℕ) (lists : List V) (alphabets : List Set) (i e : ℕ) (lent : V) → map see lists ≡ lists_of alphabets → i ≡ e → e < atoms_of alphabets
    → lent ≡ get_or lists i lent → see lent ≡ participants_of alphabets e
lent_list see lists alphabets i e lent listed same within read =
    let many = many_lists see lists alphabets listed in
    ap see read ∙ sym (get_or-map see lists i lent (see lent) (omega arith))
    ∙ ap (λ ls. get_or ls i (see lent)) listed
    ∙ get_or-map-range_with_len (participants_of alphabets) 0 (atoms_of alphabets) i e (see lent) (omega arith) (omega arith)
