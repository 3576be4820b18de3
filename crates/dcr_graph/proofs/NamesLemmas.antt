-- Names among the keys of an index: the place of a name is its number.
use Rattle.std.proofs.Common.{◌≡◌, ℕ, inl, inr, Bool, cond, List, [], ◌∷◌, length, get_or, map, Some, None, sym, ap, ◌∙◌, arith}
use Rattle.std.specs.List.{position, position_or_len}
use Rattle.std.specs.Str.{bytes_eq}
use Rattle.std.proofs.lemmas.Bool.{cases_lt, lt-ltb, le-ltb}
use Rattle.std.proofs.lemmas.Cmp.{nat_list_eq_equiv}
use Rattle.std.proofs.lemmas.List.{get_or-map, length-map}
use Rattle.std.proofs.lemmas.List.Sums.{fails_before_first, passes_at_first}
use Rattle.dcr_set.specs.Least.{least}
use Rattle.dcr_set.proofs.LeastLemmas.{least-ext, least-from, least-none_from}
use Rattle.dcr_graph.specs.Names.{number_of}

-- the first place that passes is the least
position_least : {K : Type 0} (p : K → Bool) (keys : List K) (d : K) → position p keys ≡ least (length keys) (λ k. p (get_or keys k d))
position_least p keys d = elim (cases_lt (position_or_len p keys) (length keys)) [
  | inl within ↦
      ap (λ t. cond t (Some (position_or_len p keys)) None) (lt-ltb (position_or_len p keys) (length keys) within)
      ∙ sym (least-from (length keys) (λ k. p (get_or keys k d)) (position_or_len p keys) (record {
        below = within;
        passes = passes_at_first p keys d within;
        none_before = λ j l. fails_before_first p keys j d l;
      }))
  | inr past ↦
      ap (λ t. cond t (Some (position_or_len p keys)) None) (le-ltb (position_or_len p keys) (length keys) past)
      ∙ sym (least-none_from (length keys) (λ k. p (get_or keys k d)) (λ j l. fails_before_first p keys j d (omega arith)))
]

-- the place of a text among the keys is the number that it has among the names
pub place_is : {K : Type 0} (see : K → List ℕ) (keys : List K) (text : List ℕ) → position (λ k. bytes_eq text (see k)) keys ≡ number_of (map see keys) text
place_is see [] text = sym (least-none_from 0 (λ k. bytes_eq (get_or {A = List ℕ} [] k []) text) (λ j l. absurd (omega arith)))
place_is see (x ∷ xs) text =
    position_least (λ k. bytes_eq text (see k)) (x ∷ xs) x
    ∙ least-ext (length (x ∷ xs)) (λ k. bytes_eq text (see (get_or (x ∷ xs) k x))) (λ k. bytes_eq (get_or (map see (x ∷ xs)) k []) text) (λ k below.
    ap (bytes_eq text) (sym (get_or-map see (x ∷ xs) k x [] below)) ∙ nat_list_eq_equiv.symm text (get_or (map see (x ∷ xs)) k []))
    ∙ ap (λ n. least n (λ k. bytes_eq (get_or (map see (x ∷ xs)) k []) text)) (sym (length-map (x ∷ xs) see))
