-- Steps of the loops over the values of events and relations.
use Rattle.std.proofs.Common.{◌≡◌, ℕ, ◌+◌, ◌<◌, ◌≤◌, Bool, true, false, cond, nat_lt, not, is_some, Bor, List, [], ◌∷◌, ◌++◌, length, get_or, map, take, Option, Some, None, refl, sym, ap, ◌∙◌, arith, ◌||◌, ◌^◌, codes, suc}
use Rattle.std.specs.List.{list_any, position_or_len}
use Rattle.std.specs.Option.{option_and_then, option_map_or}
use Rattle.std.specs.Str.{bytes_eq}
use Rattle.std.proofs.lemmas.Bool.{lt-ltb, le-ltb, ltb-true, ltb-false}
use Rattle.std.proofs.lemmas.List.{length-map, get_or-map, take_more}
use Rattle.std.proofs.lemmas.List.Folds.{list_any-append}
use Rattle.std.proofs.lemmas.List.Sums.{count_by-le-length}
use Rattle.serde_json.specs.Data.{Data, null}
use Rattle.serde_json.specs.Find.{get, as_str}
use Rattle.serde_json.specs.View.{items_view, view}
use Rattle.serde_json.specs.declared.value.Value.{Value}
use Rattle.dcr_format.specs.Size.{size, items_size}
use Rattle.dcr_format.proofs.SizeLemmas.{size-get, size-item, length-as_str}
use Rattle.dcr_graph.specs.Names.{number_of}
use Rattle.dcr_graph.proofs.NamesLemmas.{place_is}
use Rattle.dcr_format.specs.Facts.{at_most}
use Rattle.dcr_format.specs.declared.limits.TheConstants.{MAX_ATOMS}
use Rattle.dcr_format.specs.declared.stop.LimitKind.TheVariants as kind
use Rattle.dcr_format.proofs.FactLemmas.{at_most_none}
pub use Rattle.dcr_format.proofs.ValueLemmas.{map_more, map_whole, value_at, each_value, all_values}
use Rattle.dcr_graph_json.specs.Written.{name_in, names_in}
use Rattle.dcr_graph_json.specs.Limits.{atoms_in, is_parent_name, label_bytes}

-- ---- values

pub name_at_value : (vs : List Value) (i : ℕ) (v : Value) → i < length vs → v ≡ get_or vs i v → get_or (names_in (map view vs)) i [] ≡ name_in (view v)
name_at_value vs i v l is = get_or-map name_in (map view vs) i null [] (omega (arith, length-map vs view)) ∙ ap name_in (value_at vs i v l is)

-- ---- labels

pub label_small : (d : Data) → label_bytes d ≤ size d
label_small d = bytes (get (codes "label") d) refl
  where
    text : (part : Data) → get (codes "label") d ≡ Some part → (t : Option (List ℕ)) → as_str part ≡ t → option_map_or length t 0 ≤ size d
    text part e None is = omega arith
    text part e (Some s) is = let inner = length-as_str part s is in let outer = size-get (codes "label") d part e in omega arith

    bytes : (o : Option Data) → get (codes "label") d ≡ o → option_map_or length (option_and_then as_str o) 0 ≤ size d
    bytes None e = omega arith
    bytes (Some part) e = text part e (as_str part) refl

pub label_fits : (vs : List Value) (i : ℕ) (v : Value) → items_size (items_view vs) < 2 ^ 32 → i < length vs → v ≡ get_or vs i v → label_bytes (view v) < 2 ^ 32
label_fits vs i v few l is =
    let one = size-item vs i v l in
    let same : size (view v) ≡ size (view (get_or vs i v)) = ap (λ x. size (view x)) is in
    let short = label_small (view v) in omega arith

-- ---- parents

or_false : (b : Bool) → (b || false) ≡ b
or_false true = refl
or_false false = refl

or_last : (b c : Bool) → (b || (c || false)) ≡ (b || c)
or_last true c = refl
or_last false true = refl
or_last false false = refl

-- one value more
pub any_more : {A : Type 0} (p : A → Bool) (xs : List A) (i : ℕ) (d : A) → i < length xs → list_any p (take (i + 1) xs) ≡ (list_any p (take i xs) || p (get_or xs i d))
any_more p xs i d l = ap (list_any p) (take_more xs i d l) ∙ (list_any-append p (take i xs) (get_or xs i d ∷ []) ∙ or_last (list_any p (take i xs)) (p (get_or xs i d)))

pub any_push : {A : Type 0} (p : A → Bool) (xs : List A) (x : A) → list_any p (xs ++ x ∷ []) ≡ (list_any p xs || p x)
any_push p xs x = list_any-append p xs (x ∷ []) ∙ or_last (list_any p xs) (p x)

pub any_none : (b : Bool) → b ≡ (b || false)
any_none b = sym (or_false b)

-- the first that passes is within exactly where one passes
first_within : {A : Type 0} (p : A → Bool) (xs : List A) → nat_lt (position_or_len p xs) (length xs) ≡ list_any p xs
first_within p [] = refl
first_within p (x ∷ xs) = at (first_within p xs) (p x) refl
  where
    later : (b : Bool) → nat_lt (position_or_len p xs) (length xs) ≡ b → nat_lt (1 + position_or_len p xs) (suc (length xs)) ≡ b
    later true e = lt-ltb _ _ (let l = ltb-true _ _ e in omega arith)
    later false e = le-ltb _ _ (let l = ltb-false _ _ e in omega arith)

    at : nat_lt (position_or_len p xs) (length xs) ≡ list_any p xs → (b : Bool) → p x ≡ b → nat_lt (position_or_len p (x ∷ xs)) (length (x ∷ xs)) ≡ (p x || list_any p xs)
    at rest true e = rw e (lt-ltb 0 (suc (length xs)) (omega arith))
    at rest false e = rw e (later (list_any p xs) rest)

is_some_where : {A : Type 0} (b : Bool) (a : A) → is_some (cond b (Some a) None) ≡ b
is_some_where true a = refl
is_some_where false a = refl

-- what is among the texts has a number there
pub numbered : (texts : List (Bor (List ℕ))) (name : List ℕ) → is_some (number_of (map (λ (text : Bor (List ℕ)). text.now) texts) name) ≡ list_any (λ (text : Bor (List ℕ)). bytes_eq name text.now) texts
numbered texts name =
    let is = λ (text : Bor (List ℕ)). bytes_eq name text.now in
    ap is_some (sym (place_is (λ (text : Bor (List ℕ)). text.now) texts name)) ∙ (is_some_where (nat_lt (position_or_len is texts) (length texts)) (position_or_len is texts) ∙ first_within is texts)

-- no more events are atoms than there are
pub atoms_few : (events : List Data) → length events ≤ 1024 → None ≡ at_most kind.Atoms MAX_ATOMS (atoms_in events)
atoms_few events few =
    let most : atoms_in events ≤ length events = count_by-le-length (λ event. not (is_parent_name events (name_in event))) events in
    sym (at_most_none kind.Atoms MAX_ATOMS (atoms_in events) (omega arith))
