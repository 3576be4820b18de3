-- Values one by one: a list that is made of another, and facts of each of the values of an array.
use Rattle.std.proofs.Common.{◌≡◌, ℕ, ◌+◌, ◌<◌, ◌≤◌, Bool, true, not, List, [], ◌∷◌, ◌++◌, length, get_or, map, take, Option, None, option_map, sym, ap, ◌∙◌}
use Rattle.std.specs.List.{All, position}
use Rattle.std.proofs.lemmas.List.{append_assoc, get_or-map, map-append, map_push, take_more, take_all}
use Rattle.serde_json.specs.Data.{Data, null}
use Rattle.serde_json.specs.View.{view}
use Rattle.serde_json.specs.declared.value.Value.{Value}
use Rattle.dcr_format.specs.Facts.{each}
use Rattle.dcr_format.specs.declared.stop.CaseStop.{CaseStop}
use Rattle.dcr_format.proofs.FactLemmas.{each-map, each_holds}

pub map_more : {A B : Type 0} (f : A → B) (xs : List A) (i : ℕ) (d : A) (before after : List B) (y : B) → i < length xs → before ≡ map f (take i xs) → after ≡ before ++ y ∷ [] → y ≡ f (get_or xs i d)
    → after ≡ map f (take (i + 1) xs)
map_more f xs i d before after y l so_far grown here =
    grown ∙ ap (λ ys. ys ++ y ∷ []) so_far ∙ ap (λ z. map f (take i xs) ++ z ∷ []) here
    ∙ sym (ap (map f) (take_more xs i d l) ∙ map_push f (take i xs) (get_or xs i d))

pub map_whole : {A B : Type 0} (f : A → B) (xs : List A) (i : ℕ) (before : List B) → length xs ≤ i → before ≡ map f (take i xs) → before ≡ map f xs
map_whole f xs i before l so_far = so_far ∙ ap (map f) (take_all i xs l)

pub value_at : (vs : List Value) (i : ℕ) (v : Value) → i < length vs → v ≡ get_or vs i v → get_or (map view vs) i null ≡ view v
value_at vs i v l is = get_or-map view vs i v null l ∙ ap view (sym is)

-- each of the values, as its list of views has it
pub each_value : (holds : Data → Bool) (stop : ℕ → CaseStop) (vs : List Value) (o : Option ℕ) → o ≡ position (λ v. not (holds (view v))) vs → option_map stop o ≡ each holds stop (map view vs)
each_value holds stop vs o e = ap (option_map stop) e ∙ sym (each-map holds stop view vs)

pub all_values : (holds : Data → Bool) (stop : ℕ → CaseStop) (vs : List Value) → None ≡ each holds stop (map view vs) → All (λ v. holds (view v) ≡ true) vs
all_values holds stop vs e = each_holds (λ v. holds (view v)) stop vs (sym (each-map holds stop view vs) ∙ sym e)

-- one more value, of the first thing that was still to come
pub value_moved : {A : Type 0} (f : A → Data) (before after : List Value) (v : Value) (e : A) (ahead rest : List A) (whole : List Data) → after ≡ before ++ v ∷ [] → view v ≡ f e → ahead ≡ e ∷ rest
    → map view before ++ map f ahead ≡ whole → map view after ++ map f rest ≡ whole
value_moved f before after v e ahead rest whole grown here moved so_far =
    ap (λ vs. map view vs ++ map f rest) grown
    ∙ ap (λ ds. ds ++ map f rest) (map-append view before (v ∷ []))
    ∙ append_assoc (map view before) (view v ∷ []) (map f rest)
    ∙ ap (λ d. map view before ++ d ∷ map f rest) here
    ∙ ap (λ es. map view before ++ map f es) (sym moved)
    ∙ so_far
