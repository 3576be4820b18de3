-- When two parts have one text, and that the text of a part is read back.
use Rattle.std.proofs.Common.{◌≡◌, ℕ, zero, suc, ◌<◌, ◌≤◌, Bool, true, false, ◌&&◌, nat_lt, codes, List, [], ◌∷◌, ◌++◌, length, get_or, map, take, Some, is_some, IsUtf8, inl, inr, refl, sym, ap, ap₂, ◌∙◌, arith}
use Rattle.std.specs.List.{All}
use Rattle.std.specs.Str.{IsAscii}
use Rattle.std.proofs.lemmas.Bool.{false≢true, cases_lt, and_parts, ltb-true}
use Rattle.std.proofs.lemmas.List.{length_push, take_at}
use Rattle.std.proofs.lemmas.Str.{IsUtf8-from_ascii}
use Rattle.std.proofs.lemmas.Str.Ascii.{IsAscii-nil, IsAscii-cons}
use Rattle.std.proofs.lemmas.List.Elements.{Contains-get_or}
use Rattle.json.proofs.Printed.Utf8.{are_ascii, IsUtf8-are_ascii}
use mathlib.Core.Path.{fun_ext}
use Rattle.serde_json.specs.Data.{Data, string, array, object, no_items, item, no_members, member}
use Rattle.serde_json.specs.View.{items_of}
use Rattle.serde_json.specs.Written.{compact_text, has_float}
use Rattle.hex.specs.Hex.{encode_lower, lower_digits}
use Rattle.hex.proofs.HexLemmas.{IsAscii-encode_with}
use Rattle.dcr_set.specs.Least.{some_below}
use Rattle.dcr_set.specs.EventSet.{Set, has, those, numbers}
use Rattle.dcr_set.proofs.LeastLemmas.{least-ext}
use Rattle.dcr_set.proofs.NumbersLemmas.{member_from_numbers}
use Rattle.dcr_set.proofs.SetLemmas.{has_past, length-those, those-ext}
use Rattle.dcr_graph.specs.KindText.{kind_text}
use Rattle.dcr_graph.specs.Names.{is_name}
use Rattle.dcr_graph.specs.Projection.{FitsAtoms, leads_to}
use Rattle.dcr_graph.specs.Rules.{Rules}
use Rattle.dcr_graph.specs.declared.kind.Kind.{Kind}
use Rattle.dcr_graph.specs.declared.kind.Kind.TheVariants.{Condition, Response, Milestone, Include, Exclude, Cancel}
use Rattle.dcr_graph.specs.declared.marking.SiteMark.{SiteMark}
use Rattle.dcr_graph.proofs.BoolLemmas.{and_comm}
use Rattle.dcr_format.specs.SizeLaws.{json_in}
use Rattle.dcr_format.proofs.NameLemmas.{names_utf8}
use Rattle.dcr_part.specs.Told.{Told}
use Rattle.dcr_part.specs.PartText.{number_value, set_value, event_value, alphabet_value, sources, targets, row_value, rows_value, relations_value, opening_value, part_value, told_text}
use Rattle.dcr_part.specs.Read.{IsTold}
use Rattle.dcr_part.specs.declared.head.PartHead.{PartHead}
use Rattle.dcr_part.proofs.JsonLemmas.{IsRead, neither, no_float_in, read_number, read_boolean, read_string, no_item, one_item, each_item, read_array, no_member, one_member, read_object, read_back}

-- ---- over the numbers in a set

pub below_room : (s : Set) (e : ℕ) → has s e ≡ true → e < length s
below_room s e there = elim (cases_lt e (length s)) [ inl below ↦ below | inr past ↦ absurd (false≢true (sym (has_past s e past) ∙ there)) ]

-- what holds of the members holds of the numbers
pub each_number : (P : ℕ → Type 0) (s : Set) → ((e : ℕ) → has s e ≡ true → P e) → All P (numbers s)
each_number P s h = λ k d within. h (get_or (numbers s) k d) (member_from_numbers s (get_or (numbers s) k d) (Contains-get_or (numbers s) k d within))

mapped : {A : Type 0} (f g : ℕ → A) (xs : List ℕ) → All (λ x. f x ≡ g x) xs → map f xs ≡ map g xs
mapped f g [] all = refl
mapped f g (x ∷ xs) all = ap₂ (λ y ys. y ∷ ys) (all 0 x (omega arith)) (mapped f g xs (λ k d within. all (suc k) d (omega arith)))

pub mapped_numbers : {A : Type 0} (f g : ℕ → A) (s : Set) → ((e : ℕ) → has s e ≡ true → f e ≡ g e) → map f (numbers s) ≡ map g (numbers s)
mapped_numbers f g s same = mapped f g (numbers s) (each_number (λ e. f e ≡ g e) s same)

-- ---- the same text

module _ (n : ℕ) (r q : ℕ → ℕ → Bool) (same : (a b : ℕ) → a < n → b < n → r a b ≡ q a b) where
  sources_same : sources n r ≡ sources n q
  sources_same = those-ext n _ _ (λ a atom. ap is_some (least-ext n (r a) (q a) (λ b below. same a b atom below)))

  targets_same : (a : ℕ) → a < n → targets n r a ≡ targets n q a
  targets_same a atom = those-ext n (r a) (q a) (λ b below. same a b atom below)

  -- relations that agree between n atoms have one value
  pub rows_same : rows_value n r ≡ rows_value n q
  rows_same =
      ap (λ ds. array (items_of ds))
      (mapped_numbers (row_value n r) (row_value n q) (sources n r) (λ a source.
      let within = below_room (sources n r) a source in let room = length-those n (λ k. some_below n (r k)) in
      ap (λ s. array (item (number_value a) (item (set_value s) no_items))) (targets_same a (omega arith)))
      ∙ ap (λ s. map (row_value n q) (numbers s)) sources_same)

-- the atoms that lead to a set are those that have a target in it
pub sources_are : (G : Rules) (kind : Kind) (s : Set) → those G.atoms (leads_to G kind (has s)) ≡ sources G.atoms (λ a b. G.related kind a b && has s b)
sources_are G kind s = those-ext G.atoms _ _ (λ a _. ap is_some (least-ext G.atoms _ _ (λ b _. and_comm (has s b) (G.related kind a b))))

-- what two parts have in common
pub record IsSame (P Q : Told) : Type 0 where
  pub head : P.head ≡ Q.head
  pub atoms : P.rules.atoms ≡ Q.rules.atoms
  pub related : (kind : Kind) (a b : ℕ) → a < P.rules.atoms → b < P.rules.atoms → P.rules.related kind a b ≡ Q.rules.related kind a b
  pub own : P.own ≡ Q.own
  pub alphabet : P.alphabet ≡ Q.alphabet
  pub names : P.names ≡ Q.names
  pub mark : P.mark ≡ Q.mark

-- the value of a part, from the values in it
abbrev from_values : PartHead → ℕ → Data → Data → Data → Data
from_values head atoms alphabet opening relations =
    object (member (codes "alphabet") alphabet
    (member (codes "atoms") (number_value atoms)
    (member (codes "digest") (string (encode_lower head.digest))
    (member (codes "format") (string (codes "dcr part 1"))
    (member (codes "number") (number_value head.site)
    (member (codes "opening") opening
    (member (codes "relations") relations
    (member (codes "site") (string head.name) no_members))))))))

abbrev from_rows : (Kind → Data) → Data
from_rows rows =
    object (member (kind_text Cancel) (rows Cancel) (member (kind_text Condition) (rows Condition) (member (kind_text Exclude) (rows Exclude)
    (member (kind_text Include) (rows Include) (member (kind_text Milestone) (rows Milestone) (member (kind_text Response) (rows Response) no_members))))))

relations_same : (R Q : Rules) → R.atoms ≡ Q.atoms → ((kind : Kind) (a b : ℕ) → a < R.atoms → b < R.atoms → R.related kind a b ≡ Q.related kind a b) → relations_value R ≡ relations_value Q
relations_same R Q atoms related =
    ap from_rows (fun_ext (λ kind. rows_same R.atoms (R.related kind) (Q.related kind) (related kind))) ∙ ap (λ n. from_rows (λ kind. rows_value n (Q.related kind))) atoms

pub text_same : (P Q : Told) → IsSame P Q → told_text P ≡ told_text Q
unfolding told_text part_value
text_same P Q same =
    ap (λ d. compact_text d ++ 10 ∷ []) (
    ap₂ (λ head atoms. from_values head atoms (alphabet_value P.own P.names P.alphabet) (opening_value P.mark) (relations_value P.rules)) same.head same.atoms
    ∙ ap (λ rows. from_values Q.head Q.rules.atoms (alphabet_value P.own P.names P.alphabet) (opening_value P.mark) rows) (relations_same P.rules Q.rules same.atoms same.related)
    ∙ ap₂ (λ own names. from_values Q.head Q.rules.atoms (alphabet_value own names P.alphabet) (opening_value P.mark) (relations_value Q.rules)) same.own same.names
    ∙ ap₂ (λ alphabet mark. from_values Q.head Q.rules.atoms (alphabet_value Q.own Q.names alphabet) (opening_value mark) (relations_value Q.rules)) same.alphabet same.mark)

-- ---- no floats

no_float_set : (s : Set) → has_float (set_value s) ≡ false
no_float_set s = no_float_in number_value (λ k. refl) (numbers s)

no_float_rows : (n : ℕ) (r : ℕ → ℕ → Bool) → has_float (rows_value n r) ≡ false
no_float_rows n r = no_float_in (row_value n r) (λ a. neither _ _ (no_float_set (targets n r a)) refl) (numbers (sources n r))

no_float_relations : (R : Rules) → has_float (relations_value R) ≡ false
no_float_relations R =
    let rows : (kind : Kind) → has_float (rows_value R.atoms (R.related kind)) ≡ false = λ kind. no_float_rows R.atoms (R.related kind) in
    neither _ _ (rows Cancel) (neither _ _ (rows Condition) (neither _ _ (rows Exclude) (neither _ _ (rows Include) (neither _ _ (rows Milestone) (neither _ _ (rows Response) refl)))))

no_float_opening : (m : SiteMark) → has_float (opening_value m) ≡ false
no_float_opening m = neither _ _ (no_float_set m.executed) (neither _ _ (no_float_set m.included) (neither _ _ (no_float_set m.pending) refl))

pub no_float_part : (P : Told) → has_float (part_value P) ≡ false
unfolding part_value
no_float_part P =
    neither _ _ (no_float_in (event_value P.own P.names) (λ e. refl) (numbers P.alphabet))
    (neither _ _ (no_float_opening P.mark) (neither _ _ (no_float_relations P.rules) refl))

-- what was written for a value that is this one, and its line end
pub line_written : (P : Told) (written : Data) (bytes text : List ℕ) → written ≡ part_value P → (has_float written ≡ false → bytes ≡ compact_text written) → text ≡ bytes ++ 10 ∷ [] → text ≡ told_text P
unfolding told_text
line_written P written bytes text same is pushed =
    pushed ∙ ap (λ bs. bs ++ 10 ∷ []) (is (ap has_float same ∙ no_float_part P) ∙ ap compact_text same)

-- ---- read back

read_set : (n : ℕ) (s : Set) → length s ≤ 1024 → IsRead (suc n) (set_value s)
read_set n s few = read_array n _ (each_item n number_value (numbers s) (each_number (λ e. IsRead n (number_value e)) s (λ e there.
    let within = below_room s e there in read_number n e (omega arith))))

read_rows : (n : ℕ) (r : ℕ → ℕ → Bool) → n ≤ 1024 → IsRead 3 (rows_value n r)
read_rows n r few = read_array 2 _ (each_item 2 (row_value n r) (numbers (sources n r)) (each_number (λ a. IsRead 2 (row_value n r a)) (sources n r) (λ a source.
    let within = below_room (sources n r) a source in let room = length-those n (λ k. some_below n (r k)) in let many = length-those n (r a) in
    read_array 1 _ (one_item 1 _ _ (read_number 1 a (omega arith)) (one_item 1 _ _ (read_set 0 (targets n r a) (omega arith)) (no_item 1))))))

key : (k : List ℕ) → are_ascii k ≡ true → IsUtf8 k
key k e = IsUtf8-are_ascii k e

read_relations : (R : Rules) → R.atoms ≤ 1024 → IsRead 4 (relations_value R)
read_relations R few =
    let rows : (kind : Kind) → IsRead 3 (rows_value R.atoms (R.related kind)) = λ kind. read_rows R.atoms (R.related kind) few in
    read_object 3 _ (one_member 3 (kind_text Cancel) _ _ _ _ (key _ refl) (rows Cancel) (one_member 3 (kind_text Condition) _ _ _ _ (key _ refl) (rows Condition)
    (one_member 3 (kind_text Exclude) _ _ _ _ (key _ refl) (rows Exclude) (one_member 3 (kind_text Include) _ _ _ _ (key _ refl) (rows Include)
    (one_member 3 (kind_text Milestone) _ _ _ _ (key _ refl) (rows Milestone) (one_member 3 (kind_text Response) _ _ _ _ (key _ refl) (rows Response) (no_member 3 _)))))))

read_opening : (atoms : ℕ) (m : SiteMark) → atoms ≤ 1024 → FitsAtoms atoms m.executed m.pending m.included → IsRead 4 (opening_value m)
read_opening atoms m few fits =
    let executed = fits.executed in let pending = fits.pending in let included = fits.included in
    read_object 3 _ (one_member 3 (codes "executed") _ _ _ _ (key _ refl) (read_set 2 m.executed (omega arith))
    (one_member 3 (codes "included") _ _ _ _ (key _ refl) (read_set 2 m.included (omega arith))
    (one_member 3 (codes "pending") _ _ _ _ (key _ refl) (read_set 2 m.pending (omega arith)) (no_member 3 _))))

-- a name is UTF-8
one_name : (name : List ℕ) → is_name name ≡ true → (k : ℕ) (d : List ℕ) → k < length (name ∷ []) → is_name (get_or (name ∷ []) k d) ≡ true
one_name name is zero d within = is
one_name name is (suc k) d within = absurd (omega arith)

name_utf8 : (name : List ℕ) → is_name name ≡ true → IsUtf8 name
name_utf8 name is = names_utf8 (name ∷ []) (one_name name is) 0 name (omega arith)

read_alphabet : (P : Told) → IsTold P → IsRead 4 (alphabet_value P.own P.names P.alphabet)
read_alphabet P it = read_array 3 _ (each_item 3 (event_value P.own P.names) (numbers P.alphabet) (each_number (λ e. IsRead 3 (event_value P.own P.names e)) P.alphabet (λ e heard.
    let within = below_room P.alphabet e heard in let few = it.atoms in let room = it.alphabet in
    read_array 2 _ (one_item 2 _ _ (read_number 2 e (omega arith)) (one_item 2 _ _ (read_string 2 _ (name_utf8 _ (it.named e heard)))
    (one_item 2 _ _ (read_boolean 2 (has P.own e)) (no_item 2)))))))

ascii : (xs : List ℕ) → are_ascii xs ≡ true → IsAscii xs
ascii [] e = IsAscii-nil
ascii (x ∷ xs) e = let p = and_parts (nat_lt x 128) (are_ascii xs) e in IsAscii-cons x xs (ltb-true x 128 p.0) (ascii xs p.1)

hex_utf8 : (bytes : List ℕ) → IsUtf8 (encode_lower bytes)
hex_utf8 bytes = IsUtf8-from_ascii _ (IsAscii-encode_with lower_digits bytes (ascii lower_digits refl))

pub told_json : (P : Told) → IsTold P → json_in (compact_text (part_value P)) ≡ Some (part_value P)
unfolding part_value
told_json P it =
    let few = it.atoms in let site = it.site in
    read_back 5 _ (read_object 4 _ (one_member 4 (codes "alphabet") _ _ _ _ (key _ refl) (read_alphabet P it)
    (one_member 4 (codes "atoms") _ _ _ _ (key _ refl) (read_number 4 P.rules.atoms (omega arith))
    (one_member 4 (codes "digest") _ _ _ _ (key _ refl) (read_string 4 _ (hex_utf8 P.head.digest))
    (one_member 4 (codes "format") _ _ _ _ (key _ refl) (read_string 4 _ (key _ refl))
    (one_member 4 (codes "number") _ _ _ _ (key _ refl) (read_number 4 P.head.site (omega arith))
    (one_member 4 (codes "opening") _ _ _ _ (key _ refl) (read_opening P.rules.atoms P.mark it.atoms it.marks)
    (one_member 4 (codes "relations") _ _ _ _ (key _ refl) (read_relations P.rules it.atoms)
    (one_member 4 (codes "site") _ _ _ _ (key _ refl) (read_string 4 _ (name_utf8 _ it.site_name)) (no_member 4 _)))))))))) (omega arith)

-- ---- the line

-- what stands before the line end of a part
before_end : (P : Told) (bytes rest : List ℕ) (x : ℕ) → bytes ≡ rest ++ x ∷ [] → bytes ≡ told_text P → rest ≡ compact_text (part_value P)
unfolding told_text
before_end P bytes rest x split is =
    let same : rest ++ x ∷ [] ≡ compact_text (part_value P) ++ 10 ∷ [] = sym split ∙ is in
    let one = length_push rest x in let other = length_push (compact_text (part_value P)) 10 in let both = ap (λ xs. length xs) same in
    let many : length (compact_text (part_value P)) ≡ length rest = omega arith in
    sym (take_at rest (x ∷ []) (length rest) refl) ∙ ap (take (length rest)) same ∙ take_at (compact_text (part_value P)) (10 ∷ []) (length rest) many

pub line_json : (P : Told) → IsTold P → (bytes rest : List ℕ) (x : ℕ) → bytes ≡ rest ++ x ∷ [] → bytes ≡ told_text P → json_in rest ≡ Some (part_value P)
line_json P it bytes rest x split is = ap json_in (before_end P bytes rest x split is) ∙ told_json P it

pub some_text : (P : Told) (bytes : List ℕ) → bytes ≡ told_text P → length bytes ≡ 0 → ⊥
unfolding told_text
some_text P bytes is none = let many = length_push (compact_text (part_value P)) 10 in let both = ap (λ xs. length xs) is in absurd (omega arith)
