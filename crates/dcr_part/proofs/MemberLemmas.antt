-- What stands under each key of the value of a part.
use Rattle.std.proofs.Common.{◌≡◌, ℕ, true, List, [], ◌∷◌, codes, cond, get_or, map, Some, None, ap, ap₂, ◌∙◌}
use Rattle.std.specs.Option.{option_and_then}
use Rattle.std.proofs.lemmas.Bool.{cond-true}
use Rattle.serde_json.specs.Data.{Data, string}
use Rattle.serde_json.specs.Find.{get, as_str}
use Rattle.serde_json.specs.View.{view}
use Rattle.serde_json.specs.declared.value.Value.{Value}
use Rattle.hex.specs.Hex.{encode_lower}
use Rattle.dcr_graph.specs.KindText.{kind_text}
use Rattle.dcr_graph.specs.Rules.{Rules}
use Rattle.dcr_graph.specs.declared.kind.Kind.{Kind}
use Rattle.dcr_graph.specs.declared.kind.Kind.TheVariants.{Condition, Response, Milestone, Include, Exclude, Cancel}
use Rattle.dcr_graph.specs.Names.{is_name}
use Rattle.dcr_format.specs.Members.{text_at}
use Rattle.dcr_part.specs.Told.{Told}
use Rattle.dcr_part.specs.PartText.{number_value, alphabet_value, rows_value, relations_value, opening_value, part_value}
use Rattle.dcr_part.specs.declared.head.PartHead.{PartHead}

module _ (P : Told) (d : Data) (is : d ≡ part_value P) where
  pub alphabet_in : get (codes "alphabet") d ≡ Some (alphabet_value P.own P.names P.alphabet)
  unfolding part_value
  alphabet_in = ap (get (codes "alphabet")) is

  pub atoms_in : get (codes "atoms") d ≡ Some (number_value P.rules.atoms)
  unfolding part_value
  atoms_in = ap (get (codes "atoms")) is

  pub digest_in : get (codes "digest") d ≡ Some (string (encode_lower P.head.digest))
  unfolding part_value
  digest_in = ap (get (codes "digest")) is

  pub number_in : get (codes "number") d ≡ Some (number_value P.head.site)
  unfolding part_value
  number_in = ap (get (codes "number")) is

  pub opening_in : get (codes "opening") d ≡ Some (opening_value P.mark)
  unfolding part_value
  opening_in = ap (get (codes "opening")) is

  pub relations_in : get (codes "relations") d ≡ Some (relations_value P.rules)
  unfolding part_value
  relations_in = ap (get (codes "relations")) is

  pub site_in : get (codes "site") d ≡ Some (string P.head.name)
  unfolding part_value
  site_in = ap (get (codes "site")) is

-- the rows of a kind
pub rows_in : (R : Rules) (kind : Kind) (d : Data) → d ≡ relations_value R → get (kind_text kind) d ≡ Some (rows_value R.atoms (R.related kind))
rows_in R Condition d is = ap (get (codes "condition")) is
rows_in R Response d is = ap (get (codes "response")) is
rows_in R Milestone d is = ap (get (codes "milestone")) is
rows_in R Include d is = ap (get (codes "include")) is
rows_in R Exclude d is = ap (get (codes "exclude")) is
rows_in R Cancel d is = ap (get (codes "cancel")) is

-- ---- texts

pub text_in : (k : List ℕ) (d : Data) (s : List ℕ) → get k d ≡ Some (string s) → text_at k d ≡ Some s
text_in k d s is = ap (option_and_then as_str) is

pub name_found : (text name : List ℕ) → text ≡ name → is_name name ≡ true → cond (is_name text) (Some text) None ≡ Some name
name_found text name same is = ap (λ t. cond (is_name t) (Some t) None) same ∙ cond-true (is_name name) (Some name) None is

abbrev part_head : List ℕ → ℕ → List ℕ → PartHead
part_head digest site name = record { digest = digest; site = site; name = name }

pub same_head : (head : PartHead) (digest name : List ℕ) (site : ℕ) → digest ≡ head.digest → site ≡ head.site → name ≡ head.name → part_head digest site name ≡ head
same_head head digest name site digests sites names = ap₂ (λ d s. part_head d s name) digests sites ∙ ap (part_head head.digest head.site) names

-- ---- elements

-- two values, and three
pub two_at : (values : List Value) (v w : Value) (d e : Data) → map view values ≡ d ∷ e ∷ [] → v ≡ get_or values 0 v → w ≡ get_or values 1 w → (view v ≡ d) × (view w ≡ e)
two_at [] v w d e same p q = absurd (cc)
two_at (x ∷ []) v w d e same p q = absurd (cc)
two_at (x ∷ y ∷ []) v w d e same p q = (ap view p ∙ ap (λ ds. get_or ds 0 d) same, ap view q ∙ ap (λ ds. get_or ds 1 e) same)
two_at (x ∷ y ∷ z ∷ values) v w d e same p q = absurd (cc)

pub three_at : (values : List Value) (u v w : Value) (c d e : Data) → map view values ≡ c ∷ d ∷ e ∷ [] → u ≡ get_or values 0 u → v ≡ get_or values 1 v → w ≡ get_or values 2 w
    → (view u ≡ c) × (view v ≡ d) × (view w ≡ e)
three_at [] u v w c d e same p q r = absurd (cc)
three_at (x ∷ []) u v w c d e same p q r = absurd (cc)
three_at (x ∷ y ∷ []) u v w c d e same p q r = absurd (cc)
three_at (x ∷ y ∷ z ∷ []) u v w c d e same p q r = (ap view p ∙ ap (λ ds. get_or ds 0 c) same, ap view q ∙ ap (λ ds. get_or ds 1 d) same, ap view r ∙ ap (λ ds. get_or ds 2 e) same)
three_at (x ∷ y ∷ z ∷ a ∷ values) u v w c d e same p q r = absurd (cc)
