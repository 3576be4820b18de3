-- Where there is no cover whose canonical text the bytes are.
use Rattle.std.proofs.Common.{◌≡◌, ◌≢◌, ℕ, ◌<◌, Bool, true, false, not, List, [], ◌∷◌, length, Option, Some, None, option_map, Result, Err, refl, sym, ap, ◌∙◌, arith}
use Rattle.std.specs.List.{position}
use Rattle.std.specs.Option.{IfSome, option_map_or}
use Rattle.std.proofs.lemmas.Option.{none-some, same_Some}
use Rattle.std.proofs.lemmas.List.{length-map}
use Rattle.serde_json.specs.Data.{Data}
use Rattle.dcr_format.specs.SizeLaws.{json_in}
use Rattle.dcr_graph.specs.Names.{is_name}
use Rattle.dcr_nest.specs.Nest.{Nest, IsNested, names_of, parents_of}
use Rattle.dcr_nest.specs.declared.node.Node.{Node}
use Rattle.dcr_nest.proofs.FlatLemmas.{all_atoms}
use Rattle.dcr_proj.specs.CoverValue.{Owners}
use Rattle.dcr_format.specs.Facts.{Fact, first, unless}
use Rattle.dcr_format.specs.Texts.{AreAllNames}
use Rattle.dcr_format.specs.declared.json_value.TheConstants.{MAX_BYTES}
use Rattle.dcr_format.specs.declared.stop.CaseStop.{CaseStop}
use Rattle.dcr_format.specs.declared.stop.CaseStop.TheVariants.{NoMemory, Shape}
use Rattle.dcr_format.specs.declared.stop.Part.TheVariants as part
use Rattle.dcr_graph_json.specs.Build.{atom_names}
use Rattle.dcr_cover_json.specs.Accepted.{IsAcceptedCover, IsCoverIn, cover_facts}
use Rattle.dcr_cover_json.specs.Shape.{is_cover, is_site, shape_facts, sites_in, values_in}
use Rattle.dcr_cover_json.specs.Sites.{cover_in}
use Rattle.dcr_cover_json.specs.Text.{cover_text, cover_value}
use Rattle.dcr_cover_json.proofs.RoundLemmas.{all_hold, cover_back}
use Rattle.dcr_cover_json.proofs.ValueLemmas.{text_json, text_short}

-- the names of atoms are names where those of nodes are
pub atoms_named : (N : Nest) → AreAllNames (names_of N.nodes) → AreAllNames (atom_names N)
atoms_named N are =
    all_atoms (λ name. is_name name ≡ true) (parents_of N.nodes) (names_of N.nodes)
    (length-map N.nodes (λ (node : Node). node.parent) ∙ sym (length-map N.nodes (λ (node : Node). node.name))) are

module _ (N : Nest) (nested : IsNested N) (are : AreAllNames (names_of N.nodes)) (bytes : List ℕ) where
  json_is : (C : Owners) → IsAcceptedCover N C → bytes ≡ cover_text (atom_names N) C → json_in bytes ≡ Some (cover_value (atom_names N) C)
  json_is C ok same = ap json_in same ∙ text_json (atom_names N) C (atoms_named N are) ok.names

  pub none_long : MAX_BYTES < length bytes → IsCoverIn N bytes None
  none_long long = λ C ok same. (let short = text_short N C nested (atoms_named N are) ok in let many : length bytes ≡ length (cover_text (atom_names N) C) = ap (λ (text : List ℕ). length text) same in omega arith)

  pub none_json : None ≡ json_in bytes → IsCoverIn N bytes None
  none_json none = λ C ok same. none-some (cover_value (atom_names N) C) (none ∙ json_is C ok same)

  value_is : (d : Data) → Some d ≡ json_in bytes → (C : Owners) → IsAcceptedCover N C → bytes ≡ cover_text (atom_names N) C → d ≡ cover_value (atom_names N) C
  value_is d json C ok same = same_Some _ _ (json ∙ json_is C ok same)

  pub none_value : (d : Data) → Some d ≡ json_in bytes → first (cover_facts N (Some d)) ≢ None → IsCoverIn N bytes None
  none_value d json fails = λ C ok same. fails (ap (λ e. first (cover_facts N (Some e))) (value_is d json C ok same) ∙ all_hold N nested C ok)

  pub none_text : (d : Data) (D : Owners) → Some d ≡ json_in bytes → D ≡ cover_in N (sites_in (Some d)) → bytes ≢ cover_text (atom_names N) D → IsCoverIn N bytes None
  none_text d D json is differ = λ C ok same.
      let one : D ≡ C = is ∙ ap (λ e. cover_in N (sites_in (Some e))) (value_is d json C ok same) ∙ cover_back N nested C ok in
      differ (same ∙ ap (cover_text (atom_names N)) (sym one))

-- no shape is refused for want of memory
shape_wants_none : (d : Option Data) (stop : CaseStop) → first (shape_facts d) ≡ Some stop → stop ≢ NoMemory
unfolding shape_facts
shape_wants_none d stop e = at (option_map_or is_cover d false) (position (λ x. not (is_site x)) (values_in d)) e
  where
    at : (b : Bool) (o : Option ℕ) → first (unless b (Shape part.Cover 0) ∷ option_map (Shape part.Site) o ∷ []) ≡ Some stop → stop ≢ NoMemory
    at false o e = λ same. cc
    at true (Some i) e = λ same. cc
    at true None e = absurd cc

-- a step that tells each refusal of a shape has found none where it wants memory
pub is_shaped : {A : Type 0} (d : Option Data) (result : Result A CaseStop) (P : CaseStop → Type 0) → result ≡ Err NoMemory → IfSome (first (shape_facts d)) (λ stop. result ≡ Err stop) → IfSome (first (shape_facts d)) P
is_shaped d result P memory told = at (first (shape_facts d)) refl told
  where
    at : (f : Fact) → first (shape_facts d) ≡ f → IfSome f (λ stop. result ≡ Err stop) → IfSome f P
    at None e told = tt
    at (Some stop) e told = absurd (shape_wants_none d stop e (let both = sym memory ∙ told in cc))
