-- No fact of a case file is want of memory.
use Rattle.std.proofs.Common.{◌≡◌, ℕ, zero, suc, ◌+◌, Bool, true, false, List, [], ◌∷◌, ◌++◌, length, map, Option, Some, None, option_map, refl, sym, ap, ◌∙◌}
use Rattle.std.specs.Prelude.{⊤}
use Rattle.std.specs.List.{range_with_len}
use Rattle.std.proofs.lemmas.Bool.{true≢false}
use Rattle.serde_json.specs.Data.{Data}
use Rattle.dcr_nest.specs.Nest.{Nest}
use Rattle.dcr_nest.specs.declared.node.Version.{Version}
use Rattle.dcr_format.specs.Facts.{Fact, unless, first}
use Rattle.dcr_format.specs.declared.stop.CaseStop.{CaseStop}
use Rattle.dcr_format.specs.declared.stop.CaseStop.TheVariants.{NoMemory}
use Rattle.dcr_graph_json.specs.Build.{build_facts as graph_build}
use Rattle.dcr_graph_json.specs.Limits.{limit_facts as graph_limits}
use Rattle.dcr_graph_json.specs.Shape.{shape_facts as graph_shape}
use Rattle.dcr_graph_json.specs.Written.{Written as Graph}
use Rattle.dcr_cover_json.specs.Build.{name_fact, texts_fact, build_facts as cover_build, site_fact}
use Rattle.dcr_cover_json.specs.Limits.{limit_facts as cover_limits}
use Rattle.dcr_cover_json.specs.Shape.{shape_facts as cover_shape}
use Rattle.dcr_cover_json.specs.Sites.{Site}
use Rattle.dcr_session_json.specs.Build.{build_facts as session_build, calls_fact, session_at}
use Rattle.dcr_session_json.specs.Limits.{limit_facts as session_limits}
use Rattle.dcr_session_json.specs.Shape.{shape_facts as session_shape}
use Rattle.dcr_session_json.specs.Written.{calls_in}
use Rattle.dcr_json.specs.Case.{bytes_facts, data_in}
use Rattle.dcr_json.specs.Facts.{build_facts, case_facts, limit_facts, shape_facts}
use Rattle.dcr_json.specs.Written.{Written, written_in}

abbrev wants : CaseStop → Bool
wants NoMemory = true
wants _ = false

-- the fact wants no memory
abbrev Spares : Fact → Type 0
Spares None = ⊤
Spares (Some stop) = wants stop ≡ false

-- nor does one of these
abbrev Spare : List Fact → Type 0
Spare [] = ⊤
Spare (f ∷ fs) = Spares f × Spare fs

spare_both : (fs gs : List Fact) → Spare fs → Spare gs → Spare (fs ++ gs)
spare_both [] gs h k = k
spare_both (f ∷ fs) gs h k = (h.0, spare_both fs gs h.1 k)

first_spares : (fs : List Fact) → Spare fs → Spares (first fs)
first_spares [] h = tt
first_spares (None ∷ fs) h = first_spares fs h.1
first_spares (Some stop ∷ fs) h = h.0

one : (holds : Bool) (stop : CaseStop) → wants stop ≡ false → Spares (unless holds stop)
one true stop h = tt
one false stop h = h

-- a refusal that is made of something that was found
found : {X : Type 0} (stop : X → CaseStop) (o : Option X) → ((x : X) → wants (stop x) ≡ false) → Spares (option_map stop o)
found stop None h = tt
found stop (Some x) h = h x

numbered : (fact : ℕ → Fact) (a n : ℕ) → ((i : ℕ) → Spares (fact i)) → Spare (map fact (range_with_len a n))
numbered fact a zero h = tt
numbered fact a (suc n) h = (h a, numbered fact (a + 1) n h)

of_graph_shape : (version : Version) (d : Option Data) → Spare (graph_shape version d)
unfolding graph_shape
of_graph_shape version d = (one _ _ refl, (found _ _ (λ i. refl), (found _ _ (λ i. refl), tt)))

of_cover_shape : (d : Option Data) → Spare (cover_shape d)
unfolding cover_shape
of_cover_shape d = (one _ _ refl, (found _ _ (λ i. refl), tt))

of_session_shape : (d : Option Data) → Spare (session_shape d)
unfolding session_shape
of_session_shape d = (one _ _ refl, (found _ _ (λ i. refl), tt))

of_shape : (d : Data) → Spare (shape_facts d)
unfolding shape_facts
of_shape d = (one _ _ refl, spare_both _ _ (of_graph_shape _ _) (spare_both _ _ (of_cover_shape _) (of_session_shape _)))

of_graph_limits : (w : Graph) → Spare (graph_limits w)
unfolding graph_limits
of_graph_limits w = (one _ _ refl, (one _ _ refl, (one _ _ refl, (found _ _ (λ i. refl), tt))))

of_cover_limits : (sites : List Site) → Spare (cover_limits sites)
unfolding cover_limits
of_cover_limits sites = (one _ _ refl, tt)

of_session_limits : (sessions : List Data) → Spare (session_limits sessions)
unfolding session_limits
of_session_limits sessions = (one _ _ refl, (one _ _ refl, tt))

of_limits : (w : Written) → Spare (limit_facts w)
unfolding limit_facts
of_limits w = spare_both _ _ (of_graph_limits w.graph) (spare_both _ _ (of_cover_limits w.sites) (of_session_limits w.sessions))

of_graph_build : (w : Graph) → Spare (graph_build w)
unfolding graph_build
of_graph_build w = (found _ _ (λ i. refl), (found _ _ (λ i. refl), (found _ _ (λ i. refl), (found _ _ (λ i. refl), (found _ _ (λ pair. refl), tt)))))

of_cover_build : (N : Nest) (sites : List Site) → Spare (cover_build N sites)
unfolding cover_build
of_cover_build N sites =
    spare_both _ _ (numbered (site_fact N sites) 0 (length sites) (λ i. first_spares (name_fact sites i ∷ texts_fact N sites i ∷ []) (one _ _ refl, (found _ _ (λ j. refl), tt)))) (found _ _ (λ i. refl), tt)

of_session_build : (sites names : List (List ℕ)) (sessions : List Data) → Spare (session_build sites names sessions)
unfolding session_build
of_session_build sites names sessions = numbered (λ k. calls_fact sites names k (calls_in (session_at sessions k))) 0 (length sessions) (λ k. found _ _ (λ j. refl))

of_build : (w : Written) → Spare (build_facts w)
unfolding build_facts
of_build w = spare_both _ _ (of_graph_build w.graph) (spare_both _ _ (of_cover_build _ w.sites) (of_session_build _ _ w.sessions))

of_case : (d : Data) → Spare (case_facts d)
unfolding case_facts
of_case d = spare_both _ _ (of_shape d) (spare_both _ _ (of_limits (written_in d)) (of_build (written_in d)))

of_bytes : (bytes : List ℕ) → Spare (bytes_facts bytes)
of_bytes bytes = (one _ _ refl, (one _ _ refl, of_case (data_in bytes)))

pub never_memory : (bytes : List ℕ) → first (bytes_facts bytes) ≡ Some NoMemory → ⊥
never_memory bytes e = at (first (bytes_facts bytes)) (first_spares (bytes_facts bytes) (of_bytes bytes)) e
  where
    at : (f : Fact) → Spares f → f ≡ Some NoMemory → ⊥
    at None h e = absurd cc
    at (Some stop) h e = let same : stop ≡ NoMemory = cc in true≢false (sym (ap wants same) ∙ h)
