-- An accepted nested graph with an accepted cover of it stands in a case file.
use Rattle.std.proofs.Common.{◌≡◌, ℕ, true, codes, [], ◌∷◌, length, refl, arith}
use Rattle.std.proofs.lemmas.List.Elements.{All-from_recursion}
use Rattle.std.proofs.lemmas.List.Folds.{list_any_at}
use Rattle.dcr_set.specs.EventSet.{Set, has, no_event, those}
use Rattle.dcr_set.proofs.SetLemmas.{length-those, has-those}
use Rattle.dcr_graph.specs.Names.{is_name}
use Rattle.dcr_graph.specs.declared.marking.Marking.{Marking}
use Rattle.dcr_nest.specs.Nest.{Nest, parents_of}
use Rattle.dcr_nest.specs.Tree.{atoms}
use Rattle.dcr_proj.specs.CoverValue.{Owners, owners}
use Rattle.dcr_graph_json.specs.Accepted.{IsAcceptedGraph}
use Rattle.dcr_cover_json.specs.Accepted.{IsAcceptedCover}
use Rattle.dcr_json.specs.CaseText.{case_text}
use Rattle.dcr_json.specs.Written.{Spelled}
use Rattle.dcr_json.proofs.RoundLemmas.{IsWritable, case_read}
use Rattle.dcr_json.specs.Spelling.{IsSpelled}

-- the marking in which each of so many atoms is included, and no other mark is set
abbrev included_alone : ℕ → Marking
included_alone n = record { executed = no_event n; pending = no_event n; included = those n (λ _. true) }

-- the case that opens so, with no session
abbrev case_of : Nest → Owners → Spelled
case_of N C = record { nested = N; cover = C; opening = included_alone (length (atoms (parents_of N.nodes))); sessions = [] }

writable : (N : Nest) (C : Owners) → IsAcceptedGraph N.version N → IsAcceptedCover N C → IsWritable (case_of N C)
writable N C graph cover = record {
  graph = graph;
  cover = cover;
  opening = record { executed = length-those _ _; pending = length-those _ _; included = length-those _ _ };
  sessions = record { most_sessions = omega arith; most_calls = omega arith; in_range = λ k d l. absurd (omega arith) };
  few_calls = omega arith;
}

-- some case file spells both
pub accepted_spelled : (N : Nest) (C : Owners) → IsAcceptedGraph N.version N → IsAcceptedCover N C → IsSpelled N C
accepted_spelled N C graph cover =
    record { bytes = case_text (case_of N C); case = case_of N C; read = case_read (case_of N C) (writable N C graph cover); nested = refl; owners = refl }

-- ---- a cover for any graph

-- one site that owns each atom
abbrev pub one_site : Nest → Owners
one_site N = owners (codes "site" ∷ []) (those (length (atoms (parents_of N.nodes))) (λ _. true) ∷ [])

pub one_site_accepted : (N : Nest) → IsAcceptedCover N (one_site N)
one_site_accepted N =
    let n = length (atoms (parents_of N.nodes)) in
    let set = those n (λ _. true) in
    record {
      is_cover = record {
        some_site = omega arith;
        most_sites = omega arith;
        as_many = refl;
        distinct = λ i j before within. absurd (omega arith);
        rooms = All-from_recursion (λ (s : Set). length s ≡ length set) (set ∷ []) (refl, tt);
        covered = λ atom within. list_any_at (λ (s : Set). has s atom) (set ∷ []) 0 [] (omega arith) (has-those n (λ _. true) atom (let room = length-those n (λ _. true) in omega arith));
      };
      names = All-from_recursion (λ name. is_name name ≡ true) (codes "site" ∷ []) (refl, tt);
      rooms = All-from_recursion (λ (s : Set). length s ≡ n) (set ∷ []) (length-those n (λ _. true), tt);
    }
