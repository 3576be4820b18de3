-- What a report may always have: the graph without a node, a cover by one site, and a marking without a mark.
use Rattle.std.proofs.Common.{◌≡◌, ℕ, ◌<◌, true, false, [], ◌∷◌, length, codes, refl, arith}
use Rattle.std.specs.Prelude.{IsUtf8}
use Rattle.std.proofs.lemmas.Bool.{or_left}
use Rattle.std.proofs.lemmas.List.Elements.{All-cons, All-nil}
use Rattle.dcr_set.specs.EventSet.{Set, has, no_event, those}
use Rattle.dcr_set.specs.Least.{least}
use Rattle.dcr_set.proofs.SetLemmas.{has-those, length-those}
use Rattle.dcr_graph.specs.Names.{is_label, is_name}
use Rattle.dcr_graph.specs.Pairs.{Pair}
use Rattle.dcr_graph.specs.Projection.{HasRoom}
use Rattle.dcr_graph.specs.Rules.{same_kind}
use Rattle.dcr_graph.specs.declared.kind.Kind.TheVariants.{Cancel}
use Rattle.dcr_graph.specs.declared.marking.Marking.{Marking}
use Rattle.dcr_nest.specs.Nest.{Nest, nest, parents_of}
use Rattle.dcr_nest.specs.Tree.{atoms}
use Rattle.dcr_nest.specs.declared.node.Version.{Version}
use Rattle.dcr_proj.specs.CoverValue.{Owners, owners}
use Rattle.dcr_cover_json.specs.Accepted.{IsAcceptedCover}
use Rattle.dcr_graph_json.specs.Accepted.{IsAcceptedGraph}

-- the graph without a node
abbrev pub empty_graph : Version → Nest
empty_graph version = nest version [] []

pub empty_graph_accepted : (version : Version) → IsAcceptedGraph version (empty_graph version)
unfolding atoms least
empty_graph_accepted version = record {
  of_version = refl;
  nested = record {
    most_nodes = omega arith;
    most_atoms = omega arith;
    most_relations = omega arith;
    distinct = λ i j before within. absurd (omega (arith, within));
    earlier = λ x p is. absurd cc;
    ends = All-nil (λ (pair : Pair). (pair.1 < 0) × (pair.2 < 0));
    cancels = λ _. All-nil (λ (pair : Pair). same_kind pair.0 Cancel ≡ false);
  };
  names = All-nil (λ name. is_name name ≡ true);
  labels = All-nil (λ label. is_label label ≡ true);
  texts = All-nil IsUtf8;
  unclashed = refl;
}

-- the cover by one site, which owns every atom
abbrev pub one_site : ℕ → Owners
one_site n = owners (codes "s" ∷ []) (those n (λ _. true) ∷ [])

pub one_site_accepted : (N : Nest) → IsAcceptedCover N (one_site (length (atoms (parents_of N.nodes))))
one_site_accepted N =
    let n = length (atoms (parents_of N.nodes)) in
    let all : Set = those n (λ _. true) in record {
      is_cover = record {
        some_site = omega arith;
        most_sites = omega arith;
        as_many = refl;
        distinct = λ i j before within. absurd (omega (arith, before, within));
        rooms = All-cons (λ (set : Set). length set ≡ length all) all [] refl (All-nil (λ (set : Set). length set ≡ length all));
        covered = λ atom within. or_left (has all atom) _ (has-those n (λ _. true) atom (omega (arith, within, length-those n (λ _. true))));
      };
      names = All-cons (λ name. is_name name ≡ true) (codes "s") [] refl (All-nil (λ name. is_name name ≡ true));
      rooms = All-cons (λ (set : Set). length set ≡ n) all [] (length-those n (λ _. true)) (All-nil (λ (set : Set). length set ≡ n));
    }

-- the marking without a mark
abbrev pub empty_marking : ℕ → Marking
empty_marking n = record { executed = no_event n; pending = no_event n; included = no_event n }

pub empty_marking_room : (n : ℕ) → HasRoom n (empty_marking n)
empty_marking_room n = let room = length-those n (λ _. false) in record { executed = room; pending = room; included = room }
