-- The least clash of a graph.
use Rattle.std.proofs.Common.{◌+◌, ◌||◌, eqb, false, length, take, arith, List, [], get_or, replicate, ◌≡◌, ℕ, ◌<◌, Bool, ◌&&◌, Some, None, is_some, sym, ap, ◌∙◌}
use Rattle.std.specs.Option.{option_map, option_and_then}
use mathlib.Core.Path.{fun_ext}
use Rattle.std.proofs.lemmas.List.{get_or-replicate}
use Rattle.std.proofs.lemmas.List.Folds.{list_any_more}
use Rattle.dcr_set.specs.Least.{least, some_below}
use Rattle.dcr_set.specs.EventSet.{Set, has, those, no_event, first_in_both}
use Rattle.dcr_set.proofs.LeastLemmas.{least-ext, least-from, least-none_from}
use Rattle.dcr_set.proofs.SetLemmas.{has-those, length-those}
use Rattle.dcr_graph.specs.Rules.{Rules, kind_number, same_kind}
use Rattle.dcr_graph.specs.Rows.{leads}
use Rattle.dcr_graph.specs.declared.kind.Kind.{Kind}
use Rattle.dcr_graph.specs.declared.kind.Kind.TheVariants.{Condition, Response, Milestone, Include, Exclude, Cancel}
use Rattle.dcr_graph.proofs.BoolLemmas.{or_assoc}
use Rattle.dcr_graph.proofs.TableLemmas.{leads-none}
use Rattle.dcr_graph.specs.Pairs.{Pair, is_listed, clashes, first_clash}

-- the least number in two sets that are told by tests
pub first_in_both-those : (n : ℕ) (p q : ℕ → Bool) → first_in_both (those n p) (those n q) ≡ least n (λ k. p k && q k)
first_in_both-those n p q =
    ap (λ m. least m (λ k. has (those n p) k && has (those n q) k)) (length-those n p)
    ∙ least-ext n (λ k. has (those n p) k && has (those n q) k) (λ k. p k && q k) (λ k below.
    ap (λ t. t && has (those n q) k) (has-those n p k below) ∙ ap (λ t. p k && t) (has-those n q k below))

pub first_clash-found : (G : Rules) (a b : ℕ) → a < G.atoms → least G.atoms (clashes G a) ≡ Some b
    → ((k : ℕ) → k < a → least G.atoms (clashes G k) ≡ None) → first_clash G ≡ Some (a, b)
first_clash-found G a b within here before =
    ap (option_and_then (λ x. option_map (λ y. (x, y)) (least G.atoms (clashes G x))))
    (least-from G.atoms (λ k. some_below G.atoms (clashes G k)) a (record {
      below = within;
      passes = ap is_some here;
      none_before = λ k l. ap is_some (before k l);
    }))
    ∙ ap (option_map (λ y. (a, y))) here

pub first_clash-none : (G : Rules) → ((k : ℕ) → k < G.atoms → least G.atoms (clashes G k) ≡ None) → first_clash G ≡ None
first_clash-none G none =
    ap (option_and_then (λ x. option_map (λ y. (x, y)) (least G.atoms (clashes G x))))
    (least-none_from G.atoms (λ k. some_below G.atoms (clashes G k)) (λ k l. ap is_some (none k l)))

-- there are six kinds
pub kind_number_below : (kind : Kind) → kind_number kind < 6
kind_number_below Condition = omega arith
kind_number_below Response = omega arith
kind_number_below Milestone = omega arith
kind_number_below Include = omega arith
kind_number_below Exclude = omega arith
kind_number_below Cancel = omega arith

-- a graph without pairs has no related atoms
pub unrelated : (tables : List (List Set)) (n : ℕ) → tables ≡ replicate 6 (replicate n (no_event n)) → (kind : Kind) (a b : ℕ)
    → leads (get_or tables (kind_number kind) []) a b ≡ false
unrelated tables n e kind a b =
    ap (λ ts. leads (get_or ts (kind_number kind) []) a b) e
    ∙ ap (λ table. leads table a b) (get_or-replicate 6 (kind_number kind) (replicate n (no_event n)) [] (kind_number_below kind))
    ∙ leads-none n n a b

-- one pair more of a list
pub is_listed-more : (pairs : List Pair) (i : ℕ) (pair : Pair) → i < length pairs → pair ≡ get_or pairs i pair → (kind : Kind) (a b : ℕ)
    → is_listed (take (i + 1) pairs) kind a b ≡ (is_listed (take i pairs) kind a b || (same_kind pair.0 kind && (eqb pair.1 a && eqb pair.2 b)))
is_listed-more pairs i pair within read kind a b =
    list_any_more (λ (p : Pair). same_kind p.0 kind && (eqb p.1 a && eqb p.2 b)) pairs i pair within
    ∙ ap (λ (p : Pair). is_listed (take i pairs) kind a b || (same_kind p.0 kind && (eqb p.1 a && eqb p.2 b))) (sym read)

pub or_chain : (now self old before this after : Bool) → now ≡ (self || this) → self ≡ (old || before) → after ≡ (before || this) → now ≡ (old || after)
or_chain now self old before this after e f g = e ∙ ap (λ t. t || this) f ∙ or_assoc old before this ∙ ap (λ t. old || t) (sym g)

-- rules with as many atoms that relate the same are the same
pub same_rules : (G H : Rules) → G.atoms ≡ H.atoms → ((kind : Kind) (a b : ℕ) → G.related kind a b ≡ H.related kind a b) → G ≡ H
same_rules G H atoms related =
    ap (λ n. let r : Rules = record { atoms = n; related = G.related } in r) atoms
    ∙ ap (λ r. let s : Rules = record { atoms = H.atoms; related = r } in s) (fun_ext (λ kind. fun_ext (λ a. fun_ext (λ b. related kind a b))))

-- the same relation has the same clash
pub same_clash : (G H : Rules) → G.atoms ≡ H.atoms → ((kind : Kind) (a b : ℕ) → G.related kind a b ≡ H.related kind a b) → first_clash G ≡ first_clash H
same_clash G H atoms related = ap first_clash (same_rules G H atoms related)
