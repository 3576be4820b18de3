use Rattle.std.proofs.Common.{◌≡◌, ℕ, ◌<◌, ◌||◌, length, refl, ap, sym, subst, ◌∙◌, arith}
use Rattle.dcr_set.specs.EventSet.{has, union, those}
use Rattle.dcr_graph.specs.GraphValue.{rules_of}
use Rattle.dcr_graph.specs.Projection.{leads_to, tracks_included, tracks_executed, tracks_pending, in_alphabet}
use Rattle.dcr_graph.specs.declared.kind.Kind.TheVariants.{Condition, Milestone}
use Rattle.dcr_proj.specs.CoverValue.{atoms_of}
use Rattle.dcr_proj.specs.Rows.{rows_where, guards_of, effects_within, event_row, guard_masks, effect_masks, HasRow}
use Rattle.dcr_proj.specs.Alphabet.{alphabet_within}
use Rattle.dcr_proj.specs.ProjectionModel.{local_of}
use Rattle.dcr_set.proofs.ToldLemmas.{union-those, union_set-those}
use Rattle.dcr_proj.proofs.MaskLemmas.{room_first}
use Rattle.dcr_proj.proofs.RowLemmas.{rows-ext}
use Rattle.dcr_proj.proofs.ProjectionLemmas.{same_local, alphabet_is, effect_rows_are}
use Rattle.dcr_proj.proofs.projection.project.Goals as goal
use Rattle.dcr_proj.proofs.projection.project.Goals.{After-into_sets}

pub of-requires-clause-room : goal.of-requires-clause-room
of-requires-clause-room c = room_first c.in_ok-masks.masks.sets.items.items c.atoms.result c.in_ok-masks.ensures ∙ c.atoms.ensures.atoms

-- the row of an atom, among all masks
row_at : (c : After-into_sets) (e : ℕ) → e < length c.args.graph.now.names
    → HasRow (has c.args.own.now) (has c.alphabet_of-alphabet.result) (guards_of (rules_of c.args.graph.now))
    (effects_within (rules_of c.args.graph.now) c.joined-tracked_in.result c.joined-tracked_re.result) c.into_sets.result.items c.in_ok-rows.field-0.rows.items c.in_ok-rows.field-0.numbers.items e
row_at c e atom =
    subst (λ masks. HasRow (has c.args.own.now) (has c.alphabet_of-alphabet.result) (guards_of (rules_of c.args.graph.now))
    (effects_within (rules_of c.args.graph.now) c.joined-tracked_in.result c.joined-tracked_re.result) masks c.in_ok-rows.field-0.rows.items c.in_ok-rows.field-0.numbers.items e)
    (sym c.into_sets.ensures.sets) (c.in_ok-rows.ensures.rows e atom)

own_room : (c : After-into_sets) → length c.copy.result ≡ length c.args.graph.now.names
own_room c = ap (λ s. length s) c.copy.ensures ∙ c.requires

pub invariant_of-result : goal.invariant_of-result
invariant_of-result c =
    let own = own_room c in let room = ap (λ s. length s) (sym c.copy.ensures) in
    record {
      tracked_in = c.joined-tracked_in.ensures.room ∙ room;
      tracked_ex = c.joined-tracked_ex.ensures.room ∙ room;
      tracked_re = c.joined-tracked_re.ensures.room ∙ room;
      alphabet = c.alphabet_of-alphabet.ensures.room ∙ sym own;
      masks = c.into_sets.ensures.masks;
      rooms = ap (λ sets. atoms_of sets) c.into_sets.ensures.sets ∙ c.in_ok-rows.ensures.room ∙ sym own;
      as_many_numbers = c.in_ok-rows.ensures.len ∙ sym own;
      numbers = λ e below. (row_at c e (omega arith)).number;
      guards = λ e below. (row_at c e (omega arith)).row.guards.within;
      effects = λ e below. (row_at c e (omega arith)).row.effects.within;
    }

pub returns : goal.returns
returns c =
    let G = rules_of c.args.graph.now in let S = c.args.own.now in let n = length c.args.graph.now.names in let masks = c.into_sets.result.items in
    let tin = c.joined-tracked_in.result in let tre = c.joined-tracked_re.result in let A = c.alphabet_of-alphabet.result in
    let guard_of : (e : ℕ) → _ = λ e. guard_masks masks (event_row c.in_ok-rows.field-0.rows.items c.in_ok-rows.field-0.numbers.items e).guards in
    let effect_of : (e : ℕ) → _ = λ e. effect_masks masks (event_row c.in_ok-rows.field-0.rows.items c.in_ok-rows.field-0.numbers.items e).effects in
    let tracked_ex : c.joined-tracked_ex.result ≡ those G.atoms (tracks_executed G S) =
    c.joined-tracked_ex.ensures.joined ∙ ap (union S) c.sources_into-conditions.ensures.sources ∙ union_set-those S G.atoms (leads_to G Condition (has S)) c.requires in
    let tracked_re : c.joined-tracked_re.result ≡ those G.atoms (tracks_pending G S) =
    c.joined-tracked_re.ensures.joined ∙ ap (union S) c.sources_into-milestones.ensures.sources ∙ union_set-those S G.atoms (leads_to G Milestone (has S)) c.requires in
    let tracked_in : c.joined-tracked_in.result ≡ those G.atoms (tracks_included G S) =
    c.joined-tracked_in.ensures.joined
    ∙ ap (union S) (c.joined.ensures.joined ∙ ap (λ s. union s c.sources_into-milestones.result) c.sources_into-conditions.ensures.sources
    ∙ ap (union (those G.atoms (leads_to G Condition (has S)))) c.sources_into-milestones.ensures.sources ∙ union-those G.atoms (leads_to G Condition (has S)) (leads_to G Milestone (has S)))
    ∙ union_set-those S G.atoms (λ k. leads_to G Condition (has S) k || leads_to G Milestone (has S) k) c.requires in
    let alphabet : c.alphabet_of-alphabet.result ≡ those G.atoms (in_alphabet G S) =
    c.alphabet_of-alphabet.ensures.alphabet ∙ ap (λ s. those G.atoms (alphabet_within G s c.joined-tracked_re.result)) tracked_in
    ∙ ap (λ s. those G.atoms (alphabet_within G (those G.atoms (tracks_included G S)) s)) tracked_re ∙ alphabet_is G S in
    ap (λ s. local_of (record {
      own = s;
      tracked_in = tin;
      tracked_ex = c.joined-tracked_ex.result;
      tracked_re = tre;
      alphabet = A;
      masks = c.into_sets.result;
      rows = c.in_ok-rows.field-0.rows;
      numbers = c.in_ok-rows.field-0.numbers;
    })) c.copy.ensures
    ∙ same_local S _ _ _ _ _ _ _ _ _ _ _ _ tracked_in tracked_ex tracked_re alphabet
    (ap (λ k. rows_where k (has S) guard_of) c.requires
    ∙ rows-ext n (has S) (has S) guard_of (guards_of G) (λ _ _. refl) (λ e atom owned. (row_at c e atom).row.guards.told owned))
    (ap (λ k. rows_where k (has A) effect_of) c.requires
    ∙ rows-ext n (has A) (has A) effect_of (effects_within G tin tre) (λ _ _. refl) (λ e atom heard. (row_at c e atom).row.effects.told heard)
    ∙ ap (λ s. rows_where G.atoms (has s) (effects_within G tin tre)) alphabet
    ∙ ap (λ s. rows_where G.atoms (has (those G.atoms (in_alphabet G S))) (effects_within G s tre)) tracked_in
    ∙ ap (λ s. rows_where G.atoms (has (those G.atoms (in_alphabet G S))) (effects_within G (those G.atoms (tracks_included G S)) s)) tracked_re
    ∙ effect_rows_are G S)
