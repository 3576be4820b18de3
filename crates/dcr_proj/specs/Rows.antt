-- The rules that a site keeps of one event, as masks; and the places at which the masks lie.
use Rattle.std.specs.Prelude.{◌≡◌, ℕ, ◌<◌, Bool, true, false, ◌&&◌, List, length, map, Option, Some, None, slice_index, slice_index_or, if◌then◌else◌}
use Rattle.std.specs.List.{range_with_len}
use Rattle.dcr_set.specs.EventSet.{Set, has, those}
use Rattle.dcr_graph.specs.Rows.{row}
use Rattle.dcr_graph.specs.Rules.{Rules}
use Rattle.dcr_graph.specs.Projection.{in_alphabet, local_rules}
use Rattle.dcr_graph.specs.declared.kind.Kind.{Kind}
use Rattle.dcr_graph.specs.declared.kind.Kind.TheVariants.{Condition, Response, Milestone, Include, Exclude, Cancel}
use Rattle.dcr_proj.specs.Masks.{IsPlace}
use Rattle.dcr_proj.specs.declared.rows.GuardRow.{GuardRow}
use Rattle.dcr_proj.specs.declared.rows.EffectRow.{EffectRow}
use Rattle.dcr_proj.specs.declared.rows.EventRow.{EventRow}

-- what guards an owned event: its condition events and its milestone events
pub record GuardMasks : Type 0 where
  pub condition : Set
  pub milestone : Set

-- what an event of the alphabet does, cut to the local relations
pub record EffectMasks : Type 0 where
  pub response : Set
  pub include : Set
  pub exclude : Set
  pub cancel : Set

abbrev pub guards_of : Rules → ℕ → GuardMasks
guards_of G e = record {
  condition = those G.atoms (λ c. G.related Condition c e);
  milestone = those G.atoms (λ m. G.related Milestone m e);
}

-- by the local relations
abbrev pub effects_of : Rules → Set → ℕ → EffectMasks
effects_of G S e = record {
  response = those G.atoms (λ b. (local_rules G S).related Response e b);
  include = those G.atoms (λ b. (local_rules G S).related Include e b);
  exclude = those G.atoms (λ b. (local_rules G S).related Exclude e b);
  cancel = those G.atoms (λ b. (local_rules G S).related Cancel e b);
}

-- the same, told by the sets of those atoms whose included and pending marks are tracked
abbrev pub effects_within : Rules → Set → Set → ℕ → EffectMasks
effects_within G tracked_in tracked_re e = record {
  response = those G.atoms (λ b. G.related Response e b && has tracked_re b);
  include = those G.atoms (λ b. G.related Include e b && has tracked_in b);
  exclude = those G.atoms (λ b. G.related Exclude e b && has tracked_in b);
  cancel = those G.atoms (λ b. G.related Cancel e b && has tracked_re b);
}

-- whether a kind guards its targets, or else is what its sources do
abbrev pub is_guard : Kind → Bool
is_guard Condition = true
is_guard Milestone = true
is_guard Response = false
is_guard Include = false
is_guard Exclude = false
is_guard Cancel = false

-- the row of an atom, where it passes
abbrev pub row_where : {A : Type 0} → (ℕ → Bool) → (ℕ → A) → ℕ → Option A
row_where test row_of e = if test e then Some (row_of e) else None

-- the row of each atom below n
abbrev pub rows_where : {A : Type 0} → ℕ → (ℕ → Bool) → (ℕ → A) → List (Option A)
rows_where n test row_of = map (row_where test row_of) (range_with_len 0 n)

abbrev pub guard_rows : Rules → Set → List (Option GuardMasks)
guard_rows G S = rows_where G.atoms (has S) (guards_of G)

abbrev pub effect_rows : Rules → Set → List (Option EffectMasks)
effect_rows G S = rows_where G.atoms (in_alphabet G S) (effects_of G S)

-- the masks at these places
abbrev pub guard_masks : List Set → GuardRow → GuardMasks
guard_masks masks g = record { condition = row masks g.condition.number; milestone = row masks g.milestone.number }

abbrev pub effect_masks : List Set → EffectRow → EffectMasks
effect_masks masks f = record {
  response = row masks f.response.number;
  include = row masks f.include.number;
  exclude = row masks f.exclude.number;
  cancel = row masks f.cancel.number;
}

-- there are masks at these places
pub record AreGuards (masks : List Set) (g : GuardRow) : Type 0 where
  pub condition : IsPlace masks g.condition
  pub milestone : IsPlace masks g.milestone

pub record AreEffects (masks : List Set) (f : EffectRow) : Type 0 where
  pub response : IsPlace masks f.response
  pub include : IsPlace masks f.include
  pub exclude : IsPlace masks f.exclude
  pub cancel : IsPlace masks f.cancel

-- the places of an atom are those of masks, and of its own where it passes
pub record IsGuardRow (test : ℕ → Bool) (masks_of : ℕ → GuardMasks) (masks : List Set) (e : ℕ) (g : GuardRow) : Type 0 where
  pub within : AreGuards masks g
  pub told : test e ≡ true → guard_masks masks g ≡ masks_of e

pub record IsEffectRow (test : ℕ → Bool) (masks_of : ℕ → EffectMasks) (masks : List Set) (e : ℕ) (f : EffectRow) : Type 0 where
  pub within : AreEffects masks f
  pub told : test e ≡ true → effect_masks masks f ≡ masks_of e

-- the row of an atom: what guards it where it is owned, and what it does where it is heard
pub record IsEventRow (owned heard : ℕ → Bool) (guards_at : ℕ → GuardMasks) (effects_at : ℕ → EffectMasks) (masks : List Set) (e : ℕ) (row : EventRow) : Type 0 where
  pub guards : IsGuardRow owned guards_at masks e row.guards
  pub effects : IsEffectRow heard effects_at masks e row.effects

-- the row whose number stands for an atom
abbrev pub event_row : List EventRow → List ℕ → ℕ → EventRow
event_row rows numbers e = slice_index_or rows (slice_index numbers e) (record {
  guards = record { condition = record { number = 0; alone = None }; milestone = record { number = 0; alone = None } };
  effects = record {
    response = record { number = 0; alone = None };
    include = record { number = 0; alone = None };
    exclude = record { number = 0; alone = None };
    cancel = record { number = 0; alone = None };
  };
})

-- the number of an atom is that of its row
pub record HasRow (owned heard : ℕ → Bool) (guards_at : ℕ → GuardMasks) (effects_at : ℕ → EffectMasks) (masks : List Set) (rows : List EventRow) (numbers : List ℕ) (e : ℕ) : Type 0 where
  pub number : slice_index numbers e < length rows
  pub row : IsEventRow owned heard guards_at effects_at masks e (event_row rows numbers e)
