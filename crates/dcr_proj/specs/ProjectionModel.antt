-- What the fields of a projection stand for.
use Rattle.std.specs.Prelude.{◌≡◌, ℕ, ◌<◌, false, length, Option, Some, None, slice_index, slice_index_or}
use Rattle.dcr_set.specs.EventSet.{Set, has}
use Rattle.dcr_proj.specs.CoverValue.{atoms_of}
use Rattle.dcr_proj.specs.Local.{Local}
use Rattle.dcr_proj.specs.Masks.{AreMasks}
use Rattle.dcr_proj.specs.Rows.{GuardMasks, EffectMasks, rows_where, event_row, guard_masks, effect_masks, AreGuards, AreEffects}
use Rattle.dcr_proj.specs.declared.projection.Projection.TheInside.{Inside}

-- the rows are those of the events of a set: what guards the owned ones, and what those of the alphabet do
abbrev pub local_of : Inside → Local
local_of p = record {
  own = p.own;
  tracked_in = p.tracked_in;
  tracked_ex = p.tracked_ex;
  tracked_re = p.tracked_re;
  alphabet = p.alphabet;
  guards = rows_where (length p.own) (has p.own) (λ e. guard_masks p.masks.items (event_row p.rows.items p.numbers.items e).guards);
  effects = rows_where (length p.own) (has p.alphabet) (λ e. effect_masks p.masks.items (event_row p.rows.items p.numbers.items e).effects);
}

-- the row of an event is there where the event is in the set, and its sets have room n
abbrev pub GuardsFit : ℕ → Set → ℕ → Option GuardMasks → Type 0
GuardsFit n own e None = has own e ≡ false
GuardsFit n own e (Some row) = (length row.condition ≡ n) × (length row.milestone ≡ n)

abbrev pub EffectsFit : ℕ → Set → ℕ → Option EffectMasks → Type 0
EffectsFit n alphabet e None = has alphabet e ≡ false
EffectsFit n alphabet e (Some row) = (length row.response ≡ n) × (length row.include ≡ n) × (length row.exclude ≡ n) × (length row.cancel ≡ n)

-- every set and every list of rows has a place for each atom
pub record IsLocal (P : Local) : Type 0 where
  pub tracked_in : length P.tracked_in ≡ length P.own
  pub tracked_ex : length P.tracked_ex ≡ length P.own
  pub tracked_re : length P.tracked_re ≡ length P.own
  pub alphabet : length P.alphabet ≡ length P.own
  pub as_many_guards : length P.guards ≡ length P.own
  pub as_many_effects : length P.effects ≡ length P.own
  pub guards : (e : ℕ) → e < length P.own → GuardsFit (length P.own) P.own e (slice_index_or P.guards e None)
  pub effects : (e : ℕ) → e < length P.own → EffectsFit (length P.own) P.alphabet e (slice_index_or P.effects e None)

-- every set has a place for each atom; there is a number for each atom, a row under it, and masks at its places
pub record FitsLocal (p : Inside) : Type 0 where
  pub tracked_in : length p.tracked_in ≡ length p.own
  pub tracked_ex : length p.tracked_ex ≡ length p.own
  pub tracked_re : length p.tracked_re ≡ length p.own
  pub alphabet : length p.alphabet ≡ length p.own
  pub masks : AreMasks p.masks.items
  pub rooms : atoms_of p.masks.items ≡ length p.own
  pub as_many_numbers : length p.numbers.items ≡ length p.own
  pub numbers : (e : ℕ) → e < length p.own → slice_index p.numbers.items e < length p.rows.items
  pub guards : (e : ℕ) → e < length p.own → AreGuards p.masks.items (event_row p.rows.items p.numbers.items e).guards
  pub effects : (e : ℕ) → e < length p.own → AreEffects p.masks.items (event_row p.rows.items p.numbers.items e).effects
