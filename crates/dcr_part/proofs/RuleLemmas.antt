-- The projection of the local rules is that of the rules that they come from, and a projection tells the local rules.
use Rattle.std.proofs.Common.{◌≡◌, ℕ, ◌<◌, Bool, true, false, ◌&&◌, ◌||◌, cond, List, [], length, get_or, Option, Some, None, is_some, refl, sym, ap, ap₂, ◌∙◌, arith}
use Rattle.std.specs.Option.{option_map, unwrap_or}
use Rattle.std.proofs.lemmas.Bool.{false≢true, false_from_ne_true, and_parts, or_left, or_right}
use Rattle.std.proofs.lemmas.List.FromFn.{get_or-map-range_with_len}
use Rattle.dcr_set.specs.EventSet.{Set, has, those}
use Rattle.dcr_set.proofs.LeastLemmas.{least-ext}
use Rattle.dcr_set.proofs.SetLemmas.{has-those, length-those, those-ext}
use Rattle.dcr_graph.specs.Rules.{Rules}
use Rattle.dcr_graph.specs.Projection.{leads_to, tracks_included, tracks_executed, tracks_pending, in_alphabet, is_local_target, local_rules, is_condition_source, is_milestone_source}
use Rattle.dcr_graph.specs.declared.kind.Kind.{Kind}
use Rattle.dcr_graph.specs.declared.kind.Kind.TheVariants.{Condition, Response, Milestone, Include, Exclude, Cancel}
use Rattle.dcr_graph.proofs.BoolLemmas.{and_true, and_false}
use Rattle.dcr_graph.proofs.LocalLaws.{leads_to-at}
use Rattle.dcr_proj.specs.Local.{Local, projection_of}
use Rattle.dcr_proj.specs.ProjectionModel.{IsLocal}
use Rattle.dcr_proj.specs.Rows.{GuardMasks, EffectMasks}
use Rattle.dcr_part.proofs.RangeLemmas.{range_ext, left_out, twice, where_true}

-- ---- options and records that are the same

where_same : {A : Type 0} (b c : Bool) (x y : A) → b ≡ c → x ≡ y → cond b (Some x) None ≡ cond c (Some y) None
where_same b c x y tests same = ap (λ t. cond t (Some x) None) tests ∙ ap (λ z. cond c (Some z) None) same

pushed : {A : Type 0} (f : A → Set) (b : Bool) (x : A) (k : ℕ) → has (unwrap_or (option_map f (cond b (Some x) None)) []) k ≡ has (cond b (f x) []) k
pushed f true x k = refl
pushed f false x k = refl

abbrev guard_masks : Set → Set → GuardMasks
guard_masks condition milestone = record { condition = condition; milestone = milestone }

abbrev effect_masks : Set → Set → Set → Set → EffectMasks
effect_masks response include exclude cancel = record { response = response; include = include; exclude = exclude; cancel = cancel }

guards_are : (c m c' m' : Set) → c ≡ c' → m ≡ m' → guard_masks c m ≡ guard_masks c' m'
guards_are c m c' m' p q = ap₂ guard_masks p q

effects_are : (r i x c r' i' x' c' : Set) → r ≡ r' → i ≡ i' → x ≡ x' → c ≡ c' → effect_masks r i x c ≡ effect_masks r' i' x' c'
effects_are r i x c r' i' x' c' p q s t = ap₂ (λ y z. effect_masks y z x c) p q ∙ ap₂ (effect_masks r' i') s t

abbrev whole_local : Set → Set → Set → Set → Set → List (Option GuardMasks) → List (Option EffectMasks) → Local
whole_local own tin tex tre alphabet guards effects =
    record { own = own; tracked_in = tin; tracked_ex = tex; tracked_re = tre; alphabet = alphabet; guards = guards; effects = effects }

local_is : (S tin tin' tex tex' tre tre' a a' : Set) (g g' : List (Option GuardMasks)) (f f' : List (Option EffectMasks))
    → tin ≡ tin' → tex ≡ tex' → tre ≡ tre' → a ≡ a' → g ≡ g' → f ≡ f' → whole_local S tin tex tre a g f ≡ whole_local S tin' tex' tre' a' g' f'
local_is S tin tin' tex tex' tre tre' a a' g g' f f' p q r s t u =
    ap₂ (λ y z. whole_local S y z tre a g f) p q ∙ ap₂ (λ y z. whole_local S tin' tex' y z g f) r s ∙ ap₂ (λ y z. whole_local S tin' tex' tre' a' y z) t u

-- ---- rules that are the local ones of others

abbrev rules : ℕ → (Kind → ℕ → ℕ → Bool) → Rules
rules n related = record { atoms = n; related = related }

module _ (n : ℕ) (r q : Kind → ℕ → ℕ → Bool) (S : Set) (local : (kind : Kind) (a b : ℕ) → a < n → b < n → q kind a b ≡ (local_rules (rules n r) S).related kind a b) where
  -- an atom leads to what is a local target as before
  same_lead : (kind : Kind) (p s : ℕ → Bool) → ((b : ℕ) → b < n → p b ≡ s b) → ((b : ℕ) → s b ≡ true → is_local_target (rules n r) S kind b ≡ true) → (a : ℕ) → a < n
      → leads_to (rules n q) kind p a ≡ leads_to (rules n r) kind s a
  same_lead kind p s same targets a atom = ap is_some (least-ext n (λ b. p b && q kind a b) (λ b. s b && r kind a b) (λ b below.
      ap (λ t. t && q kind a b) (same b below) ∙ ap (λ t. s b && t) (local kind a b atom below)
      ∙ left_out (s b) (r kind a b) (is_local_target (rules n r) S kind b) (targets b)))

  same_conditions : (a : ℕ) → a < n → is_condition_source (rules n q) S a ≡ is_condition_source (rules n r) S a
  same_conditions = same_lead Condition (has S) (has S) (λ b _. refl) (λ b owned. owned)

  same_milestones : (a : ℕ) → a < n → is_milestone_source (rules n q) S a ≡ is_milestone_source (rules n r) S a
  same_milestones = same_lead Milestone (has S) (has S) (λ b _. refl) (λ b owned. owned)

  same_included : (a : ℕ) → a < n → tracks_included (rules n q) S a ≡ tracks_included (rules n r) S a
  same_included a atom =
      ap (λ t. has S a || (t || is_milestone_source (rules n q) S a)) (same_conditions a atom)
      ∙ ap (λ t. has S a || (is_condition_source (rules n r) S a || t)) (same_milestones a atom)

  same_executed : (a : ℕ) → a < n → tracks_executed (rules n q) S a ≡ tracks_executed (rules n r) S a
  same_executed a atom = ap (λ t. has S a || t) (same_conditions a atom)

  same_pending : (a : ℕ) → a < n → tracks_pending (rules n q) S a ≡ tracks_pending (rules n r) S a
  same_pending a atom = ap (λ t. has S a || t) (same_milestones a atom)

  same_responses : (a : ℕ) → a < n → leads_to (rules n q) Response (tracks_pending (rules n q) S) a ≡ leads_to (rules n r) Response (tracks_pending (rules n r) S) a
  same_responses = same_lead Response (tracks_pending (rules n q) S) (tracks_pending (rules n r) S) same_pending (λ b tracked. tracked)

  same_cancels : (a : ℕ) → a < n → leads_to (rules n q) Cancel (tracks_pending (rules n q) S) a ≡ leads_to (rules n r) Cancel (tracks_pending (rules n r) S) a
  same_cancels = same_lead Cancel (tracks_pending (rules n q) S) (tracks_pending (rules n r) S) same_pending (λ b tracked. tracked)

  same_includes : (a : ℕ) → a < n → leads_to (rules n q) Include (tracks_included (rules n q) S) a ≡ leads_to (rules n r) Include (tracks_included (rules n r) S) a
  same_includes = same_lead Include (tracks_included (rules n q) S) (tracks_included (rules n r) S) same_included (λ b tracked. tracked)

  same_excludes : (a : ℕ) → a < n → leads_to (rules n q) Exclude (tracks_included (rules n q) S) a ≡ leads_to (rules n r) Exclude (tracks_included (rules n r) S) a
  same_excludes = same_lead Exclude (tracks_included (rules n q) S) (tracks_included (rules n r) S) same_included (λ b tracked. tracked)

  same_alphabet : (a : ℕ) → a < n → in_alphabet (rules n q) S a ≡ in_alphabet (rules n r) S a
  same_alphabet a atom = five _ _ _ _ _ _ _ _ _ _ (same_included a atom) (same_responses a atom) (same_cancels a atom) (same_includes a atom) (same_excludes a atom)
    where
      five : (a b c d e a' b' c' d' e' : Bool) → a ≡ a' → b ≡ b' → c ≡ c' → d ≡ d' → e ≡ e' → (a || ((b || c) || (d || e))) ≡ (a' || ((b' || c') || (d' || e')))
      five a b c d e a' b' c' d' e' p q r s t = cc

  -- the local relations of the local relations
  again : (kind : Kind) (a b : ℕ) → a < n → b < n → (test : Bool) → test ≡ is_local_target (rules n r) S kind b → (q kind a b && test) ≡ (r kind a b && is_local_target (rules n r) S kind b)
  again kind a b atom below test is =
      ap (λ t. q kind a b && t) is ∙ ap (λ t. t && is_local_target (rules n r) S kind b) (local kind a b atom below)
      ∙ twice (r kind a b) (is_local_target (rules n r) S kind b)

  local_again : (kind : Kind) (a b : ℕ) → a < n → b < n → (local_rules (rules n q) S).related kind a b ≡ (local_rules (rules n r) S).related kind a b
  local_again Condition a b atom below = again Condition a b atom below (has S b) refl
  local_again Milestone a b atom below = again Milestone a b atom below (has S b) refl
  local_again Response a b atom below = again Response a b atom below (tracks_pending (rules n q) S b) (same_pending b below)
  local_again Cancel a b atom below = again Cancel a b atom below (tracks_pending (rules n q) S b) (same_pending b below)
  local_again Include a b atom below = again Include a b atom below (tracks_included (rules n q) S b) (same_included b below)
  local_again Exclude a b atom below = again Exclude a b atom below (tracks_included (rules n q) S b) (same_included b below)

  effects : (kind : Kind) (e : ℕ) → e < n → those n (λ b. (local_rules (rules n q) S).related kind e b) ≡ those n (λ b. (local_rules (rules n r) S).related kind e b)
  effects kind e atom = those-ext n _ _ (λ b below. local_again kind e b atom below)

  -- what guards an owned event
  guards : (kind : Kind) (e : ℕ) → e < n → has S e ≡ true → ((b : ℕ) → is_local_target (rules n r) S kind b ≡ has S b) → those n (λ a. q kind a e) ≡ those n (λ a. r kind a e)
  guards kind e atom owned is = those-ext n _ _ (λ a below. local kind a e below atom ∙ ap (λ t. r kind a e && t) (is e ∙ owned) ∙ and_true (r kind a e))

  same_guards : (projection_of (rules n q) S).guards ≡ (projection_of (rules n r) S).guards
  same_guards = range_ext _ _ 0 n (λ e _ atom. where_true (has S e) _ _ (λ owned.
      guards_are _ _ _ _ (guards Condition e (omega arith) owned (λ b. refl)) (guards Milestone e (omega arith) owned (λ b. refl))))

  same_effects : (projection_of (rules n q) S).effects ≡ (projection_of (rules n r) S).effects
  same_effects = range_ext _ _ 0 n (λ e _ atom.
      let here : e < n = omega arith in
      where_same (in_alphabet (rules n q) S e) (in_alphabet (rules n r) S e) _ _ (same_alphabet e here)
      (effects_are _ _ _ _ _ _ _ _ (effects Response e here) (effects Include e here) (effects Exclude e here) (effects Cancel e here)))

  pub same_projection : projection_of (rules n q) S ≡ projection_of (rules n r) S
  same_projection =
      local_is S _ _ _ _ _ _ _ _ _ _ _ _ (those-ext n _ _ same_included) (those-ext n _ _ same_executed) (those-ext n _ _ same_pending) (those-ext n _ _ same_alphabet)
      same_guards same_effects

-- H relates what the local rules of G do, between the same atoms
pub record AreLocal (G : Rules) (S : Set) (H : Rules) : Type 0 where
  pub atoms : H.atoms ≡ G.atoms
  pub related : (kind : Kind) (a b : ℕ) → a < G.atoms → b < G.atoms → H.related kind a b ≡ (local_rules G S).related kind a b

module _ (G : Rules) (S : Set) (H : Rules) (local : AreLocal G S H) where
  cut : H ≡ rules G.atoms H.related
  cut = ap (λ n. rules n H.related) local.atoms

  pub projection_is : projection_of H S ≡ projection_of G S
  projection_is = ap (λ R. projection_of R S) cut ∙ same_projection G.atoms G.related H.related S local.related

  pub local_is_local : (kind : Kind) (a b : ℕ) → a < G.atoms → b < G.atoms → (local_rules H S).related kind a b ≡ (local_rules G S).related kind a b
  local_is_local kind a b atom below =
      ap (λ R. (local_rules R S).related kind a b) cut ∙ local_again G.atoms G.related H.related S local.related kind a b atom below

pub itself : (G : Rules) (S : Set) → AreLocal G S (local_rules G S)
itself G S = record { atoms = refl; related = λ kind a b _ _. refl }

-- ---- what a projection tells of the relations

-- whether a projection relates two atoms
abbrev related_in : Local → Kind → ℕ → ℕ → Bool
related_in P Condition a b = has (unwrap_or (option_map (λ row. row.condition) (get_or P.guards b None)) []) a
related_in P Milestone a b = has (unwrap_or (option_map (λ row. row.milestone) (get_or P.guards b None)) []) a
related_in P Response a b = has (unwrap_or (option_map (λ row. row.response) (get_or P.effects a None)) []) b
related_in P Include a b = has (unwrap_or (option_map (λ row. row.include) (get_or P.effects a None)) []) b
related_in P Exclude a b = has (unwrap_or (option_map (λ row. row.exclude) (get_or P.effects a None)) []) b
related_in P Cancel a b = has (unwrap_or (option_map (λ row. row.cancel) (get_or P.effects a None)) []) b

module _ (G : Rules) (S : Set) where
  guard_at : (e : ℕ) → e < G.atoms → get_or (projection_of G S).guards e None
      ≡ cond (has S e) (Some (guard_masks (those G.atoms (λ c. G.related Condition c e)) (those G.atoms (λ m. G.related Milestone m e)))) None
  guard_at e atom = get_or-map-range_with_len _ 0 G.atoms e e None atom (omega arith)

  effect : ℕ → EffectMasks
  effect e = effect_masks (those G.atoms (λ b. (local_rules G S).related Response e b)) (those G.atoms (λ b. (local_rules G S).related Include e b))
      (those G.atoms (λ b. (local_rules G S).related Exclude e b)) (those G.atoms (λ b. (local_rules G S).related Cancel e b))

  effect_at : (e : ℕ) → e < G.atoms → get_or (projection_of G S).effects e None
      ≡ cond (in_alphabet G S e) (Some (effect_masks (those G.atoms (λ b. (local_rules G S).related Response e b)) (those G.atoms (λ b. (local_rules G S).related Include e b))
      (those G.atoms (λ b. (local_rules G S).related Exclude e b)) (those G.atoms (λ b. (local_rules G S).related Cancel e b)))) None
  effect_at e atom = get_or-map-range_with_len _ 0 G.atoms e e None atom (omega arith)

  -- an atom with a local target is in the alphabet
  heard : (kind : Kind) (t : ℕ → Bool) (a b : ℕ) → b < G.atoms → (leads_to G kind t a ≡ true → in_alphabet G S a ≡ true) → in_alphabet G S a ≡ false → (G.related kind a b && t b) ≡ false
  heard kind t a b below hears deaf = false_from_ne_true (G.related kind a b && t b) (λ both.
      let parts = and_parts (G.related kind a b) (t b) both in
      false≢true (sym deaf ∙ hears (leads_to-at G kind t a b below parts.1 parts.0)))

  guarded : (owned : Bool) (kind : Kind) (a b : ℕ) → a < G.atoms → (s : Set) → s ≡ those G.atoms (λ c. G.related kind c b)
      → has (cond owned s []) a ≡ (G.related kind a b && owned)
  guarded true kind a b atom s is = ap (λ y. has y a) is ∙ has-those G.atoms (λ c. G.related kind c b) a atom ∙ sym (and_true (G.related kind a b))
  guarded false kind a b atom s is = sym (and_false (G.related kind a b))

  effected : (hears : Bool) (a b : ℕ) (p : ℕ → Bool) → b < G.atoms → (hears ≡ false → p b ≡ false) → has (cond hears (those G.atoms p) []) b ≡ p b
  effected true a b p below none = has-those G.atoms p b below
  effected false a b p below none = sym (none refl)

  tells_guard : (mask : GuardMasks → Set) (kind : Kind) (a b : ℕ) → a < G.atoms → b < G.atoms
      → mask (guard_masks (those G.atoms (λ c. G.related Condition c b)) (those G.atoms (λ m. G.related Milestone m b))) ≡ those G.atoms (λ c. G.related kind c b)
      → has (unwrap_or (option_map mask (get_or (projection_of G S).guards b None)) []) a ≡ (G.related kind a b && has S b)
  tells_guard mask kind a b atom below is =
      ap (λ o. has (unwrap_or (option_map mask o) []) a) (guard_at b below) ∙ pushed mask (has S b) _ a ∙ guarded (has S b) kind a b atom _ is

  tells_effect : (mask : EffectMasks → Set) (kind : Kind) (t : ℕ → Bool) (a b : ℕ) → a < G.atoms → b < G.atoms → (leads_to G kind t a ≡ true → in_alphabet G S a ≡ true)
      → mask (effect a) ≡ those G.atoms (λ k. G.related kind a k && t k)
      → has (unwrap_or (option_map mask (get_or (projection_of G S).effects a None)) []) b ≡ (G.related kind a b && t b)
  unfolding effect
  tells_effect mask kind t a b atom below hears is =
      ap (λ o. has (unwrap_or (option_map mask o) []) b) (effect_at a atom) ∙ pushed mask (in_alphabet G S a) _ b
      ∙ ap (λ y. has (cond (in_alphabet G S a) y []) b) is
      ∙ effected (in_alphabet G S a) a b (λ k. G.related kind a k && t k) below (heard kind t a b below hears)

  pub tells : (kind : Kind) (a b : ℕ) → a < G.atoms → b < G.atoms → related_in (projection_of G S) kind a b ≡ (local_rules G S).related kind a b
  unfolding effect
  tells Condition a b atom below = tells_guard (λ row. row.condition) Condition a b atom below refl
  tells Milestone a b atom below = tells_guard (λ row. row.milestone) Milestone a b atom below refl
  tells Response a b atom below = tells_effect (λ row. row.response) Response (tracks_pending G S) a b atom below (λ h. or_right (tracks_included G S a) _ (or_left _ _ (or_left _ _ h))) refl
  tells Cancel a b atom below = tells_effect (λ row. row.cancel) Cancel (tracks_pending G S) a b atom below (λ h. or_right (tracks_included G S a) _ (or_left _ _ (or_right _ _ h))) refl
  tells Include a b atom below = tells_effect (λ row. row.include) Include (tracks_included G S) a b atom below (λ h. or_right (tracks_included G S a) _ (or_right _ _ (or_left _ _ h))) refl
  tells Exclude a b atom below = tells_effect (λ row. row.exclude) Exclude (tracks_included G S) a b atom below (λ h. or_right (tracks_included G S a) _ (or_right _ _ (or_right _ _ h))) refl

-- rules with one projection are over the same atoms, and have the same local rules
module _ (G H : Rules) (S T : Set) (same : projection_of G S ≡ projection_of H T) where
  pub same_atoms : G.atoms ≡ H.atoms
  same_atoms = sym (length-those G.atoms (in_alphabet G S)) ∙ ap (λ P. length P.alphabet) same ∙ length-those H.atoms (in_alphabet H T)

  pub same_local : (kind : Kind) (a b : ℕ) → a < G.atoms → b < G.atoms → (local_rules G S).related kind a b ≡ (local_rules H T).related kind a b
  same_local kind a b atom below =
      let n = same_atoms in
      sym (tells G S kind a b atom below) ∙ ap (λ P. related_in P kind a b) same ∙ tells H T kind a b (omega arith) (omega arith)

-- ---- the targets of the local relations, by the sets of a projection

module _ (G : Rules) (P : Local) (is : P ≡ projection_of G P.own) where
  pub pending_targets : (s : Set) → s ≡ P.tracked_re → (b : ℕ) → b < G.atoms → has s b ≡ tracks_pending G P.own b
  pending_targets s same b below = ap (λ t. has t b) (same ∙ ap (λ Q. Q.tracked_re) is) ∙ has-those G.atoms (tracks_pending G P.own) b below

  pub pending_room : (s : Set) → s ≡ P.tracked_re → length s ≡ G.atoms
  pending_room s same = ap (λ t. length t) (same ∙ ap (λ Q. Q.tracked_re) is) ∙ length-those G.atoms (tracks_pending G P.own)

  pub included_targets : (s : Set) → s ≡ P.tracked_in → (b : ℕ) → b < G.atoms → has s b ≡ tracks_included G P.own b
  included_targets s same b below = ap (λ t. has t b) (same ∙ ap (λ Q. Q.tracked_in) is) ∙ has-those G.atoms (tracks_included G P.own) b below

  pub included_room : (s : Set) → s ≡ P.tracked_in → length s ≡ G.atoms
  included_room s same = ap (λ t. length t) (same ∙ ap (λ Q. Q.tracked_in) is) ∙ length-those G.atoms (tracks_included G P.own)

  pub own_room : (s : Set) → s ≡ P.own → IsLocal P → length s ≡ G.atoms
  own_room s same rooms = ap (λ t. length t) same ∙ sym rooms.tracked_in ∙ included_room P.tracked_in refl
