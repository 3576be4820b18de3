-- What a projection's rows are, and that the projection of a graph fits its atoms.
use Rattle.std.proofs.Common.{◌≡◌, ℕ, ◌<◌, Bool, true, false, ◌&&◌, ◌||◌, cond, List, [], length, get_or, Option, Some, None, is_some, inl, inr, refl, sym, ap, subst, ◌∙◌, arith}
use Rattle.std.proofs.lemmas.Bool.{false≢true, cases_lt}
use Rattle.std.proofs.lemmas.List.{get_or_past}
use Rattle.std.proofs.lemmas.List.Elements.{All-get_or}
use Rattle.dcr_set.specs.EventSet.{Set, has, those}
use Rattle.dcr_set.proofs.LeastLemmas.{least-ext}
use Rattle.dcr_set.proofs.SetLemmas.{has-those, has_past, length-those, those-ext}
use Rattle.dcr_graph.specs.Rows.{row}
use Rattle.dcr_graph.specs.Rules.{Rules}
use Rattle.dcr_graph.specs.Projection.{leads_to, tracks_included, tracks_pending, in_alphabet, is_local_target, local_rules, HasRoom}
use Rattle.dcr_graph.proofs.BoolLemmas.{and_true}
use Rattle.dcr_graph.specs.declared.kind.Kind.{Kind}
use Rattle.dcr_graph.specs.declared.kind.Kind.TheVariants.{Response, Include, Exclude, Cancel}
use Rattle.dcr_graph.specs.declared.marking.Marking.{Marking}
use Rattle.dcr_proj.specs.CoverValue.{atoms_of}
use Rattle.dcr_proj.specs.Masks.{AreMasks}
use Rattle.dcr_proj.specs.Rows.{GuardMasks, EffectMasks, guards_of, effects_of, effects_within, rows_where, guard_rows, effect_rows, event_row, guard_masks, effect_masks, AreGuards, AreEffects}
use Rattle.dcr_proj.specs.declared.rows.EventRow.{EventRow}
use Rattle.dcr_proj.specs.Alphabet.{alphabet_within}
use Rattle.dcr_proj.specs.Local.{Local, projection_of, cut_to}
use Rattle.dcr_proj.specs.ProjectionModel.{local_of, IsLocal, FitsLocal, GuardsFit, EffectsFit}
use Rattle.dcr_proj.specs.declared.projection.Projection.TheInside.{Inside}
use Rattle.dcr_proj.proofs.MaskLemmas.{read_row}
use Rattle.dcr_proj.proofs.RowLemmas.{length-rows_where, row_at, rows-ext}

-- what is in a set is below its room
pub below_room : (s : Set) (e : ℕ) → has s e ≡ true → e < length s
below_room s e member = elim (cases_lt e (length s)) [ inl below ↦ below | inr past ↦ absurd (false≢true (sym (has_past s e past) ∙ member)) ]

-- the row of an event that passes stands at its place
pub row_there : {A : Type 0} (n : ℕ) (test : ℕ → Bool) (row_of : ℕ → A) (e : ℕ) → e < n → test e ≡ true → get_or (rows_where n test row_of) e None ≡ Some (row_of e)
row_there n test row_of e below passes = row_at n test row_of e below ∙ ap (λ b. cond b (Some (row_of e)) None) passes

-- masks that lie under numbers are over the same atoms
pub mask_room : (masks : List Set) (k : ℕ) → AreMasks masks → k < length masks → length (row masks k) ≡ atoms_of masks
mask_room masks k are within = All-get_or (λ mask. length mask ≡ atoms_of masks) masks k [] within are.rooms

-- what the fields stand for has a place for each atom
module _ (p : Inside) (fits : FitsLocal p) where
  room_at : (k : ℕ) → k < length p.masks.items → length (row p.masks.items k) ≡ length p.own
  room_at k within = mask_room p.masks.items k fits.masks within ∙ fits.rooms

  guards_at : (e : ℕ) (b : Bool) → e < length p.own → has p.own e ≡ b
      → GuardsFit (length p.own) p.own e (cond b (Some (guard_masks p.masks.items (event_row p.rows.items p.numbers.items e).guards)) None)
  guards_at e true below is = let at = fits.guards e below in (room_at _ at.condition.within, room_at _ at.milestone.within)
  guards_at e false below is = is

  effects_at : (e : ℕ) (b : Bool) → e < length p.own → has p.alphabet e ≡ b
      → EffectsFit (length p.own) p.alphabet e (cond b (Some (effect_masks p.masks.items (event_row p.rows.items p.numbers.items e).effects)) None)
  effects_at e true below is = let at = fits.effects e below in (room_at _ at.response.within, room_at _ at.include.within, room_at _ at.exclude.within, room_at _ at.cancel.within)
  effects_at e false below is = is

  pub is_local : IsLocal (local_of p)
  is_local = record {
    tracked_in = fits.tracked_in;
    tracked_ex = fits.tracked_ex;
    tracked_re = fits.tracked_re;
    alphabet = fits.alphabet;
    as_many_guards = length-rows_where (length p.own) (has p.own) (λ e. guard_masks p.masks.items (event_row p.rows.items p.numbers.items e).guards);
    as_many_effects = length-rows_where (length p.own) (has p.alphabet) (λ e. effect_masks p.masks.items (event_row p.rows.items p.numbers.items e).effects);
    guards = λ e below.
        subst (GuardsFit (length p.own) p.own e) (sym (row_at (length p.own) (has p.own) (λ k. guard_masks p.masks.items (event_row p.rows.items p.numbers.items k).guards) e below))
        (guards_at e (has p.own e) below refl);
    effects = λ e below.
        subst (EffectsFit (length p.own) p.alphabet e) (sym (row_at (length p.own) (has p.alphabet) (λ k. effect_masks p.masks.items (event_row p.rows.items p.numbers.items k).effects) e below))
        (effects_at e (has p.alphabet e) below refl);
  }

-- the number that was read for an atom is that of a row
pub numbered_within : (p : Inside) → FitsLocal p → (e i number : ℕ) → i ≡ e → number ≡ get_or p.numbers.items i number → e < length p.own → number < length p.rows.items
numbered_within p fits e i number same numbered below =
    subst (λ k. k < length p.rows.items) (sym (read_row p.numbers.items i e number 0 same (omega (arith, fits.as_many_numbers)) numbered)) (fits.numbers e below)

-- what was read for an event, its number first: there are masks at the places of its row, and they are those of the event
module _ (p : Inside) (fits : FitsLocal p) (P : Local) (view : local_of p ≡ P) (e i number : ℕ) (row : EventRow) (same : i ≡ e)
    (numbered : number ≡ get_or p.numbers.items i number) (read : (k : ℕ) → k ≡ number → row ≡ get_or p.rows.items k row) where
  row_read : e < length p.own → row ≡ event_row p.rows.items p.numbers.items e
  row_read below =
      let its : number ≡ get_or p.numbers.items e 0 = read_row p.numbers.items i e number 0 same (omega (arith, fits.as_many_numbers)) numbered in
      read_row p.rows.items number (get_or p.numbers.items e 0) row _ its (fits.numbers e below) (read number refl)

  pub guards_read : has P.own e ≡ true → AreGuards p.masks.items row.guards × (get_or P.guards e None ≡ Some (guard_masks p.masks.items row.guards))
  guards_read owned =
      let member : has p.own e ≡ true = ap (λ Q. has Q.own e) view ∙ owned in
      let below = below_room p.own e member in
      let found = row_read below in (
        subst (λ r. AreGuards p.masks.items r.guards) (sym found) (fits.guards e below),
        ap (λ Q. get_or Q.guards e None) (sym view) ∙ row_there (length p.own) (has p.own) (λ k. guard_masks p.masks.items (event_row p.rows.items p.numbers.items k).guards) e below member
            ∙ ap (λ r. Some (guard_masks p.masks.items r.guards)) (sym found),
      )

  pub effects_read : has P.alphabet e ≡ true → AreEffects p.masks.items row.effects × (get_or P.effects e None ≡ Some (effect_masks p.masks.items row.effects))
  effects_read heard =
      let member : has p.alphabet e ≡ true = ap (λ Q. has Q.alphabet e) view ∙ heard in
      let below : e < length p.own = (let within = below_room p.alphabet e member in omega (arith, fits.alphabet)) in
      let found = row_read below in (
        subst (λ r. AreEffects p.masks.items r.effects) (sym found) (fits.effects e below),
        ap (λ Q. get_or Q.effects e None) (sym view) ∙ row_there (length p.own) (has p.alphabet) (λ k. effect_masks p.masks.items (event_row p.rows.items p.numbers.items k).effects) e below member
            ∙ ap (λ r. Some (effect_masks p.masks.items r.effects)) (sym found),
      )

-- the alphabet and the effects told by tests and by the sets of what passes
tracked_in_set : Rules → Set → Set
tracked_in_set G S = those G.atoms (tracks_included G S)

leads-ext : (G : Rules) (kind : Kind) (p q : ℕ → Bool) (a : ℕ) → ((b : ℕ) → b < G.atoms → p b ≡ q b) → leads_to G kind p a ≡ leads_to G kind q a
leads-ext G kind p q a same = ap is_some (least-ext G.atoms (λ b. p b && G.related kind a b) (λ b. q b && G.related kind a b) (λ b below. ap (λ t. t && G.related kind a b) (same b below)))

pub alphabet_is : (G : Rules) (S : Set) → those G.atoms (alphabet_within G (those G.atoms (tracks_included G S)) (those G.atoms (tracks_pending G S))) ≡ those G.atoms (in_alphabet G S)
alphabet_is G S =
    let tin = those G.atoms (tracks_included G S) in let tre = those G.atoms (tracks_pending G S) in
    let included : (b : ℕ) → b < G.atoms → has tin b ≡ tracks_included G S b = λ b below. has-those G.atoms (tracks_included G S) b below in
    let pending : (b : ℕ) → b < G.atoms → has tre b ≡ tracks_pending G S b = λ b below. has-those G.atoms (tracks_pending G S) b below in
    those-ext G.atoms (alphabet_within G tin tre) (in_alphabet G S) (λ a below.
    five _ _ _ _ _ _ _ _ _ _ (included a below)
    (leads-ext G Response (has tre) (tracks_pending G S) a pending) (leads-ext G Cancel (has tre) (tracks_pending G S) a pending)
    (leads-ext G Include (has tin) (tracks_included G S) a included) (leads-ext G Exclude (has tin) (tracks_included G S) a included))
  where
    five : (a b c d e a' b' c' d' e' : Bool) → a ≡ a' → b ≡ b' → c ≡ c' → d ≡ d' → e ≡ e' → (a || ((b || c) || (d || e))) ≡ (a' || ((b' || c') || (d' || e')))
    five a b c d e a' b' c' d' e' p q r s t = cc

pub effects_are : (G : Rules) (S : Set) (e : ℕ) → effects_within G (those G.atoms (tracks_included G S)) (those G.atoms (tracks_pending G S)) e ≡ effects_of G S e
effects_are G S e =
    let included : (kind : Kind) → those G.atoms (λ b. G.related kind e b && has (those G.atoms (tracks_included G S)) b) ≡ those G.atoms (λ b. G.related kind e b && tracks_included G S b) =
    λ kind. those-ext G.atoms _ _ (λ b below. ap (λ t. G.related kind e b && t) (has-those G.atoms (tracks_included G S) b below)) in
    let pending : (kind : Kind) → those G.atoms (λ b. G.related kind e b && has (those G.atoms (tracks_pending G S)) b) ≡ those G.atoms (λ b. G.related kind e b && tracks_pending G S b) =
    λ kind. those-ext G.atoms _ _ (λ b below. ap (λ t. G.related kind e b && t) (has-those G.atoms (tracks_pending G S) b below)) in
    same_effects _ _ _ _ _ _ _ _ (pending Response) (included Include) (included Exclude) (pending Cancel)
  where
    same_effects : (r i x c r' i' x' c' : Set) → r ≡ r' → i ≡ i' → x ≡ x' → c ≡ c'
        → (let f : EffectMasks = record { response = r; include = i; exclude = x; cancel = c } in f) ≡ record { response = r'; include = i'; exclude = x'; cancel = c' }
    same_effects r i x c r' i' x' c' p q s t =
        ap (λ y. let f : EffectMasks = record { response = y; include = i; exclude = x; cancel = c } in f) p
        ∙ ap (λ y. let f : EffectMasks = record { response = r'; include = y; exclude = x; cancel = c } in f) q
        ∙ ap (λ y. let f : EffectMasks = record { response = r'; include = i'; exclude = y; cancel = c } in f) s
        ∙ ap (λ y. let f : EffectMasks = record { response = r'; include = i'; exclude = x'; cancel = y } in f) t

pub effect_rows_are : (G : Rules) (S : Set)
    → rows_where G.atoms (has (those G.atoms (in_alphabet G S))) (effects_within G (those G.atoms (tracks_included G S)) (those G.atoms (tracks_pending G S))) ≡ effect_rows G S
effect_rows_are G S = rows-ext G.atoms (has (those G.atoms (in_alphabet G S))) (in_alphabet G S)
    (effects_within G (those G.atoms (tracks_included G S)) (those G.atoms (tracks_pending G S))) (effects_of G S)
    (λ e below. has-those G.atoms (in_alphabet G S) e below) (λ e _ _. effects_are G S e)

-- parts that are those of a projection make it
pub same_local : (S tin tex tre a tin' tex' tre' a' : Set) (g g' : List (Option GuardMasks)) (f f' : List (Option EffectMasks))
    → tin ≡ tin' → tex ≡ tex' → tre ≡ tre' → a ≡ a' → g ≡ g' → f ≡ f'
    → (let P : Local = record { own = S; tracked_in = tin; tracked_ex = tex; tracked_re = tre; alphabet = a; guards = g; effects = f } in P)
    ≡ record { own = S; tracked_in = tin'; tracked_ex = tex'; tracked_re = tre'; alphabet = a'; guards = g'; effects = f' }
same_local S tin tex tre a tin' tex' tre' a' g g' f f' p q r s t u =
    ap (λ y. let P : Local = record { own = S; tracked_in = y; tracked_ex = tex; tracked_re = tre; alphabet = a; guards = g; effects = f } in P) p
    ∙ ap (λ y. let P : Local = record { own = S; tracked_in = tin'; tracked_ex = y; tracked_re = tre; alphabet = a; guards = g; effects = f } in P) q
    ∙ ap (λ y. let P : Local = record { own = S; tracked_in = tin'; tracked_ex = tex'; tracked_re = y; alphabet = a; guards = g; effects = f } in P) r
    ∙ ap (λ y. let P : Local = record { own = S; tracked_in = tin'; tracked_ex = tex'; tracked_re = tre'; alphabet = y; guards = g; effects = f } in P) s
    ∙ ap (λ y. let P : Local = record { own = S; tracked_in = tin'; tracked_ex = tex'; tracked_re = tre'; alphabet = a'; guards = y; effects = f } in P) t
    ∙ ap (λ y. let P : Local = record { own = S; tracked_in = tin'; tracked_ex = tex'; tracked_re = tre'; alphabet = a'; guards = g'; effects = y } in P) u

-- the room of marks that were cut
pub cut_rooms : (P : Local) (M : Marking) → HasRoom (length P.own) M → (length (cut_to P M).executed ≡ length P.own) × (length (cut_to P M).pending ≡ length P.own) × (length (cut_to P M).included ≡ length P.own)
cut_rooms P M h = (length-those _ _ ∙ h.executed, length-those _ _ ∙ h.pending, length-those _ _ ∙ h.included)

-- what the rows of a projection of a graph are
module _ (P : Local) (G : Rules) (S : Set) (same : P ≡ projection_of G S) (e : ℕ) where
  pub kept_guards : (row : GuardMasks) → has P.own e ≡ true → get_or P.guards e None ≡ Some row → row ≡ guards_of G e
  kept_guards row owned there = elim (cases_lt e G.atoms) [
    | inl atom ↦
        let found : Some row ≡ Some (guards_of G e) =
        sym there ∙ ap (λ Q. get_or Q.guards e None) same ∙ row_at G.atoms (has S) (guards_of G) e atom
        ∙ ap (λ t. cond t (Some (guards_of G e)) None) (ap (λ Q. has Q.own e) (sym same) ∙ owned) in
        cc
    | inr past ↦
        let missing : None ≡ Some row =
        sym (get_or_past (guard_rows G S) e None (let n = length-rows_where G.atoms (has S) (guards_of G) in omega arith)) ∙ ap (λ Q. get_or Q.guards e None) (sym same) ∙ there in
        absurd (false≢true (ap is_some missing))
  ]

  pub kept_effects : (row : EffectMasks) → has P.alphabet e ≡ true → get_or P.effects e None ≡ Some row → row ≡ effects_of G S e
  kept_effects row heard there =
      let atom : e < G.atoms = (let within = below_room P.alphabet e heard in let n = ap (λ Q. length Q.alphabet) same ∙ length-those G.atoms (in_alphabet G S) in omega arith) in
      let hears : in_alphabet G S e ≡ true = sym (has-those G.atoms (in_alphabet G S) e atom) ∙ ap (λ Q. has Q.alphabet e) (sym same) ∙ heard in
      let found : Some row ≡ Some (effects_of G S e) =
      sym there ∙ ap (λ Q. get_or Q.effects e None) same ∙ row_at G.atoms (in_alphabet G S) (effects_of G S) e atom ∙ ap (λ t. cond t (Some (effects_of G S e)) None) hears in
      cc

  -- the local relations of an owned event's guards are those of the graph
  pub kept_sources : (kind : Kind) → has P.own e ≡ true → ((b : ℕ) → is_local_target G S kind b ≡ has S b)
      → those G.atoms (λ a. G.related kind a e) ≡ those G.atoms (λ a. (local_rules G S).related kind a e)
  kept_sources kind owned local = those-ext G.atoms _ _ (λ a _.
      sym (ap (λ t. G.related kind a e && t) (local e ∙ ap (λ Q. has Q.own e) (sym same) ∙ owned) ∙ and_true (G.related kind a e)))
