-- Each kind of step keeps the rule, for any number of sites and sessions.
use Rattle.std.proofs.Common.{◌≡◌, ◌≢◌, ℕ, zero, suc, ◌+◌, ◌<◌, Bool, true, false, List, [], ◌∷◌, ◌++◌, length, map, set, take, drop, sym, refl, ap, ◌∙◌, subst, inl, inr, arith, length-append}
use Rattle.std.specs.Prelude.{slice_index, ◌==◌, nat_lt}
use Rattle.std.specs.List.{All}
use Rattle.std.proofs.lemmas.Bool.Decides.{nat_tests}
use Rattle.std.proofs.lemmas.List.Elements.{All-nil, All-cons, All-head, All-tail, All-append, All-set, All-push, All-take, All-drop}
use mathlib.Core.Option.{some, none, some-injective, some-ne-none}
use prog.Atomic.{either}
use lib.ListN.{get_elem?}
use Rattle.atomic_table.specs.Table.{State, step, keeps, opening, Allows, Enters, Splits, Joins}
use Rattle.atomic_table.proofs.Lists.{at_set, set_else, exchanged}
use Rattle.dcr_set.specs.EventSet.{Set}
use Rattle.dcr_journal.specs.declared.call.Entry.{Entry}
use Rattle.dcr_turn.specs.declared.record.Holder.{Holder}
use Rattle.dcr_turn.specs.declared.record.Holder.TheVariants.{Journal, Site, Session}
use Rattle.dcr_turn.specs.declared.record.Record.{Record}
use Rattle.dcr_turn.specs.Records.{concerns, is_of_turn, once, times, told, first_seen, everyone, without, only, sites_from, sessions_from, same}
use Rattle.dcr_turn.specs.Rule.{IsRight, HasRightRecords}
use Rattle.dcr_turn.specs.Steps.{Publishes, Sits, Stand, Hears, longer, with_longer, Compares, joined, kept, cut, IsJournalFirst}
use Rattle.dcr_turn.proofs.Covering.{covers_itself, covers_one_more, covers_all, longer_covers}
use Rattle.dcr_turn.proofs.Counting.{once_most, once_there, same_self, times-told, times-longer, times-append, times-joined, times-cut, times-parted, times-out, times-everyone, standing-set, standing-push, standing-has, standing-has_two}

module _ {X : Type 0} (P : X → Type 0) where
  All-at : (xs : List X) (i : ℕ) (x : X) → All P xs → get_elem? xs i ≡ some x → P x
  All-at [] i x all at = absurd (some-ne-none x (sym at))
  All-at (y ∷ ys) zero x all at = subst P (some-injective y x at) (All-head P y ys all)
  All-at (y ∷ ys) (suc i) x all at = All-at ys i x (All-tail P y ys all) at

  All-each : (xs : List X) → ((i : ℕ) (x : X) → get_elem? xs i ≡ some x → P x) → All P xs
  All-each [] each = All-nil P
  All-each (y ∷ ys) each = All-cons P y ys (each 0 y refl) (All-each ys (λ i. each (suc i)))

-- what holds of records of a view holds of them still, each of which is there
All-there : (P Q : Record → Type 0) (v : List Record) → ((r : Record) → 0 < times r.holder v → P r → Q r) → All P v → All Q v
All-there P Q [] f all = All-nil Q
All-there P Q (r ∷ rs) f all =
    All-cons Q r rs
    (let e = ap once (same_self r.holder) in f r (omega arith) (All-head P r rs all))
    (All-there P Q rs (λ q there. f q (omega arith)) (All-tail P r rs all))

module _ (P : Record → Type 0) where
  All-joined : (v w : List Record) → All P v → All P w → All P (joined v w)
  All-joined [] w all others = All-append P w [] others (All-nil P)
  All-joined (r ∷ rs) w all others = All-cons P r (w ++ rs) (All-head P r rs all) (All-append P w rs others (All-tail P r rs all))

  All-kept : (v : List Record) → All P v → All P (kept v)
  All-kept [] all = all
  All-kept (r ∷ []) all = all
  All-kept (r ∷ q ∷ rs) all = All-cons P r rs (All-head P r (q ∷ rs) all) (All-tail P q rs (All-tail P r (q ∷ rs) all))

  All-cut : (v : List Record) → All P v → All P (cut v)
  All-cut [] all = all
  All-cut (r ∷ []) all = All-nil P
  All-cut (r ∷ q ∷ rs) all = All-cons P q [] (All-head P q rs (All-tail P r (q ∷ rs) all)) (All-nil P)

  All-without_step : (y : Holder) (r : Record) (rs : List Record) → (All P rs → All P (without y rs)) → (b : Bool) → same y r.holder ≡ b → All P (r ∷ rs) → All P (without y (r ∷ rs))
  All-without_step y r rs rest true h all = rw h (All-tail P r rs all)
  All-without_step y r rs rest false h all = rw h (All-cons P r (without y rs) (All-head P r rs all) (rest (All-tail P r rs all)))

  All-without : (y : Holder) (v : List Record) → All P v → All P (without y v)
  All-without y [] all = all
  All-without y (r ∷ rs) all = All-without_step y r rs (All-without y rs) (same y r.holder) refl all

  All-only_step : (y : Holder) (r : Record) (rs : List Record) → (All P rs → All P (only y rs)) → (b : Bool) → same y r.holder ≡ b → All P (r ∷ rs) → All P (only y (r ∷ rs))
  All-only_step y r rs rest true h all = rw h (All-cons P r [] (All-head P r rs all) (All-nil P))
  All-only_step y r rs rest false h all = rw h (rest (All-tail P r rs all))

  All-only : (y : Holder) (v : List Record) → All P v → All P (only y v)
  All-only y [] all = all
  All-only y (r ∷ rs) all = All-only_step y r rs (All-only y rs) (same y r.holder) refl all

-- the word as it was, written again
word_again : (words : List ℕ) (n : ℕ) → words ≡ n ∷ [] → set words 0 (slice_index words 0) ≡ n ∷ []
word_again words n is = ap (λ (ws : List ℕ). set ws 0 (slice_index ws 0)) is

-- the word one higher
word_up : (words : List ℕ) (n old : ℕ) → words ≡ n ∷ [] → n ≡ old → set words 0 (either (slice_index words 0 == old) (old + 1) (slice_index words 0)) ≡ (old + 1) ∷ []
word_up words n old is same =
    ap (λ (ws : List ℕ). set ws 0 (either (slice_index ws 0 == old) (old + 1) (slice_index ws 0))) is
    ∙ exchanged n old (old + 1) (λ (k : ℕ). k ∷ [] ≡ (old + 1) ∷ []) (λ e. refl) (λ ne. absurd (ne same))

module _ (A : List Set) (m : ℕ) where
  All-told : (J : List Entry) (v : List Record) → All (IsRight A J) (map (told J) v)
  All-told J [] = All-nil (IsRight A J)
  All-told J (r ∷ rs) = All-cons (IsRight A J) (told J r) (map (told J) rs) (covers_itself (concerns A r.holder) J) (All-told J rs)

  -- the journal's record has the whole list
  journal_whole : (v : List Record) (J : List Entry) → IsJournalFirst v → All (IsRight A J) v → first_seen v ≡ J
  journal_whole [] J first all = absurd first
  journal_whole (r ∷ rs) J first all = covers_all (concerns A r.holder) (λ e. ap (λ (x : Holder). concerns A x e) first) r.seen J (All-head (IsRight A J) r rs all)

  module _ (s : State (Unit {0}) (List Record)) (kept : HasRightRecords A m s) (id : ℕ) (v : List Record) (at : get_elem? s.views id ≡ some v) where
    right_here : All (IsRight A kept.history) v
    right_here = All-at (All (IsRight A kept.history)) s.views id v kept.right at

    stand_here : Stand A m v kept.history
    stand_here = record {
      right = right_here;
      once = λ x. let a = standing-has x s.views id v at in let b = kept.one_each x in let c = once_most (is_of_turn A m x) in omega arith;
      below = kept.below;
    }

    -- a view of the same holders, each of them right, in its place, and the word as it is
    keeps_view : (w : List Record) → ((x : Holder) → times x w ≡ times x v) → All (IsRight A kept.history) w
        → HasRightRecords A m record { words = set s.words 0 (slice_index s.words 0); homes = s.homes; views = set s.views id w }
    keeps_view w counts right = record {
      history = kept.history;
      word = word_again s.words (length kept.history) kept.word;
      right = All-set (All (IsRight A kept.history)) s.views id w right kept.right;
      one_each = λ x. let a = standing-set x s.views id v w at in let b = kept.one_each x in let c = counts x in omega arith;
      below = kept.below;
    }

    -- who stands here stands nowhere else
    elsewhere : (other : ℕ) (u : List Record) (x : Holder) → other ≢ id → get_elem? s.views other ≡ some u → 0 < times x u → times x v ≡ 0
    elsewhere other u x ne there some_there =
        let a = standing-has_two x s.views id other v u ne at there in
        let b = kept.one_each x in
        let c = once_most (is_of_turn A m x) in omega arith

    -- and is of the turn
    of_turn : (other : ℕ) (u : List Record) (x : Holder) → get_elem? s.views other ≡ some u → 0 < times x u → is_of_turn A m x ≡ true
    of_turn other u x there some_there =
        let a = standing-has x s.views other u there in
        let b = kept.one_each x in once_there (is_of_turn A m x) (omega arith)

    module _ (e : Entry) (here : (x : Holder) → is_of_turn A m x ≡ true → concerns A x e ≡ true → 0 < times x v) where
      unconcerned : (other : ℕ) (u : List Record) (x : Holder) → other ≢ id → get_elem? s.views other ≡ some u → 0 < times x u → (b : Bool) → concerns A x e ≡ b → concerns A x e ≡ false
      unconcerned other u x ne there some_there false h = h
      unconcerned other u x ne there some_there true h =
          let a = elsewhere other u x ne there some_there in
          let b = here x (of_turn other u x there some_there) h in absurd (omega arith)

      grown : (other : ℕ) (u : List Record) → other ≢ id → get_elem? s.views other ≡ some u → All (IsRight A (kept.history ++ e ∷ [])) u
      grown other u ne there =
          All-there (IsRight A kept.history) (IsRight A (kept.history ++ e ∷ [])) u
          (λ r some_there right. covers_one_more (concerns A r.holder) r.seen kept.history e right (unconcerned other u r.holder ne there some_there (concerns A r.holder e) refl))
          (All-at (All (IsRight A kept.history)) s.views other u kept.right there)

      all_grown : All (All (IsRight A (kept.history ++ e ∷ []))) (set s.views id (map (told (kept.history ++ e ∷ [])) v))
      all_grown = All-each (All (IsRight A (kept.history ++ e ∷ []))) (set s.views id (map (told (kept.history ++ e ∷ [])) v))
          (λ other u there. elim (at_set s.views id other (map (told (kept.history ++ e ∷ [])) v) u there) [
            | inl is ↦ subst (All (IsRight A (kept.history ++ e ∷ []))) is.1 (All-told (kept.history ++ e ∷ []) v)
            | inr is ↦ grown other u is.0 is.1
          ])

  -- load
  pub hears : (slots id : ℕ) (v : List Record) (out : List (ℕ × Unit {0})) → IsJournalFirst v → Allows (HasRightRecords A m) slots id (v, out) 0 (λ n. n) (Hears A m (step slots 0 0 0 none) (v, out))
  hears slots id v out first s kept len at bound =
      let whole = journal_whole v kept.history first (right_here s kept id v at) in (
        map (told (first_seen v)) v,
        keeps,
        tt,
        keeps_view s kept id v at (map (told (first_seen v)) v) (λ x. times-told x (first_seen v) v)
            (subst (λ (J : List Entry). All (IsRight A J) (map (told (first_seen v)) v)) whole (All-told (first_seen v) v)),
        (subst (Stand A m v) (sym whole) (stand_here s kept id v at), refl),
      )

  longer_right : (r q : Record) (J : List Entry) → IsRight A J r → IsRight A J q → (b : Bool) → nat_lt (length r.seen) (length q.seen) ≡ b → IsRight A J (told (longer r.seen q.seen) r)
  longer_right r q J right other true h =
      let lt : length r.seen < length q.seen = grind (arith, nat_tests) in rw h (longer_covers (concerns A r.holder) r.seen q.seen J right other.rest other.whole (omega arith))
  longer_right r q J right other false h = rw h right

  All-longer : (J : List Entry) (v : List Record) → All (IsRight A J) v → All (IsRight A J) (with_longer v)
  All-longer J [] all = all
  All-longer J (r ∷ []) all = all
  All-longer J (r ∷ q ∷ rs) all =
      let tail = All-tail (IsRight A J) r (q ∷ rs) all in
      All-cons (IsRight A J) (told (longer r.seen q.seen) r) (q ∷ rs)
      (longer_right r q J (All-head (IsRight A J) r (q ∷ rs) all) (All-head (IsRight A J) q rs tail) (nat_lt (length r.seen) (length q.seen)) refl)
      tail

  pub compares : (slots id : ℕ) (v : List Record) (out : List (ℕ × Unit {0})) → Allows (HasRightRecords A m) slots id (v, out) 0 (λ n. n) (Compares A m (step slots 0 0 0 none) (v, out))
  compares slots id v out s kept len at bound = (
    with_longer v,
    keeps,
    tt,
    keeps_view s kept id v at (with_longer v) (λ x. times-longer x v) (All-longer kept.history v (right_here s kept id v at)),
    (kept.history, stand_here s kept id v at, refl),
  )

  -- publish
  pub publishes : (slots id old : ℕ) (v : List Record) (out : List (ℕ × Unit {0})) (e : Entry) → IsJournalFirst v → old ≡ length (first_seen v) → e.session < m
      → ((x : Holder) → is_of_turn A m x ≡ true → concerns A x e ≡ true → 0 < times x v)
      → Allows (HasRightRecords A m) slots id (v, out) 0 (λ n. either (n == old) (old + 1) n) (Publishes e (step slots 0 old (old + 1) none) (v, out))
  publishes slots id old v out e first is below here s kept len at bound =
      let H = kept.history in
      let whole : first_seen v ≡ H = journal_whole v H first (right_here s kept id v at) in
      let w = map (told (first_seen v ++ e ∷ [])) v in
      let same_w : map (told (H ++ e ∷ [])) v ≡ w = ap (λ (J : List Entry). map (told (J ++ e ∷ [])) v) (sym whole) in
      let long : length H ≡ old = ap length (sym whole) ∙ sym is in
      let more : old + 1 ≡ length (H ++ e ∷ []) = omega (arith, length-append H (e ∷ [])) in (
        w,
        keeps,
        tt,
        record {
          history = H ++ e ∷ [];
          word = word_up s.words (length H) old kept.word long ∙ ap (λ (n : ℕ). n ∷ []) more;
          right = subst (λ (u : List Record). All (All (IsRight A (H ++ e ∷ []))) (set s.views id u)) same_w (all_grown s kept id v at e here);
          one_each = λ x. let a = standing-set x s.views id v w at in let b = kept.one_each x in let c = times-told x (first_seen v ++ e ∷ []) v in omega arith;
          below = All-push (λ (x : Entry). x.session < m) H e kept.below below;
        },
        refl,
      )

  -- split
  splits : (id : ℕ) (v left right : List Record) → ((x : Holder) → times x left + times x right ≡ times x v) → ((P : Record → Type 0) → All P v → All P left × All P right)
      → Splits (HasRightRecords A m) id v left right
  splits id v left right counts parts s kept at =
      let both = parts (IsRight A kept.history) (right_here s kept id v at) in record {
        history = kept.history;
        word = kept.word;
        right = All-push (All (IsRight A kept.history)) (set s.views id left) right (All-set (All (IsRight A kept.history)) s.views id left both.0 kept.right) both.1;
        one_each = λ x. let a = standing-set x s.views id v left at in let b = standing-push x (set s.views id left) right in let c = counts x in let d = kept.one_each x in omega arith;
        below = kept.below;
      }

  pub cuts : (id : ℕ) (v : List Record) → Splits (HasRightRecords A m) id v (kept v) (cut v)
  cuts id v = splits id v (kept v) (cut v) (λ x. times-cut x v) (λ P all. (All-kept P v all, All-cut P v all))

  pub takes_out : (id : ℕ) (y : Holder) (v : List Record) → Splits (HasRightRecords A m) id v (without y v) (only y v)
  takes_out id y v = splits id v (without y v) (only y v) (λ x. times-out x y v) (λ P all. (All-without P y v all, All-only P y v all))

  pub parts : (id n : ℕ) (v : List Record) → Splits (HasRightRecords A m) id v (take n v) (drop n v)
  parts id n v = splits id v (take n v) (drop n v) (λ x. times-parted x n v) (λ P all. (All-take P n v all, All-drop P n v all))

  -- a new seat
  pub sits : (slots : ℕ) → Enters (HasRightRecords A m) slots 0 (λ n w. Sits (step slots 0 0 0 none) ([], []) n (w, []))
  sits slots s kept len bound = (
    [],
    record {
      history = kept.history;
      word = kept.word;
      right = All-push (All (IsRight A kept.history)) s.views [] kept.right (All-nil (IsRight A kept.history));
      one_each = λ x. let a = standing-push x s.views [] in let b = kept.one_each x in omega arith;
      below = kept.below;
    },
    refl,
  )

  -- join
  joins_as : (id : ℕ) (v : List Record) (other : ℕ) (w u : List Record) → ((x : Holder) → times x u ≡ times x v + times x w) → ((P : Record → Type 0) → All P v → All P w → All P u)
      → Joins (HasRightRecords A m) id v other w u []
  joins_as id v other w u counts both s kept at ne there =
      let P = All (IsRight A kept.history) in
      let before : get_elem? s.views other ≡ some w = sym (set_else s.views id other u ne) ∙ there in record {
        history = kept.history;
        word = kept.word;
        right = All-set P (set s.views id u) other [] (All-nil (IsRight A kept.history))
            (All-set P s.views id u (both (IsRight A kept.history) (right_here s kept id v at) (right_here s kept other w before)) kept.right);
        one_each = λ x.
            let a = standing-set x s.views id v u at in
            let b = standing-set x (set s.views id u) other w [] there in
            let c = counts x in
            let d = kept.one_each x in omega arith;
        below = kept.below;
      }

  pub joins : (id : ℕ) (v : List Record) (other : ℕ) (w : List Record) → Joins (HasRightRecords A m) id v other w (joined v w) []
  joins id v other w = joins_as id v other w (joined v w) (λ x. times-joined x v w) (λ P. All-joined P v w)

  pub appends : (id : ℕ) (v : List Record) (other : ℕ) (w : List Record) → Joins (HasRightRecords A m) id v other w (v ++ w) []
  appends id v other w = joins_as id v other w (v ++ w) (λ x. times-append x v w) (λ P. All-append P v w)

  -- the table at the start
  All-sites : (i n : ℕ) → All (IsRight A []) (sites_from i n)
  All-sites i zero = All-nil (IsRight A [])
  All-sites i (suc n) = All-cons (IsRight A []) _ (sites_from (i + 1) n) (covers_itself (concerns A (Site i)) []) (All-sites (i + 1) n)

  All-sessions : (k n : ℕ) → All (IsRight A []) (sessions_from k n)
  All-sessions k zero = All-nil (IsRight A [])
  All-sessions k (suc n) = All-cons (IsRight A []) _ (sessions_from (k + 1) n) (covers_itself (concerns A (Session k)) []) (All-sessions (k + 1) n)

  pub opens : HasRightRecords A m (opening (0 ∷ []) [] (everyone (length A) m))
  opens =
      let v = everyone (length A) m in record {
        history = [];
        word = refl;
        right = All-cons (All (IsRight A [])) v []
            (All-cons (IsRight A []) _ (sites_from 0 (length A) ++ sessions_from 0 m) (covers_itself (concerns A Journal) [])
            (All-append (IsRight A []) (sites_from 0 (length A)) (sessions_from 0 m) (All-sites 0 (length A)) (All-sessions 0 m)))
            (All-nil (All (IsRight A [])));
        one_each = λ x. let e = times-everyone A m x in omega arith;
        below = All-nil (λ (entry : Entry). entry.session < m);
      }
