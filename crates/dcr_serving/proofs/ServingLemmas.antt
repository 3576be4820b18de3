-- One session more that was served, and one that was not.
use Rattle.std.proofs.Common.{◌≡◌, ◌≢◌, ℕ, ◌+◌, ◌-◌, ◌<◌, ◌≤◌, List, [], ◌∷◌, ◌++◌, length, map, drop, reverse, refl, sym, ap, subst, ◌∙◌, append_assoc, arith, ◌⊎◌, inl, inr}
use Rattle.std.specs.Prelude.{Bool, IsTrue, Option, Some, None, Ok, true, false}
use Rattle.std.proofs.lemmas.Bool.{false≢true}
use Rattle.std.specs.List.{All, range_with_len}
use Rattle.std.proofs.lemmas.List.{append-nil, drop-append-le, drop_all, length-append, length-map, map-append, map-id, reverse-append}
use Rattle.std.proofs.lemmas.List.Elements.{All-map, All-nil, All-push}
use Rattle.std.proofs.lemmas.List.FromFn.{length-map-range_with_len, map-range_with_len_more}
use Rattle.dcr_base.specs.Door.{Doors, GivesNext}
use Rattle.dcr_base.specs.Link.{Links}
use Rattle.dcr_base.specs.Side.{Side}
use Rattle.dcr_tape.specs.declared.tape.Store.{Store}
use Rattle.dcr_turn.specs.PassValue.{PassValue, new_passes}
use Rattle.dcr_link.specs.Replies.{Terms}
use Rattle.dcr_serve.specs.Left.{numbers_from, AreAllButFirst, HasNumber}
use Rattle.dcr_serve.specs.declared.stand.DoorStand.{DoorStand}
use Rattle.dcr_serve.specs.declared.stand.DoorStand.TheVariants.{Open, Shut, Failed}
use Rattle.dcr_serve.specs.Stand.{StandsSo}
use Rattle.dcr_serve.proofs.Giving.{first_is_next, gives_its_number}
use Rattle.dcr_link.specs.Serving.{Serves}
use Rattle.dcr_link.specs.declared.end.WorkEnd.{WorkEnd}
use Rattle.dcr_serving.specs.Serving.{AreServed, CountsDoor, DoorEnds, IsServed, IsServedOf, Stands, new_pass}
use Rattle.dcr_serving.specs.declared.end.LinkEnd.{LinkEnd}
use Rattle.dcr_serving.specs.declared.record.Record.{Record}
use Rattle.std.proofs.lemmas.Simd.{map-map}

new_more : (k : ℕ) → new_passes (k + 1) ≡ new_passes k ++ new_pass k ∷ []
new_more k = map-range_with_len_more new_pass 0 k k (omega arith)

-- each has done nothing
pub new_each : (k : ℕ) → All (λ (pass : PassValue). pass ≡ new_pass pass.session) (new_passes k)
new_each k = All-map (λ (pass : PassValue). pass ≡ new_pass pass.session) new_pass (range_with_len 0 k) (λ i d within. refl)

pub length-new : (k : ℕ) → length (new_passes k) ≡ k
length-new k = length-map-range_with_len new_pass 0 k

rest_more : (r k : ℕ) → r ≤ k → drop r (new_passes (k + 1)) ≡ drop r (new_passes k) ++ new_pass k ∷ []
rest_more r k within = ap (drop r) (new_more k) ∙ drop-append-le r (new_passes k) (new_pass k ∷ []) (omega (arith, within, length-new k))

rest_none : (k : ℕ) → drop k (new_passes k) ≡ []
rest_none k = drop_all k (new_passes k) (omega (arith, length-new k))

pub numbers_new : (k : ℕ) → map (λ (pass : PassValue). pass.session) (new_passes k) ≡ numbers_from 0 k
numbers_new k = map-map (λ (pass : PassValue). pass.session) new_pass (range_with_len 0 k) ∙ map-id (range_with_len 0 k) ∙ ap (range_with_len 0) (let same : k ≡ k - 0 = omega arith in same)

-- the numbers below n, and n itself
numbers_more : (n : ℕ) → numbers_from 0 (n + 1) ≡ numbers_from 0 n ++ n ∷ []
numbers_more n =
    let longer : n + 1 - 0 ≡ n + 1 = omega arith in
    let same : n - 0 ≡ n = omega arith in
    ap (range_with_len 0) longer ∙ sym (map-id (range_with_len 0 (n + 1))) ∙ map-range_with_len_more (λ (k : ℕ). k) 0 n n (omega arith)
    ∙ ap (λ (l : List ℕ). l ++ n ∷ []) (map-id (range_with_len 0 n)) ∙ ap (λ (k : ℕ). range_with_len 0 k ++ n ∷ []) (sym same)

module _ {D L R : Type 0} (tells : Links L R) (first : Option (Store D)) (capacity : ℕ) (terms : Terms) (links : Option (List L)) where
  abbrev pub Pair : Type 0
  Pair = PassValue × LinkEnd L R

  abbrev pub pass_of : Pair → PassValue
  pass_of one = one.0

  abbrev pub end_of : Pair → LinkEnd L R
  end_of one = one.1

  abbrev pub Each : Pair → Type 0
  Each one = IsServedOf tells first capacity terms links one.0 one.1

  -- all of so many were served
  pub served_all : (served : List Pair) (n : ℕ) → length served ≡ n → map (λ (one : Pair). one.0.session) served ≡ numbers_from 0 n → All Each served
      → AreServed tells first capacity terms links n (map pass_of served) (map end_of served)
  served_all served n many in_order each = record {
    served = served;
    within = omega (arith, many);
    in_order = in_order ∙ ap (numbers_from 0) (sym many);
    each = each;
    passes = sym (append-nil (map pass_of served)) ∙ ap (λ (l : List PassValue). map pass_of served ++ l) (sym (ap (λ (m : ℕ). drop m (new_passes n)) many ∙ rest_none n));
    ends = refl;
  }

  -- the next one was served too
  pub served_more : (n : ℕ) (passes : List PassValue) (ends : List (LinkEnd L R)) (pass : PassValue) (end : LinkEnd L R) → AreServed tells first capacity terms links n passes ends
      → length ends ≡ n → pass.session ≡ n → IsServedOf tells first capacity terms links pass end
      → AreServed tells first capacity terms links (n + 1) (passes ++ pass ∷ []) (ends ++ end ∷ [])
  served_more n passes ends pass end before all its served =
      let one : Pair = (pass, end) in
      let many : length before.served ≡ n = sym (length-map before.served end_of) ∙ ap (λ (l : List (LinkEnd L R)). length l) (sym before.ends) ∙ all in
      let longer : length (before.served ++ one ∷ []) ≡ n + 1 = length-append before.served (one ∷ []) ∙ omega (arith, many) in
      let passes_are : passes ≡ map pass_of before.served =
      before.passes ∙ ap (λ (m : ℕ). map pass_of before.served ++ drop m (new_passes n)) many ∙ ap (λ (l : List PassValue). map pass_of before.served ++ l) (rest_none n) ∙ append-nil (map pass_of before.served) in
      let after = served_all (before.served ++ one ∷ []) (n + 1) longer
      (map-append (λ (r : Pair). r.0.session) before.served (one ∷ [])
      ∙ ap (λ (l : List ℕ). l ++ pass.session ∷ []) (before.in_order ∙ ap (numbers_from 0) many)
      ∙ ap (λ (k : ℕ). numbers_from 0 n ++ k ∷ []) its
      ∙ sym (numbers_more n))
      (All-push Each before.served one before.each served) in
      subst (λ (l : List (LinkEnd L R)). AreServed tells first capacity terms links (n + 1) (passes ++ pass ∷ []) l)
      (map-append end_of before.served (one ∷ []) ∙ ap (λ (l : List (LinkEnd L R)). l ++ end ∷ []) (sym before.ends))
      (subst (λ (l : List PassValue). AreServed tells first capacity terms links (n + 1) l (map end_of (before.served ++ one ∷ [])))
      (map-append pass_of before.served (one ∷ []) ∙ ap (λ (l : List PassValue). l ++ pass ∷ []) (sym passes_are)) after)

  -- the next one was not served
  pub served_idle : (n : ℕ) (passes : List PassValue) (ends : List (LinkEnd L R)) (pass : PassValue) → AreServed tells first capacity terms links n passes ends
      → pass ≡ new_pass n → AreServed tells first capacity terms links (n + 1) (passes ++ pass ∷ []) ends
  served_idle n passes ends pass before is = record {
    served = before.served;
    within = (let within = before.within in omega (arith, within));
    in_order = before.in_order;
    each = before.each;
    passes =
        ap (λ (l : List PassValue). l ++ pass ∷ []) before.passes
        ∙ append_assoc (map pass_of before.served) (drop (length before.served) (new_passes n)) (pass ∷ [])
        ∙ ap (λ (p : PassValue). map pass_of before.served ++ (drop (length before.served) (new_passes n) ++ p ∷ [])) is
        ∙ ap (λ (l : List PassValue). map pass_of before.served ++ l) (sym (rest_more (length before.served) n before.within));
    ends = before.ends;
  }

-- where none was served
pub served_none : {D L R : Type 0} (tells : Links L R) (first : Option (Store D)) (capacity : ℕ) (terms : Terms) (links : Option (List L)) (n : ℕ) (passes : List PassValue) (ends : List (LinkEnd L R))
    → passes ≡ new_passes n → ends ≡ [] → AreServed tells first capacity terms links n passes ends
served_none tells first capacity terms links n passes ends new none = record {
  served = [];
  within = omega arith;
  in_order = refl;
  each = All-nil (λ one. IsServedOf tells first capacity terms links one.0 one.1);
  passes = new;
  ends = none;
}

-- ---- the door

none_given : {L : Type 0} (links : Option (List L)) → AreAllButFirst links 0 links
none_given None = refl
none_given (Some links) = (omega arith, refl)

-- for want of memory the door was not asked
pub door_unasked : {B L R : Type 0} (doors : Doors B L R) (door : B) (sessions : ℕ) (ends : List (LinkEnd L R)) → ends ≡ []
    → DoorEnds doors door door sessions ends false true
door_unasked doors door sessions ends none = record {
  left = subst (λ (n : ℕ). AreAllButFirst (doors.links door) n (doors.links door)) (sym (ap (λ (l : List (LinkEnd _ _)). length l) none)) (none_given (doors.links door));
  all = λ not_failed had. absurd (false≢true (sym had));
  counts = refl;
  wanted = λ wanted. inl (none, refl);
  had = λ had. absurd (false≢true (sym had));
}

pub stands_so : {A B L R : Type 0} (doors : Doors B L R) (first : ℕ) (stand : DoorStand) (door : B) → StandsSo doors first stand door → stand ≢ Failed → (stand ≡ Open → A) → A ⊎ doors.is_shut door
stands_so doors first Open door stands fine given = inl (given refl)
stands_so doors first Shut door stands fine given = inr stands.0
stands_so doors first Failed door stands fine given = absurd (fine refl)

-- what is told of it
pub counts_so : {B L R : Type 0} (doors : Doors B L R) (first : ℕ) (stand : DoorStand) (door : B) (told : Bool) → StandsSo doors first stand door → (IsTrue told → stand ≡ Failed)
    → (told ≡ false → stand ≢ Failed) → CountsDoor told first (doors.faults door)
counts_so doors first Open door true stands failed fine = let is : Open ≡ Failed = failed refl in absurd (cc)
counts_so doors first Shut door true stands failed fine = let is : Shut ≡ Failed = failed refl in absurd (cc)
counts_so doors first Failed door true stands failed fine = stands
counts_so doors first Open door false stands failed fine = stands
counts_so doors first Shut door false stands failed fine = stands.1
counts_so doors first Failed door false stands failed fine = absurd (fine refl refl)

-- it gave a link
pub stands_given : {B L R : Type 0} (doors : Doors B L R) (links : Option (List L)) (first given : ℕ) (before after : B) (link : L)
    → Stands doors links first given Open before → GivesNext (doors.links before) (doors.links after) (Ok (Some link)) → doors.faults after ≡ doors.faults before
    → Stands doors links first (given + 1) Open after × HasNumber links given link
stands_given doors links first given before after link stood gives same =
    let step = gives_its_number links (doors.links before) (doors.links after) link given stood.left gives in
    (record { left = step.0; stands = same ∙ stood.stands }, step.1)

-- ---- on the way through the sessions

module _ {D B L R : Type 0} (tells : Links L R) (first : Option (Store D)) (capacity : ℕ) (terms : Terms) (doors : Doors B L R)
    (links : Option (List L)) (count : ℕ) where
  -- so many have had their turn, and while the door is open each had a link
  pub record Way (passes : List PassValue) (ends : List (LinkEnd L R)) (stand : DoorStand) (door : B) : Type 0 where
    pub served : AreServed tells first capacity terms links (length passes) passes ends
    pub stands : Stands doors links count (length ends) stand door
    pub still_open : stand ≡ Open → length ends ≡ length passes

  -- the next one had a link
  pub way_served : (passes passes_after : List PassValue) (ends ends_after : List (LinkEnd L R)) (stand stand_after : DoorStand) (before after : B) (link : L) (pass : PassValue) (end : LinkEnd L R)
      → Way passes ends stand before → stand ≡ Open → Stands doors links count (length ends + 1) stand_after after × HasNumber links (length ends) link
      → pass.session ≡ length passes → end.session ≡ pass.session → IsServed tells first capacity terms link pass end.end end.rest
      → passes_after ≡ passes ++ pass ∷ [] → ends_after ≡ ends ++ end ∷ [] → Way passes_after ends_after stand_after after
  way_served passes passes_after ends ends_after stand stand_after before after link pass end way is given number session served passes_are ends_are =
      let all : length ends ≡ length passes = way.still_open is in
      let longer : length passes_after ≡ length passes + 1 = ap (λ (l : List PassValue). length l) passes_are ∙ length-append passes (pass ∷ []) in
      let more : length ends_after ≡ length ends + 1 = ap (λ (l : List (LinkEnd L R)). length l) ends_are ∙ length-append ends (end ∷ []) in
      let over : IsServedOf tells first capacity terms links pass end = record {
        link = link;
        number = subst (λ (n : ℕ). HasNumber links n link) (all ∙ sym number) given.1;
        session = session;
        served = served;
      } in
      let step = served_more tells first capacity terms links (length passes) passes ends pass end way.served all number over in
      record {
        served =
            subst (λ (n : ℕ). AreServed tells first capacity terms links n passes_after ends_after) (sym longer)
            (subst (λ (l : List PassValue). AreServed tells first capacity terms links (length passes + 1) l ends_after) (sym passes_are)
            (subst (λ (l : List (LinkEnd L R)). AreServed tells first capacity terms links (length passes + 1) (passes ++ pass ∷ []) l) (sym ends_are) step));
        stands = subst (λ (n : ℕ). Stands doors links count n stand_after after) (sym more) given.0;
        still_open = λ still. omega (arith, longer, more, all);
      }

  -- the next one had none
  pub way_idle : (passes passes_after : List PassValue) (ends : List (LinkEnd L R)) (stand stand_after : DoorStand) (before after : B) (pass : PassValue)
      → Way passes ends stand before → Stands doors links count (length ends) stand_after after → stand_after ≢ Open
      → pass ≡ new_pass (length passes) → passes_after ≡ passes ++ pass ∷ [] → Way passes_after ends stand_after after
  way_idle passes passes_after ends stand stand_after before after pass way given not_open new passes_are =
      let longer : length passes_after ≡ length passes + 1 = ap (λ (l : List PassValue). length l) passes_are ∙ length-append passes (pass ∷ []) in
      let step = served_idle tells first capacity terms links (length passes) passes ends pass way.served new in
      record {
        served =
            subst (λ (n : ℕ). AreServed tells first capacity terms links n passes_after ends) (sym longer)
            (subst (λ (l : List PassValue). AreServed tells first capacity terms links (length passes + 1) l ends) (sym passes_are) step);
        stands = given;
        still_open = λ still. absurd (not_open still);
      }

-- the seats that are left, the first one last
pub next_seat : (left rest : List PassValue) (seat : PassValue) (n total : ℕ) → map (λ (s : PassValue). s.session) (reverse left) ≡ numbers_from n total → left ≡ rest ++ seat ∷ []
    → (seat.session ≡ n) × (n < total) × (map (λ (s : PassValue). s.session) (reverse rest) ≡ numbers_from (n + 1) total)
next_seat left rest seat n total numbers is =
    first_is_next (λ (s : PassValue). s.session) (reverse left) (reverse rest) seat n total numbers (ap (λ (l : List PassValue). reverse l) is ∙ reverse-append rest (seat ∷ []))

-- ---- one session

pub calls_from_none : (before after calls : ℕ) → before ≡ 0 → after ≡ before + calls → calls ≡ after
calls_from_none before after calls none made = omega (arith, none, made)

-- from the first call on of a link, as what stays of it tells
pub serves_from_new : {D : Type 0} (first : Option (Store D)) (capacity : ℕ) (terms : Terms) (session : ℕ) (before pass : PassValue) (left rest had took unread sent : Side) (end : WorkEnd)
    → before ≡ new_pass session → pass.session ≡ before.session → unread ≡ rest → sent ≡ took → Serves first capacity terms before pass left rest had took end
    → Serves first capacity terms (new_pass pass.session) pass left unread had sent end
serves_from_new first capacity terms session before pass left rest had took unread sent end new same unread_is sent_is serves =
    let its : session ≡ pass.session = sym (ap (λ (p : PassValue). p.session) new) ∙ sym same in
    subst (λ (s : Side). Serves first capacity terms (new_pass pass.session) pass left unread had s end) (sym sent_is)
    (subst (λ (u : Side). Serves first capacity terms (new_pass pass.session) pass left u had took end) (sym unread_is)
    (subst (λ (b : PassValue). Serves first capacity terms b pass left rest had took end) (new ∙ ap new_pass its) serves))

-- ---- what the workers have served

module _ {D L N R : Type 0} (tells : Links L R) (first : Option (Store D)) (capacity : ℕ) (terms : Terms) (links : Option (List L)) where
  pub served_first : (records : List (Record L N R)) → map (λ (one : Record L N R). one.pass.session) records ≡ numbers_from 0 (length records)
      → All (λ (one : Record L N R). IsServedOf tells first capacity terms links one.pass one.end) records
      → AreServed tells first capacity terms links (length records) (map (λ (one : Record L N R). one.pass) records) (map (λ (one : Record L N R). one.end) records)
  served_first records in_order each =
      let pair : Record L N R → PassValue × LinkEnd L R = (λ one. (one.pass, one.end)) in
      let all = served_all tells first capacity terms links (map pair records) (length records) (length-map records pair)
      (map-map (λ (one : PassValue × LinkEnd L R). one.0.session) pair records ∙ in_order)
      (All-map (λ (one : PassValue × LinkEnd L R). IsServedOf tells first capacity terms links one.0 one.1) pair records each) in
      subst (λ (l : List (LinkEnd L R)). AreServed tells first capacity terms links (length records) (map (λ (one : Record L N R). one.pass) records) l) (map-map (λ (one : PassValue × LinkEnd L R). one.1) pair records)
      (subst (λ (l : List PassValue). AreServed tells first capacity terms links (length records) l (map (λ (one : PassValue × LinkEnd L R). one.1) (map pair records))) (map-map (λ (one : PassValue × LinkEnd L R). one.0) pair records) all)
