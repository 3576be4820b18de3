-- The calls of a session that was served are those that its link asked for.
use Rattle.std.proofs.Common.{◌≡◌, ℕ, ◌+◌, ◌≤◌, min, Bool, true, false, cond, eqb, List, [], ◌∷◌, ◌++◌, length, map, take, drop, Option, Some, refl, sym, ap, subst, ◌∙◌, arith}
use Rattle.std.specs.Prelude.{filter, filter_map, slice_get}
use Rattle.std.specs.List.{enumerate_from, prefix_len}
use Rattle.std.proofs.lemmas.List.{append_assoc, length-map, length-take, map-append, take-append-drop, take-append-le, take_all}
use Rattle.std.proofs.lemmas.List.Elements.{filter_map-append}
use Rattle.dcr_base.specs.Link.{Links}
use Rattle.dcr_journal.specs.Run.{calls_of}
use Rattle.dcr_journal.specs.declared.call.Call.{Call}
use Rattle.dcr_journal.specs.declared.call.Entry.{Entry}
use Rattle.dcr_tape.specs.declared.tape.Store.{Store}
use Rattle.dcr_link.specs.Replies.{Placed, Terms, asked_by, asked_in, call_asked, call_of, calls_in, is_short, lines_met, most_lines, placed_of, whole_lines}
use Rattle.dcr_link.specs.Serving.{EndsBy, Served, calls_met}
use Rattle.dcr_link.specs.declared.end.WorkCause.{WorkCause}
use Rattle.dcr_link.specs.declared.end.WorkCause.TheVariants.{Ended}
use Rattle.dcr_link.specs.declared.end.WorkEnd.{WorkEnd}
use Rattle.dcr_serve.specs.Left.{HasNumber}
use Rattle.dcr_serving.specs.History.{pass_in}
use Rattle.dcr_serving.specs.Serving.{IsServedOf, new_pass}
use Rattle.dcr_serving.specs.declared.end.LinkEnd.{LinkEnd}
use Rattle.dcr_engine.specs.Served.{HasAsked, calls_asked}

-- the first elements of those at the front that pass begin the list
front_of : {X : Type 0} (n k : ℕ) (xs : List X) → (rest : List X) × (take n (take k xs) ++ rest ≡ xs)
front_of n k xs = (
  drop n (take k xs) ++ drop k xs,
  sym (append_assoc (take n (take k xs)) (drop n (take k xs)) (drop k xs))
      ∙ ap (λ (l : List _). l ++ drop k xs) (take-append-drop n (take k xs)) ∙ take-append-drop k xs,
)

-- what is made of a beginning begins what is made of the whole
fronts : {X Y : Type 0} (h : X → Option Y) (m : ℕ) (xs ys rest : List X) → ys ++ rest ≡ xs → m ≤ length (filter_map h ys) → take m (filter_map h ys) ≡ take m (filter_map h xs)
fronts h m xs ys rest is within =
    sym (take-append-le m (filter_map h ys) (filter_map h rest) within) ∙ ap (take m) (sym (filter_map-append h ys rest) ∙ ap (filter_map h) is)

-- a beginning of what lines ask for begins what all of them ask for
asked_first : (terms : Terms) (k : ℕ) (asked : List ℕ) (m : ℕ) → m ≤ length (calls_in (asked_in terms k (lines_met asked)))
    → take m (calls_in (asked_in terms k (lines_met asked))) ≡ take m (calls_asked terms k asked)
asked_first terms k asked m within =
    let met = lines_met asked in let all = whole_lines asked in
    let cut = front_of most_lines (prefix_len is_short all) all in
    let same : asked_in terms k met ++ asked_in terms k cut.0 ≡ asked_in terms k all = sym (map-append (asked_by terms k) met cut.0) ∙ ap (asked_in terms k) cut.1 in
    fronts call_asked m (asked_in terms k all) (asked_in terms k met) (asked_in terms k cut.0) same within

-- the calls of a session, with their places or without
by_session : (b : Bool) (session n : ℕ) (entry : Entry) (J : List Entry) → map call_of (filter (λ (placed : Placed). eqb placed.1.session session) (enumerate_from (n + 1) J)) ≡ calls_of session J
    → map call_of (cond b ((n, entry) ∷ filter (λ (placed : Placed). eqb placed.1.session session) (enumerate_from (n + 1) J)) (filter (λ (placed : Placed). eqb placed.1.session session) (enumerate_from (n + 1) J)))
    ≡ map (λ (e : Entry). e.call) (cond b (entry ∷ filter (λ (e : Entry). eqb e.session session) J) (filter (λ (e : Entry). eqb e.session session) J))
by_session true session n entry J is = ap (λ (l : List Call). entry.call ∷ l) is
by_session false session n entry J is = is

calls_placed : (session n : ℕ) (J : List Entry) → map call_of (filter (λ (placed : Placed). eqb placed.1.session session) (enumerate_from n J)) ≡ calls_of session J
calls_placed session n [] = refl
calls_placed session n (entry ∷ J) = by_session (eqb entry.session session) session n entry J (calls_placed session (n + 1) J)

-- the first elements of a list are no more than it has
within_all : {X : Type 0} (m : ℕ) (xs ys : List X) → length ys ≡ m → ys ≡ take m xs → m ≤ length xs
within_all m xs ys many is = let short : length ys ≡ min m (length xs) = ap length is ∙ length-take m xs in omega (arith, many, short)

whole_taken : {X : Type 0} (xs : List X) → take (length xs) xs ≡ xs
whole_taken xs = take_all (length xs) xs (omega arith)

one_of : {X : Type 0} (x y : X) → Some x ≡ Some y → x ≡ y
one_of x y is = cc

module _ {D L R : Type 0} (tells : Links L R) (first : Option (Store D)) (capacity : ℕ) (terms : Terms) (J : List Entry) (k : ℕ) where
  abbrev pub mine : List Placed
  mine = placed_of k J

  -- what a session over a link that told these bytes has called
  asked_by_served : (asked written : List ℕ) (failed : Type 0) (end : WorkEnd) → Served first capacity terms asked (new_pass k) (pass_in J k) written failed end
      → (calls_of k J ≡ take end.calls (calls_asked terms k asked)) × (end.cause ≡ Ended → calls_of k J ≡ calls_asked terms k asked)
  asked_by_served asked written failed end it =
      let met : List Call = calls_met first capacity terms asked (new_pass k) (pass_in J k) written in
      let placed : map call_of mine ≡ calls_of k J = calls_placed k 0 J in
      let many : length (map call_of mine) ≡ end.calls = length-map mine call_of ∙ sym it.calls in
      let begins : calls_of k J ≡ take end.calls met = sym placed ∙ it.in_order in
      let within : end.calls ≤ length met = within_all end.calls met (map call_of mine) many it.in_order in (
        begins ∙ asked_first terms k asked end.calls within,
        λ ended.
            let ends : EndsBy first capacity terms asked (new_pass k) (pass_in J k) written failed Ended =
            subst (λ (cause : WorkCause). EndsBy first capacity terms asked (new_pass k) (pass_in J k) written failed cause) ended it.ends in
            let all : end.calls ≡ length met = it.calls ∙ ends.1 in
            begins ∙ ap (λ (n : ℕ). take n met) all ∙ whole_taken met ∙ ap (λ (lines : List (List ℕ)). calls_in (asked_in terms k lines)) ends.0,
      )

  pub asked_of : (links : Option (List L)) (end : LinkEnd L R) → IsServedOf tells first capacity terms links (pass_in J k) end → HasAsked tells terms links k (calls_of k J) end
  asked_of links end it = λ all link asked told there left.
      let number : slice_get all k ≡ Some it.link = subst (λ (l : Option (List L)). HasNumber l k it.link) told it.number in
      let same : it.link ≡ link = one_of it.link link (sym number ∙ there) in
      let wrote = it.served.serves asked (ap (λ l. (tells.gives l).bytes) same ∙ left) in
      asked_by_served asked wrote.0 _ end.end wrote.2
