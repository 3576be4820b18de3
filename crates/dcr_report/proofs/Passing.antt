-- Texts that are put into a writer, one after the other, and stops on the way.
use Rattle.std.proofs.Common.{◌≡◌, ℕ, ◌+◌, ◌-◌, ◌<◌, ◌≤◌, List, [], ◌∷◌, ◌++◌, Option, Some, None, Result, Ok, Err, OnOk, OnErr, IfErr, length, get_or, take, drop, refl, sym, ap, subst, ◌∙◌, append_assoc, arith}
use Rattle.std.specs.Prelude.{slice_range}
use Rattle.std.specs.Result.{IsErrAnd}
use Rattle.std.specs.List.{slice_get}
use Rattle.std.specs.Io.KnownBytes.{Appends}
use Rattle.std.proofs.lemmas.Grind.{flat_map-append}
use Rattle.std.proofs.lemmas.List.{append-nil, take_all, take_at, take-append-drop, drop-drop, drop-take, take-take, length-append, length-drop, drop_more}
use Rattle.std.proofs.lemmas.Option.{slice_get_within, get_or_from_slice_get}
use Rattle.dcr_base.specs.Count.{Fails}
use Rattle.dcr_base.specs.Side.{Adds, Side, Stopped}
use Rattle.dcr_report.specs.Report.{line, lines_text, text_between}
use Rattle.dcr_report.specs.Writing.{CountsStop, IsLeft, Puts}
use Rattle.dcr_report.specs.declared.report.ReportStop.{ReportStop}
use Rattle.dcr_report.specs.declared.report.ReportStop.TheVariants.{WriteFault, NoMemory}
use Rattle.dcr_report.specs.declared.writer.Writer.{Writer}

Appends-none : (a : Option (List ℕ)) → Appends a a []
Appends-none None = tt
Appends-none (Some xs) = sym (append-nil xs)

Appends-both : (a b c : Option (List ℕ)) (xs ys : List ℕ) → Appends a b xs → Appends b c ys → Appends a c (xs ++ ys)
Appends-both None b c xs ys first then = tt
Appends-both (Some s) None c xs ys first then = absurd first
Appends-both (Some s) (Some t) None xs ys first then = absurd then
Appends-both (Some s) (Some t) (Some u) xs ys first then = then ∙ ap (λ l. l ++ ys) first ∙ append_assoc s xs ys

-- ---- a writer

is_left_after : {T : Type 0} (r : Result T ReportStop) (left held : List ℕ) (a b c : ℕ) → b ≡ a → IsLeft r left held b c → IsLeft r left held a c
is_left_after (Ok done) left held a b c e (same, unfailed) = (same, unfailed ∙ e)
is_left_after (Err stop) left held a b c e (some, counts) = (some, subst (λ (n : ℕ). CountsStop stop n c) e counts)

-- a text, and then the next one
pub Puts-then : {T O : Type 0} {takes : O → Side} {done : Unit {0}} {r : Result T ReportStop} {x y : List ℕ} {a b c : Writer O} → Puts takes (Ok done) x a b → Puts takes r y b c → Puts takes r (x ++ y) a c
Puts-then {takes = takes} {r = r} {x = x} {y = y} {a = a} {b = b} {c = c} first then = record {
  same_sink = then.same_sink ∙ first.same_sink;
  moved = first.moved ++ then.moved;
  left = then.left;
  took = Appends-both (takes a.sink.now).bytes (takes b.sink.now).bytes (takes c.sink.now).bytes first.moved then.moved first.took then.took;
  joined = append_assoc first.moved then.moved then.left
      ∙ ap (λ l. first.moved ++ l) (then.joined ∙ ap (λ h. h ++ y) (sym first.is_left.0))
      ∙ sym (append_assoc first.moved first.left y) ∙ ap (λ l. l ++ y) first.joined ∙ append_assoc a.held.items x y;
  is_left = is_left_after r then.left c.held.items (takes a.sink.now).faults (takes b.sink.now).faults (takes c.sink.now).faults first.is_left.1 then.is_left;
}

-- a stop where more was to come
pub Puts-more : {T O : Type 0} {takes : O → Side} {stop : ReportStop} {x : List ℕ} {a b : Writer O} (rest : List ℕ) → Puts {T = T} takes (Err stop) x a b → Puts {T = T} takes (Err stop) (x ++ rest) a b
Puts-more {x = x} {a = a} rest it = record {
  same_sink = it.same_sink;
  moved = it.moved;
  left = it.left ++ rest;
  took = it.took;
  joined = sym (append_assoc it.moved it.left rest) ∙ ap (λ l. l ++ rest) it.joined ∙ append_assoc a.held.items x rest;
  is_left = (let some = it.is_left.0 in omega (arith, length-append it.left rest), it.is_left.1);
}

-- memory ran out for a text, with something held
pub Puts-memory : {T O : Type 0} (takes : O → Side) {text : List ℕ} (a b : Writer O) → b.sink ≡ a.sink → 0 < length text → Puts {T = T} takes (Err NoMemory) text a b
Puts-memory takes {text} a b same some = record {
  same_sink = ap (λ s. s.ghost_name) same;
  moved = [];
  left = a.held.items ++ text;
  took = subst (λ s. Appends (takes a.sink.now).bytes (takes s.now).bytes []) (sym same) (Appends-none (takes a.sink.now).bytes);
  joined = refl;
  is_left = (omega (arith, length-append a.held.items text), ap (λ s. (takes s.now).faults) same);
}

-- what is added to what is held is put
pub Puts-held : {O : Type 0} (takes : O → Side) {text : List ℕ} (a b : Writer O) → b.sink ≡ a.sink → b.held.items ≡ a.held.items ++ text → Puts takes (Ok (tt {0})) text a b
Puts-held takes a b same e = record {
  same_sink = ap (λ s. s.ghost_name) same;
  moved = [];
  left = b.held.items;
  took = subst (λ s. Appends (takes a.sink.now).bytes (takes s.now).bytes []) (sym same) (Appends-none (takes a.sink.now).bytes);
  joined = e;
  is_left = (refl, ap (λ s. (takes s.now).faults) same);
}

pub Puts-none : {O : Type 0} (takes : O → Side) {text : List ℕ} (a : Writer O) → text ≡ [] → Puts takes (Ok (tt {0})) text a a
Puts-none takes a none = Puts-held takes a a refl (sym (append-nil a.held.items) ∙ ap (λ t. a.held.items ++ t) (sym none))

-- what was held and a text were written
pub Puts-written : {O : Type 0} (takes : O → Side) {text : List ℕ} (a b : Writer O) (bytes : List ℕ) → b.sink.ghost_name ≡ a.sink.ghost_name → bytes ≡ a.held.items ++ text
    → Appends (takes a.sink.now).bytes (takes b.sink.now).bytes bytes → (takes b.sink.now).faults ≡ (takes a.sink.now).faults → b.held.items ≡ [] → Puts takes (Ok (tt {0})) text a b
Puts-written takes a b bytes same e all unfailed none = record {
  same_sink = same;
  moved = bytes;
  left = [];
  took = all;
  joined = append-nil bytes ∙ e;
  is_left = (sym none, unfailed);
}

-- or a write failed in them
pub Puts-fault : {T O : Type 0} (takes : O → Side) {text : List ℕ} (a b : Writer O) (bytes : List ℕ) (n : ℕ) → b.sink.ghost_name ≡ a.sink.ghost_name → bytes ≡ a.held.items ++ text
    → Appends (takes a.sink.now).bytes (takes b.sink.now).bytes (take n bytes) → n < length bytes → Fails (takes a.sink.now).faults (takes b.sink.now).faults → Puts {T = T} takes (Err WriteFault) text a b
Puts-fault takes a b bytes n same e front less fails = record {
  same_sink = same;
  moved = take n bytes;
  left = drop n bytes;
  took = front;
  joined = take-append-drop n bytes ∙ e;
  is_left = (omega (arith, length-drop n bytes, less), fails);
}

-- what an exit returns
pub Puts-err : {T O : Type 0} {takes : O → Side} {text : List ℕ} {a b : Writer O} {stop : ReportStop} (r : Result T ReportStop) → IsErrAnd r (λ y. y ≡ stop) → Puts {T = T} takes (Err stop) text a b → Puts takes r text a b
Puts-err (Ok x) h stopped = absurd h
Puts-err {T} {takes = takes} {text = text} {a = a} {b = b} (Err y) h stopped = subst (λ (s : ReportStop). Puts {T = T} takes (Err s) text a b) (sym h) stopped

-- the same text by another name
pub Puts-as : {T O : Type 0} {takes : O → Side} {r : Result T ReportStop} {x y : List ℕ} {a b : Writer O} → x ≡ y → Puts takes r x a b → Puts takes r y a b
Puts-as {takes = takes} {r = r} {a = a} {b = b} e puts = subst (λ l. Puts takes r l a b) e puts

-- ---- lines

-- two runs of lines, one behind the other
pub between_both : (L : List (List ℕ)) (a b c : ℕ) → a ≤ b → b ≤ c → text_between L a b ++ text_between L b c ≡ text_between L a c
between_both L a b c h k =
    let D = drop a L in
    let n : ℕ = b - a in
    let m : ℕ = c - b in
    let there : a + n ≡ b = omega arith in
    let all : n + m ≡ c - a = omega arith in
    sym (flat_map-append line (slice_range L a b) (slice_range L b c))
    ∙ ap lines_text
    (ap (λ l. l ++ take m (drop b L)) (sym (take-take n (n + m) D (omega arith)))
    ∙ ap (λ l. take n (take (n + m) D) ++ l) (ap (take m) (sym (drop-drop n a L ∙ ap (λ i. drop i L) there)) ∙ sym (drop-take n m D))
    ∙ take-append-drop n (take (n + m) D)
    ∙ ap (λ i. take i D) all)

pub between_none : (L : List (List ℕ)) (a b : ℕ) → b ≤ a → text_between L a b ≡ []
between_none L a b h = let none : b - a ≡ 0 = omega arith in ap (λ n. lines_text (take n (drop a L))) none

pub between_one : (L : List (List ℕ)) (a : ℕ) → a < length L → text_between L a (a + 1) ≡ line (get_or L a []) ++ []
between_one L a h =
    let one : a + 1 - a ≡ 1 = omega arith in
    ap (λ n. lines_text (take n (drop a L))) one ∙ ap (λ l. lines_text (take 1 l)) (drop_more L a [] h)

pub between_all : (L : List (List ℕ)) → text_between L 0 (length L) ≡ lines_text L
between_all L = ap lines_text (take_all (length L - 0) L (omega arith))

-- the lines so far, and the next one
pub between_next : (L : List (List ℕ)) (a : ℕ) → a < length L → text_between L 0 a ++ (line (get_or L a []) ++ []) ≡ text_between L 0 (a + 1)
between_next L a h = ap (λ t. text_between L 0 a ++ t) (sym (between_one L a h)) ∙ between_both L 0 a (a + 1) (omega arith) (omega arith)

-- where there is a line there are some bytes
pub between_some : (L : List (List ℕ)) (a b : ℕ) → a < b → b ≤ length L → 0 < length (text_between L a b)
between_some L a b h k =
    let first = between_one L a (omega arith) in
    let e : length (text_between L a b) ≡ length ((line (get_or L a []) ++ []) ++ text_between L (a + 1) b) =
    ap length (sym (between_both L a (a + 1) b (omega arith) (omega arith)) ∙ ap (λ t. t ++ text_between L (a + 1) b) first) in
    omega (arith, e, length-append (line (get_or L a []) ++ []) (text_between L (a + 1) b), length-append (line (get_or L a [])) [], length-append (get_or L a []) (10 ∷ []))

-- ---- all of a text, where nothing was held

-- what the sink has taken at the end: all of it; or a front and not all, with a fault counted exactly where a write failed
pub told : {T O : Type 0} (takes : O → Side) (text : List ℕ) (a b : Writer O) (old new : O) (r : Result T ReportStop)
    → a.sink.now ≡ old → new ≡ b.sink.now → a.held.items ≡ [] → OnOk r (b.held.items ≡ []) → Puts takes r text a b
    → OnOk r (Adds text (takes old) (takes new)) × OnErr r (Stopped text (takes old) (takes new)) × IfErr r (λ stop. CountsStop stop (takes old).faults (takes new).faults)
told takes text a b old new (Ok done) was is none emptied it =
    let e : it.moved ≡ text = sym (append-nil it.moved) ∙ ap (λ l. it.moved ++ l) (sym (it.is_left.0 ∙ emptied)) ∙ it.joined ∙ ap (λ l. l ++ text) none in
    let all : Adds text (takes a.sink.now) (takes b.sink.now) = (subst (λ l. Appends (takes a.sink.now).bytes (takes b.sink.now).bytes l) e it.took, it.is_left.1) in
    (subst (λ o. Adds text (takes o) (takes new)) was (subst (λ o. Adds text (takes a.sink.now) (takes o)) (sym is) all), tt, tt)
told takes text a b old new (Err stop) was is none emptied it =
    let joined : it.moved ++ it.left ≡ text = it.joined ∙ ap (λ l. l ++ text) none in
    let some = it.is_left.0 in
    let part : Stopped text (takes a.sink.now) (takes b.sink.now) = record {
      count = length it.moved;
      fewer = omega (arith, ap length joined, length-append it.moved it.left);
      wrote = subst (λ l. Appends (takes a.sink.now).bytes (takes b.sink.now).bytes l) (sym (take_at it.moved it.left (length it.moved) refl) ∙ ap (take (length it.moved)) joined) it.took;
    } in (
      tt,
      subst (λ o. Stopped text (takes o) (takes new)) was (subst (λ o. Stopped text (takes a.sink.now) (takes o)) (sym is) part),
      subst (λ o. CountsStop stop (takes o).faults (takes new).faults) was (subst (λ o. CountsStop stop (takes a.sink.now).faults (takes o).faults) (sym is) it.is_left.1),
    )

-- ---- items of lists

-- the item at a place, as an answer of `get`, in front of those behind it
pub drop_at_get : {X : Type 0} (xs : List X) (i : ℕ) (x : X) → slice_get xs i ≡ Some x → drop i xs ≡ x ∷ drop (i + 1) xs
drop_at_get xs i x e = drop_more xs i x (slice_get_within xs i x e) ∙ ap (λ y. y ∷ drop (i + 1) xs) (get_or_from_slice_get xs i x x e)
