-- The lines of a session, one after the other, and its end.
use Rattle.std.proofs.Common.{◌≡◌, ◌≢◌, ◌⊎◌, ℕ, zero, suc, ◌+◌, ◌-◌, ◌<◌, ◌≤◌, true, false, eqb, List, [], ◌∷◌, ◌++◌, length, map, take, drop, codes, Some, Ok, Err, refl, sym, ap, subst, ◌∙◌, append_assoc, length-append, arith, inl, inr}
use Rattle.std.specs.Prelude.{Option}
use Rattle.std.specs.List.{take_while}
use Rattle.std.proofs.lemmas.List.{append-nil, drop-append-le, length-map, nil_from_length, map-append, take-append-drop, take-append-le, take_all}
use Rattle.std.proofs.lemmas.Bool.{true≢false}
use Rattle.std.proofs.lemmas.List.Elements.{All-append, All-nil, All-push}
use Rattle.dcr_text.specs.declared.cutter.Cut.TheVariants.{More, Line, TooLong}
use Rattle.dcr_text.specs.Cutting.{Cutter, CutsLine, HasNoEnd, TakesAll, begun}
use Rattle.dcr_journal.specs.declared.call.Call.{Call}
use Rattle.dcr_journal.specs.declared.call.Entry.{Entry}
use Rattle.dcr_journal.specs.declared.call.Outcome.{Outcome}
use Rattle.dcr_tape.specs.declared.tape.Store.{Store}
use Rattle.dcr_turn.specs.PassValue.{PassValue}
use Rattle.dcr_turn.specs.Pushing.{entry_of}
use Rattle.dcr_cell.specs.ClusterId.{ClusterId}
use Rattle.dcr_cluster.specs.Calls.{AnsweredAfter, HaltedAfter}
use Rattle.dcr_cluster.specs.declared.halt.Halt.{Halt}
use Rattle.dcr_link.specs.declared.end.WorkCause.{WorkCause}
use Rattle.dcr_link.specs.declared.end.WorkCause.TheVariants.{Ended, LinkFault, LongLine, ManyLines, Halted, NoMemory}
use Rattle.dcr_link.specs.Replies.{Asked, Placed, Terms, answers, asked_by, asked_in, call_of, calls_in, ended, halt_text, is_short, last_words, lines_met, lines_text, made_since, most_bytes, most_lines, placed_of, replies, whole_lines}
use Rattle.dcr_link.specs.Serving.{EndsBy, Served}
use Rattle.dcr_link.specs.TalkModel.{TalkValue}
use Rattle.dcr_link.specs.Talking.{CutsNext, Going, HasAnswered, IsAnswered, IsSent}
use Rattle.dcr_link.proofs.ReplyLemmas.{calls-append, long_none, met_behind, placed_next, placed_seen, text-append, walk_append, while-cons, whole_behind, whole_first, whole_none}

take_length : {X : Type 0} (xs ys : List X) (n : ℕ) → length xs ≡ n → take n (xs ++ ys) ≡ xs
take_length xs ys n is = take-append-le n xs ys (omega (arith, is)) ∙ take_all n xs (omega (arith, is))

take_nil : (n : ℕ) → take {A = List ℕ} n [] ≡ []
take_nil zero = refl
take_nil (suc n) = refl

take_front : (head rest : List ℕ) → take (length head + 1) (head ++ 10 ∷ rest) ≡ head ++ 10 ∷ []
take_front head rest =
    ap (take (length head + 1)) (sym (append_assoc head (10 ∷ []) rest))
    ∙ take_length (head ++ 10 ∷ []) rest (length head + 1) (length-append head (10 ∷ []))

not_nothing : (head piece more : List ℕ) → piece ≢ [] → head ++ (piece ++ more) ≢ []
not_nothing [] [] more some = absurd (some refl)
not_nothing [] (byte ∷ piece) more some = λ is. absurd (omega (arith, ap length is))
not_nothing (byte ∷ head) piece more some = λ is. absurd (omega (arith, ap length is))

-- numbers alone

le_less : (a b : ℕ) → a < b → a ≤ b
le_less a b less = omega arith

le_same : (a b : ℕ) → a ≡ b → a ≤ b
le_same a b same = omega arith

less_same : (a b n m : ℕ) → a ≡ b → b ≡ n → n < m → a < m
less_same a b n m first next less = omega arith

less_more : (n m : ℕ) → n ≡ m + 1 → m < n
less_more n m is = omega arith

longer : (a b h t m : ℕ) → a ≡ b → b ≡ h + t → h ≡ m + 1 → m < a
longer a b h t m first next is = omega arith

none_left : (a b : ℕ) → a ≡ b → b - a ≡ 0
none_left a b same = omega arith

one_left : (a b : ℕ) → a < b → b - a ≡ suc (b - a - 1)
one_left a b less = omega arith

fewer : (a b x y z u : ℕ) → a ≡ b → x ≡ b → y ≡ 1 + u → z ≡ x + y → a < z
fewer a b x y z u first next some all = omega arith

one_and : (n : ℕ) → suc n ≡ 1 + n
one_and n = omega arith

next_few : (a b m : ℕ) → a ≡ b + 1 → b < m → a ≤ m
next_few a b m is less = omega arith

map_one : {X Y : Type 0} (f : X → Y) (xs : List X) (x : X) → map f (xs ++ x ∷ []) ≡ map f xs ++ f x ∷ []
map_one f xs x = map-append f xs (x ∷ [])

module _ {D : Type 0} (c : ClusterId) (first : Option (Store D)) (capacity : ℕ) (terms : Terms) where
  -- ---- one line more

  module _ (before pass after : PassValue) (same : pass.session ≡ before.session) (fewer : before.made ≤ length (placed_of before.session pass.front)) where
    -- a call that was answered adds its entry
    made_more : (J : List Entry) (call : Call) (outcome : Outcome) → AnsweredAfter c first capacity J pass after call outcome
        → (placed_of before.session after.front ≡ placed_of before.session pass.front ++ (length J, entry_of pass call outcome) ∷ [])
        × (made_since before after ≡ made_since before pass ++ (length J, entry_of pass call outcome) ∷ [])
    made_more J call outcome answered =
        let grown : placed_of before.session after.front ≡ placed_of before.session pass.front ++ (length J, entry_of pass call outcome) ∷ [] =
        ap (placed_of before.session) answered.front
        ∙ ap (λ (s : ℕ). placed_of s (J ++ entry_of pass call outcome ∷ [])) (sym same)
        ∙ placed_next pass J call outcome answered.seen
        ∙ ap (λ (s : ℕ). placed_of s pass.front ++ (length J, entry_of pass call outcome) ∷ []) same in
        (grown, ap (drop before.made) grown ∙ drop-append-le before.made (placed_of before.session pass.front) ((length J, entry_of pass call outcome) ∷ []) fewer)

    -- a call that halted adds none
    made_same : (halt : Halt) → HaltedAfter c first capacity after.front pass after halt → made_since before after ≡ made_since before pass
    made_same halt halted =
        ap (λ (s : ℕ). drop before.made (placed_of s after.front)) (sym same)
        ∙ ap (drop before.made) (placed_seen pass after.front halted.seen)
        ∙ ap (λ (s : ℕ). drop before.made (placed_of s pass.front)) same

  -- what is known of the entries after a line was answered
  record Grown (before after : PassValue) (entries : List Placed) (asked : List Asked) (a : Asked) (text : List ℕ) : Type 0 where
    pub session : after.session ≡ before.session
    pub not_fewer : before.made ≤ length (placed_of before.session after.front)
    pub made : after.made ≡ before.made + length (made_since before after)
    pub in_order : map call_of (made_since before after) ≡ calls_in (asked ++ a ∷ [])
    pub texts : answers terms (asked ++ a ∷ []) (made_since before after) ≡ answers terms asked entries ++ text ∷ []

  as_many : (entries : List Placed) (asked : List Asked) → map call_of entries ≡ calls_in asked → length (calls_in asked) ≡ length entries
  as_many entries asked in_order = sym (ap length in_order) ∙ length-map entries call_of

  grown : (before pass after : PassValue) (asked : List Asked) (a : Asked) (text : List ℕ)
      → pass.session ≡ before.session → before.made ≤ length (placed_of before.session pass.front) → pass.made ≡ before.made + length (made_since before pass)
      → map call_of (made_since before pass) ≡ calls_in asked → IsAnswered c first capacity terms a pass after text
      → Grown before after (made_since before pass) asked a text
  grown before pass after asked (Err reply) text same fewer made in_order (is_same, is_text) = record {
    session = ap (λ (p : PassValue). p.session) is_same ∙ same;
    not_fewer = subst (λ (p : PassValue). before.made ≤ length (placed_of before.session p.front)) (sym is_same) fewer;
    made = subst (λ (p : PassValue). p.made ≡ before.made + length (made_since before p)) (sym is_same) made;
    in_order = ap (λ (p : PassValue). map call_of (made_since before p)) is_same ∙ in_order ∙ sym (append-nil (calls_in asked)) ∙ sym (calls-append asked (Err reply ∷ []));
    texts =
        ap (λ (p : PassValue). answers terms (asked ++ Err reply ∷ []) (made_since before p)) is_same
        ∙ ap (answers terms (asked ++ Err reply ∷ [])) (sym (append-nil (made_since before pass)))
        ∙ walk_append terms asked (Err reply ∷ []) (made_since before pass) [] (as_many (made_since before pass) asked in_order)
        ∙ ap (λ (t : List ℕ). answers terms asked (made_since before pass) ++ t ∷ []) (sym is_text);
  }
  grown before pass after asked (Ok call) text same fewer made in_order (J, outcome, answered, is_text) =
      let placed : Placed = (length J, entry_of pass call outcome) in
      let more = made_more before pass after same fewer J call outcome answered in
      let longer : length (placed_of before.session after.front) ≡ length (placed_of before.session pass.front) + 1 =
      ap length more.0 ∙ length-append (placed_of before.session pass.front) (placed ∷ []) in
      let one : length (made_since before after) ≡ length (made_since before pass) + 1 = ap length more.1 ∙ length-append (made_since before pass) (placed ∷ []) in
      record {
        session = answered.session ∙ same;
        not_fewer = omega arith;
        made = let m = answered.made in omega arith;
        in_order =
            ap (map call_of) more.1 ∙ map_one call_of (made_since before pass) placed ∙ ap (λ (l : List Call). l ++ call ∷ []) in_order
            ∙ sym (calls-append asked (Ok call ∷ []));
        texts =
            ap (answers terms (asked ++ Ok call ∷ [])) more.1
            ∙ walk_append terms asked (Ok call ∷ []) (made_since before pass) (placed ∷ []) (as_many (made_since before pass) asked in_order)
            ∙ ap (λ (t : List ℕ). answers terms asked (made_since before pass) ++ t ∷ []) (sym is_text);
      }

  -- ---- what comes since the last line end

  pub going_more : (before pass : PassValue) (talk next : TalkValue) (piece came written : List ℕ) (used : ℕ)
      → Going c first capacity terms before pass talk came written → CutsNext talk piece used More next → talk.lines < most_lines
      → Going c first capacity terms before pass next (came ++ piece) written
  going_more before pass talk next piece came written used going cut spare =
      let takes : TakesAll talk.cutter piece used next.cutter = cut.cuts in
      let same_lines : next.lines ≡ talk.lines = ap (λ (t : TalkValue). t.lines) cut.same ∙ (let e : talk.lines + 0 ≡ talk.lines = omega arith in e) in
      let now : begun next.cutter ≡ begun talk.cutter ++ piece = ap begun takes.after_is in
      record {
        lines = going.lines;
        as_many = going.as_many ∙ sym same_lines;
        few = subst (λ (n : ℕ). n ≤ most_lines) (sym same_lines) going.few;
        came_is = ap (λ (l : List ℕ). l ++ piece) going.came_is ∙ append_assoc (lines_text going.lines) (begun talk.cutter) piece ∙ ap (λ (l : List ℕ). lines_text going.lines ++ l) (sym now);
        no_end = going.no_end;
        none_begun = subst HasNoEnd (sym now) (All-append (λ (byte : ℕ). eqb byte 10 ≡ false) (begun talk.cutter) piece going.none_begun takes.no_end);
        short = going.short;
        not_long = ap (λ (k : Cutter). k.is_long) takes.after_is;
        begun_short = let l = cut.limit in let f = takes.fits in let n = ap length now in omega arith;
        none_further = λ most. absurd (omega arith);
        session = going.session;
        not_fewer = going.not_fewer;
        made = going.made;
        in_order = going.in_order;
        written_is = going.written_is;
      }

  -- ---- one line

  module _ (before pass after : PassValue) (talk next : TalkValue) (piece came written : List ℕ) (used : ℕ)
      (going : Going c first capacity terms before pass talk came written) (cut : CutsNext talk piece used Line next) (spare : talk.lines < most_lines) where
    abbrev pub cuts : CutsLine talk.cutter piece used next.cutter
    cuts = cut.cuts

    -- the line that was cut off
    abbrev pub line : List ℕ
    line = begun talk.cutter ++ cuts.head

    pub line_is : next.cutter.bytes ≡ line
    line_is = ap (λ (k : Cutter). k.bytes) cuts.after_is

    pub line_off : next.cutter.is_line ≡ true
    line_off = ap (λ (k : Cutter). k.is_line) cuts.after_is

    none_begun : begun next.cutter ≡ []
    none_begun = ap begun cuts.after_is

    abbrev pub lines : List (List ℕ)
    lines = going.lines ++ line ∷ []

    line_free : HasNoEnd line
    line_free = All-append (λ (byte : ℕ). eqb byte 10 ≡ false) (begun talk.cutter) cuts.head going.none_begun cuts.no_end

    line_short : is_short line ≡ true
    line_short = let l = cut.limit in let f = cuts.fits in grind arith

    -- with the line the bytes that came are those of one line more
    came_line : came ++ take used piece ≡ lines_text lines
    came_line =
        let front : take used piece ≡ cuts.head ++ 10 ∷ [] =
        ap (λ (p : List ℕ). take used p) cuts.piece_is ∙ ap (λ (n : ℕ). take n (cuts.head ++ 10 ∷ cuts.rest)) cuts.used_is
        ∙ take_front cuts.head cuts.rest in
        ap (λ (l : List ℕ). l ++ take used piece) going.came_is
        ∙ append_assoc (lines_text going.lines) (begun talk.cutter) (take used piece)
        ∙ ap (λ (l : List ℕ). lines_text going.lines ++ (begun talk.cutter ++ l)) front
        ∙ ap (λ (l : List ℕ). lines_text going.lines ++ l) (sym (append_assoc (begun talk.cutter) cuts.head (10 ∷ [])) ∙ sym (append-nil (ended line)))
        ∙ sym (text-append going.lines (line ∷ []))

    -- what is known once it was answered by this text
    line_grown : (text : List ℕ) → IsAnswered c first capacity terms (asked_by terms before.session next.cutter.bytes) pass after text
        → Grown before after (made_since before pass) (asked_in terms before.session going.lines) (asked_by terms before.session line) text
    line_grown text answered =
        grown before pass after (asked_in terms before.session going.lines) (asked_by terms before.session line) text going.session going.not_fewer going.made going.in_order
        (subst (λ (l : List ℕ). IsAnswered c first capacity terms (asked_by terms before.session l) pass after text) line_is answered)

    asked_more : asked_in terms before.session lines ≡ asked_in terms before.session going.lines ++ asked_by terms before.session line ∷ []
    asked_more = map_one (asked_by terms before.session) going.lines line

    pub going_line : (text : List ℕ) (told : TalkValue) → told.cutter ≡ next.cutter → told.lines ≡ next.lines
        → IsAnswered c first capacity terms (asked_by terms before.session next.cutter.bytes) pass after text
        → Going c first capacity terms before after told (came ++ take used piece) (written ++ ended text)
    going_line text told same_cutter same_lines answered =
        let g = line_grown text answered in
        let empty : begun told.cutter ≡ [] = ap begun same_cutter ∙ none_begun in
        record {
          lines = lines;
          as_many =
              length-append going.lines (line ∷ []) ∙ ap (λ (n : ℕ). n + 1) going.as_many ∙ sym (same_lines ∙ ap (λ (t : TalkValue). t.lines) cut.same);
          few = next_few told.lines talk.lines most_lines (same_lines ∙ ap (λ (t : TalkValue). t.lines) cut.same) spare;
          came_is = came_line ∙ sym (append-nil (lines_text lines)) ∙ ap (λ (l : List ℕ). lines_text lines ++ l) (sym empty);
          no_end = All-push HasNoEnd going.lines line going.no_end line_free;
          none_begun = subst HasNoEnd (sym empty) (All-nil (λ (byte : ℕ). eqb byte 10 ≡ false));
          short = All-push (λ (l : List ℕ). is_short l ≡ true) going.lines line going.short line_short;
          not_long = ap (λ (k : Cutter). k.is_long) (same_cutter ∙ cuts.after_is);
          begun_short = let n = ap length empty in omega arith;
          none_further = λ most. empty;
          session = g.session;
          not_fewer = g.not_fewer;
          made = g.made;
          in_order = g.in_order ∙ ap calls_in (sym asked_more);
          written_is =
              ap (λ (l : List ℕ). l ++ ended text) going.written_is
              ∙ ap (λ (l : List ℕ). lines_text (answers terms (asked_in terms before.session going.lines) (made_since before pass)) ++ l) (sym (append-nil (ended text)))
              ∙ sym (text-append (answers terms (asked_in terms before.session going.lines) (made_since before pass)) (text ∷ []))
              ∙ ap lines_text (sym g.texts)
              ∙ ap (λ (asked : List Asked). lines_text (answers terms asked (made_since before after))) (sym asked_more);
        }

  -- ---- the end

  module _ (before pass after : PassValue) (talk : TalkValue) (came written : List ℕ) (going : Going c first capacity terms before pass talk came written)
      (same : made_since before after ≡ made_since before pass) where
    abbrev pub entries : List Placed
    entries = made_since before pass

    abbrev pub asked : List Asked
    asked = asked_in terms before.session going.lines

    -- the lines that are met are those that came, and some behind them
    pub met : (more : List ℕ) → talk.lines ≤ most_lines
        → lines_met (came ++ more) ≡ going.lines ++ take (most_lines - talk.lines) (take_while is_short (whole_lines (begun talk.cutter ++ more)))
    met more few =
        ap lines_met (ap (λ (l : List ℕ). l ++ more) going.came_is ∙ append_assoc (lines_text going.lines) (begun talk.cutter) more)
        ∙ met_behind going.lines (begun talk.cutter ++ more) going.no_end going.short (let n = going.as_many in omega arith)
        ∙ ap (λ (n : ℕ). going.lines ++ take (most_lines - n) (take_while is_short (whole_lines (begun talk.cutter ++ more)))) going.as_many

    module _ (more : List ℕ) (behind : List (List ℕ)) (is_met : lines_met (came ++ more) ≡ going.lines ++ behind) where
      abbrev pub asked_behind : List Asked
      asked_behind = asked_in terms before.session behind

      asked_met : asked_in terms before.session (lines_met (came ++ more)) ≡ asked ++ asked_behind
      asked_met = ap (asked_in terms before.session) is_met ∙ map-append (asked_by terms before.session) going.lines behind

      calls_are : calls_in (asked_in terms before.session (lines_met (came ++ more))) ≡ calls_in asked ++ calls_in asked_behind
      calls_are = ap calls_in asked_met ∙ calls-append asked asked_behind

      calls_first : map call_of (made_since before after) ≡ take (length (made_since before after)) (calls_in (asked_in terms before.session (lines_met (came ++ more))))
      calls_first =
          ap (map call_of) same ∙ going.in_order
          ∙ sym (take_length (calls_in asked) (calls_in asked_behind) (length (made_since before after)) (as_many entries asked going.in_order ∙ sym (ap length same)))
          ∙ ap (take (length (made_since before after))) (sym calls_are)

      replies_are : (cause : WorkCause)
          → replies terms before.session (came ++ more) (made_since before after) cause ≡ written ++ lines_text (answers terms asked_behind [] ++ last_words cause)
      replies_are cause =
          ap (λ (es : List Placed). replies terms before.session (came ++ more) es cause) same
          ∙ ap (λ (xs : List Asked). lines_text (answers terms xs entries ++ last_words cause)) asked_met
          ∙ ap (λ (es : List Placed). lines_text (answers terms (asked ++ asked_behind) es ++ last_words cause)) (sym (append-nil entries))
          ∙ ap (λ (texts : List (List ℕ)). lines_text (texts ++ last_words cause)) (walk_append terms asked asked_behind entries [] (as_many entries asked going.in_order))
          ∙ ap lines_text (append_assoc (answers terms asked entries) (answers terms asked_behind []) (last_words cause))
          ∙ text-append (answers terms asked entries) (answers terms asked_behind [] ++ last_words cause)
          ∙ ap (λ (l : List ℕ). l ++ lines_text (answers terms asked_behind [] ++ last_words cause)) (sym going.written_is)

      -- a beginning of the replies so far was written, and the session has ended without last words
      pub served_part : (part rest : List ℕ) (failed : Type 0) (cause : WorkCause) → part ++ rest ≡ written → EndsBy first capacity terms (came ++ more) before after part failed cause
          → Served first capacity terms (came ++ more) before after part failed (record { calls = length (made_since before after); cause = cause })
      served_part part rest failed cause whole ends = record {
        calls = refl;
        in_order = calls_first;
        rest = rest ++ lines_text (answers terms asked_behind [] ++ last_words cause);
        replied =
            sym (append_assoc part rest (lines_text (answers terms asked_behind [] ++ last_words cause)))
            ∙ ap (λ (l : List ℕ). l ++ lines_text (answers terms asked_behind [] ++ last_words cause)) whole
            ∙ sym (replies_are cause);
        ends = ends;
      }

      -- all replies so far were written, and these last words
      module _ (failed : Type 0) (cause : WorkCause) (text sent : List ℕ) (last : last_words cause ≡ text ∷ []) (none : answers terms asked_behind [] ≡ [])
          (is_sent : IsSent failed text sent) where
        all_said : replies terms before.session (came ++ more) (made_since before after) cause ≡ (written ++ sent) ++ is_sent.rest
        all_said =
            replies_are cause
            ∙ ap (λ (texts : List (List ℕ)). written ++ lines_text (texts ++ last_words cause)) none
            ∙ ap (λ (texts : List (List ℕ)). written ++ lines_text texts) last
            ∙ ap (λ (l : List ℕ). written ++ l) (append-nil (ended text) ∙ sym is_sent.part)
            ∙ sym (append_assoc written sent is_sent.rest)

        pub last_whole : ((written ++ sent) ≡ replies terms before.session (came ++ more) (made_since before after) cause) ⊎ failed
        last_whole = elim is_sent.whole [
          | inl all ↦ inl (sym (append-nil (written ++ sent)) ∙ ap (λ (l : List ℕ). (written ++ sent) ++ l) (sym all) ∙ sym all_said)
          | inr fault ↦ inr fault
        ]

        pub served_last : EndsBy first capacity terms (came ++ more) before after (written ++ sent) failed cause
            → Served first capacity terms (came ++ more) before after (written ++ sent) failed (record { calls = length (made_since before after); cause = cause })
        served_last ends = record {
          calls = refl;
          in_order = calls_first;
          rest = is_sent.rest;
          replied = sym all_said;
          ends = ends;
        }

    -- no line behind those that came is met
    module _ (more : List ℕ) (is_met : lines_met (came ++ more) ≡ going.lines) where
      whole_met : lines_met (came ++ more) ≡ going.lines ++ []
      whole_met = is_met ∙ sym (append-nil going.lines)

      pub all_made : length (made_since before after) ≡ length (calls_in (asked_in terms before.session (lines_met (came ++ more))))
      all_made = ap length same ∙ sym (as_many entries asked going.in_order) ∙ ap (λ (ls : List (List ℕ)). length (calls_in (asked_in terms before.session ls))) (sym is_met)

      pub bytes_behind : came ++ more ≡ lines_text (lines_met (came ++ more)) ++ (begun talk.cutter ++ more)
      bytes_behind =
          ap (λ (l : List ℕ). l ++ more) going.came_is ∙ append_assoc (lines_text going.lines) (begun talk.cutter) more
          ∙ ap (λ (ls : List (List ℕ)). lines_text ls ++ (begun talk.cutter ++ more)) (sym is_met)

  -- the line has too many bytes
  pub ends_long : (before pass : PassValue) (talk next : TalkValue) (piece came written sent : List ℕ) (used : ℕ) (failed : Type 0)
      → Going c first capacity terms before pass talk came written → talk.lines < most_lines → CutsNext talk piece used TooLong next
      → IsSent failed (codes "long-line") sent
      → (more : List ℕ) → Served first capacity terms (came ++ (piece ++ more)) before pass (written ++ sent) failed (record { calls = length (made_since before pass); cause = LongLine })
  ends_long before pass talk next piece came written sent used failed going spare cut is_sent more = elim cut.cuts [
    | inl finds ↦ (
        let head : List ℕ = begun talk.cutter ++ finds.head in
        let free : HasNoEnd head = All-append (λ (byte : ℕ). eqb byte 10 ≡ false) (begun talk.cutter) finds.head going.none_begun finds.no_end in
        let long : length head ≡ most_bytes + 1 = finds.long ∙ ap (λ (n : ℕ). n + 1) cut.limit in
        let tail : begun talk.cutter ++ (piece ++ more) ≡ head ++ (finds.rest ++ more) =
        ap (λ (l : List ℕ). begun talk.cutter ++ (l ++ more)) finds.piece_is ∙ ap (λ (l : List ℕ). begun talk.cutter ++ l) (append_assoc finds.head finds.rest more)
        ∙ sym (append_assoc (begun talk.cutter) finds.head (finds.rest ++ more)) in
        let none : take_while is_short (whole_lines (begun talk.cutter ++ (piece ++ more))) ≡ [] =
        ap (λ (l : List ℕ). take_while is_short (whole_lines l)) tail ∙ long_none head (finds.rest ++ more) (less_more (length head) most_bytes long) free in
        let is_met : lines_met (came ++ (piece ++ more)) ≡ going.lines =
        met before pass pass talk came written going refl (piece ++ more) (le_less talk.lines most_lines spare)
        ∙ ap (λ (ls : List (List ℕ)). going.lines ++ take (most_lines - talk.lines) ls) none
        ∙ ap (λ (ls : List (List ℕ)). going.lines ++ ls) (take_nil (most_lines - talk.lines)) ∙ append-nil going.lines in
        served_last before pass pass talk came written going refl (piece ++ more) [] (is_met ∙ sym (append-nil going.lines)) failed LongLine (codes "long-line") sent refl refl is_sent (
          record {
            rest = begun talk.cutter ++ (piece ++ more);
            whole = bytes_behind before pass pass talk came written going refl (piece ++ more) is_met;
            long = longer (length (begun talk.cutter ++ (piece ++ more))) (length (head ++ (finds.rest ++ more))) (length head) (length (finds.rest ++ more)) most_bytes (ap length tail) (length-append head (finds.rest ++ more)) long;
            no_end = subst HasNoEnd (sym (ap (take (most_bytes + 1)) tail ∙ ap (λ (n : ℕ). take n (head ++ (finds.rest ++ more))) (sym long) ∙ take_length head (finds.rest ++ more) (length head) refl)) free;
            spare = less_same (length (lines_met (came ++ (piece ++ more)))) (length going.lines) talk.lines most_lines (ap length is_met) going.as_many spare;
          },
          all_made before pass pass talk came written going refl (piece ++ more) is_met,
          last_whole before pass pass talk came written going refl (piece ++ more) [] (is_met ∙ sym (append-nil going.lines)) failed LongLine (codes "long-line") sent refl refl is_sent,
        )
        )
    | inr stuck ↦ absurd (true≢false (sym stuck.0 ∙ going.not_long))
  ]

  -- no line more may be answered
  pub ends_many : (before pass : PassValue) (talk : TalkValue) (piece came written sent : List ℕ) (failed : Type 0)
      → Going c first capacity terms before pass talk came written → talk.lines ≡ most_lines → piece ≢ [] → IsSent failed (codes "many-lines") sent
      → (more : List ℕ) → Served first capacity terms (came ++ (piece ++ more)) before pass (written ++ sent) failed (record { calls = length (made_since before pass); cause = ManyLines })
  ends_many before pass talk piece came written sent failed going most some is_sent more =
      let is_met : lines_met (came ++ (piece ++ more)) ≡ going.lines =
      met before pass pass talk came written going refl (piece ++ more) (le_same talk.lines most_lines most)
      ∙ ap (λ (n : ℕ). going.lines ++ take n (take_while is_short (whole_lines (begun talk.cutter ++ (piece ++ more))))) (none_left talk.lines most_lines most)
      ∙ append-nil going.lines in
      served_last before pass pass talk came written going refl (piece ++ more) [] (is_met ∙ sym (append-nil going.lines)) failed ManyLines (codes "many-lines") sent refl refl is_sent (
        record {
          rest = begun talk.cutter ++ (piece ++ more);
          whole = bytes_behind before pass pass talk came written going refl (piece ++ more) is_met;
          further = not_nothing (begun talk.cutter) piece more some;
          most = ap length is_met ∙ going.as_many ∙ most;
        },
        all_made before pass pass talk came written going refl (piece ++ more) is_met,
        last_whole before pass pass talk came written going refl (piece ++ more) [] (is_met ∙ sym (append-nil going.lines)) failed ManyLines (codes "many-lines") sent refl refl is_sent,
      )

  -- what stands behind the lines that came is what the cutter has begun
  same_rest : (before pass : PassValue) (talk : TalkValue) (came written : List ℕ) (going : Going c first capacity terms before pass talk came written)
      → lines_met (came ++ []) ≡ going.lines → (rest : List ℕ) → came ++ [] ≡ lines_text (lines_met (came ++ [])) ++ rest → length rest ≡ length (begun talk.cutter)
  same_rest before pass talk came written going is_met rest whole =
      let same : lines_text going.lines ++ rest ≡ lines_text going.lines ++ begun talk.cutter =
      ap (λ (ls : List (List ℕ)). lines_text ls ++ rest) (sym is_met) ∙ sym whole ∙ append-nil came ∙ going.came_is in
      let one = length-append (lines_text going.lines) rest in let other = length-append (lines_text going.lines) (begun talk.cutter) in let many = ap length same in omega arith

  -- the input has ended
  pub ends_input : (before pass : PassValue) (talk : TalkValue) (came written : List ℕ) (failed : Type 0)
      → Going c first capacity terms before pass talk came written
      → Served first capacity terms came before pass written failed (record { calls = length (made_since before pass); cause = Ended })
  ends_input before pass talk came written failed going =
      let no_more : whole_lines (begun talk.cutter ++ []) ≡ [] = ap whole_lines (append-nil (begun talk.cutter)) ∙ whole_none (begun talk.cutter) going.none_begun in
      let is_met : lines_met (came ++ []) ≡ going.lines =
      met before pass pass talk came written going refl [] going.few
      ∙ ap (λ (ls : List (List ℕ)). going.lines ++ take (most_lines - talk.lines) (take_while is_short ls)) no_more
      ∙ ap (λ (ls : List (List ℕ)). going.lines ++ ls) (take_nil (most_lines - talk.lines)) ∙ append-nil going.lines in
      let all : whole_lines (came ++ []) ≡ going.lines =
      ap whole_lines (ap (λ (l : List ℕ). l ++ []) going.came_is ∙ append_assoc (lines_text going.lines) (begun talk.cutter) [])
      ∙ whole_behind going.lines (begun talk.cutter ++ []) going.no_end ∙ ap (λ (ls : List (List ℕ)). going.lines ++ ls) no_more ∙ append-nil going.lines in
      subst (λ (l : List ℕ). Served first capacity terms l before pass written failed (record { calls = length (made_since before pass); cause = Ended })) (append-nil came)
      (served_part before pass pass talk came written going refl [] [] (is_met ∙ sym (append-nil going.lines)) written [] failed Ended (append-nil written) (
        is_met ∙ sym all,
        all_made before pass pass talk came written going refl [] is_met,
        sym (replies_are before pass pass talk came written going refl [] [] (is_met ∙ sym (append-nil going.lines)) Ended ∙ append-nil written),
        λ long. let rest = same_rest before pass talk came written going is_met long.rest long.whole in let short = going.begun_short in let more = long.long in absurd (omega arith),
        λ many.
            let rest = same_rest before pass talk came written going is_met many.rest many.whole in
            let all_lines : talk.lines ≡ most_lines = sym going.as_many ∙ ap length (sym is_met) ∙ many.most in
            absurd (many.further (nil_from_length many.rest (rest ∙ ap length (going.none_further all_lines)))),
      ))

  -- a read has failed
  pub ends_read : (before pass : PassValue) (talk : TalkValue) (came written more : List ℕ) (failed : Type 0)
      → Going c first capacity terms before pass talk came written → failed
      → Served first capacity terms (came ++ more) before pass written failed (record { calls = length (made_since before pass); cause = LinkFault })
  ends_read before pass talk came written more failed going fault =
      served_part before pass pass talk came written going refl more _ (met before pass pass talk came written going refl more going.few) written [] failed LinkFault (append-nil written) fault

  -- ---- the session ends with a line

  pub rest_whole : (came piece more : List ℕ) (used : ℕ) → (came ++ take used piece) ++ (drop used piece ++ more) ≡ came ++ (piece ++ more)
  rest_whole came piece more used =
      append_assoc came (take used piece) (drop used piece ++ more)
      ∙ ap (λ (l : List ℕ). came ++ l) (sym (append_assoc (take used piece) (drop used piece) more) ∙ ap (λ (l : List ℕ). l ++ more) (take-append-drop used piece))

  -- the reply to the line was not written whole
  ends_part : (before pass after : PassValue) (talk next : TalkValue) (piece came written sent rest text : List ℕ) (used : ℕ) (failed : Type 0) (cause : WorkCause)
      → (going : Going c first capacity terms before pass talk came written) → (cut : CutsNext talk piece used Line next) → (spare : talk.lines < most_lines)
      → IsAnswered c first capacity terms (asked_by terms before.session next.cutter.bytes) pass after text → sent ++ rest ≡ ended text → (more : List ℕ)
      → EndsBy first capacity terms (came ++ (piece ++ more)) before after (written ++ sent) failed cause
      → Served first capacity terms (came ++ (piece ++ more)) before after (written ++ sent) failed (record { calls = length (made_since before after); cause = cause })
  ends_part before pass after talk next piece came written sent rest text used failed cause going cut spare answered whole more ends =
      let further : Going c first capacity terms before after next (came ++ take used piece) (written ++ ended text) =
      going_line before pass after talk next piece came written used going cut spare text next refl refl answered in
      let few : next.lines ≤ most_lines = next_few next.lines talk.lines most_lines (ap (λ (t : TalkValue). t.lines) cut.same) spare in
      let same : (came ++ take used piece) ++ (drop used piece ++ more) ≡ came ++ (piece ++ more) = rest_whole came piece more used in
      subst (λ (l : List ℕ). Served first capacity terms l before after (written ++ sent) failed (record { calls = length (made_since before after); cause = cause })) same
      (served_part before after after next (came ++ take used piece) (written ++ ended text) further refl (drop used piece ++ more) _
      (met before after after next (came ++ take used piece) (written ++ ended text) further refl (drop used piece ++ more) few)
      (written ++ sent) rest failed cause (append_assoc written sent rest ∙ ap (λ (l : List ℕ). written ++ l) whole)
      (subst (λ (l : List ℕ). EndsBy first capacity terms l before after (written ++ sent) failed cause) (sym same) ends))

  -- the call of the line halted
  ends_halt : (before pass after : PassValue) (talk next : TalkValue) (piece came written sent : List ℕ) (used : ℕ) (failed : Type 0) (call : Call) (halt : Halt)
      → (going : Going c first capacity terms before pass talk came written) → (cut : CutsNext talk piece used Line next) → (spare : talk.lines < most_lines)
      → asked_by terms before.session next.cutter.bytes ≡ Ok call → HaltedAfter c first capacity after.front pass after halt → IsSent failed (halt_text halt) sent → (more : List ℕ)
      → Served first capacity terms (came ++ (piece ++ more)) before after (written ++ sent) failed (record { calls = length (made_since before after); cause = Halted halt })
  ends_halt before pass after talk next piece came written sent used failed call halt going cut spare is_call halted is_sent more =
      let cuts : CutsLine talk.cutter piece used next.cutter = cut.cuts in
      let the_line : List ℕ = begun talk.cutter ++ cuts.head in
      let behind : List ℕ = cuts.rest ++ more in
      let same : made_since before after ≡ made_since before pass = made_same before pass after going.session going.not_fewer halt halted in
      let bytes : begun talk.cutter ++ (piece ++ more) ≡ the_line ++ 10 ∷ behind =
      ap (λ (l : List ℕ). begun talk.cutter ++ (l ++ more)) cuts.piece_is
      ∙ ap (λ (l : List ℕ). begun talk.cutter ++ l) (append_assoc cuts.head (10 ∷ cuts.rest) more)
      ∙ sym (append_assoc (begun talk.cutter) cuts.head (10 ∷ behind)) in
      let k : most_lines - talk.lines ≡ suc (most_lines - talk.lines - 1) = one_left talk.lines most_lines spare in
      let first_met : take (most_lines - talk.lines) (take_while is_short (whole_lines (begun talk.cutter ++ (piece ++ more)))) ≡ the_line ∷ take (most_lines - talk.lines - 1) (take_while is_short (whole_lines behind)) =
      ap (λ (l : List ℕ). take (most_lines - talk.lines) (take_while is_short (whole_lines l))) bytes
      ∙ ap (λ (ls : List (List ℕ)). take (most_lines - talk.lines) (take_while is_short ls)) (whole_first the_line behind (line_free before pass after talk next piece came written used going cut spare))
      ∙ ap (take (most_lines - talk.lines)) (while-cons the_line (whole_lines behind) (line_short before pass after talk next piece came written used going cut spare))
      ∙ ap (λ (n : ℕ). take n (the_line ∷ take_while is_short (whole_lines behind))) k in
      let others : List (List ℕ) = take (most_lines - talk.lines - 1) (take_while is_short (whole_lines behind)) in
      let is_met : lines_met (came ++ (piece ++ more)) ≡ going.lines ++ the_line ∷ others =
      met before pass after talk came written going same (piece ++ more) (le_less talk.lines most_lines spare) ∙ ap (λ (ls : List (List ℕ)). going.lines ++ ls) first_met in
      let here : asked_by terms before.session the_line ≡ Ok call =
      ap (asked_by terms before.session) (sym (line_is before pass after talk next piece came written used going cut spare)) ∙ is_call in
      let none : answers terms (asked_in terms before.session (the_line ∷ others)) [] ≡ [] =
      ap (λ (a : Asked). answers terms (a ∷ asked_in terms before.session others) []) here in
      let one_more_call : length (calls_in (asked_in terms before.session (lines_met (came ++ (piece ++ more))))) ≡ length (calls_in (asked_in terms before.session going.lines)) + length (calls_in (asked_in terms before.session (the_line ∷ others))) =
      ap length (calls_are before pass after talk came written going same (piece ++ more) (the_line ∷ others) is_met)
      ∙ length-append (calls_in (asked_in terms before.session going.lines)) (calls_in (asked_in terms before.session (the_line ∷ others))) in
      let some : length (calls_in (asked_in terms before.session (the_line ∷ others))) ≡ 1 + length (calls_in (asked_in terms before.session others)) =
      ap (λ (a : Asked). length (calls_in (a ∷ asked_in terms before.session others))) here ∙ (one_and (length (calls_in (asked_in terms before.session others)))) in
      let so_many : length (calls_in (asked_in terms before.session going.lines)) ≡ length (made_since before pass) = as_many (made_since before pass) (asked_in terms before.session going.lines) going.in_order in
      served_last before pass after talk came written going same (piece ++ more) (the_line ∷ others) is_met failed (Halted halt) (halt_text halt) sent refl none is_sent (
        fewer (length (made_since before after)) (length (made_since before pass)) (length (calls_in (asked_in terms before.session going.lines))) (length (calls_in (asked_in terms before.session (the_line ∷ others))))
            (length (calls_in (asked_in terms before.session (lines_met (came ++ (piece ++ more)))))) (length (calls_in (asked_in terms before.session others))) (ap length same) so_many some one_more_call,
        halted.shows,
        last_whole before pass after talk came written going same (piece ++ more) (the_line ∷ others) is_met failed (Halted halt) (halt_text halt) sent refl none is_sent,
      )

  -- the session has ended with the line
  pub ends_line : (before pass after : PassValue) (talk next : TalkValue) (piece came written sent : List ℕ) (used : ℕ) (failed : Type 0) (a : Asked) (cause : WorkCause)
      → Going c first capacity terms before pass talk came written → CutsNext talk piece used Line next → talk.lines < most_lines
      → asked_by terms before.session next.cutter.bytes ≡ a → HasAnswered c first capacity terms a pass after sent failed (Some cause) → (more : List ℕ)
      → Served first capacity terms (came ++ (piece ++ more)) before after (written ++ sent) failed (record { calls = length (made_since before after); cause = cause })
  ends_line before pass after talk next piece came written sent used failed a LinkFault going cut spare is (text, answered, is_sent, fault) more =
      ends_part before pass after talk next piece came written sent is_sent.rest text used failed LinkFault going cut spare
      (subst (λ (b : Asked). IsAnswered c first capacity terms b pass after text) (sym is) answered) is_sent.part more fault
  ends_line before pass after talk next piece came written sent used failed a NoMemory going cut spare is (text, answered, nothing) more =
      ends_part before pass after talk next piece came written sent (ended text) text used failed NoMemory going cut spare
      (subst (λ (b : Asked). IsAnswered c first capacity terms b pass after text) (sym is) answered) (ap (λ (l : List ℕ). l ++ ended text) nothing) more tt
  ends_line before pass after talk next piece came written sent used failed (Ok call) (Halted halt) going cut spare is (halted, is_sent) more =
      ends_halt before pass after talk next piece came written sent used failed call halt going cut spare is halted is_sent more
  ends_line before pass after talk next piece came written sent used failed (Err reply) (Halted halt) going cut spare is answered more = absurd answered.0
  ends_line before pass after talk next piece came written sent used failed a Ended going cut spare is answered more = absurd answered
  ends_line before pass after talk next piece came written sent used failed a LongLine going cut spare is answered more = absurd answered
  ends_line before pass after talk next piece came written sent used failed a ManyLines going cut spare is answered more = absurd answered
