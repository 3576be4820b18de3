-- A text has one verdict.
use Rattle.std.proofs.Common.{◌≡◌, inl, inr, ℕ, ◌+◌, ◌<◌, true, false, List, [], ◌++◌, drop, get_or, length, slice_get, take, Option, Some, refl, sym, ap, subst, ◌∙◌, arith}
use Rattle.std.specs.Option.{option_map_or}
use Rattle.std.proofs.lemmas.Bool.{cases_lt, false≢true}
use Rattle.std.proofs.lemmas.List.{append-nil, append_assoc, append_cancel_left, length-append, length-map, length-take-le, nil_from_length, take-append-drop, take_all, take_at}
use Rattle.std.proofs.lemmas.Option.{same_Some}
use Rattle.dcr_nest.specs.Nest.{Nest}
use Rattle.dcr_proj.specs.CoverValue.{Owners}
use Rattle.dcr_journal.specs.Run.{HasNoFault, made_by}
use Rattle.dcr_journal.specs.declared.call.Entry.{Entry}
use Rattle.dcr_line.specs.Fits.{FitsEntry}
use Rattle.dcr_line.specs.Line.{entry_text}
use Rattle.dcr_replay.specs.Canonical.{HaveNoLineEnd}
use Rattle.dcr_graph_json.specs.Build.{atom_names}
use Rattle.dcr_replay.specs.Canonical.{MeanOne}
use Rattle.dcr_text.specs.Lines.{Line, line_of}
use Rattle.dcr_replay.specs.EntryLines.{IsNext, IsWrongNext, Setting, begins_with_digit, first_is_digit, names_in}
use Rattle.dcr_replay.specs.FirstWrong.{IsExpected, IsFirstWrong, IsReadTo, IsWrongBehind, behind_head, end_kinds, in_head, of_end, of_entry}
use Rattle.dcr_replay.specs.Laws.{IsReport}
use Rattle.dcr_replay.specs.OneVerdict.{VerdictIsOne}
use Rattle.dcr_replay.specs.ReportLines.{behind_of, ended, read_of, texts_of}
use Rattle.dcr_replay.specs.declared.verdict.Verdict.TheVariants.{Valid, Invalid}
use Rattle.dcr_replay.specs.declared.verdict.Wrong.{Wrong}
use Rattle.dcr_replay.specs.declared.verdict.Wrong.TheVariants as wrong
use Rattle.dcr_replay.proofs.CutLemmas.{ended_append}
use Rattle.dcr_replay.proofs.NextLemmas.{Follows, follows}
use Rattle.dcr_replay.proofs.ReportLemmas.{report_cut}
use Rattle.dcr_replay.proofs.WrongLemmas.{length_read}

-- ---- one place in a text

abbrev front_of : Setting → List Entry → ℕ → List (List ℕ)
front_of S J i = read_of S J ++ take i (behind_of S J)

length_front : (bytes : List ℕ) (S : Setting) (J : List Entry) (i : ℕ) (rest : List Line) → IsReadTo bytes S J i rest → length (ended (front_of S J i)) ≡ 4 + (length J + i)
length_front bytes S J i rest read =
    length-map (front_of S J i) _ ∙ length-append (read_of S J) (take i (behind_of S J))
    ∙ (let heads = length_read S J in let few = length-take-le i (behind_of S J) read.within in omega arith)

-- two lists with one front
same_front : (xs ys us vs : List Line) → xs ++ us ≡ ys ++ vs → length xs ≡ length ys → (xs ≡ ys) × (us ≡ vs)
same_front xs ys us vs e long =
    let front : xs ≡ ys = sym (take_at xs us (length xs) refl) ∙ ap (take (length xs)) e ∙ take_at ys vs (length xs) (sym long) in
    (front, append_cancel_left ys us vs (ap (λ l. l ++ us) (sym front) ∙ e))

-- the lines that were read are those of one history over one graph and one cover
record IsOnePlace (S T : Setting) (J K : List Entry) (i k : ℕ) (rest others : List Line) : Type 0 where
  nest : T.nest ≡ S.nest
  cover : T.cover ≡ S.cover
  history : K ≡ J
  number : k ≡ i
  left : others ≡ rest

module _ (one : MeanOne) (bytes : List ℕ) where
  -- a report that has the same front goes on from its entries
  goes_on : (S T : Setting) (J K : List Entry) (i k : ℕ) (rest others : List Line) → IsReadTo bytes S J i rest → IsReadTo bytes T K k others → length J + i ≡ length K + k
      → Follows S T J K (ended (take i (behind_of S J)) ++ ended (drop k (behind_of T K)))
  goes_on S T J K i k rest others is also number =
      let first = ended (take i (behind_of S J)) in let last = ended (drop k (behind_of T K)) in
      let front = (same_front (ended (front_of T K k)) (ended (front_of S J i)) others rest (sym also.cut ∙ is.cut)
      (length_front bytes T K k others also ∙ ap (λ n. 4 + n) (sym number) ∙ sym (length_front bytes S J i rest is))).0 in
      let all : texts_of T K ≡ front_of T K k ++ drop k (behind_of T K) =
      ap (λ (l : List (List ℕ)). read_of T K ++ l) (sym (take-append-drop k (behind_of T K))) ∙ sym (append_assoc (read_of T K) (take k (behind_of T K)) (drop k (behind_of T K))) in
      follows one S T J K (first ++ last) is.legal also.legal
      (ap ended all ∙ ended_append (front_of T K k) (drop k (behind_of T K)) ∙ ap (λ (l : List Line). l ++ last) (front ∙ ended_append (read_of S J) (take i (behind_of S J)))
      ∙ append_assoc (ended (read_of S J)) first last)

  one_place : (S T : Setting) (J K : List Entry) (i k : ℕ) (rest others : List Line) → IsReadTo bytes S J i rest → IsReadTo bytes T K k others → length J + i ≡ length K + k
      → IsOnePlace S T J K i k rest others
  one_place S T J K i k rest others is also number =
      let on = goes_on S T J K i k rest others is also number in
      let back = goes_on T S K J k i others rest also is (sym number) in
      let longer = ap (λ (l : List Entry). length l) on.history ∙ length-append J on.more in
      let shorter = ap (λ (l : List Entry). length l) back.history ∙ length-append K back.more in
      let history : K ≡ J = on.history ∙ ap (λ (l : List Entry). J ++ l) (nil_from_length on.more (omega (arith, longer, shorter))) ∙ append-nil J in
      record {
        nest = on.nest;
        cover = on.cover;
        history = history;
        number = (let many = ap (λ (l : List Entry). length l) history in omega (arith, many, number));
        left = (same_front (ended (front_of T K k)) (ended (front_of S J i)) others rest (sym also.cut ∙ is.cut)
            (length_front bytes T K k others also ∙ ap (λ n. 4 + n) (sym number) ∙ sym (length_front bytes S J i rest is))).1;
      }

-- ---- one kind there

module _ (S T : Setting) (J K : List Entry) (nest : T.nest ≡ S.nest) (cover : T.cover ≡ S.cover) (history : K ≡ J) (line : Line) where
  -- what is told of the next entry
  next_told : (entry : Entry) → IsNext T K line entry → IsNext S J line entry
  next_told entry next =
      let may = next.0 in (
        record {
          few = subst (λ (l : List Entry). length l < 200000) history may.few;
          sound = subst HasNoFault history may.sound;
          session = may.session;
          seq = may.seq ∙ ap (made_by entry.session) history;
          fits = subst (λ (C : Owners). FitsEntry (length C.names) (length (names_in S)) entry) cover (subst (λ (N : Nest). FitsEntry (length T.cover.names) (length (atom_names N)) entry) nest may.fits);
        },
        next.1 ∙ ap (λ (N : Nest). line_of (entry_text T.cover.names (atom_names N) (length K) entry) true) nest
            ∙ ap (λ (C : Owners). line_of (entry_text C.names (names_in S) (length K) entry) true) cover
            ∙ ap (λ (l : List Entry). line_of (entry_text S.cover.names (names_in S) (length l) entry) true) history,
      )

one_next : (S T : Setting) (J K : List Entry) → T.nest ≡ S.nest → T.cover ≡ S.cover → K ≡ J → (line : Line) (a b : Wrong) → IsWrongNext S J line a → IsWrongNext T K line b → a ≡ b
one_next S T J K nest cover history line wrong.Entry wrong.Entry p q = refl
one_next S T J K nest cover history line wrong.Entry wrong.Outcome p q = absurd (p q.0 (next_told S T J K nest cover history line q.0 q.1))
one_next S T J K nest cover history line wrong.Outcome wrong.Entry p q = absurd (q p.0 (next_told T S K J (sym nest) (sym cover) (sym history) line p.0 p.1))
one_next S T J K nest cover history line wrong.Outcome wrong.Outcome p q = refl
one_next S T J K nest cover history line wrong.Entry _ p q = absurd q
one_next S T J K nest cover history line wrong.Outcome _ p q = absurd q
one_next S T J K nest cover history line _ b p q = absurd p

-- whether the first line is a digit's
digit_is : (rest : List Line) (line : Line) → slice_get rest 0 ≡ Some line → first_is_digit rest ≡ begins_with_digit line.text
digit_is rest line is = ap (λ (o : Option Line). option_map_or (λ (l : Line). begins_with_digit l.text) o false) is

one_behind : (S T : Setting) (J K : List Entry) (i k : ℕ) (rest others : List Line) (a b : Wrong) → IsOnePlace S T J K i k rest others → IsWrongBehind S J i rest a → IsWrongBehind T K k others b → a ≡ b
one_behind S T J K i k rest others a b place (of_entry none line is digit p) (of_entry _ line2 is2 digit2 q) =
    one_next S T J K place.nest place.cover place.history line a b p
    (subst (λ (l : Line). IsWrongNext T K l b) (same_Some _ _ (sym is2 ∙ ap (λ (l : List Line). slice_get l 0) place.left ∙ is)) q)
one_behind S T J K i k rest others a b place (of_entry none line is digit p) (of_end bare q) =
    absurd (false≢true (sym (bare (place.number ∙ none)) ∙ ap first_is_digit place.left ∙ digit_is rest line is ∙ digit))
one_behind S T J K i k rest others a b place (of_end bare p) (of_entry none line is digit q) =
    absurd (false≢true (sym (bare (sym place.number ∙ none)) ∙ ap first_is_digit (sym place.left) ∙ digit_is others line is ∙ digit))
one_behind S T J K i k rest others a b place (of_end bare p) (of_end bare2 q) =
    p ∙ ap (λ n. get_or (end_kinds (length S.cover.names)) n wrong.Extra) (sym place.number) ∙ ap (λ (C : Owners). get_or (end_kinds (length C.names)) k wrong.Extra) (sym place.cover) ∙ sym q

one_kind : MeanOne → (bytes : List ℕ) (line : ℕ) (a b : Wrong) → IsExpected bytes line a → IsExpected bytes line b → a ≡ b
one_kind one bytes line a b (in_head few p) (in_head few2 q) = p ∙ sym q
one_kind one bytes line a b (in_head few p) (behind_head T K k others also at q) = absurd (omega (arith, few, at))
one_kind one bytes line a b (behind_head S J i rest is at p) (in_head few q) = absurd (omega (arith, few, at))
one_kind one bytes line a b (behind_head S J i rest is at p) (behind_head T K k others also at2 q) =
    one_behind S T J K i k rest others a b (one_place one bytes S T J K i k rest others is also (omega (arith, at, at2))) p q

-- ---- one verdict

-- a report was read to its end
read_whole : HaveNoLineEnd → (bytes : List ℕ) (count : ℕ) → (report : IsReport bytes count) → IsReadTo bytes report.setting report.history (length (behind_of report.setting report.history)) []
read_whole no_ends bytes count report =
    let S = report.setting in let J = report.history in let ends = behind_of S J in record {
      legal = report.run;
      within = omega arith;
      cut = report_cut no_ends bytes count report ∙ ap (λ (l : List (List ℕ)). ended (read_of S J ++ l)) (sym (take_all (length ends) ends (omega arith)))
          ∙ sym (append-nil (ended (read_of S J ++ take (length ends) ends)));
    }

-- two reports with one text have as many entries
same_count : HaveNoLineEnd → MeanOne → (bytes : List ℕ) (m n : ℕ) → IsReport bytes m → IsReport bytes n → m ≡ n
same_count no_ends one bytes m n is also =
    let S = is.setting in let T = also.setting in let J = is.history in let K = also.history in
    let i = length (behind_of S J) in let k = length (behind_of T K) in
    let read = read_whole no_ends bytes m is in let same = read_whole no_ends bytes n also in
    let long = ap (λ (l : List Line). length l) (sym read.cut ∙ same.cut) in
    let number : length J + i ≡ length K + k =
    omega (arith, long, length-append (ended (front_of S J i)) [], length-append (ended (front_of T K k)) [], length_front bytes S J i [] read, length_front bytes T K k [] same) in
    is.counted ∙ ap (λ (l : List Entry). length l) (sym (one_place one bytes S T J K i k [] [] read same number).history) ∙ sym also.counted

-- two first wrong lines are one, of one kind
same_wrong : MeanOne → (bytes : List ℕ) (m n : ℕ) (a b : Wrong) → IsFirstWrong bytes m a → IsFirstWrong bytes n b → Invalid m a ≡ Invalid n b
same_wrong one bytes m n a b is also =
    let number : n ≡ m = elim (cases_lt m n) [
      | inl less ↦ absurd (is.least.here (also.least.before m less))
      | inr not_less ↦ elim (cases_lt n m) [
        | inl more ↦ absurd (also.least.here (is.least.before n more))
        | inr not_more ↦ omega arith
      ]
    ] in
    ap (λ k. Invalid k a) (sym number) ∙ ap (Invalid n) (one_kind one bytes n a b (subst (λ k. IsExpected bytes k a) (sym number) is.expected) also.expected)

pub verdict_is_one : HaveNoLineEnd → MeanOne → VerdictIsOne
verdict_is_one no_ends one bytes (Valid m) (Valid n) is also = ap Valid (same_count no_ends one bytes m n is also)
verdict_is_one no_ends one bytes (Valid m) (Invalid n b) is also = absurd (also.least.here (record { report = bytes; count = m; is_report = is; same = refl }))
verdict_is_one no_ends one bytes (Invalid m a) (Valid n) is also = absurd (is.least.here (record { report = bytes; count = n; is_report = also; same = refl }))
verdict_is_one no_ends one bytes (Invalid m a) (Invalid n b) is also = same_wrong one bytes m n a b is also
