-- Texts of keys: what they begin with is one key, one line, and one list of lines.
use Rattle.std.proofs.Common.{◌≡◌, ◌≢◌, ℕ, zero, suc, ◌+◌, ◌<◌, ◌≤◌, List, [], ◌∷◌, ◌++◌, length, take, drop, get_or, Option, Some, None, unwrap_or, Result, Ok, Err, refl, sym, ap, subst, ◌∙◌, arith, drop-cons}
use Rattle.std.specs.Prelude.{MatchOption}
use Rattle.std.specs.Result.{result_ok, result_unwrap_or}
use Rattle.std.proofs.Math.Seq.{drop-append-add, drop-append_seam, take-append_seam}
use Rattle.std.proofs.lemmas.List.{get_or-drop, length-append, take-append-drop, take_more}
use Rattle.hex.specs.Hex.{decode_sized}
use Rattle.hex.specs.declared.error.FromHexError.{FromHexError}
use Rattle.hex.proofs.HexLemmas.{decode_sized-ok}
use Rattle.dcr_greet.specs.KeyText.{BeginsWithKey, BeginsWithLine, BeginsWithLines, IsWrongLine}
use Rattle.dcr_greet.specs.Laws.{WrongLinesAreWrong}
use Rattle.dcr_greet.specs.declared.stop.KeysStop.{KeysStop}
use Rattle.dcr_greet.specs.declared.stop.KeysStop.TheVariants.{NoMemory, Wrong}

-- ---- one key

abbrev ok_bytes : Result (List ℕ) FromHexError → List ℕ
ok_bytes r = result_unwrap_or r []

-- the digits are the first 64 bytes, and the line end and the rest stand behind them
pub key_places : (text key rest : List ℕ) → BeginsWithKey text key rest → (decode_sized (take 64 text) 32 ≡ Ok key) × (drop 64 text ≡ 10 ∷ rest) × (65 ≤ length text)
key_places text key rest begun =
    let long : length begun.digits ≡ 64 = decode_sized-ok begun.digits 32 key begun.decoded in
    let front : take 64 text ≡ begun.digits = ap (take 64) begun.spelled ∙ ap (λ n. take n (begun.digits ++ 10 ∷ rest)) (sym long) ∙ take-append_seam begun.digits (10 ∷ rest) in
    let behind : drop 64 text ≡ 10 ∷ rest = ap (drop 64) begun.spelled ∙ ap (λ n. drop n (begun.digits ++ 10 ∷ rest)) (sym long) ∙ drop-append_seam begun.digits (10 ∷ rest) in
    let all : length text ≡ length begun.digits + length (10 ∷ rest) = ap (λ (l : List ℕ). length l) begun.spelled ∙ length-append begun.digits (10 ∷ rest) in
    (ap (λ d. decode_sized d 32) front ∙ begun.decoded, behind, omega (arith, long, all))

pub line_end : (text key rest : List ℕ) → BeginsWithKey text key rest → get_or text 64 0 ≡ 10
line_end text key rest begun = sym (get_or-drop 64 text 0 0) ∙ ap (λ l. get_or l 0 0) (key_places text key rest begun).1

pub one_key : (text key other rest more : List ℕ) → BeginsWithKey text key rest → BeginsWithKey text other more → (key ≡ other) × (rest ≡ more)
one_key text key other rest more first second =
    let a = key_places text key rest first in
    let b = key_places text other more second in
    (ap ok_bytes (sym a.0 ∙ b.0), ap (drop 1) (sym a.1 ∙ b.1))

pub key_found : (text key : List ℕ) → 65 ≤ length text → get_or text 64 0 ≡ 10 → decode_sized (take 64 text) 32 ≡ Ok key → BeginsWithKey text key (drop 65 text)
key_found text key within ends decoded = record {
  digits = take 64 text;
  spelled = sym (take-append-drop 64 text) ∙ ap (λ l. take 64 text ++ l) (drop-cons text 64 0 (omega (arith, within)) ∙ ap (λ b. b ∷ drop 65 text) ends);
  decoded = decoded;
}

ok_of : (r : Result (List ℕ) FromHexError) (key : List ℕ) → result_ok r ≡ Some key → r ≡ Ok key
ok_of (Ok found) key is = ap Ok (ap (λ o. unwrap_or o []) is)
ok_of (Err e) key is = cc is

-- what the first 64 bytes decode to is the key, or there is none
pub key_read : (text digits key : List ℕ) (r : Result (List ℕ) FromHexError) (found : Option (List ℕ)) → 65 ≤ length text → get_or text 64 0 ≡ 10 → digits ≡ take 64 text
    → r ≡ decode_sized digits 32 → found ≡ result_ok r → found ≡ Some key → BeginsWithKey text key (drop 65 text)
key_read text digits key r found within ends front decoded is some =
    key_found text key within ends (ap (λ d. decode_sized d 32) (sym front) ∙ sym decoded ∙ ok_of r key (sym is ∙ some))

pub no_key : (text digits : List ℕ) (r : Result (List ℕ) FromHexError) (found : Option (List ℕ)) → digits ≡ take 64 text → r ≡ decode_sized digits 32 → found ≡ result_ok r → found ≡ None
    → (key rest : List ℕ) → BeginsWithKey text key rest → ⊥
no_key text digits r found front decoded is none key rest begun =
    let never : None ≡ Some key = sym none ∙ is ∙ ap result_ok (decoded ∙ ap (λ d. decode_sized d 32) front ∙ (key_places text key rest begun).0) in
    cc never

-- ---- one line

pub line_places : (site text behind : List ℕ) → text ≡ site ++ 32 ∷ behind → drop (length site) text ≡ 32 ∷ behind
line_places site text behind is = ap (drop (length site)) is ∙ drop-append_seam site (32 ∷ behind)

pub one_line : (site text key other rest more : List ℕ) → BeginsWithLine site text key rest → BeginsWithLine site text other more → (key ≡ other) × (rest ≡ more)
one_line site text key other rest more first second =
    let same : first.behind ≡ second.behind = ap (drop 1) (sym (line_places site text first.behind first.named) ∙ line_places site text second.behind second.named) in
    one_key second.behind key other rest more (subst (λ t. BeginsWithKey t key rest) same first.keyed) second.keyed

pub line_found : (site text behind key : List ℕ) → text ≡ site ++ 32 ∷ behind → BeginsWithKey behind key (drop 65 behind) → BeginsWithLine site text key (drop (length site + 66) text)
line_found site text behind key named keyed =
    let rest : drop (length site + 66) text ≡ drop 65 behind = ap (drop (length site + 66)) named ∙ drop-append-add site (32 ∷ behind) 66 in
    record { behind = behind; named = named; keyed = subst (BeginsWithKey behind key) (sym rest) keyed }

pub line_long : (site text key rest : List ℕ) → BeginsWithLine site text key rest → length site + 66 ≤ length text
line_long site text key rest begun =
    let all = ap (λ (l : List ℕ). length l) begun.named ∙ length-append site (32 ∷ begun.behind) in
    let many = (key_places begun.behind key rest begun.keyed).2 in
    omega (arith, all, many)

-- behind a site's name and a blank stands what is read as its key
pub line_read : (site text rest behind : List ℕ) (read : Option (List ℕ)) → text ≡ site ++ rest → rest ≡ 32 ∷ behind
    → MatchOption read ((key more : List ℕ) → BeginsWithKey behind key more → ⊥) (λ key. BeginsWithKey behind key (drop 65 behind))
    → MatchOption read ((key more : List ℕ) → BeginsWithLine site text key more → ⊥) (λ key. BeginsWithLine site text key (drop (length site + 66) text))
line_read site text rest behind None named blank none = λ key more line.
    let here : drop (length site) text ≡ 32 ∷ behind = line_places site text behind (named ∙ ap (λ l. site ++ l) blank) in
    let same : line.behind ≡ behind = ap (drop 1) (sym (line_places site text line.behind line.named) ∙ here) in
    none key more (subst (λ t. BeginsWithKey t key more) same line.keyed)
line_read site text rest behind (Some key) named blank keyed = line_found site text behind key (named ∙ ap (λ l. site ++ l) blank) keyed

-- ---- all lines

pub lines_more : (sites : List (List ℕ)) (text : List ℕ) (keys : List (List ℕ)) (mid site key rest : List ℕ) → BeginsWithLines sites text keys mid → BeginsWithLine site mid key rest
    → BeginsWithLines (sites ++ site ∷ []) text (keys ++ key ∷ []) rest
unfolding BeginsWithLines
lines_more [] text [] mid site key rest begun line = (rest, subst (λ t. BeginsWithLine site t key rest) (sym begun) line, refl)
lines_more [] text (k ∷ keys) mid site key rest begun line = absurd begun
lines_more (s ∷ sites) text [] mid site key rest begun line = absurd begun
lines_more (s ∷ sites) text (k ∷ keys) mid site key rest begun line = (begun.0, begun.1, lines_more sites begun.0 keys mid site key rest begun.2 line)

pub no_lines : (text : List ℕ) → BeginsWithLines [] text [] text
unfolding BeginsWithLines
no_lines text = refl

-- one more line
pub lines_next : (sites : List (List ℕ)) (text : List ℕ) (keys next : List (List ℕ)) (rest site key behind more : List ℕ) (i : ℕ) → i < length sites → BeginsWithLines (take i sites) text keys rest
    → site ≡ get_or sites i [] → next ≡ keys ++ key ∷ [] → more ≡ behind → BeginsWithLine site rest key behind → BeginsWithLines (take (i + 1) sites) text next more
lines_next sites text keys next rest site key behind more i below begun is next_is more_is line =
    let one = lines_more (take i sites) text keys rest site key behind begun line in
    let all : take i sites ++ site ∷ [] ≡ take (i + 1) sites = ap (λ s. take i sites ++ s ∷ []) is ∙ sym (take_more sites i [] below) in
    subst (λ s. BeginsWithLines s text next more) all
    (subst (λ k. BeginsWithLines (take i sites ++ site ∷ []) text k more) (sym next_is) (subst (BeginsWithLines (take i sites ++ site ∷ []) text (keys ++ key ∷ [])) (sym more_is) one))

-- the next line is the first wrong one
pub line_wrong : (sites items : List (List ℕ)) (text : List ℕ) (keys : List (List ℕ)) (rest site : List ℕ) (i line : ℕ) → items ≡ sites → i < length items → BeginsWithLines (take i items) text keys rest
    → line ≡ i + 1 → site ≡ get_or items i [] → ((key behind : List ℕ) → BeginsWithLine site rest key behind → ⊥) → IsWrongLine sites text line
line_wrong sites items text keys rest site i line same below begun number is none =
    let fewer : i < length sites = subst (λ (s : List (List ℕ)). i < length s) same below in
    record {
      before = i;
      number = number;
      within = omega (arith, fewer);
      keys = keys;
      rest = rest;
      right = subst (λ s. BeginsWithLines (take i s) text keys rest) same begun;
      wrong = λ _ key behind begins. none key behind (subst (λ n. BeginsWithLine n rest key behind) (sym (is ∙ ap (λ s. get_or s i []) same)) begins);
      more = λ all. absurd (omega (arith, fewer, all));
    }

abbrev stop_line : KeysStop → ℕ
stop_line (Wrong line) = line
stop_line NoMemory = 0

abbrev pub err_line : {T : Type 0} → Result T KeysStop → ℕ
err_line (Ok keys) = 0
err_line (Err stop) = stop_line stop

not_both : (sites : List (List ℕ)) (text : List ℕ) (before : ℕ) (keys : List (List ℕ)) (rest : List ℕ) (all : List (List ℕ)) → BeginsWithLines (take before sites) text keys rest
    → BeginsWithLines sites text all [] → before ≤ length sites → (before < length sites → (key behind : List ℕ) → BeginsWithLine (get_or sites before []) rest key behind → ⊥)
    → (before ≡ length sites → rest ≢ []) → ⊥
unfolding BeginsWithLines
not_both [] text zero [] rest [] begun whole within wrong more = more refl (sym begun ∙ whole)
not_both [] text zero (k ∷ keys) rest all begun whole within wrong more = absurd begun
not_both [] text zero [] rest (k ∷ all) begun whole within wrong more = absurd whole
not_both [] text (suc n) keys rest all begun whole within wrong more = absurd (omega (arith, within))
not_both (s ∷ sites) text zero [] rest [] begun whole within wrong more = absurd whole
not_both (s ∷ sites) text zero [] rest (k ∷ all) begun whole within wrong more =
    wrong (omega arith) k whole.0 (subst (λ t. BeginsWithLine s t k whole.0) begun whole.1)
not_both (s ∷ sites) text zero (k ∷ keys) rest all begun whole within wrong more = absurd begun
not_both (s ∷ sites) text (suc n) [] rest all begun whole within wrong more = absurd begun
not_both (s ∷ sites) text (suc n) (k ∷ keys) rest [] begun whole within wrong more = absurd whole
not_both (s ∷ sites) text (suc n) (k ∷ keys) rest (l ∷ all) begun whole within wrong more =
    let same = (one_line s text k l begun.0 whole.0 begun.1 whole.1).1 in
    not_both sites begun.0 n keys rest all begun.2 (subst (λ t. BeginsWithLines sites t all []) (sym same) whole.2) (omega (arith, within))
    (λ below. wrong (omega (arith, below))) (λ is. more (omega (arith, is)))

pub wrong_is_wrong : WrongLinesAreWrong
wrong_is_wrong sites text line keys wrong whole = not_both sites text wrong.before wrong.keys wrong.rest keys wrong.right whole wrong.within wrong.wrong wrong.more
