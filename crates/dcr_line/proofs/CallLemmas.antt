-- Call lines, both ways.
use Rattle.std.proofs.Common.{◌≡◌, ◌⊎◌, inl, inr, ℕ, Bool, true, false, cond, List, [], ◌∷◌, ◌++◌, length, codes, Some, None, Option, refl, sym, ap, subst, ◌∙◌}
use Rattle.std.specs.List.{list_all}
use Rattle.std.specs.Option.{IfSome}
use Rattle.std.specs.Str.{bytes_eq}
use Rattle.std.proofs.lemmas.List.{append-nil}
use Rattle.std.proofs.lemmas.Slice.Eq.{bytes_eq-Decides}
use Rattle.std.proofs.lemmas.Option.{option_and_then_some, same_Some}
use Rattle.dcr_graph.specs.Names.{AreDistinct}
use Rattle.dcr_journal.specs.Run.{IsInRange}
use Rattle.dcr_journal.specs.declared.call.Call.{Call}
use Rattle.dcr_journal.specs.declared.call.Call.TheVariants.{Exec, Look, Enabled, Accepting}
use Rattle.dcr_line.specs.Known.{AreNames}
use Rattle.dcr_line.specs.Line.{name_of, spaced, call_words, call_text}
use Rattle.dcr_line.specs.Words.{words_of, Front, all_of, where_last, name_from}
use Rattle.dcr_line.specs.CallLine.{CallLinesAreRead, asked_from, exec_from, call_after, call_from, call_in}
use Rattle.dcr_line.proofs.JoinLemmas.{IsSome, call_some}
use Rattle.dcr_line.proofs.NameLemmas.{name_front, name_read, name_lacks}
use Rattle.dcr_line.proofs.PiecesLemmas.{lacks, pieces_joined, joined_pieces}

-- a choice gave this: which way it went
pub chosen : {A : Type 0} (test : Bool) (x y z : A) → cond test x y ≡ z → ((test ≡ true) × (x ≡ z)) ⊎ ((test ≡ false) × (y ≡ z))
chosen {A = A} true x y z e = inl (refl, e)
chosen {A = A} false x y z e = inr (refl, e)

-- a word that passes the test is the word
pub is_word : (word known : List ℕ) → bytes_eq word known ≡ true → word ≡ known
is_word word known e = (bytes_eq-Decides word known).0 e

-- all the words were read, and none is behind
pub read_all : {A : Type 0} (front : Front A) (a : A) → all_of front ≡ Some a → front ≡ Some (a, [])
read_all {A = A} front a e = option_and_then_some (λ (read : A × List (List ℕ)). where_last read.0 read.1) front a e (λ read is last. is ∙ ap Some (ended read last))
  where
    ended : (read : A × List (List ℕ)) → where_last read.0 read.1 ≡ Some a → read ≡ (a, [])
    ended (b, []) last = ap (λ x. (x, [])) (same_Some _ _ last)
    ended (b, word ∷ words) last = absurd cc

-- the words of joined words, which have no space in them
pub words_of_spaced : (words : List (List ℕ)) → IsSome words → list_all (lacks 32) words ≡ true → words_of (spaced words) ≡ words
words_of_spaced words some lack =
    ap (λ ws. words_of (spaced ws)) some.is ∙ pieces_joined 32 some.first some.rest (ap (list_all (lacks 32)) (sym some.is) ∙ lack) ∙ sym some.is

pub spaced_words_of : (line : List ℕ) → spaced (words_of line) ≡ line
spaced_words_of line = joined_pieces 32 line

abbrev CallIs : List (List ℕ) → List (List ℕ) → List (List ℕ) → List (List ℕ) → Call → Type 0
CallIs sites names words rest call = IsInRange (length sites) (length names) call × (words ≡ call_words sites names call ++ rest)

exec_front : (sites names words rest : List (List ℕ)) (call : Call) → exec_from sites names words ≡ Some (call, rest) → CallIs sites names (codes "exec" ∷ words) rest call
exec_front sites names words rest call e =
    option_and_then_some _ (name_from sites words) _ e (λ site is_site e1.
    option_and_then_some _ (name_from names site.1) _ e1 (λ event is_event e2.
    let same : (Exec site.0 event.0, event.1) ≡ (call, rest) = same_Some _ _ e2 in
    let first = name_front sites words site.0 site.1 is_site in
    let second = name_front names site.1 event.0 event.1 is_event in
    let said : words ≡ name_of sites site.0 ∷ name_of names event.0 ∷ event.1 = first.1 ∙ ap (λ ws. name_of sites site.0 ∷ ws) second.1 in
    subst (λ (p : Call × List (List ℕ)). CallIs sites names (codes "exec" ∷ words) p.1 p.0) same ((first.0, second.0), ap (λ ws. codes "exec" ∷ ws) said)))

look_front : (sites names words rest : List (List ℕ)) (call : Call) → asked_from Look sites words ≡ Some (call, rest) → CallIs sites names (codes "look" ∷ words) rest call
look_front sites names words rest call e =
    option_and_then_some _ (name_from sites words) _ e (λ site is_site e1.
    let same : (Look site.0, site.1) ≡ (call, rest) = same_Some _ _ e1 in
    let first = name_front sites words site.0 site.1 is_site in
    subst (λ (p : Call × List (List ℕ)). CallIs sites names (codes "look" ∷ words) p.1 p.0) same (first.0, ap (λ ws. codes "look" ∷ ws) first.1))

enabled_front : (sites names words rest : List (List ℕ)) (call : Call) → asked_from Enabled sites words ≡ Some (call, rest) → CallIs sites names (codes "enabled" ∷ words) rest call
enabled_front sites names words rest call e =
    option_and_then_some _ (name_from sites words) _ e (λ site is_site e1.
    let same : (Enabled site.0, site.1) ≡ (call, rest) = same_Some _ _ e1 in
    let first = name_front sites words site.0 site.1 is_site in
    subst (λ (p : Call × List (List ℕ)). CallIs sites names (codes "enabled" ∷ words) p.1 p.0) same (first.0, ap (λ ws. codes "enabled" ∷ ws) first.1))

-- another first word
instead : (sites names words rest : List (List ℕ)) (word known : List ℕ) (call : Call) → bytes_eq word known ≡ true → CallIs sites names (known ∷ words) rest call → CallIs sites names (word ∷ words) rest call
instead sites names words rest word known call e is = (is.0, ap (λ w. w ∷ words) (is_word word known e) ∙ is.1)

-- what is read from the front of words as a call is the call's words
pub call_front : (sites names words rest : List (List ℕ)) (call : Call) → call_from sites names words ≡ Some (call, rest) → CallIs sites names words rest call
unfolding call_after
call_front sites names [] rest call e = absurd cc
call_front sites names (word ∷ words) rest call e = elim (chosen (bytes_eq word (codes "exec")) _ _ _ e) [
  | inl exec ↦ instead sites names words rest word (codes "exec") call exec.0 (exec_front sites names words rest call exec.1)
  | inr e1 ↦ elim (chosen (bytes_eq word (codes "look")) _ _ _ e1.1) [
    | inl look ↦ instead sites names words rest word (codes "look") call look.0 (look_front sites names words rest call look.1)
    | inr e2 ↦ elim (chosen (bytes_eq word (codes "enabled")) _ _ _ e2.1) [
      | inl enabled ↦ instead sites names words rest word (codes "enabled") call enabled.0 (enabled_front sites names words rest call enabled.1)
      | inr e3 ↦ elim (chosen (bytes_eq word (codes "accepting")) _ _ _ e3.1) [
        | inl accepting ↦
            let same : (Accepting, words) ≡ (call, rest) = same_Some _ _ accepting.1 in
            instead sites names words rest word (codes "accepting") call accepting.0
            (subst (λ (p : Call × List (List ℕ)). CallIs sites names (codes "accepting" ∷ words) p.1 p.0) same (tt, refl))
        | inr none ↦ absurd (let no = none.1 in cc)
      ]
    ]
  ]
]

-- and the call's words are read as the call
pub call_read : (sites names : List (List ℕ)) → AreDistinct sites → AreDistinct names → (call : Call) (rest : List (List ℕ)) → IsInRange (length sites) (length names) call
    → call_from sites names (call_words sites names call ++ rest) ≡ Some (call, rest)
unfolding call_after
call_read sites names apart_sites apart_names (Exec i e) rest within =
    rw (name_read sites apart_sites i (name_of names e ∷ rest) within.0) (rw (name_read names apart_names e rest within.1) refl)
call_read sites names apart_sites apart_names (Look i) rest within = rw (name_read sites apart_sites i rest within) refl
call_read sites names apart_sites apart_names (Enabled i) rest within = rw (name_read sites apart_sites i rest within) refl
call_read sites names apart_sites apart_names Accepting rest within = refl

-- no word of a call has a space
pub call_lacks : (sites names : List (List ℕ)) → AreNames sites → AreNames names → (call : Call) → IsInRange (length sites) (length names) call
    → list_all (lacks 32) (call_words sites names call) ≡ true
call_lacks sites names are_sites are_names (Exec i e) within =
    rw (name_lacks 32 (name_of sites i) refl (are_sites.names i [] within.0), name_lacks 32 (name_of names e) refl (are_names.names e [] within.1)) refl
call_lacks sites names are_sites are_names (Look i) within = rw (name_lacks 32 (name_of sites i) refl (are_sites.names i [] within)) refl
call_lacks sites names are_sites are_names (Enabled i) within = rw (name_lacks 32 (name_of sites i) refl (are_sites.names i [] within)) refl
call_lacks sites names are_sites are_names Accepting within = refl

-- a line that is read as a call is its text
pub call_told : (sites names : List (List ℕ)) (line : List ℕ) (call : Call) → call_in sites names line ≡ Some call
    → IsInRange (length sites) (length names) call × (line ≡ call_text sites names call)
unfolding call_in
call_told sites names line call e =
    let told = call_front sites names (words_of line) [] call (read_all (call_from sites names (words_of line)) call e) in
    (told.0, sym (spaced_words_of line) ∙ ap spaced (told.1 ∙ append-nil (call_words sites names call)))

-- and the text of a call is read as it
pub call_text_read : (sites names : List (List ℕ)) → AreNames sites → AreNames names → (call : Call) → IsInRange (length sites) (length names) call
    → call_in sites names (call_text sites names call) ≡ Some call
unfolding call_in
call_text_read sites names are_sites are_names call within =
    let same : words_of (call_text sites names call) ≡ call_words sites names call ++ [] =
    words_of_spaced (call_words sites names call) (call_some sites names call) (call_lacks sites names are_sites are_names call within)
    ∙ sym (append-nil (call_words sites names call)) in
    ap (λ ws. all_of (call_from sites names ws)) same ∙ ap all_of (call_read sites names are_sites.distinct are_names.distinct call [] within)

pub call_lines : CallLinesAreRead
call_lines sites names are_sites are_names line call = (
  λ e. call_told sites names line call e,
  λ h. ap (call_in sites names) h.1 ∙ call_text_read sites names are_sites are_names call h.0,
)

-- what is read is a call of these sites and atoms
pub call_in_range : (sites names : List (List ℕ)) (line : List ℕ) (found : Option Call) → found ≡ call_in sites names line → IfSome found (λ call. IsInRange (length sites) (length names) call)
call_in_range sites names line None e = tt
call_in_range sites names line (Some call) e = (call_told sites names line call (sym e)).0
