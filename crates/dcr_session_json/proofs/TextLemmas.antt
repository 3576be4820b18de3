-- The texts of calls: they are UTF-8, and short.
use Rattle.std.proofs.Common.{◌≡◌, ℕ, suc, ◌+◌, ◌≤◌, codes, List, [], ◌∷◌, ◌++◌, length, get_or, IsUtf8, refl, arith}
use Rattle.std.proofs.lemmas.List.{length-append}
use Rattle.std.proofs.lemmas.List.Elements.{recursion_from_All}
use Rattle.std.proofs.lemmas.Str.{IsUtf8-append}
use Rattle.json.specs.Print.{escape_byte, escape}
use Rattle.json.proofs.Printed.Utf8.{IsUtf8-are_ascii}
use Rattle.dcr_journal.specs.declared.call.Call.{Call}
use Rattle.dcr_journal.specs.declared.call.Call.TheVariants.{Exec, Look, Enabled, Accepting}
use Rattle.dcr_line.specs.Line.{call_text}
use Rattle.dcr_format.specs.Texts.{AreAllNames}
use Rattle.dcr_format.proofs.EscapeLemmas.{escape_any}
use Rattle.dcr_format.proofs.NameLemmas.{names_utf8}
use Rattle.dcr_format.proofs.Utf8Lemmas.{name_utf8}

any_utf8 : (names : List (List ℕ)) → AreAllNames names → (x : ℕ) → IsUtf8 (get_or names x [])
any_utf8 names are x = name_utf8 names (recursion_from_All IsUtf8 names (names_utf8 names are)) x

behind : (word text : List ℕ) → IsUtf8 word → IsUtf8 text → IsUtf8 (word ++ 32 ∷ text)
behind word text w t = IsUtf8-append word (32 ∷ text) w (IsUtf8-append (32 ∷ []) text (IsUtf8-are_ascii (32 ∷ []) refl) t)

pub call_utf8 : (sites names : List (List ℕ)) → AreAllNames sites → AreAllNames names → (call : Call) → IsUtf8 (call_text sites names call)
call_utf8 sites names named are (Exec i e) =
    behind (codes "exec") (get_or sites i [] ++ 32 ∷ get_or names e []) (IsUtf8-are_ascii (codes "exec") refl)
    (behind (get_or sites i []) (get_or names e []) (any_utf8 sites named i) (any_utf8 names are e))
call_utf8 sites names named are (Look i) = behind (codes "look") (get_or sites i []) (IsUtf8-are_ascii (codes "look") refl) (any_utf8 sites named i)
call_utf8 sites names named are (Enabled i) = behind (codes "enabled") (get_or sites i []) (IsUtf8-are_ascii (codes "enabled") refl) (any_utf8 sites named i)
call_utf8 sites names named are Accepting = IsUtf8-are_ascii (codes "accepting") refl

-- the escaped bytes of two texts, one behind the other
escape_both : (xs ys : List ℕ) → length (escape (xs ++ ys)) ≡ length (escape xs) + length (escape ys)
escape_both [] ys = let same : length (escape ([] ++ ys)) ≡ length (escape ys) = refl in let none : length (escape []) ≡ 0 = refl in omega arith
escape_both (x ∷ xs) ys =
    let whole : length (escape (x ∷ xs ++ ys)) ≡ length (escape_byte x) + length (escape (xs ++ ys)) = length-append (escape_byte x) (escape (xs ++ ys)) in
    let parts : length (escape (x ∷ xs)) ≡ length (escape_byte x) + length (escape xs) = length-append (escape_byte x) (escape xs) in
    let later = escape_both xs ys in omega arith

behind_space : (word : List ℕ) → length (escape (32 ∷ word)) ≡ suc (length (escape word))
unfolding escape_byte
behind_space word = refl

word_exec : (word : List ℕ) → length (escape (codes "exec" ++ word)) ≡ suc (suc (suc (suc (length (escape word)))))
unfolding escape_byte
word_exec word = refl

word_look : (word : List ℕ) → length (escape (codes "look" ++ word)) ≡ suc (suc (suc (suc (length (escape word)))))
unfolding escape_byte
word_look word = refl

word_enabled : (word : List ℕ) → length (escape (codes "enabled" ++ word)) ≡ suc (suc (suc (suc (suc (suc (suc (length (escape word))))))))
unfolding escape_byte
word_enabled word = refl

word_accepting : length (escape (codes "accepting")) ≡ 9
unfolding escape_byte
word_accepting = refl

pub escape_call : (sites names : List (List ℕ)) → AreAllNames sites → AreAllNames names → (call : Call) → length (escape (call_text sites names call)) ≤ 134
escape_call sites names named are (Exec i e) =
    let site = get_or sites i [] in
    let name = get_or names e [] in
    let word = word_exec (32 ∷ (site ++ 32 ∷ name)) in
    let first = behind_space (site ++ 32 ∷ name) in
    let both = escape_both site (32 ∷ name) in
    let second = behind_space name in
    let few = escape_any sites named i in let more = escape_any names are e in omega arith
escape_call sites names named are (Look i) =
    let site = get_or sites i [] in
    let word = word_look (32 ∷ site) in
    let first = behind_space site in
    let few = escape_any sites named i in omega arith
escape_call sites names named are (Enabled i) =
    let site = get_or sites i [] in
    let word = word_enabled (32 ∷ site) in
    let first = behind_space site in
    let few = escape_any sites named i in omega arith
escape_call sites names named are Accepting = let word = word_accepting in omega arith
