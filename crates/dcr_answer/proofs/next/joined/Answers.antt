use Rattle.std.proofs.Common.{◌≡◌, ℕ, List, [], ◌∷◌, ◌++◌, length, take, drop, refl, ap, ◌∙◌, append-nil, arith, length-append, length-drop}
use Rattle.std.proofs.lemmas.List.{take_at, drop_all}
use borrow.Rule.Slice.PartMut.{post_of, put_mid}
use Rattle.dcr_answer.proofs.next.joined.Goals as goal

-- what is put over the last two bytes stands behind the first twelve
put_behind : (one two zeros : List ℕ) → length one ≡ 12 → length zeros ≡ 2 → put_mid 12 2 (one ++ zeros) two ≡ one ++ two
put_behind one two zeros long few =
    let front : take 12 (one ++ zeros) ≡ one = take_at one zeros 12 long in
    let all = length-append one zeros in
    let left = length-drop 12 (one ++ zeros) in
    let none : post_of 12 2 (one ++ zeros) ≡ [] = drop_all 2 (drop 12 (one ++ zeros)) (omega arith) in
    ap (λ f. f ++ (two ++ post_of 12 2 (one ++ zeros))) front ∙ ap (λ p. one ++ (two ++ p)) none ∙ ap (λ t. one ++ t) (append-nil two)

pub returns : goal.returns
returns c =
    let one : c.copy_from_slice.new.self ≡ c.args.first.now = c.copy_from_slice.ensures.after in
    let two : c.copy_from_slice-2.new.self ≡ c.args.last.now = c.copy_from_slice-2.ensures.after in
    let same = ap (λ (l : List ℕ). length l) one in
    let long : length c.copy_from_slice.new.self ≡ 12 = omega arith in
    put_behind c.copy_from_slice.new.self c.copy_from_slice-2.new.self (0 ∷ 0 ∷ []) long refl
    ∙ ap (λ o. o ++ c.copy_from_slice-2.new.self) one ∙ ap (λ t. c.args.first.now ++ t) two
