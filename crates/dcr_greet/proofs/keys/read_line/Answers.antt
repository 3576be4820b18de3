use Rattle.std.proofs.Common.{ℕ, ◌+◌, List, [], ◌∷◌, Some, None, MatchOption, drop, length, sym, subst}
use Rattle.std.proofs.lemmas.Bool.Decides.{Decides-eqb}
use Rattle.std.proofs.lemmas.Slice.Eq.{strip_prefix_is}
use Rattle.dcr_greet.specs.KeyText.{BeginsWithLine}
use Rattle.dcr_greet.proofs.KeyLemmas.{line_read}
use Rattle.dcr_greet.proofs.keys.read_line.Goals as goal

pub returns-in_err-rest : goal.returns-in_err-rest
returns-in_err-rest c =
    let text = c.args.text.now in
    let site = c.args.site.now in
    let other = strip_prefix_is Decides-eqb text site None c.in_err-rest.ensures.cases in
    subst (λ r. MatchOption r ((key rest : List ℕ) → BeginsWithLine site text key rest → ⊥) (λ key. BeginsWithLine site text key (drop (length site + 66) text))) (sym c.from_residual.ensures)
    (λ key rest line. other (32 ∷ line.behind) line.named)

pub returns : goal.returns
returns c =
    let text = c.args.text.now in
    let site = c.args.site.now in
    let rest = c.in_ok-rest.rest.now in
    let behind = c.in_ok-behind.behind.now in
    line_read site text rest behind c.read_front.result (strip_prefix_is Decides-eqb text site (Some c.in_ok-rest.rest) c.in_ok-rest.ensures.cases)
    (strip_prefix_is Decides-eqb rest (32 ∷ []) (Some c.in_ok-behind.behind) c.in_ok-behind.ensures.cases) c.read_front.ensures
