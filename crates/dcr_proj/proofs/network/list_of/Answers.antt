use Rattle.std.proofs.Common.{◌≡◌, ◌∙◌, [], ◌∷◌, ◌++◌, ap, sym, arith}
use Rattle.std.proofs.lemmas.List.{get_or_read}
use Rattle.dcr_set.specs.EventSet.{has}
use Rattle.dcr_proj.proofs.NetworkLemmas.{hears, passing_more, passing_same, all_tried}
use Rattle.dcr_proj.proofs.network.list_of.Goals as goal
use Rattle.dcr_proj.proofs.network.list_of.Goals.{After-contains, then-contains+in_ok-push, else-contains}

tested : (c : After-contains) → c.contains.result ≡ hears c.args.alphabets.now c.args.e c.loop-i.i
tested c = c.contains.ensures ∙ ap (λ s. has s c.args.e) (get_or_read c.args.alphabets.now c.loop-i.i c.index-alphabets-i.result (omega (arith, c.loop-i-test.true)) c.index-alphabets-i.is [])

pub loop-i-preserved : goal.loop-i-preserved
loop-i-preserved c = elim c.if-contains.branch [
  | then-contains+in_ok-push w ↦
      ap (λ v. v.items) w.list-is ∙ w.in_ok-push.ensures.items ∙ ap (λ list. list ++ c.loop-i.i ∷ []) c.loop-i.invariant
      ∙ sym (passing_more c.loop-i.i (hears c.args.alphabets.now c.args.e) (sym (tested (goal.at.loop-i-preserved c).After-contains) ∙ w.if-contains.true))
  | else-contains w ↦
      ap (λ v. v.items) w.list-is ∙ c.loop-i.invariant
      ∙ sym (passing_same c.loop-i.i (hears c.args.alphabets.now c.args.e) (sym (tested (goal.at.loop-i-preserved c).After-contains) ∙ w.if-contains.false))
]

pub returns : goal.returns
returns c = c.loop-i.invariant ∙ all_tried c.args.alphabets.now c.args.e c.loop-i.i (omega arith)
