use Rattle.std.proofs.Common.{◌≡◌, None, get_or, refl, ap, subst, ◌∙◌}
use Rattle.std.specs.Result.{IfOk}
use Rattle.dcr_set.specs.EventSet.{has}
use Rattle.dcr_graph.specs.GraphValue.{rules_of}
use Rattle.dcr_graph.specs.Projection.{local_rules}
use Rattle.dcr_part.specs.Told.{told, told_names}
use Rattle.dcr_part.specs.Whole.{whole, part_of}
use Rattle.std.specs.Option.{is_some}
use Rattle.dcr_part.proofs.TextLemmas.{text_same}
use Rattle.dcr_part.proofs.WholeLemmas.{cut_is, told_some, written_is}
use Rattle.dcr_part.proofs.write.part_text.Goals as goal

pub written-requires-clause-named : goal.written-requires-clause-named
written-requires-clause-named c = λ e heard.
    ap (λ names. is_some (get_or names e None)) (c.deref.ensures.value ∙ c.in_ok-names.ensures)
    ∙ told_some c.alphabet.result.now c.args.graph.now.names e (ap (λ s. has s e) c.alphabet.ensures.alphabet ∙ heard)

pub returns : goal.returns
returns c =
    let G = rules_of c.args.graph.now in let P = c.in_ok-projection.projection in let head = c.args.head.now in let own = c.args.own.now in let opening = c.args.opening.now in
    let names = c.deref.result.now in let mark = c.start-mark.result in
    let W = whole head c.args.graph.now.names G own opening in
    subst (λ written. IfOk c.written.result (λ text. text.items ≡ written))
    (text_same (told head (local_rules G P.own) P.own P.alphabet names mark) (part_of W)
    (written_is W head G P names mark refl refl (λ _ _ _ _ _. refl) c.in_ok-projection.ensures
    (c.deref.ensures.value ∙ c.in_ok-names.ensures ∙ ap (λ s. told_names s c.args.graph.now.names) (c.alphabet.ensures.alphabet ∙ ap (λ Q. Q.alphabet) c.in_ok-projection.ensures))
    (c.start-mark.ensures.cut ∙ cut_is G own P opening c.in_ok-projection.ensures c.requires.opening)))
    c.written.ensures
