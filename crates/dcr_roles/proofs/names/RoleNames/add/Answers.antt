use Rattle.std.proofs.Common.{◌≡◌, [], ◌∷◌, ◌++◌, length, sym, ap, subst, ◌∙◌, arith}
use Rattle.dcr_graph.specs.Names.{is_name}
use Rattle.dcr_roles.specs.Numbering.{IsNumbering}
use Rattle.dcr_roles.proofs.NumberLemmas.{goes_on_more, number_last, numbering_more}
use Rattle.dcr_roles.proofs.names.RoleNames.add.Goals as goal

pub returns-clause-numbered : goal.returns-clause-numbered
returns-clause-numbered c =
    let names = c.args.self.now.names.items in
    let many : c.len-number.result ≡ length names = omega (arith, c.len-number.ensures, c.args.self.now.names.ok.0) in
    subst (IsNumbering c.put.new.numbers) (sym (c.in_ok-push.ensures.items ∙ ap (λ name. names ++ name ∷ []) (sym c.requires.same)))
    (numbering_more c.args.self.now.numbers c.put.new.numbers names c.args.text.now c.len-number.result c.requires.numbered (ap is_name c.requires.same ∙ c.requires.named) c.requires.new many c.in_ok-put.ensures)

pub returns-clause-goes_on : goal.returns-clause-goes_on
returns-clause-goes_on c = goes_on_more c.args.self.now.names.items c.push.new.self.items _ c.in_ok-push.ensures.items

pub returns-clause-number : goal.returns-clause-number
returns-clause-number c =
    let names = c.args.self.now.names.items in
    let many : c.len-number.result ≡ length names = omega (arith, c.len-number.ensures, c.args.self.now.names.ok.0) in
    number_last names c.push.new.self.items _ c.args.text.now c.len-number.result c.in_ok-push.ensures.items many c.requires.same
