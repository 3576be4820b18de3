use Rattle.std.proofs.Common.{sym, ◌∙◌, arith}
use Rattle.std.proofs.lemmas.Option.{none-some, same_Some, MatchOption-at_none, MatchOption-at_some}
use Rattle.serde_json.specs.View.{view}
use Rattle.dcr_part.proofs.MemberLemmas.{atoms_in}
use Rattle.dcr_part.proofs.fields.read_fields.Goals as goal

pub returns-in_default-clause-read : goal.returns-in_default-clause-read
returns-in_default-clause-read c = λ P it is.
    let few = it.atoms in none-some P.rules.atoms (c.in_default.ensures.read P.rules.atoms (omega arith) (atoms_in P (view c.args.value.now) is))

pub returns-in_default-2-clause-read : goal.returns-in_default-2-clause-read
returns-in_default-2-clause-read c = λ P it is. none-some P.head (sym c.in_default-2.is ∙ c.in_ok-head.ensures.read P it is)

pub returns-in_default-3-clause-read : goal.returns-in_default-3-clause-read
returns-in_default-3-clause-read c = λ P it is.
    let few = it.atoms in
    let atoms = same_Some _ _ (c.in-Some.ensures.read P.rules.atoms (omega arith) (atoms_in P (view c.args.value.now) is)) in
    MatchOption-at_none _ _ c.in_default-3.is (c.in_ok-alphabet.ensures.read P it (sym atoms) is)

pub returns-in_default-4-clause-read : goal.returns-in_default-4-clause-read
returns-in_default-4-clause-read c = λ P it is.
    let few = it.atoms in
    let atoms = same_Some _ _ (c.in-Some.ensures.read P.rules.atoms (omega arith) (atoms_in P (view c.args.value.now) is)) in
    MatchOption-at_none _ _ c.in_default-4.is (c.in_ok-tables.ensures.read P (sym atoms) is)

pub returns-in_default-read_opening-clause-read : goal.returns-in_default-read_opening-clause-read
returns-in_default-read_opening-clause-read c = λ P it is.
    let few = it.atoms in
    let atoms = same_Some _ _ (c.in-Some.ensures.read P.rules.atoms (omega arith) (atoms_in P (view c.args.value.now) is)) in
    none-some _ (c.in_default-read_opening.ensures.read P it (sym atoms) is)

pub returns-clause-read : goal.returns-clause-read
returns-clause-read c = λ P it is.
    let few = it.atoms in
    let atoms = same_Some _ _ (c.in-Some.ensures.read P.rules.atoms (omega arith) (atoms_in P (view c.args.value.now) is)) in
    let alphabet = MatchOption-at_some _ _ c.in-Some-3.alphabet c.in-Some-3.is (c.in_ok-alphabet.ensures.read P it (sym atoms) is) in
    let tables = MatchOption-at_some _ _ c.in-Some-4.tables c.in-Some-4.is (c.in_ok-tables.ensures.read P (sym atoms) is) in
    record {
      head = same_Some _ _ (sym c.in-Some-2.is ∙ c.in_ok-head.ensures.read P it is);
      own = alphabet.0;
      names = alphabet.1;
      tables = tables;
      opening = same_Some _ _ (c.in-Some-read_opening.ensures.read P it (sym atoms) is);
    }
