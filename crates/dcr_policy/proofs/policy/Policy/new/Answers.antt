use Rattle.std.proofs.Common.{◌≡◌, ◌<◌, length, map, ap, sym, subst, ◌∙◌, arith}
use Rattle.std.specs.List.{All}
use Rattle.std.proofs.lemmas.List.{length-map}
use Rattle.std.proofs.lemmas.List.Elements.{All-same}
use Rattle.dcr_nest.specs.Nest.{parents_of}
use Rattle.dcr_nest.specs.Tree.{AreEarlier, Parents, atoms}
use Rattle.dcr_nest.specs.declared.node.Node.{Node}
use Rattle.dcr_nest.proofs.AtomLemmas.{atoms-within}
use Rattle.dcr_policy.specs.Numbered.{all_named}
use Rattle.dcr_policy.specs.Roles.{roles_of}
use Rattle.dcr_policy.specs.Sets.{asking_for}
use Rattle.dcr_policy.proofs.PolicyLemmas.{seen_as}
use Rattle.dcr_policy.proofs.policy.Policy.new.Goals as goal

pub invariant_of-result : goal.invariant_of-result
invariant_of-result c =
    let k = c.in_ok-parents.field-0 in
    let e = c.in_ok-parents.ensures in
    let nodes = c.args.nested.now.nodes in
    let parents = parents_of nodes in
    let own = c.args.own.items in
    let users = c.args.users.items in
    let many : length parents ≡ length nodes = length-map nodes (λ (node : Node). node.parent) in
    let W : Parents → Type 0 = λ ps. All (λ node. node < length ps) k.nodes.items in
    record {
      distinct = c.requires.distinct;
      earlier = subst AreEarlier (sym e.parents) e.earlier;
      most_atoms = omega (arith, ap (λ xs. length xs) e.nodes, e.most);
      as_many = c.requires.as_many ∙ sym many ∙ sym (ap (λ ps. length ps) e.parents);
      nodes = subst W (sym e.parents) (All-same (λ node. node < length parents) k.nodes.items (atoms parents) e.nodes (atoms-within parents));
      own = c.requires.own;
      users = c.requires.users;
      by = c.requires.by;
      may =
          e.may
          ∙ ap (map (asking_for parents c.deref.result.now (atoms parents))) c.deref-2.ensures.value
          ∙ ap (λ lists. map (asking_for parents lists (atoms parents)) users) c.deref.ensures.value
          ∙ ap (λ ps. map (asking_for ps own (atoms parents)) users) (sym e.parents)
          ∙ ap (λ ns. map (asking_for k.parents.items own ns) users) (sym e.nodes);
    }

pub returns : goal.returns
returns c =
    let k = c.in_ok-parents.field-0 in
    let e = c.in_ok-parents.ensures in
    let names = c.args.names.items in
    let own = c.args.own.items in
    let users = c.args.users.items in
    seen_as names k.parents.items own users k.nodes.items c.args.by.items (e.nodes ∙ ap atoms (sym e.parents))
    ∙ ap (λ ps. roles_of ps (all_named names own) (all_named names users) c.args.by.items) e.parents
