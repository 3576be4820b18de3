use Rattle.std.proofs.Common.{◌≡◌, ◌<◌, ℕ, Bool, List, length, sym, ap, ◌∙◌}
use Rattle.dcr_set.specs.EventSet.{Set, has, those}
use Rattle.dcr_set.proofs.SetLemmas.{has-those}
use Rattle.dcr_graph.specs.GraphValue.{rules_of}
use Rattle.dcr_adapt.specs.Carried.{is_carried, keeps_executed, keeps_included, keeps_pending}
use Rattle.dcr_adapt.proofs.CarriedLemmas.{carried_same, covers, executed_kept, included_kept, marking_is, pending_kept, room_of}
use Rattle.dcr_adapt.proofs.carrying.carry.Goals as goal

-- what was carried by the index is carried by the names
carried_to : (index names next : List (List ℕ)) (had other : ℕ → Bool) (given s : Set) → s ≡ those (length next) (is_carried index had next given) → index ≡ names
    → ((a : ℕ) → a < length names → had a ≡ other a) → s ≡ those (length next) (is_carried names other next given)
carried_to index names next had other given s e same alike =
    e ∙ ap (λ ns. those (length next) (is_carried ns had next given)) same ∙ carried_same names next had other given alike

pub returns-clause-carried : goal.returns-clause-carried
returns-clause-carried c = λ M are.
    let graph = c.args.graph.now in let G = rules_of graph in let C = c.args.cover.now.owned in let marks = c.args.marks.now in
    let next = c.args.next.now.graph.names in let opening = c.args.next.now.opening in
    let told = c.carry_each.ensures in
    let same = c.owned_sets.ensures.owned in let D = c.owned_sets.result.now in
    let owned = covers (length graph.names) c.args.cover.now c.owned_sets.ensures.cover c.requires in
    marking_is c.carry_each.result _ _ _
    (carried_to c.in_ok-names.names graph.names next (keeps_executed D marks) (has M.executed) opening.executed c.carry_each.result.executed told.executed c.in_ok-names.ensures
    (λ a atom. ap (λ owned. keeps_executed owned marks a) same ∙ ap (λ ms. keeps_executed C ms a) are ∙ executed_kept G C M a atom (owned a atom)))
    (carried_to c.in_ok-names.names graph.names next (keeps_pending D marks) (has M.pending) opening.pending c.carry_each.result.pending told.pending c.in_ok-names.ensures
    (λ a atom. ap (λ owned. keeps_pending owned marks a) same ∙ ap (λ ms. keeps_pending C ms a) are ∙ pending_kept G C M a atom (owned a atom)))
    (carried_to c.in_ok-names.names graph.names next (keeps_included D marks) (has M.included) opening.included c.carry_each.result.included told.included c.in_ok-names.ensures
    (λ a atom. ap (λ owned. keeps_included owned marks a) same ∙ ap (λ ms. keeps_included C ms a) are ∙ included_kept G C M a atom (owned a atom)))

pub returns-clause-owners : goal.returns-clause-owners
returns-clause-owners c =
    let graph = c.args.graph.now in let C = c.args.cover.now.owned in let marks = c.args.marks.now in
    let next = c.args.next.now.graph.names in let opening = c.args.next.now.opening in let n = length graph.names in
    let told = c.carry_each.ensures in let same = c.owned_sets.ensures.owned in let D = c.owned_sets.result.now in
    marking_is c.carry_each.result _ _ _
    (carried_to c.in_ok-names.names graph.names next (keeps_executed D marks) (has (those n (keeps_executed C marks))) opening.executed c.carry_each.result.executed told.executed c.in_ok-names.ensures
    (λ a atom. ap (λ owned. keeps_executed owned marks a) same ∙ sym (has-those n (keeps_executed C marks) a atom)))
    (carried_to c.in_ok-names.names graph.names next (keeps_pending D marks) (has (those n (keeps_pending C marks))) opening.pending c.carry_each.result.pending told.pending c.in_ok-names.ensures
    (λ a atom. ap (λ owned. keeps_pending owned marks a) same ∙ sym (has-those n (keeps_pending C marks) a atom)))
    (carried_to c.in_ok-names.names graph.names next (keeps_included D marks) (has (those n (keeps_included C marks))) opening.included c.carry_each.result.included told.included c.in_ok-names.ensures
    (λ a atom. ap (λ owned. keeps_included owned marks a) same ∙ sym (has-those n (keeps_included C marks) a atom)))

pub returns-clause-room : goal.returns-clause-room
returns-clause-room c =
    let C = c.owned_sets.result.now in let marks = c.args.marks.now in
    let next = c.args.next.now.graph.names in let opening = c.args.next.now.opening in
    let told = c.carry_each.ensures in
    room_of (length next) c.carry_each.result (is_carried c.in_ok-names.names (keeps_executed C marks) next opening.executed) (is_carried c.in_ok-names.names (keeps_pending C marks) next opening.pending)
    (is_carried c.in_ok-names.names (keeps_included C marks) next opening.included) told.executed told.pending told.included
