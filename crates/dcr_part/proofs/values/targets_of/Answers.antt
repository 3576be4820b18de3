use Rattle.std.proofs.Common.{sym, ap, ◌∙◌}
use Rattle.dcr_graph.specs.Projection.{is_local_target}
use Rattle.dcr_part.proofs.RuleLemmas.{pending_targets, pending_room, included_targets, included_room, own_room}
use Rattle.dcr_part.proofs.values.targets_of.Goals as goal

pub returns-in-Condition-clause-room : goal.returns-in-Condition-clause-room
returns-in-Condition-clause-room c = λ G is. own_room G c.args.projection.now is c.own.result.now c.own.ensures.own c.own.ensures.rooms

pub returns-in-Milestone-clause-room : goal.returns-in-Milestone-clause-room
returns-in-Milestone-clause-room c = λ G is. own_room G c.args.projection.now is c.own-in-Milestone.result.now c.own-in-Milestone.ensures.own c.own-in-Milestone.ensures.rooms

pub returns-in-Response-clause-targets : goal.returns-in-Response-clause-targets
returns-in-Response-clause-targets c = λ G is b below.
    pending_targets G c.args.projection.now is c.tracked_re.result.now c.tracked_re.ensures b below ∙ ap (λ kind. is_local_target G c.args.projection.now.own kind b) (sym c.in-Response.is)

pub returns-in-Response-clause-room : goal.returns-in-Response-clause-room
returns-in-Response-clause-room c = λ G is. pending_room G c.args.projection.now is c.tracked_re.result.now c.tracked_re.ensures

pub returns-in-Cancel-clause-targets : goal.returns-in-Cancel-clause-targets
returns-in-Cancel-clause-targets c = λ G is b below.
    pending_targets G c.args.projection.now is c.tracked_re-in-Cancel.result.now c.tracked_re-in-Cancel.ensures b below ∙ ap (λ kind. is_local_target G c.args.projection.now.own kind b) (sym c.in-Cancel.is)

pub returns-in-Cancel-clause-room : goal.returns-in-Cancel-clause-room
returns-in-Cancel-clause-room c = λ G is. pending_room G c.args.projection.now is c.tracked_re-in-Cancel.result.now c.tracked_re-in-Cancel.ensures

pub returns-in-Include-clause-targets : goal.returns-in-Include-clause-targets
returns-in-Include-clause-targets c = λ G is b below.
    included_targets G c.args.projection.now is c.tracked_in.result.now c.tracked_in.ensures b below ∙ ap (λ kind. is_local_target G c.args.projection.now.own kind b) (sym c.in-Include.is)

pub returns-in-Include-clause-room : goal.returns-in-Include-clause-room
returns-in-Include-clause-room c = λ G is. included_room G c.args.projection.now is c.tracked_in.result.now c.tracked_in.ensures

pub returns-in-Exclude-clause-targets : goal.returns-in-Exclude-clause-targets
returns-in-Exclude-clause-targets c = λ G is b below.
    included_targets G c.args.projection.now is c.tracked_in-in-Exclude.result.now c.tracked_in-in-Exclude.ensures b below ∙ ap (λ kind. is_local_target G c.args.projection.now.own kind b) (sym c.in-Exclude.is)

pub returns-in-Exclude-clause-room : goal.returns-in-Exclude-clause-room
returns-in-Exclude-clause-room c = λ G is. included_room G c.args.projection.now is c.tracked_in-in-Exclude.result.now c.tracked_in-in-Exclude.ensures
