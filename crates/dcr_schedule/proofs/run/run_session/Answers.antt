use Rattle.std.proofs.Common.{◌∙◌, ◌+◌, ap, refl, sym, subst, drop, inl, inr, Some}
use Rattle.std.specs.Option.{option_copied}
use Rattle.dcr_node.specs.WorldState.{WorldState}
use Rattle.dcr_node.specs.JournalState.{execution}
use Rattle.dcr_schedule.specs.Executions.{executions_of, is_exec}
use Rattle.dcr_schedule.proofs.PlayingLemmas.{Telling, tells_exec, tells_other}
use Rattle.dcr_schedule.proofs.run.run_session.Goals.{in-Exec+in_ok-execute-in-Exec, in-Look}
use Rattle.dcr_schedule.proofs.run.run_session.Goals as goal

pub loop-place-preserved : goal.loop-place-preserved
loop-place-preserved c =
    let calls = c.args.calls.now in let k = c.args.session in let place = c.loop-place.place in
    let here = sym c.get.ensures ∙ ap option_copied c.unwrap.ensures in
    elim c.match-unwrap.branch [
      | in-Exec+in_ok-execute-in-Exec w ↦
          let p = execution k w.in-Exec.site w.in-Exec.event in
          subst (λ (x : WorldState). Telling (executions_of k calls) (executions_of k (drop (place + 1) calls)) c.args.world.now x) (sym w.world-is)
          (tells_exec (executions_of k calls) calls place p c.args.world.now c.loop-place.world w.execute.new.world (here ∙ ap Some w.in-Exec.is) refl c.loop-place.invariant
          w.execute.ensures.kept w.execute.ensures.right w.in_ok-execute-in-Exec.ensures.told)
      | in-Look w ↦
          subst (λ (x : WorldState). Telling (executions_of k calls) (executions_of k (drop (place + 1) calls)) c.args.world.now x) (sym w.world-is)
          (tells_other (executions_of k calls) k calls place c.unwrap.result.now c.args.world.now c.loop-place.world here (elim w.in-Look.is [
            | inl look ↦ ap is_exec look.1
            | inr other ↦ elim other [
              | inl enabled ↦ ap is_exec enabled.1
              | inr accepting ↦ ap is_exec accepting
            ]
          ]) c.loop-place.invariant)
    ]
