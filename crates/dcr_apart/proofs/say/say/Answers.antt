use Rattle.std.proofs.Common.{refl}
use Rattle.dcr_app.specs.Outside.{wrote_all, write_failed}
use Rattle.dcr_apart.proofs.say.say.Goals as goal

pub returns-in-Ok-clause-wrote : goal.returns-in-Ok-clause-wrote
returns-in-Ok-clause-wrote g c = wrote_all refl (c.in-Ok.ensures.all, c.in-Ok.ensures.counts)

pub returns-in-Err-clause-wrote : goal.returns-in-Err-clause-wrote
returns-in-Err-clause-wrote g c =
    write_failed refl (record { count = c.in-Err.field-0.written; fewer = c.in-Err.ensures.not_all; wrote = c.in-Err.ensures.front }) c.in-Err.ensures.counts
