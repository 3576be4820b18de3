use Rattle.std.proofs.Common.{sym}
use Rattle.dcr_serving.proofs.serve.any_wanted.Goals as goal

pub returns-in-NoMemory-clause-some : goal.returns-in-NoMemory-clause-some
returns-in-NoMemory-clause-some g c = λ told. (c.loop-one.one-index, c.one-item.result, c.loop-one-test.true, sym c.one-item.is, c.in-NoMemory.is)
