use Rattle.dcr_answer.proofs.SayLemmas.{could_say}
use Rattle.dcr_answer.proofs.laws.a_site_could_say.Goals as goal

pub returns : goal.returns
returns g c = λ G C M i before after end got unread written given unheard talks lost gained begins.
    could_say G C M i (g.L.Source.has_ended after) (g.L.Source.gives before) (g.L.Source.gives after) (g.L.Sink.takes before) (g.L.Sink.takes after) end
    got unread written given unheard talks lost gained begins
