use Rattle.dcr_graph.proofs.LocalLaws.{local_cause}
use Rattle.dcr_laws.proofs.laws.l1.Goals as goal

pub returns : goal.returns
returns c = λ G S M e atom owned. local_cause G S M e owned atom
