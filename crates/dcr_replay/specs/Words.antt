-- The words that the kinds of wrong lines are printed as.
use Rattle.std.specs.Prelude.{ℕ, List, codes}
use Rattle.dcr_replay.specs.declared.verdict.Wrong.{Wrong}
use Rattle.dcr_replay.specs.declared.verdict.Wrong.TheVariants.{Head, Graph, Cover, Opening, Entry, Outcome, Site, Verdict, End, Extra}

abbrev pub word_of : Wrong → List ℕ
word_of Head = codes "head"
word_of Graph = codes "graph"
word_of Cover = codes "cover"
word_of Opening = codes "open"
word_of Entry = codes "entry"
word_of Outcome = codes "outcome"
word_of Site = codes "site"
word_of Verdict = codes "verdict"
word_of End = codes "end"
word_of Extra = codes "extra"
