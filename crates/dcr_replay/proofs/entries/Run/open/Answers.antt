use Rattle.std.proofs.Common.{ℕ, ◌≡◌, ◌≤◌, length, get_or, replicate, refl, sym, subst, ap, ◌∙◌, arith}
use Rattle.std.specs.List.{All}
use Rattle.std.proofs.lemmas.List.{get_or-replicate, length-replicate}
use Rattle.std.proofs.lemmas.List.Elements.{All-nil, All-replicate}
use Rattle.dcr_journal.specs.declared.call.Entry.{Entry}
use Rattle.dcr_journal.specs.declared.call.Outcome.TheVariants.{Faulted}
use Rattle.dcr_replay.proofs.WrongLemmas.{none_yet}
use Rattle.dcr_replay.proofs.entries.Run.open.Goals as goal
use Rattle.dcr_replay.proofs.entries.Run.open.Goals.{In_ok-made}

zeros : (c : In_ok-made) → c.in_ok-made.made.items ≡ replicate 1024 0
zeros c = c.in_ok-made.ensures.items_if_clones_equal (λ y same. same)

pub returns-clause-sound : goal.returns-clause-sound
returns-clause-sound c = record {
  graph = c.in_ok-plain.ensures.graph;
  rooms = c.requires.rooms;
  is_cover = c.requires.cover;
  directory = c.requires.directory;
  tracked = c.in_ok-tracked.ensures;
  sessions = ap (λ items. length items) (zeros c) ∙ length-replicate {A = ℕ} 1024 0;
  most = omega arith;
  few = subst (All (λ n. n ≤ 0)) (sym (zeros c)) (All-replicate (λ n. n ≤ 0) 1024 0 (omega arith));
}

pub returns-clause-stands : goal.returns-clause-stands
returns-clause-stands c = λ S over opening. record {
  over = over;
  legal = none_yet S;
  marking = c.in_ok-plain.ensures.marking ∙ opening;
  counted = refl;
  made = λ session below. ap (λ items. get_or items session 0) (zeros c) ∙ get_or-replicate 1024 session 0 0 below;
  faulted = All-nil (λ (entry : Entry). entry.outcome ≡ Faulted → ⊥);
}
