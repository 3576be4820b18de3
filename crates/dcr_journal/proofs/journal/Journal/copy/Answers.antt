use Rattle.std.proofs.Common.{◌<◌, ◌∷◌, [], ◌++◌, length, take, sym, ap, ◌∙◌, arith}
use Rattle.std.proofs.lemmas.List.{take_more}
use Rattle.std.proofs.lemmas.Option.{get_or_from_slice_get}
use Rattle.dcr_journal.proofs.journal.Journal.copy.Goals as goal

pub loop-place-preserved : goal.loop-place-preserved
loop-place-preserved c =
    let J = c.args.self.now.entries in
    let n = c.loop-place.place in
    let entry = c.read.new.entry in
    let within : n < length J = omega arith in
    record {
      entries =
          c.push_call.ensures.entries
          ∙ ap (λ es. es ++ entry ∷ []) c.loop-place.invariant.entries
          ∙ ap (λ e. take n J ++ e ∷ []) (sym (get_or_from_slice_get J n entry entry c.read.ensures))
          ∙ sym (take_more J n entry within);
      capacity = c.push_call.ensures.capacity ∙ c.loop-place.invariant.capacity;
    }
