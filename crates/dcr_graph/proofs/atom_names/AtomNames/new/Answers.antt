use Rattle.std.proofs.Common.{◌≡◌, ◌+◌, ◌<◌, ◌≤◌, ◌++◌, List, ℕ, [], ◌∷◌, length, get_or, ap, ◌∙◌, length-append, arith}
use Rattle.std.proofs.lemmas.List.{get_or_read, length_push}
use Rattle.dcr_graph.proofs.JoinedLemmas.{name_short, joined_more, starts_more}
use Rattle.dcr_graph.proofs.atom_names.AtomNames.new.Goals as goal

pub loop-i-preserved : goal.loop-i-preserved
loop-i-preserved c =
    let names = c.args.names.items in let i = c.loop-i.i in
    let before = c.loop-i.joined.items in let comma = c.push-in-loop-i.new.self.items in let after = c.extend_from_slice.new.self.items in
    let name = c.as_bytes.result.now in let starts = c.loop-i.starts.items in
    let first : comma ≡ before ++ 44 ∷ [] = c.in_ok-push-2.ensures.items in
    let then : after ≡ comma ++ name = c.in_ok-extend_from_slice.ensures.items in
    let within : i < length names = omega (arith, c.args.names.ok.0, c.len-i-end.ensures, c.loop-i-test.true) in
    let read : name ≡ c.index.result.now = c.as_bytes.ensures.value ∙ c.text.ensures.text in
    let same : name ≡ get_or names i [] = read ∙ get_or_read names i c.index.result.now within c.index.ensures [] in
    let few : length c.index.result.now ≤ 64 = name_short c.index.result.now c.text.ensures.name in
    let joined = joined_more names i before comma after name c.loop-i.invariant.joined first then same in
    let long = ap (λ (xs : List ℕ). length xs) then ∙ length-append comma name in
    let with_comma = ap (λ (xs : List ℕ). length xs) first ∙ length-append before (44 ∷ []) in
    record {
      joined = joined;
      short = omega (arith, long, with_comma, few, ap (λ (xs : List ℕ). length xs) read, c.loop-i.invariant.short);
      as_many = ap (λ (xs : List ℕ). length xs) c.in_ok-push-3.ensures.items ∙ length_push starts c.len-in-loop-i.result ∙ ap (λ n. n + 1) c.loop-i.invariant.as_many;
      starts = starts_more names starts c.push-in-loop-i-2.new.self.items i c.len-in-loop-i.result c.loop-i.invariant.as_many c.loop-i.invariant.starts c.in_ok-push-3.ensures.items
          (c.len-in-loop-i.ensures ∙ c.extend_from_slice.new.self.ok.0 ∙ ap (λ (xs : List ℕ). length xs) joined);
    }
