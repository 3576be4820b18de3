use Rattle.std.proofs.Common.{◌≡◌, ℕ, ◌+◌, ◌-◌, ◌≤◌, List, ◌++◌, length, take, sym, ap, subst, ◌∙◌, arith}
use Rattle.std.specs.Io.KnownBytes.{Consumes}
use Rattle.std.proofs.KnownBytes.{Consumes-trans}
use Rattle.std.proofs.Math.Seq.{take-append-add}
use Rattle.std.proofs.lemmas.List.{length-append, length-take-le, take-append-le}
use borrow.Rule.Slice.PartMut.{post_of, put_mid}
use Rattle.dcr_porter.proofs.filling.fill.Goals as goal

-- the front, and then what was read into the rest
filled_further : (a n k : ℕ) (xs ys : List ℕ) → a ≤ length xs → n ≤ length ys
    → (a + n ≤ length (put_mid a k xs ys)) × (take (a + n) (put_mid a k xs ys) ≡ take a xs ++ take n ys)
filled_further a n k xs ys within most =
    let front : length (take a xs) ≡ a = length-take-le a xs within in
    let behind = post_of a k xs in
    let all = length-append (take a xs) (ys ++ behind) in
    let both = length-append ys behind in (
      omega arith,
      ap (λ m. take (m + n) (take a xs ++ (ys ++ behind))) (sym front) ∙ take-append-add (take a xs) (ys ++ behind) n
          ∙ ap (λ l. take a xs ++ l) (take-append-le n ys behind most),
    )

pub loop-filled-preserved : goal.loop-filled-preserved
loop-filled-preserved g c =
    let before = c.loop-filled.invariant in
    let filled = c.loop-filled.filled in
    let buf = c.loop-filled.buf in
    let further = filled_further filled c.in-Ok.n (length buf - filled) buf c.read.new.buf before.within c.in-Ok.ensures.within.0 in
    record {
      within = further.0;
      read = subst (Consumes (g.S.Source.gives c.args.source.now).bytes (g.S.Source.gives c.read.new.self).bytes) (sym further.1)
          (Consumes-trans (g.S.Source.gives c.args.source.now).bytes (g.S.Source.gives c.loop-filled.source).bytes (g.S.Source.gives c.read.new.self).bytes
          (take filled buf) (take c.in-Ok.n c.read.new.buf) before.read c.in-Ok.ensures.moved.0);
      no_fault = c.in-Ok.ensures.counts ∙ before.no_fault;
      apart = c.in-Ok.ensures.apart ∙ before.apart;
    }
