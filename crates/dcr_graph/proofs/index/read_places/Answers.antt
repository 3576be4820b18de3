use Rattle.std.proofs.Common.{◌<◌, [], length, get_or, ap, ◌∙◌, sym, arith}
use Rattle.std.proofs.lemmas.List.{length-set}
use Rattle.dcr_graph.specs.IndexModel.{place_among}
use Rattle.dcr_graph.proofs.IndexLemmas.{none_yet, numbers_more, texts_more, texts_before}
use Rattle.dcr_graph.proofs.index.read_places.Goals as goal

pub loop-i-init : goal.loop-i-init
loop-i-init c = record {
  len = omega (arith, c.in_ok-places.ensures.len);
  some = omega (arith, c.max-count.ensures);
  numbers = none_yet c.args.start c.in_ok-places.places.items c.in_ok-places.ensures.empty (omega (arith, c.max-count.ensures, c.in_ok-places.ensures.len));
}

pub loop-i-preserved : goal.loop-i-preserved
loop-i-preserved c =
    let places = c.loop-i.places.items in
    let texts = c.args.texts.now in
    let i = c.loop-i.i in
    let text = (get_or texts i (record { ref_ptr = (0, 0); now = [] })).now in
    let here : i < length texts = omega (arith, c.loop-i-test.true) in
    record {
      len = length-set places c.place_of.result c.put.new.map ∙ c.loop-i.invariant.len;
      some = c.loop-i.invariant.some;
      numbers =
          numbers_more c.args.start places c.index_mut.result.now c.put.new.map _ _ _ c.place_of.result i (texts_more texts i _ here) (omega (arith, c.place_of.ensures.within, c.loop-i.invariant.len))
          (c.place_of.ensures.place ∙ ap (λ n. place_among n c.args.start text) (sym c.loop-i.invariant.len)) (texts_before texts i here) c.index_mut.ensures.value c.loop-i.invariant.numbers c.in_ok-put.ensures;
    }
