use Rattle.std.proofs.Common.{◌≡◌, ◌++◌, ℕ, List, [], codes, length, replicate, rules, arith, refl}
use Rattle.std.specs.Int.{w16, w64, to_be_bytes}
use Rattle.std.proofs.lemmas.List.{length-replicate}
use Rattle.dcr_base.specs.Disk.{written}
use Rattle.dcr_greet.proofs.PlaceLemmas.{all_put, nothing_put, one_put}
use Rattle.dcr_greet.proofs.hello.Hello.text.Goals as goal

pub returns : goal.returns
returns c =
    let h = c.args.self.now in
    let digest : length h.digest ≡ 32 = search rules in
    let mac : length h.mac ≡ 32 = search rules in
    let run = to_be_bytes w64 h.run in
    let site = to_be_bytes w16 h.site in
    let zeros : List ℕ = replicate 78 0 in
    let two_is : c.put-2.new.bytes ≡ written 4 run c.put.new.bytes = search rules in
    let three_is : c.put-3.new.bytes ≡ written 12 site c.put-2.new.bytes = search rules in
    let four_is : c.put-4.new.bytes ≡ written 14 h.digest c.put-3.new.bytes = search rules in
    let five_is : c.put-5.new.bytes ≡ written 46 h.mac c.put-4.new.bytes = search rules in
    let one = one_put zeros c.put.new.bytes (codes "dcrS") [] 0 4 78 (nothing_put zeros 78 (length-replicate {A = ℕ} 78 0)) c.put.ensures refl (omega arith) in
    let two = one_put c.put.new.bytes c.put-2.new.bytes run (codes "dcrS") 4 12 78 one two_is refl (omega arith) in
    let three = one_put c.put-2.new.bytes c.put-3.new.bytes site (codes "dcrS" ++ run) 12 14 78 two three_is refl (omega arith) in
    let four = one_put c.put-3.new.bytes c.put-4.new.bytes h.digest (codes "dcrS" ++ run ++ site) 14 46 78 three four_is (omega (arith, digest)) (omega arith) in
    let five = one_put c.put-4.new.bytes c.put-5.new.bytes h.mac (codes "dcrS" ++ run ++ site ++ h.digest) 46 78 78 four five_is (omega (arith, mac)) (omega arith) in
    all_put c.put-5.new.bytes (codes "dcrS" ++ run ++ site ++ h.digest ++ h.mac) 78 five
