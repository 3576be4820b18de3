use Rattle.std.proofs.Common.{◌≡◌, ◌++◌, ℕ, List, [], codes, length, replicate, rules, arith, refl, ap, append_assoc, ◌∙◌}
use Rattle.std.specs.Int.{w16, w64, to_be_bytes}
use Rattle.std.proofs.lemmas.List.{length-replicate}
use Rattle.dcr_base.specs.Disk.{written}
use Rattle.dcr_greet.specs.Greeting.{covered}
use Rattle.dcr_greet.specs.Hmac.{hmac}
use Rattle.dcr_greet.proofs.PlaceLemmas.{all_put, nothing_put, one_put}
use Rattle.dcr_greet.proofs.hello.mac.Goals as goal

pub returns : goal.returns
returns c =
    let ch = c.args.challenge.now in
    let d = c.args.digest.now in
    let nonce : length ch.nonce ≡ 32 = search rules in
    let digest : length d ≡ 32 = search rules in
    let run = to_be_bytes w64 ch.run in
    let site = to_be_bytes w16 c.args.site in
    let same : c.to_be_bytes-2.result ≡ site = search rules in
    let zeros : List ℕ = replicate 82 0 in
    let word = codes "dcr site" in
    let one = one_put zeros c.put.new.bytes word [] 0 8 82 (nothing_put zeros 82 (length-replicate {A = ℕ} 82 0)) c.put.ensures refl (omega arith) in
    let two = one_put c.put.new.bytes c.put-2.new.bytes run word 8 16 82 one (c.put-2.ensures ∙ ap (λ p. written 8 p c.put.new.bytes) c.to_be_bytes.ensures) refl (omega arith) in
    let three = one_put c.put-2.new.bytes c.put-3.new.bytes ch.nonce (word ++ run) 16 48 82 two c.put-3.ensures (omega (arith, nonce)) (omega arith) in
    let four = one_put c.put-3.new.bytes c.put-4.new.bytes site (word ++ run ++ ch.nonce) 48 50 82 three (c.put-4.ensures ∙ ap (λ p. written 48 p c.put-3.new.bytes) same) refl (omega arith) in
    let five = one_put c.put-4.new.bytes c.put-5.new.bytes d (word ++ run ++ ch.nonce ++ site) 50 82 82 four c.put-5.ensures (omega (arith, digest)) (omega arith) in
    let whole : c.put-5.new.bytes ≡ covered ch c.args.site d =
    all_put c.put-5.new.bytes (word ++ run ++ ch.nonce ++ site ++ d) 82 five ∙ ap (λ l. word ++ (run ++ l)) (append_assoc ch.nonce site d) in
    c.hmac.ensures ∙ ap (λ k. hmac k c.put-5.new.bytes) c.bytes.ensures ∙ ap (hmac c.args.key.now) whole
