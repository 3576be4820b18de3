-- Challenges and hellos and their bytes mean one another.
use Rattle.std.proofs.Common.{◌≡◌, ℕ, ◌<◌, ◌^◌, Bool, true, false, List, [], ◌++◌, codes, length, take, drop, slice_get, Option, Some, None, unwrap_or, Err, inl, inr, refl, sym, ap, subst, ◌∙◌, arith}
use Rattle.std.specs.Prelude.{◌↔◌, IsTrue}
use Rattle.std.proofs.lemmas.Bool.{false≢true}
use Rattle.std.specs.Io.KnownBytes.{Consumes}
use Rattle.std.specs.Int.{w16, w64, to_be_bytes, from_be_bytes}
use Rattle.std.proofs.Math.Seq.{drop-append_seam, take-append_seam}
use Rattle.std.proofs.lemmas.List.{length-append, length-drop, length-take-le, take_all}
use Rattle.std.proofs.lemmas.Nat.{be_bytes_2, be_bytes_8, from_be_bytes-to_be_bytes_2, from_be_bytes-to_be_bytes_8}
use Rattle.hex.specs.Hex.{IsBytes}
use Rattle.dcr_base.specs.Side.{Side, Adds}
use Rattle.dcr_porter.specs.Filled.{CountsFilling, came}
use Rattle.dcr_porter.specs.declared.filling.Unfilled.{Unfilled}
use Rattle.dcr_porter.specs.declared.filling.Unfilled.TheVariants.{Ended, Failed}
use Rattle.sha2.proofs.Facts256.{length-sha256}
use Rattle.dcr_greet.specs.Hmac.{hmac}
use Rattle.dcr_greet.specs.Greeting.{asked, unheard, challenge_by, challenge_text, covered, hello_text, mac_by, Greets, IsGreeting, IsHearing, IsKeyed, SpellChallenge, SpellHello}
use Rattle.dcr_greet.specs.Laws.{IsKeyOf, SitesAreLetIn}
use Rattle.dcr_greet.specs.declared.challenge.Challenge.{Challenge}
use Rattle.dcr_greet.specs.declared.hello.Hello.{Hello}
use Rattle.dcr_greet.specs.declared.greeter.Greeter.{Greeter}
use Rattle.dcr_greet.proofs.PlaceLemmas.{cut_at, length_part, part_bytes}

-- ---- challenges

pub challenge_long : (c : Challenge) → length c.nonce ≡ 32 → length (challenge_text c) ≡ 44
challenge_long c nonce = omega (arith, nonce)

pub challenge_spelled : (bytes : List ℕ) (c : Challenge) → length bytes ≡ 44 → IsBytes bytes → bytes ≡ codes "dcrO" ++ drop 4 bytes → c.run < 2 ^ 64
    → c.run ≡ from_be_bytes w64 (take 8 (drop 4 bytes)) → c.nonce ≡ take 32 (drop 12 bytes) → SpellChallenge bytes c
challenge_spelled bytes c long all front fits run nonce =
    let r = take 8 (drop 4 bytes) in
    let n = take 32 (drop 12 bytes) in
    let behind : drop 12 bytes ≡ n = sym (take_all 32 (drop 12 bytes) (omega (arith, length-drop 12 bytes, long))) in
    let number : to_be_bytes w64 c.run ≡ r = be_bytes_8 r c.run (length_part bytes 4 8 (omega (arith, long))) (part_bytes bytes 4 8 all) run in
    record {
      run = fits;
      nonce = ap (λ (l : List ℕ). length l) nonce ∙ length_part bytes 12 32 (omega (arith, long));
      same = front ∙ ap (λ l. codes "dcrO" ++ l) (cut_at bytes 4 8 12 refl ∙ ap (λ l. r ++ l) behind ∙ ap (λ l. l ++ n) (sym number) ∙ ap (λ l. to_be_bytes w64 c.run ++ l) (sym nonce));
    }

-- ---- hellos

pub hello_long : (h : Hello) → length h.digest ≡ 32 → length h.mac ≡ 32 → length (hello_text h) ≡ 78
hello_long h digest mac = let both = length-append h.digest h.mac in omega (arith, both, digest, mac)

pub hello_spelled : (bytes : List ℕ) (h : Hello) → length bytes ≡ 78 → IsBytes bytes → bytes ≡ codes "dcrS" ++ drop 4 bytes → h.run < 2 ^ 64 → h.site < 2 ^ 16
    → h.run ≡ from_be_bytes w64 (take 8 (drop 4 bytes)) → h.site ≡ from_be_bytes w16 (take 2 (drop 12 bytes)) → h.digest ≡ take 32 (drop 14 bytes) → h.mac ≡ take 32 (drop 46 bytes)
    → SpellHello bytes h
hello_spelled bytes h long all front fits small run site digest mac =
    let r = take 8 (drop 4 bytes) in
    let s = take 2 (drop 12 bytes) in
    let d = take 32 (drop 14 bytes) in
    let m = take 32 (drop 46 bytes) in
    let behind : drop 46 bytes ≡ m = sym (take_all 32 (drop 46 bytes) (omega (arith, length-drop 46 bytes, long))) in
    let number : to_be_bytes w64 h.run ≡ r = be_bytes_8 r h.run (length_part bytes 4 8 (omega (arith, long))) (part_bytes bytes 4 8 all) run in
    let place : to_be_bytes w16 h.site ≡ s = be_bytes_2 s h.site (length_part bytes 12 2 (omega (arith, long))) (part_bytes bytes 12 2 all) site in
    let cut : drop 4 bytes ≡ r ++ (s ++ (d ++ m)) =
    cut_at bytes 4 8 12 refl ∙ ap (λ l. r ++ l) (cut_at bytes 12 2 14 refl ∙ ap (λ l. s ++ l) (cut_at bytes 14 32 46 refl ∙ ap (λ l. d ++ l) behind)) in
    record {
      run = fits;
      site = small;
      digest = ap (λ (l : List ℕ). length l) digest ∙ length_part bytes 14 32 (omega (arith, long));
      mac = ap (λ (l : List ℕ). length l) mac ∙ length_part bytes 46 32 (omega (arith, long));
      same = front ∙ ap (λ l. codes "dcrS" ++ l)
          (cut ∙ ap (λ l. l ++ (s ++ (d ++ m))) (sym number) ∙ ap (λ l. to_be_bytes w64 h.run ++ (l ++ (d ++ m))) (sym place)
          ∙ ap (λ l. to_be_bytes w64 h.run ++ (to_be_bytes w16 h.site ++ (l ++ m))) (sym digest) ∙ ap (λ l. to_be_bytes w64 h.run ++ (to_be_bytes w16 h.site ++ (h.digest ++ l))) (sym mac));
    }

-- what bytes mean that are a hello's
abbrev hello_meant : List ℕ → Hello
hello_meant bytes = record {
  run = from_be_bytes w64 (take 8 (drop 4 bytes));
  site = from_be_bytes w16 (take 2 (drop 12 bytes));
  digest = take 32 (drop 14 bytes);
  mac = take 32 (drop 46 bytes);
}

hello_means : (h : Hello) → h.run < 2 ^ 64 → h.site < 2 ^ 16 → length h.digest ≡ 32 → length h.mac ≡ 32 → hello_meant (hello_text h) ≡ h
hello_means h fits small digest mac =
    let made : ℕ → ℕ → List ℕ → List ℕ → Hello = λ r s d m. record { run = r; site = s; digest = d; mac = m } in
    let front : take 32 (h.digest ++ h.mac) ≡ h.digest = ap (λ n. take n (h.digest ++ h.mac)) (sym digest) ∙ take-append_seam h.digest h.mac in
    let behind : drop 32 (h.digest ++ h.mac) ≡ h.mac = ap (λ n. drop n (h.digest ++ h.mac)) (sym digest) ∙ drop-append_seam h.digest h.mac in
    let last : take 32 (drop 32 (h.digest ++ h.mac)) ≡ h.mac = ap (take 32) behind ∙ take_all 32 h.mac (omega (arith, mac)) in
    let s = from_be_bytes w16 (to_be_bytes w16 h.site) in
    let d = take 32 (h.digest ++ h.mac) in
    let m = take 32 (drop 32 (h.digest ++ h.mac)) in
    ap (λ r. made r s d m) (from_be_bytes-to_be_bytes_8 h.run fits) ∙ ap (λ x. made h.run x d m) (from_be_bytes-to_be_bytes_2 h.site small)
    ∙ ap (λ x. made h.run h.site x m) front ∙ ap (λ x. made h.run h.site h.digest x) last

pub spelled_means : (bytes : List ℕ) (h : Hello) → SpellHello bytes h → hello_meant bytes ≡ h
spelled_means bytes h spelled = ap hello_meant spelled.same ∙ hello_means h spelled.run spelled.site spelled.digest spelled.mac

pub one_hello : (bytes : List ℕ) (one other : Hello) → SpellHello bytes one → SpellHello bytes other → one ≡ other
one_hello bytes one other first second = sym (spelled_means bytes one first) ∙ spelled_means bytes other second

-- ---- who is let in

abbrev pub hello_by : Challenge → ℕ → List ℕ → List ℕ → Hello
hello_by c site digest mac = record { run = c.run; site = site; digest = digest; mac = mac }

-- a hello that is let in is spelled
pub greets_spelled : (who : Greeter) (c : Challenge) (bytes : List ℕ) (site : ℕ) → c.run < 2 ^ 64 → site < 2 ^ 16 → length who.digest ≡ 32 → (greets : Greets who c bytes site)
    → SpellHello bytes (hello_by c site who.digest greets.mac)
greets_spelled who c bytes site fits small digest greets = record { run = fits; site = small; digest = digest; mac = greets.long; same = greets.said }

-- a hello that was read says what one says that is let in
pub greets_read : (who : Greeter) (c : Challenge) (bytes : List ℕ) (site : ℕ) (h : Hello) → c.run < 2 ^ 64 → who.sites < 2 ^ 16 → length who.digest ≡ 32 → SpellHello bytes h
    → Greets who c bytes site → (h.run ≡ c.run) × (h.site ≡ site) × (h.digest ≡ who.digest) × (h.site < who.sites) × IsKeyed who.keys c h.site h.digest h.mac
greets_read who c bytes site h fits few digest spelled greets =
    let within = greets.of_case in
    let small : site < 2 ^ 16 = omega (arith, within, few) in
    let same = one_hello bytes (hello_by c site who.digest greets.mac) h (greets_spelled who c bytes site fits small digest greets) spelled in (
      sym (ap (λ (x : Hello). x.run) same),
      sym (ap (λ (x : Hello). x.site) same),
      sym (ap (λ (x : Hello). x.digest) same),
      subst (λ (x : Hello). x.site < who.sites) same within,
      subst (λ (x : Hello). IsKeyed who.keys c x.site x.digest x.mac) same greets.keyed,
    )

-- and one that says so is let in
pub read_greets : (who : Greeter) (c : Challenge) (bytes : List ℕ) (h : Hello) → SpellHello bytes h → h.run ≡ c.run → h.digest ≡ who.digest → h.site < who.sites
    → IsKeyed who.keys c h.site h.digest h.mac → Greets who c bytes h.site
read_greets who c bytes h spelled run digest within keyed = record {
  mac = h.mac;
  long = spelled.mac;
  said = spelled.same ∙ ap (λ r. hello_text (record { run = r; site = h.site; digest = h.digest; mac = h.mac })) run
      ∙ ap (λ d. hello_text (record { run = c.run; site = h.site; digest = d; mac = h.mac })) digest;
  of_case = within;
  keyed = subst (λ d. IsKeyed who.keys c h.site d h.mac) digest keyed;
}

-- ---- what is answered

abbrev Answers : Greeter → Challenge → List ℕ → Option ℕ → Type 0
Answers who c bytes result = (site : ℕ) → (result ≡ Some site) ↔ Greets who c bytes site

nobody : (who : Greeter) (c : Challenge) (bytes : List ℕ) (result : Option ℕ) → result ≡ None → ((site : ℕ) → Greets who c bytes site → ⊥) → Answers who c bytes result
nobody who c bytes result none never site = (λ is. let no : None ≡ Some site = sym none ∙ is in cc no, λ greets. absurd (never site greets))

-- no hello was read
pub unread_known : (who : Greeter) (c : Challenge) (bytes : List ℕ) (result : Option ℕ) → c.run < 2 ^ 64 → who.sites < 2 ^ 16 → length who.digest ≡ 32 → result ≡ None
    → ((h : Hello) → SpellHello bytes h → ⊥) → Answers who c bytes result
unread_known who c bytes result fits few digest none never =
    nobody who c bytes result none (λ site greets.
    let within = greets.of_case in
    never (hello_by c site who.digest greets.mac) (greets_spelled who c bytes site fits (omega (arith, within, few)) digest greets))

-- the hello that was read is of another run, site or case, or has another MAC
pub other_known : (who : Greeter) (c : Challenge) (bytes : List ℕ) (h : Hello) (result : Option ℕ) → c.run < 2 ^ 64 → who.sites < 2 ^ 16 → length who.digest ≡ 32 → SpellHello bytes h
    → result ≡ None → (h.run ≡ c.run → h.digest ≡ who.digest → h.site < who.sites → IsKeyed who.keys c h.site h.digest h.mac → ⊥) → Answers who c bytes result
other_known who c bytes h result fits few digest spelled none other =
    nobody who c bytes result none (λ site greets. let all = greets_read who c bytes site h fits few digest spelled greets in other all.0 all.2 all.3 all.4)

-- the hello that was read is one that is let in
pub site_known : (who : Greeter) (c : Challenge) (bytes : List ℕ) (h : Hello) (result : Option ℕ) → c.run < 2 ^ 64 → who.sites < 2 ^ 16 → length who.digest ≡ 32 → SpellHello bytes h
    → result ≡ Some h.site → h.run ≡ c.run → h.digest ≡ who.digest → h.site < who.sites → IsKeyed who.keys c h.site h.digest h.mac → Answers who c bytes result
site_known who c bytes h result fits few digest spelled some run same within keyed site = (
  λ is.
      let one : h.site ≡ site = ap (λ o. unwrap_or o 0) (sym some ∙ is) in
      subst (Greets who c bytes) one (read_greets who c bytes h spelled run same within keyed),
  λ greets. some ∙ ap Some (greets_read who c bytes site h fits few digest spelled greets).1,
)

-- ---- the MAC

pub keyed_by_none : (keys : Option (List (List ℕ))) (c : Challenge) (site : ℕ) (digest mac : List ℕ) → keys ≡ None → IsTrue true ↔ IsKeyed keys c site digest mac
keyed_by_none keys c site digest mac is = (λ _. subst (λ k. IsKeyed k c site digest mac) (sym is) tt, λ _. refl)

not_some : (key : List ℕ) → None ≡ Some key → ⊥
not_some key never = cc never

pub unkeyed : (keys : Option (List (List ℕ))) (each : List (List ℕ)) (c : Challenge) (site : ℕ) (digest mac : List ℕ) → keys ≡ Some each → slice_get each site ≡ None
    → IsTrue false ↔ IsKeyed keys c site digest mac
unkeyed keys each c site digest mac is none = (
  λ never. absurd (false≢true never),
  λ keyed. let its : IsKeyed (Some each) c site digest mac = subst (λ k. IsKeyed k c site digest mac) is keyed in absurd (not_some its.0 (sym none ∙ its.1)),
)

pub keyed_by_key : (keys : Option (List (List ℕ))) (each : List (List ℕ)) (key : List ℕ) (c : Challenge) (site : ℕ) (digest mac made : List ℕ) (b : Bool) → keys ≡ Some each
    → slice_get each site ≡ Some key → made ≡ hmac key (covered c site digest) → IsTrue b ↔ (mac ≡ made) → IsTrue b ↔ IsKeyed keys c site digest mac
keyed_by_key keys each key c site digest mac made b is its made_is same = (
  λ yes. subst (λ k. IsKeyed k c site digest mac) (sym is) (key, its, same.0 yes ∙ made_is),
  λ keyed.
      let found : IsKeyed (Some each) c site digest mac = subst (λ k. IsKeyed k c site digest mac) is keyed in
      let one : found.0 ≡ key = ap (λ o. unwrap_or o []) (sym found.1 ∙ its) in
      same.1 (found.2 ∙ ap (λ k. hmac k (covered c site digest)) one ∙ sym made_is),
)

-- ---- over a link

-- fewer bytes came than a hello has
pub short_of : (who : Greeter) (c : Challenge) (ended : Type 0) (gave left : Side) (buf : List ℕ) (stop : Unfilled) (result : Option ℕ) → result ≡ None → length buf ≡ 78
    → Consumes gave.bytes left.bytes (take (came stop) buf) → came stop < length buf → ((n : ℕ) → stop ≡ Ended n → ended) → CountsFilling (Err stop) gave.faults left.faults
    → IsHearing who c ended gave left result
short_of who c ended gave left buf (Ended n) result none long read fewer why counts =
    let few = length-take-le n buf (omega (arith, fewer)) in
    unheard (take n buf) none (omega (arith, few, fewer, long)) read (inl (why n refl, counts))
short_of who c ended gave left buf (Failed n) result none long read fewer why counts =
    let few = length-take-le n buf (omega (arith, fewer)) in
    unheard (take n buf) none (omega (arith, few, fewer, long)) read (inr counts)

-- what is written leaves what is read alone, and the other way round
pub side_stays : {L : Type 0} (other told : L → Side) → ((l : L) → other l ≡ told l) → (before after : L) → other after ≡ other before → told after ≡ told before
side_stays other told is before after same = sym (is after) ∙ same ∙ is before

pub asked_of : (who : Greeter) (nonce : List ℕ) (ended : Type 0) (gave mid left had sent took : Side) (result : Option ℕ) → Adds (challenge_text (challenge_by who nonce)) had sent
    → mid ≡ gave → took ≡ sent → IsHearing who (challenge_by who nonce) ended mid left result → IsGreeting who nonce ended gave left had took result
asked_of who nonce ended gave mid left had sent took result adds reads writes hearing =
    asked (subst (Adds (challenge_text (challenge_by who nonce)) had) (sym writes) adds) (subst (λ s. IsHearing who (challenge_by who nonce) ended s left result) reads hearing)

-- ---- laws

length-hmac : (key message : List ℕ) → length (hmac key message) ≡ 32
unfolding hmac
length-hmac key message = length-sha256 _

mac_long : (key : Option (List ℕ)) (c : Challenge) (site : ℕ) (digest : List ℕ) → length (mac_by key c site digest) ≡ 32
mac_long None c site digest = refl
mac_long (Some key) c site digest = length-hmac key (covered c site digest)

keyed_by : (keys : Option (List (List ℕ))) (site : ℕ) (key : Option (List ℕ)) (c : Challenge) (digest : List ℕ) → IsKeyOf keys site key → IsKeyed keys c site digest (mac_by key c site digest)
keyed_by None site key c digest its = tt
keyed_by (Some keys) site key c digest its = (its.0, its.1, ap (λ k. mac_by k c site digest) its.2)

pub are_let_in : SitesAreLetIn
are_let_in who nonce site key within its = record {
  mac = mac_by key (challenge_by who nonce) site who.digest;
  long = mac_long key (challenge_by who nonce) site who.digest;
  said = refl;
  of_case = within;
  keyed = keyed_by who.keys site key (challenge_by who nonce) who.digest its;
}
