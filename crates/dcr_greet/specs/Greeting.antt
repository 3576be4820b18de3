-- How an order and a site greet: the bytes that each sends, and which hello is let in.
use Rattle.std.specs.Prelude.{◌≡◌, ◌↔◌, ◌⊎◌, ℕ, ◌<◌, ◌^◌, List, ◌++◌, codes, length, replicate, slice_get, Option, Some, None, ⊤}
use Rattle.std.specs.Int.{w16, w64, to_be_bytes}
use Rattle.std.specs.Io.KnownBytes.{Consumes}
use Rattle.dcr_base.specs.Count.{Fails}
use Rattle.dcr_base.specs.Side.{Side, Adds, Stopped}
use Rattle.dcr_greet.specs.Hmac.{hmac}
use Rattle.dcr_greet.specs.declared.challenge.Challenge.{Challenge}
use Rattle.dcr_greet.specs.declared.hello.Hello.{Hello}
use Rattle.dcr_greet.specs.declared.greeter.Greeter.{Greeter}

-- ---- what is sent

-- the challenge: its word, the number of the run, and the nonce
abbrev pub challenge_text : Challenge → List ℕ
challenge_text c = codes "dcrO" ++ (to_be_bytes w64 c.run ++ c.nonce)

-- the hello: its word, the number of the run, that of the site, the digest of the case, and the MAC
abbrev pub hello_text : Hello → List ℕ
hello_text h = codes "dcrS" ++ (to_be_bytes w64 h.run ++ (to_be_bytes w16 h.site ++ (h.digest ++ h.mac)))

-- the bytes are those of the challenge, whose number and nonce have their widths
pub record SpellChallenge (bytes : List ℕ) (c : Challenge) : Type 0 where
  pub run : c.run < 2 ^ 64
  pub nonce : length c.nonce ≡ 32
  pub same : bytes ≡ challenge_text c

-- the bytes are those of the hello, whose parts have their widths
pub record SpellHello (bytes : List ℕ) (h : Hello) : Type 0 where
  pub run : h.run < 2 ^ 64
  pub site : h.site < 2 ^ 16
  pub digest : length h.digest ≡ 32
  pub mac : length h.mac ≡ 32
  pub same : bytes ≡ hello_text h

-- the bytes are those of what was read, or of none
abbrev pub IsChallengeReading : List ℕ → Option Challenge → Type 0
IsChallengeReading bytes (Some challenge) = SpellChallenge bytes challenge
IsChallengeReading bytes None = (challenge : Challenge) → SpellChallenge bytes challenge → ⊥

abbrev pub IsHelloReading : List ℕ → Option Hello → Type 0
IsHelloReading bytes (Some hello) = SpellHello bytes hello
IsHelloReading bytes None = (hello : Hello) → SpellHello bytes hello → ⊥

-- ---- the MAC

-- what the MAC covers: the number of the run and the nonce of the challenge, and the site and the digest of the hello
abbrev pub covered : Challenge → ℕ → List ℕ → List ℕ
covered c site digest = codes "dcr site" ++ (to_be_bytes w64 c.run ++ (c.nonce ++ (to_be_bytes w16 site ++ digest)))

-- the MAC by the site's key; 32 zeros where there is none
abbrev pub mac_by : Option (List ℕ) → Challenge → ℕ → List ℕ → List ℕ
mac_by None c site digest = replicate 32 0
mac_by (Some key) c site digest = hmac key (covered c site digest)

-- what a site answers a challenge
abbrev pub hello_to : Challenge → ℕ → List ℕ → Option (List ℕ) → Hello
hello_to c site digest key = record { run = c.run; site = site; digest = digest; mac = mac_by key c site digest }

-- ---- who is let in

-- Where the sites have keys the MAC is by that of the site; where they have none it may be any.
abbrev pub IsKeyed : Option (List (List ℕ)) → Challenge → ℕ → List ℕ → List ℕ → Type 0
IsKeyed None c site digest mac = ⊤
IsKeyed (Some keys) c site digest mac = (key : List ℕ) × (slice_get keys site ≡ Some key) × (mac ≡ hmac key (covered c site digest))

-- the bytes are a hello to this challenge, by this site of the case
pub record Greets (who : Greeter) (c : Challenge) (bytes : List ℕ) (site : ℕ) : Type 0 where
  pub mac : List ℕ
  pub long : length mac ≡ 32
  pub said : bytes ≡ hello_text (record { run = c.run; site = site; digest = who.digest; mac = mac })
  pub of_case : site < who.sites
  pub keyed : IsKeyed who.keys c site who.digest mac

-- How a hello to this challenge was read, and no more. `ended` is that the link has ended.
pub data IsHearing (who : Greeter) (c : Challenge) (ended : Type 0) (gave left : Side) (result : Option ℕ) : Type 0 where
  -- the link ended or failed before so many bytes were read
  unheard : (read : List ℕ) → result ≡ None → length read < 78 → Consumes gave.bytes left.bytes read → (ended × (left.faults ≡ gave.faults)) ⊎ Fails gave.faults left.faults
      → IsHearing who c ended gave left result
  -- a site is told exactly where these bytes are its hello
  heard : (read : List ℕ) → length read ≡ 78 → Consumes gave.bytes left.bytes read → left.faults ≡ gave.faults → ((site : ℕ) → (result ≡ Some site) ↔ Greets who c read site)
      → IsHearing who c ended gave left result

abbrev pub challenge_by : Greeter → List ℕ → Challenge
challenge_by who nonce = record { run = who.run; nonce = nonce }

-- How a link was greeted with this nonce.
pub data IsGreeting (who : Greeter) (nonce : List ℕ) (ended : Type 0) (gave left had took : Side) (result : Option ℕ) : Type 0 where
  -- the challenge couldn't be written, and nothing was read
  unasked : result ≡ None → Stopped (challenge_text (challenge_by who nonce)) had took → Fails had.faults took.faults → left ≡ gave
      → IsGreeting who nonce ended gave left had took result
  -- the challenge was written, and a hello to it was read
  asked : Adds (challenge_text (challenge_by who nonce)) had took → IsHearing who (challenge_by who nonce) ended gave left result
      → IsGreeting who nonce ended gave left had took result
