-- What the greetings of the two sides mean for one another, and what texts of keys are.
use Rattle.std.specs.Prelude.{◌≡◌, ℕ, ◌<◌, ◌^◌, List, slice_get, Option, Some, None, ⊤}
use Rattle.dcr_greet.specs.Greeting.{challenge_by, hello_text, hello_to, Greets}
use Rattle.dcr_greet.specs.KeyText.{IsKeysText, IsWrongLine}
use Rattle.dcr_greet.specs.declared.challenge.Challenge.{Challenge}
use Rattle.dcr_greet.specs.declared.greeter.Greeter.{Greeter}

-- the key is the site's, where the sites have keys
abbrev pub IsKeyOf : Option (List (List ℕ)) → ℕ → Option (List ℕ) → Type 0
IsKeyOf None site key = ⊤
IsKeyOf (Some keys) site key = (k : List ℕ) × (slice_get keys site ≡ Some k) × (key ≡ Some k)

-- a site of the case that has its own key, and the digest, is let in
abbrev pub SitesAreLetIn : Type 0
SitesAreLetIn = (who : Greeter) (nonce : List ℕ) (site : ℕ) (key : Option (List ℕ)) → site < who.sites → IsKeyOf who.keys site key
    → Greets who (challenge_by who nonce) (hello_text (hello_to (challenge_by who nonce) site who.digest key)) site

-- bytes are the hello of one site alone
abbrev pub GreetAsOne : Type 0
GreetAsOne = (who : Greeter) (c : Challenge) (bytes : List ℕ) (i j : ℕ) → i < 2 ^ 16 → j < 2 ^ 16 → Greets who c bytes i → Greets who c bytes j → i ≡ j

-- a text that has a wrong line is no text of keys
abbrev pub WrongLinesAreWrong : Type 0
WrongLinesAreWrong = (sites : List (List ℕ)) (text : List ℕ) (line : ℕ) (keys : List (List ℕ)) → IsWrongLine sites text line → IsKeysText sites text keys → ⊥
