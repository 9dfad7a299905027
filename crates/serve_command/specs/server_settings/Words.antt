-- What the words of the command say.
use Rattle.std.specs.Prelude.{ℕ, ◌==◌, Bool, if◌then◌else◌, List, [], ◌∷◌, length, codes, Option, Some, None}
use Rattle.std.specs.Int.{w32, from_be_bytes}
use Rattle.std.specs.Str.{bytes_eq}
use Rattle.log.specs.Level.{parse_filter}
use Rattle.script_words.specs.Numbers.{number_to}
use Rattle.script_words.specs.Pieces.{pieces}
use Rattle.base_outside.specs.declared.streams.address.Address.{Address}
use Rattle.serve_command.specs.declared.server_settings.words.Bound.{Bound}
use Rattle.serve_command.specs.declared.server_settings.words.Said.{Said}

-- the ? of the logic: the second step, if the first gave a value
infixl 10 ◌>>=◌
abbrev pub ◌>>=◌ : {A B : Type 0} → Option A → (A → Option B) → Option B
None >>= f = None
(Some x) >>= f = f x

-- what a word gives, and the words behind it
abbrev pub paired : {A : Type 0} → Option A → List (List ℕ) → Option (A × List (List ℕ))
paired None more = None
paired (Some x) more = Some (x, more)

-- it is given where no word is left
abbrev pub if_last : {A : Type 0} → List (List ℕ) → A → Option A
if_last more x = if length more == 0 then Some x else None

-- a number that is not 0
abbrev pub if_some : ℕ → Option ℕ
if_some n = if n == 0 then None else Some n

-- ---- an address

abbrev pub next_byte : List (List ℕ) → Option (ℕ × List (List ℕ))
next_byte [] = None
next_byte (word ∷ more) = paired (number_to 255 word) more

-- four bytes, the first of which is the highest
unfoldable pub ip_of : List (List ℕ) → Option ℕ
ip_of words = do
  a ← next_byte words
  b ← next_byte a.1
  c ← next_byte b.1
  d ← next_byte c.1
  if_last d.1 (from_be_bytes w32 (a.0 ∷ b.0 ∷ c.0 ∷ d.0 ∷ []))

abbrev pub port_of : List ℕ → Option ℕ
port_of word = number_to 65_535 word >>= if_some

abbrev pub next_ip : List (List ℕ) → Option (ℕ × List (List ℕ))
next_ip [] = None
next_ip (host ∷ more) = paired (ip_of (pieces 46 host)) more

abbrev pub next_port : List (List ℕ) → Option (ℕ × List (List ℕ))
next_port [] = None
next_port (word ∷ more) = paired (port_of word) more

-- `a.b.c.d:port`, of the parts between the colons
unfoldable pub address_of : List (List ℕ) → Option Address
address_of parts = do
  ip ← next_ip parts
  port ← next_port ip.1
  if_last port.1 (record { ip = ip.0; port = port.0 })

-- ---- all words

abbrev pub count_of : List ℕ → Option ℕ
count_of word = number_to 1_000_000 word >>= if_some

abbrev pub bound_of : List ℕ → List ℕ → Option Bound
bound_of count level = do
  n ← count_of count
  l ← parse_filter level
  Some (record { count = n; level = l })

abbrev pub unbounded : List ℕ → Option Said
unbounded place = do
  a ← address_of (pieces 58 place)
  Some (record { address = a; bound = None })

abbrev pub bounded : List ℕ → List ℕ → List ℕ → Option Said
bounded place count level = do
  a ← address_of (pieces 58 place)
  b ← bound_of count level
  Some (record { address = a; bound = Some b })

abbrev pub is_serve : List ℕ → Bool
is_serve word = bytes_eq word (codes "serve")

-- `serve ADDRESS` or `serve ADDRESS COUNT LEVEL`, and no other words
abbrev pub said : List (List ℕ) → Option Said
said [] = None
said (word ∷ []) = None
said (word ∷ place ∷ []) = if is_serve word then unbounded place else None
said (word ∷ place ∷ count ∷ []) = None
said (word ∷ place ∷ count ∷ level ∷ []) = if is_serve word then bounded place count level else None
said (word ∷ place ∷ count ∷ level ∷ next ∷ more) = None
