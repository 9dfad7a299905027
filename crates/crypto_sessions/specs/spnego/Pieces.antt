-- A part of a token in code, as the definitions see it.
use Rattle.std.specs.Prelude.{◌≡◌, ◌+◌, ◌≤◌, length, Result, Ok, Err}
use Rattle.spec_crypto.specs.declared.tokens.der.DerError.{DerError}
use Rattle.spec_crypto.specs.tokens.Der
use Rattle.crypto_sessions.specs.declared.spnego.element.Piece.{Piece}
use Rattle.crypto_sessions.specs.declared.spnego.element.Parted.{Parted}

abbrev pub der_piece : Piece → Der.Piece
der_piece p = record { at = p.at; bytes = p.bytes.now }

abbrev pub parted : Parted → Der.Parted
parted e = record { contents = der_piece e.contents; rest = der_piece e.rest }

-- what a function answered, seen so, is what is due
abbrev pub DerAnswers : {X V : Type 0} → (X → V) → Result X DerError → Result V DerError → Type 0
DerAnswers view (Ok x) due = due ≡ Ok (view x)
DerAnswers view (Err e) due = due ≡ Err e

-- no byte of the second stands behind the first
abbrev pub Within : Piece → Piece → Type 0
Within p r = r.at + length r.bytes.now ≤ p.at + length p.bytes.now
