-- How many bytes a listing takes, and what class 5 tells of a file.
use Rattle.std.specs.Prelude.{◌≡◌, ℕ, ◌+◌, ◌*◌, ◌≤◌, Bool, List, length, IsUtf8}
use Rattle.spec_wire.specs.messages.Utf16.{utf16}
use Rattle.spec_exchange.specs.Texts.{utf16_length}
use Rattle.spec_exchange.specs.State.{Named, Info}
use Rattle.spec_exchange.specs.Listing.{fitting, one_or_all}
use Rattle.spec_commands.specs.Infos.{listing_bytes, file_bytes}
use Rattle.law_commands.specs.commands.Fitting.{AreTexts}

-- the units that are counted of a text's UTF-8 are those of its UTF-16, of two bytes each
abbrev pub UnitsAreCounted : Type 0
UnitsAreCounted = (text : List ℕ) → IsUtf8 text → length (utf16 text) ≡ 2 * utf16_length text

-- of the entries that fit in a room: at most the next multiple of 8
abbrev pub ListingsAreShort : Type 0
ListingsAreShort =
    (single : Bool) (class room : ℕ) (ns : List Named) → AreTexts (one_or_all single (fitting class room 0 ns)) →
    length (listing_bytes class (one_or_all single (fitting class room 0 ns))) ≤ room + 7

abbrev pub StandardsAreShort : Type 0
StandardsAreShort = (path : List ℕ) (info : Info) (access options position : ℕ) → length (file_bytes 5 path info access options position) ≡ 24
