-- The create contexts that a CREATE may not bring together (MS-SMB2 3.3.5.9.12): two of one name, whichever, and DH2C beside an ask
-- for a durable open or its reconnection of the first version. DH2C beside DH2Q is refused by the form of the command that is heard.
use Rattle.std.specs.Prelude.{ℕ, Bool, false, ◌&&◌, ◌||◌, List, [], ◌∷◌, Option, Some, None, is_some}
use Rattle.spec_wire.specs.messages.CreateContexts.{CreateContext, context_in, first_fault, request_due, is_named, dh2c}
use Rattle.spec_commands.specs.Items.{items_in}

-- DHnQ (2.2.13.2.3), DHnC (2.2.13.2.4)
abbrev pub dhnq : List ℕ
dhnq = 0x44 ∷ 0x48 ∷ 0x6e ∷ 0x51 ∷ []

abbrev pub dhnc : List ℕ
dhnc = 0x44 ∷ 0x48 ∷ 0x6e ∷ 0x43 ∷ []

-- one of them has this name
unfoldable pub has_named : List ℕ → List CreateContext → Bool
has_named name [] = false
has_named name (c ∷ cs) = is_named c.name name || has_named name cs

-- two of them have one name
unfoldable pub has_twice : List CreateContext → Bool
has_twice [] = false
has_twice (c ∷ cs) = has_named c.name cs || has_twice cs

-- what asks to attach stands beside the first version's contexts
abbrev pub mixes_versions : List CreateContext → Bool
mixes_versions cs = has_named dh2c cs && (has_named dhnq cs || has_named dhnc cs)

abbrev pub clash : List CreateContext → Bool
clash cs = has_twice cs || mixes_versions cs

-- contexts that break are refused for that
abbrev pub all_clash : Option (List CreateContext) → Bool
all_clash None = false
all_clash (Some cs) = clash cs

-- the contexts of a request clash, where none breaks
unfoldable pub clash_in : List ℕ → Bool
clash_in bytes = all_clash (items_in context_in (λ m. is_some (first_fault request_due m)) bytes)
