-- What a reply tells.
use Rattle.std.proofs.Common.{◌≡◌, ◌<◌, ℕ, ◌+◌, Bool, false, nat_le, Option, Some, None, is_some, refl, arith}
use Rattle.std.proofs.lemmas.Bool.Decides.{nat_tests}
use Rattle.std.specs.Prelude.{option_map}
use Rattle.wire_commands.specs.values.Meaning.{durable_of}
use Rattle.wire_commands.specs.declared.values.command.Durable.{Durable}
use Rattle.spec_exchange.specs.CheckSetup.{max_numbers}
use Rattle.spec_exchange.specs.Effects.{connected}
use Rattle.spec_exchange.specs.State.{Body, Created, Empty, Info, Message, Reply, SetUp}
use Rattle.spec_exchange.specs.Status.{more_processing_required, success}

abbrev pub said : Message → ℕ → Body → Reply
said m status body = record { status = status; session_id = m.session_id; tree_id = m.tree_id; body = body }

-- a TREE_CONNECT's reply, with the new tree's id
abbrev pub connected_in : ℕ → Bool → ℕ → Reply
connected_in session pipes tree = record { status = success; session_id = session; tree_id = tree; body = connected pipes }

-- a logon that goes on
abbrev pub going_on : ℕ → ℕ → Reply
going_on tree session = record { status = more_processing_required; session_id = session; tree_id = tree; body = Empty }

pub created_same : (id action : ℕ) (x y : Info) (u v : Option ℕ) (a b c d : Bool) → x ≡ y → u ≡ v → a ≡ b → c ≡ d
    → Created (record { id = id; action = action; info = x; timeout = u; maximal = a; disk_id = c })
    ≡ Created (record { id = id; action = action; info = y; timeout = v; maximal = b; disk_id = d })
created_same id action x y u v a b c d e f g h = rw (e, f, g, h) refl

pub some_durable : (o : Option Durable) → is_some (option_map durable_of o) ≡ is_some o
some_durable None = refl
some_durable (Some d) = refl

-- a session or channel that stands
abbrev pub set_up_in : Message → Bool → ℕ → Reply
set_up_in m sealed channel = said m success (SetUp sealed channel)

pub few_numbers : (n : ℕ) → nat_le max_numbers n ≡ false → n + 1 < 65536
few_numbers n e = grind (arith, nat_tests)
