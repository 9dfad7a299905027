-- What the functions of this crate make of a chain of create contexts: one context, and the chain written piece by piece.
use Rattle.std.specs.Prelude.{◌≡◌, ℕ, ◌+◌, ◌<◌, ◌≤◌, Bool, true, false, if◌then◌else◌, List, [], ◌∷◌, ◌++◌, length}
use Rattle.std.specs.Prelude.{Option, Some, None, Result, Ok, Err}
use Rattle.spec_wire.specs.messages.Places.{number, le, gap_to_8}
use Rattle.spec_wire.specs.messages.Chain.{is_badly_linked, piece}
use Rattle.spec_wire.specs.messages.CreateContexts.{CreateContext, IsContext, first_fault, request_due, reply_due, request_of}
use Rattle.spec_wire.specs.messages.CreateContexts.{reply_of, context_spelling, context_size}
use Rattle.spec_wire.specs.declared.messages.chain_error.ChainError.{ChainError}
use Rattle.spec_wire.specs.declared.messages.context.CreateContexts.{CreateContexts}
use Rattle.spec_wire.specs.declared.messages.context.ReplyContexts.{ReplyContexts}
use Rattle.spec_wire.specs.declared.messages.chain_error.ChainError.TheVariants.{Short, BadNext}
use Rattle.wire_bytes.specs.declared.create_contexts.context.Context.{Context}
use Rattle.wire_bytes.specs.declared.create_contexts.context.First.{First}
use Rattle.wire_bytes.specs.declared.create_contexts.due.Side.{Side}
use Rattle.wire_bytes.specs.declared.create_contexts.due.Side.TheVariants.{Request, Reply}

-- the lengths that are due on one side
abbrev pub due_of : Side → List ℕ → Option ℕ
due_of Request name = request_due name
due_of Reply name = reply_due name

-- a context that borrows its parts, as a value
abbrev pub context : Context → CreateContext
context c = record { name = c.name.now; value = c.value.now }

-- The context that a chain begins with and how far the next one is, or its first break.
abbrev pub ReadsFirst : Side → List ℕ → Result First ChainError → Type 0
ReadsFirst side m (Ok f) = (first_fault (due_of side) m ≡ None) × (is_badly_linked m ≡ false) × IsContext (due_of side)
    (piece m) (context f.context) × (f.next ≡ number 4 m 0)
ReadsFirst side m (Err e) = first_fault (due_of side) m ≡ Some e

-- a context written where more follow, or none
abbrev pub linked_if : Bool → CreateContext → List ℕ
linked_if more v = if more then context_spelling v (context_size v + gap_to_8 (context_size v))
    ++ le (gap_to_8 (context_size v)) 0 else context_spelling v 0

-- what the context of a request says that a chain begins with, and how far the next one is
pub record FirstRequestSays (m : List ℕ) (said : CreateContexts) (next : ℕ) : Type 0 where
  pub context : CreateContext
  pub whole : first_fault request_due m ≡ None
  pub link : is_badly_linked m ≡ false
  pub is : IsContext request_due (piece m) context
  pub says : said ≡ request_of context
  pub told : next ≡ number 4 m 0

-- the same of a response
pub record FirstReplySays (m : List ℕ) (said : ReplyContexts) (next : ℕ) : Type 0 where
  pub context : CreateContext
  pub whole : first_fault reply_due m ≡ None
  pub link : is_badly_linked m ≡ false
  pub is : IsContext reply_due (piece m) context
  pub says : said ≡ reply_of context
  pub told : next ≡ number 4 m 0

-- how far the next context is
abbrev pub ReadsLink : List ℕ → Result ℕ ChainError → Type 0
ReadsLink m (Ok next) = (16 ≤ length m) × (is_badly_linked m ≡ false) × (next ≡ number 4 m 0)
ReadsLink m (Err Short) = length m < 16
ReadsLink m (Err BadNext) = (16 ≤ length m) × (is_badly_linked m ≡ true)
ReadsLink m (Err e) = ⊥

-- at most one context, written where more follow, or none
abbrev pub context_pieces : Bool → List CreateContext → List ℕ
context_pieces more [] = []
context_pieces more (v ∷ vs) = linked_if more v

abbrev pub context_some : List CreateContext → Bool
context_some [] = false
context_some (v ∷ vs) = true
