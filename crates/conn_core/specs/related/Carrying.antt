-- What is handed on to a related message in code, and what becomes of that message.
use Rattle.std.specs.Prelude.{◌≡◌, ◌≤◌, ◌==◌, ◌||◌, ◌&&◌, not, is_some, if◌then◌else◌, ℕ, slice_get, length, Bool, true, false, List, Option, Some, None}
use Rattle.std.specs.Prelude.{Result, Ok, Err, ◌⊎◌}
use Rattle.spec_wire.specs.declared.messages.header.Span.{Span}
use Rattle.spec_exchange.specs.Status.{no_memory, success}
use Rattle.spec_exchange.specs.Commands.{has_bit}
use Rattle.spec_exchange.specs.State as model
use Rattle.spec_commands.specs.Ids.{file_id}
use Rattle.spec_world.specs.Hearing as hearing
use Rattle.spec_world.specs.Related as related
use Rattle.conn_core.specs.declared.related.related.Carry.{Carry}
use Rattle.conn_core.specs.declared.frame_messages.checked.Checked.{Checked}
use Rattle.conn_core.specs.declared.frame_messages.checked.CheckedFrame.{CheckedFrame}
use Rattle.conn_core.specs.frame_messages.Checking.{message_in}
use Rattle.conn_core.specs.served.Serving.{IsNamed}
use Rattle.conn_core.specs.declared.served.serve.Reply.{Reply}
use Rattle.conn_core.specs.declared.served.error.ServeError.{ServeError}

abbrev pub carry_of : Carry → related.Carry
carry_of y = record { status = y.status; session = y.session; tree = y.tree; file = y.file }

-- a message of these bytes is the definitions', in what it hands on
pub record IsCarried (m : Checked) (bytes : List ℕ) (c : hearing.Checked) : Type 0 where
  pub header : c.header ≡ m.header
  pub bytes_are : c.bytes ≡ bytes
  pub fault : c.fault ≡ m.fault
  pub related : c.related ≡ m.related

-- Check 2 finds nothing in a message, and the related flag on a frame's first one breaks its form: in code, and to the definitions.
abbrev pub breaks_form : Checked → Bool
breaks_form m = not (is_some m.fault) && (not m.related && has_bit m.header.flags 4)

abbrev pub is_broken : hearing.Checked → Bool
is_broken c = not (is_some c.fault) && hearing.is_misplaced c

-- the FileId behind a message by the open that its answer tells
abbrev pub file_told : Option related.Carry → hearing.Checked → Option ℕ → List ℕ
file_told before c (Some id) = file_id id
file_told before c None = related.file_past before c

-- the FileId that was handed to a message in its chain
abbrev pub handed_before : Option Carry → Checked → List ℕ
handed_before None m = related.no_file_id
handed_before (Some y) m = if m.related then y.file else related.no_file_id

-- the status of the last CREATE in front of a message in its chain
abbrev pub status_before : Option Carry → Checked → ℕ
status_before None m = success
status_before (Some y) m = if m.related then y.status else success

-- behind a message that has no event, behind one that was answered, and behind one that found no memory
abbrev pub RelatedCarries : Option related.Carry → hearing.Checked → Option (Result Reply ServeError) → Carry → Type 0
RelatedCarries before c None y = carry_of y ≡ related.carried_past before c success
RelatedCarries before c (Some (Ok r)) y = (due : model.Reply) → IsNamed r due → carry_of y ≡ related.carried_behind before c due
RelatedCarries before c (Some (Err e)) y = carry_of y ≡ related.carried_past before c no_memory

-- ---- what becomes of a message: it goes its way with the ids that it takes over, or fails, and then tells those ids

abbrev pub Inherits : related.Turn → Bool → hearing.Checked → Checked → List ℕ → Type 0
Inherits (related.Goes c) true failed m bytes = IsCarried m bytes c × (m.fails ≡ None)
Inherits (related.Fails status) false failed m bytes = IsCarried m bytes failed × (m.fails ≡ Some status)
Inherits (related.Goes c) false failed m bytes = ⊥
Inherits (related.Fails status) true failed m bytes = ⊥

abbrev pub follows : Checked → Carry → Bool
follows m y = not (is_some (related.file_place m.header.command)) || (y.status == 0)

-- the ids are taken over, and the status of the CREATE that failed
pub record TakesOver (m : Checked) (y : Carry) (goes : Bool) (n : Checked) : Type 0 where
  pub goes_is : goes ≡ follows m y
  pub header : n.header ≡ record m.header { session = y.session; tree = y.tree }
  pub fails : n.fails ≡ (if follows m y then m.fails else Some y.status)
  pub related : n.related ≡ m.related
  pub fault : n.fault ≡ m.fault
  pub span : n.span ≡ m.span

-- two places that share no byte
abbrev pub AreApart : Span → Span → Type 0
AreApart s t = (s.end ≤ t.start) ⊎ (t.end ≤ s.start)

-- every other message is as it was, and so are its bytes where its place is another one
pub record SameOthers (at : ℕ) (old new : CheckedFrame) : Type 0 where
  pub count : length new.messages.items ≡ length old.messages.items
  pub size : length new.bytes.items ≡ length old.bytes.items
  pub sealed : new.sealed ≡ old.sealed
  pub moment : new.moment ≡ old.moment
  pub messages : (i : ℕ) (m : Checked) → (i ≡ at → ⊥) → slice_get old.messages.items i ≡ Some m → slice_get new.messages.items i ≡ Some m
  pub bytes : (m o : Checked) → slice_get old.messages.items at ≡ Some o → AreApart m.span o.span → m.span.start ≤ m.span.end
      → message_in new.bytes.items m ≡ message_in old.bytes.items m
