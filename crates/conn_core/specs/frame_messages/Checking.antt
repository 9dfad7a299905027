-- What a check of a frame answers, and how the frame in code shows its checked messages.
use Rattle.std.specs.Prelude.{◌≡◌, ℕ, ◌+◌, ◌-◌, ◌≤◌, ◌==◌, List, [], ◌∷◌, Option, Some, None, Result, Ok, Err, take, drop}
use Rattle.std.specs.Prelude.{Bool, false, if◌then◌else◌}
use Rattle.std.specs.Prelude.{true, length, map, Vec, ⊤, ◌<◌, slice_get}
use Rattle.std.specs.List.{All, list_any}
use Rattle.spec_exchange.specs.Status.{access_denied}
use Rattle.spec_world.specs.Ends as ends
use Rattle.spec_world.specs.Hearing as hearing
use Rattle.spec_wire.specs.declared.messages.header.Span.{Span}
use Rattle.spec_world.specs.Messages.{HeardMessage, has_header, heard_in}
use Rattle.spec_world.specs.Related.{file_place}
use Rattle.conn_core.specs.declared.conn.Conn.{Conn}
use Rattle.conn_core.specs.declared.end.ConnEnd.{ConnEnd}
use Rattle.conn_core.specs.declared.end.ConnEnd.TheVariants.{Memory}
use Rattle.conn_core.specs.declared.frame_messages.checked.Checked.{Checked}
use Rattle.conn_core.specs.declared.frame_messages.checked.CheckedFrame.{CheckedFrame}
use Rattle.conn_core.specs.Shown.{ShowsEnd, IsEnd, MaySeal}

-- the bytes of a message in its frame
abbrev pub message_in : List ℕ → Checked → List ℕ
message_in bytes m = take (m.span.end - m.span.start) (drop m.span.start bytes)

-- the fault that a connection finds is ACCESS_DENIED
abbrev pub IsDenied : Option ℕ → Type 0
IsDenied None = ⊤
IsDenied (Some status) = status ≡ access_denied

-- and so is that of each of these messages
abbrev pub AllDenied : List Checked → Type 0
AllDenied ms = All (λ m. IsDenied m.fault) ms

abbrev pub AreDenied : CheckedFrame → Type 0
AreDenied x = AllDenied x.messages.items

-- one of these messages is a SESSION_SETUP (MS-SMB2 2.2.1)
abbrev pub holds_setup : List Checked → Bool
holds_setup ms = list_any (λ m. m.header.command == 1) ms

-- A message that goes its way: its bytes as they stand, and where no FileId can have been put into them, as it was heard.
pub record ShowsGoing (bytes : List ℕ) (m : Checked) (c : hearing.Checked) : Type 0 where
  pub whole : m.span.start + 64 ≤ m.span.end
  pub inside : m.span.end ≤ length bytes
  pub header : c.header ≡ m.header
  pub bytes_are : c.bytes ≡ message_in bytes m
  pub raw : file_place m.header.command ≡ None → c.raw ≡ message_in bytes m
  pub related : c.related ≡ m.related
  pub fault : c.fault ≡ m.fault
  pub denied : IsDenied m.fault

abbrev pub ShowsMessages : List ℕ → List Checked → List hearing.Checked → Type 0
ShowsMessages bytes [] [] = ⊤
ShowsMessages bytes (m ∷ ms) (c ∷ cs) = ShowsGoing bytes m c × (m.fails ≡ None) × ShowsMessages bytes ms cs
ShowsMessages bytes [] (c ∷ cs) = ⊥
ShowsMessages bytes (m ∷ ms) [] = ⊥

-- a place of the frame's messages, whose bytes are inside the frame
abbrev pub HasMessage : CheckedFrame → ℕ → Type 0
HasMessage x at = (m : Checked) × (slice_get x.messages.items at ≡ Some m) × (m.span.start + 64 ≤ m.span.end)
    × (m.span.end ≤ length x.bytes.items)

-- each place has one
abbrev pub AllHaveMessages : CheckedFrame → Type 0
AllHaveMessages x = (at : ℕ) → at < length x.messages.items → HasMessage x at

pub record ShowsFrame (x : CheckedFrame) (F : hearing.Frame) : Type 0 where
  pub sealed : F.sealed ≡ x.sealed
  pub messages : ShowsMessages x.bytes.items x.messages.items F.messages

-- a NEGOTIATE is the first of its frame, if it is in it
abbrev pub NoneGreets : List hearing.Checked → Type 0
NoneGreets [] = ⊤
NoneGreets (c ∷ cs) = (hearing.is_negotiate c.header ≡ false) × NoneGreets cs

abbrev pub GreetsFirst : List hearing.Checked → Type 0
GreetsFirst [] = ⊤
GreetsFirst (c ∷ cs) = NoneGreets cs

abbrev pub CheckGoesOn : ℕ → List ℕ → Result hearing.Frame ends.ConnEnd → ℕ → Conn → CheckedFrame → Type 0
CheckGoesOn k guid (Ok F) now new x = ShowsEnd k guid new F.server_end × ShowsFrame x F × (x.moment ≡ now)
    × (x.sealed ≡ true → MaySeal F.server_end.keys) × GreetsFirst F.messages
CheckGoesOn k guid (Err why) now new x = ⊥

abbrev pub CheckEndsBy : Result hearing.Frame ends.ConnEnd → ConnEnd → Type 0
CheckEndsBy (Ok F) e = ⊥
CheckEndsBy (Err why) e = IsEnd e why

abbrev pub EndsAll : Result hearing.Frame ends.ConnEnd → ConnEnd → Type 0
EndsAll due Memory = ⊤
EndsAll due e = CheckEndsBy due e

-- the checked messages and the end behind them, or why the connection ends; memory may be missing for either
abbrev pub Checks : ℕ → List ℕ → Result hearing.Frame ends.ConnEnd → ℕ → Conn → Result CheckedFrame ConnEnd → Type 0
Checks k guid due now new (Ok x) = CheckGoesOn k guid due now new x
Checks k guid due now new (Err e) = EndsAll due e

-- one message is admitted in its turn
abbrev pub CheckAdmits : ℕ → List ℕ → Option ends.ConnEnd → ends.ServerEnd → Conn → Result Unit ConnEnd → Type 0
CheckAdmits k guid None behind new (Ok u) = ShowsEnd k guid new behind
CheckAdmits k guid (Some why) behind new (Err e) = IsEnd e why
CheckAdmits k guid None behind new (Err e) = ⊥
CheckAdmits k guid (Some why) behind new (Ok u) = ⊥

-- a sealed frame was opened where it stands, or can't be
abbrev pub HeardBy : Option (List ℕ) → Result Unit ConnEnd → List ℕ → List ℕ → Type 0
HeardBy (Some text) (Ok u) new old = (drop 52 new ≡ text) × (length new ≡ length old)
HeardBy None (Err e) new old = IsEnd e ends.Unsealable
HeardBy (Some text) (Err e) new old = ⊥
HeardBy None (Ok u) new old = ⊥

-- where a frame's text begins, and what it is; or it can't be opened
abbrev pub TextBy : Option (List ℕ) → Result ℕ ConnEnd → List ℕ → Type 0
TextBy (Some text) (Ok at) new = (at ≤ length new) × (drop at new ≡ text)
TextBy None (Err e) new = IsEnd e ends.Unsealable
TextBy (Some text) (Err e) new = ⊥
TextBy None (Ok at) new = ⊥

-- ---- the messages of a text, by their places in it

abbrev pub bytes_of : List ℕ → Span → List ℕ
bytes_of text s = take (s.end - s.start) (drop s.start text)

abbrev pub heard_at : List ℕ → List Span → List HeardMessage
heard_at text spans = map (λ s. heard_in (bytes_of text s)) spans

-- each is inside, and begins with a header
abbrev pub AreMessages : List ℕ → List Span → Type 0
AreMessages text [] = ⊤
AreMessages text (s ∷ ss) = (s.start ≤ s.end) × (s.end ≤ length text) × (has_header (bytes_of text s) ≡ true) × AreMessages text ss

-- from a place on, each with a header's room at least, behind the one before it, and inside
abbrev pub InOrder : ℕ → ℕ → List Span → Type 0
InOrder at size [] = ⊤
InOrder at size (s ∷ ss) = (at ≤ s.start) × (s.start + 64 ≤ s.end) × (s.end ≤ size) × InOrder s.end size ss

abbrev pub places_of : List Checked → List Span
places_of ms = map (λ m. m.span) ms

-- the messages of a frame stand one behind the other, from its first byte on
abbrev pub AreInOrder : CheckedFrame → Type 0
AreInOrder x = InOrder 0 (length x.bytes.items) (places_of x.messages.items)

-- a text is split as it is, or is none of messages; memory may be missing
abbrev pub SplitBy : Option (List HeardMessage) → List ℕ → Result (List Span) ConnEnd → Type 0
SplitBy due text (Ok spans) =
    (due ≡ Some (heard_at text spans)) × AreMessages text spans × (spans ≡ [] → ⊥) × InOrder 0 (length text) spans
SplitBy due text (Err Memory) = ⊤
SplitBy due text (Err e) = (due ≡ None) × IsEnd e ends.BadFrame

-- ---- one message in its turn, and all

pub record IsChecked (m : Checked) (c : hearing.Checked) : Type 0 where
  pub header : c.header ≡ m.header
  pub related : c.related ≡ m.related
  pub fault : c.fault ≡ m.fault
  pub fails : m.fails ≡ None

abbrev pub ChecksOne : ℕ → List ℕ → Option ends.ConnEnd → ends.ServerEnd → Conn → hearing.Checked → Span → Result Checked ConnEnd → Type 0
ChecksOne k guid None behind new c span (Ok m) = ShowsEnd k guid new behind × IsChecked m c × (m.span ≡ span)
ChecksOne k guid (Some why) behind new c span (Err e) = IsEnd e why
ChecksOne k guid None behind new c span (Err e) = ⊥
ChecksOne k guid (Some why) behind new c span (Ok m) = ⊥

abbrev pub AllGo : ℕ → List ℕ → List ℕ → Result hearing.Frame ends.ConnEnd → Conn → List Checked → Type 0
AllGo k guid bytes (Ok F) new ms = ShowsEnd k guid new F.server_end × ShowsMessages bytes ms F.messages
AllGo k guid bytes (Err why) new ms = ⊥

abbrev pub ChecksAll : {Z : Type 0} → ℕ → List ℕ → List ℕ → Result hearing.Frame ends.ConnEnd → Conn → Result (Vec Checked Z) ConnEnd
    → Type 0
ChecksAll k guid bytes due new (Ok ms) = AllGo k guid bytes due new ms.items
ChecksAll k guid bytes due new (Err e) = EndsAll due e

-- ---- what is due of the rest of a frame's messages, none of which was checked yet or some were

abbrev pub rest_due : Bool → ends.ServerEnd → Bool → Bool → List HeardMessage → Result hearing.Frame ends.ConnEnd
rest_due first f sealed barred xs = if first then hearing.checked_in f sealed xs else hearing.checked_behind f sealed barred xs

-- ---- what a loop has checked, in front of what is due of the rest

unfoldable pub check_prefixed : List hearing.Checked → Result hearing.Frame ends.ConnEnd → Result hearing.Frame ends.ConnEnd
check_prefixed [] due = due
check_prefixed (c ∷ cs) due = hearing.in_front c (check_prefixed cs due)
