-- The invariant under the three statements, in six sentences on a world w that a run leads to, in which each operation
-- acted a g times. A copy is a message of an operation itself that waits for the server; it is live where its session is
-- present on the server.
use Rattle.std.specs.Prelude.{◌≡◌, ◌≢◌, ℕ, ◌≤◌, ◌<◌, ◌==◌, nat_le, true, false, ◌&&◌, if◌then◌else◌, Some, None, is_some, slice_get}
use Rattle.spec_exchange.specs.Status.{success, user_session_deleted, file_not_available}
use Rattle.spec_exchange.specs.Content.{effect, is_change, collides}
use Rattle.spec_exchange.specs.Commands.{form}
use Rattle.spec_exchange.specs.State.{Server, Answer}
use Rattle.spec_exchange.specs.Opens.{denies_writers}
use Rattle.spec_exchange.specs.CheckCreate.{max_guids}
use Rattle.spec_exchange.specs.CheckOpen.{kept_status}
use Rattle.spec_exchange.specs.Check.{has_session}
use Rattle.spec_exchange.specs.Operations.{is_create, is_lock, request_of, content_op, share_of}
use Rattle.spec_exchange.specs.Client.{Client, create_for, guid_for}
use Rattle.spec_exchange.specs.Network.{World, Sent, ForOp, answer}
use Rattle.spec_exchange.specs.Runs.{never_acted}
use Rattle.law_sessions.specs.sessions.Sessions.{is_ops}
use Rattle.law_order.specs.order.Contents.{pends}
use Rattle.spec_exchange.specs.Texts.{same_name}
use Rattle.spec_exchange.specs.CheckSetup.{pipes_name}

-- ---- words

-- the id of the open that an operation names, as its create's success told it
abbrev pub open_of : Client → ℕ → ℕ
open_of c g = c.file (create_for c g)

-- message n on connection k is a copy of operation g, of a session that is there
pub record LiveCopy (w : World) (k n g : ℕ) (x : Sent) : Type 0 where
  pub waits : slice_get (w.conns k).up n ≡ Some x
  pub own : x.token ≡ ForOp g
  pub live : w.server.present x.message.session_id ≡ true

-- ---- 1. Each copy is its operation's own request, and its pair of session and sequence is no newer than the client's.

-- not newer, by the order in which the client accepted the sessions and then by the sequence
pub data NotNewer (c : Client) (x : Sent) : Type 0 where
  OlderSession : c.rank x.message.session_id < c.rank c.session → NotNewer c x
  SameSession : x.message.session_id ≡ c.session → x.message.channel_sequence ≤ c.sequence → NotNewer c x

-- what a copy of the operation has
pub record OwnCopy (c : Client) (g : ℕ) (x : Sent) : Type 0 where
  pub sent : c.sent g ≡ true
  -- its guid, or its open, slot and number
  pub request : x.message.command ≡ request_of (c.op g) (guid_for c g) (open_of c g) (c.slot_of g) (c.number_of g)
  pub client : x.message.client_guid ≡ c.who.guid
  pub accepted : 0 < c.rank x.message.session_id × c.rank x.message.session_id ≤ c.accepted_count
  pub not_newer : c.live ≡ true → NotNewer c x

-- the first sentence
abbrev pub CopiesAreOwn : World → Type 0
CopiesAreOwn w = (k n g : ℕ) (x : Sent) → slice_get (w.conns k).up n ≡ Some x → x.token ≡ ForOp g → OwnCopy w.client g x

-- ---- 2. Where a session is gone from the server, what waits of it is answered USER_SESSION_DELETED, and doesn't act: a
-- copy, or a DH2C in an operation's place.

-- the answer is USER_SESSION_DELETED, and nothing acts
pub record SessionDeleted (A : Answer) : Type 0 where
  pub status : A.reply.status ≡ user_session_deleted
  pub acted : A.acted ≡ false
  pub reached : A.reached ≡ None
  pub altered : A.altered ≡ None

-- the second
abbrev pub GoneIsDeleted : World → Type 0
GoneIsDeleted w = (k n : ℕ) (x : Sent) → slice_get (w.conns k).up n ≡ Some x → is_ops x.token ≡ true
    → w.server.present x.message.session_id ≡ false → SessionDeleted (answer w x)

-- ---- 3. For a create with a live copy, the server tells by its guid that it acted, or refuses it for good, or it hasn't
-- acted and isn't settled as refused.

-- what the server keeps of a create that acted
pub data ToldByGuid (c : Client) (s : Server) (session g : ℕ) : Type 0 where
  NamesOpen : (o : ℕ) → s.by_guid c.who.guid (guid_for c g) ≡ Some o → s.standing o ≡ true → ToldByGuid c s session g
  KeptClosed : s.closed session (guid_for c g) ≡ true → ToldByGuid c s session g
  HasExpired : s.expired_guids c.who.guid (guid_for c g) ≡ true → ToldByGuid c s session g

-- why no copy of it acts in this session
pub data RefusedAgain (c : Client) (s : Server) (x : Sent) (g : ℕ) : Type 0 where
  KeptRefusal : is_some (s.refused x.message.session_id (guid_for c g)) ≡ true → RefusedAgain c s x g
  BadForm : is_some (form x.message.command) ≡ true → RefusedAgain c s x g
  GuidsFull : nat_le max_guids (s.guids x.message.session_id) ≡ true → RefusedAgain c s x g
  OnPipes : same_name c.who.share pipes_name ≡ true → RefusedAgain c s x g

-- the three cases of a create with a live copy
pub data CreateHolds (w : World) (a : ℕ → ℕ) (x : Sent) (g : ℕ) : Type 0 where
  CreateActed : a g ≡ 1 → ToldByGuid w.client w.server x.message.session_id g → CreateHolds w a x g
  CreateRefused : a g ≡ 0 → RefusedAgain w.client w.server x g → CreateHolds w a x g
  CreateToCome : a g ≡ 0 → never_acted (w.client.outcome g) ≡ false → CreateHolds w a x g

-- the third
abbrev pub CreatesAreKept : World → (ℕ → ℕ) → Type 0
CreatesAreKept w a = (k n g : ℕ) (x : Sent) → LiveCopy w k n g x → is_create (w.client.op g) ≡ true → CreateHolds w a x g

-- ---- 4. For a lock or unlock with a live copy, its slot is its own, and while its open stands the slot tells whether it
-- acted.

-- the three cases of a lock or unlock with a live copy
pub data LockHolds (w : World) (a : ℕ → ℕ) (g : ℕ) : Type 0 where
  OpenLeft : w.server.standing (open_of w.client g) ≡ false → LockHolds w a g
  SlotTells : (status : ℕ) → kept_status (w.client.number_of g) (w.server.lock_sequences (open_of w.client g)
      (w.client.slot_of g)) ≡ Some status → a g ≡ (if status == success then 1 else 0) → LockHolds w a g
  LockToCome : kept_status (w.client.number_of g) (w.server.lock_sequences (open_of w.client g) (w.client.slot_of g))
      ≡ None → a g ≡ 0 → LockHolds w a g

-- what holds where a lock or unlock has a live copy
pub record LockCopy (w : World) (a : ℕ → ℕ) (g : ℕ) : Type 0 where
  -- the last that took the slot: no newer number stands there
  pub user : w.client.slot_user (create_for w.client g) (w.client.slot_of g) ≡ Some g
  pub holds : LockHolds w a g

-- the fourth
abbrev pub LocksAreKept : World → (ℕ → ℕ) → Type 0
LocksAreKept w a = (k n g : ℕ) (x : Sent) → LiveCopy w k n g x → is_lock (w.client.op g) ≡ true → LockCopy w a g

-- ---- 5. Of a write or end that went out and may still act, of an open that stands and denies writers: no other such
-- collides with it, and where it acted, the file's bytes show it. It may still act while it is unsettled, or where it was
-- given up with the session that was live last.

-- what holds of such a write or end
pub record EditHolds (w : World) (g : ℕ) : Type 0 where
  pub apart : (h : ℕ) → h ≢ g → w.client.sent h ≡ true → is_change (content_op (w.client.op h)) ≡ true
      → create_for w.client h ≡ create_for w.client g → pends w.client h ≡ true → collides (content_op (w.client.op g))
      (content_op (w.client.op h)) ≡ false
  pub shown : is_some (w.log.first g) ≡ true
      → effect (content_op (w.client.op g)) (w.server.content (w.server.opened (open_of w.client g)).file)
      ≡ w.server.content (w.server.opened (open_of w.client g)).file

-- the fifth
abbrev pub EditsAreShown : World → Type 0
EditsAreShown w =
    (g : ℕ) → is_change (content_op (w.client.op g)) ≡ true → w.client.sent g ≡ true → pends w.client g ≡ true
    → (is_create (w.client.op (create_for w.client g))
    && denies_writers (share_of (w.client.op (create_for w.client g)))) ≡ true
    → w.server.standing (open_of w.client g) ≡ true → EditHolds w g

-- ---- 6. A live copy of a write or end whose sequence is older than that of its open, attached in the copy's session, is
-- refused without acting; and no pair that reached an open that stands is newer than the open's own.

-- FILE_NOT_AVAILABLE, unless an earlier check refuses: the connection isn't a channel of the session, or the request
-- breaks the form rules
pub data OlderStatus (s : Server) (x : Sent) (status : ℕ) : Type 0 where
  NoChannel : has_session s x.message ≡ false → status ≡ user_session_deleted → OlderStatus s x status
  BreaksForm : form x.message.command ≡ Some status → OlderStatus s x status
  NotAvailable : status ≡ file_not_available → OlderStatus s x status

-- it is refused, and nothing acts
pub record OlderRefused (w : World) (x : Sent) : Type 0 where
  pub acted : (answer w x).acted ≡ false
  pub status : OlderStatus w.server x (answer w x).reply.status

-- the first half of the sixth
abbrev pub OlderIsRefused : World → Type 0
OlderIsRefused w =
    (k n g : ℕ) (x : Sent) → LiveCopy w k n g x → is_change (content_op (w.client.op g)) ≡ true
    → w.server.standing (open_of w.client g) ≡ true → w.server.session_of_open (open_of w.client g)
    ≡ Some x.message.session_id
    → x.message.channel_sequence < w.server.sequence (open_of w.client g) → OlderRefused w x

-- the pair that reached an open at place i, against that of the open in its session y
pub data ReachedBefore (w : World) (i o y : ℕ) : Type 0 where
  InOlderSession : w.client.rank (w.trace.session i) < w.client.rank y → ReachedBefore w i o y
  InSameSession : w.trace.session i ≡ y → w.trace.sequence i ≤ w.server.sequence o → ReachedBefore w i o y

-- where the open is attached in no session, the session of the pair is gone
pub record OpenIsNewest (w : World) (i o : ℕ) : Type 0 where
  pub attached : (y : ℕ) → w.server.session_of_open o ≡ Some y → ReachedBefore w i o y
  pub apart : w.server.session_of_open o ≡ None → w.server.present (w.trace.session i) ≡ false

-- the second half
abbrev pub OpensAreNewest : World → Type 0
OpensAreNewest w = (i o : ℕ) → i < w.log.places → w.trace.reached i ≡ Some o → w.server.standing o ≡ true → OpenIsNewest w i o

-- the sixth
pub record NoneIsNewer (w : World) : Type 0 where
  pub older : OlderIsRefused w
  pub newest : OpensAreNewest w
