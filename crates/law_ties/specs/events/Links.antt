-- What holds of a connection's two ends and of what stands on its wires, where nothing was tampered with.
use Rattle.std.specs.Prelude.{◌≡◌, ℕ, ◌+◌, ◌==◌, ◌≤◌, ◌<◌, ◌^◌, Bool, true, false, not, ◌&&◌, List, [], ◌∷◌, ◌++◌, length, Option}
use Rattle.std.specs.Prelude.{Some, None, is_some, Ok}
use Rattle.spec_wire.specs.messages.Places.{number_of}
use Rattle.spec_exchange.specs.Status.{success}
use Rattle.spec_exchange.specs.Commands.{Command, Aside, Setup, SetupRequest, has_bit}
use Rattle.spec_exchange.specs.State.{Message}
use Rattle.spec_exchange.specs.Operations.{Op}
use Rattle.spec_exchange.specs.Client.{Client, Stage, Apart, SaidNegotiate, SaidFirst, SaidSecond, AskedTree}
use Rattle.spec_exchange.specs.Network.{Conn, Sent, Received, Token, ForDialog, ForOp, ForAttach}
use Rattle.spec_wire.specs.credits.Purse.{Credits, first_purse}
use Rattle.spec_wire.specs.credits.Exchange.{Line, Step, after_steps, first_line}
use Rattle.spec_crypto.specs.declared.sessions.choice.Chosen.{Chosen}
use Rattle.spec_crypto.specs.declared.sessions.material.Keys.{Keys}
use Rattle.spec_crypto.specs.sessions.Derivation.{known}
use Rattle.spec_crypto.specs.tokens.Tokens.{first_token}
use Rattle.spec_world.specs.Settings.{WorldSettings, chosen_of}
use Rattle.spec_world.specs.Messages.{HeardMessage}
use Rattle.spec_world.specs.Negotiate.{client_told, negotiated}
use Rattle.spec_world.specs.Ends.{ClientEnd, ServerEnd, Greeting, Logons, client_on, chosen_on}
use Rattle.spec_world.specs.Hearing.{text_of, is_negotiate, is_setup, is_cancel, fault_of}
use Rattle.spec_world.specs.Logon.{token_in, pending_by, challenge_of, greeting_transcript, before_setup}
use Rattle.spec_world.specs.Sending.{greeting_text, answer_of}
use Rattle.spec_world.specs.Dialog.{line_response, dialog_response, status_due, dialog_fault, body_reads, chosen_told, setup_token}
use Rattle.spec_world.specs.Dialog.{command_due, seals_told, own_final}
use Rattle.spec_world.specs.World.{World, Wires}
use Rattle.law_ties.specs.events.Fronts.{FrontReads, TellsReply, TellsBody}
use Rattle.law_ties.specs.channel_numbers.Counted.{binds}

-- ---- what a connection's ends have of the rest of the world: the client's session, the session that a dialog makes, the keys of
-- the client's session, and the server's logons

pub record Shared : Type 0 where
  pub session : ℕ
  pub pending : ℕ
  pub keys : Keys
  pub logons : Logons

abbrev pub shared_of : Client → Keys → Logons → Shared
shared_of c keys L = record { session = c.session; pending = c.pending; keys = keys; logons = L }

-- ---- what waits for the server

-- a message behind a logon
abbrev pub is_line : HeardMessage → Bool
is_line x = not (is_negotiate x.header) && not (is_setup x.header)

abbrev pub is_operations : Token → Bool
is_operations ForDialog = false
is_operations (ForOp g) = true
is_operations (ForAttach g) = true

-- It is read as what it was made for. Of the end neither the window nor the counter is looked at, so a served request before it
-- changes nothing here.
pub record Asked (z : WorldSettings) (L : Logons) (k : ℕ) (f : ServerEnd) (b : List ℕ) (x : Sent) (bill : ℕ × ℕ) : Type 0 where
  pub reads : FrontReads z L k f b x bill
  pub fault : fault_of f reads.sealed false reads.heard ≡ None
  pub credits : reads.heard.header.credits ≡ 512
  pub counts : is_cancel reads.heard.header ≡ false
  pub apart : has_bit reads.heard.header.flags 4 ≡ false  -- it isn't related
  pub charge_fits : reads.heard.header.charge < 256 ^ 2
  pub command_fits : reads.heard.header.command < 256 ^ 2
  pub message_fits : reads.heard.header.message < 256 ^ 8
  pub sealing : is_line reads.heard ≡ true → (reads.sealed ≡ f.encrypts) × (is_some f.keys ≡ true)
  pub plain : is_line reads.heard ≡ false → reads.sealed ≡ false
  pub kind : is_operations x.token ≡ true → is_line reads.heard ≡ true
  -- what a dialog asks on a line is its TREE_CONNECT
  pub tree : x.token ≡ ForDialog → is_line reads.heard ≡ true → reads.heard.header.command ≡ 3

abbrev pub AllAsked : WorldSettings → Logons → ℕ → ServerEnd → List (List ℕ) → List Sent → List (ℕ × ℕ) → Type 0
AllAsked z L k f [] [] [] = Unit {0}
AllAsked z L k f (b ∷ bs) (x ∷ xs) (q ∷ qs) = Asked z L k f b x q × AllAsked z L k f bs xs qs
AllAsked z L k f _ _ _ = ⊥

-- each id on its way up is awaited for its token
abbrev pub AllAwaited : (ℕ → Option Token) → ℕ → List Sent → List (ℕ × ℕ) → Type 0
AllAwaited awaited next [] [] = Unit {0}
AllAwaited awaited next (x ∷ xs) (q ∷ qs) = (awaited q.0 ≡ Some x.token) × (q.0 < next) × AllAwaited awaited next xs qs
AllAwaited awaited next _ _ = ⊥

-- ---- what waits for the client

-- A frame opens or verifies under these keys, and is heard as the reply that it was made for; the one that a dialog waits for on a
-- line is the response to its TREE_CONNECT.
pub record LinkAnswers (op : ℕ → Op) (keys : Keys) (encrypts : Bool) (awaited : ℕ → Option Token) (next : ℕ) (b : List ℕ) (y : Received)
    (grant : ℕ) : Type 0 where
  pub heard : HeardMessage
  pub opens : (n : ClientEnd) → n.keys ≡ keys → n.encrypts ≡ encrypts → line_response n b ≡ Some heard
  pub awaits : awaited heard.header.message ≡ Some y.token
  pub below : heard.header.message < next
  pub same : TellsReply heard y.reply
  pub body : TellsBody op heard y.reply y.token
  pub credits : heard.header.credits ≡ grant
  pub tree :
      y.token ≡ ForDialog → (heard.header.status == success) ≡ true →
      (heard.header.command ≡ 3) × (body_reads AskedTree heard.bytes ≡ true)

abbrev pub AllAnswer :
    (ℕ → Op) → Keys → Bool → (ℕ → Option Token) → ℕ → List (List ℕ) → List Received → List ℕ → Type 0
AllAnswer op keys encrypts awaited next [] [] [] = Unit {0}
AllAnswer op keys encrypts awaited next (b ∷ bs) (y ∷ ys) (g ∷ gs) =
    LinkAnswers op keys encrypts awaited next b y g × AllAnswer op keys encrypts awaited next bs ys gs
AllAnswer op keys encrypts awaited next _ _ _ = ⊥

-- ---- a line's two ends

pub record LinkReached (l : Line) : Type 0 where
  pub steps : List Step
  pub is : l ≡ after_steps steps first_line

-- Of one connection, where the client's end is a line or has closed. Credits are a run of `spec_wire::credits`; the
-- server has sealed no more
-- than it was asked, so that no nonce is missing.
pub record Linked (z : WorldSettings) (op : ℕ → Op) (s : Shared) (k : ℕ) (client_open server_open : Bool) (n : ClientEnd) (f : ServerEnd)
    (up down : List (List ℕ)) (xs : List Sent) (ys : List Received) : Type 0 where
  pub line : Line
  -- of a server's end that has closed too: its grants still come, and nothing is served
  pub reached : LinkReached line
  pub purse : n.purse ≡ line.purse
  pub window : server_open ≡ true → f.window ≡ line.window
  pub counted : server_open ≡ true → f.counter + length line.requests ≤ line.purse.next
  pub asked : server_open ≡ true → AllAsked z s.logons k f up xs line.requests
  pub awaited : client_open ≡ true → server_open ≡ true → AllAwaited n.awaited n.purse.next xs line.requests
  pub answers : client_open ≡ true → AllAnswer op n.keys n.encrypts n.awaited n.purse.next down ys line.grants
  pub session_fits : client_open ≡ true → n.keys.session < 2 ^ 64
  pub sealable : client_open ≡ true → n.encrypts ≡ true → (n.keys.cipher == 0) ≡ false
  pub keys : client_open ≡ true → server_open ≡ true → f.keys ≡ Some n.keys
  pub encrypts : client_open ≡ true → server_open ≡ true → f.encrypts ≡ n.encrypts
  pub greeted :
      client_open ≡ true → server_open ≡ true →
      (is_some f.greeting ≡ true) × (client_on f.greeting ≡ number_of z.client.guid)

-- ---- the purse of a dialog, whose requests cost 1 each: its stage tells it, so that each next request is paid for

abbrev pub dialog_purse : Stage → Credits
dialog_purse (SaidNegotiate bound) = record { held = 0; next = 1 }
dialog_purse (SaidFirst bound) = record { held = 511; next = 2 }
dialog_purse (SaidSecond bound) = record { held = 511; next = 3 }
dialog_purse _ = first_purse

-- what the response to it grants: a window that holds nothing gives all, and one that lacks 1 gives that back
abbrev pub dialog_grant : Stage → ℕ
dialog_grant (SaidNegotiate bound) = 512
dialog_grant _ = 1

-- ---- a dialog's two ends: one request waits, or one response comes

pub record GreetedAs (z : WorldSettings) (g : Option Greeting) : Type 0 where
  pub some : is_some g ≡ true
  pub client : client_on g ≡ number_of z.client.guid
  pub cipher : (chosen_on g).cipher ≡ (chosen_of z.client).cipher
  pub signing : (chosen_on g).signing ≡ (chosen_of z.client).signing

-- the client's choice is the server's
pub record ChosenAs (z : WorldSettings) (c : Chosen) : Type 0 where
  pub cipher : c.cipher ≡ (chosen_of z.client).cipher
  pub signing : c.signing ≡ (chosen_of z.client).signing

-- in a binding both ends have the keys of the client's session
abbrev pub IsLinkBinding : Shared → ClientEnd → HeardMessage → Bool → Type 0
IsLinkBinding s n x bound = bound ≡ true → (x.header.session ≡ s.session) × (n.keys ≡ s.keys)

-- the server's logon in the making is that of the client's first token
abbrev pub IsLinkBegun : Logons → ℕ → Type 0
IsLinkBegun L k = (fresh : List ℕ) × (now : ℕ) × (length fresh ≡ 8) × (now < 256 ^ 8) × (L.pending k ≡ pending_by false first_token fresh now)

-- the client's NEGOTIATE
pub record IsOwnGreeting (z : WorldSettings) (b : List ℕ) : Type 0 where
  pub salt : List ℕ
  pub message : Message
  pub is : b ≡ greeting_text z.client salt message
  pub salted : length salt ≡ 32
  pub sequence : message.channel_sequence ≡ 0
  pub id : message.message_id ≡ 0
  pub tree : message.tree_id ≡ 0
  pub session : message.session_id ≡ 0
  pub told : negotiated b ≡ chosen_of z.client
  pub client : client_told b ≡ number_of z.client.guid

-- the command of a stage's request
abbrev pub IsDialogCommand : Stage → Command → Type 0
IsDialogCommand (SaidNegotiate bound) c = c ≡ Aside success
IsDialogCommand (SaidFirst bound) c = (r : SetupRequest) × (c ≡ Setup r) × (r.binding ≡ bound)
IsDialogCommand (SaidSecond bound) c = (r : SetupRequest) × (c ≡ Setup r) × (r.binding ≡ bound)
IsDialogCommand _ c = ⊥

-- what the request of a stage carries
abbrev pub LinkCarries : WorldSettings → Shared → ℕ → ClientEnd → Stage → HeardMessage → Type 0
LinkCarries z s k n (SaidNegotiate bound) x = IsOwnGreeting z x.bytes
LinkCarries z s k n (SaidFirst bound) x = (token_in x.bytes ≡ first_token) × IsLinkBinding s n x bound
LinkCarries z s k n (SaidSecond bound) x =
    IsLinkBegun s.logons k × (answer_of z.client n (challenge_of (s.logons.pending k)) ≡ Some (token_in x.bytes))
    × IsLinkBinding s n x bound
    × (bound ≡ false → x.header.session ≡ s.pending)
LinkCarries z s k n _ x = ⊥

-- the server's end, where the request of a stage waits for it: its transcript and the request are the client's transcript
abbrev pub IsBehind : WorldSettings → ServerEnd → ClientEnd → List ℕ → Stage → Type 0
IsBehind z f n b (SaidNegotiate bound) = (f.greeting ≡ None) × (f.making ≡ None) × (n.transcript ≡ b ∷ [])
IsBehind z f n b (SaidFirst bound) =
    GreetedAs z f.greeting × (f.making ≡ None) × (n.transcript ≡ before_setup f ++ b ∷ []) × ChosenAs z n.chosen
IsBehind z f n b (SaidSecond bound) =
    GreetedAs z f.greeting × (is_some f.making ≡ true) × (n.transcript ≡ before_setup f ++ b ∷ []) × ChosenAs z n.chosen
IsBehind z f n b _ = ⊥

pub record Waiting (z : WorldSettings) (s : Shared) (k : ℕ) (n : ClientEnd) (f : ServerEnd) (b : List ℕ) (x : Sent)
    (grants : List ℕ) (stage : Stage) : Type 0 where
  pub heard : HeardMessage
  pub opens : text_of f.keys b ≡ Ok (record { sealed = false; messages = heard ∷ [] })
  pub alone : heard.bytes ≡ b
  pub token : x.token ≡ ForDialog
  pub command : IsDialogCommand stage x.message.command
  pub header : heard.header.command ≡ command_due stage
  pub awaits : n.awaited heard.header.message ≡ Some ForDialog
  pub below : heard.header.message < n.purse.next
  pub no_grants : grants ≡ []
  pub no_keys : f.keys ≡ None
  pub behind : IsBehind z f n b stage
  pub carries : LinkCarries z s k n stage heard

-- the server's end behind its answer of the due status
abbrev pub IsAhead : Shared → ℕ → ClientEnd → ServerEnd → WorldSettings → List ℕ → HeardMessage → Stage → Type 0
IsAhead s k n f z a x (SaidNegotiate bound) =
    (f.keys ≡ None) × GreetedAs z f.greeting × (f.making ≡ None) × (greeting_transcript f.greeting ≡ n.transcript ++ a ∷ [])
IsAhead s k n f z a x (SaidFirst bound) =
    (f.keys ≡ None) × GreetedAs z f.greeting × (f.making ≡ Some (n.transcript ++ a ∷ []))
    × (setup_token x.bytes ≡ challenge_of (s.logons.pending k))
IsAhead s k n f z a x (SaidSecond true) =
    (f.keys ≡ Some (own_final n true 0)) × (f.encrypts ≡ seals_told x.bytes) × GreetedAs z f.greeting
IsAhead s k n f z a x (SaidSecond false) =
    (f.keys ≡ Some (own_final n false s.pending)) × (f.encrypts ≡ seals_told x.bytes) × GreetedAs z f.greeting
IsAhead s k n f z a x _ = ⊥

-- what stands whether or not the server's end is open
abbrev pub IsLasting : WorldSettings → Shared → ℕ → ClientEnd → HeardMessage → Stage → Type 0
IsLasting z s k n x (SaidNegotiate bound) = ChosenAs z (chosen_told x.bytes)
IsLasting z s k n x (SaidFirst bound) = IsLinkBegun s.logons k × ChosenAs z n.chosen
IsLasting z s k n x (SaidSecond false) = (s.logons.keys s.pending ≡ own_final n false s.pending) × ChosenAs z n.chosen
IsLasting z s k n x _ = Unit {0}

-- of another status than the due one no more is asked than that it is heard
pub record Coming (z : WorldSettings) (s : Shared) (k : ℕ) (server_open : Bool) (n : ClientEnd) (f : ServerEnd) (a : List ℕ)
    (y : Received) (grants : List ℕ) (stage : Stage) : Type 0 where
  pub heard : HeardMessage
  pub opens : dialog_response n stage a ≡ Some heard
  pub alone : heard.bytes ≡ a
  pub token : y.token ≡ ForDialog
  pub awaits : n.awaited heard.header.message ≡ Some ForDialog
  pub same : TellsReply heard y.reply
  pub grants_it : grants ≡ dialog_grant stage ∷ []
  pub credits : heard.header.credits ≡ dialog_grant stage
  pub sound : (heard.header.status == status_due stage) ≡ true → dialog_fault z.client n stage heard ≡ None
  pub ahead : (heard.header.status == status_due stage) ≡ true → server_open ≡ true → IsAhead s k n f z a heard stage
  pub lasting : (heard.header.status == status_due stage) ≡ true → IsLasting z s k n heard stage

pub data Talks (z : WorldSettings) (s : Shared) (k : ℕ) (server_open : Bool) (n : ClientEnd) (f : ServerEnd)
    (up down : List (List ℕ)) (xs : List Sent) (ys : List Received) (line : Line) (stage : Stage) : Type 0 where
  Waits : (b : List ℕ) (x : Sent) → up ≡ b ∷ [] → xs ≡ x ∷ [] → down ≡ [] → ys ≡ [] →
      (server_open ≡ true → Waiting z s k n f b x line.grants stage) → Talks z s k server_open n f up down xs ys line stage
  Comes : (a : List ℕ) (y : Received) → up ≡ [] → xs ≡ [] → down ≡ a ∷ [] → ys ≡ y ∷ [] →
      Coming z s k server_open n f a y line.grants stage → Talks z s k server_open n f up down xs ys line stage
  Lost : up ≡ [] → xs ≡ [] → down ≡ [] → ys ≡ [] → server_open ≡ false → Talks z s k server_open n f up down xs ys line stage

-- a line, whose first request is a new session's TREE_CONNECT
abbrev pub is_lined : Stage → Bool
is_lined Apart = true
is_lined AskedTree = true
is_lined _ = false

pub record Tied (z : WorldSettings) (op : ℕ → Op) (s : Shared) (k : ℕ) (client_open server_open : Bool) (n : ClientEnd) (f : ServerEnd)
    (up down : List (List ℕ)) (xs : List Sent) (ys : List Received) : Type 0 where
  pub link : Linked z op s k (client_open && is_lined n.stage) server_open n f up down xs ys
  pub bound_keys : client_open ≡ true → binds n.stage ≡ true → n.keys ≡ s.keys
  pub talk :
      client_open ≡ true → is_lined n.stage ≡ false → Talks z s k server_open n f up down xs ys link.line n.stage
  pub purse : client_open ≡ true → is_lined n.stage ≡ false → n.purse ≡ dialog_purse n.stage
  -- of the drawn bytes
  pub logon : client_open ≡ true → (length n.challenge ≡ 8) × (length n.base ≡ 16)
  pub salted : server_open ≡ true → length f.salt ≡ 32

-- ---- the whole world

abbrev pub TieOf : WorldSettings → (ℕ → Op) → Shared → ℕ → Conn → Wires → Type 0
TieOf z op s k d u = Tied z op s k d.client_open d.server_open u.client_end u.server_end u.up u.down d.up d.down

-- the last accepted session has on both ends the same keys, of the cipher that is chosen
abbrev pub HasOwnKeys : WorldSettings → Keys → Logons → (ℕ → ℕ) → ℕ → Type 0
HasOwnKeys z keys L rank accepted =
    0 < rank accepted → (L.keys accepted ≡ keys) × (keys.cipher ≡ known (chosen_of z.client).cipher) × (keys.session < 2 ^ 64)

pub record Ties (z : WorldSettings) (c : Client) (keys : Keys) (L : Logons) (conns : ℕ → Conn) (wires : ℕ → Wires) : Type 0 where
  pub tied : (k : ℕ) → TieOf z c.op (shared_of c keys L) k (conns k) (wires k)
  pub stages : (k : ℕ) → (conns k).client_open ≡ true → (wires k).client_end.stage ≡ c.stage k
  pub nexts : (k : ℕ) → (conns k).client_open ≡ true → (wires k).client_end.purse.next ≡ (conns k).next_id
  pub own_keys : HasOwnKeys z keys L c.rank c.accepted

abbrev pub IsTied : WorldSettings → World → Type 0
IsTied z w = Ties z w.values.client w.keys w.logons w.values.conns w.wires
