-- A message by what its connection tells of it is the one that the definitions hear of that connection, and so are the logons behind it.
use Rattle.std.proofs.Common.{◌≡◌, ℕ, ◌==◌, Bool, true, false, ◌&&◌, if◌then◌else◌, List, Some, None, option_map, refl, sym, ap, ◌∙◌}
use Rattle.spec_wire.specs.declared.messages.header.Header.{Header}
use Rattle.spec_exchange.specs.Commands as asks
use Rattle.spec_exchange.specs.Commands.{has_bit}
use Rattle.spec_exchange.specs.Table.{put}
use Rattle.spec_crypto.specs.sessions.Chain.{chain}
use Rattle.spec_crypto.specs.sessions.Derivation.{keys_of}
use Rattle.spec_crypto.specs.sessions.Signing.{verifies}
use Rattle.spec_crypto.specs.tokens.Tokens.{Users}
use Rattle.spec_commands.specs.CommandOf as requests
use Rattle.spec_commands.specs.CommandOf.{Told, heard_as, message_of, named_command}
use Rattle.spec_world.specs.Ends.{ServerEnd, Logons, chosen_on, client_on}
use Rattle.spec_world.specs.Hearing as hearing
use Rattle.spec_world.specs.Logon.{Progress, Stays, Interim, Final, exported, full_transcript, logons_behind, pending_by, token_in, token_shows}
use Rattle.spec_world.specs.Negotiate.{client_told, negotiate_status}
use Rattle.spec_world.specs.Settings.{ServerSettings}
use Rattle.spec_world.specs.Connection as connection
use Rattle.spec_world.specs.Connection.{heard_message}
use Rattle.conn_core.specs.declared.frame_messages.checked.Checked.{Checked}
use Rattle.conn_core.specs.frame_messages.Checking.{ShowsGoing, message_in}
use Rattle.conn_core.proofs.frame_messages.Headers.{one_number}
use Rattle.conn_core.specs.declared.requests.hearing.Told.{Told as Tells}
use Rattle.conn_core.specs.requests.Asking.{IsGreetingTold, IsRequestTold}
use Rattle.conn_core.specs.requests.Telling.{told_logons, told_message}
use Rattle.conn_core.proofs.requests.Found.{none_named}
use Rattle.conn_core.proofs.requests.Plain.{behind_setup}

pub greeting_told : (f : ServerEnd) (c : hearing.Checked) (t : Tells) → IsRequestTold f c t → IsGreetingTold f t
greeting_told f c t told = record { client = told.client; chosen = told.chosen }

-- ---- what a message asks hangs on its signature only where it is a SESSION_SETUP

behind_same : (t : Told) (v : Bool) (h : Header) (m : List ℕ) (n : ℕ) (b : Bool) → b ≡ false
    → (if b then requests.setup_in t h m else behind_setup n h.charge m t)
    ≡ (if b then requests.setup_in (record t { verified = v }) h m else behind_setup n h.charge m (record t { verified = v }))
behind_same t v h m n true e = absurd cc
behind_same t v h m n false e = refl

named_same : (t : Told) (v : Bool) (h : Header) (m : List ℕ) (n : ℕ) → (n == 1) ≡ false
    → named_command n t h m ≡ named_command n (record t { verified = v }) h m
named_same t v h m n e =
    ap (λ (x : asks.Command). if n == 0 then asks.Aside t.negotiated else x) (behind_same t v h m n (n == 1) e)

message_same : (t : Told) (v : Bool) (h : Header) (m : List ℕ) → (h.command == 1) ≡ false
    → message_of t h m ≡ message_of (record t { verified = v }) h m
unfolding message_of requests.command_of
message_same t v h m e =
    ap (λ (x : asks.Command). option_map (heard_as t h) (if h.command == 12 then None else Some x)) (named_same t v h m h.command e)

-- whatever it was heard as
raw_by : (z : ServerSettings) (L : Logons) (k : ℕ) (f : ServerEnd) (c : hearing.Checked) (text : List ℕ) (b : Bool)
    → (c.header.command == 1) ≡ b → (b ≡ true → c.raw ≡ text)
    → heard_message z L k f c ≡ heard_message z L k f (record c { raw = text })
raw_by z L k f c text true e same = ap (λ (r : List ℕ). heard_message z L k f (record c { raw = r })) (same refl)
raw_by z L k f c text false e same =
    ap (connection.placed (hearing.is_misplaced c)) (message_same (connection.told_of z L k f c)
    (has_bit c.header.flags 8 && verifies (L.keys c.header.session).signing text) c.header c.bytes e)

-- ---- and of the connection what is told

shown_by : (z : ServerSettings) (L : Logons) (f : ServerEnd) (m : Checked) (bytes : List ℕ) (c : hearing.Checked) (t : Tells)
    → ShowsGoing bytes m c → IsGreetingTold f t
    → heard_message z L t.connection f (record c { raw = message_in bytes m }) ≡ told_message z L t m (message_in bytes m)
shown_by z L f m bytes c t shows told =
    let text = message_in bytes m in
    let header : c.header ≡ m.header = shows.header in
    let bytes_are : c.bytes ≡ text = shows.bytes_are in
    let related : c.related ≡ m.related = shows.related in
    let fault : c.fault ≡ m.fault = shows.fault in
    let client : client_on f.greeting ≡ t.client_guid = sym told.client in
    let chosen : chosen_on f.greeting ≡ t.chosen = sym told.chosen in
    λ i. connection.placed
    (hearing.is_misplaced (record { header = header i; raw = text; bytes = bytes_are i; related = related i; fault = fault i }))
    (message_of (record {
      connection = t.connection;
      client = if hearing.is_negotiate (header i) then client_told (bytes_are i) else client i;
      fault = fault i;
      verified = has_bit (header i).flags 8 && verifies (L.keys (header i).session).signing text;
      cipher = (chosen i).cipher;
      signing = (chosen i).signing;
      shows = token_shows z.users (L.pending t.connection);
      negotiated = negotiate_status (bytes_are i);
    }) (header i) (bytes_are i))

pub told_is : (z : ServerSettings) (L : Logons) (f : ServerEnd) (m : Checked) (bytes : List ℕ) (c : hearing.Checked) (t : Tells)
    → ShowsGoing bytes m c → IsGreetingTold f t → heard_message z L t.connection f c ≡ told_message z L t m (message_in bytes m)
told_is z L f m bytes c t shows told =
    raw_by z L t.connection f c (message_in bytes m) (c.header.command == 1) refl
    (λ e. shows.raw (none_named m.header.command (one_number m.header.command 1 (sym (ap (λ (h : Header). h.command == 1) shows.header) ∙ e))))
    ∙ shown_by z L f m bytes c t shows told

-- ---- the logons behind a SESSION_SETUP

pub told_behind : (users : Users) (L : Logons) (f : ServerEnd) (m : Checked) (bytes : List ℕ) (c : hearing.Checked) (t : Tells) (now : ℕ)
    (p : Progress) → ShowsGoing bytes m c → IsRequestTold f c t → hearing.is_setup c.header ≡ true
    → logons_behind users L t.connection f c t.fresh now p ≡ told_logons users L t m (message_in bytes m) now p
told_behind users L f m bytes c t now Stays shows told setup = refl
told_behind users L f m bytes c t now (Interim binding) shows told setup =
    ap (λ (b : List ℕ). record L { pending = put L.pending t.connection (pending_by users.bare (token_in b) t.fresh now) }) shows.bytes_are
told_behind users L f m bytes c t now (Final binding channel encrypts) shows told setup =
    let bytes_are : c.bytes ≡ message_in bytes m = shows.bytes_are in
    let header : c.header ≡ m.header = shows.header in
    let chosen : chosen_on f.greeting ≡ t.chosen = sym told.chosen in
    let value : chain (full_transcript f c.raw) ≡ t.chain = sym (told.chain_is setup) in
    λ i. if binding then L else record L {
      keys = put L.keys (header i).session (keys_of (exported users (L.pending t.connection) (token_in (bytes_are i))) (value i)
          (chosen i).cipher (chosen i).signing (header i).session);
    }
