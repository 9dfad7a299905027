-- What was found in a message's bytes, as the message that the definitions hear.
use Rattle.std.proofs.Common.{◌≡◌, ℕ, ◌==◌, ◌%◌, Bool, true, false, not, ◌&&◌, if◌then◌else◌, List, Option, Some, None, option_map}
use Rattle.std.proofs.Common.{refl, sym, ap, subst, ◌∙◌}
use Rattle.std.specs.Prelude.{is_some}
use Rattle.std.specs.Str.{bytes_eq}
use Rattle.std.proofs.lemmas.Slice.Eq.{bytes_eq-Decides}
use Rattle.spec_wire.specs.declared.messages.header.Header.{Header}
use Rattle.spec_wire.specs.declared.messages.error.MessageError.{MessageError}
use Rattle.spec_wire.specs.messages.SessionSetup.{SessionSetupRequestValue, session_setup_request_in, session_setup_request_fault}
use Rattle.spec_exchange.specs.Status.{invalid_parameter}
use Rattle.spec_exchange.specs.Commands as asks
use Rattle.spec_exchange.specs.Commands.{has_bit}
use Rattle.spec_exchange.specs.State as model
use Rattle.spec_crypto.specs.sessions.Signing.{verifies}
use Rattle.spec_commands.specs.CommandOf as requests
use Rattle.spec_commands.specs.CommandOf.{Told, command_of, named_command, heard_as, message_of}
use Rattle.wire_commands.specs.values.Meaning.{setup_told, message_of as meant, command_of as asked}
use Rattle.wire_commands.specs.declared.values.request.Message.{Message}
use Rattle.wire_commands.specs.declared.values.setup.SetupForm.{SetupForm}
use Rattle.spec_world.specs.Ends.{ServerEnd, Logons, chosen_on, client_on}
use Rattle.spec_world.specs.Hearing as hearing
use Rattle.spec_world.specs.Logon.{token_in, token_shows}
use Rattle.spec_world.specs.Related.{file_place}
use Rattle.spec_world.specs.Negotiate.{client_told}
use Rattle.spec_world.specs.Settings.{ServerSettings}
use Rattle.spec_world.specs.Connection as connection
use Rattle.spec_world.specs.Connection.{heard_message}
use Rattle.server_checks.specs.declared.event_heard.event.ServerEvent.TheVariants as events
use Rattle.server_checks.specs.declared.setups.setup.SetupHeard.{SetupHeard}
use Rattle.conn_core.specs.declared.frame_messages.checked.Checked.{Checked}
use Rattle.conn_core.specs.frame_messages.Checking.{IsDenied}
use Rattle.conn_core.proofs.frame_messages.Headers.{one_number, true_is_not_false}
use Rattle.conn_core.specs.related.Carrying.{IsCarried, breaks_form, is_broken}
use Rattle.conn_core.specs.served.Serving.{IsServerPlain}
use Rattle.conn_core.specs.declared.requests.hearing.Told.{Told as Tells}
use Rattle.conn_core.specs.requests.Asking.{IsGreetingTold, IsFormed, IsRequestHeard, IsRequestEvent, message_for}
use Rattle.conn_core.proofs.requests.Plain.{one, two, verified_in, named_plain, named_not_zero, setup_number}

abbrev or_this : asks.Command → Option asks.Command → asks.Command
or_this d None = d
or_this d (Some c) = c

-- a message of which this was found
abbrev pub Finds : Header → List ℕ → (Told → asks.Command) → Type 0
Finds h m due = (t : Told) → command_of t h m ≡ Some (due t)

some_named : (b : Bool) (x c : asks.Command) → (if b then None else Some x) ≡ Some c → x ≡ c
some_named true x c e = absurd cc
some_named false x c e = ap (λ (o : Option asks.Command). or_this x o) e

named : (h : Header) (m : List ℕ) (due : Told → asks.Command) → Finds h m due → (t : Told) → named_command h.command t h m ≡ due t
unfolding command_of
named h m due e = λ t. some_named (h.command == 12) (named_command h.command t h m) (due t) (e t)

-- the message that the definitions hear of it
pub heard_due : (t : Told) (h g : Header) (m n : List ℕ) (o : Option asks.Command) → g ≡ h → n ≡ m → command_of t h m ≡ o
    → message_of t g n ≡ option_map (heard_as t g) o
unfolding message_of
heard_due t h g m n o header bytes e =
    ap (λ (x : Option asks.Command). option_map (heard_as t g) x)
    (ap (λ (y : Header). command_of t y n) header ∙ (ap (λ (b : List ℕ). command_of t h b) bytes ∙ e))

-- ---- and where its form is broken by its place

abbrev pub placed_command : Bool → Option ℕ → asks.Command → asks.Command
placed_command broken fault x = if broken then connection.misplaced_command fault x else x

pub placed_none : (b : Bool) → connection.placed b None ≡ None
placed_none true = refl
placed_none false = refl

pub placed_some : (b : Bool) (t : Told) (h : Header) (x : asks.Command)
    → connection.placed b (Some (heard_as t h x)) ≡ Some (heard_as t h (placed_command b t.fault x))
placed_some true t h x = refl
placed_some false t h x = refl

pub aside_placed : (b : Bool) (o : Option ℕ) (status : ℕ)
    → placed_command b o (asks.Aside status) ≡ asks.Aside (if not (is_some o) && b then invalid_parameter else status)
aside_placed true None status = refl
aside_placed true (Some fault) status = refl
aside_placed false None status = refl
aside_placed false (Some fault) status = refl

plain_placed : (b : Bool) (o : Option ℕ) (x : asks.Command) → IsServerPlain x
    → placed_command b o x ≡ (if not (is_some o) && b then asks.Unreadable invalid_parameter else x)
plain_placed false None x p = refl
plain_placed false (Some fault) x p = refl
plain_placed true (Some fault) x p = refl
plain_placed true None (asks.Aside status) p = absurd p
plain_placed true None (asks.Setup request) p = absurd p
plain_placed true None x p = refl

setup_placed : (b : Bool) (o : Option ℕ) (r : asks.SetupRequest)
    → placed_command b o (asks.Setup r) ≡ asks.Setup (if not (is_some o) && b then record r { readable = false } else r)
setup_placed false None r = refl
setup_placed false (Some fault) r = refl
setup_placed true None r = refl
setup_placed true (Some fault) r = refl

-- in code
broken_is : (m : Checked) (bytes : List ℕ) (c : hearing.Checked) → IsCarried m bytes c → is_broken c ≡ breaks_form m
broken_is m bytes c is = λ i. not (is_some (is.fault i)) && (not (is.related i) && has_bit (is.header i).flags 4)

-- the message that is heard of a command
heard_placed : (t : Told) (h g : Header) (m n : List ℕ) (b : Bool) (x : asks.Command) → g ≡ h → n ≡ m → command_of t h m ≡ Some x
    → connection.placed b (message_of t g n) ≡ Some (heard_as t g (placed_command b t.fault x))
heard_placed t h g m n b x header bytes e =
    ap (connection.placed b) (heard_due t h g m n (Some x) header bytes e) ∙ placed_some b t g x

-- none, of a CANCEL
pub heard_none : (z : ServerSettings) (L : Logons) (f : ServerEnd) (m : Checked) (bytes : List ℕ) (c : hearing.Checked) (t : Tells)
    → IsCarried m bytes c → ((u : Told) → command_of u m.header bytes ≡ None)
    → IsRequestEvent z.users L t c (heard_message z L t.connection f c) None
heard_none z L f m bytes c t is e =
    let u = connection.told_of z L t.connection f c in
    subst (λ (o : Option model.Message). IsRequestEvent z.users L t c o None)
    (sym (ap (connection.placed (hearing.is_misplaced c)) (heard_due u m.header c.header bytes c.bytes None is.header is.bytes_are (e u))
    ∙ placed_none (hearing.is_misplaced c))) tt

-- a command that the connection answers by itself
pub heard_aside : (z : ServerSettings) (L : Logons) (f : ServerEnd) (m : Checked) (bytes : List ℕ) (c : hearing.Checked) (t : Tells)
    (status : Told → ℕ) → IsCarried m bytes c → Finds m.header bytes (λ u. asks.Aside (status u))
    → IsRequestEvent z.users L t c (heard_message z L t.connection f c) None
heard_aside z L f m bytes c t status is e =
    let u = connection.told_of z L t.connection f c in
    subst (λ (o : Option model.Message). IsRequestEvent z.users L t c o None)
    (sym (heard_placed u m.header c.header bytes c.bytes (hearing.is_misplaced c) (asks.Aside (status u)) is.header is.bytes_are (e u)
    ∙ ap (λ (x : asks.Command). Some (heard_as u c.header x)) (aside_placed (hearing.is_misplaced c) c.fault (status u)))) tt

-- whose client it is
client_if : (b : Bool) (c : hearing.Checked) (k : ℕ) → b ≡ false → (if b then client_told c.bytes else k) ≡ k
client_if true c k e = absurd cc
client_if false c k e = refl

client_is : (f : ServerEnd) (m : Checked) (c : hearing.Checked) (t : Tells) → c.header ≡ m.header → (m.header.command == 0) ≡ false
    → IsGreetingTold f t → connection.client_by f c ≡ t.client_guid
client_is f m c t header other told =
    client_if (hearing.is_negotiate c.header) c (client_on f.greeting) (ap (λ (h : Header). h.command == 0) header
    ∙ other) ∙ sym told.client

-- ---- a plain command

plain_if : (b : Bool) (x : asks.Command) → IsServerPlain x → IsServerPlain (if b then asks.Unreadable invalid_parameter else x)
plain_if true x p = tt
plain_if false x p = p

pub heard_plain : (z : ServerSettings) (L : Logons) (f : ServerEnd) (m : Checked) (bytes : List ℕ) (c : hearing.Checked) (t : Tells)
    (x : asks.Command) (message : Message) → IsCarried m bytes c → IsGreetingTold f t → Finds m.header bytes (λ u. x)
    → ((u : Told) → u.connection ≡ t.connection → u.client ≡ t.client_guid → u.fault ≡ m.fault
    → meant message ≡ heard_as u m.header (if breaks_form m then asks.Unreadable invalid_parameter else x))
    → IsRequestEvent z.users L t c (heard_message z L t.connection f c) (Some (events.Message message))
heard_plain z L f m bytes c t x message is told e formed =
    let u = connection.told_of z L t.connection f c in
    let b = hearing.is_misplaced c in
    let v = if breaks_form m then asks.Unreadable invalid_parameter else x in
    let by_number = named m.header bytes (λ u. x) e in
    let plain : IsServerPlain x = named_plain m.header.command m.header bytes x by_number in
    let other : (m.header.command == 0) ≡ false = named_not_zero m.header.command m.header bytes x by_number in
    let same : meant message ≡ heard_as u m.header v = formed u refl (client_is f m c t is.header other told) is.fault in
    let mine : meant message ≡ heard_as u c.header v = same ∙ ap (λ (h : Header). heard_as u h v) (sym is.header) in
    let serves : IsServerPlain (asked message.command) =
    subst (λ (y : asks.Command). IsServerPlain y) (sym (ap (λ (y : model.Message). y.command) same)) (plain_if (breaks_form m) x plain) in
    let due : heard_message z L t.connection f c ≡ Some (heard_as u c.header v) =
    heard_placed u m.header c.header bytes c.bytes b x is.header is.bytes_are (e u)
    ∙ (ap (λ (y : asks.Command). Some (heard_as u c.header y)) (plain_placed b c.fault x plain)
    ∙ ap (λ (q : Bool). Some (heard_as u c.header (if q then asks.Unreadable invalid_parameter else x))) (broken_is m bytes c is)) in
    subst (λ (o : Option model.Message). IsRequestEvent z.users L t c o (Some (events.Message message))) (sym due) (serves, mine)

-- ---- a SESSION_SETUP

abbrev signed_in : asks.Command → Bool
signed_in (asks.Setup r) = r.signed
signed_in _ = false

abbrev readable_in : asks.Command → Bool
readable_in (asks.Setup r) = r.readable
readable_in _ = false

abbrev shown_in : asks.Command → asks.Shows
shown_in (asks.Setup r) = r.shows
shown_in _ = asks.Bad

abbrev begins : asks.Shows → Bool
begins asks.Begins = true
begins _ = false

signed_if : (t : Told) (h : Header) (o : Option MessageError) (v : SessionSetupRequestValue)
    → signed_in (requests.setup_if t h o v) ≡ has_bit h.flags 8
signed_if t h None v = refl
signed_if t h (Some e) v = refl

pub signed_is : (h : Header) (m : List ℕ) (form : SetupForm) → ((t : Told) → requests.setup_in t h m ≡ asks.Setup (setup_told t form))
    → form.signed ≡ has_bit h.flags 8
unfolding requests.setup_in
signed_is h m form e =
    let o = session_setup_request_fault m in
    let v = session_setup_request_in m in
    sym (ap (λ (x : asks.Command). signed_in x) (e one)) ∙ signed_if one h o v

-- to whom this token alone begins a logon
abbrev finder : List ℕ → Told
finder token = record one { shows = λ given. if bytes_eq given token then asks.Begins else asks.Bad }

begins_if : (b : Bool) → begins (if b then asks.Begins else asks.Bad) ≡ b
begins_if true = refl
begins_if false = refl

same_token : (t : Told) (h : Header) (o : Option MessageError) (v : SessionSetupRequestValue) (form : SetupForm) → form.readable ≡ true
    → requests.setup_if (finder form.token.now) h o v ≡ asks.Setup (setup_told (finder form.token.now) form)
    → form.token.now ≡ v.security
same_token t h (Some x) v form reads e =
    let none : false ≡ form.readable = ap (λ (c : asks.Command). readable_in c) e in
    let same : false ≡ true = none ∙ reads in
    absurd (true_is_not_false (sym same))
same_token t h None v form reads e =
    let token = form.token.now in
    let shows : (if bytes_eq v.security token then asks.Begins else asks.Bad) ≡ (if bytes_eq token token then asks.Begins else asks.Bad) =
    ap (λ (c : asks.Command). shown_in c) e in
    let itself : bytes_eq token token ≡ true = (bytes_eq-Decides token token).1 refl in
    let same : bytes_eq v.security token ≡ true =
    sym (begins_if (bytes_eq v.security token))
    ∙ (ap (λ (s : asks.Shows). begins s) shows ∙ (begins_if (bytes_eq token token) ∙ itself)) in
    sym ((bytes_eq-Decides v.security token).0 same)

token_is : (h : Header) (m : List ℕ) (form : SetupForm) → ((t : Told) → requests.setup_in t h m ≡ asks.Setup (setup_told t form))
    → form.readable ≡ true → form.token.now ≡ token_in m
unfolding requests.setup_in token_in
token_is h m form e reads =
    same_token one h (session_setup_request_fault m) (session_setup_request_in m) form reads (e (finder form.token.now))

setup_apart : (form : SetupForm) → asks.Setup (setup_told one form) ≡ asks.Setup (setup_told two form) → ⊥
setup_apart form e =
    let same : false ≡ true = ap (λ (c : asks.Command). verified_in c) e in
    absurd (true_is_not_false (sym same))

number_is : (h : Header) (m : List ℕ) (form : SetupForm) → Finds h m (λ t. asks.Setup (setup_told t form)) → h.command ≡ 1
number_is h m form e =
    one_number h.command 1 (setup_number h.command h m (λ t. asks.Setup (setup_told t form)) (setup_apart form) (λ t. refl)
    (named h m (λ t. asks.Setup (setup_told t form)) e))

setup_found : (h : Header) (m : List ℕ) (form : SetupForm) → Finds h m (λ t. asks.Setup (setup_told t form)) → h.command ≡ 1
    → (t : Told) → requests.setup_in t h m ≡ asks.Setup (setup_told t form)
setup_found h m form e number =
    subst (λ (n : ℕ). (t : Told) → named_command n t h m ≡ asks.Setup (setup_told t form)) number
    (named h m (λ t. asks.Setup (setup_told t form)) e)

pub none_named : (n : ℕ) → n ≡ 1 → file_place n ≡ None
unfolding file_place
none_named n e = ap (λ (k : ℕ). file_place k) e

is_one : (n : ℕ) → n ≡ 1 → (n == 1) ≡ true
is_one n e = ap (λ (k : ℕ). k == 1) e

not_zero : (n : ℕ) → n ≡ 1 → (n == 0) ≡ false
not_zero n e = ap (λ (k : ℕ). k == 0) e

message_is : (z : ServerSettings) (L : Logons) (f : ServerEnd) (m : Checked) (bytes : List ℕ) (c : hearing.Checked) (t : Tells)
    (form : SetupForm) (q : SetupHeard) → IsCarried m bytes c → c.raw ≡ bytes → IsGreetingTold f t → IsFormed t m form bytes q
    → (m.header.command == 0) ≡ false → form.signed ≡ has_bit m.header.flags 8
    → message_for z.users L q ≡ heard_as (connection.told_of z L t.connection f c) c.header
    (asks.Setup (setup_told (connection.told_of z L t.connection f c) form))
message_is z L f m bytes c t form q is raw told formed other signed =
    let u = connection.told_of z L t.connection f c in
    let header : m.header ≡ c.header = sym is.header in
    let client : q.client_guid ≡ u.client = formed.client ∙ sym (client_is f m c t is.header other told) in
    let session : q.session_id ≡ c.header.session = formed.session ∙ ap (λ (h : Header). h.session) header in
    let tree : q.tree_id ≡ c.header.tree = formed.tree ∙ ap (λ (h : Header). h.tree) header in
    let message : q.message_id ≡ c.header.message = formed.message ∙ ap (λ (h : Header). h.message) header in
    let sequence : q.channel_sequence ≡ c.header.status % 65536 = formed.sequence ∙ ap (λ (h : Header). h.status % 65536) header in
    let replay : q.replay ≡ has_bit c.header.flags 0x2000_0000 = formed.replay ∙ ap (λ (h : Header). has_bit h.flags 0x2000_0000) header in
    let fault : q.fault ≡ c.fault = formed.fault ∙ sym is.fault in
    let bytes_are : q.bytes.now ≡ c.raw = formed.raw ∙ sym raw in
    let sign : q.form.signed ≡ has_bit c.header.flags 8 =
    ap (λ (g : SetupForm). g.signed) formed.form_is ∙ (signed ∙ ap (λ (h : Header). has_bit h.flags 8) header) in
    let chosen : q.chosen ≡ chosen_on f.greeting = formed.chosen ∙ told.chosen in
    λ i. record {
      connection = formed.connection i;
      client_guid = client i;
      session_id = session i;
      tree_id = tree i;
      message_id = message i;
      channel_sequence = sequence i;
      replay = replay i;
      fault = fault i;
      command = asks.Setup (record {
        readable = (formed.form_is i).readable;
        binding = (formed.form_is i).binding;
        signed = (formed.form_is i).signed;
        verified = sign i && verifies (L.keys (session i)).signing (bytes_are i);
        previous = (formed.form_is i).previous;
        cipher = (chosen i).cipher;
        signing = (chosen i).signing;
        shows = token_shows z.users (L.pending (formed.connection i)) (formed.form_is i).token.now;
      });
    }

-- the form that is told, where its place breaks it
abbrev pub form_placed : Bool → SetupForm → SetupForm
form_placed broken form = if broken then record form { readable = false } else form

placed_told : (b : Bool) (u : Told) (form : SetupForm)
    → (if b then record (setup_told u form) { readable = false } else setup_told u form) ≡ setup_told u (form_placed b form)
placed_told true u form = refl
placed_told false u form = refl

signed_placed : (b : Bool) (form : SetupForm) (k : Bool) → form.signed ≡ k → (form_placed b form).signed ≡ k
signed_placed true form k e = e
signed_placed false form k e = e

token_placed : (b : Bool) (form : SetupForm) (token : List ℕ) → (form.readable ≡ true → form.token.now ≡ token)
    → (form_placed b form).readable ≡ true → (form_placed b form).token.now ≡ token
token_placed true form token e reads = absurd (true_is_not_false (sym reads))
token_placed false form token e reads = e reads

pub heard_setup : (z : ServerSettings) (L : Logons) (f : ServerEnd) (m : Checked) (bytes : List ℕ) (c : hearing.Checked) (t : Tells)
    (form : SetupForm) (q : SetupHeard) → IsCarried m bytes c → (file_place m.header.command ≡ None → c.raw ≡ bytes) → IsDenied m.fault
    → IsGreetingTold f t → Finds m.header bytes (λ u. asks.Setup (setup_told u form))
    → IsFormed t m (form_placed (breaks_form m) form) bytes q
    → IsRequestEvent z.users L t c (heard_message z L t.connection f c) (Some (events.Setup q))
heard_setup z L f m bytes c t form q is raw denied told e formed =
    let u = connection.told_of z L t.connection f c in
    let b = hearing.is_misplaced c in
    let placed = form_placed (breaks_form m) form in
    let number : m.header.command ≡ 1 = number_is m.header bytes form e in
    let as_heard : c.raw ≡ bytes = raw (none_named m.header.command number) in
    let by_number = setup_found m.header bytes form e number in
    let signed : placed.signed ≡ has_bit m.header.flags 8 =
    signed_placed (breaks_form m) form (has_bit m.header.flags 8) (signed_is m.header bytes form by_number) in
    let heard : IsRequestHeard z.users L t c q (heard_as u c.header (asks.Setup (setup_told u placed))) = record {
      message = message_is z L f m bytes c t placed q is as_heard told formed (not_zero m.header.command number) signed;
      setup = ap (λ (h : Header). h.command == 1) is.header ∙ is_one m.header.command number;
      session = formed.session ∙ ap (λ (h : Header). h.session) (sym is.header);
      connection = formed.connection;
      token = λ reads.
          ap (λ (g : SetupForm). g.token.now) formed.form_is
          ∙ (token_placed (breaks_form m) form (token_in bytes) (token_is m.header bytes form by_number)
          (sym (ap (λ (g : SetupForm). g.readable) formed.form_is) ∙ reads)
          ∙ ap (λ (b : List ℕ). token_in b) (sym is.bytes_are));
      raw = formed.raw ∙ sym as_heard;
      chain_is = formed.chain_is;
      chosen = formed.chosen;
      fresh = formed.fresh;
    } in
    let due : heard_message z L t.connection f c ≡ Some (heard_as u c.header (asks.Setup (setup_told u placed))) =
    heard_placed u m.header c.header bytes c.bytes b (asks.Setup (setup_told u form)) is.header is.bytes_are (e u)
    ∙ (ap (λ (y : asks.Command). Some (heard_as u c.header y)) (setup_placed b c.fault (setup_told u form))
    ∙ (ap (λ (k : Bool). Some (heard_as u c.header (asks.Setup (if k then record (setup_told u form) { readable = false }
    else setup_told u form)))) (broken_is m bytes c is)
    ∙ ap (λ (r : asks.SetupRequest). Some (heard_as u c.header (asks.Setup r))) (placed_told (breaks_form m) u form))) in
    subst (λ (o : Option model.Message). IsRequestEvent z.users L t c o (Some (events.Setup q))) (sym due)
    (subst (λ (o : Option ℕ). IsDenied o) (sym formed.fault) denied, heard)
