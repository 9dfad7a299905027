-- A SESSION_SETUP that the client put up is heard as its own, at whichever server's end.
use Rattle.std.proofs.Common.{◌≡◌, ℕ, ◌%◌, ◌==◌, Bool, true, false, if◌then◌else◌, List, [], ◌⊎◌, inl, inr, refl, sym, ap, ◌∙◌, subst}
use Rattle.std.proofs.Common.{arith, eqb-true, Option, Some, None, Ok}
use Rattle.std.specs.Prelude.{option_map}
use Rattle.spec_wire.specs.messages.Places.{number}
use Rattle.spec_wire.specs.messages.SessionSetup.{session_setup_request_in, session_setup_request_fault, SessionSetupRequestValue}
use Rattle.spec_wire.specs.declared.messages.header.Header.{Header}
use Rattle.spec_wire.specs.declared.messages.error.MessageError.{MessageError}
use Rattle.spec_wire.proofs.messages.Numbers.{number_of-le}
use Rattle.spec_exchange.specs.Commands.{Command, Unreadable, Aside, Setup, SetupRequest, Logoff, TreeConnect, TreeDisconnect, Create, Close, Flush}
use Rattle.spec_exchange.specs.Commands.{Read, Write, Lock, Ioctl, ListDirectory, QueryFile, QueryVolume, SetInfo}
use Rattle.spec_exchange.specs.State.{Message}
use Rattle.spec_exchange.specs.Operations.{charge as charge_of}
use Rattle.spec_commands.specs.BodyOf.{number_of_command}
use Rattle.spec_commands.specs.CommandOf.{Told, heard_as, command_of, message_of, named_command, setup_in, setup_if}
use Rattle.spec_world.specs.Settings.{WorldSettings, ServerSettings, logon_of}
use Rattle.spec_world.specs.Messages.{header_in, heard_in}
use Rattle.spec_world.specs.Ends.{ServerEnd, Logons}
use Rattle.spec_world.specs.Logon.{token_in, token_shows}
use Rattle.spec_world.specs.Negotiate.{negotiate_request_body}
use Rattle.spec_world.specs.Sending.{greeting_text}
use Rattle.spec_world.specs.Hearing.{Checked, checked_as, is_negotiate, is_misplaced}
use Rattle.spec_world.specs.Connection.{heard_message, told_of, placed, misplaced, misplaced_command}
use Rattle.spec_hostile.specs.RepeatRuns.{repeat_run, repeat_start}
use Rattle.law_sessions.specs.sessions.Sessions.{logon_user}
use Rattle.law_hostile.specs.loosely.LooseRuns.{shows_user}
use Rattle.law_hostile.specs.meant.Meant.{IsMeant, IsOwnToken, AsksNegotiate, AsksSetup, AsksLine, bytes_moved}
use Rattle.law_hostile.specs.setups.OwnSetups.{SetupsAreOwn}
use Rattle.law_hostile.proofs.ids.Frames.{own_frames_bear, own_requests_meant}
use Rattle.law_hostile.proofs.ids.PlainRuns.{own_frames_plain}
use Rattle.law_hostile.proofs.meant.Reading.{Reads, reads_frame}
use Rattle.law_hostile.proofs.meant.Telling.{only_get}
use Rattle.law_hostile.proofs.greeted.Bytes.{NegotiateReads, bare_command, tells_command, line_command}
use Rattle.law_hostile.proofs.greeted.Greeting.{requests_own}
use Rattle.law_hostile.proofs.setups.Texts.{token_is, sequence_is}
use Rattle.law_hostile.proofs.setups.Tokens.{RespReads, own_token_fine, no_token_fine, token_short}

-- ---- which requests are one

pub greeting_command : (z : WorldSettings) (salt : List ℕ) (m : Message) (frame : List ℕ) → frame ≡ greeting_text z.client salt m
    → (header_in frame).command ≡ 0
unfolding greeting_text
greeting_command z salt m frame e =
    tells_command frame
    ∙ (ap (λ b. number 2 b 12) e ∙ (bare_command m 1 0 false (negotiate_request_body z.client salt) ∙ number_of-le 2 0 (omega arith)))

pub never_one : (c : Command) → number_of_command c ≡ 1 → ⊥
never_one (TreeConnect share) e = absurd (let h : 3 ≡ 1 = e in omega (arith, h))
never_one (Create request) e = absurd (let h : 5 ≡ 1 = e in omega (arith, h))
never_one (Close file query) e = absurd (let h : 6 ≡ 1 = e in omega (arith, h))
never_one (Flush file) e = absurd (let h : 7 ≡ 1 = e in omega (arith, h))
never_one (Read file at size minimum channel) e = absurd (let h : 8 ≡ 1 = e in omega (arith, h))
never_one (Write file at bytes channel) e = absurd (let h : 9 ≡ 1 = e in omega (arith, h))
never_one (Lock file index number elements) e = absurd (let h : 10 ≡ 1 = e in omega (arith, h))
never_one (ListDirectory file class restart single pattern room) e = absurd (let h : 14 ≡ 1 = e in omega (arith, h))
never_one (QueryFile file class room) e = absurd (let h : 16 ≡ 1 = e in omega (arith, h))
never_one (SetInfo file setting) e = absurd (let h : 17 ≡ 1 = e in omega (arith, h))
never_one (Unreadable status) e = absurd (let h : 0 ≡ 1 = e in omega (arith, h))
never_one (Aside status) e = absurd (let h : 0 ≡ 1 = e in omega (arith, h))
never_one (Setup request) e = absurd (let h : 0 ≡ 1 = e in omega (arith, h))
never_one Logoff e = absurd (let h : 0 ≡ 1 = e in omega (arith, h))
never_one TreeDisconnect e = absurd (let h : 0 ≡ 1 = e in omega (arith, h))
never_one (Ioctl file code room) e = absurd (let h : 0 ≡ 1 = e in omega (arith, h))
never_one (QueryVolume file class room) e = absurd (let h : 0 ≡ 1 = e in omega (arith, h))

-- its token is the client's, and its sequence 0
pub record Asks (z : WorldSettings) (frame : List ℕ) : Type 0 where
  pub token : IsOwnToken z (token_in frame)
  pub sequence : (header_in frame).status ≡ 0

apart : (a : ℕ) → a ≡ 0 → a ≡ 1 → ⊥
apart a e f = absurd (omega (arith, e, f))

pub asks : (z : WorldSettings) (frame : List ℕ) (m : Message) → IsMeant z frame m → (header_in frame).command ≡ 1 → Asks z frame
asks z frame m (AsksNegotiate n command e) one =
    absurd (apart (header_in frame).command (greeting_command z _ m frame e) one)
asks z frame m (AsksSetup n r token command sequence own e) one =
    record {
      token = subst (IsOwnToken z) (sym (token_is n r.binding r.previous token m frame (token_short z token own) e)) own;
      sequence = sequence_is n r.binding r.previous token m frame sequence e;
    }
asks z frame m (AsksLine s e) one =
    absurd (never_one m.command (sym (line_command s m (charge_of (bytes_moved m.command)) frame e) ∙ one))

-- ---- what is heard

-- it shows what its token shows, or what no token does
record Shown (t : Told) (b : List ℕ) (h : Header) (m : Message) : Type 0 where
  request : SetupRequest
  command : m.command ≡ Setup request
  shows : (request.shows ≡ t.shows (token_in b)) ⊎ (request.shows ≡ t.shows [])
  sequence : m.channel_sequence ≡ h.status % 65536

record Asked (t : Told) (b : List ℕ) (c : Command) : Type 0 where
  request : SetupRequest
  command : c ≡ Setup request
  shows : (request.shows ≡ t.shows (token_in b)) ⊎ (request.shows ≡ t.shows [])

same_message : (x y : Message) → Some x ≡ Some y → x ≡ y
same_message x y e = cc

if_asked : (t : Told) (h : Header) (b : List ℕ) (o : Option MessageError) (v : SessionSetupRequestValue) → v.security ≡ token_in b
    → Asked t b (setup_if t h o v)
if_asked t h b (Some e) v is = record { request = _; command = refl; shows = inr refl }
if_asked t h b None v is = record { request = _; command = refl; shows = inl (ap t.shows is) }

setup_asked : (t : Told) (h : Header) (b : List ℕ) → Asked t b (setup_in t h b)
unfolding setup_in token_in
setup_asked t h b = if_asked t h b (session_setup_request_fault b) (session_setup_request_in b) refl

misplaced_asked : (t : Told) (b : List ℕ) (o : Option ℕ) (c : Command) → Asked t b c → Asked t b (misplaced_command o c)
misplaced_asked t b o c a = subst (λ d. Asked t b (misplaced_command o d)) (sym a.command) (by o)
  where
    by : (p : Option ℕ) → Asked t b (misplaced_command p (Setup a.request))
    by (Some fault) = record { request = a.request; command = refl; shows = a.shows }
    by None = record { request = record a.request { readable = false }; command = refl; shows = a.shows }

placed_shown : (t : Told) (h : Header) (b : List ℕ) (broken : Bool) (c : Command) (m : Message) → Asked t b c
    → placed broken (Some (heard_as t h c)) ≡ Some m → Shown t b h m
placed_shown t h b true c m a e =
    let x = heard_as t h c in
    let same : misplaced x ≡ m = same_message (misplaced x) m e in
    let q = misplaced_asked t b x.fault c a in
    subst (λ n. Shown t b h n) same (record { request = q.request; command = q.command; shows = q.shows; sequence = refl })
placed_shown t h b false c m a e =
    let x = heard_as t h c in
    let same : x ≡ m = same_message x m e in
    subst (λ n. Shown t b h n) same (record { request = a.request; command = a.command; shows = a.shows; sequence = refl })

heard_shown : (z : ServerSettings) (L : Logons) (k : ℕ) (f : ServerEnd) (c : Checked) (m : Message) → heard_message z L k f c ≡ Some m
    → c.header.command ≡ 1 → Shown (told_of z L k f c) c.bytes c.header m
unfolding message_of command_of
heard_shown z L k f c m heard one =
    let t = told_of z L k f c in
    let h = c.header in
    let is : command_of t h c.bytes ≡ Some (setup_in t h c.bytes) =
    ap (λ n. if n == 12 then None else Some (named_command n t h c.bytes)) one in
    placed_shown t h c.bytes (is_misplaced c) (setup_in t h c.bytes) m (setup_asked t h c.bytes)
    (ap (λ o. placed (is_misplaced c) (option_map (heard_as t h) o)) (sym is) ∙ heard)

-- ---- all of it

no_rest : (n m : ℕ) → n ≡ m % 65536 → m ≡ 0 → n ≡ 0
no_rest n m e f = e ∙ ap (λ i. i % 65536) f

not_greeting : (h : Header) → h.command ≡ 1 → is_negotiate h ≡ false
not_greeting h e = ap (λ n. n == 0) e

pub setups_own : RespReads → NegotiateReads → SetupsAreOwn
setups_own reads law z es i k n u L x c m fitting bare at ok got setup heard =
    let f = ((repeat_run z es (repeat_start z)).world.wires k).server_end in
    let plain = own_frames_plain z es i u bare at in
    let one = own_frames_bear z es i u at plain in
    let own = own_requests_meant z es i u at plain in
    let y = heard_in u.frame in
    let read : Reads f y (Ok x) = subst (Reads f y) ok (reads_frame f u.frame y plain one.alone) in
    let d = checked_as f false false true y in
    let same : d ≡ c = only_get x.messages d c n read.0 got in
    let number : c.header.command ≡ 1 = eqb-true c.header.command 1 setup in
    let asked = asks z u.frame u.sent.message own.meant (ap (λ (e : Checked). e.header.command) same ∙ number) in
    let s = heard_shown z.server L k x.server_end c m heard number in
    let bytes : c.bytes ≡ u.frame = sym (ap (λ (e : Checked). e.bytes) same) in
    let status : c.header.status ≡ 0 = sym (ap (λ (e : Checked). e.header.status) same) ∙ asked.sequence in
    record {
      sequence = no_rest m.channel_sequence c.header.status s.sequence status;
      guid = requests_own law z es i k n u L x c m fitting bare at ok got (not_greeting c.header number) heard;
      request = s.request;
      command = s.command;
      user = by c.bytes s.request.shows (subst (λ b. IsOwnToken z (token_in b)) (sym bytes) asked.token) s.shows;
    }
  where
    by : (b : List ℕ) (shows : _) → IsOwnToken z (token_in b)
        → (shows ≡ token_shows z.server.users (L.pending k) (token_in b)) ⊎ (shows ≡ token_shows z.server.users (L.pending k) [])
        → shows_user (logon_user (logon_of z)) shows ≡ true
    by b shows token (inl e) =
        subst (λ s. shows_user (logon_user (logon_of z)) s ≡ true) (sym e) (own_token_fine reads z (L.pending k) (token_in b) fitting token)
    by b shows token (inr e) =
        subst (λ s. shows_user (logon_user (logon_of z)) s ≡ true) (sym e) (no_token_fine z (L.pending k))
