-- A SESSION_SETUP that is served elsewhere leaves a connection tied.
use Rattle.std.proofs.Common.{◌≡◌, ℕ, ◌==◌, Bool, true, false, ◌&&◌, if◌then◌else◌, List, [], ◌∷◌, refl, sym, ap, ◌∙◌}
use Rattle.std.proofs.Common.{subst, eqb-true, Option, Some, None}
use Rattle.std.specs.Prelude.{option_map}
use Rattle.spec_wire.specs.declared.messages.header.Header.{Header}
use Rattle.spec_wire.specs.declared.messages.error.MessageError.{MessageError}
use Rattle.spec_wire.specs.messages.Bare.{bare_fault}
use Rattle.spec_wire.specs.messages.SessionSetup.{SessionSetupRequestValue, session_setup_request_fault, session_setup_request_in}
use Rattle.spec_exchange.specs.Status.{success}
use Rattle.spec_exchange.specs.Commands.{Command, Aside, Setup, SetupRequest, has_bit}
use Rattle.spec_exchange.specs.State.{Message}
use Rattle.spec_exchange.specs.Operations.{Op}
use Rattle.spec_exchange.specs.Client.{Stage, Apart, SaidNegotiate, SaidFirst, SaidSecond, AskedTree}
use Rattle.spec_exchange.specs.Network.{Sent, Received}
use Rattle.spec_commands.specs.Charges.{paid_for}
use Rattle.spec_commands.specs.CommandOf.{Told, heard_as, no_setup, setup_if, setup_in, logoff_in, tree_connect_in, tree_disconnect_in}
use Rattle.spec_commands.specs.CommandOf.{create_in, close_in, flush_in, read_in, write_in, lock_in, ioctl_in, list_in, query_in}
use Rattle.spec_commands.specs.CommandOf.{set_in, other_of}
use Rattle.spec_commands.specs.CommandOf.{echo_status, named_command, command_of, message_of}
use Rattle.spec_wire.specs.credits.Exchange.{Line}
use Rattle.spec_crypto.specs.declared.sessions.material.Keys.{Keys}
use Rattle.spec_crypto.specs.sessions.Signing.{verifies}
use Rattle.spec_world.specs.Settings.{WorldSettings, ServerSettings}
use Rattle.spec_world.specs.Messages.{HeardMessage}
use Rattle.spec_world.specs.Ends.{ClientEnd, ServerEnd, Logons}
use Rattle.spec_world.specs.Hearing.{Checked, checked_as, is_misplaced}
use Rattle.spec_world.specs.Logon.{token_shows, challenge_of}
use Rattle.spec_world.specs.Connection.{told_of, heard_message}
use Rattle.spec_world.specs.Sending.{answer_of}
use Rattle.spec_world.specs.Dialog.{status_due}
use Rattle.law_ties.specs.events.Links.{Shared, Asked, AllAsked, Linked, IsLinkBegun, LinkCarries, Waiting, IsAhead, IsLasting, Talks}
use Rattle.law_ties.specs.events.Links.{Waits, Comes, Lost, Tied, is_lined}
use Rattle.law_ties.proofs.requests.Commands.{same_of, named_at, placed_well, well_placed}
use Rattle.law_dialogs.specs.dialog_requests.Serving.{AllSpared, is_new_second, PendingSpared}

pub record Sparing (L M : Logons) (k : ℕ) (spared : ℕ → Type 0) : Type 0 where
  pub pending : M.pending k ≡ L.pending k
  pub keys : (x : ℕ) → spared x → M.keys x ≡ L.keys x

abbrev pub with_logons : Shared → Logons → Shared
with_logons s M = record s { logons = M }

-- ---- only a SESSION_SETUP is looked at for its own signature

abbrev with_verified : Told → Bool → Told
with_verified t v = record t { verified = v }

-- every command behind SESSION_SETUP
abbrev other_command : ℕ → ℕ → Option ℕ → List ℕ → Command
other_command n paid fault m =
    if n == 2 then logoff_in m
    else if n == 3 then tree_connect_in m
    else if n == 4 then tree_disconnect_in m
    else if n == 5 then create_in m
    else if n == 6 then close_in m
    else if n == 7 then flush_in m
    else if n == 8 then paid_for 8 paid m (read_in m)
    else if n == 9 then paid_for 9 paid m (write_in m)
    else if n == 10 then lock_in m
    else if n == 11 then paid_for 11 paid m (ioctl_in m)
    else if n == 13 then Aside (echo_status fault (bare_fault m))
    else if n == 14 then paid_for 14 paid m (list_in m)
    else if n == 16 then paid_for 16 paid m (query_in m)
    else if n == 17 then paid_for 17 paid m (set_in m)
    else other_of n

either_setup : (a b : Bool) (A s p R : Command) → b ≡ false → (if a then A else if b then s else R) ≡ (if a then A else if b then p else R)
either_setup a true A s p R e = absurd (let h : true ≡ false = e in cc)
either_setup a false A s p R e = refl

named_alike : (t : Told) (v : Bool) (h : Header) (m : List ℕ) (b : Bool) → (h.command == 1) ≡ b → (b ≡ true → t.verified ≡ v)
    → named_command h.command t h m ≡ named_command h.command (with_verified t v) h m
named_alike t v h m true e f = ap (λ q. named_command h.command (with_verified t q) h m) (f refl)
named_alike t v h m false e f =
    either_setup (h.command == 0) (h.command == 1) (Aside t.negotiated) (setup_in t h m) (setup_in (with_verified t v) h m)
    (other_command h.command h.charge t.fault m) e

heard_alike : (t : Told) (v : Bool) (h : Header) (m : List ℕ) → ((h.command == 1) ≡ true → t.verified ≡ v)
    → message_of t h m ≡ message_of (with_verified t v) h m
unfolding message_of command_of
heard_alike t v h m f =
    ap (λ c. option_map (heard_as t h) (if h.command == 12 then None else Some c)) (named_alike t v h m (h.command == 1) refl f)

-- ---- a SESSION_SETUP as it is heard

pub record IsSetupHeard (h : Header) (c : Command) : Type 0 where
  pub request : SetupRequest
  pub is : c ≡ Setup request
  pub signed : request.signed ≡ has_bit h.flags 8

abbrev request_by : Told → Header → Bool → SessionSetupRequestValue → SetupRequest
request_by t h readable v = record {
  readable = readable;
  binding = has_bit v.flags 1;
  signed = has_bit h.flags 8;
  verified = t.verified;
  previous = v.previous_session_id;
  cipher = t.cipher;
  signing = t.signing;
  shows = t.shows v.security;
}

setup_by : (t : Told) (h : Header) (o : Option MessageError) (v : SessionSetupRequestValue) → IsSetupHeard h (setup_if t h o v)
setup_by t h (Some e) v = record { request = request_by t h false no_setup; is = refl; signed = refl }
setup_by t h None v = record { request = request_by t h true v; is = refl; signed = refl }

setup_is : (t : Told) (h : Header) (m : List ℕ) → IsSetupHeard h (setup_in t h m)
unfolding setup_in
setup_is t h m = setup_by t h (session_setup_request_fault m) (session_setup_request_in m)

heard_setup : (t : Told) (h : Header) (m : List ℕ) (x : Message) → message_of t h m ≡ Some x → (h.command == 1) ≡ true
    → IsSetupHeard h x.command
heard_setup t h m x e first =
    subst (IsSetupHeard h) (sym (ap (λ n. named_command n t h m) (eqb-true h.command 1 first)) ∙ named_at t h m x e) (setup_is t h m)

session_by : (t : Told) (h : Header) (c : Command) (x : Message) (b : Bool)
    → option_map (heard_as t h) (if b then None else Some c) ≡ Some x → x.session_id ≡ h.session
session_by t h c x true e = absurd (let q : None ≡ Some x = e in cc)
session_by t h c x false e = sym (ap (λ (v : Message). v.session_id) (same_of (heard_as t h c) x e))

pub session_at : (t : Told) (h : Header) (m : List ℕ) (x : Message) → message_of t h m ≡ Some x → x.session_id ≡ h.session
unfolding message_of command_of
session_at t h m x e = session_by t h (named_command h.command t h m) x (h.command == 12) e

both_alike : (b p q : Bool) → (b ≡ true → p ≡ q) → (b && p) ≡ (b && q)
both_alike true p q f = f refl
both_alike false p q f = refl

abbrev IsSpared : (ℕ → Type 0) → Message → Type 0
IsSpared spared x = (r : SetupRequest) → x.command ≡ Setup r → r.signed ≡ true → spared x.session_id

heard_spared : (z : ServerSettings) (L M : Logons) (k : ℕ) (f : ServerEnd) (c : Checked) (spared : ℕ → Type 0) → Sparing L M k spared
    → (x : Message) → is_misplaced c ≡ false → heard_message z L k f c ≡ Some x → IsSpared spared x → heard_message z M k f c ≡ Some x
heard_spared z L M k f c spared s x apart heard all =
    let t = told_of z L k f c in
    let h = c.header in
    let e : message_of t h c.bytes ≡ Some x = well_placed (is_misplaced c) (message_of t h c.bytes) (Some x) apart heard in
    let v = has_bit h.flags 8 && verifies (M.keys h.session).signing c.raw in
    let same : (h.command == 1) ≡ true → t.verified ≡ v = λ first. (let g = heard_setup t h c.bytes x e first in
    both_alike (has_bit h.flags 8) (verifies (L.keys h.session).signing c.raw) (verifies (M.keys h.session).signing c.raw)
    (λ b. ap (λ (q : Keys). verifies q.signing c.raw)
    (sym (s.keys h.session (subst spared (session_at t h c.bytes x e) (all g.request g.is (g.signed ∙ b))))))) in
    placed_well (is_misplaced c) (message_of (told_of z M k f c) h c.bytes) (Some x) apart
    (ap (λ p. message_of (record t { verified = v; shows = token_shows z.users p }) h c.bytes) s.pending
    ∙ (sym (heard_alike t v h c.bytes same) ∙ e))

asked_spared : (z : WorldSettings) (L M : Logons) (k : ℕ) (f : ServerEnd) (b : List ℕ) (x : Sent) (q : ℕ × ℕ) (spared : ℕ → Type 0)
    → Sparing L M k spared → IsSpared spared x.message → Asked z L k f b x q → Asked z M k f b x q
asked_spared z L M k f b x q spared s all a =
    let r = a.reads in record {
      reads = record {
        sealed = r.sealed;
        heard = r.heard;
        text = r.text;
        message = heard_spared z.server L M k f (checked_as f r.sealed false true r.heard) spared s x.message a.apart
            r.message all;
        id = r.id;
        charge = r.charge;
        turn = r.turn;
        first = r.first;
      };
      fault = a.fault;
      credits = a.credits;
      counts = a.counts;
      apart = a.apart;
      charge_fits = a.charge_fits;
      command_fits = a.command_fits;
      message_fits = a.message_fits;
      sealing = a.sealing;
      plain = a.plain;
      kind = a.kind;
      tree = a.tree;
    }

all_spared : (z : WorldSettings) (L M : Logons) (k : ℕ) (f : ServerEnd) (bs : List (List ℕ)) (xs : List Sent) (qs : List (ℕ × ℕ))
    (spared : ℕ → Type 0) → Sparing L M k spared → AllSpared spared xs → AllAsked z L k f bs xs qs → AllAsked z M k f bs xs qs
all_spared z L M k f [] [] [] spared s few all = tt
all_spared z L M k f (b ∷ bs) (x ∷ xs) (q ∷ qs) spared s few all =
    (asked_spared z L M k f b x q spared s few.0 all.0, all_spared z L M k f bs xs qs spared s few.1 all.1)
all_spared z L M k f [] [] (q ∷ qs) spared s few all = absurd all
all_spared z L M k f [] (x ∷ xs) qs spared s few all = absurd all
all_spared z L M k f (b ∷ bs) [] qs spared s few all = absurd all
all_spared z L M k f (b ∷ bs) (x ∷ xs) [] spared s few all = absurd all

-- ---- its two ends

linked_spared : (z : WorldSettings) (op : ℕ → Op) (s : Shared) (M : Logons) (k : ℕ) (co so : Bool) (n : ClientEnd) (f : ServerEnd)
    (up down : List (List ℕ)) (xs : List Sent) (ys : List Received) (spared : ℕ → Type 0) → Sparing s.logons M k spared
    → AllSpared spared xs → Linked z op s k co so n f up down xs ys → Linked z op (with_logons s M) k co so n f up down xs ys
linked_spared z op s M k co so n f up down xs ys spared sp few i = record {
  line = i.line;
  reached = i.reached;
  purse = i.purse;
  window = i.window;
  counted = i.counted;
  asked = λ o. all_spared z s.logons M k f up xs i.line.requests spared sp few (i.asked o);
  awaited = i.awaited;
  answers = i.answers;
  session_fits = i.session_fits;
  sealable = i.sealable;
  keys = i.keys;
  encrypts = i.encrypts;
  greeted = i.greeted;
}

begun_spared : (L M : Logons) (k : ℕ) → M.pending k ≡ L.pending k → IsLinkBegun L k → IsLinkBegun M k
begun_spared L M k e b = (b.0, b.1, b.2, b.3, e ∙ b.4)

carries_spared : (z : WorldSettings) (s : Shared) (M : Logons) (k : ℕ) (n : ClientEnd) (stage : Stage) (x : HeardMessage)
    → M.pending k ≡ s.logons.pending k → LinkCarries z s k n stage x → LinkCarries z (with_logons s M) k n stage x
carries_spared z s M k n Apart x e c = absurd c
carries_spared z s M k n (SaidNegotiate bound) x e c = c
carries_spared z s M k n (SaidFirst bound) x e c = c
carries_spared z s M k n (SaidSecond bound) x e c =
    (begun_spared s.logons M k e c.0, ap (λ p. answer_of z.client n (challenge_of p)) e ∙ c.1, c.2, c.3)
carries_spared z s M k n AskedTree x e c = absurd c

waiting_spared : (z : WorldSettings) (s : Shared) (M : Logons) (k : ℕ) (n : ClientEnd) (f : ServerEnd) (b : List ℕ) (x : Sent)
    (grants : List ℕ) (stage : Stage) → M.pending k ≡ s.logons.pending k → Waiting z s k n f b x grants stage
    → Waiting z (with_logons s M) k n f b x grants stage
waiting_spared z s M k n f b x grants stage e w = record {
  heard = w.heard;
  opens = w.opens;
  alone = w.alone;
  token = w.token;
  command = w.command;
  header = w.header;
  awaits = w.awaits;
  below = w.below;
  no_grants = w.no_grants;
  no_keys = w.no_keys;
  behind = w.behind;
  carries = carries_spared z s M k n stage w.heard e w.carries;
}

ahead_spared : (z : WorldSettings) (s : Shared) (M : Logons) (k : ℕ) (n : ClientEnd) (f : ServerEnd) (a : List ℕ) (x : HeardMessage)
    (stage : Stage)
    → M.pending k ≡ s.logons.pending k → IsAhead s k n f z a x stage → IsAhead (with_logons s M) k n f z a x stage
ahead_spared z s M k n f a x Apart e h = absurd h
ahead_spared z s M k n f a x (SaidNegotiate bound) e h = h
ahead_spared z s M k n f a x (SaidFirst bound) e h = (h.0, h.1, h.2, h.3 ∙ ap challenge_of (sym e))
ahead_spared z s M k n f a x (SaidSecond true) e h = h
ahead_spared z s M k n f a x (SaidSecond false) e h = h
ahead_spared z s M k n f a x AskedTree e h = absurd h

lasting_spared : (z : WorldSettings) (s : Shared) (M : Logons) (k : ℕ) (n : ClientEnd) (x : HeardMessage) (stage : Stage)
    → M.pending k ≡ s.logons.pending k → (is_new_second stage ≡ true → M.keys s.pending ≡ s.logons.keys s.pending)
    → IsLasting z s k n x stage → IsLasting z (with_logons s M) k n x stage
lasting_spared z s M k n x Apart e g l = tt
lasting_spared z s M k n x (SaidNegotiate bound) e g l = l
lasting_spared z s M k n x (SaidFirst bound) e g l = (begun_spared s.logons M k e l.0, l.1)
lasting_spared z s M k n x (SaidSecond true) e g l = tt
lasting_spared z s M k n x (SaidSecond false) e g l = (g refl ∙ l.0, l.1)
lasting_spared z s M k n x AskedTree e g l = tt

second_due : (stage : Stage) → is_new_second stage ≡ true → status_due stage ≡ success
second_due (SaidSecond false) e = refl
second_due (SaidSecond true) e = absurd (let h : false ≡ true = e in cc)
second_due (SaidNegotiate bound) e = absurd (let h : false ≡ true = e in cc)
second_due (SaidFirst bound) e = absurd (let h : false ≡ true = e in cc)
second_due AskedTree e = absurd (let h : false ≡ true = e in cc)
second_due Apart e = absurd (let h : false ≡ true = e in cc)

talks_spared : (z : WorldSettings) (s : Shared) (M : Logons) (k : ℕ) (so : Bool) (n : ClientEnd) (f : ServerEnd) (up down : List (List ℕ))
    (xs : List Sent) (ys : List Received) (l : Line) (stage : Stage) (spared : ℕ → Type 0) → Sparing s.logons M k spared
    → PendingSpared spared s.pending stage ys → Talks z s k so n f up down xs ys l stage
    → Talks z (with_logons s M) k so n f up down xs ys l stage
talks_spared z s M k so n f up down xs ys l stage spared sp pend (Waits b x e1 e2 e3 e4 w) =
    Waits b x e1 e2 e3 e4 (λ o. waiting_spared z s M k n f b x l.grants stage sp.pending (w o))
talks_spared z s M k so n f up down xs ys l stage spared sp pend (Lost e1 e2 e3 e4 e5) = Lost e1 e2 e3 e4 e5
talks_spared z s M k so n f up down xs ys l stage spared sp pend (Comes a y e1 e2 e3 e4 c) =
    let told = c.same in
    let kept : (c.heard.header.status == status_due stage) ≡ true → is_new_second stage ≡ true → M.keys s.pending
    ≡ s.logons.keys s.pending =
    λ ok new. sp.keys s.pending (pend y e4 c.token new
    (ap (λ n. n == success) (sym told.status) ∙ (ap (λ n. c.heard.header.status == n) (sym (second_due stage new)) ∙ ok))) in
    Comes a y e1 e2 e3 e4 (record {
      heard = c.heard;
      opens = c.opens;
      alone = c.alone;
      token = c.token;
      awaits = c.awaits;
      same = c.same;
      grants_it = c.grants_it;
      credits = c.credits;
      sound = c.sound;
      ahead = λ ok o. ahead_spared z s M k n f a c.heard stage sp.pending (c.ahead ok o);
      lasting = λ ok. lasting_spared z s M k n c.heard stage sp.pending (kept ok) (c.lasting ok);
    })

pub tied_spared : (z : WorldSettings) (op : ℕ → Op) (s : Shared) (M : Logons) (k : ℕ) (co so : Bool) (n : ClientEnd) (f : ServerEnd)
    (up down : List (List ℕ)) (xs : List Sent) (ys : List Received) (spared : ℕ → Type 0) → Sparing s.logons M k spared
    → AllSpared spared xs → PendingSpared spared s.pending n.stage ys → Tied z op s k co so n f up down xs ys
    → Tied z op (with_logons s M) k co so n f up down xs ys
unfolding linked_spared
tied_spared z op s M k co so n f up down xs ys spared sp few pend t = record {
  link = linked_spared z op s M k (co && is_lined n.stage) so n f up down xs ys spared sp few t.link;
  bound_keys = t.bound_keys;
  talk = λ o off. talks_spared z s M k so n f up down xs ys t.link.line n.stage spared sp pend (t.talk o off);
  purse = t.purse;
  logon = t.logon;
  salted = t.salted;
}
