-- The front of what goes up, where it is the request of a dialog whose client waits, and what comes of it, by its parts.
use Rattle.std.proofs.Common.{◌≡◌, ℕ, ◌<◌, ◌^◌, ◌==◌, Bool, true, false, ◌&&◌, if◌then◌else◌, List, [], ◌∷◌, length, refl}
use Rattle.std.proofs.Common.{ap, ◌∙◌, arith, Option, Some, None}
use Rattle.spec_wire.specs.declared.messages.header.Header.{Header}
use Rattle.spec_exchange.specs.Status.{success}
use Rattle.spec_exchange.specs.Commands.{Logon, has_bit}
use Rattle.spec_exchange.specs.Operations.{Refusal, BadToken, BadSignature, BadChoice}
use Rattle.spec_exchange.specs.Client.{Stage, Apart, SaidNegotiate, SaidFirst, SaidSecond, AskedTree}
use Rattle.spec_exchange.specs.Network.{Sent, ForDialog, answer}
use Rattle.spec_wire.specs.credits.Window.{granted}
use Rattle.spec_crypto.specs.sessions.Derivation.{known}
use Rattle.spec_world.specs.Settings.{WorldSettings, chosen_of, logon_of}
use Rattle.spec_world.specs.Messages.{HeardMessage}
use Rattle.spec_world.specs.Ends.{ClientEnd}
use Rattle.spec_world.specs.Hearing.{window_behind}
use Rattle.spec_world.specs.Dialog.{response_in, dialog_response, status_due, command_due, is_dialogs, body_reads, has_form}
use Rattle.spec_world.specs.Dialog.{first_refusal, unless, dialog_fault}
use Rattle.spec_world.specs.World.{World}
use Rattle.law_ties.specs.wire_facts.Lawful.{heard_under, HasLogon, IsLawful}
use Rattle.law_ties.specs.events.Links.{Shared, shared_of, is_lined, dialog_purse, dialog_grant, IsDialogCommand}
use Rattle.law_ties.specs.events.Links.{LinkCarries, IsBehind}
use Rattle.law_ties.specs.events.Links.{IsAhead, IsLasting, Coming}
use Rattle.law_ties.proofs.requests.Hearing.{plain_flags, told_header, HeaderFits, with_flags}
use Rattle.law_ties.proofs.requests.Line.{few_granted}
use Rattle.law_ties.specs.channel_numbers.Counted.{binds}
use Rattle.law_dialogs.specs.dialog_requests.Serving.{ReplyHeaderFits}
use Rattle.law_dialogs.proofs.dialog_requests.Sparing.{with_logons}
use Rattle.law_dialogs.proofs.dialog_requests.Step.{said_by, text_by, end_by, logons_by}
use Rattle.law_dialogs.proofs.dialog_requests.Told.{IsTold, told_by}
use Rattle.spec_commands.specs.ReplyBody.{seals_in}

-- of the session, the ends and the answer
abbrev pub shared_at : World → Shared
shared_at w = shared_of w.values.client w.keys w.logons

pub record Front (z : WorldSettings) (w : World) (k : ℕ) (b : List ℕ) (x : Sent) (h : HeardMessage) (stage : Stage) : Type 0 where
  pub bytes : h.bytes ≡ b
  pub own : x.token ≡ ForDialog
  pub command : IsDialogCommand stage x.message.command
  pub header : h.header.command ≡ command_due stage
  pub awaits : (w.wires k).client_end.awaited h.header.message ≡ Some ForDialog
  pub no_keys : (w.wires k).server_end.keys ≡ None
  pub behind : IsBehind z (w.wires k).server_end (w.wires k).client_end b stage
  pub carries : LinkCarries z (shared_at w) k (w.wires k).client_end stage h
  pub head : HeaderFits h.header
  pub fits : ReplyHeaderFits (answer w.values x).reply
  pub moment : w.values.moment < 256 ^ 8
  pub salted : length (w.wires k).server_end.salt ≡ 32
  pub logon : HasLogon (w.wires k).client_end
  pub credit : granted h.header.credits (window_behind (w.wires k).server_end.window h.header) ≡ dialog_grant stage
  pub purse : (w.wires k).client_end.purse ≡ dialog_purse stage
  pub bound :
      binds stage ≡ true → (w.logons.keys w.values.client.session ≡ w.keys) × (w.keys.cipher ≡ known (chosen_of z.client).cipher)
  pub logs_on :
      (bound : Bool) → stage ≡ SaidSecond bound → (answer w.values x).reply.status ≡ success → (user : List ℕ) × (logon_of z ≡ Logon user)
  pub seals : seals_in (answer w.values x).reply.body ≡ true → (known (chosen_of z.client).cipher == 0) ≡ false

-- ---- what is said to it

abbrev pub head_by : World → ℕ → HeardMessage → Sent → Header
head_by w k h x =
    told_header h.header (answer w.values x).reply
    (granted h.header.credits (window_behind (w.wires k).server_end.window h.header)) plain_flags

pub told_at : (z : WorldSettings) (w : World) (k : ℕ) (b : List ℕ) (x : Sent) (h : HeardMessage) (stage : Stage) → Front z w k b x h stage
    → IsTold (head_by w k h x) (said_by z w k h x).body (text_by z w k h x)
told_at z w k b x h stage F =
    told_by (said_by z w k h x) h.header (answer w.values x).reply
    (granted h.header.credits (window_behind (w.wires k).server_end.window h.header)) (said_by z w k h x).signer refl refl F.head F.fits
    (few_granted h.header.credits (window_behind (w.wires k).server_end.window h.header))

-- as the client hears it
abbrev pub hears_it : World → ℕ → HeardMessage → Sent → ℕ → List ℕ → HeardMessage
hears_it w k h x flags text = heard_under (with_flags (head_by w k h x) flags) text

-- ---- no fault

opens_in : (n : ClientEnd) (stage : Stage) (text : List ℕ) → is_lined stage ≡ false → dialog_response n stage text ≡ response_in (Some text)
opens_in n Apart text off = absurd (let h : true ≡ false = off in cc)
opens_in n (SaidNegotiate bound) text off = refl
opens_in n (SaidFirst bound) text off = refl
opens_in n (SaidSecond bound) text off = refl
opens_in n AskedTree text off = absurd (let h : true ≡ false = off in cc)

four : (a b c d : Bool) → a ≡ true → b ≡ true → c ≡ true → d ≡ true → (a && (b && (c && d))) ≡ true
four a b c d ea eb ec ed =
    ap (λ v. v && (b && (c && d))) ea ∙ (ap (λ v. v && (c && d)) eb ∙ (ap (λ v. v && d) ec ∙ ed))

same_test : (a b : ℕ) → a ≡ b → (a == b) ≡ true
same_test a b e = ap (λ c. c == b) e ∙ self b
  where
    self : (c : ℕ) → (c == c) ≡ true
    self c = grind arith

pub form_is : (z : WorldSettings) (w : World) (k : ℕ) (b : List ℕ) (x : Sent) (h : HeardMessage) (stage : Stage) → Front z w k b x h stage
    → (flags : ℕ) (text : List ℕ) → has_bit flags 1 ≡ true → body_reads stage text ≡ true
    → has_form (w.wires k).client_end stage (hears_it w k h x flags text) ≡ true
form_is z w k b x h stage F flags text answers reads =
    four (has_bit flags 1) (h.header.command == command_due stage) (is_dialogs ((w.wires k).client_end.awaited h.header.message))
    (body_reads stage text) answers (same_test h.header.command (command_due stage) F.header) (ap is_dialogs F.awaits) reads

pub no_fault : (form token signed flags pays : Bool) (choice : Option Refusal) → form ≡ true → choice ≡ None → token ≡ true → signed ≡ true
    → flags ≡ true → pays ≡ true
    → first_refusal (unless form BadToken)
    (first_refusal choice (first_refusal (unless token BadToken) (first_refusal (unless signed BadSignature)
    (first_refusal (unless flags (BadChoice 5)) (unless pays BadToken))))) ≡ None
no_fault form token signed flags pays choice e1 e2 e3 e4 e5 e6 =
    let rest = first_refusal (unless flags (BadChoice 5)) (unless pays BadToken) in
    ap (λ v. first_refusal (unless v BadToken) (first_refusal choice (first_refusal (unless token BadToken)
    (first_refusal (unless signed BadSignature) rest)))) e1
    ∙ (ap (λ o. first_refusal o (first_refusal (unless token BadToken) (first_refusal (unless signed BadSignature) rest))) e2
    ∙ (ap (λ v. first_refusal (unless v BadToken) (first_refusal (unless signed BadSignature) rest)) e3
    ∙ (ap (λ v. first_refusal (unless v BadSignature) rest) e4
    ∙ (ap (λ v. first_refusal (unless v (BadChoice 5)) (unless pays BadToken)) e5 ∙ ap (λ v. unless v BadToken) e6))))

-- ---- what comes

pub taken_both : {X : Type 0} (b c : Bool) (x y : X) → b ≡ true → c ≡ true → (if b && c then x else y) ≡ x
taken_both true true x y e f = refl
taken_both true false x y e f = absurd (let h : false ≡ true = f in cc)
taken_both false c x y e f = absurd (let h : false ≡ true = e in cc)

abbrev pub IsComing : WorldSettings → World → ℕ → HeardMessage → Sent → ℕ → Stage → Type 0
IsComing z w k h x place stage =
    Coming z (with_logons (shared_at w) (logons_by z w k h x)) k true (w.wires k).client_end (end_by z w k h x) (text_by z w k h x)
    (record { token = x.token; reply = (answer w.values x).reply; place = place }) (dialog_grant stage ∷ []) stage

pub comes : (z : WorldSettings) → IsLawful z → (w : World) (k : ℕ) (b : List ℕ) (x : Sent) (h : HeardMessage) (stage : Stage) (place : ℕ)
    → Front z w k b x h stage → is_lined stage ≡ false → (t : IsTold (head_by w k h x) (said_by z w k h x).body (text_by z w k h x))
    → (((answer w.values x).reply.status == status_due stage) ≡ true
    → dialog_fault z.client (w.wires k).client_end stage (hears_it w k h x t.flags (text_by z w k h x)) ≡ None)
    → (((answer w.values x).reply.status == status_due stage) ≡ true
    → IsAhead (with_logons (shared_at w) (logons_by z w k h x)) k (w.wires k).client_end (end_by z w k h x) z (text_by z w k h x)
    (hears_it w k h x t.flags (text_by z w k h x)) stage)
    → (((answer w.values x).reply.status == status_due stage) ≡ true
    → IsLasting z (with_logons (shared_at w) (logons_by z w k h x)) k (w.wires k).client_end
    (hears_it w k h x t.flags (text_by z w k h x)) stage)
    → IsComing z w k h x place stage
comes z law w k b x h stage place F off t sound ahead lasting =
    let heads = law.headers in
    let text = text_by z w k h x in record {
      heard = hears_it w k h x t.flags text;
      opens = opens_in (w.wires k).client_end stage text off
          ∙ heads.heard (with_flags (head_by w k h x) t.flags) (said_by z w k h x).body text t.fits t.is;
      alone = refl;
      token = F.own;
      awaits = F.awaits;
      same = record { status = refl; session = refl; tree = refl };
      grants_it = refl;
      credits = F.credit;
      sound = sound;
      ahead = λ ok o. ahead ok;
      lasting = lasting;
    }
