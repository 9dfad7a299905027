-- The answer to a NEGOTIATE comes: the client finds no fault in a success, and both ends have its greeting.
use Rattle.std.proofs.Common.{◌≡◌, ℕ, ◌==◌, Bool, true, false, List, [], ◌∷◌, ◌++◌, refl, sym}
use Rattle.std.proofs.Common.{ap, ◌∙◌, subst, arith, Option, Some, None}
use Rattle.spec_wire.specs.messages.Negotiate.{negotiate_response_in}
use Rattle.spec_exchange.specs.Status.{success}
use Rattle.spec_exchange.specs.Commands.{Command}
use Rattle.spec_exchange.specs.State.{Reply, Message}
use Rattle.spec_exchange.specs.Client.{SaidNegotiate}
use Rattle.spec_exchange.specs.Network.{Sent, answer}
use Rattle.spec_commands.specs.ReplyBody.{reply_body}
use Rattle.spec_crypto.specs.declared.sessions.choice.Chosen.{Chosen}
use Rattle.spec_world.specs.Settings.{WorldSettings}
use Rattle.spec_world.specs.Messages.{HeardMessage}
use Rattle.spec_world.specs.Ends.{Greeting}
use Rattle.spec_world.specs.Hearing.{Checked, is_negotiate}
use Rattle.spec_world.specs.Negotiate.{negotiate_response_body, negotiated, client_told}
use Rattle.spec_world.specs.Logon.{Stays, progress, greeting_transcript}
use Rattle.spec_world.specs.Answering.{said_body, server_end_moved}
use Rattle.spec_world.specs.Sending.{greeting_text}
use Rattle.spec_world.specs.Dialog.{has_form, has_contexts, choice_fault, chosen_told, is_hint, pays_next}
use Rattle.spec_world.specs.World.{World}
use Rattle.law_ties.specs.wire_facts.Fitting.{IsSent, IsMessage}
use Rattle.law_ties.specs.wire_facts.Lawful.{IsLawful}
use Rattle.law_ties.specs.events.Links.{ChosenAs, GreetedAs, IsOwnGreeting}
use Rattle.law_ties.proofs.requests.Hearing.{with_flags}
use Rattle.law_ties.proofs.requests.Line.{checked_of, token_of}
use Rattle.law_dialogs.proofs.dialog_requests.Credit.{pays}
use Rattle.law_dialogs.proofs.dialog_requests.Step.{said_by, text_by, end_by, counted_by, progress_by}
use Rattle.law_dialogs.proofs.dialog_requests.Front.{Front, head_by, told_at, hears_it, form_is, no_fault, taken_both, IsComing, comes}

-- a NEGOTIATE's success has its own body
body_is : (guid salt : List ℕ) (now : ℕ) (c : Checked) (token : List ℕ) (command : Command) (r : Reply) → is_negotiate c.header ≡ true
    → (r.status == success) ≡ true → said_body guid salt now c token command r ≡ negotiate_response_body guid salt now c.bytes
unfolding said_body
body_is guid salt now c token command r e f =
    taken_both (is_negotiate c.header) (r.status == success) (negotiate_response_body guid salt now c.bytes)
    (reply_body token command r) e f

sent : (m : Message) → m.channel_sequence ≡ 0 → m.message_id ≡ 0 → m.tree_id ≡ 0 → m.session_id ≡ 0 → IsSent m 1
sent m a b c d = record {
  charge_fits = omega arith;
  channel_sequence = omega (arith, a);
  message_id = omega (arith, b);
  tree_id = omega (arith, c);
  session_id = omega (arith, d);
}

record IsGreeted (z : WorldSettings) (text : List ℕ) : Type 0 where
  contexts : has_contexts text ≡ true
  choice : choice_fault z.client text ≡ None
  hint : is_hint (negotiate_response_in text).security ≡ true
  chosen : ChosenAs z (chosen_told text)

zero_is : (n : ℕ) → n ≡ 0 → (n == 0) ≡ true
zero_is n e = ap (λ m. m == 0) e

greeted : (z : WorldSettings) → IsLawful z → (w : World) (k : ℕ) (b : List ℕ) (x : Sent) (h : HeardMessage) (bound : Bool)
    → Front z w k b x h (SaidNegotiate bound) → ((answer w.values x).reply.status == success) ≡ true → IsGreeted z (text_by z w k h x)
greeted z law w k b x h bound F ok =
    let own : IsOwnGreeting z h.bytes = F.carries in
    let f = (w.wires k).server_end in
    let now = w.values.moment in
    let text = text_by z w k h x in
    let t = told_at z w k b x h (SaidNegotiate bound) F in
    let first : is_negotiate h.header ≡ true = zero_is h.header.command F.header in
    let body : (said_by z w k h x).body ≡ negotiate_response_body z.server.guid f.salt now (greeting_text z.client own.salt own.message) =
    body_is z.server.guid f.salt now (checked_of w k false h) (token_of z w k h x) x.message.command (answer w.values x).reply first ok
    ∙ ap (negotiate_response_body z.server.guid f.salt now) own.is in
    let is : IsMessage (with_flags (head_by w k h x) t.flags)
    (negotiate_response_body z.server.guid f.salt now (greeting_text z.client own.salt own.message)) text =
    subst (λ m. IsMessage (with_flags (head_by w k h x) t.flags) m text) body t.is in
    let answered = law.greeting_answered in
    let all = answered.greeted own.salt f.salt own.message now (with_flags (head_by w k h x) t.flags) text own.salted F.salted
    (sent own.message own.sequence own.id own.tree own.session) F.moment t.fits is in record {
      contexts = all.0;
      choice = all.1;
      hint = all.2;
      chosen = record { cipher = all.3; signing = all.4 };
    }

-- the server's end has heard it
abbrev greeting_by : HeardMessage → List ℕ → Option Greeting
greeting_by h text = Some (record {
  client = client_told h.bytes;
  chosen = negotiated h.bytes;
  transcript = h.bytes ∷ text ∷ [];
})

has_greeting : (z : WorldSettings) (w : World) (k : ℕ) (b : List ℕ) (x : Sent) (h : HeardMessage) (bound : Bool)
    → Front z w k b x h (SaidNegotiate bound) → ((answer w.values x).reply.status == success) ≡ true
    → (end_by z w k h x).greeting ≡ greeting_by h (text_by z w k h x)
has_greeting z w k b x h bound F ok =
    taken_both (is_negotiate h.header) ((answer w.values x).reply.status == success) (greeting_by h (text_by z w k h x))
    (w.wires k).server_end.greeting (zero_is h.header.command F.header) ok

pub greeted_comes : (z : WorldSettings) → IsLawful z → (w : World) (k : ℕ) (b : List ℕ) (x : Sent) (h : HeardMessage)
    (bound : Bool) (place : ℕ)
    → Front z w k b x h (SaidNegotiate bound) → IsComing z w k h x place (SaidNegotiate bound)
greeted_comes z law w k b x h bound place F =
    let stage = SaidNegotiate bound in
    let n = (w.wires k).client_end in
    let own : IsOwnGreeting z h.bytes = F.carries in
    let t = told_at z w k b x h stage F in
    let text = text_by z w k h x in
    let y = hears_it w k h x t.flags text in
    let stays : progress_by w x ≡ Stays = ap (λ c. progress c (answer w.values x).reply) F.command in
    comes z law w k b x h stage place F refl t
    (λ ok. (let g = greeted z law w k b x h bound F ok in
    no_fault (has_form n stage y) (is_hint (negotiate_response_in text).security) true true (pays_next n stage y.header)
    (choice_fault z.client text)
    (form_is z w k b x h stage F t.flags text t.answers g.contexts) g.choice g.hint refl refl
    (pays n stage y.header refl F.credit F.purse)))
    (λ ok. (let e = has_greeting z w k b x h bound F ok in (
      ap (λ p. (server_end_moved (counted_by w k h) (said_by z w k h x) text p).keys) stays ∙ F.no_keys,
      subst (GreetedAs z) (sym e) (record {
        some = refl;
        client = own.client;
        cipher = ap (λ (c : Chosen). c.cipher) own.told;
        signing = ap (λ (c : Chosen). c.signing) own.told;
      }),
      ap (λ p. (server_end_moved (counted_by w k h) (said_by z w k h x) text p).making) stays ∙ F.behind.1,
      ap greeting_transcript e ∙ (ap (λ v. v ∷ text ∷ []) F.bytes ∙ sym (ap (λ v. v ++ text ∷ []) F.behind.2)),
    )))
    (λ ok. (let g = greeted z law w k b x h bound F ok in g.chosen))
