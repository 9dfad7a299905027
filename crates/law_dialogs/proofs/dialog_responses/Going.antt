-- A dialog goes on: its next SESSION_SETUP waits for the server's end, as it was made.
use Rattle.std.proofs.Common.{◌≡◌, ℕ, ◌<◌, ◌^◌, ◌==◌, Bool, true, false, if◌then◌else◌, List, [], ◌∷◌, ◌++◌, refl}
use Rattle.std.proofs.Common.{sym, ap, ◌∙◌, subst, arith, Some, None, is_some}
use Rattle.spec_exchange.specs.Table.{put}
use Rattle.spec_exchange.specs.Operations.{Op}
use Rattle.spec_exchange.specs.Commands.{Command, Setup, SetupRequest, Shows, Begins}
use Rattle.spec_exchange.specs.State.{Message}
use Rattle.spec_exchange.specs.Client.{Client, Identity, Stage, SaidNegotiate, SaidFirst, SaidSecond}
use Rattle.spec_exchange.specs.Dialogs.{dialog_message}
use Rattle.spec_exchange.specs.Network.{Received, ForDialog}
use Rattle.spec_wire.specs.credits.Purse.{after_add}
use Rattle.spec_crypto.specs.tokens.Tokens.{first_token}
use Rattle.spec_world.specs.Settings.{WorldSettings, chosen_of, identity_of, logon_of}
use Rattle.spec_world.specs.Messages.{HeardMessage}
use Rattle.spec_world.specs.Ends.{ClientEnd, ServerEnd, Logons}
use Rattle.spec_world.specs.Logon.{token_in, challenge_of, made_or_greeted}
use Rattle.spec_world.specs.Sending.{setup_frame, answer_of, or_no_token}
use Rattle.spec_world.specs.Connection.{told_of}
use Rattle.spec_world.specs.Hearing.{text_of, checked_as}
use Rattle.spec_world.specs.Dialog.{noted_heard, setup_token, status_due}
use Rattle.spec_world.specs.World.{previous_of}
use Rattle.law_ties.specs.wire_facts.Lawful.{IsLawfulAnswered, HasLogon, IsLawful}
use Rattle.law_ties.specs.events.Links.{Shared, Asked, Waiting, Coming, Tied, dialog_purse}
use Rattle.law_ties.proofs.events.Taking.{put_same}
use Rattle.law_ties.proofs.events.Keeping.{false_open}
use Rattle.law_dialogs.proofs.dialog_responses.Asked.{IsSetupMessage, setup_heard, setup_opens, setup_asked, setup_token_is}
use Rattle.law_dialogs.proofs.dialog_responses.Ends.{next_end, going_tie, first_shows}

-- ---- the client's own SESSION_SETUP

pub record IsClient (z : WorldSettings) (c : Client) : Type 0 where
  pub who : c.who ≡ identity_of z
  pub session : c.session < 256 ^ 8
  pub accepted : c.accepted < 256 ^ 8
  pub pending : c.pending < 256 ^ 8

session_fits : (z : WorldSettings) (c : Client) (bound : Bool) (other : ℕ) → IsClient z c → other < 256 ^ 8
    → (if bound then c.session else other) < 256 ^ 8
session_fits z c true other i low = i.session
session_fits z c false other i low = low

previous_fits : (z : WorldSettings) (c : Client) (bound : Bool) → IsClient z c → previous_of c bound < 256 ^ 8
previous_fits z c true i = omega arith
previous_fits z c false i = i.accepted

zero_low : 0 < 256 ^ 8
zero_low = omega arith

abbrev setup_by : Client → Bool → Shows → SetupRequest
setup_by c bound shown = record {
  readable = true;
  binding = bound;
  signed = bound;
  verified = bound;
  previous = previous_of c bound;
  cipher = c.who.cipher;
  signing = c.who.signing;
  shows = shown;
}

abbrev own_setup : WorldSettings → Client → Bool → Shows → Command
own_setup z c bound shown = Setup (record {
  readable = true;
  binding = bound;
  signed = bound;
  verified = bound;
  previous = previous_of c bound;
  cipher = (chosen_of z.client).cipher;
  signing = (chosen_of z.client).signing;
  shows = shown;
})

setup_command : (z : WorldSettings) (c : Client) (bound : Bool) (shown : Shows) → c.who ≡ identity_of z
    → Setup (setup_by c bound shown) ≡ own_setup z c bound shown
setup_command z c bound shown e = ap (λ (w : Identity). Setup (record {
  readable = true;
  binding = bound;
  signed = bound;
  verified = bound;
  previous = previous_of c bound;
  cipher = w.cipher;
  signing = w.signing;
  shows = shown;
})) e

first_message : (z : WorldSettings) (c : Client) (k id : ℕ) (bound : Bool) → IsClient z c → id < 256 ^ 8
    → IsSetupMessage z k (dialog_message c k id (SaidFirst bound)) bound (previous_of c bound) Begins
first_message z c k id bound i low = record {
  connection = refl;
  client = ap (λ (w : Identity). w.guid) i.who;
  fault = refl;
  sent = record {
    charge_fits = omega arith;
    channel_sequence = omega arith;
    message_id = low;
    tree_id = omega arith;
    session_id = session_fits z c bound 0 i zero_low;
  };
  command = setup_command z c bound Begins i.who;
}

second_message : (z : WorldSettings) (c : Client) (k id : ℕ) (bound : Bool) → IsClient z c → id < 256 ^ 8
    → IsSetupMessage z k (dialog_message c k id (SaidSecond bound)) bound (previous_of c bound) (logon_of z)
second_message z c k id bound i low = record {
  connection = refl;
  client = ap (λ (w : Identity). w.guid) i.who;
  fault = refl;
  sent = record {
    charge_fits = omega arith;
    channel_sequence = omega arith;
    message_id = low;
    tree_id = omega arith;
    session_id = session_fits z c bound c.pending i i.pending;
  };
  command = setup_command z c bound c.who.logon i.who ∙ ap (λ (w : Identity). own_setup z c bound w.logon) i.who;
}

-- the next id is a small one
next_low : (n : ClientEnd) (stage : Stage) (g : ℕ) → n.purse ≡ dialog_purse stage → (dialog_purse stage).next < 256 ^ 8
    → (after_add g n.purse).next < 256 ^ 8
next_low n stage g e low = subst (λ p. (after_add g p).next < 256 ^ 8) (sym e) low

-- ---- behind a NEGOTIATE's success

abbrev pub first_frame : Client → ℕ → ClientEnd → Bool → HeardMessage → List ℕ
first_frame c k n bound x =
    let m = noted_heard n (SaidNegotiate bound) x in
    setup_frame m bound (previous_of c bound) first_token (dialog_message c k m.purse.next (SaidFirst bound))

-- the session in the making changes alone
abbrev pub with_pending : Shared → ℕ → Shared
with_pending s pending = record s { pending = pending }

abbrev pub first_sent : Client → ℕ → ClientEnd → Bool → HeardMessage → Message
first_sent c k n bound x = dialog_message c k (noted_heard n (SaidNegotiate bound) x).purse.next (SaidFirst bound)

first_waits : (z : WorldSettings) → IsLawful z → (s : Shared) (k : ℕ) (n : ClientEnd) (f : ServerEnd) (a : List ℕ) (y : Received)
    (grants : List ℕ) (bound : Bool) (c : Client) (C : Coming z s k true n f a y grants (SaidNegotiate bound)) → IsClient z c
    → (C.heard.header.status == status_due (SaidNegotiate bound)) ≡ true → n.purse ≡ dialog_purse (SaidNegotiate bound)
    → (bound ≡ true → n.keys ≡ s.keys) → c.session ≡ s.session
    → Waiting z (with_pending s c.pending) k
    (next_end n (SaidNegotiate bound) C.heard (SaidFirst bound) (first_frame c k n bound C.heard)) f (first_frame c k n bound C.heard)
    (record { token = ForDialog; message = first_sent c k n bound C.heard }) [] (SaidFirst bound)
first_waits z law s k n f a y grants bound c C i ok purse keys session =
    let x = C.heard in
    let h = noted_heard n (SaidNegotiate bound) x in
    let id = h.purse.next in
    let low = next_low n (SaidNegotiate bound) x.header.credits purse (omega arith) in
    let mine = first_message z c k id bound i low in
    let m = first_sent c k n bound x in
    let previous = previous_of c bound in
    let frame = first_frame c k n bound x in
    let tokens = law.tokens in
    let ahead = C.ahead ok refl in
    let lasting = C.lasting ok in
    let heard = setup_heard h bound previous first_token m in
    let t = told_of z.server s.logons k f (checked_as f false false true heard) in record {
      heard = heard;
      opens = ap (λ o. text_of o frame) ahead.0
          ∙ setup_opens z law h bound previous first_token m mine.sent (previous_fits z c bound i) tokens.short;
      alone = refl;
      token = refl;
      command = (setup_by c bound Begins, refl, refl);
      header = refl;
      awaits = put_same (put n.awaited x.header.message None) id (Some ForDialog);
      below = omega arith;
      no_grants = refl;
      no_keys = ahead.0;
      behind = (
        ahead.1,
        ahead.2,
        ap (λ v. v ++ frame ∷ []) (ap (λ v. n.transcript ++ v ∷ []) C.alone ∙ sym ahead.3)
            ∙ ap (λ v. made_or_greeted v f.greeting ++ frame ∷ []) (sym ahead.2),
        lasting,
      );
      carries = (
        setup_token_is z law h bound previous first_token m t mine.sent (previous_fits z c bound i) tokens.short,
        λ e. (ap (λ b. if b then c.session else 0) e ∙ session, keys e),
      );
    }

first_asked : (z : WorldSettings) → IsLawful z → (s : Shared) (k : ℕ) (n : ClientEnd) (f : ServerEnd) (a : List ℕ) (y : Received)
    (grants : List ℕ) (bound : Bool) (c : Client) (C : Coming z s k true n f a y grants (SaidNegotiate bound)) → IsClient z c
    → (C.heard.header.status == status_due (SaidNegotiate bound)) ≡ true → n.purse ≡ dialog_purse (SaidNegotiate bound)
    → (bound ≡ true → s.logons.keys c.session ≡ n.keys)
    → Asked z s.logons k f (first_frame c k n bound C.heard) (record { token = ForDialog; message = first_sent c k n bound C.heard })
    ((first_sent c k n bound C.heard).message_id, 1)
first_asked z law s k n f a y grants bound c C i ok purse own =
    let x = C.heard in
    let h = noted_heard n (SaidNegotiate bound) x in
    let low = next_low n (SaidNegotiate bound) x.header.credits purse (omega arith) in
    let m = first_sent c k n bound x in
    let mine = first_message z c k h.purse.next bound i low in
    let tokens = law.tokens in
    let ahead = C.ahead ok refl in
    setup_asked z law s.logons k f h bound (previous_of c bound) first_token m Begins m.message_id mine ahead.0 ahead.1
    (λ e. ap (λ b. s.logons.keys (if b then c.session else 0)) e ∙ own e) (previous_fits z c bound i) tokens.short
    (first_shows z law z.server.users (s.logons.pending k)) refl

pub first_tie : (z : WorldSettings) → IsLawful z → (op : ℕ → Op) (s : Shared) (k : ℕ) (so : Bool) (n : ClientEnd) (f : ServerEnd)
    (a : List ℕ) (y : Received) (bound : Bool) (c : Client) (T : Tied z op s k true so n f [] (a ∷ []) [] (y ∷ []))
    (C : Coming z s k so n f a y T.link.line.grants (SaidNegotiate bound)) → IsClient z c
    → (C.heard.header.status == status_due (SaidNegotiate bound)) ≡ true → n.purse ≡ dialog_purse (SaidNegotiate bound)
    → (bound ≡ true → n.keys ≡ s.keys) → (bound ≡ true → s.logons.keys c.session ≡ n.keys) → c.session ≡ s.session
    → Tied z op (with_pending s c.pending) k true so
    (next_end n (SaidNegotiate bound) C.heard (SaidFirst bound) (first_frame c k n bound C.heard)) f
    (first_frame c k n bound C.heard ∷ []) []
    (record { token = ForDialog; message = first_sent c k n bound C.heard } ∷ []) []
first_tie z law op s k true n f a y bound c T C i ok purse keys own session =
    going_tie z op s (with_pending s c.pending) k true n f a y (SaidNegotiate bound) (SaidFirst bound) (first_frame c k n bound C.heard)
    (first_sent c k n bound C.heard) T C refl refl refl purse refl keys refl
    (λ o. first_asked z law s k n f a y T.link.line.grants bound c C i ok purse own)
    (λ o. first_waits z law s k n f a y T.link.line.grants bound c C i ok purse keys session)
first_tie z law op s k false n f a y bound c T C i ok purse keys own session =
    going_tie z op s (with_pending s c.pending) k false n f a y (SaidNegotiate bound) (SaidFirst bound) (first_frame c k n bound C.heard)
    (first_sent c k n bound C.heard) T C refl refl refl purse refl keys refl (λ o. false_open o) (λ o. false_open o)

-- ---- behind an interim response

abbrev pub own_token : WorldSettings → ClientEnd → HeardMessage → List ℕ
own_token z n x = or_no_token (answer_of z.client n (setup_token x.bytes))

abbrev pub second_sent : Client → ℕ → ClientEnd → Bool → HeardMessage → Message
second_sent c k n bound x = dialog_message c k (noted_heard n (SaidFirst bound) x).purse.next (SaidSecond bound)

abbrev pub second_frame : Client → ℕ → ClientEnd → Bool → HeardMessage → List ℕ → List ℕ
second_frame c k n bound x token =
    setup_frame (noted_heard n (SaidFirst bound) x) bound (previous_of c bound) token (second_sent c k n bound x)

-- what the client answers, as the server takes it
record IsOwnAnswer (z : WorldSettings) (L : Logons) (k : ℕ) (n : ClientEnd) (x : HeardMessage) : Type 0 where
  is : answer_of z.client n (setup_token x.bytes) ≡ Some (own_token z n x)
  challenge : setup_token x.bytes ≡ challenge_of (L.pending k)
  answered : IsLawfulAnswered z n (L.pending k) (own_token z n x)

own_answer : (z : WorldSettings) → IsLawful z → (s : Shared) (k : ℕ) (n : ClientEnd) (f : ServerEnd) (a : List ℕ) (y : Received)
    (grants : List ℕ) (bound : Bool) (C : Coming z s k true n f a y grants (SaidFirst bound))
    → (C.heard.header.status == status_due (SaidFirst bound)) ≡ true → HasLogon n → IsOwnAnswer z s.logons k n C.heard
own_answer z law s k n f a y grants bound C ok logon =
    let x = C.heard in
    let ahead = C.ahead ok refl in
    let lasting = C.lasting ok in
    let begun = lasting.0 in
    let tokens = law.tokens in
    let all = tokens.answer n begun.0 begun.1 logon begun.2 begun.3 in
    let e : answer_of z.client n (setup_token x.bytes) ≡ Some all.0 =
    ap (answer_of z.client n) (ahead.3 ∙ ap challenge_of begun.4) ∙ all.1 in
    let same : own_token z n x ≡ all.0 = ap or_no_token e in record {
      is = e ∙ ap Some (sym same);
      challenge = ahead.3;
      answered = subst (IsLawfulAnswered z n (s.logons.pending k)) (sym same) (subst (λ p. IsLawfulAnswered z n p all.0)
          (sym begun.4) all.2);
    }

-- it hangs on the logon's own bytes alone
same_answer : (z : WorldSettings) (n : ClientEnd) (stage next : Stage) (x : HeardMessage) (frame token : List ℕ)
    → answer_of z.client (next_end n stage x next frame) token ≡ answer_of z.client n token
unfolding answer_of
same_answer z n stage next x frame token = refl

second_waits : (z : WorldSettings) → IsLawful z → (s : Shared) (k : ℕ) (n : ClientEnd) (f : ServerEnd) (a : List ℕ) (y : Received)
    (grants : List ℕ) (bound : Bool) (c : Client) (C : Coming z s k true n f a y grants (SaidFirst bound)) → IsClient z c
    → (C.heard.header.status == status_due (SaidFirst bound)) ≡ true → HasLogon n → n.purse ≡ dialog_purse (SaidFirst bound)
    → (bound ≡ true → n.keys ≡ s.keys) → c.session ≡ s.session
    → Waiting z (with_pending s c.pending) k
    (next_end n (SaidFirst bound) C.heard (SaidSecond bound) (second_frame c k n bound C.heard (own_token z n C.heard))) f
    (second_frame c k n bound C.heard (own_token z n C.heard))
    (record { token = ForDialog; message = second_sent c k n bound C.heard }) [] (SaidSecond bound)
second_waits z law s k n f a y grants bound c C i ok logon purse keys session =
    let x = C.heard in
    let h = noted_heard n (SaidFirst bound) x in
    let id = h.purse.next in
    let low = next_low n (SaidFirst bound) x.header.credits purse (omega arith) in
    let mine = second_message z c k id bound i low in
    let m = second_sent c k n bound x in
    let previous = previous_of c bound in
    let token = own_token z n x in
    let frame = second_frame c k n bound x token in
    let own = own_answer z law s k n f a y grants bound C ok logon in
    let answered = own.answered in
    let ahead = C.ahead ok refl in
    let lasting = C.lasting ok in
    let heard = setup_heard h bound previous token m in
    let t = told_of z.server s.logons k f (checked_as f false false true heard) in
    let told : token_in frame ≡ token = setup_token_is z law h bound previous token m t mine.sent
    (previous_fits z c bound i) answered.short in record {
      heard = heard;
      opens = ap (λ o. text_of o frame) ahead.0
          ∙ setup_opens z law h bound previous token m mine.sent (previous_fits z c bound i) answered.short;
      alone = refl;
      token = refl;
      command = (setup_by c bound c.who.logon, refl, refl);
      header = refl;
      awaits = put_same (put n.awaited x.header.message None) id (Some ForDialog);
      below = omega arith;
      no_grants = refl;
      no_keys = ahead.0;
      behind = (
        ahead.1,
        ap is_some ahead.2,
        ap (λ v. (n.transcript ++ v ∷ []) ++ frame ∷ []) C.alone
            ∙ ap (λ v. made_or_greeted v f.greeting ++ frame ∷ []) (sym ahead.2),
        lasting.1,
      );
      carries = (
        lasting.0,
        same_answer z n (SaidFirst bound) (SaidSecond bound) x frame (challenge_of (s.logons.pending k))
            ∙ (ap (answer_of z.client n) (sym own.challenge) ∙ (own.is ∙ ap Some (sym told))),
        λ e. (ap (λ b. if b then c.session else c.pending) e ∙ session, keys e),
        λ e. ap (λ b. if b then c.session else c.pending) e,
      );
    }

second_asked : (z : WorldSettings) → IsLawful z → (s : Shared) (k : ℕ) (n : ClientEnd) (f : ServerEnd) (a : List ℕ) (y : Received)
    (grants : List ℕ) (bound : Bool) (c : Client) (C : Coming z s k true n f a y grants (SaidFirst bound)) → IsClient z c
    → (C.heard.header.status == status_due (SaidFirst bound)) ≡ true → HasLogon n → n.purse ≡ dialog_purse (SaidFirst bound)
    → (bound ≡ true → s.logons.keys c.session ≡ n.keys)
    → Asked z s.logons k f (second_frame c k n bound C.heard (own_token z n C.heard))
    (record { token = ForDialog; message = second_sent c k n bound C.heard }) ((second_sent c k n bound C.heard).message_id, 1)
second_asked z law s k n f a y grants bound c C i ok logon purse keys =
    let x = C.heard in
    let h = noted_heard n (SaidFirst bound) x in
    let low = next_low n (SaidFirst bound) x.header.credits purse (omega arith) in
    let m = second_sent c k n bound x in
    let mine = second_message z c k h.purse.next bound i low in
    let own = own_answer z law s k n f a y grants bound C ok logon in
    let answered = own.answered in
    let ahead = C.ahead ok refl in
    setup_asked z law s.logons k f h bound (previous_of c bound) (own_token z n x) m (logon_of z) m.message_id mine ahead.0 ahead.1
    (λ e. ap (λ b. s.logons.keys (if b then c.session else c.pending)) e ∙ keys e)
    (previous_fits z c bound i) answered.short answered.shows refl

pub second_tie : (z : WorldSettings) → IsLawful z → (op : ℕ → Op) (s : Shared) (k : ℕ) (so : Bool) (n : ClientEnd) (f : ServerEnd)
    (a : List ℕ) (y : Received) (bound : Bool) (c : Client) (T : Tied z op s k true so n f [] (a ∷ []) [] (y ∷ []))
    (C : Coming z s k so n f a y T.link.line.grants (SaidFirst bound)) → IsClient z c
    → (C.heard.header.status == status_due (SaidFirst bound)) ≡ true → HasLogon n → n.purse ≡ dialog_purse (SaidFirst bound)
    → (bound ≡ true → n.keys ≡ s.keys) → (bound ≡ true → s.logons.keys c.session ≡ n.keys) → c.session ≡ s.session
    → Tied z op (with_pending s c.pending) k true so
    (next_end n (SaidFirst bound) C.heard (SaidSecond bound) (second_frame c k n bound C.heard (own_token z n C.heard))) f
    (second_frame c k n bound C.heard (own_token z n C.heard) ∷ []) []
    (record { token = ForDialog; message = second_sent c k n bound C.heard } ∷ []) []
second_tie z law op s k true n f a y bound c T C i ok logon purse keys own session =
    going_tie z op s (with_pending s c.pending) k true n f a y (SaidFirst bound) (SaidSecond bound)
    (second_frame c k n bound C.heard (own_token z n C.heard)) (second_sent c k n bound C.heard) T C refl refl refl purse refl keys refl
    (λ o. second_asked z law s k n f a y T.link.line.grants bound c C i ok logon purse own)
    (λ o. second_waits z law s k n f a y T.link.line.grants bound c C i ok logon purse keys session)
second_tie z law op s k false n f a y bound c T C i ok logon purse keys own session =
    going_tie z op s (with_pending s c.pending) k false n f a y (SaidFirst bound) (SaidSecond bound)
    (second_frame c k n bound C.heard (own_token z n C.heard)) (second_sent c k n bound C.heard) T C refl refl refl purse refl keys refl
    (λ o. false_open o) (λ o. false_open o)
