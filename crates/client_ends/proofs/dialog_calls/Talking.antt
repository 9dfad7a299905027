-- A dialog that goes on: a response was noted, and a SESSION_SETUP went out.
use Rattle.std.proofs.Common.{◌≡◌, ℕ, ◌≤◌, Bool, List, [], ◌∷◌, ◌++◌, Option, sym, ap, subst, ◌∙◌}
use Rattle.std.specs.Prelude.{is_some}
use Rattle.spec_exchange.specs.Client.{Stage, SaidNegotiate, SaidFirst, SaidSecond}
use Rattle.spec_exchange.specs.Network.{ForDialog}
use Rattle.spec_exchange.specs.State.{Message}
use Rattle.spec_crypto.specs.sessions.Chain.{chain, value_behind}
use Rattle.spec_crypto.specs.declared.sessions.material.Keys.{Keys}
use Rattle.spec_wire.specs.credits.Purse.{Credits}
use Rattle.spec_wire.specs.declared.messages.header.Header.{Header}
use Rattle.spec_world.specs.Ends.{ClientEnd}
use Rattle.spec_world.specs.Sending.{setup_frame, spent}
use Rattle.spec_world.specs.Dialog.{chosen_behind, noted_heard, paid_in}
use Rattle.spec_world.specs.World.{noted_sent}
use Rattle.client_ends.specs.declared.ends.config.Bound.{Bound}
use Rattle.client_ends.specs.declared.ends.dialog.Dialog.{Dialog}
use Rattle.client_ends.specs.declared.ends.dialog.Stage.{Stage as DialogStage}
use Rattle.client_ends.specs.declared.ends.dialog.Stage.TheVariants as stages
use Rattle.client_ends.specs.ends.Shown.{IsStage, ShowsStage, EndShowsTalk, ShowsTalking}
use Rattle.client_ends.proofs.response_faults.Forms.{headed}
use Rattle.client_ends.specs.dialog_requests.Dialogs.{IsDialogs}
use Rattle.client_ends.specs.dialog_calls.Ending.{Remains}
use Rattle.client_ends.specs.dialog_calls.Turning.{SaysSetup, SetupSaid, previous_in, session_in}
use Rattle.client_ends.proofs.dialog_calls.Noted.{one_more}

-- one message more is one step more
abbrev pub ChainLaw : Type 0
ChainLaw = (ms : List (List ℕ)) (m : List ℕ) → chain (ms ++ m ∷ []) ≡ value_behind (chain ms) m

-- a dialog behind a response that it noted
pub record IsNoted (d mid : Dialog) (h : Header) (m : List ℕ) : Type 0 where
  pub talk : (n : ClientEnd) → EndShowsTalk d.line n → EndShowsTalk mid.line (paid_in n h)
  pub chain : mid.chain ≡ value_behind d.chain m
  pub keys : mid.line.keys ≡ d.line.keys
  pub config : mid.config ≡ d.config
  pub base : mid.base ≡ d.base
  pub challenge : mid.challenge ≡ d.challenge
  pub bound : mid.bound ≡ d.bound
  pub previous : mid.previous ≡ d.previous

-- the end's credits don't hang on what else a note changes
noted_talk : (d mid : Dialog) (n : ClientEnd) (s : Stage) (h : Header) (m : List ℕ) → IsNoted d mid h m → EndShowsTalk d.line n
    → EndShowsTalk mid.line (noted_heard n s (headed h m))
noted_talk d mid n s h m note t = let p = note.talk n t in record { purse = p.purse; awaited = p.awaited }

bound_back : (d mid new : Dialog) → mid.bound ≡ d.bound → new.bound ≡ mid.bound → is_some new.bound ≡ is_some d.bound
bound_back d mid new e f = ap (λ (o : Option Bound). is_some o) (f ∙ e)

pub talking_on : (d mid new : Dialog) (n : ClientEnd) (s next : Stage) (h : Header) (m token frame : List ℕ) (st : DialogStage) → ChainLaw
    → ShowsTalking d n → IsNoted d mid h m → chosen_behind s n.chosen m ≡ mid.chosen → SaysSetup mid token st new frame
    → ShowsTalking new (noted_sent (spent (noted_heard n s (headed h m)) 1 ForDialog) next frame)
talking_on d mid new n s next h m token frame st law t note chosen say =
    let said = say.talk (noted_heard n s (headed h m)) (noted_talk d mid n s h m note t.talk) in
    record {
      talk = record { purse = said.purse; awaited = said.awaited };
      base = t.base ∙ (sym note.base ∙ sym say.rest.base);
      challenge = t.challenge ∙ (sym note.challenge ∙ sym say.rest.challenge);
      chosen = chosen ∙ sym say.rest.chosen;
      transcript =
          one_more law (n.transcript ++ m ∷ []) frame mid.chain new.chain
          (one_more law n.transcript m d.chain mid.chain t.transcript note.chain) say.chain;
      keys = λ b.
          t.keys (sym (bound_back d mid new note.bound say.rest.bound) ∙ b) ∙ (sym note.keys ∙ sym say.rest.keys);
      known = subst (λ (k : Keys). k.cipher ≤ 4) (sym note.keys ∙ sym say.rest.keys) t.known;
    }

-- the frame is that of the end
pub frame_on : (d mid new : Dialog) (n : ClientEnd) (s : Stage) (h : Header) (m token frame : List ℕ) (st : DialogStage) (session : ℕ)
    → ShowsTalking d n → IsNoted d mid h m → mid.session ≡ session → SaysSetup mid token st new frame
    → (x : Message) → IsDialogs x (noted_heard n s (headed h m)).purse.next (session_in d.bound session)
    → frame ≡ setup_frame (noted_heard n s (headed h m)) (is_some d.bound) (previous_in d.bound d.previous) token x
frame_on d mid new n s h m token frame st session t note e say x is =
    let paid = noted_talk d mid n s h m note t.talk in
    let bound : is_some mid.bound ≡ is_some d.bound = ap (λ (o : Option Bound). is_some o) note.bound in
    let here : IsDialogs x mid.line.purse.next (session_in mid.bound mid.session) = record {
      number = is.number ∙ ap (λ (p : Credits). p.next) paid.purse;
      logon = is.logon ∙ (λ i. session_in (sym note.bound i) (sym e i));
      tree = is.tree;
      sequence = is.sequence;
      replay = is.replay;
    }
    in
    say.said (noted_heard n s (headed h m)) x
    (λ b. ap (λ (k : Keys). k.signing) (t.keys (sym bound ∙ b) ∙ sym note.keys)) here
    ∙ (λ i. setup_frame (noted_heard n s (headed h m)) (bound i) (previous_in (note.bound i) (note.previous i)) token x)

-- and so is what the dialog keeps
remains_on : (d mid new : Dialog) (h : Header) (m token frame : List ℕ) (st : DialogStage) (session : ℕ) → IsNoted d mid h m
    → mid.session ≡ session → SaysSetup mid token st new frame → Remains d new session
remains_on d mid new h m token frame st session note e say = record {
  config = say.rest.config ∙ note.config;
  bound = say.rest.bound ∙ note.bound;
  previous = say.rest.previous ∙ note.previous;
  session = say.rest.session ∙ e;
}

-- the whole, behind NEGOTIATE and behind the interim response
pub first_said : (d mid new : Dialog) (n : ClientEnd) (h : Header) (m token frame : List ℕ) → ChainLaw → ShowsTalking d n
    → IsNoted d mid h m → chosen_behind (SaidNegotiate (is_some d.bound)) n.chosen m ≡ mid.chosen → mid.session ≡ d.session
    → SaysSetup mid token stages.SaidFirst new frame
    → SetupSaid d (noted_heard n (SaidNegotiate (is_some d.bound)) (headed h m)) (SaidFirst (is_some d.bound)) d.session token new frame
first_said d mid new n h m token frame law t note chosen e say = (
  frame_on d mid new n (SaidNegotiate (is_some d.bound)) h m token frame stages.SaidFirst d.session t note e say,
  record {
    stage =
        subst (λ (z : DialogStage). IsStage z (is_some new.bound) (SaidFirst (is_some d.bound))) (sym say.stage)
        (ap (λ (b : Bool). SaidFirst b) (sym (bound_back d mid new note.bound say.rest.bound)));
    shown =
        subst (λ (z : DialogStage). ShowsStage z new (noted_sent (spent (noted_heard n (SaidNegotiate (is_some d.bound)) (headed h m)) 1
        ForDialog) (SaidFirst (is_some d.bound)) frame)) (sym say.stage)
        (talking_on d mid new n (SaidNegotiate (is_some d.bound)) (SaidFirst (is_some d.bound)) h m token frame stages.SaidFirst law t note
        chosen say);
  },
  remains_on d mid new h m token frame stages.SaidFirst d.session note e say,
)

pub second_said : (d mid new : Dialog) (n : ClientEnd) (h : Header) (m token frame : List ℕ) → ChainLaw → ShowsTalking d n
    → IsNoted d mid h m → n.chosen ≡ mid.chosen → mid.session ≡ h.session → SaysSetup mid token stages.SaidSecond new frame
    → SetupSaid d (noted_heard n (SaidFirst (is_some d.bound)) (headed h m)) (SaidSecond (is_some d.bound)) h.session token new frame
second_said d mid new n h m token frame law t note chosen e say = (
  frame_on d mid new n (SaidFirst (is_some d.bound)) h m token frame stages.SaidSecond h.session t note e say,
  record {
    stage =
        subst (λ (z : DialogStage). IsStage z (is_some new.bound) (SaidSecond (is_some d.bound))) (sym say.stage)
        (ap (λ (b : Bool). SaidSecond b) (sym (bound_back d mid new note.bound say.rest.bound)));
    shown =
        subst (λ (z : DialogStage). ShowsStage z new (noted_sent (spent (noted_heard n (SaidFirst (is_some d.bound)) (headed h m)) 1
        ForDialog) (SaidSecond (is_some d.bound)) frame)) (sym say.stage)
        (talking_on d mid new n (SaidFirst (is_some d.bound)) (SaidSecond (is_some d.bound)) h m token frame stages.SaidSecond law t note
        chosen say);
  },
  remains_on d mid new h m token frame stages.SaidSecond h.session note e say,
)
