-- A dialog's message hangs on four columns of the client alone.
use Rattle.std.proofs.Common.{◌≡◌, ℕ, ◌==◌, true, false, if◌then◌else◌, [], ◌∷◌, refl, sym, ap, ◌∙◌, subst, eqb-true, arith, None}
use Rattle.spec_exchange.specs.Table.{put}
use Rattle.spec_exchange.specs.Commands.{Setup, TreeConnect, Begins}
use Rattle.spec_exchange.specs.Client.{Client, Stage, Apart, SaidNegotiate, SaidFirst, SaidSecond, AskedTree}
use Rattle.spec_exchange.specs.Dialogs.{stage_session, stage_command, dialog_message}
use Rattle.spec_exchange.specs.Network.{Conn}
use Rattle.law_sessions.proofs.sessions.Table.{Keeps}
use Rattle.law_answers.specs.waiting_dialogs.Exact.{ExactAt, AreExact}

pub record Alike (c d : Client) : Type 0 where
  pub who : c.who ≡ d.who
  pub session : c.session ≡ d.session
  pub pending : c.pending ≡ d.pending
  pub accepted : c.accepted ≡ d.accepted

pub alike : (c d : Client) → Keeps c d → Alike c d
alike c d k =
    let s = k.same in record { who = sym s.who; session = sym s.session; pending = sym s.pending; accepted = sym s.accepted }

same_session : (c d : Client) → Alike c d → (stage : Stage) → stage_session c stage ≡ stage_session d stage
same_session c d e Apart = refl
same_session c d e (SaidNegotiate bound) = refl
same_session c d e (SaidFirst true) = e.session
same_session c d e (SaidFirst false) = refl
same_session c d e (SaidSecond true) = e.session
same_session c d e (SaidSecond false) = e.pending
same_session c d e AskedTree = e.pending

same_command : (c d : Client) → Alike c d → (stage : Stage) → stage_command c stage ≡ stage_command d stage
same_command c d e Apart = refl
same_command c d e (SaidNegotiate bound) = refl
same_command c d e (SaidFirst bound) = λ j. Setup (record {
  readable = true;
  binding = bound;
  signed = bound;
  verified = bound;
  previous = if bound then 0 else e.accepted j;
  cipher = (e.who j).cipher;
  signing = (e.who j).signing;
  shows = Begins;
})
same_command c d e (SaidSecond bound) = λ j. Setup (record {
  readable = true;
  binding = bound;
  signed = bound;
  verified = bound;
  previous = if bound then 0 else e.accepted j;
  cipher = (e.who j).cipher;
  signing = (e.who j).signing;
  shows = (e.who j).logon;
})
same_command c d e AskedTree = λ j. TreeConnect (e.who j).share

pub same_message : (c d : Client) → Alike c d → (k id : ℕ) (stage : Stage) → dialog_message c k id stage ≡ dialog_message d k id stage
same_message c d e k id stage =
    let s = same_session c d e stage in
    let m = same_command c d e stage in (λ j. record {
      connection = k;
      client_guid = (e.who j).guid;
      session_id = s j;
      tree_id = 0;
      message_id = id;
      channel_sequence = 0;
      replay = false;
      fault = None;
      command = m j;
    })

pub moved : (c d : Client) → Alike c d → (k : ℕ) (stage : Stage) (p : Conn) → ExactAt c k stage p → ExactAt d k stage p
moved c d e k stage p f o t x xs is = (let m = f o t x xs is in (m.0, m.1 ∙ same_message c d e k m.0 stage))

pub kept : (c d : Client) (conns : ℕ → Conn) → Alike c d → d.stage ≡ c.stage → AreExact c conns → AreExact d conns
kept c d conns e stages i k =
    subst (λ s. ExactAt d k s (conns k)) (ap (λ (f : ℕ → Stage). f k) (sym stages)) (moved c d e k (c.stage k) (conns k) (i k))

-- ---- tables

pub put_exact : (P : ℕ → Conn → Type 0) (conns : ℕ → Conn) (k : ℕ) (p : Conn) → P k p → ((j : ℕ) → (j == k) ≡ false → P j (conns j))
    → (j : ℕ) → P j (put conns k p j)
put_exact P conns k p here there j =
    elim (j == k) as (λ b. j == k ≡ b → P j (if b then p else conns j)) [
      | true ↦ λ e. subst (λ i. P i p) (sym (eqb-true j k e)) here
      | false ↦ λ e. there j e
    ] refl

pub put_here : (stage : ℕ → Stage) (k : ℕ) (s : Stage) → put stage k s k ≡ s
put_here stage k s = grind arith

pub put_there : (stage : ℕ → Stage) (k j : ℕ) (s : Stage) → (j == k) ≡ false → put stage k s j ≡ stage j
put_there stage k j s e = ap (λ b. if b then s else stage j) e

-- a stage of one connection changes, and its connection; of the others nothing does
pub both_exact : (c d : Client) (conns : ℕ → Conn) (k : ℕ) (p : Conn) (s : Stage) → d.stage ≡ put c.stage k s → ExactAt d k s p
    → ((j : ℕ) → (j == k) ≡ false → ExactAt d j (c.stage j) (conns j)) → AreExact d (put conns k p)
both_exact c d conns k p s is here there =
    put_exact (λ j q. ExactAt d j (d.stage j) q) conns k p
    (subst (λ t. ExactAt d k t p) (sym (ap (λ (f : ℕ → Stage). f k) is ∙ put_here c.stage k s)) here)
    (λ j e. subst (λ t. ExactAt d j t (conns j)) (sym (ap (λ (f : ℕ → Stage). f j) is ∙ put_there c.stage k j s e)) (there j e))

-- a closed end is exact, and so is one whose dialog is over, or whose list is empty
pub closed_exact : (c : Client) (k : ℕ) (stage : Stage) (p : Conn) → p.client_open ≡ false → ExactAt c k stage p
closed_exact c k stage p off o t x xs e = absurd (let h : false ≡ true = sym off ∙ o in cc)

pub empty_exact : (c : Client) (k : ℕ) (stage : Stage) (p : Conn) → p.up ≡ [] → ExactAt c k stage p
empty_exact c k stage p none o t x xs e = absurd (let h : [] ≡ x ∷ xs = sym none ∙ e in cc)
