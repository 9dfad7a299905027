-- What the small steps are stated by.
use Rattle.std.proofs.Common.{◌≡◌, ◌≢◌, ℕ, ◌≤◌, ◌<◌, true, false, refl, arith, Option, Some, slice_get, is_some}
use Rattle.spec_exchange.specs.State.{Server, Making}
use Rattle.spec_exchange.specs.CheckSetup.{is_new, tree_in}
use Rattle.spec_exchange.specs.Opens.{id_of}
use Rattle.spec_exchange.specs.Client.{Client}
use Rattle.spec_exchange.specs.Network.{Conn, Sent, Received, Token, ForDialog, ForOp, ForAttach, op_of}
use Rattle.law_sessions.specs.messages.Connections.{copies, count_up, count_down}
use Rattle.law_sessions.proofs.messages.Lists.{counted_up, counted_down}
use Rattle.law_sessions.specs.sessions.Sessions.{is_ops, SessionUsers, OpenUsers, OpenTrees, MakingUnranked}

-- the client's columns of sessions and dialogs are the same
pub record SameSession (c d : Client) : Type 0 where
  pub who : d.who ≡ c.who
  pub live : d.live ≡ c.live
  pub session : d.session ≡ c.session
  pub number : d.session_number ≡ c.session_number
  pub tree : d.tree ≡ c.tree
  pub sequence : d.sequence ≡ c.sequence
  pub stage : d.stage ≡ c.stage
  pub making : d.making ≡ c.making
  pub pending : d.pending ≡ c.pending
  pub accepted : d.accepted ≡ c.accepted
  pub accepted_count : d.accepted_count ≡ c.accepted_count
  pub rank : d.rank ≡ c.rank

-- what a step of the server does to sessions, as far as this client goes
pub record Moves (c : Client) (s t : Server) : Type 0 where
  pub present : (x : ℕ) → 0 < c.rank x → t.present x ≡ true → s.present x ≡ true
  pub users : SessionUsers c t
  pub opens : OpenUsers c t
  pub attached : OpenTrees c t
  pub making : (k y : ℕ) → y ≤ id_of s.epoch s.session_ids_given → is_new y (t.making k) ≡ true → is_new y (s.making k) ≡ true
  pub unranked : MakingUnranked c t
  pub ids : id_of s.epoch s.session_ids_given ≤ id_of t.epoch t.session_ids_given
  pub trees : (x id : ℕ) → 0 < c.rank x → t.present x ≡ true → is_some (tree_in (s.trees x) id) ≡ true
      → is_some (tree_in (t.trees x) id) ≡ true

-- a dialog's message or reply is counted
dialog_token : (t : Token) → is_ops t ≡ false → op_of t ≡ 0
dialog_token ForDialog e = refl
dialog_token (ForOp g) e = absurd (cc)
dialog_token (ForAttach g) e = absurd (cc)

none_up : (n : ℕ) (c : Conn) → copies n c ≡ 0 → 1 ≤ count_up n c.up → (P : Type 0) → P
none_up n c e l P = absurd (omega (arith, e, l))

none_down : (n : ℕ) (c : Conn) → copies n c ≡ 0 → 1 ≤ count_down n c.down → (P : Type 0) → P
none_down n c e l P = absurd (omega (arith, e, l))

-- where a connection carries none of its dialog, such a one waits on another
pub no_dialog_up : (conns : ℕ → Conn) (k : ℕ) → copies 0 (conns k) ≡ 0 → (j n : ℕ) (x : Sent) → slice_get (conns j).up n
    ≡ Some x → is_ops x.token ≡ false → j ≢ k
no_dialog_up conns k none j n x h t =
    let l = counted_up 0 (conns j).up n x h (dialog_token x.token t) in
    λ e. none_up 0 (conns k) none (grind arith) _

pub no_dialog_down : (conns : ℕ → Conn) (k : ℕ) → copies 0 (conns k) ≡ 0 → (j n : ℕ) (y : Received)
    → slice_get (conns j).down n ≡ Some y → is_ops y.token ≡ false → j ≢ k
no_dialog_down conns k none j n y h t =
    let l = counted_down 0 (conns j).down n y h (dialog_token y.token t) in
    λ e. none_down 0 (conns k) none (grind arith) _

pub moved_unmade : (y : ℕ) (o p : Option Making) → (is_new y p ≡ true → is_new y o ≡ true) → is_new y o ≡ false → is_new y p ≡ false
moved_unmade y o p f e = grind arith
