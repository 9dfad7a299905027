-- What the closed words on operations and outcomes say, and what waits.
use Rattle.std.proofs.lemmas.Bool.{eqb-false}
use Rattle.std.proofs.Common.{eqb-true, ◌≡◌, ◌≢◌, ℕ, ◌≤◌, ◌<◌, ◌==◌, true, false, refl, arith, sym, subst, Option, Some}
use Rattle.std.proofs.Common.{None, slice_get, is_some}
use Rattle.spec_exchange.specs.State.{Kept}
use Rattle.spec_exchange.specs.Operations.{Op, Outcome, is_unsettled, is_ok}
use Rattle.spec_exchange.specs.Client.{Client}
use Rattle.spec_exchange.specs.Network.{Conn, Sent, Received, ForOp, ForAttach}
use Rattle.law_sessions.specs.messages.Connections.{copies, makes_open, shuts_open, acts_once, its_create, create_at}
use Rattle.law_sessions.specs.messages.Connections.{Outstanding, DownOpen, HasOpen, Taken, Creates}
use Rattle.law_sessions.proofs.messages.Lists.{own_up_count, own_down_count, attach_down_count}
use Rattle.law_sessions.specs.sessions.Sessions.{is_ops}
use Rattle.law_locks.specs.Locks.{locking, kept_at, firm, is_unsent, refused_for_good}

-- ---- kinds

pub lock_kind : (op : Op) → locking op ≡ true → makes_open op ≡ false
unfolding locking makes_open
lock_kind op e = grind arith

pub lock_stays : (op : Op) → locking op ≡ true → shuts_open op ≡ false
unfolding locking shuts_open
lock_stays op e = grind arith

pub lock_once : (op : Op) → locking op ≡ true → acts_once op ≡ true
unfolding locking acts_once
lock_once op e = grind arith

pub close_kind : (op : Op) → shuts_open op ≡ true → makes_open op ≡ false
unfolding shuts_open makes_open
close_kind op e = grind arith

pub own_create : (g : ℕ) (op : Op) → makes_open op ≡ true → its_create g op ≡ g
unfolding makes_open its_create
own_create g op e = grind arith

-- ---- outcomes

pub unsettled_firm : (o : Outcome) → is_unsettled o ≡ true → firm o ≡ false
unfolding firm
unsettled_firm o e = grind arith

pub unsettled_unsent : (o : Outcome) → is_unsettled o ≡ true → is_unsent o ≡ false
unfolding is_unsent
unsettled_unsent o e = grind arith

pub unsettled_ok : (o : Outcome) → is_unsettled o ≡ true → is_ok o ≡ false
unsettled_ok o e = grind arith

pub unsettled_refused : (o : Outcome) → is_unsettled o ≡ true → refused_for_good o ≡ false
unfolding refused_for_good
unsettled_refused o e = grind arith

pub unsent_firm : (o : Outcome) → is_unsent o ≡ true → firm o ≡ false
unfolding firm is_unsent
unsent_firm o e = grind arith

pub unsent_ok : (o : Outcome) → is_unsent o ≡ true → is_ok o ≡ false
unfolding is_unsent
unsent_ok o e = grind arith

pub ok_firm : (o : Outcome) → is_ok o ≡ true → firm o ≡ true
unfolding firm
ok_firm o e = grind arith

pub ok_settled : (o : Outcome) → is_ok o ≡ true → is_unsettled o ≡ false
ok_settled o e = grind arith

pub firm_settled : (o : Outcome) → firm o ≡ true → is_unsettled o ≡ false
unfolding firm
firm_settled o e = grind arith

pub unsent_settled : (o : Outcome) → is_unsent o ≡ true → is_unsettled o ≡ false
unfolding is_unsent
unsent_settled o e = grind arith

-- refused for good: by a reply, or without having gone out
pub refused_how : (o : Outcome) → refused_for_good o ≡ true → is_unsent o ≡ false → firm o ≡ true
unfolding refused_for_good is_unsent firm
refused_how o e u = grind arith

pub unsent_refused : (o : Outcome) → is_unsent o ≡ true → refused_for_good o ≡ true
unfolding refused_for_good is_unsent
unsent_refused o e = grind arith

-- ---- slots

pub kept_none : (n : ℕ) → kept_at None n ≡ None
unfolding kept_at
kept_none n = refl

pub kept_same : (n st : ℕ) → kept_at (Some (record { number = n; status = st })) n ≡ Some st
unfolding kept_at
kept_same n st = grind arith

pub kept_other : (k : Option Kept) (n m : ℕ) → is_some (kept_at k n) ≡ true → m ≢ n → kept_at k m ≡ None
unfolding kept_at
kept_other k n m e d = grind arith

pub kept_is_some : (o : Option ℕ) (st : ℕ) → o ≡ Some st → is_some o ≡ true
kept_is_some o st e = grind arith

-- ---- what waits

pub more_up : (c : Conn) (g : ℕ) (n : ℕ) (x : Sent) → slice_get c.up n ≡ Some x → x.token ≡ ForOp g → 1 ≤ copies g c
more_up c g n x h t = let l = own_up_count g c.up n x h t in omega (arith, l)

pub more_down : (c : Conn) (g : ℕ) (n : ℕ) (y : Received) → slice_get c.down n ≡ Some y → y.token ≡ ForOp g → 1 ≤ copies g c
more_down c g n y h t = let l = own_down_count g c.down n y h t in omega (arith, l)

pub more_asks : (c : Conn) (g : ℕ) (n : ℕ) (y : Received) → slice_get c.down n ≡ Some y → y.token ≡ ForAttach g → 1 ≤ copies g c
more_asks c g n y h t = let l = attach_down_count g c.down n y h t in omega (arith, l)

-- a reply waits on an open connection
pub down_is_open : (conns : ℕ → Conn) → DownOpen conns → (j n : ℕ) (y : Received) → slice_get (conns j).down n ≡ Some y
    → (conns j).client_open ≡ true
down_is_open conns d j n y h = let e = d j in grind arith

-- the copy on an open connection is outstanding there
pub up_on : (c : Client) (conns : ℕ → Conn) → Outstanding c conns → (j n g : ℕ) (x : Sent) → slice_get (conns j).up n
    ≡ Some x → x.token ≡ ForOp g → 0 < g → (conns j).client_open ≡ true → c.outstanding_on g ≡ Some j
up_on c conns o j n g x h t pos op = o j g op (more_up (conns j) g n x h t) pos

pub down_on : (c : Client) (conns : ℕ → Conn) → Outstanding c conns → DownOpen conns → (j n g : ℕ) (y : Received)
    → slice_get (conns j).down n ≡ Some y → y.token ≡ ForOp g → 0 < g → c.outstanding_on g ≡ Some j
down_on c conns o d j n g y h t pos = o j g (down_is_open conns d j n y h) (more_down (conns j) g n y h t) pos

pub ask_on : (c : Client) (conns : ℕ → Conn) → Outstanding c conns → DownOpen conns → (j n g : ℕ) (y : Received)
    → slice_get (conns j).down n ≡ Some y → y.token ≡ ForAttach g → 0 < g → c.outstanding_on g ≡ Some j
ask_on c conns o d j n g y h t pos = o j g (down_is_open conns d j n y h) (more_asks (conns j) g n y h t) pos

-- the create of what went out settled Ok
pub ok_of : (c : Client) → HasOpen c → (g : ℕ) → c.sent g ≡ true → makes_open (c.op g) ≡ false → is_ok (c.outcome (create_at c g)) ≡ true
ok_of c h g s m = let o = h g s in grind arith

pub made_of : (c : Client) → Taken c → Creates c → (g : ℕ) → c.sent g ≡ true → makes_open (c.op g) ≡ false
    → makes_open (c.op (create_at c g)) ≡ true
made_of c t cr g s m = let k = t g s in (cr g k.0 k.1 m).2

-- which tokens are an operation's
pub own_ops : (x : Sent) (g : ℕ) → x.token ≡ ForOp g → is_ops x.token ≡ true
own_ops x g t = grind arith

pub own_reply_ops : (y : Received) (g : ℕ) → y.token ≡ ForOp g → is_ops y.token ≡ true
own_reply_ops y g t = grind arith

pub ask_reply_ops : (y : Received) (g : ℕ) → y.token ≡ ForAttach g → is_ops y.token ≡ true
ask_reply_ops y g t = grind arith

-- one number, or any other
pub split_at : (P : ℕ → Type 0) (g p : ℕ) → (p ≢ g → P p) → P g → P p
split_at P g p f x = elim (p == g) as (λ b. p == g ≡ b → P p) [
  | true ↦ λ e. subst P (sym (eqb-true p g e)) x
  | false ↦ λ e. f (eqb-false p g e)
] refl
