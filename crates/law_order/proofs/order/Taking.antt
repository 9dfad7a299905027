-- What is known where the server takes the front of a connection, and what is remembered of it.
use Rattle.std.proofs.lemmas.Bool.{eqb-false}
use Rattle.std.proofs.Common.{eqb-true, ◌⊎◌, inl, inr, ◌≡◌, ◌≢◌, ℕ, ◌+◌, ◌≤◌, ◌<◌, ◌==◌, Bool, true, false, ◌&&◌}
use Rattle.std.proofs.Common.{if◌then◌else◌, List, refl, arith, sym, subst, ◌∙◌, ap, Option, Some, None}
use Rattle.spec_exchange.specs.Table.{put}
use Rattle.spec_exchange.specs.Commands.{form}
use Rattle.spec_exchange.specs.Order.{Log}
use Rattle.spec_exchange.specs.State.{Server, Answer}
use Rattle.spec_exchange.specs.Operations.{is_ok, share_of, content_op}
use Rattle.spec_exchange.specs.Client.{Client, AskedTree, guid_for}
use Rattle.spec_exchange.specs.Network.{Sent, Trace, Token, ForDialog, ForOp, ForAttach, op_of, is_own, makes, said}
use Rattle.spec_exchange.specs.Network.{first_noted, bytes_behind}
use Rattle.spec_exchange.specs.Runs.{is_send_of}
use Rattle.law_sessions.specs.messages.Connections.{makes_open}
use Rattle.law_sessions.specs.sessions.Sessions.{is_ops}
use Rattle.law_order.specs.order.Newest.{Pair}
use Rattle.law_order.specs.order.Contents.{formed, lists, file_at, last_id}
use Rattle.law_order.proofs.order.Moved.{Steps}
use Rattle.law_order.proofs.order.Served.{ListedFacts}
use Rattle.law_order.proofs.order.Writing.{Changing, writes_to}
use Rattle.law_order.proofs.order.Made.{Making, creates, asks_guid, asks_share}

-- ---- what is remembered behind it

abbrev pub new_trace : Client → Trace → Log → Sent → Answer → Trace
new_trace c t l x A =
    record {
      open_of = if makes c x.token A then put t.open_of (op_of x.token) A.reached else t.open_of;
      reached = put t.reached l.places A.reached;
      altered = put t.altered l.places A.altered;
      session = put t.session l.places x.message.session_id;
      sequence = put t.sequence l.places x.message.channel_sequence;
    }

abbrev pub new_log : Client → Trace → Log → Sent → Answer → Log
new_log c t l x A =
    record l {
      places = l.places + 1;
      who = put l.who l.places (op_of x.token);
      gave = put l.gave l.places (said x.token A.reply);
      did = put l.did l.places (is_own x.token && A.acted);
      bytes = λ q. put (l.bytes q) (l.places + 1) (bytes_behind A.server ((new_trace c t l x A).open_of q) (l.bytes q l.places));
      birth = if makes c x.token A then put l.birth (op_of x.token) (l.places + 1) else l.birth;
      first = if is_own x.token && A.acted then put l.first (op_of x.token) (first_noted (l.first (op_of x.token)) l.places) else l.first;
    }

abbrev pub new_acts : (ℕ → ℕ) → Sent → Answer → ℕ → ℕ
new_acts a x A h = if is_send_of h x.token && A.acted then a h + 1 else a h

-- ---- what is known of the front and its answer

pub record Taking (c : Client) (s : Server) (t : Trace) (x0 : Sent) (A : Answer) : Type 0 where
  pub steps : Steps c.rank s A.server
  pub session_of_open : (o y : ℕ) → A.server.session_of_open o ≡ Some y
      → (s.session_of_open o ≡ Some y × A.server.sequence o ≤ s.sequence o)
      ⊎ (A.reached ≡ Some o × y ≡ x0.message.session_id × A.server.sequence o ≤ x0.message.channel_sequence)
  pub reached : (o : ℕ) → A.reached ≡ Some o → o ≤ last_id A.server × Pair A.server x0.message.session_id x0.message.channel_sequence o
  pub ops : (o : ℕ) → A.reached ≡ Some o → is_ops x0.token ≡ true
  pub changing : Changing s x0.message A
  pub making : Making s x0.message A
  pub given : (o : ℕ) → s.standing o ≡ true → o ≤ last_id s
  pub attached : (o y : ℕ) → s.session_of_open o ≡ Some y → s.present y ≡ true
  -- a read, a write or an end, by its own message
  pub listed : (g : ℕ) → x0.token ≡ ForOp g → lists (c.op g) ≡ true → ListedFacts s x0.message (content_op (c.op g)) (file_at c g) A
  pub well_formed : (g : ℕ) → x0.token ≡ ForOp g → form x0.message.command ≡ None → formed (c.op g) ≡ true
  -- what may change bytes is one of these
  pub writer : (p : ℕ) → writes_to x0.message.command p ≡ true → (g : ℕ)
      × ((x0.token ≡ ForOp g) × (lists (c.op g) ≡ true) × (p ≡ file_at c g))
  -- what makes an open is a create, by its own message
  pub creator : creates x0.message.command ≡ true → A.acted ≡ true → (g : ℕ)
      × ((x0.token ≡ ForOp g) × (makes_open (c.op g) ≡ true) × (asks_guid x0.message.command ≡ Some (guid_for c g))
      × (asks_share x0.message.command ≡ share_of (c.op g)))
  pub makes_create : makes c x0.token A ≡ true → creates x0.message.command ≡ true
  pub client : x0.message.client_guid ≡ c.who.guid
  pub remade : makes c x0.token A ≡ true → t.open_of (op_of x0.token) ≡ None
  pub ranked : is_ops x0.token ≡ true → 0 < c.rank x0.message.session_id
  pub fresh : is_ops x0.token ≡ true → (j : ℕ) → c.stage j ≡ AskedTree → x0.message.session_id ≢ c.pending
  pub upto : c.live ≡ true → x0.message.session_id ≡ c.session → x0.message.channel_sequence ≤ c.sequence
  -- the open of a create that settled Ok
  pub files : (q : ℕ) → makes_open (c.op q) ≡ true → is_ok (c.outcome q) ≡ true → c.file q ≤ last_id s

-- ---- small facts of what is remembered

pub own_of : (t : Token) → is_own t ≡ true → t ≡ ForOp (op_of t)
own_of ForDialog e = absurd (cc)
own_of (ForOp g) e = refl
own_of (ForAttach g) e = absurd (cc)

pub made_own : (c : Client) (t : Token) (A : Answer) → makes c t A ≡ true → is_own t ≡ true × A.acted ≡ true
    × makes_open (c.op (op_of t)) ≡ true
unfolding makes_open
made_own c t A e = (grind arith, grind arith, grind arith)

-- an open that was made stays its create's
pub open_kept : (c : Client) (t : Trace) (l : Log) (x : Sent) (A : Answer) (q o : ℕ)
    → (makes c x.token A ≡ true → t.open_of (op_of x.token) ≡ None) → t.open_of q ≡ Some o
    → (new_trace c t l x A).open_of q ≡ Some o
open_kept c t l x A q o f e = by_makes (makes c x.token A) refl
  where
    by_makes : (b : Bool) → makes c x.token A ≡ b → (if b then put t.open_of (op_of x.token) A.reached else t.open_of) q ≡ Some o
    by_makes false m = e
    by_makes true m =
        elim (q == op_of x.token) as (λ b. q == op_of x.token ≡ b → put t.open_of (op_of x.token) A.reached q ≡ Some o) [
          | true ↦ λ z. absurd (let y = ap t.open_of (eqb-true q (op_of x.token) z) in let n = f m in grind arith)
          | false ↦ λ z. let ne = eqb-false q (op_of x.token) z in grind arith
        ] refl

-- an open is that of before, or the one that was made
pub open_was : (c : Client) (t : Trace) (l : Log) (x : Sent) (A : Answer) (q o : ℕ) → (new_trace c t l x A).open_of q
    ≡ Some o → (t.open_of q ≡ Some o) ⊎ (makes c x.token A ≡ true × q ≡ op_of x.token × A.reached ≡ Some o)
open_was c t l x A q o e = by_makes (makes c x.token A) refl e
  where
    by_makes : (b : Bool) → makes c x.token A ≡ b → (if b then put t.open_of (op_of x.token) A.reached else t.open_of) q
        ≡ Some o → (t.open_of q ≡ Some o) ⊎ (makes c x.token A ≡ true × q ≡ op_of x.token × A.reached ≡ Some o)
    by_makes false m e = inl e
    by_makes true m e =
        elim (q == op_of x.token) as (λ b. q == op_of x.token ≡ b → (t.open_of q ≡ Some o)
        ⊎ (makes c x.token A ≡ true × q ≡ op_of x.token × A.reached ≡ Some o)) [
          | true ↦ λ z. let qe : q ≡ op_of x.token = eqb-true q (op_of x.token) z in inr (m, qe, grind arith)
          | false ↦ λ z. let ne = eqb-false q (op_of x.token) z in inl (grind arith)
        ] refl

-- where an operation acted first, it acted before, or it is the front's
pub first_was : (c : Client) (t : Trace) (l : Log) (x : Sent) (A : Answer) (g n : ℕ) → (new_log c t l x A).first g
    ≡ Some n → (l.first g ≡ Some n) ⊎ (x.token ≡ ForOp g × A.acted ≡ true × n ≡ l.places)
first_was c t l x A g n e = by_acts (is_own x.token && A.acted) refl e
  where
    noted_old : (o : Option ℕ) → first_noted o l.places ≡ Some n → (o ≡ Some n) ⊎ (n ≡ l.places)
    noted_old None e = inr (grind arith)
    noted_old (Some i) e = inl e

    either_way : (l.first (op_of x.token) ≡ Some n) ⊎ (n ≡ l.places) → g ≡ op_of x.token → is_own x.token ≡ true
        → A.acted ≡ true → (l.first g ≡ Some n) ⊎ (x.token ≡ ForOp g × A.acted ≡ true × n ≡ l.places)
    either_way (inl e) z o a = inl (ap l.first z ∙ e)
    either_way (inr e) z o a = inr (own_of x.token o ∙ ap ForOp (sym z), a, e)

    by_acts : (b : Bool) → (is_own x.token && A.acted) ≡ b
        → (if b then put l.first (op_of x.token) (first_noted (l.first (op_of x.token)) l.places) else l.first) g
        ≡ Some n → (l.first g ≡ Some n) ⊎ (x.token ≡ ForOp g × A.acted ≡ true × n ≡ l.places)
    by_acts false m e = inl e
    by_acts true m e =
        elim (g == op_of x.token) as (λ b. g == op_of x.token ≡ b → (l.first g ≡ Some n)
        ⊎ (x.token ≡ ForOp g × A.acted ≡ true × n ≡ l.places)) [
          | true ↦ λ z. let ge : g ≡ op_of x.token = eqb-true g (op_of x.token) z in
              either_way (noted_old (l.first (op_of x.token)) (grind arith)) ge (grind arith) (grind arith)
          | false ↦ λ z. let ne = eqb-false g (op_of x.token) z in inl (grind arith)
        ] refl

-- one that hadn't acted, and of which the front doesn't act, hasn't acted
pub first_none : (c : Client) (t : Trace) (l : Log) (x : Sent) (A : Answer) (g : ℕ) → l.first g ≡ None
    → (x.token ≡ ForOp g → A.acted ≡ true → ⊥) → (new_log c t l x A).first g ≡ None
first_none c t l x A g e f = by_option ((new_log c t l x A).first g) refl
  where
    by_option : (o : Option ℕ) → (new_log c t l x A).first g ≡ o → (new_log c t l x A).first g ≡ None
    by_option None z = z
    by_option (Some n) z = absurd (by_side (first_was c t l x A g n z))
      where
        by_side : (l.first g ≡ Some n) ⊎ (x.token ≡ ForOp g × A.acted ≡ true × n ≡ l.places) → ⊥
        by_side (inl y) = absurd (grind arith)
        by_side (inr y) = f y.0 y.1

pub makes_it : (c : Client) (t : Token) (A : Answer) (g : ℕ) → t ≡ ForOp g → makes_open (c.op g) ≡ true → A.acted ≡ true
    → makes c t A ≡ true
unfolding makes_open
makes_it c t A g tk mk ac = grind arith

-- ---- places before, and the new one

pub first_kept : (c : Client) (t : Trace) (l : Log) (x : Sent) (A : Answer) (g n : ℕ) → l.first g ≡ Some n
    → (new_log c t l x A).first g ≡ Some n
first_kept c t l x A g n e = by_acts (is_own x.token && A.acted) refl
  where
    by_acts : (b : Bool) → (is_own x.token && A.acted) ≡ b
        → (if b then put l.first (op_of x.token) (first_noted (l.first (op_of x.token)) l.places) else l.first) g
        ≡ Some n
    by_acts false m = e
    by_acts true m =
        elim (g == op_of x.token) as (λ b. g == op_of x.token ≡ b → put l.first (op_of x.token)
        (first_noted (l.first (op_of x.token)) l.places) g ≡ Some n) [
          | true ↦ λ z. let ge : g ≡ op_of x.token = eqb-true g (op_of x.token) z in let y : l.first (op_of x.token)
              ≡ Some n = ap l.first (sym ge) ∙ e in
              subst (λ q. put l.first (op_of x.token) (first_noted (l.first (op_of x.token)) l.places) q ≡ Some n)
              (sym ge) (put_here l.first (op_of x.token) _ ∙ ap (λ o. first_noted o l.places) y)
          | false ↦ λ z. let ne = eqb-false g (op_of x.token) z in grind arith
        ] refl
      where
        put_here : (f : ℕ → Option ℕ) (k : ℕ) (v : Option ℕ) → put f k v k ≡ v
        put_here f k v = grind arith

pub first_new : (c : Client) (t : Trace) (l : Log) (x : Sent) (A : Answer) (g : ℕ) → x.token ≡ ForOp g → A.acted ≡ true
    → l.first g ≡ None → (new_log c t l x A).first g ≡ Some l.places
first_new c t l x A g e a n = let z = ap op_of e in let w = own_acts e a in grind arith
  where
    own_acts : x.token ≡ ForOp g → A.acted ≡ true → (is_own x.token && A.acted) ≡ true
    own_acts e a = grind arith

-- the birth of a create that wasn't made now
pub birth_kept : (c : Client) (t : Trace) (l : Log) (x : Sent) (A : Answer) (q : ℕ)
    → (makes c x.token A ≡ true → q ≡ op_of x.token → ⊥) → (new_log c t l x A).birth q ≡ l.birth q
birth_kept c t l x A q f = by_makes (makes c x.token A) refl
  where
    by_makes : (b : Bool) → makes c x.token A ≡ b → (if b then put l.birth (op_of x.token) (l.places + 1) else l.birth) q ≡ l.birth q
    by_makes false m = refl
    by_makes true m =
        elim (q == op_of x.token) as (λ b. q == op_of x.token ≡ b → put l.birth (op_of x.token) (l.places + 1) q ≡ l.birth q) [
          | true ↦ λ z. absurd (f m (eqb-true q (op_of x.token) z))
          | false ↦ λ z. let ne = eqb-false q (op_of x.token) z in grind arith
        ] refl

birth_made : (c : Client) (t : Trace) (l : Log) (x : Sent) (A : Answer) (q : ℕ) → makes c x.token A ≡ true → q
    ≡ op_of x.token → (new_log c t l x A).birth q ≡ l.places + 1
birth_made c t l x A q m e = grind arith

-- an open that stood in the places before was made before
pub made_before : (c : Client) (t : Trace) (l : Log) (x : Sent) (A : Answer) (q n o : ℕ) → n ≤ l.places
    → (new_trace c t l x A).open_of q ≡ Some o → (new_log c t l x A).birth q ≤ n → t.open_of q ≡ Some o × l.birth q ≤ n
made_before c t l x A q n o le e b =
    (by_side (open_was c t l x A q o e), subst (λ m. m ≤ n) (birth_kept c t l x A q (λ m z. now m z)) b)
  where
    now : makes c x.token A ≡ true → q ≡ op_of x.token → ⊥
    now m z = absurd (let y = birth_made c t l x A q m z in omega (arith, y, b, le))

    by_side : (t.open_of q ≡ Some o) ⊎ (makes c x.token A ≡ true × q ≡ op_of x.token × A.reached ≡ Some o) → t.open_of q ≡ Some o
    by_side (inl y) = y
    by_side (inr y) = absurd (now y.0 y.1)

pub bytes_old : (c : Client) (t : Trace) (l : Log) (x : Sent) (A : Answer) (q n : ℕ) → n ≤ l.places
    → (new_log c t l x A).bytes q n ≡ l.bytes q n
bytes_old c t l x A q n le = put_below (l.bytes q) (l.places + 1) _ n (omega (arith, le))
  where
    put_below : (f : ℕ → List ℕ) (k : ℕ) (v : List ℕ) (i : ℕ) → i < k → put f k v i ≡ f i
    put_below f k v i l = let d : i ≢ k = omega arith in grind arith

pub bytes_new : (c : Client) (t : Trace) (l : Log) (x : Sent) (A : Answer) (q : ℕ) → (new_log c t l x A).bytes q
    (l.places + 1) ≡ bytes_behind A.server ((new_trace c t l x A).open_of q) (l.bytes q l.places)
bytes_new c t l x A q = put_here (l.bytes q) (l.places + 1) _
  where
    put_here : (f : ℕ → List ℕ) (k : ℕ) (v : List ℕ) → put f k v k ≡ v
    put_here f k v = grind arith

pub behind_standing : (u : Server) (x : Option ℕ) (o : ℕ) (b : List ℕ) → x ≡ Some o → u.standing o ≡ true
    → bytes_behind u x b ≡ u.content (u.opened o).file
behind_standing u x o b e st = grind arith

pub behind_left : (u : Server) (x : Option ℕ) (o : ℕ) (b : List ℕ) → x ≡ Some o → u.standing o ≡ false → bytes_behind u x b ≡ b
behind_left u x o b e st = grind arith
