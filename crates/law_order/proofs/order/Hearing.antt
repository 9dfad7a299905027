-- A reply to an operation is taken, or to the DH2C in its place: it settles the operation, or leaves it to go out again, or
-- attaches its open, or ends the session.
use Rattle.std.proofs.lemmas.Bool.Decides.{nat_tests}
use Rattle.std.proofs.Common.{eqb-true, ◌⊎◌, inl, inr, ◌≡◌, ◌≢◌, ℕ, ◌≤◌, ◌<◌, ◌==◌, nat_lt, Bool, true, false, not}
use Rattle.std.proofs.Common.{◌&&◌, ◌||◌, if◌then◌else◌, [], refl, arith, sym, subst, ◌∙◌, ap, Option, Some, None}
use Rattle.std.proofs.Common.{slice_get}
use Rattle.spec_exchange.specs.Table.{put}
use Rattle.spec_exchange.specs.Status.{success, file_not_available, file_closed, user_session_deleted, end_of_file, disk_full}
use Rattle.spec_exchange.specs.Content.{ContentReply, is_listed, is_change}
use Rattle.spec_exchange.specs.State.{Server, Reply, Body}
use Rattle.spec_exchange.specs.Operations.{Op, OpCreate, OpWrite, OpRead, OpEnd, OpTime, OpRename, OpRemove, OpLock}
use Rattle.spec_exchange.specs.Operations.{OpUnlock, OpFlush, OpStat, OpList, OpClose, Outcome, Unsettled, WasOk}
use Rattle.spec_exchange.specs.Operations.{WasRefused, NoSlot, NoOpen, Unknown, OpReply, is_unsettled, is_firm, is_ok}
use Rattle.spec_exchange.specs.Operations.{is_create, is_close, is_lock, is_change as changes, value_in, id_in}
use Rattle.spec_exchange.specs.Client.{Client, create_for, is_gone_after}
use Rattle.spec_exchange.specs.Settling.{Heard, Settles, GoesAgain, Attaches, EndsSession, heard, hear, is_awaited}
use Rattle.spec_exchange.specs.Settling.{settle, settled, noted, noted_full, settles_open, with_no_opens, give_up_on}
use Rattle.spec_exchange.specs.Settling.{without_open, ok_or_unknown, refused, was_closed, may_have_acted, refuses_all}
use Rattle.spec_exchange.specs.Settling.{goes_again, answered}
use Rattle.spec_exchange.specs.ClientStep.{Nothing, act_heard}
use Rattle.spec_exchange.specs.Order.{Log, Says_ok, Says_end, Says_other, Settled_ok, Settled_end}
use Rattle.spec_exchange.specs.Runs.{settlement, content_of}
use Rattle.spec_exchange.specs.Network.{World, Conn, Sent, Received, ForOp, op_of, Trace, said, content_reply, op_took}
use Rattle.spec_exchange.specs.Network.{closed_by, with_client}
use Rattle.law_sessions.specs.messages.Connections.{Connections, create_at, makes_open, its_create, copies, count_up, count_down, Bodies}
use Rattle.law_sessions.proofs.messages.Lists.{own_up_count, attach_down_count}
use Rattle.law_server.proofs.tables.Logic.{either, front_of}
use Rattle.law_sessions.proofs.messages.Settle.{settle_keeps as settle_connections}
use Rattle.law_sessions.proofs.messages.Run.{own_create, Noted, noted_keeps as noted_connections, full_keeps as full_connections}
use Rattle.law_sessions.proofs.messages.Run.{both_ways, own_for, makes_one, ok_is_settled, awaited_of, heard_again}
use Rattle.law_sessions.proofs.messages.Run.{heard_attaches, heard_ends, heard_firm, without_same, some_of}
use Rattle.law_sessions.specs.sessions.Sessions.{is_ops}
use Rattle.law_order.specs.order.Newest.{Pair}
use Rattle.law_order.specs.order.Contents.{Contents, lists, edits, formed, file_at, last_id, is_final, TokenUp}
use Rattle.law_order.proofs.order.Front.{ContentsHold}
use Rattle.law_order.proofs.order.Words.{ops_of, attach_of, edits_other, sent_of}
use Rattle.law_order.proofs.order.OnAnswered.{answered_keeps}
use Rattle.law_order.proofs.order.OnJoined.{joined_keeps}
use Rattle.law_order.proofs.order.OnLeave.{leave_keeps}
use Rattle.law_order.proofs.order.OnOpens.{opens_keeps}
use Rattle.law_order.proofs.order.OnShuts.{shuts_keeps}
use Rattle.law_order.proofs.order.OnFills.{fills_keeps}
use Rattle.law_order.proofs.order.OnSettle.{settle_keeps}
use Rattle.law_order.proofs.order.OnOutcomes.{outcomes_keeps}

-- ---- what hearing a reply comes to

abbrev line : Bool → Bool → Bool → Bool → Heard → Heard → Heard
line b1 b2 b3 asking x y = if b1 then EndsSession else if b2 then (if asking then Attaches else x) else if b3 then GoesAgain else y

line_settles : (b1 b2 b3 asking : Bool) (x y : Heard) (o : Outcome) → line b1 b2 b3 asking x y ≡ Settles o → b1 ≡ false
    × (asking ≡ true → b2 ≡ false) × (b2 ≡ false → b3 ≡ false)
line_settles b1 b2 b3 asking x y o e = (grind arith, grind arith, grind arith)

settles_by : (c : Client) (g : ℕ) (asking : Bool) (r : Reply) (o : Outcome) → heard c g asking r ≡ Settles o
    → (r.status == user_session_deleted) ≡ false × (asking ≡ true → (r.status == success) ≡ false)
    × ((r.status == success) ≡ false → goes_again c g asking r.status ≡ false)
settles_by c g asking r o e = line_settles (r.status == user_session_deleted) (r.status == success)
    (goes_again c g asking r.status) asking (ok_or_unknown (value_in (c.op g) r.body))
    (refused (c.op g) asking (c.unanswered g) r.status) o e

-- what settles as Ok or Refused, line by line
ok_line : (b1 b2 b3 asking : Bool) (x y : Heard) (o : Outcome) → line b1 b2 b3 asking x y ≡ Settles o
    → (b2 ≡ true × asking ≡ false × x ≡ Settles o) ⊎ (y ≡ Settles o)
ok_line true b2 b3 asking x y o e = absurd (cc)
ok_line false true b3 true x y o e = absurd (cc)
ok_line false true b3 false x y o e = inl (refl, refl, e)
ok_line false false true asking x y o e = absurd (cc)
ok_line false false false asking x y o e = inr e

abbrev Plain : Op → ℕ → Heard → Type 0
Plain op status h = (o : Outcome) → h ≡ Settles o → (is_ok o ≡ true → is_close op ≡ true) × ((n : ℕ) → o ≡ WasRefused n → n ≡ status)

ok_outcome : (x y : Outcome) → Settles x ≡ Settles y → x ≡ y
ok_outcome x y e = cc

same_refused : (n m : ℕ) → WasRefused n ≡ WasRefused m → n ≡ m
same_refused n m e = cc

plain_refused : (op : Op) (status n : ℕ) → Plain op status (Settles (WasRefused n)) → Plain op status (Settles (WasRefused n))
plain_refused op status n f = f

as_refused : (op : Op) (status : ℕ) → Plain op status (Settles (WasRefused status))
as_refused op status o e = let z = ok_outcome (WasRefused status) o e in
    (λ k. absurd (let y = subst (λ o. is_ok o ≡ true) (sym z) k in cc), λ n w. same_refused n status (sym w ∙ sym z))

as_unknown : (op : Op) (status : ℕ) (u : Outcome) → is_ok u ≡ false → is_firm u ≡ false → Plain op status (Settles u)
as_unknown op status u a b o e = let z = ok_outcome u o e in (
  λ k. absurd (let y = subst (λ o. is_ok o ≡ true) (sym z) k in grind arith),
  λ n w.
      absurd (let y = z ∙ w in grind arith),
)

as_done : (op : Op) (status : ℕ) (v : OpReply) → is_close op ≡ true → Plain op status (Settles (WasOk v))
as_done op status v cl o e = let z = ok_outcome (WasOk v) o e in (λ k. cl, λ n w. absurd (let y = z ∙ w in cc))

plain : (op : Op) (asking unanswered : Bool) (status : ℕ) → Plain op status (refused op asking unanswered status)
plain op asking unanswered status =
    either (Plain op status) (not unanswered) _ _ (λ _. as_refused op status)
    (λ _. either (Plain op status) (was_closed op asking status) _ _
    (λ e. as_done op status _ (front_of (is_close op) _ e))
    (λ _. either (Plain op status) (may_have_acted op asking status) _ _ (λ _. as_unknown op status _ refl refl)
    (λ _. either (Plain op status) (refuses_all op status) _ _ (λ _. as_refused op status)
    (λ _. as_unknown op status _ refl refl))))

ok_value : (v : Option OpReply) (o : Outcome) → ok_or_unknown v ≡ Settles o
    → (is_ok o ≡ true → (r : OpReply) × (v ≡ Some r × o ≡ WasOk r)) × ((n : ℕ) → o ≡ WasRefused n → ⊥)
ok_value None o e = let z = ok_outcome _ o e in (
  λ k. absurd (let y = subst (λ o. is_ok o ≡ true) (sym z) k in cc),
  λ n w. absurd (let y = z ∙ w in cc),
)
ok_value (Some r) o e = let z = ok_outcome _ o e in (λ k. (r, (refl, sym z)), λ n w. absurd (let y = z ∙ w in cc))

-- it settles as Ok by a success of its own copy, but for a close that an unanswered copy did
ok_by : (c : Client) (g : ℕ) (asking : Bool) (r : Reply) (o : Outcome) → heard c g asking r ≡ Settles o → is_ok o ≡ true
    → is_close (c.op g) ≡ false
    → r.status ≡ success × asking ≡ false × (v : OpReply) × (value_in (c.op g) r.body ≡ Some v × o ≡ WasOk v)
ok_by c g asking r o e k n = by_line (ok_line (r.status == user_session_deleted) (r.status == success)
    (goes_again c g asking r.status) asking (ok_or_unknown (value_in (c.op g) r.body))
    (refused (c.op g) asking (c.unanswered g) r.status) o e)
  where
    by_line : ((r.status == success) ≡ true × asking ≡ false × ok_or_unknown (value_in (c.op g) r.body) ≡ Settles o)
        ⊎ (refused (c.op g) asking (c.unanswered g) r.status ≡ Settles o) → r.status ≡ success × asking ≡ false
        × (v : OpReply) × (value_in (c.op g) r.body ≡ Some v × o ≡ WasOk v)
    by_line (inl z) = let q = (ok_value (value_in (c.op g) r.body) o z.2).0 k in (eqb-true r.status success z.0, z.1, q.0, q.1)
    by_line (inr z) = absurd (let y = (plain (c.op g) asking (c.unanswered g) r.status o z).0 k in grind arith)

refused_by : (c : Client) (g : ℕ) (asking : Bool) (r : Reply) (n : ℕ) → heard c g asking r ≡ Settles (WasRefused n) → n ≡ r.status
refused_by c g asking r n e = by_line (ok_line (r.status == user_session_deleted) (r.status == success)
    (goes_again c g asking r.status) asking (ok_or_unknown (value_in (c.op g) r.body))
    (refused (c.op g) asking (c.unanswered g) r.status) (WasRefused n) e)
  where
    by_line : ((r.status == success) ≡ true × asking ≡ false × ok_or_unknown (value_in (c.op g) r.body)
        ≡ Settles (WasRefused n)) ⊎ (refused (c.op g) asking (c.unanswered g) r.status ≡ Settles (WasRefused n)) → n
        ≡ r.status
    by_line (inl z) = absurd ((ok_value (value_in (c.op g) r.body) (WasRefused n) z.2).1 n refl)
    by_line (inr z) = (plain (c.op g) asking (c.unanswered g) r.status (WasRefused n) z).1 n refl

-- ---- what a success says of the bytes

count_reply : (body : Body) (v : OpReply) → value_in (OpWrite 0 0 []) body ≡ Some v → content_reply body ≡ content_of v
count_reply body v e = grind arith

content_said : (body : Body) (v : OpReply) → value_in (OpRead 0 0 0) body ≡ Some v → content_reply body ≡ content_of v
content_said body v e = grind arith

nothing_said : (body : Body) (v : OpReply) → value_in (OpEnd 0 0) body ≡ Some v → content_reply body ≡ content_of v
nothing_said body v e = grind arith

value_said : (op : Op) (body : Body) (v : OpReply) → lists op ≡ true → value_in op body ≡ Some v → content_reply body ≡ content_of v
unfolding lists is_listed
value_said (OpWrite create at bytes) body v ls e = count_reply body v e
value_said (OpRead create at size) body v ls e = content_said body v e
value_said (OpEnd create size) body v ls e = nothing_said body v e
value_said (OpCreate path access share disposition persist directory) body v ls e = absurd (cc)
value_said (OpTime create time) body v ls e = absurd (cc)
value_said (OpRename create path) body v ls e = absurd (cc)
value_said (OpRemove create) body v ls e = absurd (cc)
value_said (OpLock create at length exclusive) body v ls e = absurd (cc)
value_said (OpUnlock create at length) body v ls e = absurd (cc)
value_said (OpFlush create) body v ls e = absurd (cc)
value_said (OpStat create) body v ls e = absurd (cc)
value_said (OpList create) body v ls e = absurd (cc)
value_said (OpClose create) body v ls e = absurd (cc)

-- ---- what is known of a reply that is taken, its connection being behind it

pub record ReplyTaken (c : Client) (conns : ℕ → Conn) (s : Server) (t : Trace) (l : Log) (k g : ℕ) (asking : Bool)
    (r : Reply) (place : ℕ) : Type 0 where
  pub outstanding_on : c.outstanding_on g ≡ Some k
  pub asks : c.asks_attach g ≡ asking
  pub none : copies g (conns k) ≡ 0
  pub above : 0 < g
  pub stands : (conns k).client_open ≡ true
  pub within : place < l.places
  pub who : l.who place ≡ g
  pub since : l.since g ≤ place
  pub own : asking ≡ false → l.gave place ≡ said (ForOp g) r
  pub present : (j n : ℕ) (x : Sent) → slice_get (conns j).up n ≡ Some x → is_ops x.token ≡ true
      → s.present x.message.session_id ≡ true → x.message.session_id ≡ c.session
  pub not_done : asking ≡ false → edits (c.op g) ≡ true → (r.status == success) ≡ false → c.unanswered g ≡ false → l.first g ≡ None
  pub create_reply : asking ≡ false → makes_open (c.op g) ≡ true → r.status ≡ success
      → Pair s c.session 0 (id_in r.body) × id_in r.body ≤ last_id s × t.open_of g ≡ Some (id_in r.body)
  pub reached : asking ≡ false → edits (c.op g) ≡ true → formed (c.op g) ≡ true → is_final r.status ≡ true
      → Pair s c.session (c.sequence_of g) (file_at c g) × file_at c g ≤ last_id s
  pub closed : asking ≡ false → edits (c.op g) ≡ true → r.status ≡ file_closed → s.standing (file_at c g) ≡ false × file_at c g ≤ last_id s
  pub stale : asking ≡ false → edits (c.op g) ≡ true → r.status ≡ file_not_available → c.sequence_of g < c.sequence
  pub attach_reply : asking ≡ true → r.status ≡ success → Pair s c.session 0 (file_at c g) × file_at c g ≤ last_id s
  pub attach_refused : asking ≡ true → edits (c.op g) ≡ true → (r.status == success) ≡ false
      → (r.status == user_session_deleted) ≡ false → s.standing (file_at c g) ≡ false × file_at c g ≤ last_id s
  pub attach_status : asking ≡ true → (r.status == end_of_file) ≡ false

-- ---- the copies that still wait of what settles can't act

changes_edit : (op : Op) → edits op ≡ true → changes op ≡ true
unfolding edits is_change
changes_edit op e = grind arith

final_of : (status : ℕ) → (status == user_session_deleted) ≡ false → (status == file_closed) ≡ false
    → (status == file_not_available) ≡ false → is_final status ≡ true
final_of status a b d = grind arith

again_of : (op : Op) (a : Bool) (status : ℕ) (n m : ℕ) → a ≡ false → changes op ≡ true → (status == file_not_available)
    ≡ true → n < m → (not a && (changes op && ((status == file_not_available) && nat_lt n m))) ≡ true
again_of op a status n m e f h l = let z = less n m l in grind arith
  where
    less : (n m : ℕ) → n < m → nat_lt n m ≡ true
    less n m l = grind (arith, nat_tests)

by_status : (b : Bool) (P : Type 0) → (b ≡ true → P) → (b ≡ false → P) → P
by_status true P f h = f refl
by_status false P f h = h refl

clash : (b : Bool) → b ≡ true → b ≡ false → ⊥
clash b e f = absurd (grind arith)

other_conn : (f : ℕ → Conn) (j k : ℕ) → (f j).client_open ≡ false → (f k).client_open ≡ true → j ≢ k
other_conn f j k e o = grind arith

dead : (c : Client) (conns : ℕ → Conn) (s : Server) (t : Trace) (l : Log) (a : ℕ → ℕ) (k g : ℕ) (asking : Bool)
    (r : Reply) (place : ℕ) (o : Outcome) → Connections c conns a → Contents c conns s t l a → ReplyTaken c conns s t l
    k g asking r place
    → heard c g asking r ≡ Settles o → (j n : ℕ) (x : Sent) → slice_get (conns j).up n ≡ Some x → x.token ≡ ForOp g
    → edits (c.op g) ≡ true → formed (c.op g) ≡ true → s.standing (file_at c g) ≡ true
    → s.present x.message.session_id ≡ true
    → s.sequence (file_at c g) ≤ x.message.channel_sequence → ⊥
dead c conns s t l a k g asking r place o cn i d he j n x h e ed fm sd pr le = by_asking asking refl
  where
    st : (r.status == user_session_deleted) ≡ false × (asking ≡ true → (r.status == success) ≡ false)
        × ((r.status == success) ≡ false → goes_again c g asking r.status ≡ false)
    st = settles_by c g asking r o he

    shut : (conns j).client_open ≡ false
    shut = by_open (conns j).client_open refl
      where
        by_open : (b : Bool) → (conns j).client_open ≡ b → (conns j).client_open ≡ false
        by_open false e2 = e2
        by_open true e2 =
            let up1 = own_up_count g (conns j).up n x h e in let one : 1 ≤ copies g (conns j) = omega (arith, up1) in
            let at = cn.outstanding j g e2 one d.above in let z = d.none in
            absurd (same_conn at z one)
          where
            same_conn : c.outstanding_on g ≡ Some j → copies g (conns k) ≡ 0 → 1 ≤ copies g (conns j) → ⊥
            same_conn at z one = let q = d.outstanding_on in
                absurd (let jk : j ≡ k = grind arith in let one2 = subst (λ q. 1 ≤ copies g (conns q)) jk one in
                omega (arith, one2, z))

    here : x.message.session_id ≡ c.session
    here = d.present j n x h (ops_of x.token g e) pr

    older : c.asks_attach g ≡ false → x.message.channel_sequence < c.sequence_of g
    older own = i.older j n k g x h e ed own d.outstanding_on (other_conn conns j k shut d.stands) here

    by_asking : (b : Bool) → asking ≡ b → ⊥
    by_asking true q = clash (s.standing (file_at c g)) sd (d.attach_refused q ed (st.1 q) st.0).0
    by_asking false q =
        by_status (r.status == file_closed) ⊥ (λ y. clash (s.standing (file_at c g)) sd (d.closed q ed (eqb-true r.status file_closed y)).0)
        (λ nc. by_status (r.status == file_not_available) ⊥
        (λ y. clash (goes_again c g asking r.status) (again_of (c.op g) asking r.status (c.sequence_of g) c.sequence q
        (changes_edit (c.op g) ed) y (d.stale q ed (eqb-true r.status file_not_available y)))
        (st.2 (stale_other r.status y)))
        (λ nf. let p = d.reached q ed fm (final_of r.status st.0 nc nf) in
        let z = (p.0 sd (subst (λ y. s.present y ≡ true) here pr)).1 in let w = older (d.asks ∙ q) in
        absurd (omega (arith, z, w, le))))
      where
        stale_other : (status : ℕ) → (status == file_not_available) ≡ true → (status == success) ≡ false
        stale_other status e = subst (λ q. (q == success) ≡ false) (sym (eqb-true status file_not_available e)) refl

-- ---- what the client notes of the reply that settles

pub record NotesReply (c d : Client) (conns : ℕ → Conn) (s : Server) (t : Trace) (l : Log) (a : ℕ → ℕ) (g : ℕ) (o : Outcome) : Type 0 where
  pub holds : Contents d conns s t l a
  pub op : d.op ≡ c.op
  pub outcome : d.outcome ≡ c.outcome
  pub file : edits (c.op g) ≡ true → d.file ≡ c.file
  pub made : makes_open (c.op g) ≡ true → is_ok o ≡ true → t.open_of g ≡ Some (d.file g)

create_makes : (op : Op) → is_create op ≡ true → makes_open op ≡ true
unfolding makes_open
create_makes op e = e

other_makes : (op : Op) → is_create op ≡ false → makes_open op ≡ true → ⊥
unfolding makes_open
other_makes op e f = clash (is_create op) f e

create_edits : (op : Op) → is_create op ≡ true → edits op ≡ true → ⊥
unfolding edits is_change
create_edits op e f = absurd (grind arith)

create_closes : (op : Op) → is_create op ≡ true → is_close op ≡ false
create_closes op e = grind arith

put_here : (f : ℕ → ℕ) (g v : ℕ) → put f g v g ≡ v
put_here f g v = grind arith

not_own : (c : Client) (conns : ℕ → Conn) (a : ℕ → ℕ) (g p : ℕ) → Connections c conns a → is_unsettled (c.outcome g)
    ≡ true → c.sent p ≡ true → edits (c.op p) ≡ true → create_at c p ≢ g
not_own c conns a g p cn u sp ed e =
    clash (is_unsettled (c.outcome g)) u (subst (λ q. is_unsettled (c.outcome q) ≡ false) e
    (ok_is_settled (c.outcome (create_at c p)) (makes_one (c.op p) (c.outcome (create_at c p)) (cn.has_open p sp)
    (edits_other (c.op p) ed))))

-- an operation whose create is this one waits for no DH2C
not_asked : (c : Client) (conns : ℕ → Conn) (a : ℕ → ℕ) (g p : ℕ) → is_unsettled (c.outcome g) ≡ true → c.asks_attach g
    ≡ false → (makes_open (c.op p) || is_ok (c.outcome (create_at c p))) ≡ true → c.asks_attach p ≡ true
    → create_at c p ≢ g
not_asked c conns a g p u own_g op ap2 e = by_test (makes_open (c.op p)) refl
  where
    own : makes_open (c.op p) ≡ true → create_at c p ≡ p
    own mk = own_create p (c.op p) mk

    by_test : (b : Bool) → makes_open (c.op p) ≡ b → ⊥
    by_test true mk = clash (c.asks_attach g) (subst (λ q. c.asks_attach q ≡ true) (sym (own mk) ∙ e) ap2) own_g
    by_test false mk = clash (is_unsettled (c.outcome g)) u (subst (λ q. is_unsettled (c.outcome q) ≡ false) e
        (ok_is_settled (c.outcome (create_at c p)) (makes_one (c.op p) (c.outcome (create_at c p)) op mk)))

not_asked_up : (c : Client) (conns : ℕ → Conn) (a : ℕ → ℕ) (g p : ℕ) → is_unsettled (c.outcome g) ≡ true
    → (makes_open (c.op p) || is_ok (c.outcome (create_at c p))) ≡ true → makes_open (c.op p) ≡ false
    → create_at c p ≢ g
not_asked_up c conns a g p u op mk e = clash (is_unsettled (c.outcome g)) u
    (subst (λ q. is_unsettled (c.outcome q) ≡ false) e (ok_is_settled (c.outcome (create_at c p))
    (makes_one (c.op p) (c.outcome (create_at c p)) op mk)))

none_in : (n : ℕ) (y : Received) → slice_get [] n ≡ Some y → ⊥
none_in n y h = absurd (cc)

open_down : (c : Client) (conns : ℕ → Conn) (a : ℕ → ℕ) → Connections c conns a → (j n : ℕ) (y : Received)
    → slice_get (conns j).down n ≡ Some y → (conns j).client_open ≡ true
open_down c conns a cn j n y h = by_test (conns j).client_open refl
  where
    by_test : (b : Bool) → (conns j).client_open ≡ b → (conns j).client_open ≡ true
    by_test true e = e
    by_test false e = absurd (none_in n y (subst (λ ys. slice_get ys n ≡ Some y) (cn.down_open j e) h))

opened_create : (c : Client) (conns : ℕ → Conn) (s : Server) (t : Trace) (l : Log) (a : ℕ → ℕ) (k g : ℕ) (asking : Bool)
    (r : Reply) (place : ℕ) → Connections c conns a → Contents c conns s t l a → ReplyTaken c conns s t l k g asking r
    place
    → is_unsettled (c.outcome g) ≡ true → asking ≡ false
    → (Pair s c.session 0 (id_in r.body) × id_in r.body ≤ last_id s) → Contents (record c {
      file = put c.file g (id_in r.body);
      attached = put c.attached g c.session_number;
    }) conns s t l a
opened_create c conns s t l a k g asking r place cn i d u own_g pair =
    opens_keeps c conns s t l a g (id_in r.body) u pair
    (λ j n p x h e. not_asked_up c conns a g p u (subst (λ q. (makes_open (c.op q) || is_ok (c.outcome (create_at c q)))
    ≡ true) (ap op_of e) (i.opens_up j n x h (attach_of x.token p e))) (i.asked_as j n p x h e).0)
    (λ j n p x h e ed. not_own c conns a g p cn u (cn.bodies j n p x h e).0 ed)
    (λ j n p y h e ed. not_own c conns a g p cn u (cn.sent_replies j n p y h e) ed)
    (λ j n p y h e. let o = open_down c conns a cn j n y h in let one = attach_down_count p (conns j).down n y h e in
    let at = cn.outstanding j p o (more j p one) (subst (λ q. 0 < q) (ap op_of e) (i.token_down j n y h (attach_of y.token p e)).0) in
    not_asked c conns a g p u (d.asks ∙ own_g) (cn.asked_open p (some_of (c.outstanding_on p) j at)) (cn.attach_down j n p y h o e))
    (λ p ed f. not_own c conns a g p cn u (sent_of (c.sent p) (l.first p) (λ z. (i.fresh_first p z).0) f) ed)
    i
  where
    more : (j p : ℕ) → 1 ≤ count_down p (conns j).down → 1 ≤ copies p (conns j)
    more j p one = omega (arith, one)

same_noted : (c : Client) (conns : ℕ → Conn) (s : Server) (t : Trace) (l : Log) (a : ℕ → ℕ) (g : ℕ) (o : Outcome)
    → is_ok o ≡ false → Contents c conns s t l a → NotesReply c c conns s t l a g o
same_noted c conns s t l a g o n i = record {
  holds = i;
  op = refl;
  outcome = refl;
  file = λ _. refl;
  made = λ mk ok. absurd (clash (is_ok o) ok n);
}

notes : (c : Client) (conns : ℕ → Conn) (s : Server) (t : Trace) (l : Log) (a : ℕ → ℕ) (k g : ℕ) (asking : Bool)
    (r : Reply) (place : ℕ) → Connections c conns a → Contents c conns s t l a → ReplyTaken c conns s t l k g asking r
    place
    → is_unsettled (c.outcome g) ≡ true → (o : Outcome) → heard c g asking r ≡ Settles o
    → NotesReply c (noted c g o r.body) conns s t l a g o
notes c conns s t l a k g asking r place cn i d u (WasOk v) he =
    let P : Client → Type 0 = λ e. NotesReply c e conns s t l a g (WasOk v) in
    either P (is_create (c.op g)) _ _
    (λ cr. let b = ok_by c g asking r (WasOk v) he refl (create_closes (c.op g) cr) in let q = d.create_reply b.1
    (create_makes (c.op g) cr) b.0 in
    record {
      holds = opened_create c conns s t l a k g asking r place cn i d u b.1 (q.0, q.1);
      op = refl;
      outcome = refl;
      file = λ ed. absurd (create_edits (c.op g) cr ed);
      made = λ mk ok. q.2 ∙ ap Some (sym (put_here c.file g (id_in r.body)));
    })
    (λ cr. either P (is_close (c.op g)) _ _
    (λ _. record {
      holds = shuts_keeps c conns s t l a (create_for c g) i;
      op = refl;
      outcome = refl;
      file = λ _. refl;
      made = λ mk ok. absurd (other_makes (c.op g) cr mk);
    })
    (λ _. record { holds = i; op = refl; outcome = refl; file = λ _. refl; made = λ mk ok. absurd (other_makes (c.op g) cr mk) }))
notes c conns s t l a k g asking r place cn i d u Unsettled he = same_noted c conns s t l a g Unsettled refl i
notes c conns s t l a k g asking r place cn i d u (WasRefused status) he = same_noted c conns s t l a g (WasRefused status) refl i
notes c conns s t l a k g asking r place cn i d u (NoSlot create) he = same_noted c conns s t l a g (NoSlot create) refl i
notes c conns s t l a k g asking r place cn i d u (NoOpen create) he = same_noted c conns s t l a g (NoOpen create) refl i
notes c conns s t l a k g asking r place cn i d u (Unknown why) he = same_noted c conns s t l a g (Unknown why) refl i

notes_full : (c d : Client) (conns : ℕ → Conn) (s : Server) (t : Trace) (l : Log) (a : ℕ → ℕ) (g : ℕ) (o : Outcome)
    (asking : Bool) (status : ℕ) → NotesReply c d conns s t l a g o → NotesReply c (noted_full d g asking status) conns
    s t l a g o
notes_full c d conns s t l a g o asking status m =
    either (λ e. NotesReply c e conns s t l a g o) (is_lock (d.op g) && (not asking && (status == disk_full))) _ _
    (λ _. record {
      holds = fills_keeps d conns s t l a (create_for d g) (d.slot_of g) m.holds;
      op = m.op;
      outcome = m.outcome;
      file = m.file;
      made = m.made;
    }) (λ _. m)

-- ---- what the reply said, by how the operation settles

settled_ok : (op : Op) (o : Outcome) (v : ContentReply) → settlement op o ≡ Settled_ok v → (r : OpReply) × (o ≡ WasOk r × v ≡ content_of r)
settled_ok op (WasOk reply) v e = (reply, (refl, same_ok (content_of reply) v e))
  where
    same_ok : (x y : ContentReply) → Settled_ok x ≡ Settled_ok y → y ≡ x
    same_ok x y e = cc
settled_ok op Unsettled v e = absurd (cc)
settled_ok op (WasRefused status) v e = absurd (grind arith)
settled_ok op (NoSlot n) v e = absurd (cc)
settled_ok op (NoOpen n) v e = absurd (cc)
settled_ok op (Unknown why) v e = absurd (cc)

settled_end : (op : Op) (o : Outcome) → settlement op o ≡ Settled_end → (n : ℕ) × (o ≡ WasRefused n × (n == end_of_file) ≡ true)
settled_end op (WasRefused status) e = (status, (refl, grind arith))
settled_end op Unsettled e = absurd (cc)
settled_end op (WasOk reply) e = absurd (cc)
settled_end op (NoSlot n) e = absurd (cc)
settled_end op (NoOpen n) e = absurd (cc)
settled_end op (Unknown why) e = absurd (cc)

close_lists : (op : Op) → lists op ≡ true → is_close op ≡ false
unfolding lists is_listed
close_lists op e = grind arith

said_ok : (g : ℕ) (r : Reply) → r.status ≡ success → said (ForOp g) r ≡ Says_ok (content_reply r.body)
said_ok g r e = by_tests (r.status == success) (same_status r.status success e)
  where
    same_status : (n m : ℕ) → n ≡ m → (n == m) ≡ true
    same_status n m e = grind arith

    by_tests : (b : Bool) → b ≡ true → (if b then Says_ok (content_reply r.body) else if r.status == end_of_file then
        Says_end else Says_other) ≡ Says_ok (content_reply r.body)
    by_tests true e = refl
    by_tests false e = absurd (cc)

said_end : (g : ℕ) (r : Reply) → (r.status == end_of_file) ≡ true → said (ForOp g) r ≡ Says_end
said_end g r e = by_tests (r.status == success) (r.status == end_of_file)
    (subst (λ q. (q == success) ≡ false) (sym (eqb-true r.status end_of_file e)) refl) e
  where
    by_tests : (b e : Bool) → b ≡ false → e ≡ true → (if b then Says_ok (content_reply r.body) else if e then Says_end
        else Says_other) ≡ Says_end
    by_tests true e f g = absurd (cc)
    by_tests false true f g = refl
    by_tests false false f g = absurd (cc)

same_value : (x y : OpReply) → WasOk x ≡ WasOk y → x ≡ y
same_value x y e = cc

says_ok : (c : Client) (conns : ℕ → Conn) (s : Server) (t : Trace) (l : Log) (k g : ℕ) (asking : Bool) (r : Reply)
    (place : ℕ) (o : Outcome) → ReplyTaken c conns s t l k g asking r place → heard c g asking r ≡ Settles o
    → (v : ContentReply) → lists (c.op g) ≡ true → settlement (c.op g) o ≡ Settled_ok v → l.gave place ≡ Says_ok v
says_ok c conns s t l k g asking r place o d he v ls e =
    let z = settled_ok (c.op g) o v e in let b = ok_by c g asking r o he (subst (λ o. is_ok o ≡ true) (sym z.1.0) refl)
    (close_lists (c.op g) ls) in let q = b.2 in
    d.own b.1 ∙ (said_ok g r b.0 ∙ ap Says_ok (value_said (c.op g) r.body b.2 ls b.3.0
    ∙ (ap content_of (sym (same_value z.0 b.2 (sym z.1.0 ∙ b.3.1))) ∙ sym z.1.1)))

says_end : (c : Client) (conns : ℕ → Conn) (s : Server) (t : Trace) (l : Log) (k g : ℕ) (asking : Bool) (r : Reply)
    (place : ℕ) (o : Outcome) → ReplyTaken c conns s t l k g asking r place → heard c g asking r ≡ Settles o
    → settlement (c.op g) o ≡ Settled_end → l.gave place ≡ Says_end
says_end c conns s t l k g asking r place o d he e =
    let z = settled_end (c.op g) o e in let st = refused_by c g asking r z.0 (he ∙ ap Settles z.1.0) in
    let at : (r.status == end_of_file) ≡ true = subst (λ n. (n == end_of_file) ≡ true) st z.1.1 in
    by_asking asking refl at
  where
    by_asking : (b : Bool) → asking ≡ b → (r.status == end_of_file) ≡ true → l.gave place ≡ Says_end
    by_asking true q at = absurd (clash (r.status == end_of_file) at (d.attach_status q))
    by_asking false q at = d.own q ∙ said_end g r at

-- ---- where it settles its open, what never went out settles with it

unsent_new : (names sent gone : Bool) (create : ℕ) (o : Outcome) → is_unsettled o ≡ true
    → is_unsettled (without_open names sent gone create o) ≡ false
    → sent ≡ false × is_firm (without_open names sent gone create o) ≡ false × is_ok (without_open names sent gone create o) ≡ false
unsent_new names true gone create Unsettled e f = absurd (grind arith)
unsent_new names false gone create Unsettled e f = (refl, grind arith, grind arith)
unsent_new names sent gone create (WasOk reply) e f = absurd (cc)
unsent_new names sent gone create (WasRefused status) e f = absurd (cc)
unsent_new names sent gone create (NoSlot n) e f = absurd (cc)
unsent_new names sent gone create (NoOpen n) e f = absurd (cc)
unsent_new names sent gone create (Unknown why) e f = absurd (cc)

back_new : (names sent gone : Bool) (create : ℕ) (o : Outcome) → is_unsettled (without_open names sent gone create o)
    ≡ true → is_unsettled o ≡ true
back_new names sent gone create Unsettled e = refl
back_new names sent gone create (WasOk reply) e = e
back_new names sent gone create (WasRefused status) e = e
back_new names sent gone create (NoSlot n) e = e
back_new names sent gone create (NoOpen n) e = e
back_new names sent gone create (Unknown why) e = e

firm_new : (names sent gone : Bool) (create : ℕ) (o : Outcome) → (is_firm (without_open names sent gone create o) ≡ true
    → is_firm o ≡ true) × (is_ok (without_open names sent gone create o) ≡ true → is_ok o ≡ true)
    × (is_ok o ≡ true → is_ok (without_open names sent gone create o) ≡ true)
firm_new names sent gone create Unsettled = (λ e. absurd (grind arith), λ e. absurd (grind arith), λ e. absurd (cc))
firm_new names sent gone create (WasOk reply) = (λ e. e, λ e. e, λ e. e)
firm_new names sent gone create (WasRefused status) = (λ e. e, λ e. e, λ e. e)
firm_new names sent gone create (NoSlot n) = (λ e. e, λ e. e, λ e. e)
firm_new names sent gone create (NoOpen n) = (λ e. e, λ e. e, λ e. e)
firm_new names sent gone create (Unknown why) = (λ e. e, λ e. e, λ e. e)

no_opens : (c : Client) (conns : ℕ → Conn) (s : Server) (t : Trace) (l : Log) (a : ℕ → ℕ) (create : ℕ) → Bodies c conns
    → Contents c conns s t l a → Contents (with_no_opens c create) conns s t l a
no_opens c conns s t l a create b i =
    outcomes_keeps c conns s t l a (give_up_on c create)
    (λ h. without_same (names h) (c.sent h) gone create (c.outcome h)) (λ h. unsent_new (names h) (c.sent h) gone create
    (c.outcome h)) (λ h. back_new (names h) (c.sent h) gone create (c.outcome h))
    (λ h. (firm_new (names h) (c.sent h) gone create (c.outcome h)).0)
    (λ h. (firm_new (names h) (c.sent h) gone create (c.outcome h)).1)
    (λ h. (firm_new (names h) (c.sent h) gone create (c.outcome h)).2) b i
  where
    gone : Bool
    gone = is_gone_after c create (c.outcome create)

    names : ℕ → Bool
    names h = (create_for c h == create) && not (is_create (c.op h))

-- ---- it settles

settles : (c : Client) (conns : ℕ → Conn) (s : Server) (t : Trace) (l : Log) (a : ℕ → ℕ) (k g : ℕ) (asking : Bool)
    (r : Reply) (place : ℕ) (o : Outcome) → Connections c conns a → Contents c conns s t l a → ReplyTaken c conns s t l
    k g asking r place
    → is_unsettled (c.outcome g) ≡ true → heard c g asking r ≡ Settles o → Contents (settle c g asking r place o) conns s t l a
settles c conns s t l a k g asking r place o cn i d u he =
    let firm = heard_firm c g asking r o he in
    let n = full_connections c (noted c g o r.body) conns a g asking r.status
    (noted_connections c conns a g r.body cn (some_of (c.outstanding_on g) k d.outstanding_on) o) in
    let m = notes_full c (noted c g o r.body) conns s t l a g o asking r.status (notes c conns s t l a k g asking r place cn i d u o he) in
    by_notes (noted_full (noted c g o r.body) g asking r.status) n m firm
  where
    by_notes : (e : Client) → Noted c e conns a → NotesReply c e conns s t l a g o → is_unsettled o ≡ false
        → Contents (if settles_open (c.op g) then with_no_opens (settled e g o place) (create_for c g) else settled e g
        o place) conns s t l a
    by_notes e n m firm =
        let opg : e.op g ≡ c.op g = ap (λ f. f g) m.op in
        let h : Contents (settled e g o place) conns s t l a =
        settle_keeps e conns s t l a g place o (ap (λ f. is_unsettled (f g)) m.outcome ∙ u) d.above firm d.within d.who d.since
        (λ v ls st. says_ok c conns s t l k g asking r place o d he v (subst (λ p. lists p ≡ true) opg ls)
        (subst (λ p. settlement p o ≡ Settled_ok v) opg st))
        (λ st. says_end c conns s t l k g asking r place o d he (subst (λ p. settlement p o ≡ Settled_end) opg st))
        (λ mk ok. m.made (subst (λ p. makes_open p ≡ true) opg mk) ok)
        (λ j q x hx tk ed fm sd pr le. let ed2 : edits (c.op g) ≡ true = subst (λ p. edits p ≡ true) opg ed in
        let fl : file_at e g ≡ file_at c g = ap (λ f. f (its_create g (e.op g))) (m.file ed2) ∙ ap (λ p. c.file (its_create g p)) opg in
        dead c conns s t l a k g asking r place o cn i d he j q x hx tk ed2 (subst (λ p. formed p ≡ true) opg fm)
        (subst (λ f. s.standing f ≡ true) fl sd) pr (subst (λ f. s.sequence f ≤ x.message.channel_sequence) fl le))
        m.holds in
        either (λ e. Contents e conns s t l a) (settles_open (c.op g))
        (with_no_opens (settled e g o place) (create_for c g)) (settled e g o place)
        (λ _. no_opens (settled e g o place) conns s t l a (create_for c g) (settle_connections e conns a k g place o
        (ap (λ f. f g) n.outstanding_on ∙ d.outstanding_on) d.none firm n.keeps).bodies h)
        (λ _. h)

-- ---- what is outstanding on an open connection

pub out_of : (c : Client) (conns : ℕ → Conn) (a : ℕ → ℕ) → Connections c conns a → TokenUp c conns
    → (j n p : ℕ) (x : Sent) → slice_get (conns j).up n ≡ Some x → x.token ≡ ForOp p → (conns j).client_open ≡ true
    → c.outstanding_on p ≡ Some j × c.asks_attach p ≡ false
out_of c conns a cn tu j n p x h e o = (
  cn.outstanding j p o (let z = own_up_count p (conns j).up n x h e in omega (arith, z))
      (subst (λ q. 0 < q) (ap op_of e) (tu j n x h (ops_of x.token p e)).0),
  cn.own_up j n p x h o e,
)

again_status : (c : Client) (g : ℕ) (asking : Bool) (status : ℕ) → goes_again c g asking status ≡ true → asking ≡ false
    × (status == success) ≡ false
again_status c g asking status e = (
  first_not asking _ e,
  stale_other status (third (not asking) (changes (c.op g)) (status == file_not_available) _
      e),
)
  where
    first_not : (x y : Bool) → (not x && y) ≡ true → x ≡ false
    first_not x y e = grind arith

    third : (x y z v : Bool) → (x && (y && (z && v))) ≡ true → z ≡ true
    third x y z v e = grind arith

    stale_other : (status : ℕ) → (status == file_not_available) ≡ true → (status == success) ≡ false
    stale_other status e = subst (λ q. (q == success) ≡ false) (sym (eqb-true status file_not_available e)) refl

deleted_other : (status : ℕ) → status ≡ user_session_deleted → (status == success) ≡ false
deleted_other status e = subst (λ q. (q == success) ≡ false) (sym e) refl

-- a DH2C attaches by a success alone
attach_line : (b1 b2 b3 asking : Bool) (x y : Heard) → ((o : Heard) → o ≡ x → o ≢ Attaches)
    → ((o : Heard) → o ≡ y → o ≢ Attaches) → line b1 b2 b3 asking x y ≡ Attaches → b2 ≡ true
attach_line true b2 b3 asking x y f g e = absurd (cc)
attach_line false true b3 asking x y f g e = refl
attach_line false false true asking x y f g e = absurd (cc)
attach_line false false false asking x y f g e = absurd (g y refl e)

no_attach_ok : (v : Option OpReply) (o : Heard) → o ≡ ok_or_unknown v → o ≢ Attaches
no_attach_ok None o e f = absurd (let z = sym e ∙ f in cc)
no_attach_ok (Some reply) o e f = absurd (let z = sym e ∙ f in cc)

no_attach_refused : (op : Op) (asking unanswered : Bool) (status : ℕ) → refused op asking unanswered status ≢ Attaches
no_attach_refused op asking unanswered status =
    let P : Heard → Type 0 = λ h. h ≢ Attaches in
    either P (not unanswered) _ _ (λ _ e. absurd (cc)) (λ _. either P (was_closed op asking status) _ _ (λ _ e. absurd (cc))
    (λ _. either P (may_have_acted op asking status) _ _ (λ _ e. absurd (cc)) (λ _. either P (refuses_all op status) _ _
    (λ _ e. absurd (cc)) (λ _ e. absurd (cc)))))

attaches_by : (c : Client) (g : ℕ) (asking : Bool) (r : Reply) → heard c g asking r ≡ Attaches → r.status ≡ success
attaches_by c g asking r e =
    eqb-true r.status success (attach_line (r.status == user_session_deleted) (r.status == success)
    (goes_again c g asking r.status) asking (ok_or_unknown (value_in (c.op g) r.body))
    (refused (c.op g) asking (c.unanswered g) r.status)
    (λ o. no_attach_ok (value_in (c.op g) r.body) o) (λ o z f. no_attach_refused (c.op g) asking (c.unanswered g) r.status (sym z ∙ f)) e)

-- ---- what a reply does

off_other : (f : ℕ → Option ℕ) (g p : ℕ) (v : Option ℕ) → p ≢ g → f p ≡ v → put f g None p ≡ v
off_other f g p v n e = grind arith

same_some : (o : Option ℕ) (j k : ℕ) → o ≡ Some j → o ≡ Some k → j ≡ k
same_some o j k e f = grind arith

hears : (w : World) (a : ℕ → ℕ) (k g : ℕ) (asking : Bool) (r : Reply) (place : ℕ) → Connections w.client w.conns a
    → Contents w.client w.conns w.server w.trace w.log a → ReplyTaken w.client w.conns w.server w.trace w.log k g asking
    r place
    → is_unsettled (w.client.outcome g) ≡ true → (h : Heard) → heard w.client g asking r ≡ h
    → ContentsHold (with_client (closed_by w k (act_heard h)) (hear w.client g asking r place h)) a
hears w a k g asking r place cn i d u (Settles o) e = settles w.client w.conns w.server w.trace w.log a k g asking r place o cn i d u e
hears w a k g asking r place cn i d u GoesAgain e =
    let z = again_status w.client g asking r.status (heard_again w.client g asking r e) in
    answered_keeps w.client w.conns w.server w.trace w.log a g (λ ed b own. d.not_done z.0 ed z.1 b) i
hears w a k g asking r place cn i d u Attaches e =
    let z = heard_attaches w.client g asking r e in joined_keeps w.client w.conns w.server w.trace w.log a g
    (d.asks ∙ z) (d.attach_reply z (attaches_by w.client g asking r e)) (own_for w.client g) i
hears w a k g asking r place cn i d u EndsSession e =
    let st = heard_ends w.client g asking r e in
    leave_keeps (answered w.client g) w.conns w.server w.trace w.log a (mine i.token_up) (λ j n p x h z. (cn.bodies j n p x h z).0)
    (answered_keeps w.client w.conns w.server w.trace w.log a g (λ ed b own. d.not_done (sym d.asks ∙ own) ed
    (deleted_other r.status st) b) i)
  where
    mine : TokenUp w.client w.conns → (j n p : ℕ) (x : Sent) → slice_get (w.conns j).up n ≡ Some x → x.token ≡ ForOp p
        → (w.conns j).client_open ≡ true → put w.client.outstanding_on g None p ≡ Some j × w.client.asks_attach p
        ≡ false
    mine tu j n p x h z o =
        let q = out_of w.client w.conns a cn tu j n p x h z o in (
          off_other w.client.outstanding_on g p (Some j)
              (λ pg. gone_here (subst (λ r. w.client.outstanding_on r ≡ Some j) pg q.0)
              (subst (λ r. 1 ≤ copies r (w.conns j)) pg (more j p (own_up_count p (w.conns j).up n x h z)))) q.0,
          q.1,
        )
      where
        more : (j p : ℕ) → 1 ≤ count_up p (w.conns j).up → 1 ≤ copies p (w.conns j)
        more j p one = omega (arith, one)

        gone_here : w.client.outstanding_on g ≡ Some j → 1 ≤ copies g (w.conns j) → ⊥
        gone_here at one = let q = d.outstanding_on in let z = d.none in let jk : j
            ≡ k = same_some (w.client.outstanding_on g) j k at q in let one2 = subst (λ v. 1 ≤ copies g (w.conns v)) jk
            one in omega (arith, one2, z)

pub took : (w : World) (a : ℕ → ℕ) (k g : ℕ) (asking : Bool) (r : Reply) (place : ℕ) → Connections w.client w.conns a
    → Contents w.client w.conns w.server w.trace w.log a
    → (w.client.outstanding_on g ≡ Some k → w.client.asks_attach g ≡ asking → ReplyTaken w.client w.conns w.server
    w.trace w.log k g asking r place)
    → ContentsHold (op_took w k g asking r place) a
took w a k g asking r place cn i told =
    both_ways (λ c x. ContentsHold (with_client (closed_by w k x) c) a) (is_awaited w.client k g asking)
    (hear w.client g asking r place (heard w.client g asking r)) w.client
    (act_heard (heard w.client g asking r)) Nothing
    (λ aw. let q = awaited_of w.client k g asking aw in hears w a k g asking r place cn i (told q.0 q.1) (pending q.0)
    (heard w.client g asking r) refl)
    (λ _. i)
  where
    pending : w.client.outstanding_on g ≡ Some k → is_unsettled (w.client.outcome g) ≡ true
    pending at = by_test (is_unsettled (w.client.outcome g)) refl
      where
        no_some : (o : Option ℕ) → o ≡ None → o ≡ Some k → ⊥
        no_some o e f = absurd (grind arith)

        by_test : (b : Bool) → is_unsettled (w.client.outcome g) ≡ b → is_unsettled (w.client.outcome g) ≡ true
        by_test true e = e
        by_test false e = absurd (no_some (w.client.outstanding_on g) (cn.settled g e) at)
