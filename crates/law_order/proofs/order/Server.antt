-- The events in which the server moves: it takes a message, a connection is made or ends, it starts anew.
use Rattle.std.proofs.Common.{◌⊎◌, inl, inr, ◌≡◌, ℕ, ◌≤◌, ◌<◌, ◌==◌, Bool, true, false, ◌||◌, if◌then◌else◌, List, []}
use Rattle.std.proofs.Common.{◌∷◌, ◌++◌, refl, arith, sym, subst, ◌∙◌, ap, Option, Some, slice_get}
use Rattle.spec_exchange.specs.Table.{put}
use Rattle.spec_exchange.specs.Status.{success}
use Rattle.spec_exchange.specs.State.{Server, Accept, End}
use Rattle.spec_exchange.specs.Fold.{recovered_from}
use Rattle.spec_exchange.specs.Step.{step}
use Rattle.spec_exchange.specs.Operations.{is_ok, id_in}
use Rattle.spec_exchange.specs.Client.{guid_for}
use Rattle.spec_exchange.specs.Network.{World, Conn, Sent, Received, ForOp, ForAttach, op_of, makes, answer, absorbed}
use Rattle.spec_exchange.specs.Network.{replied, behind_front, restarted, opened, dropped, said as said_by}
use Rattle.law_sessions.specs.messages.Connections.{create_at, makes_open}
use Rattle.law_sessions.proofs.messages.Lists.{front_up}
use Rattle.law_server.proofs.tables.Logic.{either}
use Rattle.law_sessions.proofs.messages.Run.{makes_one, put_self}
use Rattle.law_records.specs.recovery.Restarted.{Restarted}
use Rattle.law_server.specs.tables.Fits.{Fits}
use Rattle.law_sessions.specs.sessions.Sessions.{is_ops}
use Rattle.law_order.specs.order.Newest.{Pair}
use Rattle.law_order.specs.order.Contents.{Contents, edits, file_at, last_id}
use Rattle.law_order.proofs.order.Front.{Lower, ContentsHold, taking, said}
use Rattle.law_order.proofs.order.Moved.{Moves}
use Rattle.law_order.proofs.order.Quiet.{calm_moves, calm_accept, calm_end, anew_moves}
use Rattle.law_order.proofs.order.Taking.{Taking, new_trace, new_log, new_acts, open_kept, first_none, makes_it}
use Rattle.law_order.proofs.order.Words.{attach_of, put_self as put_there}
use Rattle.law_order.proofs.order.OnAbsorb.{absorb_keeps, lists_other}
use Rattle.law_order.proofs.order.OnSay.{say_keeps}
use Rattle.law_order.proofs.order.OnMoved.{moved_keeps}
use Rattle.law_order.proofs.order.OnOpened.{opened_keeps}
use Rattle.law_order.proofs.order.OnDropped.{dropped_keeps}
use Rattle.law_order.proofs.order.OnAllDropped.{all_dropped_keeps}

-- ---- what is known of sessions and opens in a world that a run leads to

pub ranked_of : (w : World) (a : ℕ → ℕ) → Lower w a → (j n : ℕ) (x : Sent) → slice_get (w.conns j).up n ≡ Some x
    → is_ops x.token ≡ true → 0 < w.client.rank x.message.session_id
ranked_of w a l j n x h e = l.ss.ranked_up j n x h e

pub alive_of : (w : World) (a : ℕ → ℕ) → Lower w a → w.client.live ≡ true → 0 < w.client.rank w.client.session
alive_of w a l e = let q = l.ss.live_accepted e in subst (λ x. 0 < w.client.rank x) (sym q.0) q.1

none_in : (n : ℕ) (y : Received) → slice_get [] n ≡ Some y → ⊥
none_in n y h = absurd (cc)

pub open_of_down : (w : World) (a : ℕ → ℕ) → Lower w a → (j n : ℕ) (y : Received) → slice_get (w.conns j).down n
    ≡ Some y → (w.conns j).client_open ≡ true
open_of_down w a l j n y h = by_test (w.conns j).client_open refl
  where
    by_test : (b : Bool) → (w.conns j).client_open ≡ b → (w.conns j).client_open ≡ true
    by_test true e = e
    by_test false e = absurd (none_in n y (subst (λ ys. slice_get ys n ≡ Some y) (l.cn.down_open j e) h))

pub current_of : (w : World) (a : ℕ → ℕ) → Lower w a → (j n : ℕ) (y : Received) → slice_get (w.conns j).down n ≡ Some y
    → is_ops y.token ≡ true → 0 < w.client.rank w.client.session
current_of w a l j n y h e = alive_of w a l (l.ss.current_down j n y h e (open_of_down w a l j n y h)).0

pub sent_opens : (w : World) (a : ℕ → ℕ) → Lower w a → (g : ℕ) → w.client.sent g ≡ true → makes_open (w.client.op g) ≡ false
    → (makes_open (w.client.op g) || is_ok (w.client.outcome (create_at w.client g))) ≡ true
    × makes_open (w.client.op (create_at w.client g)) ≡ true
sent_opens w a l g s n = let t = l.cn.taken g s in (l.cn.has_open g s, (l.cn.creates g t.0 t.1 n).2)

-- ---- a message is taken

pub absorbs : (w : World) (a : ℕ → ℕ) (k : ℕ) (x0 : Sent) (rest : List Sent) → (w.conns k).up ≡ x0 ∷ rest → Lower w a
    → ((g : ℕ) → makes_open (w.client.op g) ≡ true → new_acts a x0 (answer w x0) g ≤ 1) → ContentsHold w a
    → ContentsHold (absorbed w k x0 rest (answer w x0)) (new_acts a x0 (answer w x0))
absorbs w a k x0 rest is l most i =
    absorb_keeps w.client w.conns w.server w.trace w.log a k x0 rest (answer w x0) is l.cn.once l.cn.outstanding
    l.cn.own_up l.cn.bodies l.cn.down_open (taking w a k x0 rest is l most i)
    (ranked_of w a l) (alive_of w a l) (current_of w a l) (sent_opens w a l)
    (λ g tk ls. sent_opens w a l g (l.cn.bodies k 0 g x0 (front_up (w.conns k).up x0 rest is) tk).0 (lists_other (w.client.op g) ls))
    (λ g ab wi n. (l.cn.creates g ab wi n).2) i

put_at : (f : ℕ → Option ℕ) (v : Option ℕ) (q r : ℕ) → q ≡ r → put f q v r ≡ v
put_at f v q r e = grind arith

some_open : (f : ℕ → Conn) (k : ℕ) (rest : List Sent) → (put f k (behind_front (f k) rest) k).client_open ≡ true → (f k).client_open ≡ true
some_open f k rest o = grind arith

-- and its reply is on its way, where the client's end is open
pub serves : (w : World) (a : ℕ → ℕ) (k : ℕ) (x0 : Sent) (rest : List Sent) → (w.conns k).up ≡ x0 ∷ rest → Lower w a
    → ((g : ℕ) → makes_open (w.client.op g) ≡ true → new_acts a x0 (answer w x0) g ≤ 1) → ContentsHold w a
    → ContentsHold (replied (absorbed w k x0 rest (answer w x0)) k (record {
      token = x0.token;
      reply = (answer w x0).reply;
      place = w.log.places;
    })) (new_acts a x0 (answer w x0))
serves w a k x0 rest is l most i =
    let A = answer w x0 in let f : ℕ → Conn = put w.conns k (behind_front (w.conns k) rest) in let j = absorbs w a k x0 rest is l most i in
    either (λ d. Contents w.client (put f k d) A.server (new_trace w.client w.trace w.log x0 A)
    (new_log w.client w.trace w.log x0 A) (new_acts a x0 A)) (f k).client_open _ _
    (λ o. says o j)
    (λ _. subst (λ v. Contents w.client v A.server (new_trace w.client w.trace w.log x0 A)
    (new_log w.client w.trace w.log x0 A) (new_acts a x0 A)) (put_self f k) j)
  where
    f0 : slice_get (w.conns k).up 0 ≡ Some x0
    f0 = front_up (w.conns k).up x0 rest is

    t : Taking w.client w.server w.trace x0 (answer w x0)
    t = taking w a k x0 rest is l most i

    given_up : (p : ℕ) → p ≤ last_id w.server → p ≤ last_id (answer w x0).server
    given_up p le = let up = t.steps.ids in omega (arith, le, up)

    by_made : (p : ℕ) → x0.token ≡ ForOp p → makes_open (w.client.op p) ≡ true
        → ((answer w x0).acted ≡ true × (answer w x0).reached ≡ Some (id_in (answer w x0).reply.body))
        ⊎ (w.server.by_guid w.client.who.guid (guid_for w.client p) ≡ Some (id_in (answer w x0).reply.body))
        → id_in (answer w x0).reply.body ≤ last_id (answer w x0).server
        × (new_trace w.client w.trace w.log x0 (answer w x0)).open_of p ≡ Some (id_in (answer w x0).reply.body)
    by_made p tk mk (inl e) = (
      (t.reached _ e.1).0,
      opened_here p (makes_it w.client x0.token (answer w x0) p tk mk e.0)
          (ap op_of tk) ∙ e.1,
    )
      where
        opened_here : (g : ℕ) → makes w.client x0.token (answer w x0) ≡ true → op_of x0.token ≡ g
            → (new_trace w.client w.trace w.log x0 (answer w x0)).open_of g ≡ (answer w x0).reached
        opened_here g m z = opened_by (makes w.client x0.token (answer w x0)) m z
          where
            opened_by : (b : Bool) → b ≡ true → op_of x0.token ≡ g
                → (if b then put w.trace.open_of (op_of x0.token) (answer w x0).reached else w.trace.open_of) g
                ≡ (answer w x0).reached
            opened_by true e z = put_at w.trace.open_of (answer w x0).reached (op_of x0.token) g z
            opened_by false e z = absurd (cc)
    by_made p tk mk (inr e) =
        let n = i.named_open p _ e in (given_up _ (i.open_given p _ n).0, open_kept w.client w.trace w.log x0 (answer w x0) p _ t.remade n)

    its_file : (p : ℕ) → x0.token ≡ ForOp p → edits (w.client.op p) ≡ true → file_at w.client p ≤ last_id (answer w x0).server
    its_file p tk ed = given_up (file_at w.client p) (i.copy_pair k 0 p x0 f0 tk ed).1

    asked_file : (p : ℕ) → x0.token ≡ ForAttach p → file_at w.client p ≤ last_id (answer w x0).server
    asked_file p tk =
        let e = attach_of x0.token p tk in let ab = i.token_up k 0 x0 f0 e in let o = i.opens_up k 0 x0 f0 e in
        let s = i.asked_as k 0 p x0 f0 tk in
        let above = subst (λ g. 0 < g) (ap op_of tk) ab.0 in let within = subst (λ g. g ≤ w.client.taken) (ap op_of tk)
        ab.1 in let op = subst (λ g. (makes_open (w.client.op g) || is_ok (w.client.outcome (create_at w.client g)))
        ≡ true) (ap op_of tk) o in
        given_up (file_at w.client p) (t.files (create_at w.client p) (l.cn.creates p above within s.0).2
        (makes_one (w.client.op p) (w.client.outcome (create_at w.client p)) op s.0))

    says : (put w.conns k (behind_front (w.conns k) rest) k).client_open ≡ true
        → Contents w.client (put w.conns k (behind_front (w.conns k) rest)) (answer w x0).server
        (new_trace w.client w.trace w.log x0 (answer w x0)) (new_log w.client w.trace w.log x0 (answer w x0))
        (new_acts a x0 (answer w x0))
        → Contents w.client (put (put w.conns k (behind_front (w.conns k) rest)) k
        (record (put w.conns k (behind_front (w.conns k) rest) k) {
          down = (put w.conns k (behind_front (w.conns k) rest) k).down ++ record {
            token = x0.token;
            reply = (answer w x0).reply;
            place = w.log.places;
          } ∷ [];
        }))
        (answer w x0).server (new_trace w.client w.trace w.log x0 (answer w x0))
        (new_log w.client w.trace w.log x0 (answer w x0)) (new_acts a x0 (answer w x0))
    says o j =
        let A = answer w x0 in let opn = some_open w.conns k rest o in let q = said w a k x0 rest is opn l t i in
        say_keeps w.client (put w.conns k (behind_front (w.conns k) rest)) A.server
        (new_trace w.client w.trace w.log x0 A) (new_log w.client w.trace w.log x0 A) (new_acts a x0 A) k (record {
          token = x0.token;
          reply = A.reply;
          place = w.log.places;
        })
        (λ e. i.token_up k 0 x0 f0 e)
        (λ p tk ed bad b. first_none w.client w.trace w.log x0 A p (i.first_up k 0 p x0 f0 tk ed b).1
        (λ z ac. absurd (let n = q.not_done p tk ed bad in grind arith)))
        (λ p tk mk ok. let m = by_made p tk mk (q.create_reply p tk mk ok) in (q.create_pair p tk mk, m.0, m.1))
        (λ p tk ok. (q.attach_reply p tk ok, asked_file p tk))
        (λ p tk ed fm fin. (
          subst (λ n. Pair A.server w.client.session n (file_at w.client p))
              (i.open_seq k 0 p x0 f0 tk ed opn) (q.reached p tk ed fm fin),
          its_file p tk ed,
        ))
        (λ p tk ed st. (q.closed p tk ed st, its_file p tk ed))
        (λ p tk ed bad del. (q.refused p tk bad del, asked_file p tk))
        (λ p tk ed st. subst (λ n. n < w.client.sequence) (i.open_seq k 0 p x0 f0 tk ed opn) (q.stale p tk ed st))
        (omega arith, put_there w.log.who w.log.places (op_of x0.token), put_there w.log.gave w.log.places (said_by x0.token A.reply))
        q.attach_status (i.since_le (op_of x0.token)) j

-- ---- the server moves by itself

pub moves : (w : World) (a : ℕ → ℕ) (u : Server) → Lower w a → Moves w.client.rank w.server u → ContentsHold w a
    → Contents w.client w.conns u w.trace w.log a
moves w a u l m i = moved_keeps w.client w.conns w.server w.trace w.log a u m (ranked_of w a l) (current_of w a l) (alive_of w a l) i

pub opens_conn : (w : World) (a : ℕ → ℕ) (k : ℕ) → (w.conns k).client_open ≡ false → Lower w a → ContentsHold w a
    → ContentsHold (opened w k) a
opens_conn w a k shut l i =
    let A = step w.server w.moment (Accept k) in
    opened_keeps w.client w.conns A.server w.trace w.log a k (A.reply.status == success) shut
    (moves w a A.server l (calm_moves w.client.rank w.server A.server (λ o st. (l.fits.open_ids o st).1)
    (calm_accept w.server w.moment k)) i)

pub drops : (w : World) (a : ℕ → ℕ) (k : ℕ) → Lower w a → ContentsHold w a → ContentsHold (dropped w k) a
drops w a k l i =
    let A = step w.server w.moment (End k) in
    dropped_keeps w.client w.conns A.server w.trace w.log a k
    (moves w a A.server l (calm_moves w.client.rank w.server A.server (λ o st. (l.fits.open_ids o st).1)
    (calm_end w.server w.moment k)) i)

-- a restart, from any world of which this is known
pub restarts : (w : World) (a : ℕ → ℕ) → Fits w.server → Restarted w.server (recovered_from w.server w.records)
    → ((j n : ℕ) (x : Sent) → slice_get (w.conns j).up n ≡ Some x → is_ops x.token ≡ true
    → 0 < w.client.rank x.message.session_id)
    → ((j n : ℕ) (y : Received) → slice_get (w.conns j).down n ≡ Some y → is_ops y.token ≡ true
    → 0 < w.client.rank w.client.session) → (w.client.live ≡ true → 0 < w.client.rank w.client.session)
    → ContentsHold w a → ContentsHold (restarted w) a
restarts w a f r ranked current alive i =
    all_dropped_keeps w.client w.conns (recovered_from w.server w.records) w.trace w.log a
    (moved_keeps w.client w.conns w.server w.trace w.log a (recovered_from w.server w.records)
    (anew_moves w.client.rank w.server (recovered_from w.server w.records) f r) ranked current alive i)
