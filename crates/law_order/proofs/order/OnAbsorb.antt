-- Written by tools/law_contents_absorb.py. The server takes the front of a connection.
use Rattle.std.proofs.lemmas.Bool.{eqb-false}
use Rattle.std.proofs.Common.{eqb-true, ◌≡◌, ◌≢◌, ℕ, ◌+◌, ◌≤◌, ◌<◌, ◌==◌, Bool, true, false, ◌&&◌, ◌||◌, if◌then◌else◌}
use Rattle.std.proofs.Common.{List, [], ◌∷◌, ◌⊎◌, inl, inr, refl, arith, sym, subst, ◌∙◌, ap, Option, Some, None}
use Rattle.std.proofs.Common.{slice_get, is_some}
use Rattle.spec_exchange.specs.Table.{put, is_at}
use Rattle.spec_exchange.specs.Status.{success, end_of_file}
use Rattle.spec_exchange.specs.Content.{ContentReply, is_change, effect, value, past_end, is_listed, collides}
use Rattle.spec_exchange.proofs.Content.{effect-twice, effect-kept, collides_comm}
use Rattle.spec_exchange.specs.Order.{Log, Says_ok, Says_end}
use Rattle.spec_exchange.specs.Opens.{denies_writers}
use Rattle.spec_exchange.specs.State.{Server, Reply, Answer}
use Rattle.spec_exchange.specs.Operations.{Op, Outcome, is_unsettled, is_firm, is_ok, id_in, share_of, content_op}
use Rattle.spec_exchange.specs.Client.{Client, AskedTree, guid_for}
use Rattle.spec_exchange.specs.Runs.{is_send_of}
use Rattle.spec_exchange.specs.Network.{Conn, Sent, Received, Trace, Token, ForDialog, ForOp, ForAttach, op_of, is_own}
use Rattle.spec_exchange.specs.Network.{makes, said, content_reply, behind_front, bytes_behind}
use Rattle.law_sessions.specs.messages.Connections.{create_at, makes_open, copies, count_up, Once}
use Rattle.law_sessions.specs.messages.Connections.{Outstanding as ConnOutstanding, OwnUp, DownOpen, Bodies}
use Rattle.law_sessions.proofs.messages.Lists.{own_up_count, own_down_count, front_up, waited}
use Rattle.law_server.proofs.tables.Logic.{other_on}
use Rattle.law_sessions.specs.sessions.Sessions.{is_ops}
use Rattle.law_order.specs.order.Contents.{Contents, edits, lists, formed, isolating, clashes, bytes_after, reply_to}
use Rattle.law_order.specs.order.Contents.{ends_before, file_at, pends, last_id, TokenUp, TokenDown, OpensUp, AskedAs}
use Rattle.law_order.specs.order.Contents.{LostUnknown, Pairwise, FirstUp, Unacted, FreshFirst, NotDone, CutSeq, OpenSeq}
use Rattle.law_order.specs.order.Contents.{Older, NoReplay, CopyPair, NowPair, CreateReply, AttachReply, Reached, ClosedReply}
use Rattle.law_order.specs.order.Contents.{AttachRefused, StaleReply, SessionSeq, PendingAt, LiveUnsettled, LiveReplay, Shows}
use Rattle.law_order.specs.order.Contents.{Denied, OpenOf, NamedOpen, OpenGiven, OpenRow, OpenActed, Bytes, Quiet, Foreign}
use Rattle.law_order.specs.order.Contents.{Acted, Gave, GaveEnd, Whose, Born, BirthLe, FirstAt, By, ByOk, ByEnd, Replies}
use Rattle.law_order.specs.order.Contents.{AttachStatus, SinceLe, SinceReply, SinceFirst, Prior, PriorFirst}
use Rattle.law_order.proofs.order.Moved.{live_back}
use Rattle.law_order.proofs.order.Words.{ops_of, attach_of, put_self, put_old, split, still_gone, sent_of, firm_settled}
use Rattle.law_order.proofs.order.Words.{edits_other, some_of}
use Rattle.law_order.proofs.order.Writing.{Writer}
use Rattle.law_order.proofs.order.Made.{creates, asks_guid, asks_share}
use Rattle.law_order.proofs.order.Taking.{Taking, new_trace, new_log, new_acts, own_of, made_own, makes_it, open_kept}
use Rattle.law_order.proofs.order.Taking.{open_was, first_was, first_none, first_kept, first_new, birth_kept, made_before}
use Rattle.law_order.proofs.order.Taking.{bytes_old, bytes_new, behind_standing, behind_left}

abbrev Front : (ℕ → Conn) → ℕ → List Sent → ℕ → Conn
Front conns k rest = put conns k (behind_front (conns k) rest)

open_as_before : (conns : ℕ → Conn) (k : ℕ) (rest : List Sent) (j : ℕ) → (Front conns k rest j).client_open
    ≡ (conns j).client_open × (Front conns k rest j).down ≡ (conns j).down
open_as_before conns k rest j = (grind arith, grind arith)

was_down : (conns : ℕ → Conn) (k : ℕ) (rest : List Sent) (j n : ℕ) (y : Received)
    → slice_get (Front conns k rest j).down n ≡ Some y → slice_get (conns j).down n ≡ Some y
was_down conns k rest j n y h = ap (λ d. slice_get d n) (sym (open_as_before conns k rest j).1) ∙ h

-- ---- two copies of one operation are on two connections, and one alone is on an open one

-- the front and what waits behind it aren't of one operation
no_twin : (conns : ℕ → Conn) (k : ℕ) (x0 : Sent) (rest : List Sent) (n g : ℕ) (x : Sent) → Once conns → (conns k).up
    ≡ x0 ∷ rest → x0.token ≡ ForOp g → slice_get (Front conns k rest k).up n ≡ Some x → x.token ≡ ForOp g → ⊥
no_twin conns k x0 rest n g x once is t h u =
    absurd (let one = once k g in let c = own_up_count g (Front conns k rest k).up n x h u in grind arith)

apart_of : (conns : ℕ → Conn) (k : ℕ) (x0 : Sent) (rest : List Sent) (j n g : ℕ) (x : Sent) → Once conns → (conns k).up
    ≡ x0 ∷ rest → x0.token ≡ ForOp g → slice_get (Front conns k rest j).up n ≡ Some x → x.token ≡ ForOp g → j ≢ k
apart_of conns k x0 rest j n g x once is t h u e = no_twin conns k x0 rest n g x once is t
    (subst (λ i. slice_get (Front conns k rest i).up n ≡ Some x) e h) u

-- the front is outstanding where it is on an open connection
front_on : (c : Client) (conns : ℕ → Conn) (k : ℕ) (x0 : Sent) (rest : List Sent) (g : ℕ) → ConnOutstanding c conns
    → (conns k).up ≡ x0 ∷ rest → x0.token ≡ ForOp g → (conns k).client_open ≡ true → 0 < g → c.outstanding_on g ≡ Some k
front_on c conns k x0 rest g out is t o l = out k g o (more (own_up_count g (conns k).up 0 x0 (front_up (conns k).up x0 rest is) t)) l
  where
    more : 1 ≤ count_up g (conns k).up → 1 ≤ copies g (conns k)
    more l = omega (arith, l)

some_same : (x y : ℕ) → Some x ≡ Some y → x ≡ y
some_same x y h = grind arith

copies_up : (conns : ℕ → Conn) (j n g : ℕ) (x : Sent) → slice_get (conns j).up n ≡ Some x → x.token ≡ ForOp g → 1 ≤ copies g (conns j)
copies_up conns j n g x h e = let l = own_up_count g (conns j).up n x h e in omega (arith, l)

copies_down : (conns : ℕ → Conn) (j n g : ℕ) (y : Received) → slice_get (conns j).down n ≡ Some y → y.token ≡ ForOp g
    → 1 ≤ copies g (conns j)
copies_down conns j n g y h e = let l = own_down_count g (conns j).down n y h e in omega (arith, l)

none_in : (n : ℕ) (y : Received) → slice_get [] n ≡ Some y → ⊥
none_in n y h = absurd (cc)

down_is_open : (conns : ℕ → Conn) → DownOpen conns → (j n : ℕ) (y : Received) → slice_get (conns j).down n ≡ Some y
    → (conns j).client_open ≡ true
down_is_open conns d j n y h = by_test (conns j).client_open refl
  where
    by_test : (b : Bool) → (conns j).client_open ≡ b → (conns j).client_open ≡ true
    by_test true e = e
    by_test false e = absurd (none_in n y (subst (λ ys. slice_get ys n ≡ Some y) (d j e) h))

-- the front and a reply to it aren't on one connection
reply_twin : (conns : ℕ → Conn) (k : ℕ) (x0 : Sent) (rest : List Sent) (j n g : ℕ) (y : Received) → Once conns
    → (conns k).up ≡ x0 ∷ rest → x0.token ≡ ForOp g → slice_get (conns j).down n ≡ Some y → y.token ≡ ForOp g → j ≡ k
    → ⊥
reply_twin conns k x0 rest j n g y once is t h u e =
    absurd (let one = once k g in let a = own_up_count g (conns k).up 0 x0 (front_up (conns k).up x0 rest is) t in
    let b = own_down_count g (conns k).down n y (subst (λ i. slice_get (conns i).down n ≡ Some y) e h) u in
    omega (arith, one, a, b))

-- ---- the words on operations, read back

after_is : (op : Op) (c : List ℕ) → bytes_after op c ≡ effect (content_op op) c
unfolding bytes_after
after_is op c = refl

reply_is : (op : Op) (c : List ℕ) → reply_to op c ≡ value (content_op op) c
unfolding reply_to
reply_is op c = refl

ends_is : (op : Op) (c : List ℕ) → ends_before op c ≡ past_end (content_op op) c
unfolding ends_before
ends_is op c = refl

edits_of : (op : Op) → is_change (content_op op) ≡ true → edits op ≡ true
unfolding edits
edits_of op e = e

change_of : (op : Op) → edits op ≡ true → is_change (content_op op) ≡ true
unfolding edits
change_of op e = e

lists_of : (op : Op) → edits op ≡ true → lists op ≡ true
unfolding edits lists is_change is_listed
lists_of op e = grind arith

pub lists_other : (op : Op) → lists op ≡ true → makes_open op ≡ false
unfolding lists makes_open is_listed
lists_other op e = grind arith

apart_is : (a b : Op) → clashes a b ≡ false → collides (content_op a) (content_op b) ≡ false
unfolding clashes
apart_is a b e = e

isolating_is : (op : Op) → isolating op ≡ true → makes_open op ≡ true × denies_writers (share_of op) ≡ true
unfolding isolating makes_open
isolating_is op e = (grind arith, grind arith)

-- ---- the open of an operation that went out

pub record Its (c : Client) (s : Server) (t : Trace) (g : ℕ) : Type 0 where
  made : makes_open (c.op (create_at c g)) ≡ true
  ok : is_ok (c.outcome (create_at c g)) ≡ true
  named : t.open_of (create_at c g) ≡ Some (file_at c g)
  given : file_at c g ≤ last_id s

pub its_open : (c : Client) (s : Server) (t : Trace) (g : ℕ)
    → (makes_open (c.op g) || is_ok (c.outcome (create_at c g))) ≡ true → makes_open (c.op g) ≡ false
    → makes_open (c.op (create_at c g)) ≡ true → OpenOf c t → OpenGiven c s t → Its c s t g
its_open c s t g o n m named given =
    let ok = other_on (makes_open (c.op g)) (is_ok (c.outcome (create_at c g))) o n in let e = named (create_at c g) m
    ok in record { made = m; ok = ok; named = e; given = (given (create_at c g) (file_at c g) e).0 }

-- creates of one open are one
same_create : (c : Client) (s : Server) (t : Trace) (p q o : ℕ) → OpenRow c s t → t.open_of p ≡ Some o → t.open_of q
    ≡ Some o → s.standing o ≡ true → p ≡ q
same_create c s t p q o row e f st = same_guid c p q (some_same _ _ (sym (row p o e st).0 ∙ (row q o f st).0))
  where
    same_guid : (c : Client) (g q : ℕ) → guid_for c g ≡ guid_for c q → g ≡ q
    same_guid c g q e = omega (arith, e)

-- ---- the front acts on its open

record Acts (c : Client) (s : Server) (x0 : Sent) (A : Answer) (g : ℕ) : Type 0 where
  stands : s.standing (file_at c g) ≡ true
  session_of_open : s.session_of_open (file_at c g) ≡ Some x0.message.session_id
  there : s.present x0.message.session_id ≡ true
  newest : s.sequence (file_at c g) ≤ x0.message.channel_sequence
  edit : edits (c.op g) ≡ true
  well : formed (c.op g) ≡ true
  ok : A.reply.status ≡ success
  reached : A.reached ≡ Some (file_at c g)
  still : A.server.standing (file_at c g) ≡ true
  bytes : A.server.content (s.opened (file_at c g)).file ≡ effect (content_op (c.op g)) (s.content (s.opened (file_at c g)).file)

acts_of : (c : Client) (s : Server) (t : Trace) (x0 : Sent) (A : Answer) (g : ℕ) → Taking c s t x0 A → x0.token
    ≡ ForOp g → lists (c.op g) ≡ true → A.acted ≡ true → Acts c s x0 A g
acts_of c s t x0 A g w tk ls ac =
    let f = w.listed g tk ls in let a = f.acts ac in let d = f.done (is_test A.reply.status success a.4) in
    record {
      stands = a.0;
      session_of_open = a.1;
      there = w.attached (file_at c g) x0.message.session_id a.1;
      newest = a.2;
      edit = edits_of (c.op g) a.3;
      well = w.well_formed g tk a.6;
      ok = a.4;
      reached = a.5;
      still = d.1;
      bytes = d.3;
    }
  where
    is_test : (n m : ℕ) → n ≡ m → (n == m) ≡ true
    is_test n m e = grind arith

-- it may act still, so it hasn't settled
acting_pends : (c : Client) (conns : ℕ → Conn) (s : Server) (k : ℕ) (x0 : Sent) (rest : List Sent) (A : Answer) (g : ℕ)
    → LiveUnsettled c conns s → (conns k).up ≡ x0 ∷ rest → x0.token ≡ ForOp g → Acts c s x0 A g → pends c g ≡ true
acting_pends c conns s k x0 rest A g live is tk a = live k 0 g x0 (front_up (conns k).up x0 rest is) tk a.edit a.well
    a.stands a.there a.newest

none_of : (x : Option ℕ) → (is_some x ≡ true → ⊥) → x ≡ None
none_of None f = refl
none_of (Some n) f = absurd (f refl)

-- under an open that denies writers it hadn't acted
acting : (c : Client) (conns : ℕ → Conn) (s : Server) (t : Trace) (l : Log) (k : ℕ) (x0 : Sent) (rest : List Sent)
    (A : Answer) (g : ℕ) → Taking c s t x0 A → LiveUnsettled c conns s → LiveReplay c conns s l → Shows c s l
    → (conns k).up ≡ x0 ∷ rest
    → x0.token ≡ ForOp g → lists (c.op g) ≡ true → A.acted ≡ true → isolating (c.op (create_at c g)) ≡ true → l.first g ≡ None
acting c conns s t l k x0 rest A g w live replay shows is tk ls ac iso =
    let a = acts_of c s t x0 A g w tk ls ac in let f = w.listed g tk ls in
    none_of (l.first g) (λ so. f.again ac (replay k 0 g x0 (front_up (conns k).up x0 rest is) tk a.edit a.stands a.there a.newest so)
    (sym (after_is (c.op g) _) ∙ shows g a.edit iso a.stands (acting_pends c conns s k x0 rest A g live is tk a) so))

-- ---- the bytes under an open that denies writers

-- they are as they were, but for a write through this very open
untouched : (c : Client) (s : Server) (t : Trace) (x0 : Sent) (A : Answer) (q o : ℕ) → Taking c s t x0 A → Denied s
    → OpenOf c t → OpenGiven c s t → OpenRow c s t
    → ((g : ℕ) → x0.token ≡ ForOp g → lists (c.op g) ≡ true → (makes_open (c.op g) || is_ok (c.outcome (create_at c g)))
    ≡ true × makes_open (c.op (create_at c g)) ≡ true)
    → t.open_of q ≡ Some o → s.standing o ≡ true → A.server.standing o ≡ true → isolating (c.op q) ≡ true
    → (A.server.content (s.opened o).file ≡ s.content (s.opened o).file)
    ⊎ ((g : ℕ) × ((x0.token ≡ ForOp g) × (lists (c.op g) ≡ true) × (create_at c g ≡ q) × (file_at c g ≡ o)
    × (A.acted ≡ true)))
untouched c s t x0 A q o w denied named given row opens e st sa iso =
    let dn : denies_writers (s.opened o).share ≡ true = ap denies_writers (row q o e st).2
    ∙ (isolating_is (c.op q) iso).1 in by_side dn (w.changing.spared o st sa dn)
  where
    by_writer : denies_writers (s.opened o).share ≡ true → (v : Writer s x0.message A (s.opened o).file) → (p : ℕ)
        → v.open_id ≡ p → ((g : ℕ) × ((x0.token ≡ ForOp g) × (lists (c.op g) ≡ true) × (p ≡ file_at c g)))
        → (g : ℕ) × ((x0.token ≡ ForOp g) × (lists (c.op g) ≡ true) × (create_at c g ≡ q) × (file_at c g ≡ o) × (A.acted ≡ true))
    by_writer dn v p z (g, f) =
        let og = opens g f.0 f.1 in let its = its_open c s t g og.0 (lists_other (c.op g) f.1) og.1 named given in
        elim (p == o) as (λ b. p == o ≡ b → (g : ℕ) × ((x0.token ≡ ForOp g) × (lists (c.op g) ≡ true)
        × (create_at c g ≡ q) × (file_at c g ≡ o) × (A.acted ≡ true))) [
          | true ↦ λ y. let po : p ≡ o = eqb-true p o y in let fo : file_at c g ≡ o = sym f.2 ∙ po in
              (g, (f.0, f.1, same_create c s t (create_at c g) q o row (its.named ∙ ap Some fo) e st, fo, v.acted))
          | false ↦ λ y. absurd (let ne = eqb-false p o y in let d = denied o v.open_id st v.standing
              (λ x. ne (sym z ∙ sym x)) (sym v.file) dn in let a = v.access in grind arith)
        ] refl

    by_side : denies_writers (s.opened o).share ≡ true
        → (A.server.content (s.opened o).file ≡ s.content (s.opened o).file) ⊎ Writer s x0.message A (s.opened o).file
        → (A.server.content (s.opened o).file ≡ s.content (s.opened o).file)
        ⊎ ((g : ℕ) × ((x0.token ≡ ForOp g) × (lists (c.op g) ≡ true) × (create_at c g ≡ q) × (file_at c g ≡ o)
        × (A.acted ≡ true)))
    by_side dn (inl y) = inl y
    by_side dn (inr v) = inr (by_writer dn v v.open_id refl (w.writer v.open_id v.command))

-- the bytes behind the new place, where the file's didn't change
unmoved : (c : Client) (s : Server) (t : Trace) (l : Log) (x0 : Sent) (A : Answer) (q o : ℕ) → Taking c s t x0 A
    → OpenGiven c s t → Bytes s t l → t.open_of q ≡ Some o → (s.standing o ≡ true → A.server.standing o ≡ true
    → A.server.content (s.opened o).file ≡ s.content (s.opened o).file)
    → (new_log c t l x0 A).bytes q (l.places + 1) ≡ (new_log c t l x0 A).bytes q l.places
unmoved c s t l x0 A q o w given bytes e f =
    let e' = open_kept c t l x0 A q o w.remade e in
    bytes_new c t l x0 A q ∙ (by_test (A.server.standing o) refl e' ∙ sym (bytes_old c t l x0 A q l.places (omega arith)))
  where
    by_test : (b : Bool) → A.server.standing o ≡ b → (new_trace c t l x0 A).open_of q ≡ Some o
        → bytes_behind A.server ((new_trace c t l x0 A).open_of q) (l.bytes q l.places) ≡ l.bytes q l.places
    by_test false z e' = behind_left A.server _ o (l.bytes q l.places) e' z
    by_test true z e' =
        let le = (given q o e).0 in let st = w.steps.stands o le z in
        behind_standing A.server _ o (l.bytes q l.places) e' z ∙ (ap (λ r. A.server.content r.file) (w.steps.row o le z)
        ∙ (f st z ∙ sym (bytes q o e st)))

-- and where its own open was written to
moved : (c : Client) (s : Server) (t : Trace) (l : Log) (x0 : Sent) (A : Answer) (g : ℕ) → Taking c s t x0 A
    → Its c s t g → Bytes s t l → s.standing (file_at c g) ≡ true → A.server.standing (file_at c g) ≡ true
    → (new_log c t l x0 A).bytes (create_at c g) (l.places + 1) ≡ A.server.content (s.opened (file_at c g)).file
    × (new_log c t l x0 A).bytes (create_at c g) l.places ≡ s.content (s.opened (file_at c g)).file
moved c s t l x0 A g w its bytes st sa = (
  bytes_new c t l x0 A (create_at c g) ∙ (behind_standing A.server _ (file_at c g) (l.bytes (create_at c g) l.places)
      (open_kept c t l x0 A (create_at c g) (file_at c g) w.remade its.named) sa ∙ ap (λ r. A.server.content r.file)
      (w.steps.row (file_at c g) its.given sa)),
  bytes_old c t l x0 A (create_at c g) l.places (omega arith) ∙ bytes (create_at c g) (file_at c g) its.named st,
)

-- ---- what the reply said

said_ok : (t : Token) (r : Reply) (v : ContentReply) → said t r ≡ Says_ok v → t ≡ ForOp (op_of t)
    × (r.status == success) ≡ true × v ≡ content_reply r.body
said_ok ForDialog r v e = absurd (cc)
said_ok (ForOp g) r v e = (refl, grind arith, grind arith)
said_ok (ForAttach g) r v e = absurd (cc)

said_end : (t : Token) (r : Reply) → said t r ≡ Says_end → t ≡ ForOp (op_of t) × (r.status == end_of_file) ≡ true
said_end ForDialog r e = absurd (cc)
said_end (ForOp g) r e = (refl, grind arith)
said_end (ForAttach g) r e = absurd (cc)

absorb_token_up : (c : Client) (conns : ℕ → Conn) (s : Server) (t : Trace) (l : Log) (a : ℕ → ℕ) (k : ℕ) (x0 : Sent)
    (rest : List Sent) (A : Answer) → ((conns k).up ≡ x0 ∷ rest) → TokenUp c conns → TokenUp c (Front conns k rest)
absorb_token_up c conns s t l a k x0 rest A is i_token_up =
    λ j n x h. let o = waited conns k x0 rest j n x is h in i_token_up j o.0 x o.1

absorb_token_down : (c : Client) (conns : ℕ → Conn) (s : Server) (t : Trace) (l : Log) (a : ℕ → ℕ) (k : ℕ) (x0 : Sent)
    (rest : List Sent) (A : Answer) → TokenDown c conns → TokenDown c (Front conns k rest)
absorb_token_down c conns s t l a k x0 rest A i_token_down =
    λ j n y h. i_token_down j n y (was_down conns k rest j n y h)

absorb_opens_up : (c : Client) (conns : ℕ → Conn) (s : Server) (t : Trace) (l : Log) (a : ℕ → ℕ) (k : ℕ) (x0 : Sent)
    (rest : List Sent) (A : Answer) → ((conns k).up ≡ x0 ∷ rest) → OpensUp c conns → OpensUp c (Front conns k rest)
absorb_opens_up c conns s t l a k x0 rest A is i_opens_up =
    λ j n x h. let o = waited conns k x0 rest j n x is h in i_opens_up j o.0 x o.1

absorb_asked_as : (c : Client) (conns : ℕ → Conn) (s : Server) (t : Trace) (l : Log) (a : ℕ → ℕ) (k : ℕ) (x0 : Sent)
    (rest : List Sent) (A : Answer) → ((conns k).up ≡ x0 ∷ rest) → AskedAs c conns → AskedAs c (Front conns k rest)
absorb_asked_as c conns s t l a k x0 rest A is i_asked_as =
    λ j n p x h. let o = waited conns k x0 rest j n x is h in i_asked_as j o.0 p x o.1

absorb_first_up : (c : Client) (conns : ℕ → Conn) (s : Server) (t : Trace) (l : Log) (a : ℕ → ℕ) (k : ℕ) (x0 : Sent)
    (rest : List Sent) (A : Answer) → ((conns k).up ≡ x0 ∷ rest) → (Once conns) → (ConnOutstanding c conns)
    → FirstUp c conns l → TokenUp c conns → FirstUp c (Front conns k rest) (new_log c t l x0 A)
absorb_first_up c conns s t l a k x0 rest A is once out i_first_up i_token_up =
    λ j n p x h e ed b. let o = waited conns k x0 rest j n x is h in let old = i_first_up j o.0 p x o.1 e ed b in (
      (open_as_before conns k rest j).0 ∙ old.0,
      first_none c t l x0 A p old.1 (λ z a. let fr = i_first_up k 0 p x0 (front_up (conns k).up x0 rest is) z ed b in
          let tk = (i_token_up j o.0 x o.1 (ops_of x.token p e)).0 in let above = subst (λ g. 0 < g) (ap op_of e) tk in
          apart_of conns k x0 rest j n p x once is z h e
          (some_same j k (sym (out j p old.0 (copies_up conns j o.0 p x o.1 e) above) ∙ front_on c conns k x0 rest p
          out is z fr.0 above))),
    )

absorb_unacted : (c : Client) (conns : ℕ → Conn) (s : Server) (t : Trace) (l : Log) (a : ℕ → ℕ) (k : ℕ) (x0 : Sent)
    (rest : List Sent) (A : Answer) → ((conns k).up ≡ x0 ∷ rest) → (ConnOutstanding c conns) → (OwnUp c conns)
    → Unacted c l → FirstUp c conns l → TokenUp c conns → Unacted c (new_log c t l x0 A)
absorb_unacted c conns s t l a k x0 rest A is out own i_unacted i_first_up i_token_up =
    λ p ed b no un. first_none c t l x0 A p (i_unacted p ed b no un) (λ z a. let f0 = front_up (conns k).up x0 rest is
    in let fr = i_first_up k 0 p x0 f0 z ed b in
    let above = subst (λ g. 0 < g) (ap op_of z) (i_token_up k 0 x0 f0 (ops_of x0.token p z)).0 in let on =
    front_on c conns k x0 rest p out is z fr.0 above in let ak = own k 0 p x0 f0 fr.0 z in absurd (grind arith))

absorb_fresh_first : (c : Client) (conns : ℕ → Conn) (s : Server) (t : Trace) (l : Log) (a : ℕ → ℕ) (k : ℕ) (x0 : Sent)
    (rest : List Sent) (A : Answer) → ((conns k).up ≡ x0 ∷ rest) → (Bodies c conns) → FreshFirst c l
    → FreshFirst c (new_log c t l x0 A)
absorb_fresh_first c conns s t l a k x0 rest A is bodies i_fresh_first =
    λ p u. let old = i_fresh_first p u in (
      first_none c t l x0 A p old.0
          (λ z a. absurd (let b = (bodies k 0 p x0 (front_up (conns k).up x0 rest is) z).0 in grind arith)),
      old.1,
    )

absorb_not_done : (c : Client) (conns : ℕ → Conn) (s : Server) (t : Trace) (l : Log) (a : ℕ → ℕ) (k : ℕ) (x0 : Sent)
    (rest : List Sent) (A : Answer) → ((conns k).up ≡ x0 ∷ rest) → (Once conns) → (ConnOutstanding c conns)
    → (DownOpen conns) → NotDone c conns l → FirstUp c conns l → TokenDown c conns → NotDone c (Front conns k rest)
    (new_log c t l x0 A)
absorb_not_done c conns s t l a k x0 rest A is once out dopen i_not_done i_first_up i_token_down =
    λ j n p y h e ed st b. let h' = was_down conns k rest j n y h in
    first_none c t l x0 A p (i_not_done j n p y h' e ed st b) (λ z a. let f0 = front_up (conns k).up x0 rest is in
    let fr = i_first_up k 0 p x0 f0 z ed b in
    let above = subst (λ g. 0 < g) (ap op_of e) (i_token_down j n y h' (ops_of y.token p e)).0 in let on =
    front_on c conns k x0 rest p out is z fr.0 above in
    reply_twin conns k x0 rest j n p y once is z h' e
    (some_same j k (sym (out j p (down_is_open conns dopen j n y h') (copies_down conns j n p y h' e) above) ∙ on)))

absorb_cut_seq : (c : Client) (conns : ℕ → Conn) (s : Server) (t : Trace) (l : Log) (a : ℕ → ℕ) (k : ℕ) (x0 : Sent)
    (rest : List Sent) (A : Answer) → ((conns k).up ≡ x0 ∷ rest) → CutSeq c conns → CutSeq c (Front conns k rest)
absorb_cut_seq c conns s t l a k x0 rest A is i_cut_seq =
    λ j n p x h e ed op lv se. let o = waited conns k x0 rest j n x is h in i_cut_seq j o.0 p x o.1 e ed
    (sym (open_as_before conns k rest j).0 ∙ op) lv se

absorb_open_seq : (c : Client) (conns : ℕ → Conn) (s : Server) (t : Trace) (l : Log) (a : ℕ → ℕ) (k : ℕ) (x0 : Sent)
    (rest : List Sent) (A : Answer) → ((conns k).up ≡ x0 ∷ rest) → OpenSeq c conns → OpenSeq c (Front conns k rest)
absorb_open_seq c conns s t l a k x0 rest A is i_open_seq =
    λ j n p x h e ed op. let o = waited conns k x0 rest j n x is h in i_open_seq j o.0 p x o.1 e ed
    (sym (open_as_before conns k rest j).0 ∙ op)

absorb_older : (c : Client) (conns : ℕ → Conn) (s : Server) (t : Trace) (l : Log) (a : ℕ → ℕ) (k : ℕ) (x0 : Sent)
    (rest : List Sent) (A : Answer) → ((conns k).up ≡ x0 ∷ rest) → Older c conns → Older c (Front conns k rest)
absorb_older c conns s t l a k x0 rest A is i_older =
    λ j n m p x h. let o = waited conns k x0 rest j n x is h in i_older j o.0 m p x o.1

absorb_no_replay : (c : Client) (conns : ℕ → Conn) (s : Server) (t : Trace) (l : Log) (a : ℕ → ℕ) (k : ℕ) (x0 : Sent)
    (rest : List Sent) (A : Answer) → ((conns k).up ≡ x0 ∷ rest) → NoReplay c conns → NoReplay c (Front conns k rest)
absorb_no_replay c conns s t l a k x0 rest A is i_no_replay =
    λ j n m q p u x h h2. let o = waited conns k x0 rest j n u is h in let o2 = waited conns k x0 rest m q x is h2 in
    i_no_replay j o.0 m o2.0 p u x o.1 o2.1

absorb_copy_pair : (c : Client) (conns : ℕ → Conn) (s : Server) (t : Trace) (l : Log) (a : ℕ → ℕ) (k : ℕ) (x0 : Sent)
    (rest : List Sent) (A : Answer) → ((conns k).up ≡ x0 ∷ rest) → (Taking c s t x0 A)
    → ((j n : ℕ) (x : Sent) → slice_get (conns j).up n ≡ Some x → is_ops x.token ≡ true
    → 0 < c.rank x.message.session_id) → CopyPair c conns s → CopyPair c (Front conns k rest) A.server
absorb_copy_pair c conns s t l a k x0 rest A is w ranked i_copy_pair =
    λ j n p x h e ed. let o = waited conns k x0 rest j n x is h in let old = i_copy_pair j o.0 p x o.1 e ed in
    let z = old.1 in let up = w.steps.ids in (
      w.steps.pair x.message.session_id 0 (file_at c p) (ranked j o.0 x o.1 (ops_of x.token p e)) old.1 old.0,
      omega (arith, z, up),
    )

absorb_now_pair : (c : Client) (conns : ℕ → Conn) (s : Server) (t : Trace) (l : Log) (a : ℕ → ℕ) (k : ℕ) (x0 : Sent)
    (rest : List Sent) (A : Answer) → (Taking c s t x0 A) → (c.live ≡ true → 0 < c.rank c.session) → NowPair c s
    → NowPair c A.server
absorb_now_pair c conns s t l a k x0 rest A w alive i_now_pair =
    λ q at lv. let old = i_now_pair q at lv in let z = old.1 in let up = w.steps.ids in
    (w.steps.pair c.session 0 (c.file q) (alive lv) old.1 old.0, omega (arith, z, up))

absorb_create_reply : (c : Client) (conns : ℕ → Conn) (s : Server) (t : Trace) (l : Log) (a : ℕ → ℕ) (k : ℕ) (x0 : Sent)
    (rest : List Sent) (A : Answer) → (Taking c s t x0 A) → ((j n : ℕ) (y : Received) → slice_get (conns j).down n
    ≡ Some y → is_ops y.token ≡ true → 0 < c.rank c.session) → CreateReply c conns s t
    → CreateReply c (Front conns k rest) A.server (new_trace c t l x0 A)
absorb_create_reply c conns s t l a k x0 rest A w current i_create_reply =
    λ j n p y h e mk st. let h' = was_down conns k rest j n y h in let old = i_create_reply j n p y h' e mk st in
    let z = old.1 in let up = w.steps.ids in (
      w.steps.pair c.session 0 (id_in y.reply.body) (current j n y h' (ops_of y.token p e)) old.1 old.0,
      omega (arith, z, up),
      open_kept c t l x0 A p (id_in y.reply.body) w.remade old.2,
    )

absorb_attach_reply : (c : Client) (conns : ℕ → Conn) (s : Server) (t : Trace) (l : Log) (a : ℕ → ℕ) (k : ℕ) (x0 : Sent)
    (rest : List Sent) (A : Answer) → (Taking c s t x0 A) → ((j n : ℕ) (y : Received) → slice_get (conns j).down n
    ≡ Some y → is_ops y.token ≡ true → 0 < c.rank c.session) → AttachReply c conns s
    → AttachReply c (Front conns k rest) A.server
absorb_attach_reply c conns s t l a k x0 rest A w current i_attach_reply =
    λ j n p y h e st. let h' = was_down conns k rest j n y h in let old = i_attach_reply j n p y h' e st in
    let z = old.1 in let up = w.steps.ids in (
      w.steps.pair c.session 0 (file_at c p) (current j n y h' (attach_of y.token p e)) old.1 old.0,
      omega (arith, z, up),
    )

absorb_reached : (c : Client) (conns : ℕ → Conn) (s : Server) (t : Trace) (l : Log) (a : ℕ → ℕ) (k : ℕ) (x0 : Sent)
    (rest : List Sent) (A : Answer) → (Taking c s t x0 A) → ((j n : ℕ) (y : Received) → slice_get (conns j).down n
    ≡ Some y → is_ops y.token ≡ true → 0 < c.rank c.session) → Reached c conns s → Reached c (Front conns k rest)
    A.server
absorb_reached c conns s t l a k x0 rest A w current i_reached =
    λ j n p y h e ed fm fin. let h' = was_down conns k rest j n y h in let old = i_reached j n p y h' e ed fm fin in
    let z = old.1 in let up = w.steps.ids in (
      w.steps.pair c.session (c.sequence_of p) (file_at c p) (current j n y h' (ops_of y.token p e)) old.1 old.0,
      omega (arith, z, up),
    )

absorb_closed_reply : (c : Client) (conns : ℕ → Conn) (s : Server) (t : Trace) (l : Log) (a : ℕ → ℕ) (k : ℕ) (x0 : Sent)
    (rest : List Sent) (A : Answer) → (Taking c s t x0 A) → ClosedReply c conns s → ClosedReply c (Front conns k rest)
    A.server
absorb_closed_reply c conns s t l a k x0 rest A w i_closed_reply =
    λ j n p y h e ed st. let h' = was_down conns k rest j n y h in let old = i_closed_reply j n p y h' e ed st in
    let z = old.1 in let up = w.steps.ids in (
      still_gone (A.server.standing (file_at c p)) (s.standing (file_at c p)) (w.steps.stands (file_at c p) old.1)
          old.0,
      omega (arith, z, up),
    )

absorb_attach_refused : (c : Client) (conns : ℕ → Conn) (s : Server) (t : Trace) (l : Log) (a : ℕ → ℕ) (k : ℕ)
    (x0 : Sent) (rest : List Sent) (A : Answer) → (Taking c s t x0 A) → AttachRefused c conns s
    → AttachRefused c (Front conns k rest) A.server
absorb_attach_refused c conns s t l a k x0 rest A w i_attach_refused =
    λ j n p y h e ed s1 s2. let h' = was_down conns k rest j n y h in let old = i_attach_refused j n p y h' e ed s1 s2
    in let z = old.1 in let up = w.steps.ids in (
      still_gone (A.server.standing (file_at c p)) (s.standing (file_at c p)) (w.steps.stands (file_at c p) old.1)
          old.0,
      omega (arith, z, up),
    )

absorb_stale_reply : (c : Client) (conns : ℕ → Conn) (s : Server) (t : Trace) (l : Log) (a : ℕ → ℕ) (k : ℕ) (x0 : Sent)
    (rest : List Sent) (A : Answer) → StaleReply c conns → StaleReply c (Front conns k rest)
absorb_stale_reply c conns s t l a k x0 rest A i_stale_reply =
    λ j n p y h. i_stale_reply j n p y (was_down conns k rest j n y h)

absorb_session_seq : (c : Client) (conns : ℕ → Conn) (s : Server) (t : Trace) (l : Log) (a : ℕ → ℕ) (k : ℕ) (x0 : Sent)
    (rest : List Sent) (A : Answer) → (Taking c s t x0 A) → SessionSeq c s → SessionSeq c A.server
absorb_session_seq c conns s t l a k x0 rest A w i_session_seq =
    λ o lv at. by_side o lv (w.session_of_open o c.session at)
  where
    by_side : (o : ℕ) → c.live ≡ true → (s.session_of_open o ≡ Some c.session × A.server.sequence o ≤ s.sequence o)
        ⊎ (A.reached ≡ Some o × c.session ≡ x0.message.session_id × A.server.sequence o ≤ x0.message.channel_sequence)
        → A.server.sequence o ≤ c.sequence
    by_side o lv (inl e) = let old = i_session_seq o lv e.0 in let z = e.1 in omega (arith, old, z)
    by_side o lv (inr e) = let up = w.upto lv (sym e.1) in let z = e.2 in omega (arith, up, z)

absorb_pending_at : (c : Client) (conns : ℕ → Conn) (s : Server) (t : Trace) (l : Log) (a : ℕ → ℕ) (k : ℕ) (x0 : Sent)
    (rest : List Sent) (A : Answer) → (Taking c s t x0 A) → PendingAt c s → PendingAt c A.server
absorb_pending_at c conns s t l a k x0 rest A w i_pending_at =
    λ o j sg e. by_side o j sg (w.session_of_open o c.pending e)
  where
    by_side : (o j : ℕ) → c.stage j ≡ AskedTree
        → (s.session_of_open o ≡ Some c.pending × A.server.sequence o ≤ s.sequence o)
        ⊎ (A.reached ≡ Some o × c.pending ≡ x0.message.session_id × A.server.sequence o ≤ x0.message.channel_sequence)
        → ⊥
    by_side o j sg (inl e) = i_pending_at o j sg e.0
    by_side o j sg (inr e) = w.fresh (w.ops o e.0) j sg (sym e.1)

absorb_live_unsettled : (c : Client) (conns : ℕ → Conn) (s : Server) (t : Trace) (l : Log) (a : ℕ → ℕ) (k : ℕ)
    (x0 : Sent) (rest : List Sent) (A : Answer) → ((conns k).up ≡ x0 ∷ rest) → (Taking c s t x0 A)
    → ((j n : ℕ) (x : Sent) → slice_get (conns j).up n ≡ Some x → is_ops x.token ≡ true
    → 0 < c.rank x.message.session_id) → LiveUnsettled c conns s → CopyPair c conns s
    → LiveUnsettled c (Front conns k rest) A.server
absorb_live_unsettled c conns s t l a k x0 rest A is w ranked i_live_unsettled i_copy_pair =
    λ j n p x h e ed fm sd pr le. let o = waited conns k x0 rest j n x is h in let cp = i_copy_pair j o.0 p x o.1 e ed
    in let b = live_back c.rank s A.server x.message.session_id x.message.channel_sequence (file_at c p) w.steps
    (ranked j o.0 x o.1 (ops_of x.token p e)) cp.1 cp.0 sd pr le in i_live_unsettled j o.0 p x o.1 e ed fm b.0 b.1
    b.2

absorb_live_replay : (c : Client) (conns : ℕ → Conn) (s : Server) (t : Trace) (l : Log) (a : ℕ → ℕ) (k : ℕ) (x0 : Sent)
    (rest : List Sent) (A : Answer) → ((conns k).up ≡ x0 ∷ rest) → (Taking c s t x0 A) → (Once conns)
    → ((j n : ℕ) (x : Sent) → slice_get (conns j).up n ≡ Some x → is_ops x.token ≡ true
    → 0 < c.rank x.message.session_id) → LiveReplay c conns s l → CopyPair c conns s → NoReplay c conns
    → LiveReplay c (Front conns k rest) A.server (new_log c t l x0 A)
absorb_live_replay c conns s t l a k x0 rest A is w once ranked i_live_replay i_copy_pair i_no_replay =
    λ j n p x h e ed sd pr le so. let o = waited conns k x0 rest j n x is h in let cp = i_copy_pair j o.0 p x o.1 e ed in
    let b = live_back c.rank s A.server x.message.session_id x.message.channel_sequence (file_at c p) w.steps
    (ranked j o.0 x o.1 (ops_of x.token p e)) cp.1 cp.0 sd pr le in let f = some_of ((new_log c t l x0 A).first p)
    so in
    by_first j n p x h e ed sd pr le b.0 b.1 ((cp.0 b.0 b.1).0) o.0 o.1 (λ z. i_live_replay j o.0 p x o.1 e ed b.0 b.1
    b.2 z) (first_was c t l x0 A p f.0 f.1)
  where
    by_first : (j n p : ℕ) (x : Sent) → slice_get (Front conns k rest j).up n ≡ Some x → x.token ≡ ForOp p
        → edits (c.op p) ≡ true → A.server.standing (file_at c p) ≡ true → A.server.present x.message.session_id ≡ true
        → A.server.sequence (file_at c p) ≤ x.message.channel_sequence
        → s.standing (file_at c p) ≡ true → s.present x.message.session_id ≡ true → s.session_of_open (file_at c p)
        ≡ Some x.message.session_id → (m : ℕ) → slice_get (conns j).up m ≡ Some x
        → (is_some (l.first p) ≡ true → x.message.replay ≡ true)
        → {v : ℕ} → (l.first p ≡ Some v) ⊎ (x0.token ≡ ForOp p × A.acted ≡ true × v ≡ l.places) → x.message.replay ≡ true
    by_first j n p x h e ed sd pr le st there at m hm old (inl z) = old (ap is_some z)
    by_first j n p x h e ed sd pr le st there at m hm old (inr z) =
        let a = acts_of c s t x0 A p w z.0 (lists_of (c.op p) ed) z.1 in let same : x.message.session_id
        ≡ x0.message.session_id = some_same _ _ (sym at ∙ a.session_of_open) in
        not_false x.message.replay (λ r.
        let less = i_no_replay j m k 0 p x x0 hm (front_up (conns k).up x0 rest is) e z.0 ed
        (apart_of conns k x0 rest j n p x once is z.0 h e) same r in
        let pair = ((w.reached (file_at c p) a.reached).1 sd (subst (λ y. A.server.present y ≡ true) same pr)).1 in
        absurd (omega (arith, less, pair, le)))
      where
        not_false : (b : Bool) → (b ≡ false → ⊥) → b ≡ true
        not_false true f = refl
        not_false false f = absurd (f refl)

absorb_shows : (c : Client) (conns : ℕ → Conn) (s : Server) (t : Trace) (l : Log) (a : ℕ → ℕ) (k : ℕ) (x0 : Sent)
    (rest : List Sent) (A : Answer) → ((conns k).up ≡ x0 ∷ rest) → (Taking c s t x0 A) → (Bodies c conns)
    → ((g : ℕ) → c.sent g ≡ true → makes_open (c.op g) ≡ false
    → (makes_open (c.op g) || is_ok (c.outcome (create_at c g))) ≡ true × makes_open (c.op (create_at c g)) ≡ true)
    → Shows c s l → Denied s → FreshFirst c l → LiveUnsettled c conns s → OpenGiven c s t → OpenOf c t → OpenRow c s t
    → Pairwise c → Shows c A.server (new_log c t l x0 A)
absorb_shows c conns s t l a k x0 rest A is w bodies sent_opens i_shows i_denied i_fresh_first i_live_unsettled
    i_open_given i_open_of i_open_row i_pairwise =
    λ p ed iso sd pe so. let f = some_of ((new_log c t l x0 A).first p) so in let st =
    went_out p (first_was c t l x0 A p f.0 f.1) in let og = sent_opens p st (edits_other (c.op p) ed) in
    let its = its_open c s t p og.0 (edits_other (c.op p) ed) og.1 i_open_of i_open_given in let stood =
    w.steps.stands (file_at c p) its.given sd in
    subst (λ r. bytes_after (c.op p) (A.server.content r.file) ≡ A.server.content r.file)
    (sym (w.steps.row (file_at c p) its.given sd))
    (by_first p ed iso sd pe st its stood (first_was c t l x0 A p f.0 f.1))
  where
    went_out : (p : ℕ) {v : ℕ} → (l.first p ≡ Some v) ⊎ (x0.token ≡ ForOp p × A.acted ≡ true × v ≡ l.places) → c.sent p ≡ true
    went_out p (inl z) = sent_of (c.sent p) (l.first p) (λ u. (i_fresh_first p u).0) (ap is_some z)
    went_out p (inr z) = (bodies k 0 p x0 (front_up (conns k).up x0 rest is) z.0).0

    own : (p : ℕ) → x0.token ≡ ForOp p → A.acted ≡ true → edits (c.op p) ≡ true
        → bytes_after (c.op p) (A.server.content (s.opened (file_at c p)).file)
        ≡ A.server.content (s.opened (file_at c p)).file
    own p tk ac ed =
        let a = acts_of c s t x0 A p w tk (lists_of (c.op p) ed) ac in
        after_is (c.op p) _ ∙ subst (λ b. effect (content_op (c.op p)) b ≡ b) (sym a.bytes)
        (effect-twice (content_op (c.op p)) (s.content (s.opened (file_at c p)).file))

    apart : (p h : ℕ) → p ≢ h → c.sent p ≡ true → c.sent h ≡ true → edits (c.op p) ≡ true → edits (c.op h) ≡ true
        → create_at c p ≡ create_at c h → pends c p ≡ true → pends c h ≡ true → collides (content_op (c.op p))
        (content_op (c.op h)) ≡ false
    apart p h ne sp sh ep eh cr pp ph = by_order (nat_order p h ne)
      where
        nat_order : (a b : ℕ) → a ≢ b → (a < b) ⊎ (b < a)
        nat_order a b n = grind arith

        by_order : (p < h) ⊎ (h < p) → collides (content_op (c.op p)) (content_op (c.op h)) ≡ false
        by_order (inl y) = apart_is (c.op p) (c.op h) (i_pairwise p h y sh ep eh cr pp ph)
        by_order (inr y) = collides_comm (content_op (c.op p)) (content_op (c.op h)) ∙ apart_is (c.op h) (c.op p)
            (i_pairwise h p y sp eh ep (sym cr) ph pp)

    other : (p h : ℕ) → p ≢ h → x0.token ≡ ForOp h → lists (c.op h) ≡ true → create_at c h ≡ create_at c p → file_at c h
        ≡ file_at c p → A.acted ≡ true → edits (c.op p) ≡ true → c.sent p ≡ true → pends c p ≡ true
        → bytes_after (c.op p) (s.content (s.opened (file_at c p)).file) ≡ s.content (s.opened (file_at c p)).file
        → bytes_after (c.op p) (A.server.content (s.opened (file_at c p)).file)
        ≡ A.server.content (s.opened (file_at c p)).file
    other p h ne tk ls cr fo ac ed sp pe sh =
        let a = acts_of c s t x0 A h w tk ls ac in let sent_h = (bodies k 0 h x0 (front_up (conns k).up x0 rest is) tk).0 in
        let ph = acting_pends c conns s k x0 rest A h i_live_unsettled is tk a in
        let b : A.server.content (s.opened (file_at c p)).file ≡ effect (content_op (c.op h))
        (s.content (s.opened (file_at c p)).file) = subst (λ f. A.server.content (s.opened f).file
        ≡ effect (content_op (c.op h)) (s.content (s.opened f).file)) fo a.bytes in
        after_is (c.op p) _ ∙ subst (λ v. effect (content_op (c.op p)) v ≡ v) (sym b)
        (effect-kept (content_op (c.op p)) (content_op (c.op h)) (s.content (s.opened (file_at c p)).file)
        (apart p h ne sp sent_h ed a.edit (sym cr) pe ph) (sym (after_is (c.op p) _) ∙ sh))

    by_touch : (p : ℕ) → edits (c.op p) ≡ true → c.sent p ≡ true → pends c p ≡ true
        → bytes_after (c.op p) (s.content (s.opened (file_at c p)).file) ≡ s.content (s.opened (file_at c p)).file
        → (A.server.content (s.opened (file_at c p)).file ≡ s.content (s.opened (file_at c p)).file)
        ⊎ ((g : ℕ) × ((x0.token ≡ ForOp g) × (lists (c.op g) ≡ true) × (create_at c g ≡ create_at c p)
        × (file_at c g ≡ file_at c p) × (A.acted ≡ true)))
        → bytes_after (c.op p) (A.server.content (s.opened (file_at c p)).file) ≡ A.server.content (s.opened (file_at c p)).file
    by_touch p ed sp pe sh (inl y) = subst (λ b. bytes_after (c.op p) b ≡ b) (sym y) sh
    by_touch p ed sp pe sh (inr (h, f)) =
        elim (p == h) as (λ b. p == h ≡ b → bytes_after (c.op p) (A.server.content (s.opened (file_at c p)).file)
        ≡ A.server.content (s.opened (file_at c p)).file) [
          | true ↦ λ z. own p (f.0 ∙ ap ForOp (sym (eqb-true p h z))) f.4 ed
          | false ↦ λ z. other p h (eqb-false p h z) f.0 f.1 f.2 f.3 f.4 ed sp pe sh
        ] refl

    by_first : (p : ℕ) → edits (c.op p) ≡ true → isolating (c.op (create_at c p)) ≡ true
        → A.server.standing (file_at c p) ≡ true → pends c p ≡ true → c.sent p ≡ true → Its c s t p
        → s.standing (file_at c p) ≡ true
        → {v : ℕ} → (l.first p ≡ Some v) ⊎ (x0.token ≡ ForOp p × A.acted ≡ true × v ≡ l.places)
        → bytes_after (c.op p) (A.server.content (s.opened (file_at c p)).file)
        ≡ A.server.content (s.opened (file_at c p)).file
    by_first p ed iso sd pe sp its st (inr z) = own p z.0 z.1 ed
    by_first p ed iso sd pe sp its st (inl z) =
        by_touch p ed sp pe (i_shows p ed iso st pe (ap is_some z))
        (untouched c s t x0 A (create_at c p) (file_at c p) w i_denied i_open_of i_open_given i_open_row
        (λ g tk ls. sent_opens g (bodies k 0 g x0 (front_up (conns k).up x0 rest is) tk).0
        (lists_other (c.op g) ls)) its.named st sd iso)

absorb_denied : (c : Client) (conns : ℕ → Conn) (s : Server) (t : Trace) (l : Log) (a : ℕ → ℕ) (k : ℕ) (x0 : Sent)
    (rest : List Sent) (A : Answer) → (Taking c s t x0 A) → Denied s → Denied A.server
absorb_denied c conns s t l a k x0 rest A w i_denied =
    w.changing.denied i_denied

absorb_open_of : (c : Client) (conns : ℕ → Conn) (s : Server) (t : Trace) (l : Log) (a : ℕ → ℕ) (k : ℕ) (x0 : Sent)
    (rest : List Sent) (A : Answer) → (Taking c s t x0 A) → OpenOf c t → OpenOf c (new_trace c t l x0 A)
absorb_open_of c conns s t l a k x0 rest A w i_open_of =
    λ q mk o. open_kept c t l x0 A q (c.file q) w.remade (i_open_of q mk o)

absorb_named_open : (c : Client) (conns : ℕ → Conn) (s : Server) (t : Trace) (l : Log) (a : ℕ → ℕ) (k : ℕ) (x0 : Sent)
    (rest : List Sent) (A : Answer) → (Taking c s t x0 A) → NamedOpen c s t
    → NamedOpen c A.server (new_trace c t l x0 A)
absorb_named_open c conns s t l a k x0 rest A w i_named_open =
    λ q o e. by_side q o (w.making.guid c.who.guid (guid_for c q) o e)
  where
    by_side : (q o : ℕ) → (s.by_guid c.who.guid (guid_for c q) ≡ Some o) ⊎ (creates x0.message.command ≡ true × A.acted
        ≡ true × A.reached ≡ Some o × c.who.guid ≡ x0.message.client_guid × asks_guid x0.message.command
        ≡ Some (guid_for c q)) → (new_trace c t l x0 A).open_of q ≡ Some o
    by_side q o (inl e) = open_kept c t l x0 A q o w.remade (i_named_open q o e)
    by_side q o (inr e) = own q o (w.creator e.0 e.1) e.1 e.2 e.4
      where
        same_guid : (c : Client) (g q : ℕ) → guid_for c g ≡ guid_for c q → g ≡ q
        same_guid c g q e = omega (arith, e)

        some_guid : (x y : ℕ) → Some x ≡ Some y → x ≡ y
        some_guid x y h = grind arith

        opened_here : (g : ℕ) → makes c x0.token A ≡ true → op_of x0.token ≡ g → (new_trace c t l x0 A).open_of g ≡ A.reached
        opened_here g m z = grind arith

        own : (q o : ℕ) → ((g : ℕ) × ((x0.token ≡ ForOp g) × (makes_open (c.op g) ≡ true)
            × (asks_guid x0.message.command ≡ Some (guid_for c g))
            × (asks_share x0.message.command ≡ share_of (c.op g)))) → A.acted ≡ true → A.reached ≡ Some o
            → asks_guid x0.message.command ≡ Some (guid_for c q)
            → (new_trace c t l x0 A).open_of q ≡ Some o
        own q o (g, f) ac r z =
            let gq : g ≡ q = same_guid c g q (some_guid _ _ (sym f.2 ∙ z)) in
            subst (λ p. (new_trace c t l x0 A).open_of p ≡ Some o) gq
            (opened_here g (makes_it c x0.token A g f.0 f.1 ac) (ap op_of f.0) ∙ r)

absorb_open_given : (c : Client) (conns : ℕ → Conn) (s : Server) (t : Trace) (l : Log) (a : ℕ → ℕ) (k : ℕ) (x0 : Sent)
    (rest : List Sent) (A : Answer) → (Taking c s t x0 A) → ((conns k).up ≡ x0 ∷ rest) → (Bodies c conns)
    → OpenGiven c s t → OpenGiven c A.server (new_trace c t l x0 A)
absorb_open_given c conns s t l a k x0 rest A w is bodies i_open_given =
    λ q o e. by_side q o (open_was c t l x0 A q o e)
  where
    by_side : (q o : ℕ) → (t.open_of q ≡ Some o) ⊎ (makes c x0.token A ≡ true × q ≡ op_of x0.token × A.reached ≡ Some o)
        → o ≤ last_id A.server × makes_open (c.op q) ≡ true × c.sent q ≡ true
    by_side q o (inl e) = let old = i_open_given q o e in let z = old.0 in let up = w.steps.ids in (omega (arith, z, up), old.1, old.2)
    by_side q o (inr e) =
        let m = made_own c x0.token A e.0 in (
          (w.reached o e.2).0,
          subst (λ g. makes_open (c.op g) ≡ true) (sym e.1) m.2,
          subst (λ g. c.sent g ≡ true)
              (sym e.1) (bodies k 0 (op_of x0.token) x0 (front_up (conns k).up x0 rest is) (own_of x0.token m.0)).0,
        )

absorb_open_row : (c : Client) (conns : ℕ → Conn) (s : Server) (t : Trace) (l : Log) (a : ℕ → ℕ) (k : ℕ) (x0 : Sent)
    (rest : List Sent) (A : Answer) → (Taking c s t x0 A) → OpenRow c s t → OpenGiven c s t
    → OpenRow c A.server (new_trace c t l x0 A)
absorb_open_row c conns s t l a k x0 rest A w i_open_row i_open_given =
    λ q o e st. by_side q o st (open_was c t l x0 A q o e)
  where
    by_side : (q o : ℕ) → A.server.standing o ≡ true → (t.open_of q ≡ Some o)
        ⊎ (makes c x0.token A ≡ true × q ≡ op_of x0.token × A.reached ≡ Some o) → (A.server.opened o).create_guid
        ≡ Some (guid_for c q) × (A.server.opened o).client_guid ≡ c.who.guid × (A.server.opened o).share
        ≡ share_of (c.op q)
    by_side q o st (inl e) =
        let g = (i_open_given q o e).0 in let row = w.steps.row o g st in
        subst (λ r. r.create_guid ≡ Some (guid_for c q) × r.client_guid ≡ c.who.guid × r.share ≡ share_of (c.op q))
        (sym row) (i_open_row q o e (w.steps.stands o g st))
    by_side q o st (inr e) = own q o (w.makes_create e.0) (made_own c x0.token A e.0).1 e.1 e.2
        (w.creator (w.makes_create e.0) (made_own c x0.token A e.0).1)
      where
        own : (q o : ℕ) → creates x0.message.command ≡ true → A.acted ≡ true → q ≡ op_of x0.token → A.reached ≡ Some o
            → ((g : ℕ) × ((x0.token ≡ ForOp g) × (makes_open (c.op g) ≡ true)
            × (asks_guid x0.message.command ≡ Some (guid_for c g))
            × (asks_share x0.message.command ≡ share_of (c.op g))))
            → (A.server.opened o).create_guid ≡ Some (guid_for c q) × (A.server.opened o).client_guid ≡ c.who.guid
            × (A.server.opened o).share ≡ share_of (c.op q)
        own q o cr ac z r (g, f) =
            let row = w.making.row o cr ac r in let gq : g ≡ q = ap op_of (sym f.0) ∙ sym z in (
              subst (λ p. (A.server.opened o).create_guid ≡ Some (guid_for c p)) gq (row.0 ∙ f.2),
              row.1 ∙ w.client,
              subst (λ p. (A.server.opened o).share ≡ share_of (c.op p)) gq (row.2 ∙ f.3),
            )

absorb_open_acted : (c : Client) (conns : ℕ → Conn) (s : Server) (t : Trace) (l : Log) (a : ℕ → ℕ) (k : ℕ) (x0 : Sent)
    (rest : List Sent) (A : Answer) → OpenActed t a → OpenActed (new_trace c t l x0 A) (new_acts a x0 A)
absorb_open_acted c conns s t l a k x0 rest A i_open_acted =
    λ q o e. by_side q o (open_was c t l x0 A q o e)
  where
    by_side : (q o : ℕ) → (t.open_of q ≡ Some o) ⊎ (makes c x0.token A ≡ true × q ≡ op_of x0.token × A.reached ≡ Some o)
        → 1 ≤ new_acts a x0 A q
    by_side q o (inl e) = let old = i_open_acted q o e in grind arith
    by_side q o (inr e) = let m = made_own c x0.token A e.0 in let own = own_of x0.token m.0 in acted_more q (ap (is_send_of q) own) m.1 e.1
      where
        same_test : (n m : ℕ) → n ≡ m → is_send_of n (ForOp m) ≡ true
        same_test n m e = grind arith

        acted_more : (q : ℕ) → is_send_of q x0.token ≡ is_send_of q (ForOp (op_of x0.token)) → A.acted ≡ true → q
            ≡ op_of x0.token → 1 ≤ new_acts a x0 A q
        acted_more q e ac z = let y = e ∙ same_test q (op_of x0.token) z in grind arith

absorb_bytes : (c : Client) (conns : ℕ → Conn) (s : Server) (t : Trace) (l : Log) (a : ℕ → ℕ) (k : ℕ) (x0 : Sent)
    (rest : List Sent) (A : Answer) → Bytes s t l → Bytes A.server (new_trace c t l x0 A) (new_log c t l x0 A)
absorb_bytes c conns s t l a k x0 rest A i_bytes =
    λ q o e st. put_self (l.bytes q) (l.places + 1) (bytes_behind A.server ((new_trace c t l x0 A).open_of q)
    (l.bytes q l.places)) ∙ now_standing A.server ((new_trace c t l x0 A).open_of q) o (l.bytes q l.places) e st
  where
    now_standing : (u : Server) (x : Option ℕ) (o : ℕ) (b : List ℕ) → x ≡ Some o → u.standing o ≡ true
        → bytes_behind u x b ≡ u.content (u.opened o).file
    now_standing u x o b e st = grind arith

absorb_quiet : (c : Client) (conns : ℕ → Conn) (s : Server) (t : Trace) (l : Log) (a : ℕ → ℕ) (k : ℕ) (x0 : Sent)
    (rest : List Sent) (A : Answer) → (Taking c s t x0 A) → ((g : ℕ) → x0.token ≡ ForOp g → lists (c.op g) ≡ true
    → (makes_open (c.op g) || is_ok (c.outcome (create_at c g))) ≡ true × makes_open (c.op (create_at c g)) ≡ true)
    → Quiet c t l → Bytes s t l → Denied s → OpenGiven c s t → OpenOf c t → OpenRow c s t
    → Quiet c (new_trace c t l x0 A) (new_log c t l x0 A)
absorb_quiet c conns s t l a k x0 rest A w opens i_quiet i_bytes i_denied i_open_given i_open_of i_open_row =
    λ n q lt mk b iso. let f = some_of ((new_trace c t l x0 A).open_of q) mk in
    split (λ m. (new_log c t l x0 A).birth q ≤ m → (new_log c t l x0 A).did m ≡ false → (new_log c t l x0 A).bytes q
    (m + 1) ≡ (new_log c t l x0 A).bytes q m) l.places n lt
    (λ z bb d. let g = made_before c t l x0 A q n f.0 (omega (arith, z)) f.1 bb in bytes_old c t l x0 A q (n + 1)
    (omega (arith, z)) ∙ (i_quiet n q z (ap is_some g.0) g.1 iso
    (sym (put_old l.did l.places (is_own x0.token && A.acted) n z) ∙ d)
    ∙ sym (bytes_old c t l x0 A q n (omega (arith, z)))))
    (λ bb d. let g = made_before c t l x0 A q l.places f.0 (omega arith) f.1 bb in unmoved c s t l x0 A q f.0 w i_open_given i_bytes g.0
    (λ st sa. by_touch (sym (put_self l.did l.places (is_own x0.token && A.acted)) ∙ d)
    (untouched c s t x0 A q f.0 w i_denied i_open_of i_open_given i_open_row opens g.0 st sa iso))) b
  where
    own_acts : (g : ℕ) → x0.token ≡ ForOp g → A.acted ≡ true → (is_own x0.token && A.acted) ≡ false → ⊥
    own_acts g tk ac d = absurd (grind arith)

    by_touch : {q o : ℕ} {x y : List ℕ} → (is_own x0.token && A.acted) ≡ false → (x ≡ y)
        ⊎ ((g : ℕ) × ((x0.token ≡ ForOp g) × (lists (c.op g) ≡ true) × (create_at c g ≡ q) × (file_at c g ≡ o)
        × (A.acted ≡ true))) → x ≡ y
    by_touch d (inl z) = z
    by_touch d (inr (g, f)) = absurd (own_acts g f.0 f.4 d)

absorb_foreign : (c : Client) (conns : ℕ → Conn) (s : Server) (t : Trace) (l : Log) (a : ℕ → ℕ) (k : ℕ) (x0 : Sent)
    (rest : List Sent) (A : Answer) → (Taking c s t x0 A) → ((g : ℕ) → x0.token ≡ ForOp g → lists (c.op g) ≡ true
    → (makes_open (c.op g) || is_ok (c.outcome (create_at c g))) ≡ true × makes_open (c.op (create_at c g)) ≡ true)
    → Foreign c t l → Bytes s t l → Denied s → OpenGiven c s t → OpenOf c t → OpenRow c s t
    → Foreign c (new_trace c t l x0 A) (new_log c t l x0 A)
absorb_foreign c conns s t l a k x0 rest A w opens i_foreign i_bytes i_denied i_open_given i_open_of i_open_row =
    λ n q lt mk b iso. let f = some_of ((new_trace c t l x0 A).open_of q) mk in
    split (λ m. (new_log c t l x0 A).birth q ≤ m → ((create_at c ((new_log c t l x0 A).who m) == q)
    && lists (c.op ((new_log c t l x0 A).who m))) ≡ false → (new_log c t l x0 A).bytes q (m + 1)
    ≡ (new_log c t l x0 A).bytes q m) l.places n lt
    (λ z bb d. let g = made_before c t l x0 A q n f.0 (omega (arith, z)) f.1 bb in bytes_old c t l x0 A q (n + 1)
    (omega (arith, z)) ∙ (i_foreign n q z (ap is_some g.0) g.1 iso
    (subst (λ h. ((create_at c h == q) && lists (c.op h)) ≡ false) (put_old l.who l.places (op_of x0.token) n z) d)
    ∙ sym (bytes_old c t l x0 A q n (omega (arith, z)))))
    (λ bb d. let g = made_before c t l x0 A q l.places f.0 (omega arith) f.1 bb in unmoved c s t l x0 A q f.0 w i_open_given i_bytes g.0
    (λ st sa. by_touch (subst (λ h. ((create_at c h == q) && lists (c.op h)) ≡ false)
    (put_self l.who l.places (op_of x0.token)) d) (untouched c s t x0 A q f.0 w i_denied i_open_of i_open_given
    i_open_row opens g.0 st sa iso))) b
  where
    its_own : (g q : ℕ) → op_of x0.token ≡ g → create_at c g ≡ q → lists (c.op g) ≡ true
        → ((create_at c (op_of x0.token) == q) && lists (c.op (op_of x0.token))) ≡ false → ⊥
    its_own g q z e ls d = absurd (its_test (create_at c (op_of x0.token)) q (lists (c.op (op_of x0.token)))
        (ap (create_at c) z ∙ e) (ap (λ h. lists (c.op h)) z ∙ ls) d)
      where
        its_test : (a b : ℕ) (t : Bool) → a ≡ b → t ≡ true → ((a == b) && t) ≡ false → ⊥
        its_test a b t e f d = absurd (grind arith)

    by_touch : {q o : ℕ} {x y : List ℕ} → ((create_at c (op_of x0.token) == q) && lists (c.op (op_of x0.token))) ≡ false
        → (x ≡ y) ⊎ ((g : ℕ) × ((x0.token ≡ ForOp g) × (lists (c.op g) ≡ true) × (create_at c g ≡ q) × (file_at c g ≡ o)
        × (A.acted ≡ true))) → x ≡ y
    by_touch d (inl z) = z
    by_touch {q} d (inr (g, f)) = absurd (its_own g q (ap op_of f.0) f.2 f.1 d)

absorb_acted : (c : Client) (conns : ℕ → Conn) (s : Server) (t : Trace) (l : Log) (a : ℕ → ℕ) (k : ℕ) (x0 : Sent)
    (rest : List Sent) (A : Answer) → ((conns k).up ≡ x0 ∷ rest) → (Taking c s t x0 A)
    → ((g : ℕ) → x0.token ≡ ForOp g → lists (c.op g) ≡ true → (makes_open (c.op g) || is_ok (c.outcome (create_at c g)))
    ≡ true × makes_open (c.op (create_at c g)) ≡ true) → Acted c l → Bytes s t l → LiveReplay c conns s l
    → LiveUnsettled c conns s → OpenGiven c s t → OpenOf c t → Shows c s l → Acted c (new_log c t l x0 A)
absorb_acted c conns s t l a k x0 rest A is w opens i_acted i_bytes i_live_replay i_live_unsettled i_open_given i_open_of i_shows =
    λ n lt. split (λ m. (new_log c t l x0 A).did m ≡ true → lists (c.op ((new_log c t l x0 A).who m)) ≡ true
    → isolating (c.op (create_at c ((new_log c t l x0 A).who m))) ≡ true
    → (new_log c t l x0 A).first ((new_log c t l x0 A).who m) ≡ Some m × edits (c.op ((new_log c t l x0 A).who m))
    ≡ true × (new_log c t l x0 A).bytes (create_at c ((new_log c t l x0 A).who m)) (m + 1)
    ≡ bytes_after (c.op ((new_log c t l x0 A).who m))
    ((new_log c t l x0 A).bytes (create_at c ((new_log c t l x0 A).who m)) m)) l.places n lt
    (λ z d. subst (λ h. lists (c.op h) ≡ true → isolating (c.op (create_at c h)) ≡ true → (new_log c t l x0 A).first h
    ≡ Some n × edits (c.op h) ≡ true × (new_log c t l x0 A).bytes (create_at c h) (n + 1)
    ≡ bytes_after (c.op h) ((new_log c t l x0 A).bytes (create_at c h) n))
    (sym (put_old l.who l.places (op_of x0.token) n z))
    (λ ls iso. let old = i_acted n z (sym (put_old l.did l.places (is_own x0.token && A.acted) n z) ∙ d) ls iso in (
      first_kept c t l x0 A (l.who n) n old.0,
      old.1,
      bytes_old c t l x0 A (create_at c (l.who n)) (n + 1)
          (omega (arith, z)) ∙ (old.2 ∙ ap (bytes_after (c.op (l.who n)))
          (sym (bytes_old c t l x0 A (create_at c (l.who n)) n (omega (arith, z))))),
    )))
    (λ d. subst (λ h. lists (c.op h) ≡ true → isolating (c.op (create_at c h)) ≡ true → (new_log c t l x0 A).first h
    ≡ Some l.places × edits (c.op h) ≡ true × (new_log c t l x0 A).bytes (create_at c h) (l.places + 1)
    ≡ bytes_after (c.op h) ((new_log c t l x0 A).bytes (create_at c h) l.places))
    (sym (put_self l.who l.places (op_of x0.token)))
    (λ ls iso. own (op_of x0.token)
    (own_of x0.token (did_own (sym (put_self l.did l.places (is_own x0.token && A.acted)) ∙ d)).0)
    (did_own (sym (put_self l.did l.places (is_own x0.token && A.acted)) ∙ d)).1 ls iso))
  where
    did_own : (is_own x0.token && A.acted) ≡ true → is_own x0.token ≡ true × A.acted ≡ true
    did_own d = (grind arith, grind arith)

    own : (g : ℕ) → x0.token ≡ ForOp g → A.acted ≡ true → lists (c.op g) ≡ true → isolating (c.op (create_at c g)) ≡ true
        → (new_log c t l x0 A).first g ≡ Some l.places × edits (c.op g) ≡ true × (new_log c t l x0 A).bytes
        (create_at c g) (l.places + 1) ≡ bytes_after (c.op g) ((new_log c t l x0 A).bytes (create_at c g) l.places)
    own g tk ac ls iso =
        let a = acts_of c s t x0 A g w tk ls ac in let og = opens g tk ls in let its = its_open c s t g og.0
        (lists_other (c.op g) ls) og.1 i_open_of i_open_given in
        let m = moved c s t l x0 A g w its i_bytes a.stands a.still in (
          first_new c t l x0 A g tk ac (acting c conns s t l k x0 rest A g w i_live_unsettled i_live_replay i_shows is tk
              ls ac iso),
          a.edit,
          m.0 ∙ (a.bytes ∙ (sym (after_is (c.op g) _) ∙ ap (bytes_after (c.op g)) (sym m.1))),
        )

absorb_gave : (c : Client) (conns : ℕ → Conn) (s : Server) (t : Trace) (l : Log) (a : ℕ → ℕ) (k : ℕ) (x0 : Sent)
    (rest : List Sent) (A : Answer) → (Taking c s t x0 A) → ((g : ℕ) → x0.token ≡ ForOp g → lists (c.op g) ≡ true
    → (makes_open (c.op g) || is_ok (c.outcome (create_at c g))) ≡ true × makes_open (c.op (create_at c g)) ≡ true)
    → Gave c l → Bytes s t l → OpenGiven c s t → OpenOf c t → Gave c (new_log c t l x0 A)
absorb_gave c conns s t l a k x0 rest A w opens i_gave i_bytes i_open_given i_open_of =
    λ n v lt. split (λ m. lists (c.op ((new_log c t l x0 A).who m)) ≡ true → (new_log c t l x0 A).gave m ≡ Says_ok v
    → reply_to (c.op ((new_log c t l x0 A).who m))
    ((new_log c t l x0 A).bytes (create_at c ((new_log c t l x0 A).who m)) m) ≡ v × (new_log c t l x0 A).bytes
    (create_at c ((new_log c t l x0 A).who m)) (m + 1) ≡ bytes_after (c.op ((new_log c t l x0 A).who m))
    ((new_log c t l x0 A).bytes (create_at c ((new_log c t l x0 A).who m)) m)
    × ends_before (c.op ((new_log c t l x0 A).who m))
    ((new_log c t l x0 A).bytes (create_at c ((new_log c t l x0 A).who m)) m) ≡ false) l.places n lt
    (λ z. subst (λ h. lists (c.op h) ≡ true → (new_log c t l x0 A).gave n ≡ Says_ok v
    → reply_to (c.op h) ((new_log c t l x0 A).bytes (create_at c h) n) ≡ v × (new_log c t l x0 A).bytes
    (create_at c h) (n + 1) ≡ bytes_after (c.op h) ((new_log c t l x0 A).bytes (create_at c h) n)
    × ends_before (c.op h) ((new_log c t l x0 A).bytes (create_at c h) n) ≡ false)
    (sym (put_old l.who l.places (op_of x0.token) n z))
    (λ ls gv. let old = i_gave n v z ls (sym (put_old l.gave l.places (said x0.token A.reply) n z) ∙ gv) in
    let e1 = bytes_old c t l x0 A (create_at c (l.who n)) n (omega (arith, z)) in let e2 = bytes_old c t l x0 A
    (create_at c (l.who n)) (n + 1) (omega (arith, z)) in (
      ap (reply_to (c.op (l.who n))) e1 ∙ old.0,
      e2 ∙ (old.1 ∙ ap (bytes_after (c.op (l.who n))) (sym e1)),
      ap (ends_before (c.op (l.who n))) e1 ∙ old.2,
    )))
    (subst (λ h. lists (c.op h) ≡ true → (new_log c t l x0 A).gave l.places ≡ Says_ok v
    → reply_to (c.op h) ((new_log c t l x0 A).bytes (create_at c h) l.places) ≡ v × (new_log c t l x0 A).bytes
    (create_at c h) (l.places + 1) ≡ bytes_after (c.op h) ((new_log c t l x0 A).bytes (create_at c h) l.places)
    × ends_before (c.op h) ((new_log c t l x0 A).bytes (create_at c h) l.places) ≡ false)
    (sym (put_self l.who l.places (op_of x0.token)))
    (λ ls gv. let sd = said_ok x0.token A.reply v (sym (put_self l.gave l.places (said x0.token A.reply)) ∙ gv) in
    own (op_of x0.token) v sd.0 ls sd.1 sd.2))
  where
    own : (g : ℕ) (v : ContentReply) → x0.token ≡ ForOp g → lists (c.op g) ≡ true → (A.reply.status == success) ≡ true
        → v ≡ content_reply A.reply.body
        → reply_to (c.op g) ((new_log c t l x0 A).bytes (create_at c g) l.places) ≡ v × (new_log c t l x0 A).bytes
        (create_at c g) (l.places + 1) ≡ bytes_after (c.op g) ((new_log c t l x0 A).bytes (create_at c g) l.places)
        × ends_before (c.op g) ((new_log c t l x0 A).bytes (create_at c g) l.places) ≡ false
    own g v tk ls ok e =
        let f = w.listed g tk ls in let d = f.done ok in let og = opens g tk ls in let its = its_open c s t g og.0
        (lists_other (c.op g) ls) og.1 i_open_of i_open_given in let m = moved c s t l x0 A g w its i_bytes d.0 d.1
        in (
          ap (reply_to (c.op g)) m.1 ∙ (reply_is (c.op g) _ ∙ (d.2 ∙ sym e)),
          m.0
              ∙ (d.3 ∙ (sym (after_is (c.op g) _) ∙ ap (bytes_after (c.op g)) (sym m.1))),
          ap (ends_before (c.op g)) m.1
              ∙ (ends_is (c.op g) _ ∙ d.4),
        )

absorb_gave_end : (c : Client) (conns : ℕ → Conn) (s : Server) (t : Trace) (l : Log) (a : ℕ → ℕ) (k : ℕ) (x0 : Sent)
    (rest : List Sent) (A : Answer) → (Taking c s t x0 A) → ((g : ℕ) → x0.token ≡ ForOp g → lists (c.op g) ≡ true
    → (makes_open (c.op g) || is_ok (c.outcome (create_at c g))) ≡ true × makes_open (c.op (create_at c g)) ≡ true)
    → GaveEnd c l → Bytes s t l → OpenGiven c s t → OpenOf c t → GaveEnd c (new_log c t l x0 A)
absorb_gave_end c conns s t l a k x0 rest A w opens i_gave_end i_bytes i_open_given i_open_of =
    λ n lt. split (λ m. lists (c.op ((new_log c t l x0 A).who m)) ≡ true → (new_log c t l x0 A).gave m ≡ Says_end
    → ends_before (c.op ((new_log c t l x0 A).who m))
    ((new_log c t l x0 A).bytes (create_at c ((new_log c t l x0 A).who m)) m) ≡ true) l.places n lt
    (λ z. subst (λ h. lists (c.op h) ≡ true → (new_log c t l x0 A).gave n ≡ Says_end
    → ends_before (c.op h) ((new_log c t l x0 A).bytes (create_at c h) n) ≡ true)
    (sym (put_old l.who l.places (op_of x0.token) n z))
    (λ ls gv. ap (ends_before (c.op (l.who n))) (bytes_old c t l x0 A (create_at c (l.who n)) n (omega (arith, z)))
    ∙ i_gave_end n z ls (sym (put_old l.gave l.places (said x0.token A.reply) n z) ∙ gv)))
    (subst (λ h. lists (c.op h) ≡ true → (new_log c t l x0 A).gave l.places ≡ Says_end
    → ends_before (c.op h) ((new_log c t l x0 A).bytes (create_at c h) l.places) ≡ true)
    (sym (put_self l.who l.places (op_of x0.token)))
    (λ ls gv. let sd = said_end x0.token A.reply (sym (put_self l.gave l.places (said x0.token A.reply)) ∙ gv) in
    own (op_of x0.token) sd.0 ls sd.1))
  where
    own : (g : ℕ) → x0.token ≡ ForOp g → lists (c.op g) ≡ true → (A.reply.status == end_of_file) ≡ true
        → ends_before (c.op g) ((new_log c t l x0 A).bytes (create_at c g) l.places) ≡ true
    own g tk ls e =
        let f = w.listed g tk ls in let d = f.ended e in let og = opens g tk ls in let its = its_open c s t g og.0
        (lists_other (c.op g) ls) og.1 i_open_of i_open_given in
        ap (ends_before (c.op g)) (bytes_old c t l x0 A (create_at c g) l.places (omega arith) ∙ i_bytes (create_at c g)
        (file_at c g) its.named d.0) ∙ (ends_is (c.op g) _ ∙ d.1)

absorb_whose : (c : Client) (conns : ℕ → Conn) (s : Server) (t : Trace) (l : Log) (a : ℕ → ℕ) (k : ℕ) (x0 : Sent)
    (rest : List Sent) (A : Answer) → ((conns k).up ≡ x0 ∷ rest) → Whose c l → OpensUp c conns → TokenUp c conns
    → Whose c (new_log c t l x0 A)
absorb_whose c conns s t l a k x0 rest A is i_whose i_opens_up i_token_up =
    λ n lt. split (λ m. put l.who l.places (op_of x0.token) m ≤ c.taken × (0 < put l.who l.places (op_of x0.token) m
    → (makes_open (c.op (put l.who l.places (op_of x0.token) m))
    || is_ok (c.outcome (create_at c (put l.who l.places (op_of x0.token) m)))) ≡ true)) l.places n lt
    (λ z. subst (λ g. g ≤ c.taken × (0 < g → (makes_open (c.op g) || is_ok (c.outcome (create_at c g))) ≡ true))
    (sym (put_old l.who l.places (op_of x0.token) n z)) (i_whose n z))
    (subst (λ g. g ≤ c.taken × (0 < g → (makes_open (c.op g) || is_ok (c.outcome (create_at c g))) ≡ true))
    (sym (put_self l.who l.places (op_of x0.token))) (own x0.token refl))
  where
    own : (tk : Token) → x0.token ≡ tk → op_of x0.token ≤ c.taken
        × (0 < op_of x0.token → (makes_open (c.op (op_of x0.token)) || is_ok (c.outcome (create_at c (op_of x0.token))))
        ≡ true)
    own ForDialog e = (let z = ap op_of e in omega (arith, z), λ ab. absurd (let z = ap op_of e in omega (arith, z, ab)))
    own (ForOp g) e = let f0 = front_up (conns k).up x0 rest is in (
      (i_token_up k 0 x0 f0 (ops_of x0.token g e)).1,
      λ ab. i_opens_up k 0 x0 f0 (ops_of x0.token g e),
    )
    own (ForAttach g) e = let f0 = front_up (conns k).up x0 rest is in
        ((i_token_up k 0 x0 f0 (attach_of x0.token g e)).1, λ ab. i_opens_up k 0 x0 f0 (attach_of x0.token g e))

absorb_born : (c : Client) (conns : ℕ → Conn) (s : Server) (t : Trace) (l : Log) (a : ℕ → ℕ) (k : ℕ) (x0 : Sent)
    (rest : List Sent) (A : Answer) → (Taking c s t x0 A) → ((g : ℕ) → 0 < g → g ≤ c.taken → makes_open (c.op g) ≡ false
    → makes_open (c.op (create_at c g)) ≡ true) → Born c l → BirthLe l → OpenOf c t → Whose c l
    → Born c (new_log c t l x0 A)
absorb_born c conns s t l a k x0 rest A w creates_of i_born i_birth_le i_open_of i_whose =
    λ n lt. split (λ m. 0 < (new_log c t l x0 A).who m → makes_open (c.op ((new_log c t l x0 A).who m)) ≡ false
    → (new_log c t l x0 A).birth (create_at c ((new_log c t l x0 A).who m)) ≤ m) l.places n lt
    (λ z. subst (λ h. 0 < h → makes_open (c.op h) ≡ false → (new_log c t l x0 A).birth (create_at c h) ≤ n)
    (sym (put_old l.who l.places (op_of x0.token) n z))
    (λ ab mk. let wh = i_whose n z in let ok = other_on (makes_open (c.op (l.who n)))
    (is_ok (c.outcome (create_at c (l.who n)))) (wh.1 ab) mk in let nm = i_open_of (create_at c (l.who n))
    (creates_of (l.who n) ab wh.0 mk) ok in
    subst (λ b. b ≤ n) (sym (birth_kept c t l x0 A (create_at c (l.who n)) (λ m e. once_made (create_at c (l.who n)) m e
    nm))) (i_born n z ab mk)))
    (subst (λ h. 0 < h → makes_open (c.op h) ≡ false → (new_log c t l x0 A).birth (create_at c h) ≤ l.places)
    (sym (put_self l.who l.places (op_of x0.token)))
    (λ ab mk. subst (λ b. b ≤ l.places)
    (sym (birth_kept c t l x0 A (create_at c (op_of x0.token))
    (λ m e. absurd (let y = (made_own c x0.token A m).2 in grind arith))))
    (i_birth_le (create_at c (op_of x0.token)))))
  where
    once_made : (q : ℕ) → makes c x0.token A ≡ true → q ≡ op_of x0.token → t.open_of q ≡ Some (c.file q) → ⊥
    once_made q m e z = absurd (let r = w.remade m in let y = ap t.open_of e in grind arith)

absorb_birth_le : (c : Client) (conns : ℕ → Conn) (s : Server) (t : Trace) (l : Log) (a : ℕ → ℕ) (k : ℕ) (x0 : Sent)
    (rest : List Sent) (A : Answer) → BirthLe l → BirthLe (new_log c t l x0 A)
absorb_birth_le c conns s t l a k x0 rest A i_birth_le =
    λ q. let old = i_birth_le q in grind arith

absorb_first_at : (c : Client) (conns : ℕ → Conn) (s : Server) (t : Trace) (l : Log) (a : ℕ → ℕ) (k : ℕ) (x0 : Sent)
    (rest : List Sent) (A : Answer) → ((conns k).up ≡ x0 ∷ rest) → FirstAt l → TokenUp c conns
    → FirstAt (new_log c t l x0 A)
absorb_first_at c conns s t l a k x0 rest A is i_first_at i_token_up =
    λ p n e. by_side p n (first_was c t l x0 A p n e)
  where
    own_did : (g : ℕ) → x0.token ≡ ForOp g → A.acted ≡ true → (is_own x0.token && A.acted) ≡ true
    own_did g z a = grind arith

    by_side : (p n : ℕ) → (l.first p ≡ Some n) ⊎ (x0.token ≡ ForOp p × A.acted ≡ true × n ≡ l.places) → n < l.places + 1
        × (new_log c t l x0 A).who n ≡ p × 0 < p × (new_log c t l x0 A).did n ≡ true
    by_side p n (inl e) = let old = i_first_at p n e in let z = old.0 in (
      omega (arith, z),
      put_old l.who l.places (op_of x0.token) n old.0 ∙ old.1,
      old.2,
      put_old l.did l.places (is_own x0.token && A.acted) n old.0 ∙ old.3,
    )
    by_side p n (inr e) =
        let z = e.2 in let above = (i_token_up k 0 x0 (front_up (conns k).up x0 rest is) (ops_of x0.token p e.0)).0 in (
          omega (arith, z),
          subst (λ m. put l.who l.places (op_of x0.token) m ≡ p) (sym z) (put_self l.who l.places (op_of x0.token) ∙ ap op_of e.0),
          subst (λ g. 0 < g) (ap op_of e.0) above,
          subst (λ m. put l.did l.places (is_own x0.token && A.acted) m ≡ true) (sym z)
              (put_self l.did l.places (is_own x0.token && A.acted) ∙ own_did p e.0 e.1),
        )

absorb_by : (c : Client) (conns : ℕ → Conn) (s : Server) (t : Trace) (l : Log) (a : ℕ → ℕ) (k : ℕ) (x0 : Sent)
    (rest : List Sent) (A : Answer) → By c l → By c (new_log c t l x0 A)
absorb_by c conns s t l a k x0 rest A i_by =
    λ p n e. let old = i_by p n e in let z = old.0 in (
      omega (arith, z),
      put_old l.who l.places (op_of x0.token) n old.0
          ∙ old.1,
      old.2,
      old.3,
    )

absorb_by_ok : (c : Client) (conns : ℕ → Conn) (s : Server) (t : Trace) (l : Log) (a : ℕ → ℕ) (k : ℕ) (x0 : Sent)
    (rest : List Sent) (A : Answer) → ByOk c l → By c l → ByOk c (new_log c t l x0 A)
absorb_by_ok c conns s t l a k x0 rest A i_by_ok i_by =
    λ p n v ls b st. let w = (i_by p n b).0 in put_old l.gave l.places (said x0.token A.reply) n w ∙ i_by_ok p n v ls b st

absorb_by_end : (c : Client) (conns : ℕ → Conn) (s : Server) (t : Trace) (l : Log) (a : ℕ → ℕ) (k : ℕ) (x0 : Sent)
    (rest : List Sent) (A : Answer) → ByEnd c l → By c l → ByEnd c (new_log c t l x0 A)
absorb_by_end c conns s t l a k x0 rest A i_by_end i_by =
    λ p n b st. let w = (i_by p n b).0 in put_old l.gave l.places (said x0.token A.reply) n w ∙ i_by_end p n b st

absorb_replies : (c : Client) (conns : ℕ → Conn) (s : Server) (t : Trace) (l : Log) (a : ℕ → ℕ) (k : ℕ) (x0 : Sent)
    (rest : List Sent) (A : Answer) → Replies conns l → Replies (Front conns k rest) (new_log c t l x0 A)
absorb_replies c conns s t l a k x0 rest A i_replies =
    λ j n y h. let old = i_replies j n y (was_down conns k rest j n y h) in let z = old.0 in (
      omega (arith, z),
      put_old l.who l.places (op_of x0.token) y.place old.0 ∙ old.1,
      put_old l.gave l.places (said x0.token A.reply) y.place old.0 ∙ old.2,
    )

absorb_attach_status : (c : Client) (conns : ℕ → Conn) (s : Server) (t : Trace) (l : Log) (a : ℕ → ℕ) (k : ℕ)
    (x0 : Sent) (rest : List Sent) (A : Answer) → AttachStatus conns → AttachStatus (Front conns k rest)
absorb_attach_status c conns s t l a k x0 rest A i_attach_status =
    λ j n p y h. i_attach_status j n p y (was_down conns k rest j n y h)

absorb_since_le : (c : Client) (conns : ℕ → Conn) (s : Server) (t : Trace) (l : Log) (a : ℕ → ℕ) (k : ℕ) (x0 : Sent)
    (rest : List Sent) (A : Answer) → SinceLe l → SinceLe (new_log c t l x0 A)
absorb_since_le c conns s t l a k x0 rest A i_since_le =
    λ p. let old = i_since_le p in omega (arith, old)

absorb_since_reply : (c : Client) (conns : ℕ → Conn) (s : Server) (t : Trace) (l : Log) (a : ℕ → ℕ) (k : ℕ) (x0 : Sent)
    (rest : List Sent) (A : Answer) → SinceReply conns l → SinceReply (Front conns k rest) (new_log c t l x0 A)
absorb_since_reply c conns s t l a k x0 rest A i_since_reply =
    λ j n y h. i_since_reply j n y (was_down conns k rest j n y h)

absorb_since_first : (c : Client) (conns : ℕ → Conn) (s : Server) (t : Trace) (l : Log) (a : ℕ → ℕ) (k : ℕ) (x0 : Sent)
    (rest : List Sent) (A : Answer) → SinceFirst l → SinceLe l → SinceFirst (new_log c t l x0 A)
absorb_since_first c conns s t l a k x0 rest A i_since_first i_since_le =
    λ p n e. by_side p n (first_was c t l x0 A p n e)
  where
    by_side : (p n : ℕ) → (l.first p ≡ Some n) ⊎ (x0.token ≡ ForOp p × A.acted ≡ true × n ≡ l.places) → l.since p ≤ n
    by_side p n (inl e) = i_since_first p n e
    by_side p n (inr e) = let z = e.2 in let le = i_since_le p in omega (arith, z, le)

absorb_prior_first : (c : Client) (conns : ℕ → Conn) (s : Server) (t : Trace) (l : Log) (a : ℕ → ℕ) (k : ℕ) (x0 : Sent)
    (rest : List Sent) (A : Answer) → ((conns k).up ≡ x0 ∷ rest) → (Taking c s t x0 A) → PriorFirst c l
    → LiveUnsettled c conns s → LostUnknown c → Prior c l → PriorFirst c (new_log c t l x0 A)
absorb_prior_first c conns s t l a k x0 rest A is w i_prior_first i_live_unsettled i_lost_unknown i_prior =
    λ h g n ed pr e. by_first h g n ed pr (first_was c t l x0 A g n e)
  where
    settled_off : (o : Outcome) (x : Option ℕ) (y : ℕ) → is_firm o ≡ true
        → (x ≡ Some y → is_unsettled o ≡ false × is_firm o ≡ false) → (if is_unsettled o then true else is_at y x)
        ≡ true → ⊥
    settled_off o x y f g e = by_lost (is_at y x) refl
      where
        found : (x : Option ℕ) → is_at y x ≡ true → x ≡ Some y
        found x z = grind arith

        by_lost : (b : Bool) → is_at y x ≡ b → ⊥
        by_lost true z = absurd (let q = (g (found x z)).1 in grind arith)
        by_lost false z = absurd (let q = firm_settled o f in grind arith)

    by_first : (h g n : ℕ) → edits (c.op g) ≡ true → l.prior h g ≡ true → (l.first g ≡ Some n)
        ⊎ (x0.token ≡ ForOp g × A.acted ≡ true × n ≡ l.places) → n < l.since h
    by_first h g n ed pr (inl z) = i_prior_first h g n ed pr z
    by_first h g n ed pr (inr z) =
        let a = acts_of c s t x0 A g w z.0 (lists_of (c.op g) ed) z.1 in
        absurd (settled_off (c.outcome g) (c.given_up g) c.session (i_prior h g pr).1 (i_lost_unknown g c.session)
        (acting_pends c conns s k x0 rest A g i_live_unsettled is z.0 a))

pub absorb_keeps : (c : Client) (conns : ℕ → Conn) (s : Server) (t : Trace) (l : Log) (a : ℕ → ℕ) (k : ℕ) (x0 : Sent)
    (rest : List Sent) (A : Answer) → ((conns k).up ≡ x0 ∷ rest) → (Once conns) → (ConnOutstanding c conns)
    → (OwnUp c conns) → (Bodies c conns) → (DownOpen conns) → (Taking c s t x0 A)
    → ((j n : ℕ) (x : Sent) → slice_get (conns j).up n ≡ Some x → is_ops x.token ≡ true
    → 0 < c.rank x.message.session_id) → (c.live ≡ true → 0 < c.rank c.session)
    → ((j n : ℕ) (y : Received) → slice_get (conns j).down n ≡ Some y → is_ops y.token ≡ true → 0 < c.rank c.session)
    → ((g : ℕ) → c.sent g ≡ true → makes_open (c.op g) ≡ false
    → (makes_open (c.op g) || is_ok (c.outcome (create_at c g))) ≡ true × makes_open (c.op (create_at c g)) ≡ true)
    → ((g : ℕ) → x0.token ≡ ForOp g → lists (c.op g) ≡ true → (makes_open (c.op g) || is_ok (c.outcome (create_at c g)))
    ≡ true × makes_open (c.op (create_at c g)) ≡ true) → ((g : ℕ) → 0 < g → g ≤ c.taken → makes_open (c.op g) ≡ false
    → makes_open (c.op (create_at c g)) ≡ true) → Contents c conns s t l a → Contents c (Front conns k rest) A.server
    (new_trace c t l x0 A) (new_log c t l x0 A) (new_acts a x0 A)
absorb_keeps c conns s t l a k x0 rest A is once out own bodies dopen w ranked alive current sent_opens opens creates_of i =
    record {
      token_up = absorb_token_up c conns s t l a k x0 rest A is i.token_up;
      token_down = absorb_token_down c conns s t l a k x0 rest A i.token_down;
      opens_up = absorb_opens_up c conns s t l a k x0 rest A is i.opens_up;
      asked_as = absorb_asked_as c conns s t l a k x0 rest A is i.asked_as;
      lost_unknown = i.lost_unknown;
      lost_dead = i.lost_dead;
      lost_known = i.lost_known;
      lost_asked = i.lost_asked;
      session_known = i.session_known;
      session_asked = i.session_asked;
      pairwise = i.pairwise;
      first_up = absorb_first_up c conns s t l a k x0 rest A is once out i.first_up i.token_up;
      unacted = absorb_unacted c conns s t l a k x0 rest A is out own i.unacted i.first_up i.token_up;
      fresh_first = absorb_fresh_first c conns s t l a k x0 rest A is bodies i.fresh_first;
      not_done = absorb_not_done c conns s t l a k x0 rest A is once out dopen i.not_done i.first_up i.token_down;
      cut_seq = absorb_cut_seq c conns s t l a k x0 rest A is i.cut_seq;
      open_seq = absorb_open_seq c conns s t l a k x0 rest A is i.open_seq;
      older = absorb_older c conns s t l a k x0 rest A is i.older;
      no_replay = absorb_no_replay c conns s t l a k x0 rest A is i.no_replay;
      copy_pair = absorb_copy_pair c conns s t l a k x0 rest A is w ranked i.copy_pair;
      now_pair = absorb_now_pair c conns s t l a k x0 rest A w alive i.now_pair;
      create_reply = absorb_create_reply c conns s t l a k x0 rest A w current i.create_reply;
      attach_reply = absorb_attach_reply c conns s t l a k x0 rest A w current i.attach_reply;
      reached = absorb_reached c conns s t l a k x0 rest A w current i.reached;
      closed_reply = absorb_closed_reply c conns s t l a k x0 rest A w i.closed_reply;
      attach_refused = absorb_attach_refused c conns s t l a k x0 rest A w i.attach_refused;
      stale_reply = absorb_stale_reply c conns s t l a k x0 rest A i.stale_reply;
      session_seq = absorb_session_seq c conns s t l a k x0 rest A w i.session_seq;
      pending_at = absorb_pending_at c conns s t l a k x0 rest A w i.pending_at;
      live_unsettled = absorb_live_unsettled c conns s t l a k x0 rest A is w ranked i.live_unsettled i.copy_pair;
      live_replay = absorb_live_replay c conns s t l a k x0 rest A is w once ranked i.live_replay i.copy_pair i.no_replay;
      shows = absorb_shows c conns s t l a k x0 rest A is w bodies sent_opens i.shows i.denied i.fresh_first
          i.live_unsettled i.open_given i.open_of i.open_row i.pairwise;
      denied = absorb_denied c conns s t l a k x0 rest A w i.denied;
      open_of = absorb_open_of c conns s t l a k x0 rest A w i.open_of;
      named_open = absorb_named_open c conns s t l a k x0 rest A w i.named_open;
      open_given = absorb_open_given c conns s t l a k x0 rest A w is bodies i.open_given;
      open_row = absorb_open_row c conns s t l a k x0 rest A w i.open_row i.open_given;
      open_acted = absorb_open_acted c conns s t l a k x0 rest A i.open_acted;
      bytes = absorb_bytes c conns s t l a k x0 rest A i.bytes;
      quiet = absorb_quiet c conns s t l a k x0 rest A w opens i.quiet i.bytes i.denied i.open_given i.open_of i.open_row;
      foreign = absorb_foreign c conns s t l a k x0 rest A w opens i.foreign i.bytes i.denied i.open_given i.open_of i.open_row;
      acted = absorb_acted c conns s t l a k x0 rest A is w opens i.acted i.bytes i.live_replay i.live_unsettled
          i.open_given i.open_of i.shows;
      gave = absorb_gave c conns s t l a k x0 rest A w opens i.gave i.bytes i.open_given i.open_of;
      gave_end = absorb_gave_end c conns s t l a k x0 rest A w opens i.gave_end i.bytes i.open_given i.open_of;
      whose = absorb_whose c conns s t l a k x0 rest A is i.whose i.opens_up i.token_up;
      born = absorb_born c conns s t l a k x0 rest A w creates_of i.born i.birth_le i.open_of i.whose;
      birth_le = absorb_birth_le c conns s t l a k x0 rest A i.birth_le;
      first_at = absorb_first_at c conns s t l a k x0 rest A is i.first_at i.token_up;
      by = absorb_by c conns s t l a k x0 rest A i.by;
      by_ok = absorb_by_ok c conns s t l a k x0 rest A i.by_ok i.by;
      by_end = absorb_by_end c conns s t l a k x0 rest A i.by_end i.by;
      by_some = i.by_some;
      replies = absorb_replies c conns s t l a k x0 rest A i.replies;
      attach_status = absorb_attach_status c conns s t l a k x0 rest A i.attach_status;
      since_le = absorb_since_le c conns s t l a k x0 rest A i.since_le;
      since_reply = absorb_since_reply c conns s t l a k x0 rest A i.since_reply;
      since_by = i.since_by;
      since_first = absorb_since_first c conns s t l a k x0 rest A i.since_first i.since_le;
      prior = i.prior;
      prior_by = i.prior_by;
      prior_first = absorb_prior_first c conns s t l a k x0 rest A is w i.prior_first i.live_unsettled i.lost_unknown i.prior;
    }
