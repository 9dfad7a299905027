-- Where the server takes a message, no write that it refuses has acted, and none acts to which a refusal waits.
use Rattle.law_sessions.proofs.sessions.Trees.{own_tree}
use Rattle.std.proofs.Common.{◌≡◌, ℕ, ◌+◌, ◌≤◌, ◌<◌, Bool, true, false, if◌then◌else◌, List, ◌∷◌, refl, arith, sym}
use Rattle.std.proofs.Common.{subst, ◌∙◌, ap, Option, Some, None, is_some, slice_get}
use Rattle.spec_exchange.specs.Table.{is_at}
use Rattle.spec_exchange.specs.Status.{success}
use Rattle.spec_exchange.specs.Content.{Write as Writes, effect, is_change, is_listed}
use Rattle.spec_exchange.specs.Commands.{form}
use Rattle.spec_exchange.specs.Operations.{Op, OpCreate, OpWrite, OpRead, OpEnd, OpTime, OpRename, OpRemove, OpLock}
use Rattle.spec_exchange.specs.Operations.{OpUnlock, OpFlush, OpStat, OpList, OpClose, WasRefused, is_unsettled}
use Rattle.spec_exchange.specs.Operations.{is_firm, is_write, content_op}
use Rattle.spec_exchange.specs.Client.{guid_for}
use Rattle.spec_exchange.specs.Network.{World, Sent, Received, ForOp, op_of, answer}
use Rattle.law_sessions.specs.messages.Connections.{create_at, count_up, count_down}
use Rattle.law_sessions.proofs.messages.Lists.{front_up, own_up_count, own_down_count}
use Rattle.law_server.proofs.tables.Logic.{at_of}
use Rattle.law_order.specs.order.Contents.{edits, formed, file_at, lists, pends, is_final, bytes_after}
use Rattle.law_order.proofs.order.Words.{ops_of}
use Rattle.law_order.proofs.order.Requests.{asks_of, well_formed}
use Rattle.law_order.proofs.order.Listed.{asks}
use Rattle.law_order.proofs.order.Served.{ListedFacts, listed_facts}
use Rattle.law_order.proofs.order.Front.{Lower, ContentsHold}
use Rattle.law_order.proofs.order.Server.{open_of_down}
use Rattle.law_outcomes.specs.refusals.Refusals.{Guarded, refuses_writes}
use Rattle.law_outcomes.proofs.refusals.Busy.{Spared, busy_answer}

clash : (b : Bool) → b ≡ true → b ≡ false → ⊥
clash b e f = absurd (grind arith)

none_of : (x : Option ℕ) → (is_some x ≡ true → ⊥) → x ≡ None
none_of None f = refl
none_of (Some n) f = absurd (f refl)

after_is : (op : Op) (c : List ℕ) → bytes_after op c ≡ effect (content_op op) c
unfolding bytes_after
after_is op c = refl

lists_of : (op : Op) → edits op ≡ true → lists op ≡ true
unfolding edits lists is_change is_listed
lists_of op e = grind arith

writes_bytes : (op : Op) → is_write op ≡ true → (begin : ℕ) × (bytes : List ℕ) × (content_op op ≡ Writes begin bytes)
writes_bytes (OpWrite create at bytes) e = (at, bytes, refl)
writes_bytes (OpCreate path access share disposition persist directory) e = absurd (cc)
writes_bytes (OpRead create at size) e = absurd (cc)
writes_bytes (OpEnd create size) e = absurd (cc)
writes_bytes (OpTime create time) e = absurd (cc)
writes_bytes (OpRename create path) e = absurd (cc)
writes_bytes (OpRemove create) e = absurd (cc)
writes_bytes (OpLock create at length exclusive) e = absurd (cc)
writes_bytes (OpUnlock create at length) e = absurd (cc)
writes_bytes (OpFlush create) e = absurd (cc)
writes_bytes (OpStat create) e = absurd (cc)
writes_bytes (OpList create) e = absurd (cc)
writes_bytes (OpClose create) e = absurd (cc)

-- ---- the front, a copy of an edit

record Front (w : World) (a : ℕ → ℕ) (k g : ℕ) (x : Sent) : Type 0 where
  waits : slice_get (w.conns k).up 0 ≡ Some x
  own : x.token ≡ ForOp g
  lower : Lower w a
  holds : ContentsHold w a
  edit : edits (w.client.op g) ≡ true

the_front : (w : World) (a : ℕ → ℕ) (k g : ℕ) (x : Sent) (rest : List Sent) → (w.conns k).up ≡ x ∷ rest → Lower w a
    → ContentsHold w a → x.token ≡ ForOp g → edits (w.client.op g) ≡ true → Front w a k g x
the_front w a k g x rest is l i own ed = record { waits = front_up (w.conns k).up x rest is; own = own; lower = l; holds = i; edit = ed }

its_form : (w : World) (a : ℕ → ℕ) (k g : ℕ) (x : Sent) → Front w a k g x → form x.message.command ≡ None → formed (w.client.op g) ≡ true
its_form w a k g x f fm =
    well_formed (w.client.op g) (guid_for w.client g) (w.client.file (create_at w.client g)) (w.client.slot_of g)
    (w.client.number_of g) (ap form (sym (f.lower.cn.bodies k 0 g x f.waits f.own).1) ∙ fm)

its_facts : (w : World) (a : ℕ → ℕ) (k g : ℕ) (x : Sent) → Front w a k g x → ListedFacts w.server x.message
    (content_op (w.client.op g)) (file_at w.client g) (answer w x)
its_facts w a k g x f =
    let l = f.lower in let b = l.cn.bodies k 0 g x f.waits f.own in
    let q = asks_of (w.client.op g) (guid_for w.client g) (w.client.file (create_at w.client g)) (w.client.slot_of g)
    (w.client.number_of g) (lists_of (w.client.op g) f.edit) in
    listed_facts w.server w.moment x.message (content_op (w.client.op g)) (file_at w.client g) q.1 (b.1 ∙ q.0) b.3
    (λ z. l.ss.tree_up k 0 x f.waits (ops_of x.token g f.own) (l.fits.on_present x.message.connection x.message.session_id
    (at_of x.message.session_id (w.server.session_on x.message.connection) z)))
    (own_tree w.client w.conns w.server k 0 x (file_at w.client g) l.ss f.waits (ops_of x.token g f.own)) l.low (l.ss.sequences_up k 0 x f.waits).0

-- the server would take it, so it may act still
still_pends : (w : World) (a : ℕ → ℕ) (k g : ℕ) (x : Sent) → Front w a k g x → form x.message.command ≡ None
    → w.server.standing (file_at w.client g) ≡ true → w.server.session_of_open (file_at w.client g) ≡ Some x.message.session_id
    → w.server.sequence (file_at w.client g) ≤ x.message.channel_sequence → pends w.client g ≡ true
still_pends w a k g x f fm st at le = f.holds.live_unsettled k 0 g x f.waits f.own f.edit (its_form w a k g x f fm) st
    (f.lower.fits.attached (file_at w.client g) x.message.session_id at).1 le

-- ---- a write that is refused hasn't acted

pub refused_unacted : (w : World) (a : ℕ → ℕ) (k g : ℕ) (x : Sent) (rest : List Sent) → (w.conns k).up ≡ x ∷ rest
    → Lower w a → ContentsHold w a → x.token ≡ ForOp g → Guarded w.client.op g → is_write (w.client.op g) ≡ true
    → refuses_writes (answer w x).reply.status ≡ true
    → w.log.first g ≡ None
refused_unacted w a k g x rest is l i own gd wr bad = by_bytes (writes_bytes (w.client.op g) wr)
  where
    f : Front w a k g x
    f = the_front w a k g x rest is l i own gd.edit

    by_bytes : ((begin : ℕ) × (bytes : List ℕ) × (content_op (w.client.op g) ≡ Writes begin bytes)) → w.log.first g ≡ None
    by_bytes (begin, bytes, e) =
        let b = l.cn.bodies k 0 g x f.waits own in
        let q = asks_of (w.client.op g) (guid_for w.client g) (w.client.file (create_at w.client g))
        (w.client.slot_of g) (w.client.number_of g) (lists_of (w.client.op g) gd.edit) in
        by_spared begin bytes e (busy_answer w.server w.moment x.message (file_at w.client g) begin bytes l.low
        (l.ss.sequences_up k 0 x f.waits).0 (b.1 ∙ (q.0 ∙ ap (λ c. asks c (file_at w.client g)) e)) b.3 bad)
      where
        by_spared : (begin : ℕ) (bytes : List ℕ) → content_op (w.client.op g) ≡ Writes begin bytes
            → Spared w.server x.message (file_at w.client g) begin bytes → w.log.first g ≡ None
        by_spared begin bytes e h =
            none_of (w.log.first g)
            (λ so. h.new (i.live_replay k 0 g x f.waits own gd.edit h.standing
            (l.fits.attached (file_at w.client g) x.message.session_id h.at).1 h.newest so)
            (subst (λ c. effect c (w.server.content (w.server.opened (file_at w.client g)).file)
            ≡ w.server.content (w.server.opened (file_at w.client g)).file) e
            (sym (after_is (w.client.op g) _) ∙ i.shows g gd.edit gd.denies h.standing
            (still_pends w a k g x f h.form h.standing h.at h.newest) so)))

-- ---- nor does one act to which a refusal waits

final_of : (status : ℕ) → refuses_writes status ≡ true → is_final status ≡ true
final_of status e = grind arith

two_copies : (n m : ℕ) → 1 ≤ n → 1 ≤ m → n + m ≤ 1 → ⊥
two_copies n m a b c = absurd (omega (arith, a, b, c))

pub no_act_behind : (w : World) (a : ℕ → ℕ) (k g : ℕ) (x : Sent) (rest : List Sent) → (w.conns k).up ≡ x ∷ rest
    → Lower w a → ContentsHold w a → x.token ≡ ForOp g → edits (w.client.op g) ≡ true
    → (j n : ℕ) (y : Received) → slice_get (w.conns j).down n ≡ Some y → y.token ≡ ForOp g
    → refuses_writes y.reply.status ≡ true → (answer w x).acted ≡ true → ⊥
no_act_behind w a k g x rest is l i own ed j n y h yt bad ac =
    let f = the_front w a k g x rest is l i own ed in let d = (its_facts w a k g x f).acts ac in
    let o = open_of_down w a l j n y h in let one = own_down_count g (w.conns j).down n y h yt in
    let above = subst (λ q. 0 < q) (ap op_of yt) (i.token_down j n y h (ops_of y.token g yt)).0 in
    let on = l.cn.outstanding j g o (omega (arith, one)) above in
    let pr = (l.fits.attached (file_at w.client g) x.message.session_id d.1).1 in
    let live = l.ss.live_accepted (l.ss.current_down j n y h (ops_of y.token g yt) o).0 in
    let here : x.message.session_id ≡ w.client.session = l.ss.present_accepted x.message.session_id pr
    (l.ss.ranked_up k 0 x f.waits (ops_of x.token g own)) ∙ sym live.0 in
    let older = i.older k 0 j g x f.waits own ed (l.cn.own_down j n g y h o yt) on
    (λ e. two_copies (count_up g (w.conns k).up) (count_down g (w.conns k).down)
    (own_up_count g (w.conns k).up 0 x f.waits own) (subst (λ q. 1 ≤ count_down g (w.conns q).down) (sym e) one)
    (l.cn.once k g)) here in
    let newest = ((i.reached j n g y h yt ed (its_form w a k g x f d.6) (final_of y.reply.status bad)).0 d.0
    (subst (λ q. w.server.present q ≡ true) here pr)).1 in
    let le = d.2 in absurd (omega (arith, older, newest, le))

-- ---- nor one that settled

pub no_act_settled : (w : World) (a : ℕ → ℕ) (k g status : ℕ) (x : Sent) (rest : List Sent) → (w.conns k).up ≡ x ∷ rest
    → Lower w a → ContentsHold w a → x.token ≡ ForOp g → edits (w.client.op g) ≡ true → w.client.outcome g ≡ WasRefused status
    → (answer w x).acted ≡ true → ⊥
no_act_settled w a k g status x rest is l i own ed r ac =
    let f = the_front w a k g x rest is l i own ed in let d = (its_facts w a k g x f).acts ac in
    by (w.client.given_up g) refl (lost (is_unsettled (w.client.outcome g)) _ (ap is_unsettled r) (still_pends w a k g x f d.6 d.0 d.1 d.2))
  where
    lost : (b c : Bool) → b ≡ false → (if b then true else c) ≡ true → c ≡ true
    lost b c e q = grind arith

    by : (u : Option ℕ) → w.client.given_up g ≡ u → is_at w.client.session (w.client.given_up g) ≡ true → ⊥
    by None e q = absurd (grind arith)
    by (Some z) e q = clash (is_firm (w.client.outcome g)) (ap is_firm r) (i.lost_unknown g z e).1

-- one that acts succeeds
pub acts_well : (w : World) (a : ℕ → ℕ) (k g : ℕ) (x : Sent) (rest : List Sent) → (w.conns k).up ≡ x ∷ rest → Lower w a
    → ContentsHold w a → x.token ≡ ForOp g → edits (w.client.op g) ≡ true → (answer w x).acted ≡ true
    → (answer w x).reply.status ≡ success
acts_well w a k g x rest is l i own ed ac = ((its_facts w a k g x (the_front w a k g x rest is l i own ed)).acts ac).4
