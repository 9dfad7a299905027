-- What holds of refusals in every world that a run leads to, and the statement.
use Rattle.std.proofs.Common.{◌≡◌, ℕ, ◌+◌, ◌≤◌, ◌<◌, ◌==◌, nat_lt, nat_le, Bool, true, false, not, ◌&&◌, if◌then◌else◌}
use Rattle.std.proofs.Common.{List, [], ◌∷◌, ◌++◌, ◌⊎◌, inl, inr, refl, arith, sym, subst, ◌∙◌, ap, eqb-true, Option}
use Rattle.std.proofs.Common.{Some, None, is_some, slice_get, ◌≢◌}
use Rattle.std.proofs.lemmas.Bool.Decides.{nat_tests}
use Rattle.spec_exchange.specs.Table.{put}
use Rattle.spec_exchange.specs.Status.{success, user_session_deleted, object_name_not_found}
use Rattle.spec_exchange.specs.Content.{is_change}
use Rattle.spec_exchange.specs.Opens.{denies_writers}
use Rattle.spec_exchange.specs.Operations.{Op, Outcome, WasRefused, create_of, is_unsettled, is_create, is_ok, is_write}
use Rattle.spec_exchange.specs.Operations.{content_op, share_of}
use Rattle.spec_exchange.specs.Settling.{Settles, refused}
use Rattle.spec_exchange.specs.Client.{Client, create_for, is_taken, may_take, take_op}
use Rattle.spec_exchange.specs.Network.{World, Event, Submit, Open, Push, Serve, Take, Cut, Drop, Restart, Crash, Wait}
use Rattle.spec_exchange.specs.Network.{Finish, Sent, Token, ForDialog, ForOp, ForAttach, op_of, Settings, happens}
use Rattle.spec_exchange.specs.Network.{changed, later, run, start, may_serve, answer, serve_front, absorb_front}
use Rattle.spec_exchange.specs.Network.{restarted}
use Rattle.spec_exchange.specs.Runs.{acts, front_acts, is_send_of}
use Rattle.law_sessions.specs.messages.Connections.{create_at, its_create}
use Rattle.law_sessions.proofs.messages.Lists.{front_down}
use Rattle.law_sessions.proofs.messages.Run.{after}
use Rattle.law_sessions.proofs.messages.Reached.{At, on_every_run}
use Rattle.law_sessions.proofs.messages.Stays.{settled_stays, settled_op}
use Rattle.law_server.proofs.tables.Logic.{either, front_of, back_of, both}
use Rattle.law_locks.specs.Locks.{Locks}
use Rattle.law_locks.proofs.Law.{locks}
use Rattle.law_order.specs.order.Contents.{edits, isolating}
use Rattle.law_order.proofs.order.Taking.{new_log, first_none, first_kept, first_new}
use Rattle.law_order.proofs.order.Front.{Lower, ContentsHold}
use Rattle.law_order.proofs.order.Run.{lower, contents}
use Rattle.law_order.proofs.order.Words.{ops_of, put_other}
use Rattle.law_order.proofs.order.Table.{below_taken}
use Rattle.law_answers.proofs.completeness.Client.{Took}
use Rattle.law_answers.proofs.completeness.Columns.{taken_on}
use Rattle.law_answers.proofs.completeness.Facts.{is_submit}
use Rattle.law_answers.proofs.completeness.Events.{if_on}
use Rattle.law_outcomes.specs.refusals.Refusals.{Guarded, ReplyUnacted, SettledUnacted, Refusals, RefusedNeverActs, refuses_writes}
use Rattle.law_answers.proofs.completeness.Replies.{serves, same_first, AllDown, still_all_down}
use Rattle.law_outcomes.proofs.refusals.Heard.{ByReply, was, by_table, by_copy}
use Rattle.law_outcomes.proofs.refusals.Serving.{refused_unacted, no_act_behind, no_act_settled, acts_well}

clash : (b : Bool) → b ≡ true → b ≡ false → ⊥
clash b e f = absurd (grind arith)

-- what is known of a world of a run
record Known (w : World) (a : ℕ → ℕ) : Type 0 where
  lower : Lower w a
  holds : ContentsHold w a
  locks : Locks w.client w.conns w.server a

-- ---- the places behind an event

-- what an operation's place is behind the taking of the front of a connection
record Behind (w : World) (k : ℕ) (first : ℕ → Option ℕ) : Type 0 where
  -- one that hadn't acted, and of which the front doesn't act, hasn't
  unacted : (g : ℕ) → w.log.first g ≡ None → ((x : Sent) (rest : List Sent) → (w.conns k).up ≡ x ∷ rest → x.token
      ≡ ForOp g → (answer w x).acted ≡ true → ⊥) → first g ≡ None

behind_served : (w : World) (k : ℕ) (xs : List Sent) → (w.conns k).up ≡ xs → Behind w k (serve_front w k xs).log.first
    × Behind w k (absorb_front w k xs).log.first
behind_served w k [] is = (record { unacted = λ g e f. e }, record { unacted = λ g e f. e })
behind_served w k (x ∷ rest) is = (
  record { unacted = λ g e f. first_none w.client w.trace w.log x (answer w x) g e (λ t ac. f x rest is t ac) },
  record { unacted = λ g e f. first_none w.client w.trace w.log x (answer w x) g e (λ t ac. f x rest is t ac) },
)

same_places : (w : World) (k : ℕ) → Behind w k w.log.first
same_places w k = record { unacted = λ g e f. e }

serve_places : (w : World) (k : ℕ) → Behind w k (happens w (Serve k)).log.first
serve_places w k = either (λ (v : World). Behind w k v.log.first) (may_serve w k)
    (later (serve_front w k (w.conns k).up) 1) w (λ _. (behind_served w k (w.conns k).up refl).0) (λ _. same_places w k)

crash_places : (w : World) (k : ℕ) (kept : Bool) → Behind w k (happens w (Crash k kept)).log.first
crash_places w k true = either (λ (v : World). Behind w k v.log.first) (may_serve w k)
    (later (changed w (Crash k true)) 1) w (λ _. (behind_served w k (w.conns k).up refl).1) (λ _. same_places w k)
crash_places w k false = either (λ (v : World). Behind w k v.log.first) (may_serve w k)
    (later (changed w (Crash k false)) 1) w (λ _. same_places w k) (λ _. same_places w k)

-- ---- what is known already holds of the places behind the event

record Places (w : World) (first : ℕ → Option ℕ) : Type 0 where
  replies : AllDown (ReplyUnacted w.client.op first) w.conns
  settled : SettledUnacted w.client.op w.client.outcome first

old_places : (w : World) → Refusals w → Places w w.log.first
old_places w h = record { replies = h.replies; settled = h.settled }

new_places : (w : World) (a : ℕ → ℕ) (k : ℕ) (first : ℕ → Option ℕ) → Known w a → Refusals w → Behind w k first → Places w first
new_places w a k first f h b =
    record {
      replies = λ j n y at g t gd wr bad. b.unacted g (h.replies j n y at g t gd wr bad) (λ x rest is own ac.
          no_act_behind w a k g x rest is f.lower f.holds own gd.edit j n y at t bad ac);
      settled = λ g status r gd. b.unacted g (h.settled g status r gd) (λ x rest is own ac.
          no_act_settled w a k g status x rest is f.lower f.holds own gd.edit r ac);
    }

places : (w : World) (a : ℕ → ℕ) (e : Event) → Known w a → Refusals w → Places w (happens w e).log.first
places w a (Serve k) f h = new_places w a k _ f h (serve_places w k)
places w a (Crash k kept) f h = new_places w a k _ f h (crash_places w k kept)
places w a (Submit g op) f h = subst (Places w) (sym (same_first w (Submit g op) refl)) (old_places w h)
places w a (Open k) f h = subst (Places w) (sym (same_first w (Open k) refl)) (old_places w h)
places w a (Push k slotless pick) f h = subst (Places w) (sym (same_first w (Push k slotless pick) refl)) (old_places w h)
places w a (Take k) f h = subst (Places w) (sym (same_first w (Take k) refl)) (old_places w h)
places w a (Cut k) f h = subst (Places w) (sym (same_first w (Cut k) refl)) (old_places w h)
places w a (Drop k) f h = subst (Places w) (sym (same_first w (Drop k) refl)) (old_places w h)
places w a Restart f h = old_places w h
places w a (Wait n) f h = old_places w h
places w a (Finish refusal) f h = subst (Places w) (sym (same_first w (Finish refusal) refl)) (old_places w h)

-- ---- the reply that the server makes

new_reply : (w : World) (a : ℕ → ℕ) (k : ℕ) (first : ℕ → Option ℕ) → Known w a → Behind w k first
    → (x : Sent) (rest : List Sent) → (w.conns k).up ≡ x ∷ rest → ReplyUnacted w.client.op first (record {
      token = x.token;
      reply = (answer w x).reply;
      place = w.log.places;
    })
new_reply w a k first f b x rest is g t gd wr bad =
    b.unacted g (refused_unacted w a k g x rest is f.lower f.holds t gd wr bad) (λ z zs at own ac. unsaid z zs at ac)
  where
    same_front : (x z : Sent) (xs ys : List Sent) → (x ∷ xs) ≡ (z ∷ ys) → x ≡ z
    same_front x z xs ys e = cc

    bad_not : (n : ℕ) → refuses_writes n ≡ true → n ≡ success → ⊥
    bad_not n e s = absurd (grind arith)

    unsaid : (z : Sent) (zs : List Sent) → (w.conns k).up ≡ z ∷ zs → (answer w z).acted ≡ true → ⊥
    unsaid z zs at ac =
        let q : z ≡ x = sym (same_front x z rest zs (sym is ∙ at)) in
        bad_not (answer w x).reply.status bad (acts_well w a k g x rest is f.lower f.holds t gd.edit
        (subst (λ u. (answer w u).acted ≡ true) q ac))

-- ---- a reply settles

is_other : (n m : ℕ) → (n == m) ≡ false → n ≢ m
is_other n m e s = absurd (grind arith)

name_other : (n : ℕ) → n ≡ object_name_not_found → refuses_writes n ≡ true → ⊥
name_other n e b = absurd (grind arith)

-- what a refused DH2C leaves, and what a refusal of the operation itself does
by_reply : (w : World) (a : ℕ → ℕ) (e : Event) (g status : ℕ) → Known w a → Refusals w → Guarded w.client.op g
    → ByReply w e g status → w.log.first g ≡ None
by_reply w a e g status f h gd b = by_kind b.asking refl (w.client.unanswered g) refl
  where
    t : Took w e b.channel g b.asking b.reply b.place (WasRefused status)
    t = b.took

    f0 : slice_get (w.conns b.channel).down 0 ≡ Some b.took.reply
    f0 = front_down (w.conns b.channel).down b.took.reply b.took.rest b.took.is

    line : (b.reply.status == success) ≡ false × (b.reply.status == user_session_deleted) ≡ false
        × refused (w.client.op g) b.asking (w.client.unanswered g) b.reply.status ≡ Settles (WasRefused status)
    line = by_table w.client g b.asking b.reply status b.took.heard_as

    pending : is_unsettled (w.client.outcome g) ≡ true
    pending = by (is_unsettled (w.client.outcome g)) refl
      where
        by : (c : Bool) → is_unsettled (w.client.outcome g) ≡ c → is_unsettled (w.client.outcome g) ≡ true
        by true z = z
        by false z = absurd (let n = f.lower.cn.settled g z in let o = b.on in grind arith)

    out : (c : Bool) (o : Option ℕ) → c ≡ true → (if c then true else not (is_some o)) ≡ true
    out c o z = grind arith

    copy : w.client.unanswered g ≡ true → is_write (w.client.op g) ≡ true × refuses_writes b.reply.status ≡ true
    copy z = by_copy (w.client.op g) b.asking b.reply.status status gd.edit
        (ap (λ c. refused (w.client.op g) b.asking c b.reply.status) (sym z) ∙ line.2)

    same_status : b.took.reply.reply.status ≡ b.reply.status
    same_status = ap (λ r. r.status) b.took.says

    asked_off : b.asking ≡ true → w.client.unanswered g ≡ true → ⊥
    asked_off k z =
        name_other b.reply.status
        (sym same_status ∙ (f.locks.lost_reply b.channel 0 g b.took.reply f0
        (b.took.token ∙ ap (λ c. if c then ForAttach g else ForOp g) k)
        (is_other _ _ (ap (λ n. n == success) same_status ∙ line.0))
        (is_other _ _ (ap (λ n. n == user_session_deleted) same_status ∙ line.1))).0)
        (copy z).1

    by_kind : (asking : Bool) → b.asking ≡ asking → (before : Bool) → w.client.unanswered g ≡ before → w.log.first g ≡ None
    by_kind true k false z = f.holds.unacted g gd.edit z (out (w.client.asks_attach g) (w.client.outstanding_on g)
        (b.took.asks ∙ k)) pending
    by_kind true k true z = absurd (asked_off k z)
    by_kind false k false z = f.holds.not_done b.channel 0 g b.took.reply f0
        (b.took.token ∙ ap (λ c. if c then ForAttach g else ForOp g) k) gd.edit (ap (λ n. n == success) same_status
        ∙ line.0) z
    by_kind false k true z =
        let c = copy z in
        h.replies b.channel 0 b.took.reply f0 g (b.took.token ∙ ap (λ c. if c then ForAttach g else ForOp g) k) gd c.0
        (ap refuses_writes same_status ∙ c.1)

-- ---- by event

same_serve : (k j : ℕ) → Serve k ≡ Serve j → k ≡ j
same_serve k j e = cc

new_at : (w : World) (a : ℕ → ℕ) (e : Event) → Known w a → (k : ℕ) (x : Sent) (rest : List Sent) → e ≡ Serve k
    → (w.conns k).up ≡ x ∷ rest → ReplyUnacted w.client.op (happens w e).log.first (record {
      token = x.token;
      reply = (answer w x).reply;
      place = w.log.places;
    })
new_at w a e f k x rest s is = subst (λ v. ReplyUnacted w.client.op (happens w v).log.first (record {
  token = x.token;
  reply = (answer w x).reply;
  place = w.log.places;
})) (sym s) (new_reply w a k (happens w (Serve k)).log.first f
    (serve_places w k) x rest is)

settled_at : (w : World) (a : ℕ → ℕ) (e : Event) → Known w a → Refusals w → (g status : ℕ) → Guarded w.client.op g
    → (w.client.outcome g ≡ WasRefused status) ⊎ ByReply w e g status → (happens w e).log.first g ≡ None
settled_at w a e f h g status gd (inl z) = (places w a e f h).settled g status z gd
settled_at w a e f h g status gd (inr b) =
    subst (λ v. (happens w v).log.first g ≡ None) (sym b.took.takes)
    (ap (λ first. first g) (same_first w (Take b.channel) refl) ∙ by_reply w a e g status f h gd b)

keeps_other : (w : World) (a : ℕ → ℕ) (e : Event) → is_submit e ≡ false → Known w a → Refusals w → Refusals (happens w e)
keeps_other w a e n f h =
    let ops = (taken_on w e n).op in
    record {
      replies = subst (λ o. AllDown (ReplyUnacted o (happens w e).log.first) (happens w e).conns) (sym ops)
          (still_all_down (ReplyUnacted w.client.op (happens w e).log.first) w e (λ k x rest s is o.
          new_at w a e f k x rest s is) (places w a e f h).replies);
      settled = subst (λ o. SettledUnacted o (happens w e).client.outcome (happens w e).log.first) (sym ops)
          (λ g status q gd. settled_at w a e f h g status gd (was w e g status q));
    }

-- ---- an operation is taken: the others are as they were

below_new : (p g taken : ℕ) → p ≤ taken → g ≡ taken + 1 → p ≢ g
below_new p g taken l n z = absurd (omega (arith, l, n, z))

guarded_back : (w : World) (a : ℕ → ℕ) (g : ℕ) (op : Op) (p : ℕ) → Known w a → g ≡ w.client.taken + 1 → 0 < p
    → p ≤ w.client.taken → Guarded (put w.client.op g op) p → Guarded w.client.op p
guarded_back w a g op p f n low high gd =
    let same = put_other w.client.op g op p (below_new p g w.client.taken high n) in
    let create = put_other w.client.op g op (create_at w.client p) (below_new (create_at w.client p) g w.client.taken
    (below_taken w.client w.conns a f.lower.cn p low high) n) in
    record {
      edit = ap edits (sym same) ∙ gd.edit;
      denies = ap isolating (sym create) ∙ (ap (λ o. isolating (put w.client.op g op (its_create p o))) (sym same) ∙ gd.denies);
    }

taken_of : (p taken : ℕ) → (nat_lt 0 p && nat_le p taken) ≡ true → 0 < p × p ≤ taken
taken_of p taken e = (grind (arith, nat_tests), grind (arith, nat_tests))

settled_taken : (w : World) (a : ℕ → ℕ) (p status : ℕ) → Known w a → w.client.outcome p ≡ WasRefused status → 0 < p × p ≤ w.client.taken
settled_taken w a p status f r = by (is_taken w.client p) refl
  where
    by : (b : Bool) → is_taken w.client p ≡ b → 0 < p × p ≤ w.client.taken
    by true e = taken_of p w.client.taken e
    by false e = absurd (let z = (f.lower.beyond p e).0 in grind arith)

new_number : (w : World) (g : ℕ) (op : Op) → may_take w.client g op ≡ true → g ≡ w.client.taken + 1
new_number w g op m = eqb-true g (w.client.taken + 1) (front_of (g == w.client.taken + 1) _ m)

not_take : (g k : ℕ) (op : Op) → Submit g op ≡ Take k → ⊥
not_take g k op e = absurd (cc)

with_op : (w : World) (a : ℕ → ℕ) (g : ℕ) (op : Op) → Known w a → Refusals w → may_take w.client g op ≡ true
    → Refusals (later (record w { client = take_op w.client g op }) 1)
with_op w a g op f h m =
    record {
      replies = λ k n y at p t gd wr bad. let own = f.holds.token_down k n y at (ops_of y.token p t) in
          let low = subst (λ q. 0 < q) (ap op_of t) own.0 in let high = subst (λ q. q ≤ w.client.taken) (ap op_of t) own.1 in
          h.replies k n y at p t (guarded_back w a g op p f new low high gd)
          (subst (λ o. is_write o ≡ true) (put_other w.client.op g op p (below_new p g w.client.taken high new)) wr)
          bad;
      settled = λ p status q gd. by p status q gd (was w (Submit g op) p status (settled_there p status q));
    }
  where
    new : g ≡ w.client.taken + 1
    new = new_number w g op m

    settled_there : (p status : ℕ) → (take_op w.client g op).outcome p ≡ WasRefused status
        → (happens w (Submit g op)).client.outcome p ≡ WasRefused status
    settled_there p status q = subst (λ (c : Client). c.outcome p ≡ WasRefused status)
        (sym (if_on (may_take w.client g op) (take_op w.client g op) w.client m)) q

    by : (p status : ℕ) → (take_op w.client g op).outcome p ≡ WasRefused status → Guarded (put w.client.op g op) p
        → (w.client.outcome p ≡ WasRefused status) ⊎ ByReply w (Submit g op) p status → w.log.first p ≡ None
    by p status q gd (inl z) = let l = settled_taken w a p status f z in h.settled p status z (guarded_back w a g op p f new l.0 l.1 gd)
    by p status q gd (inr b) = absurd (not_take g b.channel op b.took.takes)

keeps : (w : World) (a : ℕ → ℕ) (e : Event) → Known w a → Refusals w → Refusals (happens w e)
keeps w a (Submit g op) f h =
    either (λ (c : Client). Refusals (later (record w { client = c }) 1)) (may_take w.client g op)
    (take_op w.client g op) w.client (λ m. with_op w a g op f h m) (λ _. record {
      replies = h.replies;
      settled = h.settled;
    })
keeps w a (Open k) f h = keeps_other w a (Open k) refl f h
keeps w a (Push k slotless pick) f h = keeps_other w a (Push k slotless pick) refl f h
keeps w a (Serve k) f h = keeps_other w a (Serve k) refl f h
keeps w a (Take k) f h = keeps_other w a (Take k) refl f h
keeps w a (Cut k) f h = keeps_other w a (Cut k) refl f h
keeps w a (Drop k) f h = keeps_other w a (Drop k) refl f h
keeps w a Restart f h = keeps_other w a Restart refl f h
keeps w a (Crash k kept) f h = keeps_other w a (Crash k kept) refl f h
keeps w a (Wait n) f h = keeps_other w a (Wait n) refl f h
keeps w a (Finish refusal) f h = keeps_other w a (Finish refusal) refl f h

pub refusals : (z : Settings) (es : List Event) → Refusals (run es (start z))
refusals z es =
    on_every_run (λ w a. Refusals w) z (record { replies = λ k n y at. absurd (cc); settled = λ g status q. absurd (cc) })
    (λ xs e h. keeps (run xs (start z)) (acts xs (start z)) e (record {
      lower = lower z xs;
      holds = contents z xs;
      locks = locks z xs;
    }) h) es

-- ---- what acted has a place

abbrev Counted : World → (ℕ → ℕ) → Type 0
Counted w a = (g : ℕ) → w.log.first g ≡ None → a g ≡ 0

no_place : (o : Option ℕ) (n : ℕ) → o ≡ None → o ≡ Some n → ⊥
no_place o n e f = absurd (grind arith)

own_send : (g : ℕ) (t : Token) → is_send_of g t ≡ true → t ≡ ForOp g
own_send g ForDialog e = absurd (cc)
own_send g (ForOp h) e = ap ForOp (eqb-true h g e)
own_send g (ForAttach h) e = absurd (cc)

-- behind the taking of a front that acts, its operation has one
front_place : (w : World) (x : Sent) (g : ℕ) → (new_log w.client w.trace w.log x (answer w x)).first g ≡ None
    → w.log.first g ≡ None × (is_send_of g x.token && (answer w x).acted) ≡ false
front_place w x g e = (before (w.log.first g) refl, by (is_send_of g x.token && (answer w x).acted) refl)
  where
    before : (o : Option ℕ) → w.log.first g ≡ o → w.log.first g ≡ None
    before None z = z
    before (Some n) z = absurd (no_place _ n e (first_kept w.client w.trace w.log x (answer w x) g n z))

    by : (b : Bool) → (is_send_of g x.token && (answer w x).acted) ≡ b → (is_send_of g x.token && (answer w x).acted) ≡ false
    by false z = z
    by true z =
        absurd (no_place _ w.log.places e (first_new w.client w.trace w.log x (answer w x) g
        (own_send g x.token (front_of (is_send_of g x.token) _ z)) (back_of (is_send_of g x.token) _ z)
        (before (w.log.first g) refl)))

served_place : (w : World) (k g : ℕ) (xs : List Sent) → (serve_front w k xs).log.first g ≡ None → w.log.first g ≡ None
    × front_acts w xs g ≡ false
served_place w k g [] e = (e, refl)
served_place w k g (x ∷ rest) e = front_place w x g e

absorbed_place : (w : World) (k g : ℕ) (xs : List Sent) → (absorb_front w k xs).log.first g ≡ None → w.log.first g
    ≡ None × front_acts w xs g ≡ false
absorbed_place w k g [] e = (e, refl)
absorbed_place w k g (x ∷ rest) e = front_place w x g e

count_serve : (w : World) (a : ℕ → ℕ) (k g : ℕ) → Counted w a → (b : Bool)
    → (if b then later (serve_front w k (w.conns k).up) 1 else w).log.first g ≡ None
    → (if b && front_acts w (w.conns k).up g then a g + 1 else a g) ≡ 0
count_serve w a k g h true e = let u = served_place w k g (w.conns k).up e in ap (λ c. if c then a g + 1 else a g) u.1 ∙ h g u.0
count_serve w a k g h false e = h g e

count_crash : (w : World) (a : ℕ → ℕ) (k g : ℕ) → Counted w a → (kept b : Bool)
    → (if b then later (if kept then restarted (absorb_front w k (w.conns k).up) else restarted w) 1 else w).log.first g
    ≡ None
    → (if kept && (b && front_acts w (w.conns k).up g) then a g + 1 else a g) ≡ 0
count_crash w a k g h true true e = let u = absorbed_place w k g (w.conns k).up e in ap (λ c. if c then a g + 1 else a g) u.1 ∙ h g u.0
count_crash w a k g h true false e = h g e
count_crash w a k g h false true e = h g e
count_crash w a k g h false false e = h g e

count_other : (w : World) (a : ℕ → ℕ) (e : Event) → serves e ≡ false → Counted w a → (g : ℕ) → (happens w e).log.first g ≡ None → a g ≡ 0
count_other w a e n h g q = h g (ap (λ first. first g) (sym (same_first w e n)) ∙ q)

counts : (w : World) (a : ℕ → ℕ) (e : Event) → Counted w a → Counted (happens w e) (after w e a)
counts w a (Serve k) h g q = count_serve w a k g h (may_serve w k) q
counts w a (Crash k kept) h g q = count_crash w a k g h kept (may_serve w k) q
counts w a (Submit p op) h g q = count_other w a (Submit p op) refl h g q
counts w a (Open k) h g q = count_other w a (Open k) refl h g q
counts w a (Push k slotless pick) h g q = count_other w a (Push k slotless pick) refl h g q
counts w a (Take k) h g q = count_other w a (Take k) refl h g q
counts w a (Cut k) h g q = count_other w a (Cut k) refl h g q
counts w a (Drop k) h g q = count_other w a (Drop k) refl h g q
counts w a Restart h g q = count_other w a Restart refl h g q
counts w a (Wait n) h g q = count_other w a (Wait n) refl h g q
counts w a (Finish refusal) h g q = count_other w a (Finish refusal) refl h g q

pub counted : (z : Settings) (es : List Event) → At Counted z es
counted z = on_every_run Counted z (λ g e. refl) (λ es e h. counts (run es (start z)) (acts es (start z)) e h)

-- ---- the statement

ok_settled : (o : Outcome) → is_ok o ≡ true → is_unsettled o ≡ false
ok_settled o e = grind arith

edits_of : (op : Op) → is_change (content_op op) ≡ true → edits op ≡ true
unfolding edits
edits_of op e = e

isolating_of : (op : Op) → is_create op ≡ true → denies_writers (share_of op) ≡ true → isolating op ≡ true
unfolding isolating
isolating_of op e f = both (is_create op) (denies_writers (share_of op)) e f

create_is : (g : ℕ) (op : Op) → its_create g op ≡ create_of g op
unfolding its_create
create_is g op = refl

pub refused_never_acts : RefusedNeverActs
refused_never_acts z es more g status r ed iso =
    let w : World = run es (start z) in let v : World = run (es ++ more) (start z) in
    let q = create_for w.client g in let c = front_of (is_create (w.client.op q)) _ iso in let rest =
    back_of (is_create (w.client.op q)) _ iso in
    let ok = front_of (is_ok (w.client.outcome q)) _ rest in let dn = back_of (is_ok (w.client.outcome q)) _ rest in
    let s : is_unsettled (w.client.outcome g) ≡ false = ap is_unsettled r in
    let same : v.client.op g ≡ w.client.op g = settled_op z es more g s in
    let create : v.client.op q ≡ w.client.op q = settled_op z es more q (ok_settled (w.client.outcome q) ok) in
    counted z (es ++ more) g
    ((refusals z (es ++ more)).settled g status (settled_stays z es more g s ∙ r)
    (record {
      edit = edits_of (v.client.op g) (ap (λ o. is_change (content_op o)) same ∙ ed);
      denies = ap (λ o. isolating (v.client.op (its_create g o))) same
          ∙ (ap (λ p. isolating (v.client.op p)) (create_is g (w.client.op g))
          ∙ (ap isolating create ∙ isolating_of (w.client.op q) c dn));
    }))
