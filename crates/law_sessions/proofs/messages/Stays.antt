-- What is settled stays as it settled, and the operation it is. A number that isn't taken yet is unsettled, so the
-- statement has no premise on it.
use Rattle.std.proofs.Common.{◌≡◌, ◌≢◌, ℕ, ◌+◌, ◌≤◌, ◌<◌, ◌==◌, nat_lt, nat_le, Bool, true, false, not, ◌&&◌}
use Rattle.std.proofs.Common.{if◌then◌else◌, List, [], ◌∷◌, ◌++◌, refl, arith, sym, subst, ◌∙◌, ap, Option, Some, None}
use Rattle.std.proofs.Common.{is_some}
use Rattle.std.proofs.lemmas.Bool.Decides.{nat_tests}
use Rattle.spec_exchange.specs.Table.{put, is_filled}
use Rattle.spec_exchange.specs.Status.{disk_full}
use Rattle.spec_exchange.specs.State.{Reply, Body}
use Rattle.spec_exchange.specs.Operations.{Op, OpClose, Outcome, Unsettled, WasOk, WasRefused, NoSlot, NoOpen, Unknown}
use Rattle.spec_exchange.specs.Operations.{Why, NoSession, SessionLost, is_unsettled, is_create, is_close, is_lock}
use Rattle.spec_exchange.specs.Operations.{create_of, persists}
use Rattle.spec_exchange.specs.Client.{Client, create_for, is_taken, may_take, may_push, has_its_slot, goes_itself}
use Rattle.spec_exchange.specs.Client.{lacks_slot, settle_no_slot, settle_no_slots, begin, again, outstanding}
use Rattle.spec_exchange.specs.Client.{cut_channel, ends_at_cut, end_session, outcome_after_end, unsent_after_end}
use Rattle.spec_exchange.specs.Client.{finish, outcome_after_finish, is_gone_after}
use Rattle.spec_exchange.specs.Settling.{Heard as Hearing, Settles, GoesAgain, Attaches, EndsSession, heard, hear}
use Rattle.spec_exchange.specs.Settling.{is_awaited, settle, settled, noted, noted_full, settles_open, with_no_opens}
use Rattle.spec_exchange.specs.Settling.{without_open, answered}
use Rattle.spec_exchange.specs.Dialogs.{DialogStep, GoesOn, Accepts, Binds, Readies, Refuses, dialog_step}
use Rattle.spec_exchange.specs.ClientStep.{Pick, Act, Nothing, Sends, Asks, CloseChannels, AllSettled, pick_after}
use Rattle.spec_exchange.specs.ClientStep.{op_after, push_after, hear_after, client_after, act, Pushes, IsReady}
use Rattle.spec_exchange.specs.ClientStep.{CloseChannel}
use Rattle.spec_exchange.specs.Network.{World, Event, Submit, Open, Push, Serve, Take, Cut, Drop, Restart, Crash, Wait}
use Rattle.spec_exchange.specs.Network.{Finish, Received, Sent, Token, ForDialog, ForOp, ForAttach, happens, run, start}
use Rattle.spec_exchange.specs.Network.{Settings, may_open, may_serve, pushed_by, serve_front, absorb_front, take_reply}
use Rattle.spec_exchange.specs.Network.{took_by, dialog_took, behind_reply, dialog_ended}
use Rattle.spec_exchange.specs.Statements.{SettledStays}
use Rattle.law_sessions.specs.messages.Connections.{Settled as AllSettledOff, Taken, TakenOn, Creates, makes_open, its_create}
use Rattle.law_server.proofs.tables.Logic.{either, front_of}
use Rattle.law_sessions.proofs.messages.Run.{ConnectionsHold, after, keeps, begins, found, awaited_of, without_same}
use Rattle.law_sessions.proofs.messages.Run.{next_of, always, ended_well}

-- the row of a number that isn't taken is as in the beginning
abbrev pub Beyond : Client → Type 0
Beyond c = (h : ℕ) → is_taken c h ≡ false → c.outcome h ≡ Unsettled × c.op h ≡ OpClose 0

abbrev pub Kept : Client → Client → Type 0
Kept c d = Beyond c → Beyond d × ((h : ℕ) → is_unsettled (c.outcome h) ≡ false → d.outcome h ≡ c.outcome h × d.op h ≡ c.op h)

kept_same : (c : Client) → Kept c c
kept_same c = λ b. (b, λ h s. (refl, refl))

kept_on : (c d e : Client) → Kept c d → Kept d e → Kept c e
kept_on c d e f g = λ b. let p = f b in let q = g p.0 in
    (q.0, λ h s. let r = p.1 h s in let t = q.1 h (ap is_unsettled r.0 ∙ s) in (t.0 ∙ r.0, t.1 ∙ r.1))

-- ---- numbers

settled_taken : (c : Client) (h : ℕ) → Beyond c → is_unsettled (c.outcome h) ≡ false → is_taken c h ≡ true
settled_taken c h b s = by_test (is_taken c h) refl
  where
    by_test : (t : Bool) → is_taken c h ≡ t → is_taken c h ≡ true
    by_test true e = e
    by_test false e = let u : false ≡ true = sym s ∙ ap is_unsettled (b h e).0 in absurd (cc)

taken_of : (h t : ℕ) → 0 < h → h ≤ t → (nat_lt 0 h && nat_le h t) ≡ true
taken_of h t l m = grind (arith, nat_tests)

not_taken_before : (h t g : ℕ) → g ≡ t + 1 → (nat_lt 0 h && nat_le h g) ≡ false → (nat_lt 0 h && nat_le h t) ≡ false
not_taken_before h t g e f = grind (arith, nat_tests)

not_the_next : (h t g : ℕ) → g ≡ t + 1 → (nat_lt 0 h && nat_le h g) ≡ false → h ≢ g
not_the_next h t g e f = grind (arith, nat_tests)

below_the_next : (h t g : ℕ) → g ≡ t + 1 → (nat_lt 0 h && nat_le h t) ≡ true → h ≢ g
below_the_next h t g e f = grind (arith, nat_tests)

not_that : (c : Client) (g h : ℕ) → is_taken c g ≡ true → is_taken c h ≡ false → h ≢ g
not_that c g h t f = λ e. let u : false ≡ true = sym f ∙ (ap (is_taken c) e ∙ t) in absurd (cc)

not_sent : (c : Client) (h : ℕ) → Taken c → is_taken c h ≡ false → c.sent h ≡ false
not_sent c h taken f = by_test (c.sent h) refl
  where
    by_test : (t : Bool) → c.sent h ≡ t → c.sent h ≡ false
    by_test true e = let l = taken h e in let u : false ≡ true = sym f ∙ taken_of h c.taken l.0 l.1 in absurd (cc)
    by_test false e = e

-- ---- the client's steps

other_put : (f : ℕ → Outcome) (g h : ℕ) (o : Outcome) → h ≢ g → put f g o h ≡ f h
other_put f g h o d = grind arith

other_op : (f : ℕ → Op) (g h : ℕ) (op : Op) → h ≢ g → put f g op h ≡ f h
other_op f g h op d = grind arith

kept_take : (c : Client) (g : ℕ) (op : Op) (o : Outcome) → g ≡ c.taken + 1 → Kept c (record c {
  taken = g;
  op = put c.op g op;
  outcome = put c.outcome g o;
})
kept_take c g op o e =
    λ b. (
      λ h f. let d = not_the_next h c.taken g e f in let old = b h (not_taken_before h c.taken g e f) in
          (other_put c.outcome g h o d ∙ old.0, other_op c.op g h op d ∙ old.1),
      λ h s. let d = below_the_next h c.taken g e (settled_taken c h b s) in (other_put c.outcome g h o d, other_op c.op g h op d),
    )

apart : (f : ℕ → Outcome) (h g : ℕ) → is_unsettled (f h) ≡ false → is_unsettled (f g) ≡ true → h ≢ g
apart f h g s u = λ e. let p : false ≡ true = sym s ∙ (ap (λ x. is_unsettled (f x)) e ∙ u) in absurd (cc)

kept_put : (c : Client) (g : ℕ) (o : Outcome) → is_taken c g ≡ true → is_unsettled (c.outcome g) ≡ true
    → Kept c (record c { outcome = put c.outcome g o })
kept_put c g o t u = λ b. (
  λ h f. let old = b h f in (other_put c.outcome g h o (not_that c g h t f) ∙ old.0, old.1),
  λ h s. (other_put c.outcome g h o (apart c.outcome h g s u), refl),
)

kept_slotless : (c : Client) (k g : ℕ) → Kept c (settle_no_slot c k g)
kept_slotless c k g =
    either (λ d. Kept c d) (lacks_slot c k g) (record c { outcome = put c.outcome g (NoSlot (create_for c g)) }) c
    (λ lacks. let may = found c k g (front_of (may_push c k g) _ lacks) in kept_put c g (NoSlot (create_for c g))
    (taken_of g c.taken may.above may.within) may.pending) (λ _. kept_same c)

kept_slotlesses : (c : Client) (k : ℕ) (gs : List ℕ) → Kept c (settle_no_slots c k gs)
unfolding settle_no_slots
kept_slotlesses c k [] = kept_same c
kept_slotlesses c k (g ∷ gs) = kept_on c (settle_no_slot c k g) (settle_no_slots (settle_no_slot c k g) k gs)
    (kept_slotless c k g) (kept_slotlesses (settle_no_slot c k g) k gs)

kept_begun : (c : Client) (k g i : ℕ) (b : Bool) → Kept c (outstanding (if b then again c g else begin c g i) k g)
kept_begun c k g i true = either (λ d. Kept c (outstanding d k g)) (is_lock (c.op g)) _ _ (λ _. kept_same c) (λ _. kept_same c)
kept_begun c k g i false = either (λ d. Kept c (outstanding d k g)) (is_lock (c.op g)) _ _ (λ _. kept_same c) (λ _. kept_same c)

kept_op : (c : Client) (k g i : ℕ) → Kept c (op_after c k g i)
kept_op c k g i =
    either (Kept c) (may_push c k g) _ _
    (λ _. either (Kept c) (goes_itself c g) _ _ (λ _. either (Kept c) (has_its_slot c g i) _ _
    (λ _. kept_begun c k g i (c.sent g)) (λ _. kept_same c)) (λ _. kept_same c))
    (λ _. kept_same c)

kept_pick : (c : Client) (k : ℕ) (pick : Option Pick) → Kept c (pick_after c k pick)
kept_pick c k None = kept_same c
kept_pick c k (Some p) = kept_op c k p.op p.slot

kept_push : (c : Client) (k : ℕ) (slotless : List ℕ) (pick : Option Pick) → Kept c (push_after c k slotless pick)
kept_push c k slotless pick =
    either (Kept c) (c.ready k) _ _
    (λ _. kept_on c (settle_no_slots c k slotless) (pick_after (settle_no_slots c k slotless) k pick)
    (kept_slotlesses c k slotless) (kept_pick (settle_no_slots c k slotless) k pick))
    (λ _. kept_same c)

-- the end of a session and of all dialogs
end_same : (c : Client) (g : ℕ) (o : Outcome) → is_unsettled o ≡ false → outcome_after_end c g o ≡ o
end_same c g Unsettled e = absurd (cc)
end_same c g (WasOk reply) e = refl
end_same c g (WasRefused status) e = refl
end_same c g (NoSlot n) e = refl
end_same c g (NoOpen n) e = refl
end_same c g (Unknown why) e = refl

finish_same : (why : Why) (o : Outcome) → is_unsettled o ≡ false → outcome_after_finish why o ≡ o
finish_same why Unsettled e = absurd (cc)
finish_same why (WasOk reply) e = refl
finish_same why (WasRefused status) e = refl
finish_same why (NoSlot n) e = refl
finish_same why (NoOpen n) e = refl
finish_same why (Unknown w) e = refl

-- what isn't taken never went out, and names the create 0, which isn't taken either
unsent_by : (n : ℕ) (p sent create create_sent : Bool) (lost o : Outcome) → sent ≡ false → create_sent ≡ false → o ≡ Unsettled
    → (if p then Unsettled else if sent then lost else if create then Unsettled else unsent_after_end n create_sent o) ≡ Unsettled
unsent_by n p sent create create_sent lost o e f u = grind arith

end_beyond : (c : Client) (h : ℕ) (o : Outcome) → Beyond c → Taken c → is_taken c h ≡ false → o ≡ Unsettled
    → outcome_after_end c h o ≡ Unsettled
end_beyond c h o b taken f u =
    let zeroth : create_for c h ≡ 0 = ap (create_of h) (b h f).1 in
    subst (λ x. outcome_after_end c h x ≡ Unsettled) (sym u)
    (unsent_by (create_for c h) (persists (c.op (create_for c h))) (c.sent h) (is_create (c.op h))
    (c.sent (create_for c h)) (Unknown (SessionLost c.session_number)) (c.outcome (create_for c h))
    (not_sent c h taken f)
    (ap c.sent zeroth ∙ not_sent c 0 taken refl) (ap c.outcome zeroth ∙ (b 0 refl).0))

kept_end : (c : Client) → Taken c → Kept c (end_session c)
kept_end c taken = λ b. (
  λ h f. let old = b h f in (end_beyond c h (c.outcome h) b taken f old.0, old.1),
  λ h s.
      (end_same c h (c.outcome h) s, refl),
)

kept_cut : (c : Client) (k : ℕ) → Taken c → Kept c (if c.ready k then (if ends_at_cut c then end_session c else cut_channel c k) else c)
kept_cut c k taken = either (Kept c) (c.ready k) _ _ (λ _. either (Kept c) (ends_at_cut c) _ _ (λ _. kept_end c taken)
    (λ _. kept_same c)) (λ _. kept_same c)

-- no session can be had
finish_by : (t : Bool) (why : Why) (o : Outcome) → is_unsettled o ≡ false → (if t then outcome_after_finish why o else o) ≡ o
finish_by true why o s = finish_same why o s
finish_by false why o s = refl

not_finished : (t : Bool) (x o : Outcome) → t ≡ false → (if t then x else o) ≡ o
not_finished t x o e = grind arith

kept_finish : (c : Client) (why : Why) → Kept c (finish c why)
kept_finish c why =
    λ b. (
      λ h f. let old = b h f in (
        not_finished (is_taken c h) (outcome_after_finish why (c.outcome h)) (c.outcome h)
            f ∙ old.0,
        old.1,
      ),
      λ h s. (finish_by (is_taken c h) why (c.outcome h) s, refl),
    )

-- ---- a reply

-- what is noted beside an outcome changes none
pub record SameOutcomes (c d : Client) : Type 0 where
  pub outcome : d.outcome ≡ c.outcome
  pub op : d.op ≡ c.op
  pub taken : d.taken ≡ c.taken

noted_same : (c : Client) (g : ℕ) (body : Body) (o : Outcome) → SameOutcomes c (noted c g o body)
noted_same c g body (WasOk reply) =
    either (SameOutcomes c) (is_create (c.op g)) _ _ (λ _. record { outcome = refl; op = refl; taken = refl })
    (λ _. either (SameOutcomes c) (is_close (c.op g)) _ _ (λ _. record {
      outcome = refl;
      op = refl;
      taken = refl;
    }) (λ _. record { outcome = refl; op = refl; taken = refl }))
noted_same c g body Unsettled = record { outcome = refl; op = refl; taken = refl }
noted_same c g body (WasRefused status) = record { outcome = refl; op = refl; taken = refl }
noted_same c g body (NoSlot n) = record { outcome = refl; op = refl; taken = refl }
noted_same c g body (NoOpen n) = record { outcome = refl; op = refl; taken = refl }
noted_same c g body (Unknown why) = record { outcome = refl; op = refl; taken = refl }

full_same : (c d : Client) (g : ℕ) (asking : Bool) (status : ℕ) → SameOutcomes c d → SameOutcomes c (noted_full d g asking status)
full_same c d g asking status same =
    either (SameOutcomes c) (is_lock (d.op g) && (not asking && (status == disk_full))) _ _ (λ _. record {
      outcome = same.outcome;
      op = same.op;
      taken = same.taken;
    }) (λ _. same)

-- what awaits a reply: taken, unsettled, of a create that was taken
pub record Awaits (c : Client) (g : ℕ) : Type 0 where
  pub number : is_taken c g ≡ true
  pub pending : is_unsettled (c.outcome g) ≡ true
  pub create : 0 < create_for c g

kept_settled : (c d : Client) (g place : ℕ) (o : Outcome) → SameOutcomes c d → Awaits c g → Kept c (settled d g o place)
kept_settled c d g place o same w =
    λ b. (
      λ h f. let e : is_taken c h ≡ false = ap (λ t. nat_lt 0 h && nat_le h t) (sym same.taken) ∙ f in let old = b h e in
          (other_put d.outcome g h o (not_that c g h w.number e) ∙ (ap (λ x. x h) same.outcome ∙ old.0), ap (λ x. x h) same.op ∙ old.1),
      λ h s. (other_put d.outcome g h o (apart c.outcome h g s w.pending) ∙ ap (λ x. x h) same.outcome, ap (λ x. x h) same.op),
    )

-- what isn't taken names another create
given_by : (n create : ℕ) (k sent gone : Bool) (o : Outcome) → n ≡ 0 → 0 < create → o ≡ Unsettled
    → without_open ((n == create) && not k) sent gone create o ≡ Unsettled
given_by n create k sent gone o e l u = grind arith

kept_given_up : (d : Client) (create : ℕ) → 0 < create → Kept d (with_no_opens d create)
kept_given_up d create l =
    λ b. (
      λ h f. let old = b h f in (
        given_by (create_for d h) create (is_create (d.op h)) (d.sent h) (is_gone_after d create (d.outcome create))
            (d.outcome h) (ap (create_of h) old.1) l old.0,
        old.1,
      ),
      λ h s. (
        without_same ((create_for d h == create) && not (is_create (d.op h))) (d.sent h)
            (is_gone_after d create (d.outcome create)) create (d.outcome h) s,
        refl,
      ),
    )

kept_settle : (c : Client) (g : ℕ) (asking : Bool) (r : Reply) (place : ℕ) (o : Outcome) → Awaits c g → Kept c (settle c g asking r place o)
kept_settle c g asking r place o w = by_noted c (noted_full (noted c g o r.body) g asking r.status) g place o
    (full_same c (noted c g o r.body) g asking r.status (noted_same c g r.body o)) w
  where
    by_noted : (c d : Client) (g place : ℕ) (o : Outcome) → SameOutcomes c d → Awaits c g
        → Kept c (if settles_open (c.op g) then with_no_opens (settled d g o place) (create_for c g) else settled d g o
        place)
    by_noted c d g place o same w =
        let k = kept_settled c d g place o same w in
        either (Kept c) (settles_open (c.op g)) (with_no_opens (settled d g o place) (create_for c g)) (settled d g o place)
        (λ _. kept_on c (settled d g o place) (with_no_opens (settled d g o place) (create_for c g)) k
        (kept_given_up (settled d g o place) (create_for c g) w.create)) (λ _. k)

kept_heard : (c : Client) (g : ℕ) (asking : Bool) (r : Reply) (place : ℕ) → Taken c → Awaits c g → (h : Hearing)
    → Kept c (hear c g asking r place h)
kept_heard c g asking r place taken w (Settles o) = kept_settle c g asking r place o w
kept_heard c g asking r place taken w GoesAgain = kept_same c
kept_heard c g asking r place taken w Attaches = kept_same c
kept_heard c g asking r place taken w EndsSession = kept_end (answered c g) taken

not_settled : (c : Client) (g k : ℕ) → AllSettledOff c → c.outstanding_on g ≡ Some k → (b : Bool)
    → is_unsettled (c.outcome g) ≡ b → is_unsettled (c.outcome g) ≡ true
not_settled c g k off on true e = e
not_settled c g k off on false e = let none = off g e in absurd (grind arith)

-- a create is its own, and any other operation's was taken before
own_create : (g : ℕ) (op : Op) → 0 < g → (makes_open op ≡ false → 0 < its_create g op) → 0 < create_of g op
unfolding makes_open its_create
own_create g op l f = grind arith

-- the parts that a reply needs
pub record Fits (c : Client) : Type 0 where
  pub settled : AllSettledOff c
  pub taken : Taken c
  pub taken_on : TakenOn c
  pub creates : Creates c

awaits : (c : Client) (g k : ℕ) → Fits c → c.outstanding_on g ≡ Some k → Awaits c g
awaits c g k i on =
    let l = i.taken_on g (ap is_some on) in
    record {
      number = taken_of g c.taken l.0 l.1;
      pending = not_settled c g k i.settled on (is_unsettled (c.outcome g)) refl;
      create = own_create g (c.op g) l.0 (λ m. (i.creates g l.0 l.1 m).0);
    }

kept_hear : (c : Client) (k g : ℕ) (asking : Bool) (r : Reply) (place : ℕ) → Fits c → Kept c (hear_after c k g asking r place)
kept_hear c k g asking r place i =
    either (Kept c) (is_awaited c k g asking) _ _ (λ aw. kept_heard c g asking r place i.taken
    (awaits c g k i (awaited_of c k g asking aw).0) (heard c g asking r)) (λ _. kept_same c)

-- ---- events

abbrev Stay : World → World → Type 0
Stay w v = Kept w.client v.client

pushed_client : (w : World) (k : ℕ) (d : Client) (x : Act) → (pushed_by w k d x).client ≡ d
pushed_client w k d Nothing = refl
pushed_client w k d (Sends g) = refl
pushed_client w k d (Asks g) = refl
pushed_client w k d CloseChannel = refl
pushed_client w k d CloseChannels = refl
pushed_client w k d AllSettled = refl

ended_stays : (w : World) (k session tree : ℕ) → Stay w (dialog_ended w k (IsReady k session tree))
ended_stays w k session tree = ended_well (λ v. Stay w v) w k session tree (λ _. kept_same w.client)
    (λ _ _. kept_same w.client) (kept_same w.client)

dialog_stays : (w : World) (k : ℕ) (r : Reply) (d : DialogStep) → Stay w (dialog_took w k r d)
dialog_stays w k r (GoesOn stage) = kept_same w.client
dialog_stays w k r Accepts = kept_same w.client
dialog_stays w k r Binds = ended_stays w k w.client.session w.client.tree
dialog_stays w k r Readies = ended_stays w k w.client.pending r.tree_id
dialog_stays w k r (Refuses status) = kept_same w.client

took_stays : (w : World) (k : ℕ) (r : Reply) (place : ℕ) → Fits w.client → (t : Token) → Stay w (took_by w k r place t)
took_stays w k r place i ForDialog = dialog_stays w k r (dialog_step (w.client.stage k) r.status)
took_stays w k r place i (ForOp g) = kept_hear w.client k g false r place i
took_stays w k r place i (ForAttach g) = kept_hear w.client k g true r place i

take_stays : (w : World) (k : ℕ) → Fits w.client → (ys : List Received) → Stay w (take_reply w k ys)
take_stays w k i [] = kept_same w.client
take_stays w k i (y ∷ rest) = took_stays (behind_reply w k rest) k y.reply y.place i y.token

serve_stays : (w : World) (k : ℕ) (xs : List Sent) → Stay w (serve_front w k xs)
serve_stays w k [] = kept_same w.client
serve_stays w k (x ∷ rest) = kept_same w.client

absorb_stays : (w : World) (k : ℕ) (xs : List Sent) → Stay w (absorb_front w k xs)
absorb_stays w k [] = kept_same w.client
absorb_stays w k (x ∷ rest) = kept_same w.client

event_stays : (w : World) (a : ℕ → ℕ) (e : Event) → ConnectionsHold w a → Stay w (happens w e)
event_stays w a (Submit g op) i = either (Kept w.client) (may_take w.client g op) _ _
    (λ may. kept_take w.client g op _ (next_of w.client g op may)) (λ _. kept_same w.client)
event_stays w a (Open k) i = either (Stay w) (may_open w k) _ _ (λ _. kept_same w.client) (λ _. kept_same w.client)
event_stays w a (Push k slotless pick) i =
    either (Stay w) (w.client.ready k) _ _
    (λ _. subst (Kept w.client)
    (sym (pushed_client w k (client_after w.client (Pushes k slotless pick))
    (act w.client (Pushes k slotless pick)))) (kept_push w.client k slotless pick)) (λ _. kept_same w.client)
event_stays w a (Serve k) i = either (Stay w) (may_serve w k) _ _ (λ _. serve_stays w k (w.conns k).up) (λ _. kept_same w.client)
event_stays w a (Take k) i = either (Stay w) ((w.conns k).client_open && is_filled (w.conns k).down) _ _
    (λ _. take_stays w k (record { settled = i.settled; taken = i.taken; taken_on = i.taken_on; creates = i.creates })
    (w.conns k).down) (λ _. kept_same w.client)
event_stays w a (Cut k) i =
    either (Stay w) (w.conns k).client_open _ _ (λ _. either (Stay w) (w.client.ready k) _ _
    (λ _. kept_cut w.client k i.taken) (λ _. kept_same w.client)) (λ _. kept_same w.client)
event_stays w a (Drop k) i = either (Stay w) (w.conns k).server_open _ _ (λ _. kept_same w.client) (λ _. kept_same w.client)
event_stays w a Restart i = kept_same w.client
event_stays w a (Crash k kept) i =
    either (Stay w) (may_serve w k) _ _ (λ _. either (Stay w) kept _ _ (λ _. absorb_stays w k (w.conns k).up)
    (λ _. kept_same w.client)) (λ _. kept_same w.client)
event_stays w a (Wait n) i = kept_same w.client
event_stays w a (Finish refusal) i = either (Stay w) (not w.client.live) _ _
    (λ _. kept_finish w.client (NoSession refusal)) (λ _. kept_same w.client)

-- ---- runs

run_stays : (es : List Event) (w : World) (a : ℕ → ℕ) → ConnectionsHold w a → Stay w (run es w)
unfolding run
run_stays [] w a i = kept_same w.client
run_stays (e ∷ es) w a i = kept_on w.client (happens w e).client (run es (happens w e)).client (event_stays w a e i)
    (run_stays es (happens w e) (after w e a) (keeps w a e i))

run_on : (es more : List Event) (w : World) → run (es ++ more) w ≡ run more (run es w)
unfolding run
run_on [] more w = refl
run_on (e ∷ es) more w = run_on es more (happens w e)

stays_on : (z : Settings) (es more : List Event) (g : ℕ) → is_unsettled ((run es (start z)).client.outcome g) ≡ false
    → (run more (run es (start z))).client.outcome g ≡ (run es (start z)).client.outcome g
    × (run more (run es (start z))).client.op g ≡ (run es (start z)).client.op g
stays_on z es more g s =
    let b : Beyond (run es (start z)).client = (run_stays es (start z) (λ x. 0) (begins z) (λ h f. (refl, refl))).0 in
    (run_stays more (run es (start z)) _ (always es (start z) (λ x. 0) (begins z)) b).1 g s

pub settled_stays : SettledStays
settled_stays z es more g s = ap (λ w. w.client.outcome g) (run_on es more (start z)) ∙ (stays_on z es more g s).0

pub settled_op : (z : Settings) (es more : List Event) (g : ℕ) → is_unsettled ((run es (start z)).client.outcome g)
    ≡ false → (run (es ++ more) (start z)).client.op g ≡ (run es (start z)).client.op g
settled_op z es more g s = ap (λ w. w.client.op g) (run_on es more (start z)) ∙ (stays_on z es more g s).1

-- what was never taken has no outcome but the first
pub beyond : (z : Settings) (es : List Event) → Beyond (run es (start z)).client
beyond z es = (run_stays es (start z) (λ x. 0) (begins z) (λ h f. (refl, refl))).0
