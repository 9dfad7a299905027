-- Where no channel is ready a new session is made: a channel is ready then, or all is given up, or the client has no number
-- for the session.
use Rattle.std.proofs.lemmas.Bool.Decides.{nat_tests}
use Rattle.std.proofs.Common.{eqb-true, ◌≡◌, ◌≢◌, ℕ, ◌+◌, ◌≤◌, ◌<◌, ◌==◌, nat_lt, Bool, true, false, not, ◌&&◌, List}
use Rattle.std.proofs.Common.{[], ◌∷◌, length, refl, arith, sym, subst, ◌∙◌, ap, Option, Some, None, is_some}
use Rattle.spec_exchange.specs.Status.{success}
use Rattle.spec_exchange.specs.State.{Accept}
use Rattle.spec_exchange.specs.Step.{step}
use Rattle.spec_exchange.specs.Operations.{Outcome, Unsettled, WasOk, WasRefused, NoSlot, NoOpen, Unknown, Refusal, NoSession, is_unsettled}
use Rattle.spec_exchange.specs.Client.{Stage, RefusedDialog, is_taken, outcome_after_finish}
use Rattle.spec_exchange.specs.ClientStep.{last_number}
use Rattle.spec_exchange.specs.Schedules.{Course, went, link, linked, finished_after, finished_by, last_refusal, is_apart}
use Rattle.spec_exchange.specs.Network.{World, Open, Finish, Conn, happens, changed, later, may_open, fresh}
use Rattle.law_server.proofs.tables.Logic.{both}
use Rattle.law_sessions.specs.sessions.Sessions.{makes_session}
use Rattle.law_sessions.specs.sessions.Dialogs.{Channel, IsClosed, IsReady, IsInDialog}
use Rattle.law_answers.proofs.completeness.Events.{if_on, put_at, Elsewhere, so, open_elsewhere}
use Rattle.law_answers.proofs.completeness.Facts.{Facts, Always, AllPresent}
use Rattle.law_answers.proofs.completeness.Equations.{finished_on, finished_off, linked_on, least_on}
use Rattle.law_answers.proofs.completeness.Link.{LinkEnd, NowReady, NowRefused, OutOfNumbers, links_all, goes_on}
use Rattle.law_answers.proofs.completeness.Later.{Later, joined_on, link_later, finished_later}
use Rattle.law_answers.proofs.completeness.Clean.{Clean, clean_else, clean_shut, at_or_else, finished_conns}
use Rattle.law_answers.proofs.completeness.Tidy.{Rested, none_ready, ready_counts}

absent : (b : Bool) (P : Type 0) → b ≡ true → b ≡ false → P
absent b P e f = absurd (cc)

-- ---- no channel is open

ready_open : (r : Bool) (s : Stage) (c : Conn) → c.server_open ≡ true → c.up ≡ [] → c.down ≡ [] → c.client_open ≡ true
    → Channel r s c → r ≡ true
ready_open r s c server up down o (IsClosed off apart shut none) = absurd (cc)
ready_open r s c server up down o (IsReady on apart stands) = on
ready_open r s c server up down o (IsInDialog off talks stands waits) = absurd (grind arith)

all_shut : (w : World) → Facts w → ((q : ℕ) → Clean w.conns q) → (w.client.channels == 0) ≡ true → (q : ℕ) → (w.conns q).client_open ≡ false
all_shut w F clean none q = by (w.conns q).client_open refl
  where
    by : (b : Bool) → (w.conns q).client_open ≡ b → (w.conns q).client_open ≡ false
    by true o =
        let p = clean q o in absent (w.client.channels == 0) _ none
        (ready_counts w q F (ready_open (w.client.ready q) (w.client.stage q) (w.conns q) p.0 p.1 p.2 o
        (F.channels q)))
    by false o = o

shut_stage : (r : Bool) (s : Stage) (c : Conn) → c.client_open ≡ false → Channel r s c → makes_session s ≡ true → (P : Type 0) → P
shut_stage r s c o (IsClosed off apart shut none) m P = absurd (grind arith)
shut_stage r s c o (IsReady on apart stands) m P = absurd (cc)
shut_stage r s c o (IsInDialog off talks stands waits) m P = absurd (cc)

none_made : (w : World) → Facts w → ((q : ℕ) → (w.conns q).client_open ≡ false) → w.client.making ≡ None
none_made w F shut = by w.client.making refl
  where
    by : (m : Option ℕ) → w.client.making ≡ m → w.client.making ≡ None
    by None e = e
    by (Some k) e = shut_stage (w.client.ready k) (w.client.stage k) (w.conns k) (shut k) (F.channels k) (F.making_talks k e) _

-- ---- the first event of a link

pub record Begun (w v : World) : Type 0 where
  pub client_end : (v.conns 0).client_open ≡ true
  pub server_end : (v.conns 0).server_open ≡ true
  pub refusals : v.client.refusals ≡ w.client.refusals
  pub off : v.client.ready 0 ≡ w.client.ready 0

may_begin : (w : World) → (w.conns 0).client_open ≡ false → (w.conns 0).server_open ≡ false → w.client.making ≡ None → may_open w 0 ≡ true
may_begin w a b c = opens (w.conns 0).client_open (w.conns 0).server_open (is_some w.client.making) a b (ap is_some c)
  where
    opens : (x y z : Bool) → x ≡ false → y ≡ false → z ≡ false → (true && (not x && (not y && not z))) ≡ true
    opens x y z a b c = grind arith

begins : (w : World) → (w.conns 0).client_open ≡ false → (w.conns 0).server_open ≡ false → w.client.making ≡ None
    → (step w.server w.moment (Accept 0)).reply.status ≡ success → Begun w (happens w (Open 0))
begins w a b c s =
    let A = step w.server w.moment (Accept 0) in let at = put_at w.conns 0 (fresh w.client 0 (A.reply.status == success)) in
    subst (λ v. Begun w v) (sym (if_on (may_open w 0) (later (changed w (Open 0)) 1) w (may_begin w a b c)))
    (record {
      client_end = ap (λ (d : Conn). d.client_open) at;
      server_end = ap (λ (d : Conn). d.server_open) at ∙ same A.reply.status s;
      refusals = refl;
      off = refl;
    })
  where
    same : (n : ℕ) → n ≡ success → (n == success) ≡ true
    same n e = grind (arith, nat_tests)

-- ---- all is given up

last_there : (ds : List RefusedDialog) (n : ℕ) → length ds ≡ n + 1 → (r : Refusal) × last_refusal ds ≡ Some r
unfolding last_refusal
last_there [] n e = absurd (omega (arith, e))
last_there (d ∷ []) n e = (d.refusal, refl)
last_there (d ∷ x ∷ ds) n e = last_there (x ∷ ds) (length ds) (omega arith)

finish_outcome : (w : World) (r : Refusal) (g : ℕ) → w.client.live ≡ false → 0 < g → g ≤ w.client.taken
    → is_unsettled ((happens w (Finish r)).client.outcome g) ≡ false
finish_outcome w r g dead low high =
    subst (λ (v : World). is_unsettled (v.client.outcome g) ≡ false)
    (sym (if_on (not w.client.live) (later (changed w (Finish r)) 1) w (ap not dead)))
    (subst (λ o. is_unsettled o ≡ false)
    (sym (if_on (is_taken w.client g) (outcome_after_finish (NoSession r) (w.client.outcome g)) (w.client.outcome g)
    (both (nat_lt 0 g) _ (grind (arith, nat_tests)) (grind (arith, nat_tests))))) (firm (w.client.outcome g)))
  where
    firm : (o : Outcome) → is_unsettled (outcome_after_finish (NoSession r) o) ≡ false
    firm Unsettled = refl
    firm (WasOk reply) = refl
    firm (WasRefused status) = refl
    firm (NoSlot create) = refl
    firm (NoOpen create) = refl
    firm (Unknown why) = refl

-- ---- the whole

-- how a round finds its channels
pub data Found (d : Course) (w : World) : Type 0 where
  HasReady : (d.world.client.channels == 0) ≡ false → Found d w
  GaveUp : (d.world.client.channels == 0) ≡ true
      → ((g : ℕ) → 0 < g → g ≤ w.client.taken → is_unsettled (d.world.client.outcome g) ≡ false) → Found d w
  CountedOut : (d.world.client.channels == 0) ≡ true → last_number ≤ d.world.client.session_number → Found d w

pub record Sought (K : World → Type 0) (c d : Course) : Type 0 where
  pub later : Later K c d
  pub clean : (q : ℕ) → Clean d.world.conns q
  pub found : Found d c.world

not_longer : (n m : ℕ) → m ≡ n → (true && not (n == m)) ≡ false
not_longer n m e = grind (arith, nat_tests)

longer : (n m : ℕ) → m ≡ n + 1 → (true && not (n == m)) ≡ true
longer n m e = grind (arith, nat_tests)

dead_there : (w : World) → Facts w → (w.client.channels == 0) ≡ true → w.client.live ≡ false
dead_there w F none = by w.client.live refl
  where
    by : (b : Bool) → w.client.live ≡ b → w.client.live ≡ false
    by true e = let l = F.live_channels e in let z = eqb-true w.client.channels 0 none in absurd (omega (arith, l, z))
    by false e = e

finish_went : (c : Course) (r : Refusal) (g : ℕ) → c.world.client.live ≡ false → 0 < g → g ≤ c.world.client.taken
    → is_unsettled ((finished_by (Some r) c).world.client.outcome g) ≡ false
unfolding finished_by went
finish_went c r g dead low high = finish_outcome c.world r g dead low high

-- the linking is over on channel 0
ended : (K : World → Type 0) → Always K → AllPresent K → (c l : Course) → K c.world → Later K c l
    → ((q : ℕ) → (c.world.conns q).client_open ≡ false) → Elsewhere c.world.conns l.world.conns 0
    → (l.world.conns 0).server_open ≡ true → LinkEnd K c.world l.world 0
    → Sought K c (finished_after true c l)
ended K A R c l h later shut away server (NowReady ready refusals stands up down) =
    let same = finished_off true c l (not_longer (length c.world.client.refusals) (length l.world.client.refusals) (ap length refusals)) in
    subst (λ d. Sought K c d) (sym same)
    (record {
      later = later;
      clean = λ q. at_or_else (λ x. Clean l.world.conns x) 0 q (λ o. (server, up, down))
          (λ n. clean_else c.world.conns l.world.conns 0 q away n (clean_shut c.world.conns q (shut q)));
      found = HasReady (ready_counts l.world 0 (A.facts l.world later.known) ready);
    })
ended K A R c l h later shut away server (NowRefused off refusals unready) =
    let d = finished_after true c l in let b = finished_later K A true c l later.known in let conns = finished_conns true c l in
    let closed = λ (q : ℕ). all_closed l.world.conns away off q in
    let none = none_ready l.world (A.facts l.world later.known) closed in let dead = dead_there l.world
    (A.facts l.world later.known) none in
    let r = last_there l.world.client.refusals (length c.world.client.refusals) refusals in
    let is = finished_on true c l (longer (length c.world.client.refusals) (length l.world.client.refusals) refusals)
    ∙ ap (λ o. finished_by o l) r.1 in
    record {
      later = joined_on K c l d later b;
      clean = λ q. clean_shut d.world.conns q (ap (λ f. (f q).client_open) conns ∙ closed q);
      found = GaveUp (none_ready d.world (A.facts d.world b.known) (λ q. ap (λ f. (f q).client_open) conns ∙ closed q))
          (λ g low high. subst (λ (e : Course). is_unsettled (e.world.client.outcome g) ≡ false) (sym is)
          (finish_went l r.0 g dead low (subst (λ n. g ≤ n) (sym later.taken) high)));
    }
  where
    all_closed : (f : ℕ → Conn) → Elsewhere c.world.conns f 0 → (f 0).client_open ≡ false → (q : ℕ) → (f q).client_open ≡ false
    all_closed f away off q = at_or_else (λ x. (f x).client_open ≡ false) 0 q off (λ n. by q n (f q).client_open refl)
      where
        by : (q : ℕ) → q ≢ 0 → (b : Bool) → (f q).client_open ≡ b → (f q).client_open ≡ false
        by q n true o = absent (c.world.conns q).client_open _ (ap (λ (d : Conn). d.client_open) (sym (away.same q n o)) ∙ o) (shut q)
        by q n false o = o
ended K A R c l h later shut away server (OutOfNumbers off out) =
    let d = finished_after true c l in let b = finished_later K A true c l later.known in let conns = finished_conns true c l in
    let closed = λ (q : ℕ). all_closed l.world.conns away off q in
    record {
      later = joined_on K c l d later b;
      clean = λ q. clean_shut d.world.conns q (ap (λ f. (f q).client_open) conns ∙ closed q);
      found = CountedOut (none_ready d.world (A.facts d.world b.known) (λ q. ap (λ f. (f q).client_open) conns
          ∙ closed q)) (last (out R.rise) b.number);
    }
  where
    last : {a b : ℕ} → last_number ≤ a → a ≤ b → last_number ≤ b
    last l m = omega (arith, l, m)

    all_closed : (f : ℕ → Conn) → Elsewhere c.world.conns f 0 → (f 0).client_open ≡ false → (q : ℕ) → (f q).client_open ≡ false
    all_closed f away off q = at_or_else (λ x. (f x).client_open ≡ false) 0 q off (λ n. by q n (f q).client_open refl)
      where
        by : (q : ℕ) → q ≢ 0 → (b : Bool) → (f q).client_open ≡ b → (f q).client_open ≡ false
        by q n true o = absent (c.world.conns q).client_open _ (ap (λ (d : Conn). d.client_open) (sym (away.same q n o)) ∙ o) (shut q)
        by q n false o = o

from_begun : (K : World → Type 0) (w v u : World) → v.client.refusals ≡ w.client.refusals → LinkEnd K v u 0 → LinkEnd K w u 0
from_begun K w v u e (NowReady a b c d f) = NowReady a (b ∙ e) c d f
from_begun K w v u e (NowRefused a b c) = NowRefused a (b ∙ ap (λ xs. length xs + 1) e) c
from_begun K w v u e (OutOfNumbers a b) = OutOfNumbers a b

linked_zero : (K : World → Type 0) → Always K → AllPresent K → (c : Course) → K c.world → Rested c.world
    → (c.world.client.channels == 0) ≡ true → Sought K c (finished_after true c (link c 0))
unfolding link went
linked_zero K A R c h rest none =
    let F = A.facts c.world h in let shut = all_shut c.world F rest.clean none in let gone = rest.orphan 0 (shut 0) in
    let v = went c (Open 0) in let b = begins c.world (shut 0) gone (none_made c.world F shut) (F.accepts 0 (omega arith) gone) in
    let kv = A.step c.world (Open 0) h in let s = links_all K A v 0 kv in let l = link c 0 in
    let off : v.world.client.ready 0 ≡ false = b.off ∙ unready (c.world.client.ready 0) (c.world.client.stage 0)
    (c.world.conns 0) (shut 0) (F.channels 0) in
    ended K A R c l h (link_later K A c 0 h) shut (so c.world.conns v.world.conns l.world.conns 0
    (open_elsewhere c.world 0) s.elsewhere) (s.server ∙ b.server_end)
    (from_begun K c.world v.world l.world b.refusals (s.ends (goes_on v.world 0 b.client_end b.server_end off)))
  where
    unready : (r : Bool) (s : Stage) (d : Conn) → d.client_open ≡ false → Channel r s d → r ≡ false
    unready r s d o (IsClosed off apart shut none) = off
    unready r s d o (IsReady on apart stands) = absurd (cc)
    unready r s d o (IsInDialog off talks stands waits) = off

apart_zero : (w : World) → (w.conns 0).client_open ≡ false → (w.conns 0).server_open ≡ false → is_apart w 0 ≡ true
unfolding is_apart
apart_zero w a b = grind arith

pub seeks : (K : World → Type 0) → Always K → AllPresent K → (c : Course) → K c.world → Rested c.world
    → (c.world.client.channels == 0) ≡ true → Sought K c (linked 256 c)
seeks K A R c h rest none =
    let F = A.facts c.world h in let shut = all_shut c.world F rest.clean none in
    subst (λ d. Sought K c d)
    (sym (linked_on 256 c none ∙ ap (λ k. finished_after true c (link c k))
    (least_on (is_apart c.world) 0 255 (apart_zero c.world (shut 0) (rest.orphan 0 (shut 0))))))
    (linked_zero K A R c h rest none)
