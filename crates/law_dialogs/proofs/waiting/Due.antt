-- The laws on values give what the laws on both ends of a connection ask.
use Rattle.std.proofs.lemmas.Bool.{eqb-false}
use Rattle.std.proofs.Common.{◌≡◌, ℕ, ◌+◌, ◌<◌, ◌≤◌, ◌==◌, Bool, true, false, not, if◌then◌else◌, List, [], ◌∷◌, refl, sym, ap, ◌∙◌}
use Rattle.std.proofs.Common.{subst, eqb-true, arith, Option, Some, None, is_some}
use Rattle.spec_exchange.specs.Client.{Stage, Apart, SaidNegotiate, SaidFirst, SaidSecond, AskedTree}
use Rattle.spec_exchange.specs.Network.{World as Values, Event, Settings, Sent, Received, Token, ForDialog, op_of, run, start}
use Rattle.spec_exchange.specs.Schedules.{is_talking}
use Rattle.spec_exchange.specs.Runs.{acts}
use Rattle.law_sessions.specs.messages.Connections.{Connections, count_up, count_down, is_bound}
use Rattle.law_sessions.proofs.messages.Run.{connections}
use Rattle.law_sessions.specs.sessions.Sessions.{Sessions, makes_session}
use Rattle.law_sessions.proofs.sessions.Always.{sessions}
use Rattle.law_sessions.proofs.sessions.DialogFacts.{dialogs}
use Rattle.law_sessions.specs.sessions.Dialogs.{Dialogs, Channel, IsClosed, IsReady, IsInDialog, Awaits, MessageAlone, ReplyAlone, IsLost}
use Rattle.spec_world.specs.Settings.{WorldSettings, values_of}
use Rattle.spec_world.specs.World.{World}
use Rattle.law_ties.specs.events.Links.{is_lined}
use Rattle.law_ties.specs.events.InStep.{AllTaken}
use Rattle.law_ties.specs.events.Taken.{OtherUp, OtherDown, IsAlone}
use Rattle.law_ties.specs.channel_numbers.Counted.{binds}
use Rattle.law_dialogs.specs.waiting.Due.{IsWaitingDue, WorldsAreDue}

-- what the laws say of a world of values
pub record Facts (z : Settings) (v : Values) : Type 0 where
  pub counts : ℕ → ℕ
  pub carried : Connections v.client v.conns counts
  pub sits : Sessions v.client v.conns v.server
  pub talk : Dialogs z.who v.client v.conns

-- ---- small words

off_on : {X : Type 0} (b : Bool) → b ≡ false → b ≡ true → X
off_on b e f = absurd (let h : false ≡ true = sym e ∙ f in cc)

none_more : {X Y : Type 0} (xs : List X) (x : X) (rest : List X) → xs ≡ [] → xs ≡ x ∷ rest → Y
none_more xs x rest e f = absurd (let h : [] ≡ x ∷ rest = sym e ∙ f in cc)

same_test : (n : ℕ) → (n == n) ≡ true
same_test n = grind arith

no_talk : is_talking Apart ≡ false
unfolding is_talking
no_talk = refl

-- ---- replies that come

dialog_counts : (y : Received) (ys : List Received) (up : ℕ) → y.token ≡ ForDialog → up + count_down 0 (y ∷ ys) ≡ 0 → ⊥
dialog_counts y ys up token e =
    let h : up + ((if op_of ForDialog == 0 then 1 else 0) + count_down 0 ys) ≡ 0 =
    subst (λ t. up + ((if op_of t == 0 then 1 else 0) + count_down 0 ys) ≡ 0) token e in
    omega (arith, h)

operations_due : (z : Settings) (v : Values) → Facts z v → (k : ℕ) (y : Received) (ys : List Received) → (v.conns k).client_open ≡ true
    → v.client.stage k ≡ Apart → (v.conns k).down ≡ y ∷ ys → y.token ≡ ForDialog → ⊥
operations_due z v f k y ys co at e token =
    let d = f.talk in by (d.channels k)
  where
    by : Channel (v.client.ready k) (v.client.stage k) (v.conns k) → ⊥
    by (IsClosed r s o w) = off_on (v.conns k).client_open o co
    by (IsReady r s o) =
        let c = f.carried in
        let all = c.ready k r in
        dialog_counts y ys (count_up 0 (v.conns k).up) token
        (subst (λ ds. count_up 0 (v.conns k).up + count_down 0 ds ≡ 0) e all.2)
    by (IsInDialog r t o a) = off_on (is_talking (v.client.stage k)) (ap is_talking at ∙ no_talk) t

front_same : (y x : Received) (ys : List Received) → x ∷ [] ≡ y ∷ ys → x ≡ y
front_same y x ys e = cc

dialogs_due : (z : Settings) (v : Values) → Facts z v → (k : ℕ) (y : Received) (ys : List Received) → (v.conns k).client_open ≡ true
    → v.client.stage k ≡ AskedTree → (v.conns k).down ≡ y ∷ ys → y.token ≡ ForDialog
dialogs_due z v f k y ys co at e =
    let d = f.talk in by (d.channels k)
  where
    waits : Awaits (v.conns k) → y.token ≡ ForDialog
    waits (MessageAlone x u w t) = none_more (v.conns k).down y ys w e
    waits (ReplyAlone x u w t) = ap (λ (r : Received). r.token) (sym (front_same y x ys (sym w ∙ e))) ∙ t
    waits (IsLost o u w) = none_more (v.conns k).down y ys w e

    by : Channel (v.client.ready k) (v.client.stage k) (v.conns k) → y.token ≡ ForDialog
    by (IsClosed r s o w) = off_on (v.conns k).client_open o co
    by (IsReady r s o) = absurd (let h : AskedTree ≡ Apart = sym at ∙ s in cc)
    by (IsInDialog r t o a) = waits a

-- ---- of operations that were taken

more_of : (b : Bool) (n : ℕ) → 1 ≤ n → 1 ≤ (if b then 1 else 0) + n
more_of true n e = omega (arith, e)
more_of false n e = omega (arith, e)

one_of : (b : Bool) (n : ℕ) → b ≡ true → 1 ≤ (if b then 1 else 0) + n
one_of true n e = omega arith
one_of false n e = absurd (let h : false ≡ true = e in cc)

all_taken : (taken : ℕ) (ys : List Received) → ((g : ℕ) → 1 ≤ count_down g ys → g ≤ taken) → AllTaken taken ys
all_taken taken [] f = tt
all_taken taken (y ∷ ys) f = (
  f (op_of y.token) (one_of (op_of y.token == op_of y.token) (count_down (op_of y.token) ys) (same_test (op_of y.token))),
  all_taken taken ys (λ g e. f g (more_of (op_of y.token == g) (count_down g ys) e)),
)

above_zero : (g : ℕ) → (g ≡ 0 → ⊥) → 0 < g
above_zero g n = grind arith

zero_by : (g : ℕ) (P : Type 0) (b : Bool) → (g == 0) ≡ b → (g ≡ 0 → P) → (0 < g → P) → P
zero_by g P true e f h = f (eqb-true g 0 e)
zero_by g P false e f h = h (above_zero g (eqb-false g 0 e))

sum_of : (a b : ℕ) → 1 ≤ b → 1 ≤ a + b
sum_of a b e = omega (arith, e)

no_count : (g : ℕ) → 1 ≤ count_down g [] → ⊥
no_count g e = omega (arith, e)

opens_by : (z : Settings) (v : Values) → Facts z v → (k g : ℕ) (b : Bool) → (v.conns k).client_open ≡ b
    → 1 ≤ count_down g (v.conns k).down → (v.conns k).client_open ≡ true
opens_by z v f k g true e h = e
opens_by z v f k g false e h =
    let c = f.carried in absurd (no_count g (subst (λ ds. 1 ≤ count_down g ds) (c.down_open k e) h))

taken_by : (z : Settings) (v : Values) → Facts z v → (k g : ℕ) → 1 ≤ count_down g (v.conns k).down → 0 < g → g ≤ v.client.taken
taken_by z v f k g h pos =
    let c = f.carried in
    let o = opens_by z v f k g (v.conns k).client_open refl h in
    let out = c.outstanding k g o (sum_of (count_up g (v.conns k).up) (count_down g (v.conns k).down) h) pos in
    let all = c.taken_on g (ap is_some out) in
    all.1

zero_low : (g n : ℕ) → g ≡ 0 → g ≤ n
zero_low g n e = omega (arith, e)

replies_taken : (z : Settings) (v : Values) → Facts z v → (k : ℕ) → AllTaken v.client.taken (v.conns k).down
replies_taken z v f k =
    all_taken v.client.taken (v.conns k).down
    (λ g h. zero_by g (g ≤ v.client.taken) (g == 0) refl (zero_low g v.client.taken) (taken_by z v f k g h))

-- ---- one copy

zero_both : (b : Bool) (n : ℕ) → (if b then 1 else 0) + n ≡ 0 → (b ≡ false) × (n ≡ 0)
zero_both true n e = absurd (omega (arith, e))
zero_both false n e = (refl, omega (arith, e))

other_up : (t : Token) (xs : List Sent) → count_up (op_of t) xs ≡ 0 → OtherUp t xs
other_up t [] e = tt
other_up t (x ∷ xs) e =
    let s = zero_both (op_of x.token == op_of t) (count_up (op_of t) xs) e in (
      λ same. off_on (op_of x.token == op_of t) s.0 (ap (λ u. op_of u == op_of t) same ∙ same_test (op_of t)),
      other_up t xs s.1,
    )

other_down : (t : Token) (ys : List Received) → count_down (op_of t) ys ≡ 0 → OtherDown t ys
other_down t [] e = tt
other_down t (y ∷ ys) e =
    let s = zero_both (op_of y.token == op_of t) (count_down (op_of t) ys) e in (
      λ same. off_on (op_of y.token == op_of t) s.0 (ap (λ u. op_of u == op_of t) same ∙ same_test (op_of t)),
      other_down t ys s.1,
    )

one_and : (b : Bool) (u n : ℕ) → b ≡ true → u + ((if b then 1 else 0) + n) ≤ 1 → (u ≡ 0) × (n ≡ 0)
one_and true u n e h = (omega (arith, h), omega (arith, h))
one_and false u n e h = absurd (let q : false ≡ true = e in cc)

alone_at : (z : Settings) (w : World) → Facts z w.values → (k : ℕ) (y : Received) (ys : List Received)
    → (w.values.conns k).down ≡ y ∷ ys → IsAlone w k y ys
alone_at z w f k y ys e =
    let c = f.carried in
    let g = op_of y.token in
    let up = (w.values.conns k).up in
    let h : count_up g up + count_down g (y ∷ ys) ≤ 1 = subst (λ ds. count_up g up + count_down g ds ≤ 1) e (c.once k g) in
    let both = one_and (g == g) (count_up g up) (count_down g ys) (same_test g) h in
    record { up = other_up y.token up both.0; down = other_down y.token ys both.1 }

-- ---- one dialog

none_some : {X : Type 0} (k : ℕ) (o : Option ℕ) → o ≡ None → o ≡ Some k → X
none_some k o e f = absurd (let q : None ≡ Some k = sym e ∙ f in cc)

two_makers : {X : Type 0} (j k : ℕ) (o : Option ℕ) → o ≡ Some j → o ≡ Some k → (j == k) ≡ false → X
two_makers j k o e f off =
    let q : Some j ≡ Some k = sym e ∙ f in
    let s : j ≡ k = (cc) in
    absurd (eqb-false j k off s)

quiet_at : (z : Settings) (v : Values) → Facts z v → (k : ℕ) → makes_session (v.client.stage k) ≡ true → (j : ℕ) → (j == k) ≡ false
    → (stage : Stage) → v.client.stage j ≡ stage → is_lined stage ≡ true
quiet_at z v f k makes j off stage e = by stage e
  where
    making : v.client.making ≡ Some k
    making = (let s = f.sits in s.making k makes)

    other : (b : Bool) (st : Stage) → v.client.stage j ≡ st → (b ≡ true → is_bound st ≡ true) → (b ≡ false → makes_session st ≡ true)
        → is_lined st ≡ true
    other true st at g h =
        let c = f.carried in
        let s = f.sits in
        let live = c.stages j (ap is_bound at ∙ g refl) in
        let l = s.live_accepted live in
        none_some k v.client.making l.2 making
    other false st at g h =
        let s = f.sits in two_makers j k v.client.making (s.making j (ap makes_session at ∙ h refl)) making off

    by : (st : Stage) → v.client.stage j ≡ st → is_lined st ≡ true
    by Apart at = refl
    by AskedTree at = refl
    by (SaidNegotiate b) at = other b (SaidNegotiate b) at (λ t. t) (λ g. ap not g)
    by (SaidFirst b) at = other b (SaidFirst b) at (λ t. t) (λ g. ap not g)
    by (SaidSecond b) at = other b (SaidSecond b) at (λ t. t) (λ g. ap not g)

same_bound : (stage : Stage) → binds stage ≡ true → is_bound stage ≡ true
same_bound Apart e = e
same_bound (SaidNegotiate b) e = e
same_bound (SaidFirst b) e = e
same_bound (SaidSecond b) e = e
same_bound AskedTree e = e

bound_at : (z : Settings) (v : Values) → Facts z v → (k : ℕ) → binds (v.client.stage k) ≡ true
    → (v.client.session ≡ v.client.accepted) × (0 < v.client.rank v.client.accepted)
bound_at z v f k e =
    let c = f.carried in
    let s = f.sits in
    let l = s.live_accepted (c.stages k (same_bound (v.client.stage k) e)) in
    (l.0, l.1)

ready_at : (z : Settings) (v : Values) → Facts z v → (k : ℕ) → v.client.ready k ≡ true
    → ((v.conns k).client_open ≡ true) × (v.client.stage k ≡ Apart)
ready_at z v f k e =
    let d = f.talk in by (d.channels k)
  where
    by : Channel (v.client.ready k) (v.client.stage k) (v.conns k) → ((v.conns k).client_open ≡ true) × (v.client.stage k ≡ Apart)
    by (IsClosed r s o w) = off_on (v.client.ready k) r e
    by (IsReady r s o) = (o, s)
    by (IsInDialog r t o a) = off_on (v.client.ready k) r e

sent_same : (x v : Sent) (xs : List Sent) → v ∷ [] ≡ x ∷ xs → (v ≡ x) × (xs ≡ [])
sent_same x v xs e = (first, rest)
  where
    first : v ≡ x
    first = cc

    rest : xs ≡ []
    rest = sym (let h : v ∷ [] ≡ x ∷ xs = e in cc)

talks_at : (z : Settings) (v : Values) → Facts z v → (k : ℕ) (x : Sent) (xs : List Sent) → (v.conns k).client_open ≡ true
    → is_lined (v.client.stage k) ≡ false → (v.conns k).up ≡ x ∷ xs → (xs ≡ []) × (x.token ≡ ForDialog)
talks_at z v f k x xs co off e =
    let d = f.talk in by (d.channels k)
  where
    waits : Awaits (v.conns k) → (xs ≡ []) × (x.token ≡ ForDialog)
    waits (MessageAlone m u w t) =
        let s = sent_same x m xs (sym u ∙ e) in (s.1, ap (λ (r : Sent). r.token) (sym s.0) ∙ t)
    waits (ReplyAlone m u w t) = none_more (v.conns k).up x xs u e
    waits (IsLost o u w) = none_more (v.conns k).up x xs u e

    by : Channel (v.client.ready k) (v.client.stage k) (v.conns k) → (xs ≡ []) × (x.token ≡ ForDialog)
    by (IsClosed r s o w) = off_on (v.conns k).client_open o co
    by (IsReady r s o) = off_on (is_lined (v.client.stage k)) off (ap is_lined s)
    by (IsInDialog r t o a) = waits a

-- ---- all of them

due_by : (z : WorldSettings) (w : World) → Facts (values_of z) w.values → IsWaitingDue z w
due_by z w f =
    let s = values_of z in
    let v = w.values in
    let d = f.talk in record {
      who = d.who;
      due = record { operations = operations_due s v f; dialogs = dialogs_due s v f };
      taken = replies_taken s v f;
      alone = alone_at s w f;
      quiet = λ k makes j off o. quiet_at s v f k makes j off (v.client.stage j) refl;
      bound_session = bound_at s v f;
      ready = ready_at s v f;
      talks = talks_at s v f;
    }

pub facts : (z : Settings) (events : List Event) → Facts z (run events (start z))
facts z events = record {
  counts = acts events (start z);
  carried = connections z events;
  sits = sessions z events;
  talk = dialogs z events;
}

pub worlds_are_due : WorldsAreDue
worlds_are_due z w events e = due_by z w (subst (Facts (values_of z)) (sym e) (facts (values_of z) events))
