-- Each event of a run leaves the ends as they were, but for what it uses.
use Rattle.std.proofs.lemmas.Bool.Decides.{nat_tests}
use Rattle.std.proofs.lemmas.List.{append-nil, append_assoc}
use Rattle.std.proofs.Common.{◌≡◌, ℕ, ◌+◌, ◌*◌, ◌^◌, ◌≤◌, ◌<◌, nat_le, Bool, true, false, ◌&&◌, if◌then◌else◌, List, [], ◌∷◌, ◌++◌}
use Rattle.std.proofs.Common.{length, refl, sym, ap, ◌∙◌, subst, arith, Option, Some, None}
use Rattle.spec_exchange.specs.Table.{is_filled}
use Rattle.spec_exchange.specs.Client.{settle_no_slots}
use Rattle.spec_exchange.specs.ClientStep.{Act, Pick, Nothing, CloseChannels, AllSettled, Pushes, act, client_after}
use Rattle.spec_exchange.specs.ClientStep.{pick_act, some_unsettled}
use Rattle.spec_exchange.specs.Network.{Event, Submit, Open, Push, Serve, Take, Cut, Drop, Restart, Crash, Wait, Finish, Sent}
use Rattle.spec_exchange.specs.Network.{is_possible, moments}
use Rattle.spec_wire.specs.credits.Ids.{counted, outside}
use Rattle.spec_wire.specs.credits.Window.{HeldIds}
use Rattle.spec_wire.specs.credits.Exchange.{Line, FrontIsHeld, NothingIsRefused}
use Rattle.law_server.proofs.tables.Logic.{front_of}
use Rattle.spec_world.specs.Settings.{WorldSettings}
use Rattle.spec_world.specs.Ends.{ConnEnd}
use Rattle.spec_world.specs.Sending.{may_seal}
use Rattle.spec_world.specs.Connection.{ConnectionStep}
use Rattle.spec_world.specs.World.{World, Wires, answered_wires, server_end_off, cost, cost_of, may_pay, paid}
use Rattle.spec_world.specs.World.{opened_wires, fresh_wires, greeting_of, served_by, step_at, serve_frame, absorb_frame}
use Rattle.spec_world.specs.World.{restarted_wires}
use Rattle.spec_world.specs.Events.{Plain, bytes_changed, bytes_later, bytes_happen, bytes_run, bytes_start}
use Rattle.spec_world.specs.Statements.{plainly, plain_run, value_events}
use Rattle.law_ties.specs.wire_facts.Fitting.{IsFitting}
use Rattle.law_ties.specs.wire_facts.Steps.{restarts_in, submits_in}
use Rattle.law_ties.specs.events.Fronts.{MayServe}
use Rattle.law_ties.specs.events.Links.{Asked, AllAsked, LinkReached, IsTied}
use Rattle.law_ties.proofs.events.InStep.{next_low, front_held}
use Rattle.law_runs.specs.untampered.Plain.{PlainRunsGoInStep}
use Rattle.law_runs.proofs.untampered.Prefix.{restarts_part, submits_part}
use Rattle.law_runs.specs.purses.Purse.{StillChannelsHaveAll, pushes_in}
use Rattle.law_runs.proofs.purses.Windows.{IsFull, told_fills}
use Rattle.law_runs.proofs.purses.Ends.{IsGood, Keeps, put_good, either, more_good, pushed_good, cut_good, take_good}
use Rattle.law_runs.proofs.purses.Still.{held_low, has_all}

-- ---- the front of what goes up

record Front (z : WorldSettings) (w : World) (k : ℕ) (b : List ℕ) (x : Sent) : Type 0 where
  bill : ℕ × ℕ
  asked : Asked z w.logons k (w.wires k).server_end b x bill
  may : MayServe (w.wires k).server_end bill

front_by : (z : WorldSettings) (w : World) (k : ℕ) (b : List ℕ) (bs : List (List ℕ)) (x : Sent) (xs : List Sent) (l : Line)
    → NothingIsRefused → LinkReached l → (w.wires k).server_end.window ≡ l.window
    → (rs : List (ℕ × ℕ)) → l.requests ≡ rs → (w.wires k).server_end.counter + length rs ≤ l.purse.next
    → AllAsked z w.logons k (w.wires k).server_end (b ∷ bs) (x ∷ xs) rs → Front z w k b x
front_by z w k b bs x xs l law r window [] e count all = absurd all
front_by z w k b bs x xs l law r window (q ∷ qs) e count all =
    let f = (w.wires k).server_end in
    let held : outside l.window.held q.0 (counted q.1) ≡ None =
    subst (λ (rs : List (ℕ × ℕ)). FrontIsHeld rs l.window) e (front_held law l r) in
    let low = next_low law l r in record {
      bill = q;
      asked = all.0;
      may = record {
        held = ap (λ (v : HeldIds). outside v.held q.0 (counted q.1)) window ∙ held;
        nonce = omega (arith, count, low);
      };
    }

front_at : (z : WorldSettings) (w : World) (k : ℕ) (b : List ℕ) (bs : List (List ℕ)) (x : Sent) (xs : List Sent) → NothingIsRefused
    → IsTied z w → (w.values.conns k).server_open ≡ true → (w.wires k).up ≡ b ∷ bs → (w.values.conns k).up ≡ x ∷ xs → Front z w k b x
front_at z w k b bs x xs law i so e h =
    let t = i.tied k in
    let link = t.link in
    let l = link.line in
    let f = (w.wires k).server_end in
    let all : AllAsked z w.logons k f (b ∷ bs) (x ∷ xs) l.requests =
    subst (λ v. AllAsked z w.logons k f (b ∷ bs) v l.requests) h
    (subst (λ v. AllAsked z w.logons k f v (w.values.conns k).up l.requests) e (link.asked so)) in
    front_by z w k b bs x xs l law link.reached (link.window so) l.requests refl (link.counted so) all

-- ---- Serve, and a Crash that keeps its front

by_end : (p : ℕ) (w : World) (k : ℕ) (bs : List (List ℕ)) (x : Sent) (xs : List Sent) (S : ConnectionStep) (o : Option ConnEnd)
    → o ≡ None → IsFull S.server_end.window → Keeps p w → Keeps p (served_by w k bs xs x.token S o)
by_end p w k bs x xs S (Some why) e full i = absurd (let h : Some why ≡ None = e in cc)
by_end p w k bs x xs S None e full i =
    put_good p w.wires k (answered_wires (w.wires k) (w.values.conns k).client_open S.server_end bs S.frames)
    (record { counter = (i k).counter; next = (i k).next; full = λ g. full }) i

serve_good : (p : ℕ) (z : WorldSettings) (w : World) → NothingIsRefused → IsTied z w → (k : ℕ) → (w.values.conns k).server_open ≡ true
    → (bs : List (List ℕ)) (xs : List Sent) → (w.wires k).up ≡ bs → (w.values.conns k).up ≡ xs → Keeps p w
    → Keeps p (serve_frame z w k bs xs)
serve_good p z w law t k so [] xs e h i = i
serve_good p z w law t k so (b ∷ bs) [] e h i = i
serve_good p z w law t k so (b ∷ bs) (x ∷ xs) e h i =
    let f = front_at z w k b bs x xs law t so e h in
    let g = told_fills z w k b x f.bill f.asked f.may in
    by_end p w k bs x xs (step_at z w k b) (step_at z w k b).ends g.0 g.1 i

absorb_good : (p : ℕ) (z : WorldSettings) (w : World) → NothingIsRefused → IsTied z w → (k : ℕ) → (w.values.conns k).server_open ≡ true
    → (bs : List (List ℕ)) (xs : List Sent) → (w.wires k).up ≡ bs → (w.values.conns k).up ≡ xs → Keeps p w
    → Keeps p (absorb_frame z w k bs xs)
absorb_good p z w law t k so [] xs e h i = i
absorb_good p z w law t k so (b ∷ bs) [] e h i = i
absorb_good p z w law t k so (b ∷ bs) (x ∷ xs) e h i =
    let f = front_at z w k b bs x xs law t so e h in
    let g = told_fills z w k b x f.bill f.asked f.may in
    put_good p w.wires k (record (w.wires k) { server_end = (step_at z w k b).server_end; up = bs })
    (record { counter = (i k).counter; next = (i k).next; full = λ _. g.1 }) i

-- ---- a server's end closes, and a connection opens

off_good : (p : ℕ) (u : Wires) → IsGood p u → IsGood p (server_end_off u)
off_good p u i = record { counter = i.counter; next = i.next; full = i.full }

restarted_good : (p : ℕ) (w : World) → Keeps p w → Keeps p (restarted_wires w)
restarted_good p w i = λ j. off_good p (w.wires j) (i j)

none_yet : (p : ℕ) → 0 ≤ p + 1
none_yet p = omega arith

one_yet : (p : ℕ) → 0 + counted 1 ≤ 1 + 512 * p
one_yet p = omega arith

fresh_good : (p : ℕ) (z : WorldSettings) (w : World) (greeting : List ℕ) (served : Bool) → IsGood p (fresh_wires z w greeting served)
fresh_good p z w greeting served = record {
  counter = none_yet p;
  next = one_yet p;
  full = λ e. absurd (let h : false ≡ true = e in cc);
}

opened_good : (p : ℕ) (z : WorldSettings) (w : World) (k : ℕ) → Keeps p w → Keeps p (opened_wires z w k)
opened_good p z w k i = put_good p w.wires k _ (fresh_good p z w (greeting_of z w k) _) i

-- ---- a push costs at most what the client's end holds

below : (a b : ℕ) → nat_le a b ≡ true → b ≤ 512 → a ≤ 512
below a b e l = grind (arith, nat_tests)

paid_low : (cost held : ℕ) (b : Bool) → (nat_le cost held && b) ≡ true → held ≤ 512 → cost ≤ 512
paid_low cost held b e l = below cost held (front_of (nat_le cost held) b e) l

one_low : counted 0 ≤ 512
one_low = omega arith

-- where nothing is picked, nothing goes out
nothing_cost : (w : World) (k : ℕ) (slotless : List ℕ) → counted (cost w.values.client k slotless None) ≤ 512
nothing_cost w k slotless =
    let c = w.values.client in
    let d = client_after c (Pushes k slotless None) in
    let v = settle_no_slots c k slotless in
    either (λ (a : Act). counted (cost_of d a) ≤ 512) (c.ready k) (pick_act v k None)
    (if some_unsettled c c.taken then CloseChannels else AllSettled)
    (λ _. either (λ (a : Act). counted (cost_of d a) ≤ 512) (some_unsettled v v.taken) Nothing AllSettled (λ _. one_low) (λ _. one_low))
    (λ _. either (λ (a : Act). counted (cost_of d a) ≤ 512) (some_unsettled c c.taken) CloseChannels AllSettled (λ _. one_low)
    (λ _. one_low))

cost_low : (w : World) (k : ℕ) (slotless : List ℕ) (pick : Option Pick) → (w.wires k).client_end.purse.held ≤ 512
    → counted (cost w.values.client k slotless (paid w k slotless pick)) ≤ 512
cost_low w k slotless pick low =
    let n = (w.wires k).client_end in
    let cost_now = cost w.values.client k slotless pick in
    either (λ (q : Option Pick). counted (cost w.values.client k slotless q) ≤ 512) (may_pay n cost_now) pick None
    (λ e. paid_low (counted cost_now) n.purse.held (may_seal n) e low) (λ _. nothing_cost w k slotless)

-- ---- each event

abbrev pub pushes_of : Event → ℕ
pushes_of (Push k slotless pick) = 1
pushes_of _ = 0

same_count : (p : ℕ) → p ≤ p + 0
same_count p = omega arith

still : (p : ℕ) (w : World) → Keeps p w → Keeps (p + 0) w
still p w i = more_good p (p + 0) (same_count p) w.wires i

changes : NothingIsRefused → (p : ℕ) (z : WorldSettings) (w : World) → IsTied z w → (e : Event) → is_possible w.values e ≡ true → Keeps p w
    → Keeps (p + pushes_of e) (bytes_changed z w e)
changes law p z w t (Submit g op) may i = still p w i
changes law p z w t (Open k) may i = still p (opened_wires z w k) (opened_good p z w k i)
changes law p z w t (Push k slotless pick) may i =
    let c = w.values.client in
    let picked = paid w k slotless pick in
    pushed_good p w k (client_after c (Pushes k slotless picked)) (act c (Pushes k slotless picked))
    (cost_low w k slotless pick (held_low law z w t k)) i
changes law p z w t (Serve k) may i =
    still p (serve_frame z w k (w.wires k).up (w.values.conns k).up)
    (serve_good p z w law t k (front_of (w.values.conns k).server_open (is_filled (w.values.conns k).up) may) (w.wires k).up
    (w.values.conns k).up refl refl i)
changes law p z w t (Take k) may i =
    still p (bytes_changed z w (Take k)) (take_good p z w k (w.wires k).down (w.values.conns k).down i)
changes law p z w t (Cut k) may i = still p (bytes_changed z w (Cut k)) (cut_good p w k i)
changes law p z w t (Drop k) may i =
    still p (bytes_changed z w (Drop k)) (put_good p w.wires k (server_end_off (w.wires k)) (off_good p (w.wires k) (i k)) i)
changes law p z w t Restart may i = still p (restarted_wires w) (restarted_good p w i)
changes law p z w t (Crash k true) may i =
    let v = absorb_frame z w k (w.wires k).up (w.values.conns k).up in
    still p (restarted_wires v)
    (restarted_good p v
    (absorb_good p z w law t k (front_of (w.values.conns k).server_open (is_filled (w.values.conns k).up) may) (w.wires k).up
    (w.values.conns k).up refl refl i))
changes law p z w t (Crash k false) may i = still p (restarted_wires w) (restarted_good p w i)
changes law p z w t (Wait n) may i = still p w i
changes law p z w t (Finish refusal) may i = still p w i

at_most : (p q : ℕ) → p ≤ p + q
at_most p q = omega arith

happens : NothingIsRefused → (p : ℕ) (z : WorldSettings) (w : World) → IsTied z w → (e : Event) → Keeps p w
    → Keeps (p + pushes_of e) (bytes_happen z w (Plain e))
happens law p z w t e i =
    either (Keeps (p + pushes_of e)) (is_possible w.values e) (bytes_later (bytes_changed z w e) (moments e)) w
    (λ may. changes law p z w t e may i) (λ _. more_good p (p + pushes_of e) (at_most p (pushes_of e)) w.wires i)

-- ---- a run

none_more : (n : ℕ) → n ≡ 0 + n
none_more n = omega arith

pushes_one : (x : Event) (xs : List Event) → pushes_in (x ∷ xs) ≡ pushes_of x + pushes_in xs
unfolding pushes_in
pushes_one (Push k slotless pick) xs = refl
pushes_one (Submit g op) xs = none_more (pushes_in xs)
pushes_one (Open k) xs = none_more (pushes_in xs)
pushes_one (Serve k) xs = none_more (pushes_in xs)
pushes_one (Take k) xs = none_more (pushes_in xs)
pushes_one (Cut k) xs = none_more (pushes_in xs)
pushes_one (Drop k) xs = none_more (pushes_in xs)
pushes_one Restart xs = none_more (pushes_in xs)
pushes_one (Crash k kept) xs = none_more (pushes_in xs)
pushes_one (Wait n) xs = none_more (pushes_in xs)
pushes_one (Finish refusal) xs = none_more (pushes_in xs)

first_sum : (a b c n : ℕ) → a ≡ b + c → c ≡ 0 → n ≡ 0 → a ≡ n + b
first_sum a b c n e f g = omega (arith, e, f, g)

later_sum : (a b c d e f : ℕ) → a ≡ b + c → c ≡ d + e → f ≡ b + d → a ≡ f + e
later_sum a b c d e f p q r = omega (arith, p, q, r)

none_in : pushes_in [] ≡ 0
unfolding pushes_in
none_in = refl

pub pushes_more : (es : List Event) (e : Event) → pushes_in (es ++ e ∷ []) ≡ pushes_in es + pushes_of e
pushes_more [] e = first_sum (pushes_in (e ∷ [])) (pushes_of e) (pushes_in []) (pushes_in []) (pushes_one e []) none_in none_in
pushes_more (x ∷ es) e =
    later_sum (pushes_in (x ∷ (es ++ e ∷ []))) (pushes_of x) (pushes_in (es ++ e ∷ [])) (pushes_in es) (pushes_of e) (pushes_in (x ∷ es))
    (pushes_one x (es ++ e ∷ [])) (pushes_more es e) (pushes_one x es)

pub bytes_more : (z : WorldSettings) (es : List Event) (e : Event) (w : World)
    → bytes_run z (plainly (es ++ e ∷ [])) w ≡ bytes_happen z (bytes_run z (plainly es) w) (Plain e)
unfolding bytes_run plainly
bytes_more z [] e w = refl
bytes_more z (x ∷ es) e w = bytes_more z es e (bytes_happen z w (Plain x))

pub nothing_happened : (z : WorldSettings) → bytes_start z ≡ plain_run z []
unfolding bytes_run plainly
nothing_happened z = refl

part_by : (b c n : ℕ) → b ≤ c → c < n → b < n
part_by b c n l h = omega (arith, l, h)

runs : NothingIsRefused → PlainRunsGoInStep → (z : WorldSettings) (events : List Event) → IsFitting z → restarts_in events < 4294967295
    → submits_in events < 2 ^ 64 → (es before : List Event) → before ++ es ≡ events → Keeps (pushes_in before) (plain_run z before)
    → Keeps (pushes_in events) (plain_run z events)
runs law plain z events fit few taken [] before part i =
    subst (λ xs. Keeps (pushes_in xs) (plain_run z xs)) (sym (append-nil before) ∙ part) i
runs law plain z events fit few taken (e ∷ es) before part i =
    let restarts = part_by (restarts_in before) (restarts_in (before ++ e ∷ es)) 4294967295 (restarts_part before (e ∷ es))
    (subst (λ xs. restarts_in xs < 4294967295) (sym part) few) in
    let submits = part_by (submits_in before) (submits_in (before ++ e ∷ es)) (2 ^ 64) (submits_part before (e ∷ es))
    (subst (λ xs. submits_in xs < 2 ^ 64) (sym part) taken) in
    let r = plain z before fit restarts submits in
    let w = plain_run z before in
    let next : Keeps (pushes_in before + pushes_of e) (bytes_happen z w (Plain e)) =
    happens law (pushes_in before) z w r.runs.tied e i in
    let more : Keeps (pushes_in (before ++ e ∷ [])) (plain_run z (before ++ e ∷ [])) =
    subst (λ n. Keeps n (plain_run z (before ++ e ∷ []))) (sym (pushes_more before e))
    (subst (Keeps (pushes_in before + pushes_of e)) (sym (bytes_more z before e (bytes_start z))) next) in
    runs law plain z events fit few taken es (before ++ e ∷ []) (append_assoc before (e ∷ []) es ∙ part) more

zero_yet : (p : ℕ) → 0 ≤ 4 + 512 * p
zero_yet p = omega arith

first_good : (z : WorldSettings) (p : ℕ) → Keeps p (bytes_start z)
first_good z p k = record {
  counter = none_yet p;
  next = zero_yet p;
  full = λ e. absurd (let h : false ≡ true = e in cc);
}

pub have_all : NothingIsRefused → PlainRunsGoInStep → StillChannelsHaveAll
have_all law plain z events fit few taken pushes k s =
    let r = plain z events fit few taken in
    let first : Keeps (pushes_in []) (plain_run z []) =
    subst (Keeps (pushes_in [])) (nothing_happened z) (first_good z (pushes_in [])) in
    let good = runs law plain z events fit few taken events [] refl first in
    has_all law z (plain_run z events) (value_events z (bytes_start z) events) r.runs.in_step r.runs.tied
    (pushes_in events) pushes k (good k) s
