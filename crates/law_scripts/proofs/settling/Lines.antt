-- Each line of a script leaves its course in step, and settling at its end settles every operation.
use Rattle.std.proofs.Common.{◌≡◌, ℕ, ◌+◌, ◌*◌, ◌^◌, ◌≤◌, ◌<◌, Bool, true, false, ◌&&◌, List, [], ◌∷◌, ◌++◌, length}
use Rattle.std.proofs.Common.{length-append, refl, sym, ap, ◌∙◌}
use Rattle.std.proofs.Common.{subst, arith, inl, inr, Option, suc}
use Rattle.spec_exchange.specs.ClientStep.{Pick, some_unsettled}
use Rattle.spec_exchange.specs.Network.{Event, Submit, Open, Push, Serve, Take, Cut, Drop, Restart, Crash, Wait, Finish}
use Rattle.spec_exchange.specs.Network.{World as Values, start}
use Rattle.spec_exchange.specs.Schedules as values
use Rattle.law_server.proofs.tables.Logic.{both, front_of, back_of}
use Rattle.law_answers.specs.completeness.Completeness.{AllSettled}
use Rattle.law_answers.proofs.completeness.Later.{link_later}
use Rattle.law_answers.proofs.completeness.Rounds.{Done, Far, SettledTo, all_settled, left, rounds_end}
use Rattle.law_answers.proofs.completeness.Runs.{OfRun, always, present}
use Rattle.law_replies.specs.courses.Courses.{AreHonest, course_of, restarts_of, submits_of, tampers}
use Rattle.law_scripts.proofs.settings_fit.Counts.{restarts_once, submits_once}
use Rattle.spec_world.specs.Courses.{Course, Line, Does, Forges, Flips, Pushes, Links as LinksLine, Settles, course, go, link, opening}
use Rattle.spec_world.specs.Courses.{drain_and_cut, drop_orphan, each, push_lowest, rounds, went}
use Rattle.spec_world.specs.Events.{bytes_run, bytes_start}
use Rattle.spec_world.specs.Settings.{WorldSettings, values_of}
use Rattle.spec_world.specs.Statements.{plain_run, plainly, value_event, value_events}
use Rattle.spec_world.specs.World.{World}
use Rattle.law_ties.specs.wire_facts.Fitting.{IsFitting}
use Rattle.law_ties.specs.wire_facts.Steps.{restarts_in, submits_in}
use Rattle.law_runs.specs.purses.Purse.{pushes_in}
use Rattle.law_runs.proofs.purses.Runs.{pushes_of}
use Rattle.law_scripts.specs.settling.Settled.{IsRunShort, LinesSettle}
use Rattle.law_scripts.proofs.settling.Bytes as bytes
use Rattle.law_scripts.proofs.settling.Values as plain
use Rattle.law_scripts.proofs.settling.Left.{left_later, left_low, left_on, none_left}
use Rattle.law_scripts.proofs.settling.Loops.{links}
use Rattle.law_scripts.proofs.settling.Numbers.{made_of, numbered, opens_of}
use Rattle.law_scripts.proofs.settling.Rounds.{of_run, readied, rounds_on, rounds_same}
use Rattle.law_scripts.proofs.settling.Steps.{Laws, Rel, follows, rel_opened, rel_went}

-- ---- a course in step, of i lines: by line at most one restart, Submit, Open or push of its own, and what settling an operation takes

abbrev pub unsettled_in : values.Course → ℕ
unsettled_in d = left d.world.client d.world.client.taken

-- what holds of the course of values, and is carried on by such lines
pub record Carries (P : values.Course → Type 0) (ok : Line → Bool) : Type 0 where
  pub does : (d : values.Course) (w : World) (e : Event) → ok (Does e) ≡ true → P d → P (values.went d (value_event w e))
  pub pushes : (d : values.Course) (k : ℕ) (slotless : List ℕ) (pick : Option Pick) → P d → P (values.went d (Push k slotless pick))
  pub links : (d : values.Course) (k : ℕ) → P d → P (values.link d k)
  pub settles : (d : values.Course) (fuel : ℕ) → P d → P (values.settle_below 256 fuel d)

unfoldable pub are_ok : (Line → Bool) → List Line → Bool
are_ok ok [] = true
are_ok ok (l ∷ ls) = ok l && are_ok ok ls

pub record InStep (P : values.Course → Type 0) (z : WorldSettings) (i m : ℕ) (c : Course) : Type 0 where
  pub model : values.Course
  pub rel : Rel z i m c model
  pub due : m + 4 * unsettled_in model ≤ 6 * i
  pub holds : P model

-- so many tries, whatever they are
pub record Reached (P : values.Course → Type 0) (z : WorldSettings) (i : ℕ) (c : Course) : Type 0 where
  pub tries : ℕ
  pub step : InStep P z i tries c

pushes_once : (e : Event) → pushes_of e ≤ 1
pushes_once (Submit g op) = omega arith
pushes_once (Open k) = omega arith
pushes_once (Push k slotless pick) = omega arith
pushes_once (Serve k) = omega arith
pushes_once (Take k) = omega arith
pushes_once (Cut k) = omega arith
pushes_once (Drop k) = omega arith
pushes_once Restart = omega arith
pushes_once (Crash k kept) = omega arith
pushes_once (Wait n) = omega arith
pushes_once (Finish refusal) = omega arith

opens_once : (e : Event) → opens_of e ≤ 1
opens_once (Submit g op) = omega arith
opens_once (Open k) = omega arith
opens_once (Push k slotless pick) = omega arith
opens_once (Serve k) = omega arith
opens_once (Take k) = omega arith
opens_once (Cut k) = omega arith
opens_once (Drop k) = omega arith
opens_once Restart = omega arith
opens_once (Crash k kept) = omega arith
opens_once (Wait n) = omega arith
opens_once (Finish refusal) = omega arith

one_line : (i a : ℕ) → a ≤ 1 → i + a ≤ i + 1
one_line i a l = omega (arith, l)

no_less : (a b c : ℕ) → a ≤ b → b ≤ c → a ≤ c
no_less a b c l h = omega (arith, l, h)

-- the same course, of a line more
rel_up : (z : WorldSettings) (i j m : ℕ) → i ≤ j → (c : Course) (d : values.Course) → Rel z i m c d → Rel z j m c d
rel_up z i j m l c d r =
    let a = r.at in
    record {
      events = r.events;
      at = record {
        told = a.told;
        is = a.is;
        restarts = no_less (restarts_in r.events) i j a.restarts l;
        submits = no_less (submits_in r.events) i j a.submits l;
        pushes = a.pushes;
        numbers = a.numbers;
      };
      same = r.same;
      values = r.values;
    }

one_up : (i : ℕ) → i ≤ i + 1
one_up i = omega arith

low_up : (i : ℕ) → i + 1 ≤ 16777216 → i ≤ 16777216
low_up i l = omega (arith, l)

-- an event: one try, or one operation
event_due : (m u v a i : ℕ) → v ≤ u + a → a ≤ 1 → m + 4 * u ≤ 6 * i → (m + 1) + 4 * v ≤ 6 * (i + 1)
event_due m u v a i l h q = omega (arith, l, h, q)

same_due : (m u v i : ℕ) → v ≤ u → m + 4 * u ≤ 6 * i → (m + 1) + 4 * v ≤ 6 * (i + 1)
same_due m u v i l q = omega (arith, l, q)

does_line : (P : values.Course → Type 0) → Laws → (z : WorldSettings) → IsFitting z → (i m : ℕ) → i + 1 ≤ 16777216 → (c : Course)
    (e : Event) → (s : InStep P z i m c) → P (values.went s.model (value_event c.world e)) → InStep P z (i + 1) (m + 1) (went z c e)
does_line P L z fit i m more c e s holds =
    let low = low_up i more in
    let d = s.model in
    let f = value_event c.world e in
    let known = of_run L z fit i m low c d s.rel in
    let less : unsettled_in (values.went d f) ≤ unsettled_in d + submits_of f =
    subst (λ (v : Values). left v.client v.client.taken ≤ unsettled_in d + submits_of f) (sym (plain.world_is d f))
    (left_on (OfRun (values_of z)) (always (values_of z)) d.world f known) in
    record {
      model = values.went d f;
      rel = rel_went L z fit i m low c d s.rel e f refl (i + 1) (m + 1) (one_line i (restarts_of e) (restarts_once e))
          (one_line i (submits_of e) (submits_once e)) (one_line m (pushes_of e) (pushes_once e)) (one_line m (opens_of e) (opens_once e));
      due = event_due m (unsettled_in d) (unsettled_in (values.went d f)) (submits_of f) i less (submits_once f) s.due;
      holds = holds;
    }

links_line : (P : values.Course → Type 0) (ok : Line → Bool) → Carries P ok → Laws → (z : WorldSettings) → IsFitting z → (i m : ℕ)
    → i + 1 ≤ 16777216 → (c : Course) (k : ℕ) → InStep P z i m c → InStep P z (i + 1) (m + 1) (link z c k)
links_line P ok C L z fit i m more c k s =
    let low = low_up i more in
    let d = s.model in
    let K = OfRun (values_of z) in
    let known = of_run L z fit i m low c d s.rel in
    let less = left_later K d (values.link d k) (link_later K (always (values_of z)) d k known) in
    record {
      model = values.link d k;
      rel = rel_up z i (i + 1) (m + 1) (one_up i) (link z c k) (values.link d k)
          (links z (Rel z i (m + 1)) (follows L z fit i (m + 1) low) c d k (rel_opened L z fit i m low c d k s.rel));
      due = same_due m (unsettled_in d) (unsettled_in (values.link d k)) i less s.due;
      holds = C.links d k s.holds;
    }

-- ---- settling: two rounds by unsettled operation and one

settle_bound : (m u v i : ℕ) → v ≤ u → m + 4 * u ≤ 6 * i → i + 1 ≤ 16777216 → m + 2 * (2 * v + 1) < 2 ^ 54
settle_bound m u v i l q h = omega (arith, l, q, h)

settle_numbers : (m u v i n : ℕ) → v ≤ u → m + 4 * u ≤ 6 * i → i + 1 ≤ 16777216 → n ≤ m + 2 * (2 * v + 1) → n < 4294967295
settle_numbers m u v i n l q h b = omega (arith, l, q, h, b)

settle_due : (m u v x i : ℕ) → v ≤ u → m + 4 * u ≤ 6 * i → x ≤ 0 → (m + 2 * (2 * v + 1)) + 4 * x ≤ 6 * (i + 1)
settle_due m u v x i l q h = omega (arith, l, q, h)

fuel_enough : (v t s : ℕ) → v ≤ t → t ≡ s → 2 * v + 1 ≤ 8 * (s + 256 + 1)
fuel_enough v t s l e = omega (arith, l, e)

all_same : (n : ℕ) → n ≤ n
all_same n = omega arith

session_low : (a b n : ℕ) → a + b ≤ n → a ≤ n
session_low a b n l = omega (arith, l)

abbrev quieted : values.Course → values.Course
quieted d = values.each values.drop_orphan 0 256 (values.each values.drain_and_cut 0 256 d)

abbrev quieted_bytes : WorldSettings → Course → Course
quieted_bytes z c = each (drop_orphan z) 0 256 (each (drain_and_cut z) 0 256 c)

-- all is settled, since the client has numbers left
all_done : (w : Values) → w.client.session_number < 4294967295 → Done w → SettledTo w.client w.client.taken
all_done w few (inl s) = s
all_done w few (inr n) = absurd (omega (arith, few, n))

pub record IsSettled (P : values.Course → Type 0) (z : WorldSettings) (i : ℕ) (c : Course) : Type 0 where
  pub reached : Reached P z i c
  pub settled : AllSettled c.world.values.client

pub settles_line : (P : values.Course → Type 0) (ok : Line → Bool) → Carries P ok → Laws → (z : WorldSettings) → IsFitting z → (i m : ℕ)
    → i + 1 ≤ 16777216 → (c : Course) → InStep P z i m c → IsSettled P z (i + 1) (go z 256 c Settles)
settles_line P ok C L z fit i m more c s =
    let low = low_up i more in
    let d = s.model in
    let K = OfRun (values_of z) in
    let A = always (values_of z) in
    let q = readied L z fit i m low c d s.rel in
    let u = quieted_bytes z c in
    let v = quieted d in
    let fewer : unsettled_in v ≤ unsettled_in d = left_later K d v q.later in
    let fuel = 2 * unsettled_in v + 1 in
    let n = m + 2 * fuel in
    let r = rounds_on L z fit i low n (settle_bound m (unsettled_in d) (unsettled_in v) i fewer s.due more) fuel m (all_same n) u v q.rel
    q.rested in
    let x = rounds z 256 fuel u in
    let y = values.rounds 256 fuel v in
    let done : Done y.world = rounds_end K A (present (values_of z)) fuel v false q.later.known q.rested Far (all_same fuel) in
    let counted : numbered y.world.client ≤ n = subst (λ (w : Values). numbered w.client ≤ n) r.same r.at.numbers in
    let few = settle_numbers m (unsettled_in d) (unsettled_in v) i y.world.client.session_number fewer s.due more
    (session_low y.world.client.session_number (made_of y.world.client.making) n counted) in
    let settled = all_done y.world few done in
    let none : some_unsettled x.world.values.client x.world.values.client.taken ≡ false =
    ap (λ (w : Values). some_unsettled w.client w.client.taken) r.same ∙ all_settled y.world.client y.world.client.taken settled in
    let taken : v.world.client.taken ≡ c.world.values.client.taken =
    q.later.taken ∙ ap (λ (w : Values). w.client.taken) (sym s.rel.same) in
    let most = 8 * (c.world.values.client.taken + 256 + 1) in
    let is : go z 256 c Settles ≡ x =
    bytes.settles_is z c
    ∙ (bytes.settle_is z 256 most c
    ∙ rounds_same z fuel most
    (fuel_enough (unsettled_in v) v.world.client.taken c.world.values.client.taken (left_low v.world.client) taken) u none) in
    let step : InStep P z (i + 1) n x = record {
      model = y;
      rel = rel_up z i (i + 1) n (one_up i) x y r;
      due = settle_due m (unsettled_in d) (unsettled_in v) (unsettled_in y) i fewer s.due (none_left y.world.client settled);
      holds = subst P (plain.settle_is 256 fuel d) (C.settles d fuel s.holds);
    } in
    record {
      reached = record { tries = n; step = subst (InStep P z (i + 1) n) (sym is) step };
      settled = subst (λ (w : Values). AllSettled w.client) (sym r.same ∙ ap (λ (e : Course). e.world.values) (sym is)) settled;
    }

-- ---- a line

line_on : (P : values.Course → Type 0) (ok : Line → Bool) → Carries P ok → Laws → (z : WorldSettings) → IsFitting z → (i : ℕ)
    → i + 1 ≤ 16777216 → (c : Course) (l : Line) → tampers l ≡ false → ok l ≡ true → Reached P z i c → Reached P z (i + 1) (go z 256 c l)
line_on P ok C L z fit i more c (Does e) honest o s = record {
  tries = s.tries + 1;
  step = subst (InStep P z (i + 1) (s.tries + 1)) (sym (bytes.does_is z c e))
      (does_line P L z fit i s.tries more c e s.step (C.does s.step.model c.world e o s.step.holds));
}
line_on P ok C L z fit i more c (Forges k up change) honest o s = absurd (let q : true ≡ false = honest in cc)
line_on P ok C L z fit i more c (Flips k up at mask) honest o s = absurd (let q : true ≡ false = honest in cc)
line_on P ok C L z fit i more c (Pushes k) honest o s = record {
  tries = s.tries + 1;
  step = subst (InStep P z (i + 1) (s.tries + 1)) (sym (bytes.pushes_is z c k ∙ bytes.push_is z c k))
      (does_line P L z fit i s.tries more c (push_lowest c.world k) s.step (C.pushes s.step.model k _ _ s.step.holds));
}
line_on P ok C L z fit i more c (LinksLine k) honest o s = record {
  tries = s.tries + 1;
  step = subst (InStep P z (i + 1) (s.tries + 1)) (sym (bytes.links_is z c k)) (links_line P ok C L z fit i s.tries more c k s.step);
}
line_on P ok C L z fit i more c Settles honest o s = (let t = settles_line P ok C L z fit i s.tries more c s.step in t.reached)

-- ---- all lines

next_count : (i j n : ℕ) → i + suc n ≡ j → (i + 1) + n ≡ j
next_count i j n e = omega (arith, e)

line_low : (i j n : ℕ) → i + suc n ≡ j → j ≤ 16777216 → i + 1 ≤ 16777216
line_low i j n e l = omega (arith, e, l)

no_more : (i j : ℕ) → i + 0 ≡ j → i ≡ j
no_more i j e = omega (arith, e)

pub lines_on : (P : values.Course → Type 0) (ok : Line → Bool) → Carries P ok → Laws → (z : WorldSettings) → IsFitting z → (ls : List Line)
    (i j : ℕ) → i + length ls ≡ j → j ≤ 16777216 → AreHonest ls → are_ok ok ls ≡ true → (c : Course) → Reached P z i c
    → Reached P z j (course z 256 ls c)
unfolding AreHonest are_ok
lines_on P ok C L z fit [] i j e low honest o c s =
    subst (Reached P z j) (sym (bytes.course_none z c)) (subst (λ n. Reached P z n c) (no_more i j e) s)
lines_on P ok C L z fit (l ∷ ls) i j e low honest o c s =
    let one = line_on P ok C L z fit i (line_low i j (length ls) e low) c l honest.0 (front_of (ok l) _ o) s in
    subst (Reached P z j) (sym (bytes.course_more z l ls c))
    (lines_on P ok C L z fit ls (i + 1) j (next_count i j (length ls) e) low honest.1 (back_of (ok l) _ o) (go z 256 c l) one)

-- ---- the beginning

none_counted : (restarts_in [] ≤ 0) × (submits_in [] ≤ 0) × (pushes_in [] ≤ 0)
unfolding restarts_in submits_in pushes_in
none_counted = (omega arith, omega arith, omega arith)

nothing_told : (z : WorldSettings) → ([] ≡ plainly []) × (bytes_start z ≡ plain_run z []) × ([] ≡ value_events z (bytes_start z) [])
unfolding plainly bytes_run value_events
nothing_told z = (refl, refl, refl)

none_yet : 0 ≤ 0
none_yet = omega arith

none_due : (n : ℕ) → n ≤ 0 → 0 + 4 * n ≤ 6 * 0
none_due n l = omega (arith, l)

pub first_step : (P : values.Course → Type 0) (z : WorldSettings) → P (record { world = start (values_of z); events = [] })
    → Reached P z 0 (opening z)
first_step P z holds = record {
  tries = 0;
  step = record {
    model = record { world = start (values_of z); events = [] };
    rel = record {
      events = [];
      at = record {
        told = (nothing_told z).0;
        is = (nothing_told z).1;
        restarts = none_counted.0;
        submits = none_counted.1;
        pushes = none_counted.2;
        numbers = none_yet;
      };
      same = refl;
      values = (nothing_told z).2;
    };
    due = none_due (left (start (values_of z)).client 0) (left_low (start (values_of z)).client);
    holds = holds;
  };
}

-- ---- the last line

pub at_end : (z : WorldSettings) (ls : List Line) (l : Line) (c : Course) → course z 256 (ls ++ l ∷ []) c ≡ go z 256 (course z 256 ls c) l
at_end z [] l c = bytes.course_more z l [] c ∙ (bytes.course_none z (go z 256 c l) ∙ ap (λ (u : Course). go z 256 u l)
    (sym (bytes.course_none z c)))
at_end z (x ∷ ls) l c =
    bytes.course_more z x (ls ++ l ∷ []) c
    ∙ (at_end z ls l (go z 256 c x) ∙ ap (λ (u : Course). go z 256 u l) (sym (bytes.course_more z x ls c)))

front_honest : (ls rest : List Line) → AreHonest (ls ++ rest) → AreHonest ls
unfolding AreHonest
front_honest [] rest h = tt
front_honest (l ∷ ls) rest h = (h.0, front_honest ls rest h.1)

front_few : (a b n : ℕ) → n ≡ a + suc b → n ≤ 16777216 → a + 1 ≤ 16777216
front_few a b n e l = omega (arith, e, l)

at_most : (a : ℕ) → a + 1 ≤ 16777216 → a ≤ 16777216
at_most a l = omega (arith, l)

from_none : (n : ℕ) → 0 + n ≡ n
from_none n = omega arith

front_ok : (ok : Line → Bool) (ls rest : List Line) → are_ok ok (ls ++ rest) ≡ true → are_ok ok ls ≡ true
unfolding are_ok
front_ok ok [] rest h = refl
front_ok ok (l ∷ ls) rest h =
    both (ok l) (are_ok ok ls) (front_of (ok l) _ h) (front_ok ok ls rest (back_of (ok l) _ h))

pub settled_end : (P : values.Course → Type 0) (ok : Line → Bool) → Carries P ok → Laws → (z : WorldSettings) (ls : List Line)
    → IsRunShort z (ls ++ Settles ∷ []) → are_ok ok (ls ++ Settles ∷ []) ≡ true → P (record { world = start (values_of z); events = [] })
    → IsSettled P z (length ls + 1) (course_of z (ls ++ Settles ∷ []))
settled_end P ok C L z ls short o first =
    let more = front_few (length ls) 0 (length (ls ++ Settles ∷ [])) (length-append ls (Settles ∷ [])) short.few in
    let front = lines_on P ok C L z short.fitting ls 0 (length ls) (from_none (length ls)) (at_most (length ls) more)
    (front_honest ls (Settles ∷ []) short.honest) (front_ok ok ls (Settles ∷ []) o) (opening z) (first_step P z first) in
    subst (IsSettled P z (length ls + 1)) (sym (at_end z ls Settles (opening z)))
    (settles_line P ok C L z short.fitting (length ls) front.tries more (course_of z ls) front.step)

-- ---- of all lines

abbrev nothing : values.Course → Type 0
nothing d = Unit {0}

abbrev any_line : Line → Bool
any_line l = true

all_ok : (ls : List Line) → are_ok any_line ls ≡ true
unfolding are_ok
all_ok [] = refl
all_ok (l ∷ ls) = all_ok ls

carries : Carries nothing any_line
carries = record {
  does = λ d w e o h. tt;
  pushes = λ d k slotless pick h. tt;
  links = λ d k h. tt;
  settles = λ d fuel h. tt;
}

pub lines_settle : Laws → LinesSettle
lines_settle L z ls short = (let s = settled_end nothing any_line carries L z ls short (all_ok (ls ++ Settles ∷ [])) tt in s.settled)
