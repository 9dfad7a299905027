-- A course has as many restarts and submits as its script's own lines are.
use native.Mathlib.Omega.{arith}
use Rattle.std.proofs.Common.{◌≡◌, ℕ, ◌+◌, ◌*◌, true, List, [], ◌∷◌, ◌++◌, refl, sym, ◌∙◌, ap}
use Rattle.spec_exchange.specs.Network.{Event, Open, Push, Serve, Take, Cut, Drop, Restart, Crash, Submit, Wait, Finish}
use Rattle.law_ties.specs.wire_facts.Steps.{restarts_in, submits_in}
use Rattle.spec_world.specs.Courses.{Course, Line, Does, Forges, Flips, Pushes, Links as LinksLine, Settles, course, go}
use Rattle.spec_world.specs.Courses.{opening, went, went_byte}
use Rattle.spec_world.specs.Events.{ByteEvent, Plain, Tamper, flip, forge}
use Rattle.spec_world.specs.Settings.{WorldSettings}
use Rattle.spec_world.specs.Statements.{plainly}
use Rattle.law_replies.specs.courses.Courses.{CoursesAreShort, count_line, count_lines, restarts_of, submits_of, course_of}
use Rattle.law_replies.proofs.courses.Loops.{CarriesOn, is_own, links, pushes, settles}

-- ---- events of the network are counted, and tampering isn't

abbrev count_event : (Event → ℕ) → ByteEvent → ℕ
count_event count (Plain e) = count e
count_event count (Tamper k up change) = 0

unfoldable count_events : (Event → ℕ) → List ByteEvent → ℕ
count_events count [] = 0
count_events count (e ∷ es) = count_event count e + count_events count es

sum_on : (a b c d : ℕ) → b ≡ c + d → a + b ≡ a + c + d
sum_on a b c d e = omega arith

no_sum : (a : ℕ) → a + 0 ≡ 0 + a
no_sum a = omega arith

none_more : (n : ℕ) → n ≡ 0 + n
none_more n = omega arith

one_more : (count : Event → ℕ) (es : List ByteEvent) (e : ByteEvent)
    → count_events count (es ++ e ∷ []) ≡ count_events count es + count_event count e
unfolding count_events
one_more count [] e = no_sum (count_event count e)
one_more count (x ∷ es) e =
    sum_on (count_event count x) (count_events count (es ++ e ∷ [])) (count_events count es) (count_event count e) (one_more count es e)

-- ---- a course with so many

abbrev Counts : (Event → ℕ) → ℕ → Course → Type 0
Counts count n c = count_events count c.events ≡ n

counts_on : (z : WorldSettings) (count : Event → ℕ) (n : ℕ) (c : Course) (e : ByteEvent) → Counts count n c
    → Counts count (n + count_event count e) (went_byte z c e)
unfolding went_byte
counts_on z count n c e h = one_more count c.events e ∙ ap (λ (m : ℕ). m + count_event count e) h

abbrev OwnAreNone : (Event → ℕ) → Type 0
OwnAreNone count = (e : Event) → is_own e ≡ true → count e ≡ 0

no_more : (m n a : ℕ) → m ≡ n + a → a ≡ 0 → m ≡ n
no_more m n a e f = omega arith

carries : (z : WorldSettings) (count : Event → ℕ) → OwnAreNone count → (n : ℕ) → CarriesOn z (Counts count n)
carries z count own n c e o h =
    no_more (count_events count (went z c e).events) n (count e) (counts_on z count n c (Plain e) h) (own e o)

same : (m n : ℕ) → m ≡ n → m ≡ n + 0
same m n e = omega arith

goes : (z : WorldSettings) (count : Event → ℕ) → OwnAreNone count → (n : ℕ) (c : Course) (l : Line) → Counts count n c
    → Counts count (n + count_line count l) (go z 256 c l)
unfolding go
goes z count own n c (Does e) h = counts_on z count n c (Plain e) h
goes z count own n c (Forges k up bytes) h = counts_on z count n c (forge k up bytes) h
goes z count own n c (Flips k up at mask) h = counts_on z count n c (flip k up at mask) h
goes z count own n c (Pushes k) h =
    same (count_events count (go z 256 c (Pushes k)).events) n (pushes z (Counts count n) (carries z count own n) c k h)
goes z count own n c (LinksLine k) h =
    same (count_events count (go z 256 c (LinksLine k)).events) n (links z (Counts count n) (carries z count own n) c k h)
goes z count own n c Settles h =
    same (count_events count (go z 256 c Settles).events) n
    (settles z (Counts count n) (carries z count own n) 256 (8 * (c.world.values.client.taken + 256 + 1)) c h)

together : (m n a b : ℕ) → m ≡ n + a + b → m ≡ n + (a + b)
together m n a b e = omega arith

courses : (z : WorldSettings) (count : Event → ℕ) → OwnAreNone count → (n : ℕ) (ls : List Line) (c : Course) → Counts count n c
    → Counts count (n + count_lines count ls) (course z 256 ls c)
unfolding course count_lines
courses z count own n [] c h = same (count_events count c.events) n h
courses z count own n (l ∷ ls) c h =
    together (count_events count (course z 256 (l ∷ ls) c).events) n (count_line count l) (count_lines count ls)
    (courses z count own (n + count_line count l) ls (go z 256 c l) (goes z count own n c l h))

-- ---- the two counts

no_restart : OwnAreNone restarts_of
no_restart (Open k) own = refl
no_restart (Push k slotless pick) own = refl
no_restart (Serve k) own = refl
no_restart (Take k) own = refl
no_restart (Cut k) own = refl
no_restart (Drop k) own = refl
no_restart Restart own = absurd (cc)
no_restart (Crash k kept) own = absurd (cc)
no_restart (Submit g op) own = refl
no_restart (Wait n) own = refl
no_restart (Finish refusal) own = refl

no_submit : OwnAreNone submits_of
no_submit (Open k) own = refl
no_submit (Push k slotless pick) own = refl
no_submit (Serve k) own = refl
no_submit (Take k) own = refl
no_submit (Cut k) own = refl
no_submit (Drop k) own = refl
no_submit Restart own = refl
no_submit (Crash k kept) own = refl
no_submit (Submit g op) own = absurd (cc)
no_submit (Wait n) own = refl
no_submit (Finish refusal) own = refl

restarts_step : (e : Event) (es : List Event) → restarts_in (e ∷ es) ≡ restarts_of e + restarts_in es
unfolding restarts_in
restarts_step (Open k) es = none_more (restarts_in es)
restarts_step (Push k slotless pick) es = none_more (restarts_in es)
restarts_step (Serve k) es = none_more (restarts_in es)
restarts_step (Take k) es = none_more (restarts_in es)
restarts_step (Cut k) es = none_more (restarts_in es)
restarts_step (Drop k) es = none_more (restarts_in es)
restarts_step Restart es = refl
restarts_step (Crash k kept) es = refl
restarts_step (Submit g op) es = none_more (restarts_in es)
restarts_step (Wait n) es = none_more (restarts_in es)
restarts_step (Finish refusal) es = none_more (restarts_in es)

submits_step : (e : Event) (es : List Event) → submits_in (e ∷ es) ≡ submits_of e + submits_in es
unfolding submits_in
submits_step (Open k) es = none_more (submits_in es)
submits_step (Push k slotless pick) es = none_more (submits_in es)
submits_step (Serve k) es = none_more (submits_in es)
submits_step (Take k) es = none_more (submits_in es)
submits_step (Cut k) es = none_more (submits_in es)
submits_step (Drop k) es = none_more (submits_in es)
submits_step Restart es = none_more (submits_in es)
submits_step (Crash k kept) es = none_more (submits_in es)
submits_step (Submit g op) es = refl
submits_step (Wait n) es = none_more (submits_in es)
submits_step (Finish refusal) es = none_more (submits_in es)

restarts_plain : (es : List Event) → count_events restarts_of (plainly es) ≡ restarts_in es
unfolding plainly count_events restarts_in
restarts_plain [] = refl
restarts_plain (e ∷ es) = ap (λ (n : ℕ). restarts_of e + n) (restarts_plain es) ∙ sym (restarts_step e es)

submits_plain : (es : List Event) → count_events submits_of (plainly es) ≡ submits_in es
unfolding plainly count_events submits_in
submits_plain [] = refl
submits_plain (e ∷ es) = ap (λ (n : ℕ). submits_of e + n) (submits_plain es) ∙ sym (submits_step e es)

none_first : (z : WorldSettings) (count : Event → ℕ) → Counts count 0 (opening z)
unfolding count_events
none_first z count = refl

counted : (z : WorldSettings) (count : Event → ℕ) → OwnAreNone count → (ls : List Line)
    → count_events count (course_of z ls).events ≡ count_lines count ls
counted z count own ls = courses z count own 0 ls (opening z) (none_first z count) ∙ sym (none_more (count_lines count ls))

pub are_short : CoursesAreShort
are_short z ls es is = (
  sym (restarts_plain es) ∙ ap (count_events restarts_of) (sym is) ∙ counted z restarts_of no_restart ls,
  sym (submits_plain es) ∙ ap (count_events submits_of) (sym is) ∙ counted z submits_of no_submit ls,
)
