-- The lines of a script, one after the other.
use Rattle.std.proofs.Common.{◌≡◌, ℕ, ◌+◌, List, [], ◌∷◌, ◌++◌, length, drop, refl, sym, ap, subst, ◌∙◌, arith, Option}
use Rattle.std.proofs.Common.{Some, None, Result, Ok, Err}
use Rattle.law_scripts.specs.script_setup.Scripts.{lines_of, lines_of_statement, operations_of, event_line}
use Rattle.spec_exchange.specs.Network.{Submit}
use Rattle.client_values.specs.operations.Meaning.{op_of}
use Rattle.script_words.specs.declared.text_lines.line.Line.{Line as Said}
use Rattle.script_words.specs.declared.text_lines.line.Refusal.{Refusal}
use Rattle.script_words.specs.Outcome.{◌>>=◌, Fails}
use Rattle.script_words.specs.declared.values.Fault.{Fault}
use Rattle.script_words.specs.declared.values.Fault.TheVariants.{Memory, Refused}
use Rattle.script_words.specs.declared.values.Statement.{Statement}
use Rattle.script_words.specs.declared.values.Statement.TheVariants as statements
use Rattle.spec_world.specs.Courses.{Course, Line, LineError, Does, course, error_or, first_error, go, line_error, opening}
use Rattle.spec_world.specs.Notes.{WorldError}
use Rattle.spec_world.specs.Settings.{WorldSettings}
use Rattle.law_scripts.specs.script_runs.Runs.{IsCourse, IsRunFirst, code_of, did, done_at, did_all}

-- ---- a line more of a schedule

pub goes_on : (z : WorldSettings) (before behind : ℕ) (s : Said) (left more : List Said) (c d : Course) → left ≡ s ∷ more
    → did z s.number (lines_of_statement before s.statement) c ≡ Ok d → behind ≡ before + operations_of s.statement
    → did_all z before left c ≡ did_all z behind more d
unfolding did_all
goes_on z before behind s left more c d split led counted =
    ap (λ (l : List Said). did_all z before l c) split
    ∙ (ap (λ (r : Result Course Refusal). r >>= λ e. did_all z (before + operations_of s.statement) more e) led
    ∙ ap (λ (n : ℕ). did_all z n more d) (sym counted))

pub fails_there : (z : WorldSettings) (due : Result Course Refusal) (before : ℕ) (s : Said) (left more : List Said) (c : Course)
    (fault : Fault Refusal) → left ≡ s ∷ more → due ≡ did_all z before left c
    → Fails fault (did z s.number (lines_of_statement before s.statement) c) → Fails fault due
unfolding did_all
fails_there z due before s left more c Memory split is fails = tt
fails_there z due before s left more c (Refused refusal) split is fails =
    is
    ∙ (ap (λ (l : List Said). did_all z before l c) split
    ∙ ap (λ (r : Result Course Refusal). r >>= λ e. did_all z (before + operations_of s.statement) more e) fails)

pub all_done : (z : WorldSettings) (due : Result Course Refusal) (before : ℕ) (left : List Said) (c : Course) → left ≡ []
    → due ≡ did_all z before left c → due ≡ Ok c
unfolding did_all
all_done z due before left c none is = is ∙ ap (λ (l : List Said). did_all z before l c) none

pub none_left : (left new : List Said) → left ≡ new → new ≡ drop 1 left → left ≡ []
none_left [] new same rest = refl
none_left (s ∷ more) new same rest = let lengths = ap length (same ∙ rest) in absurd (omega (arith, lengths))

-- ---- a schedule that isn't refused is the course of its lines

abbrev value_or : Course → Result Course Refusal → Course
value_or c (Ok d) = d
value_or c (Err r) = c

abbrev refusal_or : Refusal → Result Course Refusal → Refusal
refusal_or r (Ok d) = r
refusal_or r (Err s) = s

abbrev IsPast : WorldSettings → ℕ → List Line → Course → Course → Type 0
IsPast z i ls c d = (d ≡ course z 256 ls c) × (first_error z 256 i ls c ≡ None)

past_one : (z : WorldSettings) (number i : ℕ) (l : Line) (rest : List Line) (c d : Course) (due : Option WorldError)
    (next : Course → Result Course Refusal) → line_error c.world l ≡ due
    → ((done_at number (go z 256 c l) due >>= λ e. did z number [] e) >>= next) ≡ Ok d
    → (next (go z 256 c l) ≡ Ok d → IsPast z (i + 1) rest (go z 256 c l) d) → IsPast z i (l ∷ rest) c d
unfolding course first_error did
past_one z number i l rest c d None next is led past =
    let r = past led in (
      r.0,
      subst (λ (o : Option WorldError). error_or i o (first_error z 256 (i + 1) rest (go z 256 c l)) ≡ None) (sym is) r.1,
    )
past_one z number i l rest c d (Some why) next is led past = absurd (cc)

past_by : (z : WorldSettings) (before number i : ℕ) (s : Statement) (rest : ℕ → List Line) (c d : Course)
    (next : ℕ → Course → Result Course Refusal)
    → (did z number (lines_of_statement before s) c >>= λ e. next (before + operations_of s) e) ≡ Ok d
    → ((b j : ℕ) (e : Course) → next b e ≡ Ok d → IsPast z j (rest b) e d)
    → IsPast z i (lines_of_statement before s ++ rest (before + operations_of s)) c d
unfolding did
past_by z before number i (statements.Setting x) rest c d next led past = past (before + 0) i c led
past_by z before number i (statements.Operation kind) rest c d next led past =
    let l = Does (Submit (before + 1) (op_of kind)) in
    past_one z number i l (rest (before + 1)) c d (line_error c.world l) (λ e. next (before + 1) e) refl led
    (λ e. past (before + 1) (i + 1) (go z 256 c l) e)
past_by z before number i (statements.Event x) rest c d next led past =
    let l = event_line x in
    past_one z number i l (rest (before + 0)) c d (line_error c.world l) (λ e. next (before + 0) e) refl led
    (λ e. past (before + 0) (i + 1) (go z 256 c l) e)

past_all : (z : WorldSettings) (ls : List Said) (before i : ℕ) (c d : Course) → did_all z before ls c ≡ Ok d
    → IsPast z i (lines_of before ls) c d
unfolding did_all course first_error lines_of
past_all z [] before i c d led = (sym (ap (λ (r : Result Course Refusal). value_or c r) led), refl)
past_all z (s ∷ more) before i c d led =
    past_by z before s.number i s.statement (λ b. lines_of b more) c d (λ b e. did_all z b more e) led
    (λ b j e h. past_all z more b j e d h)

pub is_course : (z : WorldSettings) (ls : List Said) (c : Course) → did_all z 0 ls (opening z) ≡ Ok c → IsCourse z (lines_of 0 ls) c
is_course z ls c led = let r = past_all z ls 0 0 (opening z) c led in record { is = r.0; met = r.1 }

-- ---- its refusal is that of the first line that is refused

abbrev IsThere : WorldSettings → ℕ → List Line → Course → Refusal → Type 0
IsThere z i ls c r = (e : LineError) × (first_error z 256 i ls c ≡ Some e) × (r.code ≡ code_of e.why)

there_one : (z : WorldSettings) (number i : ℕ) (l : Line) (rest : List Line) (c : Course) (r : Refusal) (due : Option WorldError)
    (next : Course → Result Course Refusal) → line_error c.world l ≡ due
    → ((done_at number (go z 256 c l) due >>= λ e. did z number [] e) >>= next) ≡ Err r
    → (next (go z 256 c l) ≡ Err r → IsThere z (i + 1) rest (go z 256 c l) r) → IsThere z i (l ∷ rest) c r
unfolding first_error did
there_one z number i l rest c r None next is led there =
    let t = there led in (
      t.0,
      subst (λ (o : Option WorldError). error_or i o (first_error z 256 (i + 1) rest (go z 256 c l)) ≡ Some t.0) (sym is) t.1,
      t.2,
    )
there_one z number i l rest c r (Some why) next is led there = (
  record { line = i; why = why },
  subst (λ (o : Option WorldError). error_or i o (first_error z 256 (i + 1) rest (go z 256 c l)) ≡ Some (record { line = i; why = why }))
      (sym is) refl,
  ap (λ (x : Result Course Refusal). (refusal_or r x).code) (sym led),
)

there_by : (z : WorldSettings) (before number i : ℕ) (s : Statement) (rest : ℕ → List Line) (c : Course) (r : Refusal)
    (next : ℕ → Course → Result Course Refusal)
    → (did z number (lines_of_statement before s) c >>= λ e. next (before + operations_of s) e) ≡ Err r
    → ((b j : ℕ) (e : Course) → next b e ≡ Err r → IsThere z j (rest b) e r)
    → IsThere z i (lines_of_statement before s ++ rest (before + operations_of s)) c r
unfolding did
there_by z before number i (statements.Setting x) rest c r next led there = there (before + 0) i c led
there_by z before number i (statements.Operation kind) rest c r next led there =
    let l = Does (Submit (before + 1) (op_of kind)) in
    there_one z number i l (rest (before + 1)) c r (line_error c.world l) (λ e. next (before + 1) e) refl led
    (λ e. there (before + 1) (i + 1) (go z 256 c l) e)
there_by z before number i (statements.Event x) rest c r next led there =
    let l = event_line x in
    there_one z number i l (rest (before + 0)) c r (line_error c.world l) (λ e. next (before + 0) e) refl led
    (λ e. there (before + 0) (i + 1) (go z 256 c l) e)

there_all : (z : WorldSettings) (ls : List Said) (before i : ℕ) (c : Course) (r : Refusal) → did_all z before ls c ≡ Err r
    → IsThere z i (lines_of before ls) c r
unfolding did_all lines_of
there_all z [] before i c r led = absurd (cc)
there_all z (s ∷ more) before i c r led =
    there_by z before s.number i s.statement (λ b. lines_of b more) c r (λ b e. did_all z b more e) led
    (λ b j e h. there_all z more b j e r h)

pub is_first : (z : WorldSettings) (ls : List Said) (r : Refusal) → did_all z 0 ls (opening z) ≡ Err r → IsRunFirst z (lines_of 0 ls) r
is_first z ls r led =
    let t = there_all z ls 0 0 (opening z) r led in record { error = t.0; first = t.1; code = t.2 }
