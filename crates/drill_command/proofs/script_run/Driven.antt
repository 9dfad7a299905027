-- A line of a script over a world in code.
use Rattle.std.proofs.Common.{◌≡◌, ℕ, ◌+◌, ◌*◌, refl, sym, ap, subst, ◌∙◌, [], ◌∷◌, Option, Some, None, Result, Ok, Err}
use Rattle.law_scripts.specs.script_setup.Scripts.{event_line, lines_of_statement, operations_of}
use Rattle.spec_exchange.specs.Network as network
use Rattle.client_values.specs.operations.Meaning.{op_of}
use Rattle.script_words.specs.Outcome.{◌>>=◌, Fails}
use Rattle.script_words.specs.declared.values.Statement.{Statement}
use Rattle.script_words.specs.declared.values.Statement.TheVariants as statements
use Rattle.spec_world.specs.Courses.{Course, Line, Does, Links, Settles, go, line_error, settle_below, went_byte, went_push}
use Rattle.spec_world.specs.Events.{bytes_happen}
use Rattle.spec_world.specs.Notes as notes
use Rattle.spec_world.specs.Settings.{WorldSettings}
use Rattle.spec_world.specs.World as bytes
use Rattle.world_ends.specs.Shown.{ShowsWorld}
use Rattle.world_ends.specs.declared.events.WorldError.{WorldError}
use Rattle.world_ends.specs.declared.events.WorldError.TheVariants as errors
use Rattle.world_ends.specs.declared.events.WorldEvent.{WorldEvent}
use Rattle.world_ends.specs.declared.events.WorldEvent.TheVariants as events
use Rattle.world_ends.specs.declared.world.World.{World}
use Rattle.world_steps.specs.events.Coming.{EventComesTo}
use Rattle.drill_command.specs.settling.Linked.{Links as LinksBy}
use Rattle.world_steps.specs.Steps.{WorldRefuses, WorldSteps, meant}
use Rattle.drill_command.specs.script_run.Drives.{Drives, DrivesAs, ScriptSays, fault_at, line_of}
use Rattle.law_scripts.specs.script_runs.Runs.{code_of, did, done_at}

-- ---- an event of a world is that of its line

same_error : (e : WorldEvent) (w : bytes.World) → notes.step_error w (meant w e) ≡ line_error w (line_of e)
same_error (events.Submit number kind) w = refl
same_error (events.Open k) w = refl
same_error (events.Push k) w = refl
same_error (events.Serve k) w = refl
same_error (events.Take k) w = refl
same_error (events.Cut k) w = refl
same_error (events.Drop k) w = refl
same_error events.Restart w = refl
same_error (events.Crash k kept) w = refl
same_error (events.Wait n) w = refl
same_error (events.Forge k up bytes) w = refl
same_error (events.Flip k up at mask) w = refl

same_world : (e : WorldEvent) (z : WorldSettings) (c : Course) → bytes_happen z c.world (meant c.world e) ≡ (go z 256 c (line_of e)).world
unfolding go went_byte went_push
same_world (events.Submit number kind) z c = refl
same_world (events.Open k) z c = refl
same_world (events.Push k) z c = refl
same_world (events.Serve k) z c = refl
same_world (events.Take k) z c = refl
same_world (events.Cut k) z c = refl
same_world (events.Drop k) z c = refl
same_world events.Restart z c = refl
same_world (events.Crash k kept) z c = refl
same_world (events.Wait n) z c = refl
same_world (events.Forge k up bytes) z c = refl
same_world (events.Flip k up at mask) z c = refl

pub stepped : (old new : World) (e : WorldEvent) (result : Result Unit WorldError) → WorldSteps old e new result
    → Drives old (line_of e) new result
stepped old new e (Ok u) s = λ z c h.
    let r = s z c.world h in (
      sym (same_error e c.world) ∙ r.0,
      subst (λ (w : bytes.World). ShowsWorld z new w) (same_world e z c) r.1,
    )
stepped old new e (Err why) s = λ z c h.
    subst (λ (due : Option notes.WorldError). WorldRefuses z new c.world due why) (same_error e c.world) (s z c.world h)

-- ---- the program's choices

pub linked : (old new : World) (k : ℕ) (result : Result Unit WorldError) → LinksBy old k new result → Drives old (Links k) new result
unfolding go
linked old new k (Ok u) s = λ z c h. s z c h
linked old new k (Err why) s = λ z c h. s z c h

pub settled : (old new : World) (result : Result Unit WorldError)
    → EventComesTo (λ z c. settle_below z 256 (8 * (c.world.values.client.taken + 256 + 1)) c) old new result
    → Drives old Settles new result
unfolding go
settled old new (Ok u) s = λ z c h. (refl, s z c h)
settled old new (Err why) s = λ z c h. subst (λ (e : WorldError). WorldRefuses z new c.world None e) (sym (s z c h)) tt

-- ---- a statement with its line

-- one line, by why it is refused
one_done : (z : WorldSettings) (number : ℕ) (l : Line) (c : Course) → line_error c.world l ≡ None
    → did z number (l ∷ []) c ≡ Ok (go z 256 c l)
unfolding did
one_done z number l c e =
    ap (λ (o : Option notes.WorldError). done_at number (go z 256 c l) o >>= λ d. did z number [] d) e

one_refused : (z : WorldSettings) (number : ℕ) (l : Line) (c : Course) (why : notes.WorldError) → line_error c.world l ≡ Some why
    → did z number (l ∷ []) c ≡ Err (record { line = number; code = code_of why })
unfolding did
one_refused z number l c why e =
    ap (λ (o : Option notes.WorldError). done_at number (go z 256 c l) o >>= λ d. did z number [] d) e

refuses : (z : WorldSettings) (number : ℕ) (l : Line) (c : Course) (new : World) (why : WorldError)
    → WorldRefuses z new c.world (line_error c.world l) why → Fails (fault_at number why) (did z number (l ∷ []) c)
refuses z number l c new errors.Memory r = tt
refuses z number l c new (errors.NoChannel k) r = one_refused z number l c (notes.NoChannel k) r.0
refuses z number l c new (errors.NothingThere k) r = one_refused z number l c (notes.NothingThere k) r.0
refuses z number l c new (errors.InUse k) r = one_refused z number l c (notes.InUse k) r.0

pub one_line : (z : WorldSettings) (number : ℕ) (l : Line) (c : Course) (new : World) (u : Unit) → DrivesAs z c l new (Ok u)
    → (d : Course) × (did z number (l ∷ []) c ≡ Ok d) × ShowsWorld z new d.world
one_line z number l c new u r = (go z 256 c l, one_done z number l c r.0, r.1)

no_line : (z : WorldSettings) (number : ℕ) (c : Course) → did z number [] c ≡ Ok c
unfolding did
no_line z number c = refl

-- it is done
pub done_line : (z : WorldSettings) (number before behind : ℕ) (s : Statement) (c : Course) (old new : World) (u : Unit)
    → behind ≡ before + operations_of s → ScriptSays old behind s new (Ok u) → ShowsWorld z old c.world
    → (d : Course) × (did z number (lines_of_statement before s) c ≡ Ok d) × ShowsWorld z new d.world
done_line z number before behind (statements.Setting x) c old new u e s h =
    (c, no_line z number c, subst (λ (v : World). ShowsWorld z v c.world) (sym s.1) h)
done_line z number before behind (statements.Operation kind) c old new u e s h =
    subst (λ (n : ℕ). (d : Course) × (did z number (Does (network.Submit n (op_of kind)) ∷ []) c ≡ Ok d) × ShowsWorld z new d.world) e
    (one_line z number (Does (network.Submit behind (op_of kind))) c new u (s z c h))
done_line z number before behind (statements.Event x) c old new u e s h = one_line z number (event_line x) c new u (s z c h)

-- it is refused
pub refused_line : (z : WorldSettings) (number before behind : ℕ) (s : Statement) (c : Course) (old new : World) (why : WorldError)
    → behind ≡ before + operations_of s → ScriptSays old behind s new (Err why) → ShowsWorld z old c.world
    → Fails (fault_at number why) (did z number (lines_of_statement before s) c)
refused_line z number before behind (statements.Setting x) c old new why e s h = (let same = s.0 in absurd (cc))
refused_line z number before behind (statements.Operation kind) c old new why e s h =
    subst (λ (n : ℕ). Fails (fault_at number why) (did z number (Does (network.Submit n (op_of kind)) ∷ []) c)) e
    (refuses z number (Does (network.Submit behind (op_of kind))) c new why (s z c h))
refused_line z number before behind (statements.Event x) c old new why e s h = refuses z number (event_line x) c new why (s z c h)
