-- Waiters are tried: the first that no range holds up goes, and all are tried anew.
use Rattle.std.proofs.Common.{◌≡◌, ℕ, zero, suc, ◌+◌, ◌≤◌, Bool, false, if◌then◌else◌, List, [], ◌∷◌, ◌++◌, length, Option, Some, None}
use Rattle.std.proofs.Common.{refl, ap, ◌∙◌, arith}
use Rattle.std.specs.Prelude.{is_some}
use Rattle.std.specs.List.{AllByRecursion}
use Rattle.spec_exchange.specs.Table.{is_filled}
use Rattle.spec_exchange.specs.State.{Server, Range, Heard, Answer}
use Rattle.spec_exchange.specs.Step.{step}
use Rattle.law_waiting.specs.held.Held.{IsHeldUp, would_wait}
use Rattle.law_waiting.specs.wait_steps.WaitStep.{Waiter, WaitEvent, StepMishap, Lacks, Fails, MadeStep, FirstFree, AllHeld, Free, Tried, behind_held, first_free}
use Rattle.law_waiting.specs.wait_steps.WaitStep.{next_mishap, later_mishaps, trial, leaves_answered, kept_waiting, at_rest, tried}
use Rattle.law_waiting.specs.wait_runs.WaitRuns.{AreAnswered, AreHeld, AreSteps, IsItsTurn, Test, acts_of, finals_of, is_waiter_of, own_steps, steps_of, waiters_of}
use Rattle.law_waiting.proofs.held.Conflicting.{held_is}
use Rattle.law_waiting.proofs.wait_runs.Counting.{appended, bit, bit_low}

-- ---- the first that no range holds up

abbrev FirstIs : Server → List Waiter → FirstFree → Type 0
FirstIs s ws AllHeld = AreHeld s ws
FirstIs s ws (Free es w ls) = (ws ≡ es ++ w ∷ ls) × (would_wait s w.message ≡ None) × AreHeld s es

more_held : (s : Server) (w : Waiter) (ws : List Waiter) (f : FirstFree) → IsHeldUp s w.message → FirstIs s ws f → FirstIs s (w ∷ ws) (behind_held w f)
more_held s w ws AllHeld h i = (h, i)
more_held s w ws (Free es x ls) h i = (ap (λ l. w ∷ l) i.0, i.1, (h, i.2))

first_by : (s : Server) (w : Waiter) (ws : List Waiter) (o : Option Range) → would_wait s w.message ≡ o → FirstIs s ws (first_free s ws)
    → FirstIs s (w ∷ ws) (if is_some o then behind_held w (first_free s ws) else Free [] w ws)
first_by s w ws (Some r) e i = more_held s w ws (first_free s ws) (held_is s w.message r e) i
first_by s w ws None e i = (refl, e, tt)

first_is : (s : Server) (ws : List Waiter) → FirstIs s ws (first_free s ws)
unfolding first_free
first_is s [] = tt
first_is s (w ∷ ws) = first_by s w ws (would_wait s w.message) refl (first_is s ws)

-- ---- what trying comes to

pub record TriedGoes (ws : List Waiter) (T : Tried) : Type 0 where
  pub stay : (P : Test) → waiters_of P T.waiters + finals_of P T.finals ≡ waiters_of P ws
  pub goes : (P : Test) → steps_of P T.made ≤ waiters_of P ws
  pub acts : (P : Test) → T.failed ≡ None → waiters_of P T.waiters + acts_of P T.made ≤ waiters_of P ws
  pub own : own_steps T.made ≡ 0
  pub in_turn : AllByRecursion (λ x. IsItsTurn x.server x.earlier x.waiter) T.made
  pub held : T.starved ≡ false → AreHeld T.server T.waiters
  pub few : length T.waiters ≤ length ws

rests : (s : Server) (ws : List Waiter) (b : Bool) → (b ≡ false → AreHeld s ws) → TriedGoes ws (at_rest s ws b)
rests s ws b h =
    record {
      stay = λ P. omega arith;
      goes = λ P. omega arith;
      acts = λ P e. omega arith;
      own = refl;
      in_turn = tt;
      held = h;
      few = omega arith;
    }

nobody : (s : Server) (ws : List Waiter) → is_filled ws ≡ false → AreHeld s ws
unfolding is_filled
nobody s [] h = tt
nobody s (w ∷ ws) h = absurd (cc)

module _ (s : Server) (A : Answer) (ws es : List Waiter) (w : Waiter) (ls : List Waiter) (e : ws ≡ es ++ w ∷ ls) where
  parts : (P : Test) → waiters_of P ws ≡ waiters_of P es + (bit (is_waiter_of P w) + waiters_of P ls)
  parts P = ap (waiters_of P) e ∙ appended (is_waiter_of P) es (w ∷ ls)

  abbrev made_by : Option StepMishap → MadeStep
  made_by x = record { waiter = Some w; earlier = es; server = s; answer = A; mishap = x }

  keeps : (x : StepMishap) → would_wait s w.message ≡ None → AreHeld s es → TriedGoes ws (kept_waiting ws (made_by (Some x)) x)
  keeps (Lacks t) free held =
      record {
        stay = λ P. omega arith;
        goes = λ P. let p : waiters_of P ws ≡ waiters_of P es + (bit (is_waiter_of P w) + waiters_of P ls) = parts P in omega arith;
        acts = λ P f. omega arith;
        own = refl;
        in_turn = ((free, held), tt);
        held = λ h. absurd (cc);
        few = omega arith;
      }
  keeps (Fails t count) free held =
      record {
        stay = λ P. omega arith;
        goes = λ P. let p : waiters_of P ws ≡ waiters_of P es + (bit (is_waiter_of P w) + waiters_of P ls) = parts P in omega arith;
        acts = λ P f. absurd (cc);
        own = refl;
        in_turn = ((free, held), tt);
        held = λ h. absurd (cc);
        few = omega arith;
      }

  lets_go : (T : Tried) → would_wait s w.message ≡ None → AreHeld s es → length ws ≡ suc (length (es ++ ls)) → TriedGoes (es ++ ls) T
      → TriedGoes ws (leaves_answered w (made_by None) T)
  lets_go T free held l t =
      record {
        stay = λ P.
            let p : waiters_of P ws ≡ waiters_of P es + (bit (is_waiter_of P w) + waiters_of P ls) = parts P in
            let q : waiters_of P (es ++ ls) ≡ waiters_of P es + waiters_of P ls = appended (is_waiter_of P) es ls in
            let i : waiters_of P T.waiters + finals_of P T.finals ≡ waiters_of P (es ++ ls) = t.stay P in omega arith;
        goes = λ P.
            let p : waiters_of P ws ≡ waiters_of P es + (bit (is_waiter_of P w) + waiters_of P ls) = parts P in
            let q : waiters_of P (es ++ ls) ≡ waiters_of P es + waiters_of P ls = appended (is_waiter_of P) es ls in
            let i : steps_of P T.made ≤ waiters_of P (es ++ ls) = t.goes P in omega arith;
        acts = λ P f.
            let p : waiters_of P ws ≡ waiters_of P es + (bit (is_waiter_of P w) + waiters_of P ls) = parts P in
            let q : waiters_of P (es ++ ls) ≡ waiters_of P es + waiters_of P ls = appended (is_waiter_of P) es ls in
            let i : waiters_of P T.waiters + acts_of P T.made ≤ waiters_of P (es ++ ls) = t.acts P f in
            let b : bit (if A.acted then is_waiter_of P w else false) ≤ bit (is_waiter_of P w) = bit_low A.acted (is_waiter_of P w) in omega arith;
        own = let z : own_steps T.made ≡ 0 = t.own in omega arith;
        in_turn = ((free, held), t.in_turn);
        held = t.held;
        few = let i : length T.waiters ≤ length (es ++ ls) = t.few in omega arith;
      }

-- ---- one round after the other

middle_length : (es : List Waiter) (w : Waiter) (ls : List Waiter) → length (es ++ w ∷ ls) ≡ suc (length (es ++ ls))
middle_length [] w ls = refl
middle_length (x ∷ es) w ls = ap suc (middle_length es w ls)

abbrev one_by : ℕ → Server → List Waiter → List (Option StepMishap) → ℕ → List Waiter → Waiter → List Waiter → Option StepMishap → Tried
one_by now s ws mishaps rounds earlier w later o =
    elim o [
      | None ↦
          leaves_answered w (trial s now earlier w None)
          (tried now (step s now (Heard w.message)).server (earlier ++ later) (later_mishaps mishaps) rounds)
      | Some x ↦ kept_waiting ws (trial s now earlier w (Some x)) x
    ]

abbrev round_by : ℕ → Server → List Waiter → List (Option StepMishap) → ℕ → FirstFree → Tried
round_by now s ws mishaps rounds f =
    elim f [ AllHeld ↦ at_rest s ws false | Free earlier w later ↦ one_by now s ws mishaps rounds earlier w later (next_mishap mishaps) ]

one_goes : (now : ℕ) (s : Server) (ws : List Waiter) (mishaps : List (Option StepMishap)) (rounds : ℕ) (es : List Waiter) (w : Waiter) (ls : List Waiter)
    (o : Option StepMishap) → FirstIs s ws (Free es w ls)
    → ((t : Server) (us : List Waiter) (xs : List (Option StepMishap)) → TriedGoes us (tried now t us xs rounds))
    → TriedGoes ws (one_by now s ws mishaps rounds es w ls o)
one_goes now s ws mishaps rounds es w ls None i rest =
    lets_go s (step s now (Heard w.message)) ws es w ls i.0
    (tried now (step s now (Heard w.message)).server (es ++ ls) (later_mishaps mishaps) rounds) i.1 i.2
    (ap length i.0 ∙ middle_length es w ls) (rest (step s now (Heard w.message)).server (es ++ ls) (later_mishaps mishaps))
one_goes now s ws mishaps rounds es w ls (Some x) i rest = keeps s (step s now (Heard w.message)) ws es w ls i.0 x i.1 i.2

round_goes : (now : ℕ) (s : Server) (ws : List Waiter) (mishaps : List (Option StepMishap)) (rounds : ℕ) (f : FirstFree) → FirstIs s ws f
    → ((t : Server) (us : List Waiter) (xs : List (Option StepMishap)) → TriedGoes us (tried now t us xs rounds))
    → TriedGoes ws (round_by now s ws mishaps rounds f)
round_goes now s ws mishaps rounds AllHeld i rest = rests s ws false (λ h. i)
round_goes now s ws mishaps rounds (Free es w ls) i rest = one_goes now s ws mishaps rounds es w ls (next_mishap mishaps) i rest

pub tried_goes : (now : ℕ) (s : Server) (ws : List Waiter) (mishaps : List (Option StepMishap)) (rounds : ℕ) → TriedGoes ws (tried now s ws mishaps rounds)
unfolding tried
tried_goes now s ws mishaps zero = rests s ws (is_filled ws) (nobody s ws)
tried_goes now s ws mishaps (suc rounds) =
    round_goes now s ws mishaps rounds (first_free s ws) (first_is s ws) (λ t us xs. tried_goes now t us xs rounds)

-- ---- its steps are the server's

kept_steps : (now : ℕ) (e : WaitEvent) (s : Server) (ws es : List Waiter) (w : Waiter) (x : StepMishap)
    → AreSteps now e s (kept_waiting ws (trial s now es w (Some x)) x).made (kept_waiting ws (trial s now es w (Some x)) x).server
kept_steps now e s ws es w (Lacks t) = (refl, refl, refl)
kept_steps now e s ws es w (Fails t count) = (refl, refl, refl)

one_steps : (now : ℕ) (e : WaitEvent) (s : Server) (ws : List Waiter) (mishaps : List (Option StepMishap)) (rounds : ℕ) (es : List Waiter)
    (w : Waiter) (ls : List Waiter) (o : Option StepMishap)
    → ((t : Server) (us : List Waiter) (xs : List (Option StepMishap)) → AreSteps now e t (tried now t us xs rounds).made (tried now t us xs rounds).server)
    → AreSteps now e s (one_by now s ws mishaps rounds es w ls o).made (one_by now s ws mishaps rounds es w ls o).server
one_steps now e s ws mishaps rounds es w ls None rest =
    (refl, refl, rest (step s now (Heard w.message)).server (es ++ ls) (later_mishaps mishaps))
one_steps now e s ws mishaps rounds es w ls (Some x) rest = kept_steps now e s ws es w x

round_steps : (now : ℕ) (e : WaitEvent) (s : Server) (ws : List Waiter) (mishaps : List (Option StepMishap)) (rounds : ℕ) (f : FirstFree)
    → ((t : Server) (us : List Waiter) (xs : List (Option StepMishap)) → AreSteps now e t (tried now t us xs rounds).made (tried now t us xs rounds).server)
    → AreSteps now e s (round_by now s ws mishaps rounds f).made (round_by now s ws mishaps rounds f).server
round_steps now e s ws mishaps rounds AllHeld rest = refl
round_steps now e s ws mishaps rounds (Free es w ls) rest = one_steps now e s ws mishaps rounds es w ls (next_mishap mishaps) rest

pub tried_steps : (now : ℕ) (e : WaitEvent) (s : Server) (ws : List Waiter) (mishaps : List (Option StepMishap)) (rounds : ℕ)
    → AreSteps now e s (tried now s ws mishaps rounds).made (tried now s ws mishaps rounds).server
unfolding tried
tried_steps now e s ws mishaps zero = refl
tried_steps now e s ws mishaps (suc rounds) =
    round_steps now e s ws mishaps rounds (first_free s ws) (λ t us xs. tried_steps now e t us xs rounds)

-- ---- where nothing befalls them, nobody starves

one_fed : (now : ℕ) (s : Server) (ws : List Waiter) (mishaps : List (Option StepMishap)) (rounds : ℕ) (es : List Waiter) (w : Waiter) (ls : List Waiter)
    (o : Option StepMishap) → length ws ≤ suc rounds → FirstIs s ws (Free es w ls)
    → ((t : Server) (us : List Waiter) (xs : List (Option StepMishap)) → length us ≤ rounds → AreAnswered (tried now t us xs rounds).made
    → (tried now t us xs rounds).starved ≡ false) → AreAnswered (one_by now s ws mishaps rounds es w ls o).made
    → (one_by now s ws mishaps rounds es w ls o).starved ≡ false
one_fed now s ws mishaps rounds es w ls None l i rest a =
    let n : length ws ≡ suc (length (es ++ ls)) = ap length i.0 ∙ middle_length es w ls in
    rest (step s now (Heard w.message)).server (es ++ ls) (later_mishaps mishaps) (omega arith) a.1
one_fed now s ws mishaps rounds es w ls (Some (Lacks t)) l i rest a = absurd (let h : Some (Lacks t) ≡ None = a.0 in cc)
one_fed now s ws mishaps rounds es w ls (Some (Fails t count)) l i rest a = absurd (let h : Some (Fails t count) ≡ None = a.0 in cc)

round_fed : (now : ℕ) (s : Server) (ws : List Waiter) (mishaps : List (Option StepMishap)) (rounds : ℕ) (f : FirstFree) → length ws ≤ suc rounds
    → FirstIs s ws f → ((t : Server) (us : List Waiter) (xs : List (Option StepMishap)) → length us ≤ rounds
    → AreAnswered (tried now t us xs rounds).made → (tried now t us xs rounds).starved ≡ false)
    → AreAnswered (round_by now s ws mishaps rounds f).made → (round_by now s ws mishaps rounds f).starved ≡ false
round_fed now s ws mishaps rounds AllHeld l i rest a = refl
round_fed now s ws mishaps rounds (Free es w ls) l i rest a = one_fed now s ws mishaps rounds es w ls (next_mishap mishaps) l i rest a

nobody_left : (ws : List Waiter) → length ws ≤ 0 → is_filled ws ≡ false
unfolding is_filled
nobody_left [] l = refl
nobody_left (w ∷ ws) l = absurd (omega arith)

pub tried_fed : (now : ℕ) (s : Server) (ws : List Waiter) (mishaps : List (Option StepMishap)) (rounds : ℕ) → length ws ≤ rounds
    → AreAnswered (tried now s ws mishaps rounds).made → (tried now s ws mishaps rounds).starved ≡ false
unfolding tried
tried_fed now s ws mishaps zero l a = nobody_left ws l
tried_fed now s ws mishaps (suc rounds) l a =
    round_fed now s ws mishaps rounds (first_free s ws) l (first_is s ws) (λ t us xs m b. tried_fed now t us xs rounds m b) a
