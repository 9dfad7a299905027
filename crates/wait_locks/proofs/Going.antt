-- One waiter after the other goes.
use Rattle.std.proofs.Common.{◌≡◌, ℕ, suc, Bool, false, List, [], ◌∷◌, ◌++◌, length, Option, Some, None, refl, ap, sym, subst, ◌∙◌, append_assoc}
use Rattle.spec_exchange.specs.Table.{is_filled}
use Rattle.spec_exchange.specs.State.{Server, Heard}
use Rattle.spec_exchange.specs.Step.{step}
use Rattle.law_waiting.specs.wait_steps.WaitStep.{AllHeld, FirstFree, Free, MadeStep, Response, StepMishap, Tried, Waiter, at_rest, first_free}
use Rattle.law_waiting.specs.wait_steps.WaitStep.{behind_held, kept_waiting, later_mishaps, later_to, leaves_answered, next_mishap, trial, tried}
use Rattle.law_waiting.specs.held.Held.{would_wait}
use Rattle.std.specs.Prelude.{is_some, if◌then◌else◌, true}
use Rattle.wait_locks.specs.SoFar.{SoFar, in_front, nones}

-- ---- the first that goes stands between those before it and those behind it

abbrev Parted : List Waiter → FirstFree → Type 0
Parted ws AllHeld = Unit {0}
Parted ws (Free es w ls) = ws ≡ es ++ w ∷ ls

more_parted : (w : Waiter) (ws : List Waiter) (f : FirstFree) → Parted ws f → Parted (w ∷ ws) (behind_held w f)
more_parted w ws AllHeld h = tt
more_parted w ws (Free es x ls) h = ap (λ l. w ∷ l) h

parted_by : (b : Bool) (w : Waiter) (ws : List Waiter) (f : FirstFree) → Parted ws f
    → Parted (w ∷ ws) (if b then behind_held w f else Free [] w ws)
parted_by true w ws f h = more_parted w ws f h
parted_by false w ws f h = refl

parted : (s : Server) (ws : List Waiter) → Parted ws (first_free s ws)
unfolding first_free
parted s [] = tt
parted s (w ∷ ws) = parted_by (is_some (would_wait s w.message)) w ws (first_free s ws) (parted s ws)

middle : (es : List Waiter) (w : Waiter) (ls : List Waiter) → length (es ++ w ∷ ls) ≡ suc (length (es ++ ls))
middle [] w ls = refl
middle (x ∷ es) w ls = ap suc (middle es w ls)

pub one_less : (s : Server) (ws es : List Waiter) (w : Waiter) (ls : List Waiter) → first_free s ws ≡ Free es w ls → ws ≡ es ++ w ∷ ls
one_less s ws es w ls e = let P : FirstFree → Type 0 = λ f. Parted ws f in subst P e (parted s ws)

-- ---- one round

abbrev pub one_by : ℕ → Server → List Waiter → List (Option StepMishap) → ℕ → List Waiter → Waiter → List Waiter → Option StepMishap → Tried
one_by now s ws ms rounds es w ls o =
    elim o [
      | None ↦ leaves_answered w (trial s now es w None) (tried now (step s now (Heard w.message)).server (es ++ ls) (later_mishaps ms) rounds)
      | Some x ↦ kept_waiting ws (trial s now es w (Some x)) x
    ]

abbrev pub round_by : ℕ → Server → List Waiter → List (Option StepMishap) → ℕ → FirstFree → Tried
round_by now s ws ms rounds f =
    elim f [ AllHeld ↦ at_rest s ws false | Free es w ls ↦ one_by now s ws ms rounds es w ls (next_mishap ms) ]

pub opened : (now : ℕ) (s : Server) (ws : List Waiter) (ms : List (Option StepMishap)) (rounds : ℕ)
    → tried now s ws ms (suc rounds) ≡ round_by now s ws ms rounds (first_free s ws)
unfolding tried
opened now s ws ms rounds = refl

by_parts : (now : ℕ) (s : Server) (ws : List Waiter) (ms : List (Option StepMishap)) (rounds n : ℕ) (es : List Waiter) (w : Waiter) (ls : List Waiter)
    → n ≡ suc rounds → first_free s ws ≡ Free es w ls → tried now s ws ms n ≡ one_by now s ws ms rounds es w ls (next_mishap ms)
by_parts now s ws ms rounds n es w ls l e =
    ap (λ k. tried now s ws ms k) l ∙ opened now s ws ms rounds ∙ ap (λ f. round_by now s ws ms rounds f) e

module _ (now : ℕ) (s : Server) (ws es : List Waiter) (w : Waiter) (ls : List Waiter) (e : first_free s ws ≡ Free es w ls) where
  shorter : length ws ≡ suc (length (es ++ ls))
  shorter = ap length (one_less s ws es w ls e) ∙ middle es w ls

  pub goes : (ms : List (Option StepMishap)) → tried now s ws (None ∷ ms) (length ws)
      ≡ leaves_answered w (trial s now es w None) (tried now (step s now (Heard w.message)).server (es ++ ls) ms (length (es ++ ls)))
  goes ms = by_parts now s ws (None ∷ ms) (length (es ++ ls)) (length ws) es w ls shorter e

  pub stays : (x : StepMishap) → tried now s ws (Some x ∷ []) (length ws) ≡ kept_waiting ws (trial s now es w (Some x)) x
  stays x = by_parts now s ws (Some x ∷ []) (length (es ++ ls)) (length ws) es w ls shorter e

rest_by : (now : ℕ) (s : Server) (ws : List Waiter) → first_free s ws ≡ AllHeld → tried now s ws [] (length ws) ≡ at_rest s ws false
unfolding tried is_filled
rest_by now s [] e = refl
rest_by now s (w ∷ ws) e = ap (λ f. round_by now s (w ∷ ws) [] (length ws) f) e

-- ---- all rounds

same : (t : Tried) → in_front [] [] t ≡ t
same t = refl

pub begins : (now : ℕ) (s : Server) (ws : List Waiter) → SoFar now s ws s ws [] []
begins now s ws = record { rounds = λ ms. refl }

one_more : (xs : List MadeStep) (x : MadeStep) (ms : List (Option StepMishap)) → nones (length (xs ++ x ∷ [])) ++ ms ≡ nones (length xs) ++ None ∷ ms
one_more [] x ms = refl
one_more (y ∷ xs) x ms = ap (λ l. None ∷ l) (one_more xs x ms)

join : (fs : List Response) (f : Response) (xs : List MadeStep) (x : MadeStep) (T : Tried)
    → in_front fs xs (record T { finals = f ∷ T.finals; made = x ∷ T.made }) ≡ in_front (fs ++ f ∷ []) (xs ++ x ∷ []) T
join fs f xs x T =
    ap (λ l. record T { finals = l; made = xs ++ (x ∷ T.made) }) (sym (append_assoc fs (f ∷ []) T.finals))
    ∙ ap (λ l. record T { finals = (fs ++ f ∷ []) ++ T.finals; made = l }) (sym (append_assoc xs (x ∷ []) T.made))

module _ (now : ℕ) (s : Server) (ws : List Waiter) (t : Server) (us : List Waiter) (fs : List Response) (xs : List MadeStep)
    (so_far : SoFar now s ws t us fs xs) where
  pub one_went : (es : List Waiter) (w : Waiter) (ls : List Waiter) → first_free t us ≡ Free es w ls
      → SoFar now s ws (step t now (Heard w.message)).server (es ++ ls) (fs ++ later_to w (step t now (Heard w.message)).reply ∷ [])
      (xs ++ trial t now es w None ∷ [])
  one_went es w ls e =
      record {
        rounds = λ ms.
            ap (λ l. tried now s ws l (length ws)) (one_more xs (trial t now es w None) ms) ∙ so_far.rounds (None ∷ ms)
            ∙ ap (in_front fs xs) (goes now t us es w ls e ms)
            ∙ join fs (later_to w (step t now (Heard w.message)).reply) xs (trial t now es w None)
            (tried now (step t now (Heard w.message)).server (es ++ ls) ms (length (es ++ ls)));
      }

  -- nobody else goes
  pub ends : first_free t us ≡ AllHeld → tried now s ws (nones (length xs) ++ []) (length ws) ≡ in_front fs xs (at_rest t us false)
  ends e = so_far.rounds [] ∙ ap (in_front fs xs) (rest_by now t us e)

  -- the next one's step met this
  pub breaks : (es : List Waiter) (w : Waiter) (ls : List Waiter) (x : StepMishap) → first_free t us ≡ Free es w ls
      → tried now s ws (nones (length xs) ++ Some x ∷ []) (length ws) ≡ in_front fs xs (kept_waiting us (trial t now es w (Some x)) x)
  breaks es w ls x e = so_far.rounds (Some x ∷ []) ∙ ap (in_front fs xs) (stays now t us es w ls e x)
