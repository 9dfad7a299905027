-- The steps of an event, one behind the other.
use Rattle.std.proofs.Common.{ℕ, List, [], ◌∷◌, ◌++◌, refl, ap, sym, subst, ◌∙◌, append_assoc}
use Rattle.std.proofs.lemmas.List.{append-nil}
use Rattle.spec_exchange.specs.State as model
use Rattle.spec_crypto.specs.tokens.Tokens.{Users}
use Rattle.spec_world.specs.Ends.{Logons}
use Rattle.law_waiting.specs.wait_steps.WaitStep.{MadeStep}
use Rattle.server_checks.specs.declared.event_heard.event.ServerEvent.{ServerEvent}
use Rattle.wait_locks.specs.Stepping.{StepGoes, Steps}
use Rattle.server_core.specs.declared.journaled_tables.state.ServerState.{ServerState}

module _ {D : Type 0} (told : Type 0) (seen : D → List ℕ) (may_leave : D → List ℕ → Type 0) (moment : D → ℕ) (left_since : D → ℕ → List ℕ → Type 0) (faults : D → ℕ) (users : Users) (now : ℕ)
    (own : ServerEvent) where
  abbrev Goes : ServerState D → ServerState D → Logons → List model.Record → MadeStep → Logons → List model.Record → Type 0
  Goes = StepGoes told seen may_leave moment left_since faults users now own

  abbrev All : ServerState D → ServerState D → Logons → List model.Record → List MadeStep → Logons → List model.Record → Type 0
  All = Steps told seen may_leave moment left_since faults users now own

  -- one more behind them
  pub one_more : (xs : List MadeStep) (x : MadeStep) (c b d : ServerState D) (L N M : Logons) (records written front : List model.Record)
      → All c b L records xs N written → Goes b d N (records ++ written) x M front → All c d L records (xs ++ x ∷ []) M (written ++ front)
  one_more [] x c b d L N M records written front h g =
      let P : ServerState D → Type 0 = λ z. Goes z d N (records ++ written) x M front in
      let Q : Logons → Type 0 = λ z. Goes c d z (records ++ written) x M front in
      let R : List model.Record → Type 0 = λ z. Goes c d L (records ++ z) x M front in
      let S : List model.Record → Type 0 = λ z. Goes c d L z x M front in
      let g1 : Goes c d L records x M front = subst S (append-nil records) (subst R h.2 (subst Q h.1 (subst P h.0 g))) in
      (d, M, front, [], g1, (refl, refl, refl), ap (λ z. z ++ front) h.2 ∙ sym (append-nil front))
  one_more (y ∷ xs) x c b d L N M records written front h g =
      let P : List model.Record → Type 0 = λ z. Goes b d N (records ++ z) x M front in
      let Q : List model.Record → Type 0 = λ z. Goes b d N z x M front in (
        h.0,
        h.1,
        h.2,
        h.3 ++ front,
        h.4,
        one_more xs x h.0 b d h.1 N M (records ++ h.2) h.3 front h.5 (subst Q (sym (append_assoc records h.2 h.3)) (subst P h.6 g)),
        ap (λ z. z ++ front) h.6 ∙ append_assoc h.2 h.3 front,
      )
