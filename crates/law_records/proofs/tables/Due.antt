-- The open that is due.
use Rattle.std.proofs.Common.{◌≡◌, ℕ, Bool, true, false, if◌then◌else◌, List, [], ◌∷◌, Option, Some, None, refl, subst, sym}
use Rattle.spec_exchange.specs.State.{Server}
use Rattle.spec_exchange.specs.Step.{due, due_in, is_past, with_deadlines}
use Rattle.law_server.proofs.tables.Applied.{due_stands}
use Rattle.law_server.proofs.tables.SessionEffects.{deadlines_keeps}
use Rattle.law_server.specs.tables.Fits.{Fits}

some_same : (p o : ℕ) → Some p ≡ Some o → p ≡ o
some_same p o e = cc

none_not : (o : ℕ) → None ≡ Some o → ⊥
none_not o e = cc

-- its deadline is past
past : (deadline : ℕ → Option ℕ) (os : List ℕ) (now o : ℕ) → due_in deadline os now ≡ Some o → is_past now (deadline o) ≡ true
unfolding due_in
past deadline [] now o e = absurd (none_not o e)
past deadline (p ∷ os) now o e = by (is_past now (deadline p)) refl (past deadline os now o) e
  where
    by : (b : Bool) → b ≡ is_past now (deadline p)
        → (due_in deadline os now ≡ Some o → is_past now (deadline o) ≡ true)
        → (if b then Some p else due_in deadline os now) ≡ Some o → is_past now (deadline o) ≡ true
    by true h behind q = subst (λ (y : ℕ). is_past now (deadline y) ≡ true) (some_same p o q) (sym h)
    by false h behind q = behind q

-- so it has no session
unattached : (s : Server) (o now : ℕ) (d : Option ℕ) → d ≡ s.deadline o → is_past now d ≡ true → Fits s → s.session_of_open o ≡ None
unattached s o now None e p f = absurd (let h : false ≡ true = p in cc)
unattached s o now (Some n) e p f = f.deadlines o n (sym e)

pub due_open : (s : Server) (now o : ℕ) → Fits s → due (with_deadlines s now) now ≡ Some o
    → (s.standing o ≡ true) × (s.session_of_open o ≡ None)
due_open s now o f e =
    let d = with_deadlines s now in
    let g : Fits d = deadlines_keeps s now f in
    (due_stands d now o e g.listed, unattached d o now (d.deadline o) refl (past d.deadline d.opens now o e) g)
