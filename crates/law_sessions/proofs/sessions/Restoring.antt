-- A message that makes no open owes no record that restores one: its records are clean whoever the client is, so that a
-- fold of such records alone has no open.
use Rattle.std.proofs.Common.{◌≡◌, ℕ, Bool, true, false, List, [], ◌++◌, inl, inr, refl, sym, subst}
use Rattle.spec_exchange.specs.State.{Server, Message, Heard, Record}
use Rattle.spec_exchange.specs.Check.{check}
use Rattle.spec_exchange.specs.Effects.{apply}
use Rattle.spec_exchange.specs.Verdict.{Verdict}
use Rattle.spec_exchange.specs.Step.{step, without_room, carried_out}
use Rattle.spec_exchange.specs.Fold.{fold, recovery_records}
use Rattle.law_server.proofs.tables.Doors.{Before, Finds}
use Rattle.law_sessions.proofs.sessions.Written.{Clean, Folds, anew, folds_more}
use Rattle.law_sessions.proofs.sessions.Owed.{AllClean, by_verdict, clean_step, is_make}

pub bare_heard : (g : ℕ) (s : Server) (now : ℕ) (m : Message) → ((t : Server) (v : Verdict) → Before s now t
    → Finds t m v → is_make v ≡ false) → Clean g [] (step s now (Heard m)).records
bare_heard g s now m none = clean_step g [] s now (Heard m) all
  where
    bare : (t : Server) (v : Verdict) → Before s now t → Finds t m v → Clean g [] (apply t m now v).records
    bare t v q h = by_verdict g [] t m now v (λ e. makes_none (is_make v) (none t v q h) e)
      where
        makes_none : (b : Bool) → b ≡ false → b ≡ true → m.client_guid ≡ g × t.user m.session_id ≡ []
        makes_none b e f = absurd (cc)

    all : AllClean g [] s now (Heard m)
    all t r q (inl e) = subst (λ x. Clean g [] (carried_out t now x).records) (sym e) (bare t (check t m) q (inl refl))
    all t r q (inr e) = subst (λ x. Clean g [] (carried_out t now x).records) (sym e) (bare t (without_room (check t m)) q (inr refl))

-- ---- the fold

-- where no open may stand, whoever were an open's client
abbrev pub Bare : Bool → ℕ → List Record → Type 0
Bare kind epoch rs = kind ≡ true → (g : ℕ) → Folds g [] epoch (fold rs)

pub bare_more : (kind : Bool) (epoch n : ℕ) (rs more : List Record) → n ≡ epoch
    → (kind ≡ true → (g : ℕ) → Clean g [] more) → Bare kind epoch rs → Bare kind n (rs ++ more)
bare_more kind epoch n rs more e clean b = λ piped g. subst (λ i. Folds g [] i (fold (rs ++ more))) (sym e)
    (folds_more g [] epoch rs more (clean piped g) (b piped g))

pub bare_anew : (kind : Bool) (s : Server) (rs : List Record) → Bare kind s.epoch rs
    → Bare kind (fold (rs ++ recovery_records rs)).epoch (rs ++ recovery_records rs)
bare_anew kind s rs b = λ piped g. let f = (anew g [] s rs (b piped g)).folds in record {
  epoch = refl;
  present = f.present;
  making = f.making;
  opens = f.opens;
  attached = f.attached;
}

two_clients : (n : ℕ) → n ≡ 0 → n ≡ 1 → (P : Type 0) → P
two_clients n a b P = absurd (cc)

-- no open stands in such a fold: its client would be two at once
pub bare_opens : (kind : Bool) (epoch : ℕ) (rs : List Record) → Bare kind epoch rs → (o : ℕ) → (fold rs).standing o ≡ true → kind ≡ false
bare_opens false epoch rs b o h = refl
bare_opens true epoch rs b o h = two_clients ((fold rs).opened o).client_guid ((b refl 0).opens o h).1 ((b refl 1).opens o h).1 _
