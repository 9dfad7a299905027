-- The records of connections that are lost.
use Rattle.std.proofs.Common.{◌≡◌, ℕ, Bool, true, false, List, [], ◌∷◌, ◌++◌, Option, Some, None, refl, sym, ap, ◌∙◌}
use Rattle.std.specs.Prelude.{IfOk, Result, Ok, Err}
use Rattle.spec_exchange.specs.Effects.{end_records, leave_all_records, leaves, plain_of, records_if_named}
use Rattle.spec_exchange.specs.Records.{origin_at}
use Rattle.spec_exchange.specs.State as model
use Rattle.spec_exchange.specs.State.{Origin, Server}
use Rattle.spec_exchange.specs.Step.{ends_with, take_all_records, take_out}
use Rattle.spec_exchange.specs.Table.{has}
use Rattle.journal_bytes.specs.record_bytes.Meaning.{records_of}
use Rattle.journal_bytes.specs.declared.record_bytes.value.Record.{Record}
use Rattle.law_records.proofs.leaving_opens.Ended.{has_plain}
use Rattle.law_records.specs.leaving_opens.Since.{AllStand}
use Rattle.law_server.proofs.tables.Logic.{front_of}
use Rattle.law_server.specs.tables.Fits.{Fits}

pub if_ok_by : {X Y : Type 0} {P Q : X → Type 0} (r : Result X Y) → IfOk r P → ((x : X) → P x → Q x) → IfOk r Q
if_ok_by (Ok x) p f = f x p
if_ok_by (Err y) p f = tt

pub not_quiet : (q : Bool) → q ≡ false → q ≡ true → ⊥
not_quiet q e h = let f : false ≡ true = sym e ∙ h in cc

-- quiet, nothing is owed
quiet_end : (s : Server) (g : Origin) (o : Option ℕ) → records_if_named s g o true ≡ []
unfolding end_records
quiet_end s g None = refl
quiet_end s g (Some x) = refl

quiet_stop : (ks : List ℕ) (s : Server) (now : ℕ) → take_all_records s ks now true ≡ []
unfolding take_all_records
quiet_stop [] s now = refl
quiet_stop (k ∷ ks) s now =
    ap (λ (rs : List model.Record). rs ++ take_all_records (take_out s k now true) ks now true) (quiet_end s (origin_at 0) (ends_with s k))
    ∙ quiet_stop ks (take_out s k now true) now

pub none_if_quiet : (s : Server) (g : Origin) (o : Option ℕ) (q : Bool) (rs : List Record) → q ≡ true → rs ≡ []
    → records_of rs ≡ records_if_named s g o q
none_if_quiet s g o q rs e r = ap (λ (v : List Record). records_of v) r ∙ (sym (quiet_end s g o) ∙ ap (records_if_named s g o) (sym e))

pub none_at_stop : (s : Server) (now : ℕ) (q : Bool) (rs : List Record) → q ≡ true → rs ≡ []
    → records_of rs ≡ take_all_records s s.connections now q
none_at_stop s now q rs e r =
    ap (λ (v : List Record). records_of v) r ∙ (sym (quiet_stop s.connections s now) ∙ ap (take_all_records s s.connections now) (sym e))

pub none_named : (s : Server) (g : Origin) (o : Option ℕ) (q : Bool) (rs : List Record) → None ≡ o → rs ≡ []
    → records_of rs ≡ records_if_named s g o q
none_named s g o q rs e r = ap (λ (v : List Record). records_of v) r ∙ ap (λ (p : Option ℕ). records_if_named s g p q) e

pub one_named : (s : Server) (g : Origin) (k x : ℕ) (o : Option ℕ) (q : Bool) (rs : List Record) → g ≡ origin_at k → Some x ≡ o → q ≡ false
    → records_of rs ≡ end_records s g x false → records_of rs ≡ records_if_named s (origin_at k) o q
one_named s g k x o q rs a e b h =
    h ∙ (ap (λ (z : Origin). end_records s z x false) a ∙ (ap (end_records s (origin_at k) x) (sym b)
    ∙ ap (λ (p : Option ℕ). records_if_named s (origin_at k) p q) e))

-- its plain opens stand
pub plain_stand : (s : Server) (x : ℕ) → Fits s → AllStand s (plain_of s x)
plain_stand s x f = λ o there. sym (f.listed o) ∙ front_of (has o s.opens) (leaves s x o) (sym (has_plain s x o s.opens) ∙ there)

pub own : (s : Server) (g : Origin) (x : ℕ) (old new : List Record) → old ≡ []
    → records_of new ≡ records_of old ++ leave_all_records s g (plain_of s x) → records_of new ≡ end_records s g x false
unfolding end_records
own s g x old new o h = h ∙ ap (λ (rs : List Record). records_of rs ++ leave_all_records s g (plain_of s x)) o
