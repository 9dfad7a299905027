-- A plan from what its parts tell.
use Rattle.std.proofs.Common.{◌≡◌, ◌≤◌, ◌<◌, ℕ, ◌+◌, ◌==◌, nat_le, Bool, true, false, ◌||◌, if◌then◌else◌, List, [], ◌∷◌, length}
use Rattle.std.proofs.Common.{Option, refl, sym, ap, subst, arith, ◌∙◌}
use Rattle.std.specs.Prelude.{IfOk, Result, Ok, Err}
use Rattle.std.proofs.lemmas.Bool.Decides.{nat_tests}
use Rattle.wire_commands.specs.declared.values.request.Message.{Message}
use Rattle.spec_exchange.specs.Check.{check}
use Rattle.spec_exchange.specs.Records.{fits}
use Rattle.spec_exchange.specs.State as model
use Rattle.spec_exchange.specs.State.{Accept, Answer, End, Heard, Server, ServerEvent, Stop}
use Rattle.spec_exchange.specs.Step as steps
use Rattle.spec_exchange.specs.Step.{carried_out, max_connections, ruling, ruling_without_room, without_room}
use Rattle.server_checks.specs.event_heard.Heard.{event_of}
use Rattle.server_checks.specs.declared.event_heard.asked.Asked.{Asked}
use Rattle.server_checks.specs.declared.event_heard.asked.Asked.TheVariants as askings
use Rattle.server_checks.specs.declared.event_heard.asked.LogonPart.{LogonPart}
use Rattle.journal_bytes.specs.record_bytes.Meaning.{record_of, records_of}
use Rattle.journal_bytes.specs.declared.record_bytes.value.Record.{Record}
use Rattle.journal_bytes.specs.record_bodies.Body.{IsBody, IsBodyOf, fits_by}
use Rattle.law_server.specs.tables.Fits.{Fits}
use Rattle.server_plan.specs.owed_records.Owing.{Owing}
use Rattle.server_plan.proofs.Lesser.{lesser_owes, none_owed}
use Rattle.server_plan.specs.Plans.{OwingOf, PlanFor, may_owe_by}
use Rattle.server_plan.specs.declared.plan.Plan.{Plan}
use Rattle.server_plan.specs.rulings.Rulings.{ruling_of}
use Rattle.server_plan.specs.declared.rulings.ruling.Ruling.{Ruling}
use Rattle.server_plan.specs.declared.rulings.ruling.Ruling.TheVariants as rulings
use Rattle.server_checks.specs.declared.verdicts.verdict.Verdict.{Verdict}

pub if_ok_by : {X Y : Type 0} {P Q : X → Type 0} (r : Result X Y) → IfOk r P → ((x : X) → P x → Q x) → IfOk r Q
if_ok_by (Ok x) p f = f x p
if_ok_by (Err y) p f = tt

-- of an event that is no message a verdict owes nothing
pub unsaid_owes : (s : Server) (now : ℕ) (a : Asked) (v : Verdict) → ((m : Message) (l : Option LogonPart) → a ≡ askings.Says m l → ⊥)
    → [] ≡ (carried_out s now (ruling_of (event_of a) (rulings.Says v))).records
unsaid_owes s now (askings.Accept k) v h = refl
unsaid_owes s now (askings.Says m l) v h = absurd (h m l refl)
unsaid_owes s now (askings.End k) v h = refl
unsaid_owes s now askings.Stop v h = refl

pub owing_of : ((s : Server) (m : model.Message) → Fits s → Owing s m (check s m)) → (s : Server) (e : ServerEvent) (r : steps.Ruling)
    → Fits s → r ≡ ruling s e → OwingOf s r
owing_of law s e r f h = subst (λ (x : steps.Ruling). OwingOf s x) (sym h) (by e)
  where
    accepted : (b : Bool) (k : ℕ) → OwingOf s (if b then steps.TurnsAway else steps.TakesIn k)
    accepted true k = tt
    accepted false k = tt

    by : (e : ServerEvent) → OwingOf s (ruling s e)
    by (Heard m) = law s m f
    by (Accept k) = accepted (nat_le max_connections (length s.connections)) k
    by (End k) = tt
    by Stop = tt

pub lesser_owing : ((s : Server) (m : model.Message) → Fits s → Owing s m (without_room (check s m))) → (s : Server) (e : ServerEvent)
    → Fits s → OwingOf s (ruling_without_room (ruling s e))
lesser_owing law s (Heard m) f = law s m f
lesser_owing law s (Accept k) f = by (nat_le max_connections (length s.connections))
  where
    by : (b : Bool) → OwingOf s (ruling_without_room (if b then steps.TurnsAway else steps.TakesIn k))
    by true = tt
    by false = tt
lesser_owing law s (End k) f = tt
lesser_owing law s Stop f = tt

-- what is so of the ruling and of the one without room is so of the planned one
pub planned : (P : steps.Ruling → Type 0) (s : Server) (now : ℕ) (e : ServerEvent) (p : Plan) → PlanFor p s now e → P (ruling s e)
    → P (ruling_without_room (ruling s e)) → P (ruling_of e p.ruling)
planned P s now e p i x y = subst P (sym i.ruling) (by (fits s (carried_out s now (ruling s e)).records))
  where
    by : (b : Bool) → P (if b then ruling s e else ruling_without_room (ruling s e))
    by true = x
    by false = y

-- ---- where it fits, and where it doesn't

either_by : {X : Type 0} (b : Bool) (x y : X) → b ≡ true → (if b then x else y) ≡ x
either_by true x y e = refl
either_by false x y e = absurd (cc)

either_not : {X : Type 0} (b : Bool) (x y : X) → b ≡ false → (if b then x else y) ≡ y
either_not true x y e = absurd (cc)
either_not false x y e = refl

pub fitting : (s : Server) (now : ℕ) (e : ServerEvent) (p : Plan) → ruling_of e p.ruling ≡ ruling s e
    → IsBodyOf p.body (carried_out s now (ruling s e)).records → fits s (carried_out s now (ruling s e)).records ≡ true → PlanFor p s now e
fitting s now e p h b k =
    let r = ruling s e in let A = carried_out s now r in let B = carried_out s now (ruling_without_room r) in record {
      ruling = h ∙ sym (either_by (fits s A.records) r (ruling_without_room r) k);
      body = subst (λ (x : Answer). IsBodyOf p.body x.records) (sym (either_by (fits s A.records) A B k)) b;
    }

pub lesser : (s : Server) (now : ℕ) (e : ServerEvent) (r : steps.Ruling) (p : Plan) → r ≡ ruling s e
    → ruling_of e p.ruling ≡ ruling_without_room r
    → p.body ≡ [] → fits s (carried_out s now (ruling s e)).records ≡ false → PlanFor p s now e
lesser s now e r p h l b k =
    let q = ruling s e in let A = carried_out s now q in let B = carried_out s now (ruling_without_room q) in record {
      ruling = l ∙ (ap ruling_without_room h ∙ sym (either_not (fits s A.records) q (ruling_without_room q) k));
      body = subst (λ (x : Answer). IsBodyOf p.body x.records) (sym (either_not (fits s A.records) A B k))
          ([], sym (lesser_owes s now q), b);
    }

-- ---- where none is owed

not_none : (r : model.Record) (rs : List model.Record) → r ∷ rs ≡ [] → ⊥
not_none r rs e = cc

pub none_of : (rs : List Record) → records_of rs ≡ [] → rs ≡ []
none_of [] e = refl
none_of (r ∷ rs) e = absurd (not_none (record_of r) (records_of rs) e)

body_none : (b : List ℕ) → IsBodyOf b [] → b ≡ []
body_none b i = subst (λ (rs : List Record). IsBody b rs) (none_of i.0 i.1) i.2

fits_none : (s : Server) → fits s [] ≡ true
unfolding fits
fits_none s = refl

-- the plan is the ruling itself, without a body
pub bare : (s : Server) (now : ℕ) (e : ServerEvent) (p : Plan) → PlanFor p s now e → may_owe_by (ruling s e) ≡ false
    → (ruling_of e p.ruling ≡ ruling s e) × (p.body ≡ [])
bare s now e p i h =
    let r = ruling s e in let A = carried_out s now r in let B = carried_out s now (ruling_without_room r) in
    let n = none_owed s now r h in let k = ap (fits s) n ∙ fits_none s in (
      i.ruling ∙ either_by (fits s A.records) r (ruling_without_room r) k,
      body_none p.body (subst (λ (rs : List model.Record). IsBodyOf p.body rs)
          (ap (λ (x : Answer). x.records) (either_by (fits s A.records) A B k) ∙ n) i.body),
    )

-- ---- the lower limit

pub none_fits : (journal n : ℕ) → n ≡ 0 → true ≡ fits_by journal n
none_fits journal n e = ap (λ (k : ℕ). (k == 0) || nat_le (journal + 5 + k) 939524096) (sym e)

pub some_fit : (journal n : ℕ) → journal + 5 + n ≤ 939524096 → true ≡ fits_by journal n
some_fit journal n h = by (n == 0) (nat_le (journal + 5 + n) 939524096) (grind (arith, nat_tests))
  where
    by : (b c : Bool) → c ≡ true → true ≡ (b || c)
    by true c e = refl
    by false c e = sym e

pub not_fit : (journal n : ℕ) → 0 < n → 939524096 < journal + 5 + n → false ≡ fits_by journal n
not_fit journal n l h = by (n == 0) (nat_le (journal + 5 + n) 939524096) (grind (arith, nat_tests)) (grind (arith, nat_tests))
  where
    by : (b c : Bool) → b ≡ false → c ≡ false → false ≡ (b || c)
    by true c d e = absurd (cc)
    by false c d e = sym e
