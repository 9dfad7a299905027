-- What the first two parts of settling leave: each channel is closed on both ends, or ready with nothing waiting.
use Rattle.std.proofs.lemmas.Bool.{eqb-false}
use Rattle.std.proofs.Common.{eqb-true, ◌≡◌, ◌≢◌, ℕ, ◌+◌, ◌≤◌, ◌<◌, ◌==◌, Bool, true, false, not, ◌&&◌, ◌||◌, []}
use Rattle.std.proofs.Common.{length, refl, arith, sym, subst, ◌∙◌, ap, Option, Some, None, zero, suc}
use Rattle.spec_exchange.specs.Table.{is_filled, is_at}
use Rattle.spec_exchange.specs.Operations.{Refusal}
use Rattle.spec_exchange.specs.Schedules.{Course, went, went_if, drain, has_more, both_open, is_talking, hangs, each}
use Rattle.spec_exchange.specs.Schedules.{drain_and_cut, finished_after, finished_by, last_refusal}
use Rattle.spec_exchange.specs.Network.{World, Cut, Finish, Conn, happens, changed, later}
use Rattle.law_server.proofs.tables.Logic.{either, front_of}
use Rattle.law_answers.proofs.completeness.Events.{Elsewhere, so, cut_away}
use Rattle.law_answers.proofs.completeness.Facts.{Always}
use Rattle.law_answers.proofs.completeness.Equations.{by_test, went_on, went_off, finished_on, finished_off}
use Rattle.law_answers.proofs.completeness.Drain.{nothing_in, drains_all}
use Rattle.law_answers.proofs.completeness.Later.{Later, joined_on, one, if_one, drain_later, finished_later}
use Rattle.law_answers.proofs.completeness.Round.{cut_shuts}

-- ---- one channel

abbrev pub Clean : (ℕ → Conn) → ℕ → Type 0
Clean f q = (f q).client_open ≡ true → (f q).server_open ≡ true × (f q).up ≡ [] × (f q).down ≡ []

abbrev pub NoOrphan : (ℕ → Conn) → ℕ → Type 0
NoOrphan f q = (f q).client_open ≡ false → (f q).server_open ≡ false

pub clean_else : (f g : ℕ → Conn) (k q : ℕ) → Elsewhere f g k → q ≢ k → Clean f q → Clean g q
clean_else f g k q e n c o =
    let s = e.same q n o in let p = c (ap (λ (d : Conn). d.client_open) (sym s) ∙ o) in
    (ap (λ (d : Conn). d.server_open) s ∙ p.0, ap (λ (d : Conn). d.up) s ∙ p.1, ap (λ (d : Conn). d.down) s ∙ p.2)

absent : (b : Bool) (P : Type 0) → b ≡ true → b ≡ false → P
absent b P e f = absurd (cc)

pub clean_shut : (f : ℕ → Conn) (q : ℕ) → (f q).client_open ≡ false → Clean f q
clean_shut f q shut o = absent (f q).client_open _ o shut

-- at the channel itself or at another
pub at_or_else : (P : ℕ → Type 0) (k q : ℕ) → P k → (q ≢ k → P q) → P q
at_or_else P k q here there = elim (q == k) as (λ b. q == k ≡ b → P q) [
  | true ↦ λ e. subst P (sym (eqb-true q k e)) here
  | false ↦ λ e. there (eqb-false q k e)
] refl

-- ---- each channel in turn

pub record Steps (P : Course → Type 0) (Q : ℕ → Course → Type 0) (act : Course → ℕ → Course) : Type 0 where
  pub keeps : (c : Course) (k : ℕ) → P c → P (act c k)
  pub makes : (c : Course) (k : ℕ) → P c → Q k (act c k)
  pub stays : (c : Course) (k q : ℕ) → P c → Q q c → Q q (act c k)

pub record EachOf (P : Course → Type 0) (Q : ℕ → Course → Type 0) (c d : Course) (k n : ℕ) : Type 0 where
  pub keeps : P d
  pub makes : (q : ℕ) → k ≤ q → q < k + n → Q q d
  pub stays : (q : ℕ) → Q q c → Q q d

pub each_of : (P : Course → Type 0) (Q : ℕ → Course → Type 0) (act : Course → ℕ → Course) → Steps P Q act
    → (k n : ℕ) (c : Course) → P c → EachOf P Q c (each act k n c) k n
unfolding each
each_of P Q act s k zero c p = record { keeps = p; makes = λ q a b. absurd (omega (arith, a, b)); stays = λ q i. i }
each_of P Q act s k (suc n) c p =
    let i = each_of P Q act s (k + 1) n (act c k) (s.keeps c k p) in
    record {
      keeps = i.keeps;
      makes = λ q a b. at_or_else (λ x. k ≤ x → x < k + suc n → Q x (each act (k + 1) n (act c k))) k q
          (λ _ _. i.stays k (s.makes c k p)) (λ d l h. i.makes q (above d l) (omega (arith, h))) a b;
      stays = λ q j. i.stays q (s.stays c k q p j);
    }
  where
    above : {q : ℕ} → q ≢ k → k ≤ q → k + 1 ≤ q
    above {q} d l = omega (arith, d, l)

-- ---- the first part

finish_conns : (w : World) (r : Refusal) → (happens w (Finish r)).conns ≡ w.conns
finish_conns w r = either (λ (v : World). v.conns ≡ w.conns) (not w.client.live) (later (changed w (Finish r)) 1) w (λ _. refl) (λ _. refl)

by_conns : (o : Option Refusal) (d : Course) → (finished_by o d).world.conns ≡ d.world.conns
unfolding finished_by went
by_conns None d = refl
by_conns (Some r) d = finish_conns d.world r

pub finished_conns : (n : Bool) (c d : Course) → (finished_after n c d).world.conns ≡ d.world.conns
finished_conns n c d =
    by_test (λ (e : Course). e.world.conns ≡ d.world.conns)
    (n && not (length c.world.client.refusals == length d.world.client.refusals)) (finished_after n c d)
    (finished_by (last_refusal d.world.client.refusals) d) d
    (finished_on n c d) (finished_off n c d) (λ _. by_conns (last_refusal d.world.client.refusals) d) (λ _. refl)

none_waits : (w v : World) (k : ℕ) → v.conns ≡ w.conns → has_more w k ≡ false → hangs v k ≡ false → Clean v.conns k
unfolding has_more both_open hangs
none_waits w v k e more hang o = subst (λ f. (f k).client_open ≡ true → not (f k).server_open ≡ false
    → (f k).server_open ≡ true × (f k).up ≡ [] × (f k).down ≡ []) (sym e) (λ a b. by (w.conns k) more a b) o
    (front_none (v.conns k).client_open (not (v.conns k).server_open) (is_talking (v.client.stage k)) hang o)
  where
    front_none : (a b c : Bool) → (a && (b || c)) ≡ false → a ≡ true → b ≡ false
    front_none a b c e o = grind arith

    by : (d : Conn) → ((d.client_open && d.server_open) && (is_filled d.up || is_filled d.down)) ≡ false → d.client_open
        ≡ true → not d.server_open ≡ false → d.server_open ≡ true × d.up ≡ [] × d.down ≡ []
    by d more a b = let s = not_off d.server_open b in let n = neither d.client_open d.server_open (is_filled d.up)
        (is_filled d.down) more a s in (s, nothing_in d.up n.0, nothing_in d.down n.1)
      where
        not_off : (b : Bool) → not b ≡ false → b ≡ true
        not_off b e = grind arith

        neither : (a b x y : Bool) → ((a && b) && (x || y)) ≡ false → a ≡ true → b ≡ true → x ≡ false × y ≡ false
        neither a b x y e p q = (grind arith, grind arith)

pub record FirstPart (K : World → Type 0) (c d : Course) (k : ℕ) : Type 0 where
  pub later : Later K c d
  pub clean : Clean d.world.conns k
  pub elsewhere : Elsewhere c.world.conns d.world.conns k

cut_there : (e : Course) (k : ℕ) → hangs e.world k ≡ true → ((went e (Cut k)).world.conns k).client_open ≡ false
unfolding hangs went
cut_there e k h = cut_shuts e.world k (front_of (e.world.conns k).client_open _ h)

cut_else : (e : Course) (k : ℕ) → Elsewhere e.world.conns (went e (Cut k)).world.conns k
unfolding went
cut_else e k = cut_away e.world k

pub first_part : (K : World → Type 0) → Always K → (c : Course) (k : ℕ) → K c.world → FirstPart K c (drain_and_cut c k) k
unfolding drain_and_cut
first_part K A c k h =
    let n = is_at k c.world.client.making in let d = drain 64 c k in let e = finished_after n c d in let r = drains_all K A c k h in
    let a = drain_later K A 64 c k h in let b = finished_later K A n c d a.known in let l = joined_on K c d e a b in
    let conns = finished_conns n c d in
    let away : Elsewhere c.world.conns e.world.conns k = subst (λ f. Elsewhere c.world.conns f k) (sym conns) r.elsewhere in
    let last = if_one K A (hangs e.world k) e (Cut k) refl l.known in
    by_test (λ (u : Course). FirstPart K c u k) (hangs e.world k) (went_if (hangs e.world k) e (Cut k)) (went e (Cut k))
    e (went_on (hangs e.world k) e (Cut k)) (went_off (hangs e.world k) e (Cut k))
    (λ hang. by_cut e l away hang)
    (λ off. record { later = l; clean = none_waits d.world e.world k conns r.done off; elsewhere = away })
  where
    by_cut : (e : Course) → Later K c e → Elsewhere c.world.conns e.world.conns k → hangs e.world k ≡ true
        → FirstPart K c (went e (Cut k)) k
    by_cut e l away hang =
        record {
          later = joined_on K c e (went e (Cut k)) l (one K A e (Cut k) refl l.known);
          clean = clean_shut (went e (Cut k)).world.conns k (cut_there e k hang);
          elsewhere = so c.world.conns e.world.conns (went e (Cut k)).world.conns k away (cut_else e k);
        }
