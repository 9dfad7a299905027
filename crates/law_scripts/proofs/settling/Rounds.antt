-- Settling over bytes goes in step with that of the model of values.
use Rattle.std.proofs.Common.{◌≡◌, ℕ, ◌+◌, ◌*◌, ◌^◌, ◌≤◌, ◌<◌, ◌==◌, Bool, true, false, refl, sym, ap, ◌∙◌, subst}
use Rattle.std.proofs.Common.{arith, ◌⊎◌, inl, inr, zero, suc}
use Rattle.spec_exchange.specs.ClientStep.{some_unsettled}
use Rattle.spec_exchange.specs.Network.{World as Values}
use Rattle.spec_exchange.specs.Schedules as values
use Rattle.spec_exchange.specs.Schedules.{least}
use Rattle.law_answers.proofs.completeness.Equations as model
use Rattle.law_answers.proofs.completeness.Clean.{Clean, each_of}
use Rattle.law_answers.proofs.completeness.Facts.{Facts}
use Rattle.law_answers.proofs.completeness.Later.{Later, now, joined_on}
use Rattle.law_answers.proofs.completeness.NewSession.{seeks}
use Rattle.law_answers.proofs.completeness.Rounds.{SettledTo, LeastTo, seek, all_settled, one_round_on}
use Rattle.law_answers.proofs.completeness.Runs.{OfRun, always, present}
use Rattle.law_answers.proofs.completeness.Settling.{first_steps, all_clean}
use Rattle.law_answers.proofs.completeness.Tidy.{Rested, all_dropped, calm_of, idle_of, least_ready}
use Rattle.law_replies.proofs.courses.Equations as told
use Rattle.spec_world.specs.Courses.{Course, drain_and_cut, drop_orphan, each, linked, pushed_round, ready_round, rounds, tidy}
use Rattle.spec_world.specs.Events.{bytes_start}
use Rattle.spec_world.specs.Settings.{WorldSettings, values_of}
use Rattle.spec_world.specs.Statements.{value_events}
use Rattle.law_ties.specs.wire_facts.Fitting.{IsFitting}
use Rattle.law_scripts.proofs.settling.Bytes as bytes
use Rattle.law_scripts.proofs.settling.Values as plain
use Rattle.law_scripts.proofs.settling.Loops.{begins, both_by, both_test, drains_and_cuts, drops, each_on, pushed, tidies}
use Rattle.law_scripts.proofs.settling.Steps.{Laws, Rel, follows, in_step, push_still, rel_more, rel_opened}

-- ---- its values are those of a run of the model

pub of_run : Laws → (z : WorldSettings) → IsFitting z → (i m : ℕ) → i ≤ 16777216 → (c : Course) (d : values.Course) → Rel z i m c d
    → OfRun (values_of z) d.world
of_run L z fit i m low c d h =
    let es = h.events in
    record { events = value_events z (bytes_start z) es; is = sym (in_step L z fit i m low c es h.at) ∙ h.same }

facts_of : Laws → (z : WorldSettings) → IsFitting z → (i m : ℕ) → i ≤ 16777216 → (c : Course) (d : values.Course) → Rel z i m c d
    → Facts d.world
facts_of L z fit i m low c d h = (let A = always (values_of z) in A.facts d.world (of_run L z fit i m low c d h))

-- ---- one round

found_clean : (z : WorldSettings) (d : values.Course) → OfRun (values_of z) d.world → Rested d.world → (q : ℕ)
    → Clean (values.linked 256 d).world.conns q
found_clean z d h rest =
    elim (d.world.client.channels == 0) as (λ b. d.world.client.channels == 0 ≡ b → (q : ℕ) → Clean (values.linked 256 d).world.conns q) [
      | true ↦ λ none. (seeks (OfRun (values_of z)) (always (values_of z)) (present (values_of z)) d h rest none).clean
      | false ↦ λ some. subst (λ (e : values.Course). (q : ℕ) → Clean e.world.conns q) (sym (model.linked_off 256 d some)) rest.clean
    ] refl

one_more : (m : ℕ) → m ≤ m + 1
one_more m = omega arith

readies : Laws → (z : WorldSettings) → IsFitting z → (i m : ℕ) → i ≤ 16777216 → m < 2 ^ 54
    → (c : Course) (d : values.Course) → Rel z i m c d
    → ((q : ℕ) → Clean d.world.conns q) → Rel z i (m + 1) (ready_round z 256 c) (values.ready_round 256 d)
readies L z fit i m low few c d h clean =
    let R = Rel z i (m + 1) in
    let F = follows L z fit i (m + 1) low in
    let facts = facts_of L z fit i m low c d h in
    let k = least c.world.values.client.ready 0 256 in
    let j = least d.world.client.ready 0 256 in
    let same : j ≡ k = ap (λ (v : Values). least v.client.ready 0 256) (sym h.same) in
    both_test R (c.world.values.client.channels == 0) (d.world.client.channels == 0) (ap (λ (v : Values). v.client.channels == 0) h.same)
    (ready_round z 256 c) c (pushed_round z c k) (values.ready_round 256 d) d (values.pushed_round d j) (told.ready_on z 256 c)
    (told.ready_off z 256 c) (model.ready_on 256 d) (model.ready_off 256 d) (λ _. rel_more z i m (m + 1) (one_more m) c d h)
    (λ some. (let on = least_ready d.world facts (sym (ap (λ (v : Values). v.client.channels == 0) h.same) ∙ some) in
    subst (λ q. R (pushed_round z c q) (values.pushed_round d j)) same
    (pushed z R F c d j
    (push_still L z fit i m low few c d j h (idle_of d.world j facts clean on) (calm_of d.world j facts clean on)))))

abbrev own_round : values.Course → values.Course
own_round d = values.each values.tidy 0 256 (values.ready_round 256 (values.linked 256 d))

-- an Open and a Push more, at most
round_on : Laws → (z : WorldSettings) → IsFitting z → (i m : ℕ) → i ≤ 16777216 → m + 1 < 2 ^ 54 → (c : Course) (d : values.Course)
    → Rel z i m c d → Rested d.world → Rel z i ((m + 1) + 1) (told.one_round z 256 c) (own_round d)
round_on L z fit i m low few c d h rest =
    let S = Rel z i (m + 1) in
    let R = Rel z i ((m + 1) + 1) in
    let F = follows L z fit i ((m + 1) + 1) low in
    let one = begins z S (follows L z fit i (m + 1) low) 256 c d (rel_more z i m (m + 1) (one_more m) c d h)
    (λ k. rel_opened L z fit i m low c d k h) in
    let clean = found_clean z d (of_run L z fit i m low c d h) rest in
    each_on R (tidy z) values.tidy (tidies z R F) 0 256 (ready_round z 256 (linked z 256 c)) (values.ready_round 256 (values.linked 256 d))
    (readies L z fit i (m + 1) low few (linked z 256 c) (values.linked 256 d) one clean)

-- ---- the rounds

absent : (b : Bool) (P : Type 0) → b ≡ true → b ≡ false → P
absent b P e f = absurd (cc)

next_rested : (z : WorldSettings) (d : values.Course) → OfRun (values_of z) d.world → Rested d.world
    → some_unsettled d.world.client d.world.client.taken ≡ true
    → SettledTo d.world.client d.world.client.taken ⊎ LeastTo d.world.client d.world.client.taken → Rested (own_round d).world
next_rested z d h rest some (inl s) =
    absent (some_unsettled d.world.client d.world.client.taken) _ some (all_settled d.world.client d.world.client.taken s)
next_rested z d h rest some (inr l) =
    (one_round_on (OfRun (values_of z)) (always (values_of z)) (present (values_of z)) d l.op h rest
    (record { low = l.low; high = l.high; lower = l.lower })).rested

no_fuel : (m n : ℕ) → m + 2 * 0 ≤ n → m ≤ n
no_fuel m n l = omega (arith, l)

some_fuel : (m fuel n : ℕ) → m + 2 * suc fuel ≤ n → ((m + 1) + 1) + 2 * fuel ≤ n
some_fuel m fuel n l = omega (arith, l)

less_fuel : (m fuel n : ℕ) → m + 2 * suc fuel ≤ n → m ≤ n
less_fuel m fuel n l = omega (arith, l)

few_left : (m fuel n : ℕ) → m + 2 * suc fuel ≤ n → n < 2 ^ 54 → m + 1 < 2 ^ 54
few_left m fuel n l h = omega (arith, l, h)

pub rounds_on : Laws → (z : WorldSettings) → IsFitting z → (i : ℕ) → i ≤ 16777216 → (n : ℕ) → n < 2 ^ 54 → (fuel m : ℕ) → m + 2 * fuel ≤ n
    → (c : Course) (d : values.Course) → Rel z i m c d → Rested d.world → Rel z i n (rounds z 256 fuel c) (values.rounds 256 fuel d)
rounds_on L z fit i low n few zero m bound c d h rest =
    both_by (Rel z i n) (rounds z 256 zero c) c (values.rounds 256 zero d) d (bytes.rounds_none z 256 c) (plain.rounds_none 256 d)
    (rel_more z i m n (no_fuel m n bound) c d h)
rounds_on L z fit i low n few (suc fuel) m bound c d h rest =
    let known = of_run L z fit i m low c d h in
    let u = told.one_round z 256 c in
    let v = own_round d in
    let one = round_on L z fit i m low (few_left m fuel n bound few) c d h rest in
    let again = λ (r : Rested v.world). rounds_on L z fit i low n few fuel ((m + 1) + 1) (some_fuel m fuel n bound) u v one r in
    let same = ap (λ (x : Values). some_unsettled x.client x.client.taken) h.same in
    both_test (Rel z i n) (some_unsettled c.world.values.client c.world.values.client.taken)
    (some_unsettled d.world.client d.world.client.taken) same (rounds z 256 (suc fuel) c) (rounds z 256 fuel u) c
    (values.rounds 256 (suc fuel) d) (values.rounds 256 fuel v) d (told.rounds_on z 256 fuel c) (told.rounds_off z 256 fuel c)
    (model.rounds_on 256 fuel d) (model.rounds_off 256 fuel d)
    (λ some. again (next_rested z d known rest (sym same ∙ some) (seek d.world.client d.world.client.taken)))
    (λ _. rel_more z i m n (less_fuel m fuel n bound) c d h)

-- ---- the first two parts, behind which the world is at rest

pub record Readied (z : WorldSettings) (i m : ℕ) (c : Course) (d : values.Course) : Type 0 where
  pub rel : Rel z i m (each (drop_orphan z) 0 256 (each (drain_and_cut z) 0 256 c))
      (values.each values.drop_orphan 0 256 (values.each values.drain_and_cut 0 256 d))
  pub later : Later (OfRun (values_of z)) d (values.each values.drop_orphan 0 256 (values.each values.drain_and_cut 0 256 d))
  pub rested : Rested (values.each values.drop_orphan 0 256 (values.each values.drain_and_cut 0 256 d)).world

pub readied : Laws → (z : WorldSettings) → IsFitting z → (i m : ℕ) → i ≤ 16777216 → (c : Course) (d : values.Course) → Rel z i m c d
    → Readied z i m c d
readied L z fit i m low c d h =
    let R = Rel z i m in
    let F = follows L z fit i m low in
    let K = OfRun (values_of z) in
    let A = always (values_of z) in
    let cs = each (drain_and_cut z) 0 256 c in
    let ds = values.each values.drain_and_cut 0 256 d in
    let one = each_on R (drain_and_cut z) values.drain_and_cut (drains_and_cuts z R F) 0 256 c d h in
    let first = each_of (Later K d) (λ q e. Clean e.world.conns q) values.drain_and_cut (first_steps K A d) 0 256 d
    (now K d (of_run L z fit i m low c d h)) in
    let t = all_dropped K A ds first.keeps.known (all_clean K A d ds first) in
    record {
      rel = each_on R (drop_orphan z) values.drop_orphan (drops z R F) 0 256 cs ds one;
      later = joined_on K d ds (values.each values.drop_orphan 0 256 ds) first.keeps t.later;
      rested = t.rested;
    }

-- ---- no round more than are due

abbrev IsOpen : Course → Bool
IsOpen c = some_unsettled c.world.values.client c.world.values.client.taken

same_rounds : (z : WorldSettings) (few more : ℕ) (c : Course) (b : Bool) → IsOpen c ≡ b
    → (IsOpen (rounds z 256 few (told.one_round z 256 c)) ≡ false
    → rounds z 256 more (told.one_round z 256 c) ≡ rounds z 256 few (told.one_round z 256 c))
    → IsOpen (rounds z 256 (suc few) c) ≡ false → rounds z 256 (suc more) c ≡ rounds z 256 (suc few) c
same_rounds z few more c false q again e = told.rounds_off z 256 more c q ∙ sym (told.rounds_off z 256 few c q)
same_rounds z few more c true q again e =
    told.rounds_on z 256 more c q
    ∙ (again (subst (λ (u : Course). IsOpen u ≡ false) (told.rounds_on z 256 few c q) e) ∙ sym (told.rounds_on z 256 few c q))

less_by_one : (few more : ℕ) → suc few ≤ suc more → few ≤ more
less_by_one few more l = omega (arith, l)

none_due : (z : WorldSettings) (n : ℕ) (c : Course) → IsOpen c ≡ false → rounds z 256 n c ≡ c
none_due z zero c e = bytes.rounds_none z 256 c
none_due z (suc n) c e = told.rounds_off z 256 n c e

pub rounds_same : (z : WorldSettings) (few more : ℕ) → few ≤ more → (c : Course) → IsOpen (rounds z 256 few c) ≡ false
    → rounds z 256 more c ≡ rounds z 256 few c
rounds_same z zero more l c e =
    none_due z more c (subst (λ (u : Course). IsOpen u ≡ false) (bytes.rounds_none z 256 c) e) ∙ sym (bytes.rounds_none z 256 c)
rounds_same z (suc few) zero l c e = absurd (omega (arith, l))
rounds_same z (suc few) (suc more) l c e =
    same_rounds z few more c (IsOpen c) refl
    (λ q. rounds_same z few more (less_by_one few more l) (told.one_round z 256 c) q) e
