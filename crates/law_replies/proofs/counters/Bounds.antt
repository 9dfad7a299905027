-- Each event of a run raises the counters by what it may.
use Rattle.std.proofs.lemmas.List.{append-nil, append_assoc}
use Rattle.std.proofs.Common.{◌≡◌, ℕ, ◌+◌, ◌≤◌, ◌==◌, eqb-true, List, [], ◌∷◌, ◌++◌, refl, sym, subst, arith}
use Rattle.spec_exchange.specs.Operations.{Op}
use Rattle.spec_exchange.specs.Client.{Client, may_take, take_op}
use Rattle.spec_exchange.specs.Network.{World, Event, Submit, Open, Push, Serve, Take, Cut, Drop, Restart, Crash, Wait, Finish, Settings}
use Rattle.spec_exchange.specs.Network.{happens, run, start}
use Rattle.law_sessions.proofs.messages.Reached.{run_more}
use Rattle.law_server.proofs.tables.Logic.{either, front_of}
use Rattle.law_server.proofs.tables.Run.{fitting}
use Rattle.law_records.specs.recovery.Recovers.{RecordRecovers}
use Rattle.law_records.proofs.recovery.Worlds.{recovers}
use Rattle.law_answers.proofs.completeness.Columns.{Taken, taken_on}
use Rattle.law_ties.specs.wire_facts.Steps.{restarts_in, submits_in}
use Rattle.law_replies.specs.counters.Bounds.{IsCounterBounded, RunsAreBounded}
use Rattle.law_replies.proofs.counters.Epoch.{begins, epoch_on, first_upto}

-- ---- what was taken

-- how many operations an event takes at most
abbrev pub takes : Event → ℕ
takes e = submits_in (e ∷ [])

one_more : (a n : ℕ) → a ≤ n → a + 1 ≤ n + 1
one_more a n l = omega (arith, l)

no_more : (a b n m : ℕ) → b ≡ a → a ≤ n → b ≤ n + m
no_more a b n m e l = omega (arith, e, l)

taken_by : (n : ℕ) (w : World) (g : ℕ) (op : Op) → w.client.taken ≤ n → (happens w (Submit g op)).client.taken ≤ n + 1
taken_by n w g op l =
    either (λ (c : Client). c.taken ≤ n + 1) (may_take w.client g op) (take_op w.client g op) w.client
    (λ m. subst (λ t. t ≤ n + 1) (sym (eqb-true g (w.client.taken + 1) (front_of (g == w.client.taken + 1) _ m)))
    (one_more w.client.taken n l))
    (λ _. no_more w.client.taken w.client.taken n 1 refl l)

taken_after : (n : ℕ) (w v : Client) → Taken w v → w.taken ≤ n → v.taken ≤ n + 0
taken_after n w v t l = no_more w.taken v.taken n 0 t.taken l

taken_upto : (n : ℕ) (w : World) (e : Event) → w.client.taken ≤ n → (happens w e).client.taken ≤ n + takes e
unfolding submits_in
taken_upto n w (Submit g op) l = taken_by n w g op l
taken_upto n w (Open k) l = taken_after n w.client (happens w (Open k)).client (taken_on w (Open k) refl) l
taken_upto n w (Push k slotless pick) l =
    taken_after n w.client (happens w (Push k slotless pick)).client (taken_on w (Push k slotless pick) refl) l
taken_upto n w (Serve k) l = taken_after n w.client (happens w (Serve k)).client (taken_on w (Serve k) refl) l
taken_upto n w (Take k) l = taken_after n w.client (happens w (Take k)).client (taken_on w (Take k) refl) l
taken_upto n w (Cut k) l = taken_after n w.client (happens w (Cut k)).client (taken_on w (Cut k) refl) l
taken_upto n w (Drop k) l = taken_after n w.client (happens w (Drop k)).client (taken_on w (Drop k) refl) l
taken_upto n w Restart l = no_more w.client.taken w.client.taken n 0 refl l
taken_upto n w (Crash k kept) l = taken_after n w.client (happens w (Crash k kept)).client (taken_on w (Crash k kept) refl) l
taken_upto n w (Wait m) l = no_more w.client.taken w.client.taken n 0 refl l
taken_upto n w (Finish refusal) l = taken_after n w.client (happens w (Finish refusal)).client (taken_on w (Finish refusal) refl) l

-- ---- lists of events, from their end

pub at_end : (P : List Event → Type 0) → ((es : List Event) (e : Event) → P es → P (es ++ e ∷ [])) → (before es : List Event) → P before
    → P (before ++ es)
at_end P step before [] p = subst P (sym (append-nil before)) p
at_end P step before (e ∷ es) p =
    subst P (append_assoc before (e ∷ []) es) (at_end P step (before ++ e ∷ []) es (step before e p))

none_first : (n : ℕ) → n ≡ 0 + n
none_first n = omega arith

pub restarts_one : (e : Event) (es : List Event) → restarts_in (e ∷ es) ≡ begins e + restarts_in es
unfolding restarts_in
restarts_one (Submit g op) es = none_first (restarts_in es)
restarts_one (Open k) es = none_first (restarts_in es)
restarts_one (Push k slotless pick) es = none_first (restarts_in es)
restarts_one (Serve k) es = none_first (restarts_in es)
restarts_one (Take k) es = none_first (restarts_in es)
restarts_one (Cut k) es = none_first (restarts_in es)
restarts_one (Drop k) es = none_first (restarts_in es)
restarts_one Restart es = refl
restarts_one (Crash k kept) es = refl
restarts_one (Wait n) es = none_first (restarts_in es)
restarts_one (Finish refusal) es = none_first (restarts_in es)

regroup : (a b c d f g : ℕ) → a ≡ b + c → c ≡ f + g → d ≡ b + f → a ≡ d + g
regroup a b c d f g p q r = omega (arith, p, q, r)

pub restarts_more : (es : List Event) (e : Event) → restarts_in (es ++ e ∷ []) ≡ restarts_in es + begins e
unfolding restarts_in
restarts_more [] e = none_first (begins e)
restarts_more (x ∷ es) e =
    regroup (restarts_in (x ∷ (es ++ e ∷ []))) (begins x) (restarts_in (es ++ e ∷ [])) (restarts_in (x ∷ es)) (restarts_in es) (begins e)
    (restarts_one x (es ++ e ∷ [])) (restarts_more es e) (restarts_one x es)

pub submits_one : (e : Event) (es : List Event) → submits_in (e ∷ es) ≡ takes e + submits_in es
unfolding submits_in
submits_one (Submit g op) es = refl
submits_one (Open k) es = none_first (submits_in es)
submits_one (Push k slotless pick) es = none_first (submits_in es)
submits_one (Serve k) es = none_first (submits_in es)
submits_one (Take k) es = none_first (submits_in es)
submits_one (Cut k) es = none_first (submits_in es)
submits_one (Drop k) es = none_first (submits_in es)
submits_one Restart es = none_first (submits_in es)
submits_one (Crash k kept) es = none_first (submits_in es)
submits_one (Wait n) es = none_first (submits_in es)
submits_one (Finish refusal) es = none_first (submits_in es)

pub submits_more : (es : List Event) (e : Event) → submits_in (es ++ e ∷ []) ≡ submits_in es + takes e
unfolding submits_in
submits_more [] e = none_first (takes e)
submits_more (x ∷ es) e =
    regroup (submits_in (x ∷ (es ++ e ∷ []))) (takes x) (submits_in (es ++ e ∷ [])) (submits_in (x ∷ es)) (submits_in es) (takes e)
    (submits_one x (es ++ e ∷ [])) (submits_more es e) (submits_one x es)

-- ---- every run

epoch_more : (a b n m r : ℕ) → b ≤ a + m → a ≤ 1 + n → r ≡ n + m → b ≤ 1 + r
epoch_more a b n m r l h e = omega (arith, l, h, e)

stored : (z : Settings) (es : List Event) → RecordRecovers (run es (start z)).records (run es (start z)).server
stored z es = recovers z (fitting z) es

stored_behind : (z : Settings) (es : List Event) (e : Event)
    → RecordRecovers (happens (run es (start z)) e).records (happens (run es (start z)) e).server
stored_behind z es e = subst (λ (w : World). RecordRecovers w.records w.server) (run_more es e (start z)) (stored z (es ++ e ∷ []))

bounded_on : (z : Settings) (es : List Event) (e : Event) → IsCounterBounded es (run es (start z))
    → IsCounterBounded (es ++ e ∷ []) (happens (run es (start z)) e)
bounded_on z es e b =
    let w = run es (start z) in
    record {
      taken = subst (λ n. (happens w e).client.taken ≤ n) (sym (submits_more es e)) (taken_upto (submits_in es) w e b.taken);
      epoch = epoch_more w.server.epoch (happens w e).server.epoch (restarts_in es) (begins e) (restarts_in (es ++ e ∷ []))
          (epoch_on w e (stored z es) (λ k. stored_behind z es (Serve k))) b.epoch (restarts_more es e);
    }

bounded_more : (z : Settings) (es : List Event) (e : Event) → IsCounterBounded es (run es (start z))
    → IsCounterBounded (es ++ e ∷ []) (run (es ++ e ∷ []) (start z))
bounded_more z es e b = subst (λ w. IsCounterBounded (es ++ e ∷ []) w) (sym (run_more es e (start z))) (bounded_on z es e b)

none_low : (n : ℕ) → 0 ≤ n
none_low n = omega arith

first_bounded : (z : Settings) → IsCounterBounded [] (start z)
first_bounded z = record { taken = none_low (submits_in []); epoch = first_upto z }

at_start : (z : Settings) → IsCounterBounded [] (run [] (start z))
unfolding run
at_start z = first_bounded z

pub runs_are_bounded : RunsAreBounded
runs_are_bounded z es = at_end (λ xs. IsCounterBounded xs (run xs (start z))) (bounded_more z) [] es (at_start z)
