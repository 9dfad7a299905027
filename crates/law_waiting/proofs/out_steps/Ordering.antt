-- No final response goes out before its interim one.
use Rattle.std.proofs.Common.{◌≡◌, ℕ, zero, suc, ◌+◌, ◌≤◌, ◌==◌, Bool, true, false, if◌then◌else◌, List, [], ◌∷◌, ◌++◌, take}
use Rattle.std.proofs.Common.{Option, Some, None, refl, sym, ap, subst, arith}
use Rattle.std.specs.Prelude.{Result, Ok, Err}
use Rattle.std.proofs.lemmas.Bool.Decides.{nat_tests}
use Rattle.law_waiting.specs.wait_steps.WaitStep.{Response}
use Rattle.law_waiting.specs.out_steps.OutStep.{Speaks, OutPiece, Plain, Pending, Last, Awaited, OutState, OutEvent, Frame, Answers, Waits, Goes, Written}
use Rattle.law_waiting.specs.out_steps.OutStep.{OutAnswer, Fault, and_last, behind_pending, checks, kept_final, going_on, goes_by, goes_out, keeps, does_nothing, without_final}
use Rattle.law_waiting.specs.out_steps.OutStep.{last_by, out_step, out_step_by, request_of, waits_by, without_request, writes}
use Rattle.law_waiting.specs.out_steps.OutRuns.{OutTurn, is_in_order, one_less, opened, out_behind}

-- ---- how many interim responses of an id have no final one yet

abbrev less : ℕ → ℕ
less zero = zero
less (suc n) = n

abbrev left : ℕ → ℕ → List OutPiece → ℕ
left id n [] = n
left id n (Plain bytes ∷ ps) = left id n ps
left id n (Pending i bytes ∷ ps) = if i == id then left id (suc n) ps else left id n ps
left id n (Last i bytes ∷ ps) = if i == id then left id (less n) ps else left id n ps

pending_joined : (b : Bool) (id n : ℕ) (ps qs : List OutPiece)
    → ((n : ℕ) → is_in_order id n ps ≡ true → is_in_order id (left id n ps) qs ≡ true → is_in_order id n (ps ++ qs) ≡ true)
    → (if b then is_in_order id (suc n) ps else is_in_order id n ps) ≡ true
    → is_in_order id (if b then left id (suc n) ps else left id n ps) qs ≡ true
    → (if b then is_in_order id (suc n) (ps ++ qs) else is_in_order id n (ps ++ qs)) ≡ true
pending_joined true id n ps qs rest h i = rest (suc n) h i
pending_joined false id n ps qs rest h i = rest n h i

last_joined : (b : Bool) (id n : ℕ) (ps qs : List OutPiece)
    → ((n : ℕ) → is_in_order id n ps ≡ true → is_in_order id (left id n ps) qs ≡ true → is_in_order id n (ps ++ qs) ≡ true)
    → (if b then one_less n (λ m. is_in_order id m ps) else is_in_order id n ps) ≡ true
    → is_in_order id (if b then left id (less n) ps else left id n ps) qs ≡ true
    → (if b then one_less n (λ m. is_in_order id m (ps ++ qs)) else is_in_order id n (ps ++ qs)) ≡ true
last_joined true id zero ps qs rest h i = absurd (cc)
last_joined true id (suc n) ps qs rest h i = rest n h i
last_joined false id n ps qs rest h i = rest n h i

joined : (id : ℕ) (ps qs : List OutPiece) (n : ℕ) → is_in_order id n ps ≡ true → is_in_order id (left id n ps) qs ≡ true
    → is_in_order id n (ps ++ qs) ≡ true
unfolding is_in_order
joined id [] qs n h i = i
joined id (Plain bytes ∷ ps) qs n h i = joined id ps qs n h i
joined id (Pending j bytes ∷ ps) qs n h i = pending_joined (j == id) id n ps qs (joined id ps qs) h i
joined id (Last j bytes ∷ ps) qs n h i = last_joined (j == id) id n ps qs (joined id ps qs) h i

left_pending : (b : Bool) (id n : ℕ) (ps qs : List OutPiece) → ((n : ℕ) → left id n (ps ++ qs) ≡ left id (left id n ps) qs)
    → (if b then left id (suc n) (ps ++ qs) else left id n (ps ++ qs)) ≡ left id (if b then left id (suc n) ps else left id n ps) qs
left_pending true id n ps qs rest = rest (suc n)
left_pending false id n ps qs rest = rest n

left_last : (b : Bool) (id n : ℕ) (ps qs : List OutPiece) → ((n : ℕ) → left id n (ps ++ qs) ≡ left id (left id n ps) qs)
    → (if b then left id (less n) (ps ++ qs) else left id n (ps ++ qs)) ≡ left id (if b then left id (less n) ps else left id n ps) qs
left_last true id n ps qs rest = rest (less n)
left_last false id n ps qs rest = rest n

left_joined : (id : ℕ) (ps qs : List OutPiece) (n : ℕ) → left id n (ps ++ qs) ≡ left id (left id n ps) qs
left_joined id [] qs n = refl
left_joined id (Plain bytes ∷ ps) qs n = left_joined id ps qs n
left_joined id (Pending j bytes ∷ ps) qs n = left_pending (j == id) id n ps qs (left_joined id ps qs)
left_joined id (Last j bytes ∷ ps) qs n = left_last (j == id) id n ps qs (left_joined id ps qs)

-- ---- requests of an id

abbrev bit_if : Bool → ℕ
bit_if b = if b then 1 else 0

abbrev asked_for : {A : Type 0} → ℕ → List (Awaited A) → ℕ
asked_for id [] = 0
asked_for id (x ∷ xs) = bit_if (x.id == id) + asked_for id xs

asked_joined : {A : Type 0} (id : ℕ) (xs ys : List (Awaited A)) → asked_for id (xs ++ ys) ≡ asked_for id xs + asked_for id ys
asked_joined id [] ys = omega arith
asked_joined id (x ∷ xs) ys = let rest : asked_for id (xs ++ ys) ≡ asked_for id xs + asked_for id ys = asked_joined id xs ys in omega arith

-- ---- what each event may write: in order from any number of open interim ones of the id, and as many are left as requests are kept

pub record OutGoes (C A E : Type 0) (id : ℕ) (s : OutState C A E) : Type 0 where
  pub ordered : is_in_order id 0 s.written ≡ true
  pub kept : s.ended ≡ None → asked_for id s.requests ≤ left id 0 s.written

-- ---- a front of what is in order is

front_pending : (b : Bool) (id n k : ℕ) (ps : List OutPiece)
    → ((n k : ℕ) → is_in_order id n ps ≡ true → is_in_order id n (take k ps) ≡ true)
    → (if b then is_in_order id (suc n) ps else is_in_order id n ps) ≡ true
    → (if b then is_in_order id (suc n) (take k ps) else is_in_order id n (take k ps)) ≡ true
front_pending true id n k ps rest h = rest (suc n) k h
front_pending false id n k ps rest h = rest n k h

front_last : (b : Bool) (id n k : ℕ) (ps : List OutPiece)
    → ((n k : ℕ) → is_in_order id n ps ≡ true → is_in_order id n (take k ps) ≡ true)
    → (if b then one_less n (λ m. is_in_order id m ps) else is_in_order id n ps) ≡ true
    → (if b then one_less n (λ m. is_in_order id m (take k ps)) else is_in_order id n (take k ps)) ≡ true
front_last true id zero k ps rest h = absurd (cc)
front_last true id (suc n) k ps rest h = rest n k h
front_last false id n k ps rest h = rest n k h

front : (id : ℕ) (ps : List OutPiece) (n k : ℕ) → is_in_order id n ps ≡ true → is_in_order id n (take k ps) ≡ true
unfolding is_in_order
front id [] n zero h = refl
front id [] n (suc k) h = refl
front id (p ∷ ps) n zero h = refl
front id (Plain bytes ∷ ps) n (suc k) h = front id ps n k h
front id (Pending j bytes ∷ ps) n (suc k) h = front_pending (j == id) id n k ps (front id ps) h
front id (Last j bytes ∷ ps) n (suc k) h = front_last (j == id) id n k ps (front id ps) h

-- ---- what goes out

nothing_left : {X : Type 0} {A : Type 0} (x : X) → Some x ≡ None → A
nothing_left x h = absurd (cc)

module _ {C A E : Type 0} (id : ℕ) (s : OutState C A E) (i : OutGoes C A E id s) where
  ended_goes : (c : C) (ps : List OutPiece) (why : E) → is_in_order id (left id 0 s.written) ps ≡ true
      → OutGoes C A E id (record s { conn = c; written = s.written ++ ps; ended = Some why })
  ended_goes c ps why h =
      record { ordered = joined id s.written ps 0 i.ordered h; kept = λ e. nothing_left why e }

  sent_goes : (c : C) (ps : List OutPiece) (requests : List (Awaited A)) (finals : List Response) (f : Option (Fault E))
      → is_in_order id (left id 0 s.written) ps ≡ true → asked_for id requests ≤ left id (left id 0 s.written) ps
      → OutGoes C A E id (goes_out s c ps requests finals f).state
  sent_goes c ps requests finals None h l =
      record {
        ordered = joined id s.written ps 0 i.ordered h;
        kept = λ e. subst (λ n. asked_for id requests ≤ n) (sym (left_joined id s.written ps 0)) l;
      }
  sent_goes c ps requests finals (Some f) h l = ended_goes c (take f.pieces ps) f.why (front id ps (left id 0 s.written) f.pieces h)

-- ---- the pieces of each event

plain_ordered : (id n : ℕ) (bytes : List ℕ) → is_in_order id n (Plain bytes ∷ []) ≡ true
unfolding is_in_order
plain_ordered id n bytes = refl

pending_by : (b : Bool) → (if b then true else true) ≡ true
pending_by true = refl
pending_by false = refl

pending_ordered : (id n j : ℕ) (bytes : List ℕ) → is_in_order id n (Pending j bytes ∷ []) ≡ true
unfolding is_in_order
pending_ordered id n j bytes = pending_by (j == id)

both_by : (b : Bool) (n : ℕ) → (if b then (if b then one_less (suc n) (λ m. true) else true) else (if b then one_less n (λ m. true) else true)) ≡ true
both_by true n = refl
both_by false n = refl

both_ordered : (id n j : ℕ) (p q : List ℕ) → is_in_order id n (Pending j p ∷ Last j q ∷ []) ≡ true
unfolding is_in_order
both_ordered id n j p q = both_by (j == id) n

last_by_left : (b : Bool) (n : ℕ) → (b ≡ true → 1 ≤ n) → (if b then one_less n (λ m. true) else true) ≡ true
last_by_left true zero h = absurd (let l : 1 ≤ 0 = h refl in omega arith)
last_by_left true (suc n) h = refl
last_by_left false n h = refl

last_ordered : (id n j : ℕ) (bytes : List ℕ) → ((j == id) ≡ true → 1 ≤ n) → is_in_order id n (Last j bytes ∷ []) ≡ true
unfolding is_in_order
last_ordered id n j bytes h = last_by_left (j == id) n h

-- ---- a request that is found is there, and leaves

found_by : {A : Type 0} (b : Bool) (id : ℕ) (x : Awaited A) (xs : List (Awaited A)) (a : A)
    → (request_of id xs ≡ Some a → 1 ≤ asked_for id xs) → (if b then Some x.asked else request_of id xs) ≡ Some a
    → 1 ≤ bit_if b + asked_for id xs
found_by true id x xs a rest h = omega arith
found_by false id x xs a rest h = let l : 1 ≤ asked_for id xs = rest h in omega arith

found : {A : Type 0} (id : ℕ) (xs : List (Awaited A)) (a : A) → request_of id xs ≡ Some a → 1 ≤ asked_for id xs
found id [] a h = absurd (cc)
found id (x ∷ xs) a h = found_by (x.id == id) id x xs a (found id xs a) h

without_low_by : {A : Type 0} (b : Bool) (id : ℕ) (x : Awaited A) (xs ys : List (Awaited A)) → asked_for id ys ≤ asked_for id xs
    → asked_for id (if b then xs else x ∷ ys) ≤ asked_for id (x ∷ xs)
without_low_by true id x xs ys h = omega arith
without_low_by false id x xs ys h = omega arith

without_low : {A : Type 0} (id j : ℕ) (xs : List (Awaited A)) → asked_for id (without_request j xs) ≤ asked_for id xs
without_low id j [] = omega arith
without_low id j (x ∷ xs) = without_low_by (x.id == j) id x xs (without_request j xs) (without_low id j xs)

without_one_by : {A : Type 0} (b : Bool) (j : ℕ) (x : Awaited A) (xs : List (Awaited A)) (a : A) → (x.id == j) ≡ b
    → (request_of j xs ≡ Some a → asked_for j (without_request j xs) + 1 ≡ asked_for j xs)
    → (if b then Some x.asked else request_of j xs) ≡ Some a
    → asked_for j (if b then xs else x ∷ without_request j xs) + 1 ≡ asked_for j (x ∷ xs)
without_one_by true j x xs a e rest h = let one : bit_if (x.id == j) ≡ 1 = ap bit_if e in omega arith
without_one_by false j x xs a e rest h =
    let i : asked_for j (without_request j xs) + 1 ≡ asked_for j xs = rest h in omega arith

without_one : {A : Type 0} (j : ℕ) (xs : List (Awaited A)) (a : A) → request_of j xs ≡ Some a
    → asked_for j (without_request j xs) + 1 ≡ asked_for j xs
without_one j [] a h = absurd (cc)
without_one j (x ∷ xs) a h = without_one_by (x.id == j) j x xs a refl (without_one j xs a) h

-- ---- what is left behind them

pending_left : (b : Bool) (n a : ℕ) → a ≤ n → a + (bit_if b + 0) ≤ (if b then suc n else n)
pending_left true n a h = omega arith
pending_left false n a h = omega arith

both_left : (b : Bool) (n a : ℕ) → a ≤ n → a ≤ (if b then (if b then less (suc n) else suc n) else (if b then less n else n))
both_left true n a h = h
both_left false n a h = h

less_low : (n a : ℕ) → a + 1 ≤ n → a ≤ less n
less_low zero a h = absurd (omega arith)
less_low (suc n) a h = omega arith

same_number : (i j : ℕ) → (i == j) ≡ true → i ≡ j
same_number i j h = grind (arith, nat_tests)

last_left : {A : Type 0} (b : Bool) (id j n : ℕ) (xs : List (Awaited A)) (a : A) → (j == id) ≡ b → request_of j xs ≡ Some a
    → asked_for id xs ≤ n → asked_for id (without_request j xs) ≤ (if b then less n else n)
last_left true id j n xs a e h l =
    let same : j ≡ id = same_number j id e in
    let one : asked_for id (without_request j xs) + 1 ≡ asked_for id xs = subst (λ k. asked_for k (without_request j xs) + 1 ≡ asked_for k xs) same
    (without_one j xs a h) in less_low n (asked_for id (without_request j xs)) (omega arith)
last_left false id j n xs a e h l =
    let low : asked_for id (without_request j xs) ≤ asked_for id xs = without_low id j xs in omega arith

has_one : {A : Type 0} (id j n : ℕ) (xs : List (Awaited A)) (a : A) → request_of j xs ≡ Some a → asked_for id xs ≤ n → (j == id) ≡ true → 1 ≤ n
has_one id j n xs a h l e =
    let same : j ≡ id = same_number j id e in
    let there : 1 ≤ asked_for id xs = subst (λ k. 1 ≤ asked_for k xs) same (found j xs a h) in omega arith

-- ---- each event

module _ {C A R E : Type 0} (z : Speaks C A R E) (id : ℕ) (s : OutState C A E) (i : OutGoes C A E id s) (none : s.ended ≡ None) where
  abbrev n : ℕ
  n = left id 0 s.written

  few : asked_for id s.requests ≤ n
  few = i.kept none

  stopped_goes : (why : E) → OutGoes C A E id (record s { ended = Some why })
  stopped_goes why = record { ordered = i.ordered; kept = λ e. nothing_left why e }

  checked_goes : (r : Result (C × A) E) → OutGoes C A E id (checks s r).state
  checked_goes (Err why) = stopped_goes why
  checked_goes (Ok x) = record { ordered = i.ordered; kept = i.kept }

  written_goes : (f : Option (Fault E)) (r : Result (C × List ℕ) E) → OutGoes C A E id (writes s f r).state
  written_goes f (Err why) = stopped_goes why
  written_goes f (Ok x) = sent_goes id s i x.0 (Plain x.1 ∷ []) s.requests s.finals f (plain_ordered id n x.1) few

  and_last_goes : (f : Option (Fault E)) (l : Response) (interim : List ℕ) (r : Result (C × List ℕ) E)
      → OutGoes C A E id (and_last s f l interim r).state
  and_last_goes f l interim (Err why) = stopped_goes why
  and_last_goes f l interim (Ok x) =
      sent_goes id s i x.0 (Pending l.async_id interim ∷ Last l.async_id x.1 ∷ []) s.requests (without_final l.async_id s.finals) f
      (both_ordered id n l.async_id interim x.1) (both_left (l.async_id == id) n (asked_for id s.requests) few)

  pending_goes : (f : Option (Fault E)) (asked : A) (l : Response) (c : C) (interim : List ℕ) (o : Option Response)
      → OutGoes C A E id (behind_pending z s f asked l c interim o).state
  pending_goes f asked l c interim (Some last) = and_last_goes f l interim (z.said_later c asked last)
  pending_goes f asked l c interim None =
      let more : List (Awaited A) = s.requests ++ record { id = l.async_id; asked = asked } ∷ [] in
      let e : asked_for id more ≡ asked_for id s.requests + (bit_if (l.async_id == id) + 0) = asked_joined id s.requests
      (record { id = l.async_id; asked = asked } ∷ []) in
      sent_goes id s i c (Pending l.async_id interim ∷ []) more s.finals f (pending_ordered id n l.async_id interim)
      (subst (λ k. k ≤ left id n (Pending l.async_id interim ∷ [])) (sym e) (pending_left (l.async_id == id) n (asked_for id s.requests) few))

  waits_goes : (f : Option (Fault E)) (asked : A) (l : Response) (r : Result (C × List ℕ) E) → OutGoes C A E id (waits_by z s f asked l r).state
  waits_goes f asked l (Err why) = stopped_goes why
  waits_goes f asked l (Ok x) = pending_goes f asked l x.0 x.1 (kept_final l.async_id s.finals)

  last_goes : (f : Option (Fault E)) (l : Response) (a : A) → request_of l.async_id s.requests ≡ Some a → (r : Result (C × List ℕ) E)
      → OutGoes C A E id (last_by s f l r).state
  last_goes f l a h (Err why) = stopped_goes why
  last_goes f l a h (Ok x) =
      sent_goes id s i x.0 (Last l.async_id x.1 ∷ []) (without_request l.async_id s.requests) s.finals f
      (last_ordered id n l.async_id x.1 (has_one id l.async_id n s.requests a h few))
      (last_left (l.async_id == id) id l.async_id n s.requests a refl h few)

  kept_goes : (f : Option (Fault E)) (l : Response) → OutGoes C A E id (keeps s f l).state
  kept_goes None l = record { ordered = i.ordered; kept = i.kept }
  kept_goes (Some f) l = stopped_goes f.why

  test_goes : (b : Bool) (x : OutAnswer C A E) → OutGoes C A E id x.state → OutGoes C A E id (if b then x else does_nothing s Written).state
  test_goes true x h = h
  test_goes false x h = i

  final_goes : (f : Option (Fault E)) (l : Response) (o : Option A) → request_of l.async_id s.requests ≡ o
      → OutGoes C A E id (goes_by z s f l o).state
  final_goes f l None h = kept_goes f l
  final_goes f l (Some a) h =
      test_goes (z.may_say s.conn a l) (last_by s f l (z.said_later s.conn a l)) (last_goes f l a h (z.said_later s.conn a l))

  event_goes : (e : OutEvent A R) (f : Option (Fault E)) → OutGoes C A E id (going_on z s e f).state
  event_goes (Frame bytes now) f = checked_goes (z.checked s.conn bytes now)
  event_goes (Answers asked replies) f =
      test_goes (z.may_answer s.conn asked replies) (writes s f (z.answered s.conn asked replies))
      (written_goes f (z.answered s.conn asked replies))
  event_goes (Waits asked l) f =
      test_goes (z.may_say s.conn asked l) (waits_by z s f asked l (z.said_later s.conn asked l))
      (waits_goes f asked l (z.said_later s.conn asked l))
  event_goes (Goes l) f = final_goes f l (request_of l.async_id s.requests) refl

-- ---- all events

step_goes : {C A R E : Type 0} (z : Speaks C A R E) (id : ℕ) (s : OutState C A E) (e : OutEvent A R) (f : Option (Fault E)) (o : Option E)
    → s.ended ≡ o → OutGoes C A E id s → OutGoes C A E id (out_step_by z s e f o).state
step_goes z id s e f (Some why) h i = i
step_goes z id s e f None h i = event_goes z id s i h e f

run_goes : {C A R E : Type 0} (z : Speaks C A R E) (id : ℕ) (s : OutState C A E) (ts : List (OutTurn A R E)) → OutGoes C A E id s
    → is_in_order id 0 (out_behind z s ts).written ≡ true
unfolding out_behind
run_goes z id s [] i = i.ordered
run_goes z id s (t ∷ ts) i = run_goes z id (out_step z s t.event t.fault).state ts (step_goes z id s t.event t.fault s.ended refl i)

opened_goes : {C A E : Type 0} (id : ℕ) (c : C) → OutGoes C A E id (opened c)
unfolding is_in_order
opened_goes id c = record { ordered = refl; kept = λ e. omega arith }

pub in_order : {C A R E : Type 0} (z : Speaks C A R E) (c : C) (ts : List (OutTurn A R E)) (id : ℕ)
    → is_in_order id 0 (out_behind z (opened c) ts).written ≡ true
in_order z c ts id = run_goes z id (opened c) ts (opened_goes id c)
