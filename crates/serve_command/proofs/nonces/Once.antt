-- No two messages that a served server sealed have one nonce in one session.
use Rattle.std.proofs.Common.{◌≡◌, inl, inr, ℕ, zero, suc, ◌+◌, ◌-◌, ◌==◌, ◌≤◌, ◌<◌, Bool, true, false, List, [], ◌∷◌, ◌++◌, length}
use Rattle.std.proofs.Common.{slice_get, Some, None, refl, sym, ap, subst, ◌∙◌, arith, eqb-true}
use Rattle.std.specs.Prelude.{nat_lt}
use Rattle.std.proofs.lemmas.Bool.{ltb-true, ltb-false}
use Rattle.spec_world.specs.Answering.{Seal}
use Rattle.spec_world.specs.Ends.{first_server_end}
use Rattle.spec_world.specs.Settings.{ServerSettings}
use Rattle.law_nonces.specs.event_nonces.Events.{NonceTables}
use Rattle.law_nonces.specs.server_nonces.Numbering.{NonceNumbered, Sealer}
use Rattle.law_nonces.proofs.event_nonces.Seals.{SealsFrom, none_from}
use Rattle.law_nonces.proofs.server_nonces.Numbers.{grow_keeps}
use Rattle.law_nonces.proofs.server_nonces.Runs.{none_sealed, same_place}
use Rattle.serve_turns.specs.connection_turns.Serving.{WasTakenIn}
use Rattle.serve_turns.specs.declared.event_book.turn.Answer.{Answer}
use Rattle.serve_turns.specs.declared.event_book.turn.Turn.{Turn}
use Rattle.serve_turns.specs.declared.link_serving.ended.Ended.{Ended}
use Rattle.serve_turns.specs.declared.shared_book.view.Entry.{Entry}
use Rattle.serve_turns.specs.event_book.History.{Course, On, Placed, RunsBy, Stand, Standing}
use Rattle.serve_turns.specs.shared_book.Histories.{entries_of, entry_if}
use Rattle.serve_command.specs.Whole.{AreApart, AreOnce, EndedConnection, WasServed, number_of}
use Rattle.serve_command.proofs.nonces.Frames.{Sealed, all_sealed}
use Rattle.serve_command.proofs.nonces.Tables.{Mids, TablesAt, drawn_at, drawn_entry, drawn_next, grows, kept, mids_of, renewed_tables}
use Rattle.serve_command.proofs.nonces.Turns.{DrawnHere, GoOn, go_front}

module _ (z : ServerSettings) (h : Course) (log : List (Entry Turn Answer)) (from : Stand) (to : Standing)
    (runs : RunsBy z (On from) log h to) (first : NonceTables from.server from.logons (λ x. 0)) where
  -- what each event found
  abbrev mids : Mids z h log
  mids = mids_of z h log (On from) to runs

  abbrev drawn : ℕ → ℕ → ℕ
  drawn = drawn_at z mids.at log

  grow : (n m : ℕ) (x : ℕ) → drawn n x ≤ drawn (n + m) x
  grow = grows z h log mids from to (λ n. kept z h log mids from to runs first n)

  inside : (es : List (Entry Turn Answer)) (n : ℕ) (e : Entry Turn Answer) → slice_get es n ≡ Some e → n ≤ length es
  inside [] zero e here = omega arith
  inside [] (suc n) e here = absurd (let q : None ≡ Some e = here in cc)
  inside (x ∷ es) zero e here = omega arith
  inside (x ∷ es) (suc n) e here = let less = inside es n e here in omega (arith, less)

  tables : (n : ℕ) (e : Entry Turn Answer) → slice_get log n ≡ Some e → TablesAt (mids.at n) (drawn n)
  tables n e here =
      renewed_tables (h.found n) (mids.at n) (drawn n) (mids.renewed n e here)
      ((kept z h log mids from to runs first n).tables (inside log n e here))

  next_is : (n : ℕ) (e : Entry Turn Answer) → slice_get log n ≡ Some e → drawn (n + 1) ≡ drawn_entry z (mids.at n) (Some e) (drawn n)
  next_is = drawn_next z h log mids from to

  -- ---- the turns of a seat, in order

  lower : (seat place later : ℕ) (xs : List Placed) → place ≤ later → GoOn z h log mids seat later xs → GoOn z h log mids seat place xs
  lower seat place later [] le on = tt
  lower seat place later (x ∷ xs) le on = (let there = on.0 in omega (arith, le, there), on.1, on.2, on.3)

  entries_go : (seat place : ℕ) (es : List (Entry Turn Answer)) → ((i : ℕ) → slice_get log (place + i) ≡ slice_get es i)
      → GoOn z h log mids seat place (entries_of seat place es)
  entries_go seat place [] same = tt
  entries_go seat place (e ∷ es) same =
      let here : slice_get log place ≡ Some e = ap (slice_get log) (let q : place ≡ place + 0 = omega arith in q) ∙ same 0 in
      let rest = entries_go seat (place + 1) es
      (λ i. ap (slice_get log) (let q : (place + 1) + i ≡ place + suc i = omega arith in q) ∙ same (suc i)) in
      elim (e.seat == seat) as (λ b. e.seat == seat ≡ b → GoOn z h log mids seat place (entry_if b place e ++ entries_of seat (place + 1) es)) [
        | true ↦ λ is. (omega arith, here, eqb-true e.seat seat is, rest)
        | false ↦ λ is. lower seat place (place + 1) (entries_of seat (place + 1) es) (omega arith) rest
      ] refl

  own_go : (seat : ℕ) → GoOn z h log mids seat 0 (entries_of seat 0 log)
  own_go seat = entries_go seat 0 log (λ i. ap (slice_get log) (let q : 0 + i ≡ i = omega arith in q))

  -- ---- one connection

  pub record OnceAlone (seat : ℕ) (seals : List Seal) : Type 0 where
    pub ends : ℕ → Sealer
    pub most : ℕ → ℕ
    pub numbered : NonceNumbered seals ends most
    pub origins : SealsFrom (DrawnHere z h log mids seat) seals

  abbrev off : ℕ → Sealer
  off = λ j. record { is_on = false; session = 0; channel = 0; counter = 0 }

  none_alone : (seat : ℕ) (seals : List Seal) → seals ≡ [] → OnceAlone seat seals
  none_alone seat seals none =
      subst (λ (us : List Seal). OnceAlone seat us) (sym none)
      (record { ends = off; most = λ x. 0; numbered = none_sealed off (λ k. refl); origins = none_from (DrawnHere z h log mids seat) })

  begins_sealed : (seat : ℕ) (salt : List ℕ) (place : ℕ)
      → Sealed z h log mids seat grow tables next_is [] (first_server_end salt) place
  begins_sealed seat salt place = record {
    ends = off;
    is = refl;
    numbered = grow_keeps [] off (λ x. 0) (drawn place) (λ x. omega arith) (none_sealed off (λ k. refl));
    from = none_from (DrawnHere z h log mids seat);
    end = λ keys e. absurd (let q : None ≡ Some keys = e in cc);
  }

  taken_alone : (seat k : ℕ) (own : List Placed) (came wrote : List ℕ) (faults faults' : ℕ) (closed : Bool) (end : Ended)
      (seals : List Seal) → own ≡ entries_of seat 0 log → WasTakenIn z h k own came wrote faults faults' closed end seals
      → OnceAlone seat seals
  taken_alone seat k own came wrote faults faults' closed end seals is w =
      let fs = w.frames in
      let all : GoOn z h log mids seat 0 (w.made ∷ (w.turns ++ w.lost ∷ [])) =
      subst (λ (xs : List Placed). GoOn z h log mids seat 0 xs) (sym is ∙ w.own_are) (own_go seat) in
      let turns = go_front z h log mids seat (w.made.0 + 1) w.turns (w.lost ∷ []) all.3 in
      let answered = go_front z h log mids seat (w.made.0 + 1) fs.answered fs.last
      (subst (λ (xs : List Placed). GoOn z h log mids seat (w.made.0 + 1) xs) fs.turns_are turns) in
      let s = all_sealed z h log mids seat grow tables next_is [] k (first_server_end w.salt) 0 fs.frames fs.answered fs.said fs.behind fs.setups
      seals (w.made.0 + 1) fs.answers (begins_sealed seat w.salt (w.made.0 + 1)) answered in
      record { ends = s.ends; most = _; numbered = s.numbered; origins = s.from }

  of_served : (x : EndedConnection) → WasServed z h log x → OnceAlone x.seat x.seals
  of_served x (inl w) =
      taken_alone x.seat (number_of x) (entries_of x.seat 0 log) x.passage.came x.passage.wrote x.passage.faults
      x.passage.faults' x.passage.ended x.end x.seals refl w
  of_served x (inr (inl w)) = none_alone x.seat x.seals w.none_sealed
  of_served x (inr (inr (inl w))) = none_alone x.seat x.seals w.none_sealed
  of_served x (inr (inr (inr w))) = none_alone x.seat x.seals w.none_sealed

  -- ---- two connections: a number of a session is drawn at one place

  before : (a b x n : ℕ) → a < b → n ≤ drawn (a + 1) x → drawn b x < n → ⊥
  before a b x n less below above =
      let up : drawn (a + 1) x ≤ drawn ((a + 1) + (b - (a + 1))) x = grow (a + 1) (b - (a + 1)) x in
      let at : (a + 1) + (b - (a + 1)) ≡ b = omega (arith, less) in
      let there : drawn (a + 1) x ≤ drawn b x = subst (λ (m : ℕ). drawn (a + 1) x ≤ drawn m x) at up in
      absurd (omega (arith, there, below, above))

  one_place : (a b x n : ℕ) → drawn a x < n → n ≤ drawn (a + 1) x → drawn b x < n → n ≤ drawn (b + 1) x → a ≡ b
  one_place a b x n aa ab ba bb = elim (nat_lt a b) as (λ t. nat_lt a b ≡ t → a ≡ b) [
    | true ↦ λ t. absurd (before a b x n (ltb-true a b t) ab ba)
    | false ↦ λ t. elim (nat_lt b a) as (λ u. nat_lt b a ≡ u → a ≡ b) [
      | true ↦ λ u. absurd (before b a x n (ltb-true b a u) bb aa)
      | false ↦ λ u. (let le = ltb-false a b t in let ge = ltb-false b a u in omega (arith, le, ge))
    ] refl
  ] refl

  one_seat : (s t x n : ℕ) → DrawnHere z h log mids s x n → DrawnHere z h log mids t x n → s ≡ t
  one_seat s t x n a b =
      let same : a.place ≡ b.place = one_place a.place b.place x n a.above a.below b.above b.below in
      let entries : Some a.entry ≡ Some b.entry = sym a.here ∙ (ap (slice_get log) same ∙ b.here) in
      let one : a.entry ≡ b.entry = (let q = entries in cc) in
      sym a.mine ∙ (ap (λ (e : Entry Turn Answer). e.seat) one ∙ b.mine)

  pub are_once : (xs : List EndedConnection) → ((i : ℕ) (x : EndedConnection) → slice_get xs i ≡ Some x → WasServed z h log x)
      → AreApart xs → AreOnce xs
  are_once xs each apart = λ i j p q x y a b there here mine yours one.
      (let ox = of_served x (each i x there) in
      let oy = of_served y (each j y here) in
      let fa = ox.origins p a mine in
      let fb = oy.origins q b yours in
      let ba = ox.numbered.bounds p a (mine, fa.1) in
      let bb = oy.numbered.bounds q b (yours, fb.1) in
      let same = same_place a.channel a.counter b.channel b.counter ba.0 ba.1 bb.0 bb.1 one.bytes in
      let drew : DrawnHere z h log mids y.seat a.session a.channel =
      subst (λ (n : ℕ). DrawnHere z h log mids y.seat n a.channel) (sym one.session)
      (subst (λ (n : ℕ). DrawnHere z h log mids y.seat b.session n) (sym same.channels) fb.0) in
      let places : i ≡ j = (apart i j x y there here).1 (one_seat x.seat y.seat a.session a.channel fa.0 drew) in
      let alike : Some y ≡ Some x = sym here ∙ (ap (slice_get xs) (sym places) ∙ there) in
      let is : y ≡ x = (let q = alike in cc) in
      let back : slice_get x.seals q ≡ Some b = subst (λ (v : EndedConnection). slice_get v.seals q ≡ Some b) is yours in (
        places,
        ox.numbered.once p q a b (mine, fa.1) (back, fb.1)
            (record { session = one.session; channel = same.channels; counter = same.counters }),
      ))
