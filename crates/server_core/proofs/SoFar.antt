-- How far the bodies of a journal were folded.
use Rattle.std.proofs.Common.{◌≡◌, ℕ, Bool, false, zero, suc, ◌+◌, ◌-◌, ◌<◌, List, [], ◌∷◌, ◌++◌, length, take, drop, slice_get, Option}
use Rattle.std.proofs.Common.{Some, None}
use Rattle.std.proofs.Common.{refl, sym, ap, subst, ◌∙◌, append_assoc, arith}
use Rattle.std.proofs.lemmas.List.{append-nil, append_cancel_right, take-append-drop}
use Rattle.std.specs.Prelude.{Result, Ok, Err, IfErr, MatchResult}
use Rattle.spec_exchange.specs.Fold.{nothing_yet, fold_from}
use Rattle.spec_exchange.specs.State as model
use Rattle.law_snapshots.specs.snapshots.Pieces.{SnapshotPiece, with_pieces}
use Rattle.spec_exchange.specs.State.{Server}
use Rattle.spec_journal.specs.declared.form.Form.{Form}
use Rattle.spec_journal.specs.Forms.{form_front, sum_size}
use Rattle.spec_wire.specs.journal.Moments.{Quiet}
use Rattle.journal.specs.disk_journal.Gather.{Gathered}
use Rattle.journal.specs.disk_journal.Journal.{JournalState, JournalSettled, HandsOut, JournalNextAnswers}
use Rattle.journal.specs.declared.disk_journal.journal.JournalError.{JournalError}
use Rattle.journal.specs.declared.disk_journal.journal.JournalError.TheVariants.{Memory, DiskFault, NotAJournal, Full, Stopped}
use Rattle.server_core.proofs.Calls.{quiet_begun, quiet_behind}
use Rattle.base_outside.specs.streams.Faults.{Rose}
use Rattle.law_server.specs.tables.Fits.{Fits, all_sound}
use Rattle.server_core.specs.durable_state.Durable.{DurableShown}
use Rattle.server_core.specs.declared.durable_state.durable.Durable.{Durable}
use Rattle.server_core.specs.Over.{found_over}
use Rattle.server_core.specs.Reading.{AppliedBy, IsReadOver, HandedOut, FoldRefused, BodyCause, BodyRefused}
use Rattle.server_core.specs.Reading.{ReadRefused}
use Rattle.server_core.proofs.Nothing.{nothing_fits}
use Rattle.server_core.proofs.ReadOver.{ReadTo, never_added, read_on}

-- these bodies were read of a journal, which was old and is now, and folded from a state that had begun to d; of some or none records
pub record FoldedSoFar {D : Type 0} (told : Type 0) (seen : D → List ℕ) (may_leave : D → List ℕ → Type 0) (moment : D → ℕ)
    (left_since : D → ℕ → List ℕ → Type 0) (faults : D → ℕ) (old : JournalState D) (begun : Durable) (now : JournalState D)
    (d : Durable) (behind : Bool) : Type 0
  where
    pub bodies : List (List ℕ)
    pub gathered : Gathered told seen may_leave moment left_since faults old now bodies
    pub read : DurableShown begun nothing_yet → ReadTo d bodies behind

-- ---- one body

none_read : (d : Durable) → DurableShown d nothing_yet → ReadTo d [] false
unfolding fold_from all_sound with_pieces
none_read d h = (
  [],
  [],
  record {
    spelled = record { front = []; back = []; bodies_are = refl; pieces = refl; records = refl };
    sound = refl;
    shown = h;
    fits = nothing_fits;
  },
  refl,
)

-- ---- the body that stands behind others

at_drop : (all : List (List ℕ)) (k : ℕ) (body : List ℕ) (more : List (List ℕ)) → drop k all ≡ body ∷ more → slice_get all k ≡ Some body
at_drop [] zero body more e = cc
at_drop [] (suc k) body more e = cc
at_drop (b ∷ all) zero body more e = cc
at_drop (b ∷ all) (suc k) body more e = at_drop all k body more e

refused_at : (form : Form) (d : Durable) (bodies all : List (List ℕ)) (body : List ℕ) (behind : Bool) (at k n : ℕ)
    → at ≡ length (form_front form (take k all)) → bodies ++ drop k all ≡ all → drop k all ≡ body ∷ drop n all → ReadTo d bodies behind
    → ((u : Server) → Fits u → DurableShown d u → BodyRefused behind u body (NotAJournal at)) → FoldRefused form all (NotAJournal at)
refused_at form d bodies all body behind at k n is split next r refused =
    let same : bodies ≡ take k all = append_cancel_right bodies (take k all) (drop k all) (split ∙ sym (take-append-drop k all)) in
    let was = r.2 in (
      k,
      body,
      r.0,
      r.1,
      at_drop all k body (drop n all) next,
      is,
      record {
        front = was.spelled.front;
        back = was.spelled.back;
        bodies_are = sym same ∙ was.spelled.bodies_are;
        pieces = was.spelled.pieces;
        records = was.spelled.records;
      },
      was.sound,
      never_added d r.0 bodies r.1 body behind at was r.3 (refused (found_over r.0 r.1) was.fits was.shown),
    )

none_not : (n : ℕ) → None ≡ Some n → ⊥
none_not n e = cc

some_of : (r : Result (Option (List ℕ)) JournalError) (o p : Option (List ℕ)) → r ≡ Ok o → o ≡ p → r ≡ Ok p
some_of r o p is same = subst (λ (x : Option (List ℕ)). r ≡ Ok x) same is

-- ---- the whole journal

module _ {D : Type 0} (told : Type 0) (seen : D → List ℕ) (may_leave : D → List ℕ → Type 0) (moment : D → ℕ)
    (left_since : D → ℕ → List ℕ → Type 0) (faults : D → ℕ) where
  abbrev SoFar : JournalState D → Durable → JournalState D → Durable → Bool → Type 0
  SoFar old begun now d behind = FoldedSoFar told seen may_leave moment left_since faults old begun now d behind

  -- what the next call hands out
  abbrev Hands : JournalState D → Result (Option (List ℕ)) JournalError → JournalState D → Type 0
  Hands now r new = told → (bodies : List (List ℕ)) → JournalSettled seen may_leave now bodies → HandsOut seen may_leave now bodies r new

  pub so_far_begun : ((disk : D) (c : List ℕ) → left_since disk (moment disk) c → may_leave disk c)
      → (old : JournalState D) (begun : Durable)
      → SoFar old begun old begun false
  so_far_begun only_now old begun = record {
    bodies = [];
    gathered = record {
      same = λ t bs s. s;
      front = λ t bs s. refl;
      quiet = quiet_begun told seen may_leave moment left_since only_now old.disk;
      advances = (refl, refl);
    };
    read = λ h. none_read begun h;
  }

  advanced : (old now new : JournalState D) (t n : ℕ) → now ≡ record old { disk = now.disk; taken = now.taken; next = now.next }
      → new ≡ record now { disk = new.disk; taken = t; next = n }
      → new ≡ record old { disk = new.disk; taken = new.taken; next = new.next }
  advanced old now new t n a b =
      ap (λ (j : JournalState D). record j { disk = new.disk; taken = new.taken; next = new.next }) b
      ∙ ap (λ (j : JournalState D). record j { disk = new.disk; taken = new.taken; next = new.next }) a

  pub nearer : (now new : JournalState D) (body : List ℕ) (o : Option (List ℕ)) (r : Result (Option (List ℕ)) JournalError)
      → r ≡ Ok o → o ≡ Some body → JournalNextAnswers faults now r new → new.end - new.next < now.end - now.next
  nearer now new body o r is some k =
      let one : JournalNextAnswers faults now (Ok (Some body)) new =
      subst (λ (x : Result (Option (List ℕ)) JournalError). JournalNextAnswers faults now x new) (some_of r o (Some body) is some) k in
      let end : new.end ≡ now.end = ap (λ (j : JournalState D). j.end) one.1 in
      let next : new.next ≡ now.next + 5 + sum_size now.form + length body = ap (λ (j : JournalState D). j.next) one.1 in
      let inside : new.next < new.end = one.2 in
      omega (arith, end, next, inside)

  pub so_far_more : (old now new : JournalState D) (begun d e : Durable) (body : List ℕ) (behind : Bool) (o : Option (List ℕ))
      (r : Result (Option (List ℕ)) JournalError) (q : Result Bool JournalError) (v : Bool) → SoFar old begun now d behind
      → r ≡ Ok o → o ≡ Some body → Hands now r new
      → Quiet told seen may_leave moment left_since now.disk new.disk → JournalNextAnswers faults now r new
      → q ≡ Ok v
      → ((u : Server) → Fits u → DurableShown d u → MatchResult q (λ b. AppliedBy e u body behind b) (λ x. BodyRefused behind u body x))
      → SoFar old begun new e v
  so_far_more old now new begun d e body behind o r q v was is some hands quiet answers done apply =
      let one = some_of r o (Some body) is some in
      let out : Hands now (Ok (Some body)) new = subst (λ (x : Result (Option (List ℕ)) JournalError). Hands now x new) one hands in
      let k : JournalNextAnswers faults now (Ok (Some body)) new =
      subst (λ (x : Result (Option (List ℕ)) JournalError). JournalNextAnswers faults now x new) one answers in
      record {
        bodies = was.bodies ++ body ∷ [];
        gathered = record {
          same = λ t bs s. (out t bs (was.gathered.same t bs s)).1;
          front = λ t bs s.
              let handed = out t bs (was.gathered.same t bs s) in
              append_assoc was.bodies (body ∷ []) (drop new.taken bs)
              ∙ (ap (λ (v : List (List ℕ)). was.bodies ++ v) (sym handed.0) ∙ was.gathered.front t bs s);
          quiet = quiet_behind told seen may_leave moment left_since old.disk now.disk new.disk was.gathered.quiet quiet;
          advances = (
            advanced old now new (now.taken + 1) (now.next + 5 + sum_size now.form + length body) was.gathered.advances.0 k.1,
            k.3 ∙ was.gathered.advances.1,
          );
        };
        read = λ h. read_on d e was.bodies body behind v (was.read h) (λ u fits shown.
            subst (λ (x : Result Bool JournalError). MatchResult x (λ b. AppliedBy e u body behind b)
            (λ y. BodyRefused behind u body y)) done
            (apply u fits shown));
      }

  -- ---- all were read

  none_left : (old now new : JournalState D) (begun d : Durable) (behind : Bool) (o : Option (List ℕ))
      (r : Result (Option (List ℕ)) JournalError) (was : SoFar old begun now d behind)
      → r ≡ Ok o → o ≡ None → old.taken ≡ 0 → Hands now r new → HandedOut told seen may_leave old was.bodies
  none_left old now new begun d behind o r was is end none hands = λ t all settled.
      let out : Hands now (Ok None) new =
      subst (λ (x : Result (Option (List ℕ)) JournalError). Hands now x new) (some_of r o None is end) hands in
      let handed = out t all (was.gathered.same t all settled) in
      sym (append-nil was.bodies)
      ∙ (ap (λ (v : List (List ℕ)). was.bodies ++ v) (sym handed.0)
      ∙ (was.gathered.front t all settled ∙ ap (λ (n : ℕ). drop n all) none))

  pub all_read : (old now new : JournalState D) (begun d : Durable) (behind : Bool) (o : Option (List ℕ))
      (r : Result (Option (List ℕ)) JournalError) → SoFar old begun now d behind
      → r ≡ Ok o → o ≡ None → old.taken ≡ 0 → Hands now r new → (s : Server) → s ≡ nothing_yet → DurableShown begun s
      → (bodies : List (List ℕ)) × (base : List SnapshotPiece) × (records : List model.Record) × IsReadOver d base bodies records
      × HandedOut told seen may_leave old bodies
  all_read old now new begun d behind o r was is end none hands s nothing shown =
      let w = was.read (subst (λ (u : Server). DurableShown begun u) nothing shown) in (
        was.bodies,
        w.0,
        w.1,
        w.2,
        none_left old now new begun d behind o r was is end none hands,
      )

  pub stays_settled : (old now new : JournalState D) (begun d : Durable) (behind : Bool) (o : Option (List ℕ))
      (r : Result (Option (List ℕ)) JournalError) → SoFar old begun now d behind
      → r ≡ Ok o → o ≡ None → Hands now r new → told → (bodies : List (List ℕ)) → JournalSettled seen may_leave old bodies
      → JournalSettled seen may_leave new bodies
  stays_settled old now new begun d behind o r was is end hands = λ t bodies settled.
      let out : Hands now (Ok None) new =
      subst (λ (x : Result (Option (List ℕ)) JournalError). Hands now x new) (some_of r o None is end) hands in
      (out t bodies (was.gathered.same t bodies settled)).1

  pub reads_on : (old now new : JournalState D) (begun d : Durable) (behind : Bool) (o : Option (List ℕ))
      (r : Result (Option (List ℕ)) JournalError) → SoFar old begun now d behind
      → r ≡ Ok o → o ≡ None → JournalNextAnswers faults now r new → (new.stopped ≡ None) × (faults new.disk ≡ faults old.disk)
      × (new.used ≡ old.used)
  reads_on old now new begun d behind o r was is end answers =
      let one : JournalNextAnswers faults now (Ok None) new =
      subst (λ (x : Result (Option (List ℕ)) JournalError). JournalNextAnswers faults now x new) (some_of r o None is end) answers in (
        ap (λ (j : JournalState D). j.stopped) one.2 ∙ one.0,
        ap (λ (j : JournalState D). faults j.disk) one.2 ∙ was.gathered.advances.1,
        ap (λ (j : JournalState D). j.used) one.2 ∙ ap (λ (j : JournalState D). j.used) was.gathered.advances.0,
      )

  pub stays_quiet : (old now new : JournalState D) (begun d : Durable) (behind : Bool) → SoFar old begun now d behind
      → Quiet told seen may_leave moment left_since now.disk new.disk → Quiet told seen may_leave moment left_since old.disk new.disk
  stays_quiet old now new begun d behind was quiet =
      quiet_behind told seen may_leave moment left_since old.disk now.disk new.disk was.gathered.quiet quiet

  -- ---- a call was refused

  by_hands : (form : Form) (now new : JournalState D) (bodies : List (List ℕ)) (x : JournalError)
      → HandsOut seen may_leave now bodies (Err x) new
      → FoldRefused form bodies x
  by_hands form now new bodies Memory h = tt
  by_hands form now new bodies (DiskFault n) h = tt
  by_hands form now new bodies (NotAJournal at) h = absurd h
  by_hands form now new bodies (Full would limit) h = tt
  by_hands form now new bodies (Stopped n) h = tt

  pub unread : (old now new : JournalState D) (begun d : Durable) (behind : Bool) (r : Result (Option (List ℕ)) JournalError)
      (x : JournalError)
      → SoFar old begun now d behind → r ≡ Err x → Hands now r new → told → (bodies : List (List ℕ))
      → JournalSettled seen may_leave old bodies → FoldRefused old.form bodies x
  unread old now new begun d behind r x was is hands t bodies settled =
      by_hands old.form now new bodies x (subst (λ (y : Result (Option (List ℕ)) JournalError). HandsOut seen may_leave now bodies y new) is
      (hands t bodies (was.gathered.same t bodies settled)))

  by_answers : (old now new : JournalState D) (begun d : Durable) (behind : Bool) (x : JournalError) → SoFar old begun now d behind
      → old.stopped ≡ None → JournalNextAnswers faults now (Err x) new → ReadRefused faults old.disk x new
  by_answers old now new begun d behind Memory was on k = k.2.1 ∙ was.gathered.advances.1
  by_answers old now new begun d behind (DiskFault n) was on k =
      (subst (λ (m : ℕ). Rose m n) was.gathered.advances.1 k.0.1, k.0.2)
  by_answers old now new begun d behind (NotAJournal at) was on k = k.3.1 ∙ was.gathered.advances.1
  by_answers old now new begun d behind (Full would limit) was on k = k
  by_answers old now new begun d behind (Stopped n) was on k =
      let goes_on : now.stopped ≡ None = ap (λ (j : JournalState D). j.stopped) was.gathered.advances.0 ∙ on in
      let halted : now.stopped ≡ Some n = k.0 in
      none_not n (sym goes_on ∙ halted)

  pub unread_cause : (old now new : JournalState D) (begun d : Durable) (behind : Bool) (r : Result (Option (List ℕ)) JournalError)
      (x : JournalError) → SoFar old begun now d behind → r ≡ Err x → old.stopped ≡ None → JournalNextAnswers faults now r new
      → ReadRefused faults old.disk x new
  unread_cause old now new begun d behind r x was is on k =
      by_answers old now new begun d behind x was on
      (subst (λ (y : Result (Option (List ℕ)) JournalError). JournalNextAnswers faults now y new) is k)

  -- ---- a body was refused

  by_cause : (old new : JournalState D) (gate : ℕ) (x : JournalError) → faults new.disk ≡ faults old.disk → BodyCause gate x
      → ReadRefused faults old.disk x new
  by_cause old new gate Memory same h = same
  by_cause old new gate (DiskFault n) same h = absurd h
  by_cause old new gate (NotAJournal at) same h = same
  by_cause old new gate (Full would limit) same h = h
  by_cause old new gate (Stopped n) same h = h

  pub unfolded_cause : (old now new : JournalState D) (begun d : Durable) (behind : Bool) (gate : ℕ) (body : List ℕ) (o : Option (List ℕ))
      (r : Result (Option (List ℕ)) JournalError) (q : Result Bool JournalError) (x : JournalError) → SoFar old begun now d behind
      → r ≡ Ok o → o ≡ Some body → JournalNextAnswers faults now r new → q ≡ Err x
      → IfErr q (λ y. BodyCause gate y) → ReadRefused faults old.disk x new
  unfolded_cause old now new begun d behind gate body o r q x was is some answers refused h =
      let k : JournalNextAnswers faults now (Ok (Some body)) new =
      subst (λ (y : Result (Option (List ℕ)) JournalError). JournalNextAnswers faults now y new)
      (some_of r o (Some body) is some) answers in
      by_cause old new gate x (k.3 ∙ was.gathered.advances.1)
      (subst (λ (z : Result Bool JournalError). IfErr z (λ y. BodyCause gate y)) refused h)

  broken_at : (old now new : JournalState D) (begun d : Durable) (behind : Bool) (gate : ℕ) (body : List ℕ) (at : ℕ)
      → SoFar old begun now d behind
      → old.taken ≡ 0 → gate ≡ now.next → Hands now (Ok (Some body)) new → at ≡ gate
      → ((u : Server) → Fits u → DurableShown d u → BodyRefused behind u body (NotAJournal at)) → told → DurableShown begun nothing_yet
      → (bodies : List (List ℕ)) → JournalSettled seen may_leave old bodies → FoldRefused old.form bodies (NotAJournal at)
  broken_at old now new begun d behind gate body at was none here out place refused t shown bodies settled =
      let s = was.gathered.same t bodies settled in
      let handed = out t bodies s in
      let split : was.bodies ++ drop now.taken bodies ≡ bodies =
      was.gathered.front t bodies settled ∙ ap (λ (n : ℕ). drop n bodies) none in
      let w = was.read shown in
      let form : now.form ≡ old.form = ap (λ (j : JournalState D). j.form) was.gathered.advances.0 in
      refused_at old.form d was.bodies bodies body behind at now.taken new.taken
      (place ∙ (here ∙ (s.next ∙ ap (λ (f : Form). length (form_front f (take now.taken bodies))) form))) split handed.0 w refused

  by_body : (old now new : JournalState D) (begun d : Durable) (behind : Bool) (gate : ℕ) (body : List ℕ) (x : JournalError)
      → SoFar old begun now d behind
      → old.taken ≡ 0 → gate ≡ now.next → Hands now (Ok (Some body)) new → BodyCause gate x
      → ((u : Server) → Fits u → DurableShown d u → BodyRefused behind u body x) → told → DurableShown begun nothing_yet
      → (bodies : List (List ℕ)) → JournalSettled seen may_leave old bodies → FoldRefused old.form bodies x
  by_body old now new begun d behind gate body Memory was none here out cause refused t shown bodies settled = tt
  by_body old now new begun d behind gate body (DiskFault n) was none here out cause refused t shown bodies settled = tt
  by_body old now new begun d behind gate body (NotAJournal at) was none here out cause refused t shown bodies settled =
      broken_at old now new begun d behind gate body at was none here out cause refused t shown bodies settled
  by_body old now new begun d behind gate body (Full would limit) was none here out cause refused t shown bodies settled = tt
  by_body old now new begun d behind gate body (Stopped n) was none here out cause refused t shown bodies settled = tt

  pub unfolded : (old now new : JournalState D) (begun d e : Durable) (behind : Bool) (gate : ℕ) (body : List ℕ) (o : Option (List ℕ))
      (r : Result (Option (List ℕ)) JournalError) (q : Result Bool JournalError) (x : JournalError) → SoFar old begun now d behind
      → r ≡ Ok o → o ≡ Some body → old.taken ≡ 0 → gate ≡ now.next → Hands now r new → q ≡ Err x → IfErr q (λ y. BodyCause gate y)
      → ((u : Server) → Fits u → DurableShown d u → MatchResult q (λ b. AppliedBy e u body behind b) (λ y. BodyRefused behind u body y))
      → told → (s : Server) → s ≡ nothing_yet → DurableShown begun s → (bodies : List (List ℕ)) → JournalSettled seen may_leave old bodies
      → FoldRefused old.form bodies x
  unfolded old now new begun d e behind gate body o r q x was is some none here hands stopped cause apply t s nothing shown bodies settled =
      by_body old now new begun d behind gate body x was none here
      (subst (λ (y : Result (Option (List ℕ)) JournalError). Hands now y new) (some_of r o (Some body) is some) hands)
      (subst (λ (z : Result Bool JournalError). IfErr z (λ y. BodyCause gate y)) stopped cause)
      (λ u fits shown. subst (λ (z : Result Bool JournalError). MatchResult z (λ b. AppliedBy e u body behind b)
      (λ y. BodyRefused behind u body y))
      stopped (apply u fits shown)) t (subst (λ (u : Server). DurableShown begun u) nothing shown) bodies settled
