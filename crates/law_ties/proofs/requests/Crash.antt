-- A Crash that keeps a line's request leaves a world tied.
use Rattle.std.proofs.Common.{◌≡◌, ℕ, ◌+◌, ◌≤◌, true, ◌&&◌, if◌then◌else◌, List, [], ◌∷◌, length, refl, sym}
use Rattle.std.proofs.Common.{ap, ◌∙◌, subst, arith, Option, None}
use Rattle.spec_exchange.specs.Table.{put, is_filled}
use Rattle.spec_exchange.specs.Network.{Sent, Crash, behind_front, server_off, is_possible}
use Rattle.spec_wire.specs.credits.Ids.{counted, outside}
use Rattle.spec_wire.specs.credits.Window.{HeldIds}
use Rattle.spec_wire.specs.credits.Exchange.{FrontIsHeld, NothingIsRefused}
use Rattle.spec_world.specs.Settings.{WorldSettings}
use Rattle.spec_world.specs.Ends.{ServerEnd}
use Rattle.spec_world.specs.Connection.{LastTaken}
use Rattle.spec_world.specs.World.{World, Wires, server_end_off, values_took, step_at, absorb_frame, restarted_wires}
use Rattle.spec_world.specs.Events.{Plain, bytes_later, bytes_happen}
use Rattle.law_ties.specs.events.Fronts.{MayServe}
use Rattle.law_ties.specs.events.Links.{shared_of, AllAsked, TieOf, Ties, IsTied}
use Rattle.law_ties.proofs.events.Serving.{told_at}
use Rattle.law_ties.proofs.events.InStep.{next_low, front_held, has_frame_up}
use Rattle.law_ties.proofs.events.Keeping.{both_tables, server_closed, server_tie}
use Rattle.law_ties.specs.requests.Lines.{is_lines, LineCrashesAreKept}
use Rattle.law_ties.proofs.requests.Line.{split_by, served}

-- the world behind it: this connection's front has left, its server's end is any, and then every server's end closes
crashed_ties : (z : WorldSettings) (w : World) (k : ℕ) (xs : List Sent) (bs : List (List ℕ)) (g : ServerEnd) → IsTied z w
    → Ties z w.values.client w.keys w.logons (λ j. server_off (put w.values.conns k (behind_front (w.values.conns k) xs) j))
    (λ j. server_end_off (put w.wires k (record (w.wires k) { server_end = g; up = bs }) j))
crashed_ties z w k xs bs g i =
    let c = w.values.client in
    let s = shared_of c w.keys w.logons in
    let d = w.values.conns k in
    let u = w.wires k in
    let p = behind_front d xs in
    let v : Wires = record u { server_end = g; up = bs } in record {
      tied = both_tables (λ j r q. TieOf z c.op s j (server_off r) (server_end_off q)) w.values.conns w.wires k p v
          (server_closed z c.op s k d.client_open d.server_open u.client_end u.server_end g u.up u.down d.up d.down (i.tied k))
          (λ j e. server_tie z c.op s j (w.values.conns j) (w.wires j) (i.tied j));
      stages = both_tables (λ j r q. r.client_open ≡ true → q.client_end.stage ≡ c.stage j) w.values.conns w.wires k p v (i.stages k)
          (λ j e. i.stages j);
      nexts = both_tables (λ j r q. r.client_open ≡ true → q.client_end.purse.next ≡ r.next_id) w.values.conns w.wires k p v (i.nexts k)
          (λ j e. i.nexts j);
      own_keys = i.own_keys;
    }

-- the front is taken, and its step leaves logons
absorbed_ties : NothingIsRefused → (z : WorldSettings) (w : World) (k : ℕ) (b : List ℕ) (bs : List (List ℕ)) (x : Sent) (xs : List Sent)
    → IsTied z w → (w.values.conns k).server_open ≡ true → (w.wires k).up ≡ b ∷ bs → (w.values.conns k).up ≡ x ∷ xs
    → is_lines x.message.command ≡ true → IsTied z (restarted_wires (absorb_frame z w k (b ∷ bs) (x ∷ xs)))
absorbed_ties held z w k b bs x xs i so e h line =
    let f = (w.wires k).server_end in
    let t = i.tied k in
    let link = t.link in
    let l = link.line in
    let all : AllAsked z w.logons k f (b ∷ bs) (x ∷ xs) l.requests =
    subst (λ v. AllAsked z w.logons k f (b ∷ bs) v l.requests) h
    (subst (λ v. AllAsked z w.logons k f v (w.values.conns k).up l.requests) e (link.asked so)) in
    let p = split_by z w k b bs x xs l l.requests refl all in
    let q = p.bill in
    let a = p.asked in
    let none : outside l.window.held q.0 (counted q.1) ≡ None =
    subst (λ (rs : List (ℕ × ℕ)). FrontIsHeld rs l.window) p.is (front_held held l link.reached) in
    let low = next_low held l link.reached in
    let count : f.counter + length (q ∷ p.bills) ≤ l.purse.next = subst (λ rs. f.counter + length rs ≤ l.purse.next) p.is
    (link.counted so) in
    let may : MayServe f q = record {
      held = ap (λ (v : HeldIds). outside v.held q.0 (counted q.1)) (link.window so) ∙ none;
      nonce = omega (arith, count, low);
    } in
    let v = served z w k b x q a may line in
    let S = step_at z w k b in
    let T = v.step in
    let told = told_at z w k b x q a.reads may in
    let base = crashed_ties z w k xs bs S.server_end i in
    subst (λ (o : Option LastTaken). Ties z (values_took w.values k x.token xs o).client w.keys S.logons
    (λ j. server_off ((values_took w.values k x.token xs o).conns j))
    (λ j. server_end_off (put w.wires k (record (w.wires k) { server_end = S.server_end; up = bs }) j))) (sym told.taken)
    (subst (λ L. Ties z w.values.client w.keys L (λ j. server_off (put w.values.conns k (behind_front (w.values.conns k) xs) j))
    (λ j. server_end_off (put w.wires k (record (w.wires k) { server_end = S.server_end; up = bs }) j))) (sym T.logons) base)

pub crashed_world : (z : WorldSettings) (w : World) (k : ℕ) (b : List ℕ) (bs : List (List ℕ)) (x : Sent) (xs : List Sent)
    → (w.values.conns k).server_open ≡ true → (w.wires k).up ≡ b ∷ bs → (w.values.conns k).up ≡ x ∷ xs
    → bytes_happen z w (Plain (Crash k true)) ≡ bytes_later (restarted_wires (absorb_frame z w k (b ∷ bs) (x ∷ xs))) 1
unfolding is_filled
crashed_world z w k b bs x xs so e h =
    let can : is_possible w.values (Crash k true) ≡ true = ap (λ q. q && is_filled (w.values.conns k).up) so ∙ ap is_filled h in
    ap (λ q. if q then bytes_later (restarted_wires (absorb_frame z w k (w.wires k).up (w.values.conns k).up)) 1 else w) can
    ∙ (ap (λ q. bytes_later (restarted_wires (absorb_frame z w k q (w.values.conns k).up)) 1) e
    ∙ ap (λ q. bytes_later (restarted_wires (absorb_frame z w k (b ∷ bs) q)) 1) h)

later_tied : (z : WorldSettings) (w : World) (n : ℕ) → IsTied z w → IsTied z (bytes_later w n)
later_tied z w n i = i

crash_by : NothingIsRefused → (z : WorldSettings) (w : World) (k : ℕ) (x : Sent) (xs : List Sent) → IsTied z w
    → (w.values.conns k).server_open ≡ true → (w.values.conns k).up ≡ x ∷ xs → is_lines x.message.command ≡ true
    → (bs : List (List ℕ)) → (w.wires k).up ≡ bs → IsTied z (bytes_happen z w (Plain (Crash k true)))
crash_by held z w k x xs i so h line [] e = absurd (has_frame_up z w k x xs i so e h)
crash_by held z w k x xs i so h line (b ∷ bs) e =
    subst (IsTied z) (sym (crashed_world z w k b bs x xs so e h))
    (later_tied z (restarted_wires (absorb_frame z w k (b ∷ bs) (x ∷ xs))) 1 (absorbed_ties held z w k b bs x xs i so e h line))

pub line_crashes : NothingIsRefused → LineCrashesAreKept
line_crashes held z w k x xs i so h line = crash_by held z w k x xs i so h line (w.wires k).up refl
