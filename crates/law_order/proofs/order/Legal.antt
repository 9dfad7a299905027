-- The order of an open that denies writers is legal, from what holds by places.
use Rattle.std.proofs.Common.{eqb-true, ◌≡◌, ℕ, ◌+◌, ◌≤◌, ◌<◌, ◌==◌, true, false, ◌&&◌, refl, arith, sym, subst, ◌∙◌}
use Rattle.std.proofs.Common.{ap, Option, Some, None, is_some}
use Rattle.spec_exchange.specs.Table.{is_at as is_at_option}
use Rattle.spec_exchange.specs.Content.{effect, value, past_end, is_listed}
use Rattle.spec_exchange.specs.Order.{placed, is_of, is_firm as is_firm_settlement}
use Rattle.spec_exchange.specs.Operations.{Op, Outcome, Unsettled, WasOk, WasRefused, NoSlot, NoOpen, Unknown}
use Rattle.spec_exchange.specs.Operations.{is_create, is_ok, is_firm, create_of, content_op}
use Rattle.spec_exchange.specs.Network.{World}
use Rattle.spec_exchange.specs.Runs.{account, isolates, settlement}
use Rattle.spec_exchange.specs.Statements.{OneConnections, BytesNow}
use Rattle.spec_exchange.proofs.Order.{PlaceFacts, legal}
use Rattle.law_sessions.specs.messages.Connections.{makes_open, its_create, create_at}
use Rattle.law_order.specs.order.Contents.{Contents, edits, lists, isolating, bytes_after, reply_to, ends_before}
use Rattle.law_server.proofs.tables.Logic.{front_of, back_of, both}

-- a create that settled Ok and denies writers
isolated : (w : World) (q : ℕ) → isolates w q ≡ true → isolating (w.client.op q) ≡ true × makes_open (w.client.op q)
    ≡ true × is_ok (w.client.outcome q) ≡ true
unfolding isolating makes_open
isolated w q e =
    let k = front_of (is_create (w.client.op q)) _ e in let r = back_of (is_create (w.client.op q)) _ e in
    let o = front_of (is_ok (w.client.outcome q)) _ r in let d = back_of (is_ok (w.client.outcome q)) _ r in
    (both _ _ k d, k, o)

of_open : (w : World) (q g : ℕ) → is_of (account w) q g ≡ true → create_at w.client g ≡ q × lists (w.client.op g) ≡ true
unfolding its_create lists
of_open w q g e = (eqb-true _ _ (front_of (create_of g (w.client.op g) == q) _ e), back_of (create_of g (w.client.op g) == q) _ e)

not_of : (w : World) (q g : ℕ) → is_of (account w) q g ≡ false → ((create_at w.client g == q) && lists (w.client.op g)) ≡ false
unfolding its_create lists
not_of w q g e = e

listed_other : (op : Op) → lists op ≡ true → makes_open op ≡ false
unfolding lists makes_open is_listed
listed_other op e = grind arith

firm_of : (op : Op) (o : Outcome) → is_firm_settlement (settlement op o) ≡ true → is_firm o ≡ true
firm_of op Unsettled e = absurd (cc)
firm_of op (WasOk reply) e = refl
firm_of op (WasRefused status) e = refl
firm_of op (NoSlot n) e = absurd (cc)
firm_of op (NoOpen n) e = absurd (cc)
firm_of op (Unknown why) e = absurd (cc)

abbrev ContentsHold : World → (ℕ → ℕ) → Type 0
ContentsHold w a = Contents w.client w.conns w.server w.trace w.log a

place_facts : (w : World) (a : ℕ → ℕ) (q : ℕ) → ContentsHold w a → isolates w q ≡ true → PlaceFacts (account w) q
unfolding edits bytes_after reply_to ends_before
place_facts w a q i iso =
    let z = isolated w q iso in let made = ap is_some (i.open_of q z.1 z.2) in
    record {
      birth_le = i.birth_le q;
      acted = λ n b l o d. let k = of_open w q (w.log.who n) o in
          let x = i.acted n l d k.1 (ap (λ r. isolating (w.client.op r)) k.0 ∙ z.0) in
          (x.0, x.1, subst (λ r. w.log.bytes r (n + 1) ≡ effect (content_op (w.client.op (w.log.who n))) (w.log.bytes r n)) k.0 x.2);
      unacted = λ n b l d. i.quiet n q l made b z.0 d;
      foreign = λ n b l o. i.foreign n q l made b z.0 (not_of w q (w.log.who n) o);
      gave = λ n v b l o e. let k = of_open w q (w.log.who n) o in let x = i.gave n v l k.1 e in (
        subst (λ r. value (content_op (w.client.op (w.log.who n))) (w.log.bytes r n) ≡ v) k.0 x.0,
        subst (λ r. w.log.bytes r (n + 1) ≡ effect (content_op (w.client.op (w.log.who n))) (w.log.bytes r n)) k.0 x.1,
        subst (λ r. past_end (content_op (w.client.op (w.log.who n))) (w.log.bytes r n) ≡ false) k.0 x.2,
      );
      gave_end = λ n b l o e. let k = of_open w q (w.log.who n) o in let x = i.gave_end n l k.1 e in
          subst (λ r. past_end (content_op (w.client.op (w.log.who n))) (w.log.bytes r n) ≡ true) k.0 x;
      first_at = λ g p o e. let k = of_open w q g o in let x = i.first_at g p e in (since_birth g p k x.0 x.1 x.2, x.0, x.1, x.3);
      by_at = λ g p o e. let k = of_open w q g o in let x = i.by g p e in (since_birth g p k x.0 x.1 x.2, x.0, x.1);
      by_ok = λ g p v o e s. let k = of_open w q g o in i.by_ok g p v k.1 e s;
      by_end = λ g p o e s. i.by_end g p e s;
      by_some = λ g o s. i.by_some g (firm_of (w.client.op g) (w.client.outcome g) s);
      prior = λ g h p o e pl. by_first g h p (of_open w q g o) z.0 e (w.log.first g) (w.client.settled_by g) refl refl pl;
      since = λ h p o pl. since_by h p (w.log.first h) (w.client.settled_by h) refl refl pl;
    }
  where
    since_birth : (g p : ℕ) → create_at w.client g ≡ q × lists (w.client.op g) ≡ true → p < w.log.places → w.log.who p
        ≡ g → 0 < g → w.log.birth q ≤ p
    since_birth g p k l e m =
        subst (λ r. w.log.birth r ≤ p) (ap (create_at w.client) e ∙ k.0) (i.born p l (subst (λ h. 0 < h) (sym e) m)
        (listed_other _ (ap (λ h. lists (w.client.op h)) e ∙ k.1)))

    by_first : (g h p : ℕ) → create_at w.client g ≡ q × lists (w.client.op g) ≡ true → isolating (w.client.op q) ≡ true
        → w.log.prior h g ≡ true → (first by : Option ℕ) → w.log.first g ≡ first → w.client.settled_by g ≡ by
        → placed first by ≡ Some p → p < w.log.since h
    by_first g h p k iq e (Some n) by f b pl =
        let x = i.first_at g n f in
        let y = i.acted n x.0 x.3 (ap (λ r. lists (w.client.op r)) x.1 ∙ k.1)
        (ap (λ r. isolating (w.client.op (create_at w.client r))) x.1 ∙ (ap (λ r. isolating (w.client.op r)) k.0
        ∙ iq)) in
        i.prior_first h g p (ap (λ r. edits (w.client.op r)) (sym x.1) ∙ y.1) e (f ∙ pl)
    by_first g h p k iq e None by f b pl = i.prior_by h g p e (b ∙ pl)

    since_by : (h p : ℕ) → (first by : Option ℕ) → w.log.first h ≡ first → w.client.settled_by h ≡ by → placed first by
        ≡ Some p → w.log.since h ≤ p
    since_by h p (Some n) by f b pl = i.since_first h p (f ∙ pl)
    since_by h p None by f b pl = i.since_by h p (b ∙ pl)

pub one_connections : (w : World) (a : ℕ → ℕ) → ContentsHold w a → OneConnections w
one_connections w a i q iso = legal (account w) q (place_facts w a q i iso)

pub bytes_now : (w : World) (a : ℕ → ℕ) → ContentsHold w a → BytesNow w
bytes_now w a i q o iso st =
    i.bytes q o (found (w.trace.open_of q) o (front_of (is_at_option o (w.trace.open_of q)) _ st))
    (back_of (is_at_option o (w.trace.open_of q)) _ st)
  where
    found : (x : Option ℕ) (o : ℕ) → is_at_option o x ≡ true → x ≡ Some o
    found x o e = grind arith
