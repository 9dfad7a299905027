-- What the server does without a message, as far as the bytes under opens go: a connection is made or ends, or it starts anew.
use Rattle.std.proofs.Common.{◌≡◌, ℕ, ◌≤◌, nat_le, true, ◌++◌, length, refl, arith, ◌∙◌, ap, Option, Some, None}
use Rattle.spec_exchange.specs.State.{Server, Accept, End, ServerEvent, Answer}
use Rattle.spec_exchange.specs.Records.{fits, origin_at}
use Rattle.spec_exchange.specs.Opens.{id_of}
use Rattle.spec_exchange.specs.Step.{step, event_answer, carried_out, expiring, with_deadlines, due, expire}
use Rattle.spec_exchange.specs.Step.{expire_records, connection_of, ruling, ruling_without_room, Ruling, Says, TakesIn}
use Rattle.spec_exchange.specs.Step.{TurnsAway, TakesOut, TakesAllOut, max_connections, max_expired_guids, ends_with}
use Rattle.law_server.proofs.tables.Logic.{either}
use Rattle.law_server.specs.tables.Fits.{Fits}
use Rattle.law_records.specs.recovery.Restarted.{Restarted}
use Rattle.law_records.proofs.recovery.Restarts.{was_named, stood, ids_above}
use Rattle.law_order.specs.order.Contents.{last_id}
use Rattle.law_order.proofs.order.Pairs.{Moves as Goes, moves_alike, moves_on, same, expire_moves, deadlines_moves}
use Rattle.law_order.proofs.order.Pairs.{take_out_moves, Still, still_same, still_on, still_alike, still_expire}
use Rattle.law_order.proofs.order.Pairs.{still_deadlines, still_take_out, content_expire, content_end_named}
use Rattle.law_order.proofs.order.Others.{is_connections, without_room_too}
use Rattle.law_order.proofs.order.Moved.{Moves}

pub record Calmly (s t : Server) : Type 0 where
  pub goes : Goes s t
  pub still : Still s t
  pub content : t.content ≡ s.content

calm_on : (s t u : Server) → Calmly s t → Calmly t u → Calmly s u
calm_on s t u a b = record { goes = moves_on s t u a.goes b.goes; still = still_on s t u a.still b.still; content = b.content ∙ a.content }

calm_same : (s : Server) → Calmly s s
calm_same s = record { goes = moves_alike s s (same s); still = still_same s; content = refl }

calm_expire : (s : Server) (o : ℕ) → Calmly s (expire s o)
calm_expire s o = record { goes = expire_moves s o; still = still_expire s o; content = content_expire s o }

calm_out : (s : Server) (now : ℕ) (r : Ruling) → is_connections r ≡ true → Calmly s (carried_out s now r).server
calm_out s now (Says m v) e = absurd (cc)
calm_out s now (TakesIn k) e =
    record {
      goes = moves_alike s _ (record {
        standing = refl;
        present = refl;
        session_of_open = refl;
        sequence = refl;
        epoch = refl;
        open_ids_given = refl;
        making = refl;
        by_guid = refl;
        opened = refl;
      });
      still = still_alike s _ refl refl;
      content = refl;
    }
calm_out s now TurnsAway e = calm_same s
calm_out s now (TakesOut k is_quiet) e = record {
  goes = take_out_moves s k now is_quiet;
  still = still_take_out s k now is_quiet;
  content = content_end_named s now (ends_with s k) is_quiet;
}
calm_out s now (TakesAllOut is_quiet) e = absurd (cc)

calm_table : (s : Server) (now : ℕ) (e : ServerEvent) → is_connections (ruling s e) ≡ true → Calmly s (event_answer s now e).server
calm_table s now e c =
    either (λ (A : Answer). Calmly s A.server) (fits s (carried_out s now (ruling s e)).records) _ _
    (λ _. calm_out s now (ruling s e) c) (λ _. calm_out s now (ruling_without_room (ruling s e))
    (without_room_too (ruling s e) c))

calm_expiring : (s : Server) (now : ℕ) (e : ServerEvent) → ((t : Server) → is_connections (ruling t e) ≡ true)
    → (u : Option ℕ) → Calmly s (expiring s now e u).server
calm_expiring s now e c None = calm_table s now e (c s)
calm_expiring s now e c (Some o) =
    either (λ (A : Answer). Calmly s A.server) (nat_le max_expired_guids s.expired_count) _ _ (λ _. calm_table s now e (c s))
    (λ _. either (λ (A : Answer). Calmly s A.server)
    (fits s (expire_records s (origin_at (connection_of e)) o
    ++ (carried_out (expire s o) now (ruling (expire s o) e)).records)) _ _
    (λ _. calm_on s (expire s o) _ (calm_expire s o) (calm_out (expire s o) now (ruling (expire s o) e) (c (expire s o))))
    (λ _. calm_table s now e (c s)))

calm_event : (s : Server) (now : ℕ) (e : ServerEvent) → ((t : Server) → is_connections (ruling t e) ≡ true) → Calmly s (step s now e).server
calm_event s now e c =
    let d = with_deadlines s now in let A = expiring d now e (due d now) in let f = calm_expiring d now e c (due d now) in
    calm_on s d _ (record { goes = deadlines_moves s now; still = still_deadlines s now; content = refl }) (calm_on d A.server _ f
    (record {
      goes = moves_alike A.server _ (record {
        standing = refl;
        present = refl;
        session_of_open = refl;
        sequence = refl;
        epoch = refl;
        open_ids_given = refl;
        making = refl;
        by_guid = refl;
        opened = refl;
      });
      still = still_alike A.server _ refl refl;
      content = refl;
    }))

pub calm_accept : (s : Server) (now k : ℕ) → Calmly s (step s now (Accept k)).server
calm_accept s now k = calm_event s now (Accept k) (λ t. either (λ r. is_connections r ≡ true)
    (nat_le max_connections (length t.connections)) TurnsAway (TakesIn k) (λ _. refl) (λ _. refl))

pub calm_end : (s : Server) (now k : ℕ) → Calmly s (step s now (End k)).server
calm_end s now k = calm_event s now (End k) (λ t. refl)

-- ---- in the words of the bytes under opens

pub calm_moves : (rank : ℕ → ℕ) (s u : Server) → ((o : ℕ) → s.standing o ≡ true → o ≤ last_id s) → Calmly s u → Moves rank s u
calm_moves rank s u given c =
    record {
      steps = record {
        pair = λ x q o r l p. c.goes.pair x q o p;
        stands = λ o l st. c.goes.stands o st;
        present = λ x r p. c.goes.there x p;
        ids = same_ids s.epoch s.open_ids_given u.epoch u.open_ids_given c.goes.epoch c.goes.given;
        row = λ o l st. ap (λ f. f o) c.goes.row;
      };
      session_of_open = λ o x e. (c.still.session_of_open o x e, c.still.sequence o);
      given = λ o st. given o (c.goes.stands o st);
      content = c.content;
      guid = c.goes.guid;
    }
  where
    same_ids : (e g e2 g2 : ℕ) → e2 ≡ e → g2 ≡ g → id_of e g ≤ id_of e2 g2
    same_ids e g e2 g2 a b = omega (arith, a, b)

pub anew_moves : (rank : ℕ → ℕ) (s u : Server) → Fits s → Restarted s u → Moves rank s u
anew_moves rank s u f r =
    record {
      steps = record {
        pair = λ x q o k l p st pr. absurd (let z = r.bare.absent x in grind arith);
        stands = λ o l st. (stood s u r o st).0;
        present = λ x k pr. absurd (let z = r.bare.absent x in grind arith);
        ids = ids_above s u r f.given;
        row = λ o l st. (stood s u r o st).2;
      };
      session_of_open = λ o x e. absurd (let z = r.bare.apart o in grind arith);
      given = λ o st. (f.open_ids o (stood s u r o st).0).1;
      content = r.content;
      guid = λ p g o e. (was_named s u r p g o e).0;
    }
