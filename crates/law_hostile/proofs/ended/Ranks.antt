-- No step of the client's own but an acceptance changes which sessions it accepted, and in which order.
use Rattle.std.proofs.Common.{◌≡◌, ℕ, ◌==◌, Bool, true, not, ◌&&◌, if◌then◌else◌, List, [], ◌∷◌, refl, ◌∙◌, Option, Some, None}
use Rattle.law_server.proofs.tables.Logic.{either}
use Rattle.spec_exchange.specs.Table.{put, put2}
use Rattle.spec_exchange.specs.Status.{disk_full}
use Rattle.spec_exchange.specs.State.{Body, Reply}
use Rattle.spec_exchange.specs.Operations.{Outcome, Unsettled, WasOk, WasRefused, NoSlot, NoOpen, Unknown, is_create, is_close, is_lock}
use Rattle.spec_exchange.specs.Client.{Client, create_for, may_push, goes_itself, has_its_slot, take_slot, begin, again, begun, outstanding, asked}
use Rattle.spec_exchange.specs.Client.{lacks_slot, settle_no_slot, settle_no_slots}
use Rattle.spec_exchange.specs.ClientStep.{Pick, Pushes, client_after, itself_after, op_after, pick_after}
use Rattle.spec_exchange.specs.Settling.{noted, noted_full, settled, settle, settles_open, with_no_opens}

pub record SameRanks (c d : Client) : Type 0 where
  pub rank : d.rank ≡ c.rank
  pub count : d.accepted_count ≡ c.accepted_count

pub ranks_self : (c : Client) → SameRanks c c
ranks_self c = record { rank = refl; count = refl }

-- what another client has of it, and so its own
ranks_on : (c d e : Client) → e.rank ≡ d.rank → e.accepted_count ≡ d.accepted_count → SameRanks c d → SameRanks c e
ranks_on c d e r n s = record { rank = r ∙ s.rank; count = n ∙ s.count }

-- ---- a reply settles an operation

noted_ranks : (c : Client) (g : ℕ) (o : Outcome) (body : Body) → SameRanks c (noted c g o body)
noted_ranks c g Unsettled body = ranks_self c
noted_ranks c g (WasOk reply) body =
    either (SameRanks c) (is_create (c.op g)) _ _ (λ _. record { rank = refl; count = refl })
    (λ _. either (SameRanks c) (is_close (c.op g)) _ c (λ _. record { rank = refl; count = refl }) (λ _. ranks_self c))
noted_ranks c g (WasRefused status) body = ranks_self c
noted_ranks c g (NoSlot create) body = ranks_self c
noted_ranks c g (NoOpen create) body = ranks_self c
noted_ranks c g (Unknown why) body = ranks_self c

pub settle_ranks : (c : Client) (g : ℕ) (asking : Bool) (r : Reply) (place : ℕ) (o : Outcome) → SameRanks c (settle c g asking r place o)
settle_ranks c g asking r place o =
    let n = noted c g o r.body in
    let u = noted_full n g asking r.status in
    let d = settled u g o place in
    let full : SameRanks c u =
    either (SameRanks c) (is_lock (n.op g) && (not asking && (r.status == disk_full))) _ n
    (λ _. ranks_on c n _ refl refl (noted_ranks c g o r.body)) (λ _. noted_ranks c g o r.body) in
    let there : SameRanks c d = ranks_on c u d refl refl full in
    either (SameRanks c) (settles_open (c.op g)) (with_no_opens d (create_for c g)) d
    (λ _. ranks_on c d (with_no_opens d (create_for c g)) refl refl there) (λ _. there)

-- ---- a push

no_slot : (c d : Client) (k g : ℕ) → SameRanks c d → SameRanks c (settle_no_slot d k g)
no_slot c d k g s =
    either (SameRanks c) (lacks_slot d k g) (record d { outcome = put d.outcome g (NoSlot (create_for d g)) }) d
    (λ _. ranks_on c d _ refl refl s) (λ _. s)

no_slots : (c d : Client) (k : ℕ) (gs : List ℕ) → SameRanks c d → SameRanks c (settle_no_slots d k gs)
unfolding settle_no_slots
no_slots c d k [] s = s
no_slots c d k (g ∷ gs) s = no_slots c (settle_no_slot d k g) k gs (no_slot c d k g s)

begun_ranks : (c d : Client) (g i : ℕ) → SameRanks c d → SameRanks c (begun d g i)
begun_ranks c d g i s =
    either (SameRanks c) (d.sent g) (again d g) (begin d g i)
    (λ _. either (SameRanks c) (is_lock (d.op g)) (record d { retried = put2 d.retried (create_for d g) (d.slot_of g) d.session_number }) d
    (λ _. ranks_on c d _ refl refl s) (λ _. s))
    (λ _. either (SameRanks c) (is_lock (d.op g)) (record (take_slot d g i) { sent = put d.sent g true }) (record d { sent = put d.sent g true })
    (λ _. ranks_on c d _ refl refl s) (λ _. ranks_on c d _ refl refl s))

op_ranks : (c d : Client) (k g i : ℕ) → SameRanks c d → SameRanks c (op_after d k g i)
op_ranks c d k g i s =
    either (SameRanks c) (may_push d k g) (if goes_itself d g then itself_after d k g i else asked d k g) d
    (λ _. either (SameRanks c) (goes_itself d g) (itself_after d k g i) (asked d k g)
    (λ _. either (SameRanks c) (has_its_slot d g i) (outstanding (begun d g i) k g) d
    (λ _. ranks_on c (begun d g i) (outstanding (begun d g i) k g) refl refl (begun_ranks c d g i s)) (λ _. s))
    (λ _. ranks_on c d (asked d k g) refl refl s)) (λ _. s)

pick_ranks : (c d : Client) (k : ℕ) (pick : Option Pick) → SameRanks c d → SameRanks c (pick_after d k pick)
pick_ranks c d k None s = s
pick_ranks c d k (Some p) s = op_ranks c d k p.op p.slot s

pub push_ranks : (c : Client) (k : ℕ) (slotless : List ℕ) (pick : Option Pick) → SameRanks c (client_after c (Pushes k slotless pick))
push_ranks c k slotless pick =
    either (SameRanks c) (c.ready k) (pick_after (settle_no_slots c k slotless) k pick) c
    (λ _. pick_ranks c (settle_no_slots c k slotless) k pick (no_slots c c k slotless (ranks_self c))) (λ _. ranks_self c)
