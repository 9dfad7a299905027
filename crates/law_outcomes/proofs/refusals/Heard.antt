-- Which reply settles an operation as Refused, and that nothing else does.
use Rattle.std.proofs.Common.{◌≡◌, ℕ, ◌==◌, Bool, true, false, not, ◌&&◌, if◌then◌else◌, ◌⊎◌, inl, inr, refl, arith}
use Rattle.std.proofs.Common.{sym, subst, ◌∙◌, ap, eqb-true, Option, Some, None}
use Rattle.spec_exchange.specs.Table.{put, put2}
use Rattle.spec_exchange.specs.Status.{success, user_session_deleted, disk_full}
use Rattle.spec_exchange.specs.Content.{is_change}
use Rattle.spec_exchange.specs.State.{Reply, Body}
use Rattle.spec_exchange.specs.Operations.{Op, OpReply, Outcome, Unsettled, WasOk, WasRefused, NoSlot, NoOpen, Unknown}
use Rattle.spec_exchange.specs.Operations.{Why, is_create, is_lock, is_close, is_write, is_firm, create_of, id_in}
use Rattle.spec_exchange.specs.Operations.{value_in}
use Rattle.spec_exchange.specs.Client.{Client, create_for, is_gone, is_gone_after, is_taken, outcome_at_first, begun}
use Rattle.spec_exchange.specs.Client.{begin, again, take_slot, outstanding, outcome_after_end, finish}
use Rattle.spec_exchange.specs.Client.{outcome_after_finish}
use Rattle.spec_exchange.specs.Settling.{Heard, Settles, GoesAgain, Attaches, heard, settle, settled, noted, noted_full}
use Rattle.spec_exchange.specs.Settling.{settles_open, with_no_opens, without_open, answered, ok_or_unknown, refused}
use Rattle.spec_exchange.specs.Settling.{refuses_all, was_closed, may_have_acted, goes_again}
use Rattle.spec_exchange.specs.Network.{World, Event, happens}
use Rattle.law_server.proofs.tables.Logic.{either}
use Rattle.law_order.specs.order.Contents.{edits}
use Rattle.law_order.proofs.order.Words.{left_firm}
use Rattle.law_answers.proofs.completeness.Client.{Took, Small, client_keeps}
use Rattle.law_outcomes.specs.refusals.Refusals.{refuses_writes}

-- ---- an operation that is settled as Refused was so before the event, or a reply settles it

pub record ByReply (w : World) (e : Event) (g status : ℕ) : Type 0 where
  pub channel : ℕ
  pub asking : Bool
  pub reply : Reply
  pub place : ℕ
  pub on : w.client.outstanding_on g ≡ Some channel
  pub took : Took w e channel g asking reply place (WasRefused status)

abbrev pub Was : World → Event → Client → Type 0
Was w e d = (g status : ℕ) → d.outcome g ≡ WasRefused status → (w.client.outcome g ≡ WasRefused status) ⊎ ByReply w e g status

not_slot : (n status : ℕ) → NoSlot n ≡ WasRefused status → ⊥
not_slot n status e = absurd (cc)

put_was : (w : World) (e : Event) (f : ℕ → Outcome) (h : ℕ) (o : Outcome) → ((status : ℕ) → o ≡ WasRefused status → ⊥)
    → ((g status : ℕ) → f g ≡ WasRefused status → (w.client.outcome g ≡ WasRefused status) ⊎ ByReply w e g status)
    → (g status : ℕ) → put f h o g ≡ WasRefused status → (w.client.outcome g ≡ WasRefused status) ⊎ ByReply w e g status
put_was w e f h o never i g status q =
    either (λ r. r ≡ WasRefused status → (w.client.outcome g ≡ WasRefused status) ⊎ ByReply w e g status) (g == h) o
    (f g) (λ _ z. absurd (never status z)) (λ _ z. i g status z) q

first_never : (c : Client) (g : ℕ) (op : Op) (status : ℕ) → outcome_at_first c g op ≡ WasRefused status → ⊥
first_never c g op status =
    let P : Outcome → Type 0 = λ r. r ≡ WasRefused status → ⊥ in
    either P (is_create op) Unsettled _ (λ _ e. absurd (cc)) (λ _. either P (is_gone c (create_of g op))
    (NoOpen (create_of g op)) Unsettled (λ _ e. absurd (cc)) (λ _ e. absurd (cc)))

begun_was : (w : World) (e : Event) (c : Client) (k g i : ℕ) → Was w e c → Was w e (outstanding (begun c g i) k g)
begun_was w e c k g i h =
    let P : Client → Type 0 = λ d. Was w e (outstanding d k g) in
    either P (c.sent g) (again c g) (begin c g i)
    (λ _. either P (is_lock (c.op g)) (record c {
      retried = put2 c.retried (create_for c g) (c.slot_of g) c.session_number;
    }) c (λ _. h) (λ _. h))
    (λ _. either P (is_lock (c.op g)) (record (take_slot c g i) { sent = put c.sent g true }) (record c {
      sent = put c.sent g true;
    }) (λ _. h) (λ _. h))

-- ---- what settling leaves

noted_same : (c : Client) (g : ℕ) (o : Outcome) (body : Body) → (noted c g o body).outcome ≡ c.outcome
noted_same c g (WasOk reply) body =
    let P : Client → Type 0 = λ d. d.outcome ≡ c.outcome in
    either P (is_create (c.op g)) (record c { file = put c.file g (id_in body); attached = put c.attached g c.session_number })
    (if is_close (c.op g) then record c { closed_ok = put c.closed_ok (create_for c g) true } else c) (λ _. refl)
    (λ _. either P (is_close (c.op g)) (record c { closed_ok = put c.closed_ok (create_for c g) true }) c (λ _. refl) (λ _. refl))
noted_same c g Unsettled body = refl
noted_same c g (WasRefused status) body = refl
noted_same c g (NoSlot create) body = refl
noted_same c g (NoOpen create) body = refl
noted_same c g (Unknown why) body = refl

full_same : (c : Client) (g : ℕ) (asking : Bool) (status : ℕ) → (noted_full c g asking status).outcome ≡ c.outcome
full_same c g asking status =
    either (λ (d : Client). d.outcome ≡ c.outcome) (is_lock (c.op g) && (not asking && (status == disk_full)))
    (record c { full = put2 c.full (create_for c g) (c.slot_of g) true }) c (λ _. refl) (λ _. refl)

given_up_was : (a b c : Bool) (create status : ℕ) (o : Outcome) → without_open a b c create o ≡ WasRefused status → o ≡ WasRefused status
given_up_was a b c create status Unsettled = either (λ r. r ≡ WasRefused status → Unsettled ≡ WasRefused status)
    (a && (not b && c)) (NoOpen create) Unsettled (λ _ e. absurd (cc)) (λ _ e. e)
given_up_was a b c create status (WasOk reply) = λ e. e
given_up_was a b c create status (WasRefused n) = λ e. e
given_up_was a b c create status (NoSlot n) = λ e. e
given_up_was a b c create status (NoOpen n) = λ e. e
given_up_was a b c create status (Unknown why) = λ e. e

settled_was : (f : ℕ → Outcome) (g h status : ℕ) (o : Outcome) → put f g o h ≡ WasRefused status
    → (f h ≡ WasRefused status) ⊎ (h ≡ g × o ≡ WasRefused status)
settled_was f g h status o q =
    elim (h == g) as (λ b. h == g ≡ b → (if b then o else f h) ≡ WasRefused status → (f h ≡ WasRefused status)
    ⊎ (h ≡ g × o ≡ WasRefused status)) [
      | true ↦ λ e z. inr (eqb-true h g e, z)
      | false ↦ λ e z. inl z
    ] refl q

settle_was : (c : Client) (g h status : ℕ) (asking : Bool) (r : Reply) (place : ℕ) (o : Outcome)
    → (settle c g asking r place o).outcome h ≡ WasRefused status → (c.outcome h ≡ WasRefused status)
    ⊎ (h ≡ g × o ≡ WasRefused status)
settle_was c g h status asking r place o =
    let n = noted c g o r.body in let f = noted_full n g asking r.status in let d = settled f g o place in
    let same : f.outcome ≡ c.outcome = full_same n g asking r.status ∙ noted_same c g o r.body in
    let last : (d.outcome h ≡ WasRefused status) → (c.outcome h ≡ WasRefused status) ⊎ (h ≡ g × o ≡ WasRefused status) =
    λ q. subst (λ u. (u h ≡ WasRefused status) ⊎ (h ≡ g × o ≡ WasRefused status)) same
    (settled_was f.outcome g h status o q) in
    either (λ (e : Client). e.outcome h ≡ WasRefused status → (c.outcome h ≡ WasRefused status)
    ⊎ (h ≡ g × o ≡ WasRefused status)) (settles_open (c.op g)) (with_no_opens d (create_for c g)) d
    (λ _ q. last (given_up_was ((create_for d h == create_for c g) && not (is_create (d.op h))) (d.sent h)
    (is_gone_after d (create_for c g) (d.outcome (create_for c g))) (create_for c g) status (d.outcome h) q))
    (λ _ q. last q)

settles_was : (w : World) (e : Event) (k g : ℕ) (asking : Bool) (r : Reply) (place : ℕ) (o : Outcome) → w.client.outstanding_on g
    ≡ Some k → Took w e k g asking r place o → Was w e (settle w.client g asking r place o)
settles_was w e k g asking r place o on t h status q = by (settle_was w.client g h status asking r place o q)
  where
    by : (w.client.outcome h ≡ WasRefused status) ⊎ (h ≡ g × o ≡ WasRefused status)
        → (w.client.outcome h ≡ WasRefused status) ⊎ ByReply w e h status
    by (inl z) = inl z
    by (inr z) =
        inr (subst (λ p. ByReply w e p status) (sym z.0) (record {
          channel = k;
          asking = asking;
          reply = r;
          place = place;
          on = on;
          took = subst (Took w e k g asking r place) z.1 t;
        }))

-- ---- what giving up leaves

no_firm : (b : Bool) → b ≡ true → b ≡ false → ⊥
no_firm b e f = absurd (grind arith)

end_was : (c : Client) (g status : ℕ) (o : Outcome) → outcome_after_end c g o ≡ WasRefused status → o ≡ WasRefused status
end_was c g status Unsettled e = absurd (no_firm false ((left_firm c g Unsettled).0 (ap is_firm e)) refl)
end_was c g status (WasOk reply) e = e
end_was c g status (WasRefused n) e = e
end_was c g status (NoSlot n) e = e
end_was c g status (NoOpen n) e = e
end_was c g status (Unknown why) e = e

finish_was : (why : Why) (status : ℕ) (o : Outcome) → outcome_after_finish why o ≡ WasRefused status → o ≡ WasRefused status
finish_was why status Unsettled e = absurd (cc)
finish_was why status (WasOk reply) e = e
finish_was why status (WasRefused n) e = e
finish_was why status (NoSlot n) e = e
finish_was why status (NoOpen n) e = e
finish_was why status (Unknown u) e = e

finished_was : (c : Client) (why : Why) (g status : ℕ) → (finish c why).outcome g ≡ WasRefused status → c.outcome g ≡ WasRefused status
finished_was c why g status =
    either (λ r. r ≡ WasRefused status → c.outcome g ≡ WasRefused status) (is_taken c g)
    (outcome_after_finish why (c.outcome g)) (c.outcome g) (λ _ q. finish_was why status (c.outcome g) q) (λ _ q. q)

was_small : (w : World) (e : Event) → Small (Was w e) w e
was_small w e =
    record {
      opens = λ k g status q. inl q;
      slotless = λ c k g l _ i. put_was w e c.outcome g (NoSlot (create_for c g)) (λ status z. not_slot (create_for c g) status z) i;
      begins_op = λ c k g i m _ j. begun_was w e c k g i j;
      asks = λ c k g m _ i. i;
      settles = λ k g asking r place o on firm t. settles_was w e k g asking r place o on t;
      answers = λ p g status q. inl q;
      joins = λ k p on g status q. inl q;
      ends = λ p _ g status q. inl (end_was (answered w.client p) g status (w.client.outcome g) q);
      cut_ends = λ k on _ g status q. inl (end_was w.client g status (w.client.outcome g) q);
      cuts = λ k on more _ g status q. inl q;
      goes = λ k te s y rest is token d g status q. inl q;
      accepts = λ k r d g status q. inl q;
      binds = λ k talks o live g status q. inl q;
      begins = λ k tree at o dead g status q. inl q;
      leaves = λ k rs g status q. inl q;
      finishes = λ why _ g status q. inl (finished_was w.client why g status q);
    }

pub was : (w : World) (e : Event) → Was w e (happens w e).client
was w e =
    client_keeps (Was w e) w e (λ h op is m. put_was w e w.client.outcome h (outcome_at_first w.client h op)
    (first_never w.client h op) (λ g status q. inl q)) (was_small w e) (λ g status q. inl q)

-- ---- the line of the table

-- a reply that settles as Refused is a refusal, by the last line of the table
pub by_table : (c : Client) (g : ℕ) (asking : Bool) (r : Reply) (status : ℕ) → heard c g asking r ≡ Settles (WasRefused status)
    → (r.status == success) ≡ false × (r.status == user_session_deleted) ≡ false × refused (c.op g) asking (c.unanswered g)
    r.status ≡ Settles (WasRefused status)
by_table c g asking r status =
    let P : Heard → Type 0 = λ h. h ≡ Settles (WasRefused status) → (r.status == success) ≡ false
    × (r.status == user_session_deleted) ≡ false × refused (c.op g) asking (c.unanswered g) r.status
    ≡ Settles (WasRefused status) in
    either P (r.status == user_session_deleted) _ _ (λ _ e. absurd (cc))
    (λ d. either P (r.status == success) (if asking then Attaches else ok_or_unknown (value_in (c.op g) r.body)) _
    (λ _. either P asking Attaches _ (λ _ e. absurd (cc)) (λ _ e. absurd (ok (value_in (c.op g) r.body) e)))
    (λ s. either P (goes_again c g asking r.status) GoesAgain _ (λ _ e. absurd (cc)) (λ _ e. (s, d, e))))
  where
    ok : (u : Option OpReply) → ok_or_unknown u ≡ Settles (WasRefused status) → ⊥
    ok None e = absurd (cc)
    ok (Some reply) e = absurd (cc)

edit_kind : (op : Op) → edits op ≡ true → is_create op ≡ false × is_lock op ≡ false × is_close op ≡ false
unfolding edits is_change
edit_kind op e = (grind arith, grind arith, grind arith)

-- an edit with an unanswered copy is a write, and its status one of the two
pub by_copy : (op : Op) (asking : Bool) (status n : ℕ) → edits op ≡ true → refused op asking true status
    ≡ Settles (WasRefused n) → is_write op ≡ true × refuses_writes status ≡ true
by_copy op asking status n ed =
    let P : Heard → Type 0 = λ h. h ≡ Settles (WasRefused n) → is_write op ≡ true × refuses_writes status ≡ true in
    either P (was_closed op asking status) _ _ (λ _ e. absurd (cc))
    (λ _. either P (may_have_acted op asking status) _ _ (λ _ e. absurd (cc))
    (λ _. either P (refuses_all op status) _ _ (λ a e. last (edit_kind op ed) a) (λ _ e. absurd (cc))))
  where
    last : (is_create op ≡ false × is_lock op ≡ false × is_close op ≡ false) → refuses_all op status ≡ true
        → is_write op ≡ true × refuses_writes status ≡ true
    last k a = let x = k.0 in let y = k.1 in split (is_create op) (is_lock op) _ _ (is_write op) (refuses_writes status) x y a
      where
        split : (a b c d e f : Bool) → a ≡ false → b ≡ false → (if a then c else if b then d else e && f) ≡ true → e ≡ true × f ≡ true
        split a b c d e f x y z = (grind arith, grind arith)
