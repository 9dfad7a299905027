-- Requests that let nobody go.
use Rattle.std.proofs.Common.{◌≡◌, ℕ, Bool, true, false, not, ◌==◌, refl, ap, subst, sym, ◌∙◌, ◌<◌, List, length, slice_index_or, Option, None, Some}
use Rattle.std.specs.Prelude.{is_some, option_map}
use Rattle.law_waiting.specs.held.Held.{would_wait}
use Rattle.store_opens.specs.declared.share_modes.lists.Range.{Range}
use Rattle.store_opens.specs.share_modes.Locking.{range_of}
use Rattle.spec_exchange.specs.CheckOpen.{file_of}
use Rattle.wait_locks.specs.Kept.{KeepsMessage, kept_message}
use Rattle.wait_locks.specs.Settled.{IsSettled}
use Rattle.wait_locks.specs.declared.waiter.Waiter.{Waiter}
use Rattle.wait_locks.proofs.Sends.{index_any}
use Rattle.spec_exchange.specs.Commands as asks
use Rattle.spec_exchange.specs.State as model
use Rattle.law_waiting.specs.held.Untouched.{leaves_file, leaves_waiters}
use Rattle.server_checks.specs.event_heard.Heard.{heard_event, without_token}
use Rattle.server_checks.specs.declared.event_heard.event.ServerEvent.{ServerEvent}
use Rattle.server_checks.specs.declared.event_heard.event.ServerEvent.TheVariants as events
use Rattle.spec_crypto.specs.tokens.Tokens.{Users}
use Rattle.spec_world.specs.Ends.{Logons}
use Rattle.wire_commands.specs.declared.values.request.Message.{Message}
use Rattle.wire_commands.specs.values.Meaning.{command_of}

-- a token isn't looked at
tokenless : (s : model.Server) (f : ℕ) (c : asks.Command) → leaves_file s f (without_token c) ≡ leaves_file s f c
tokenless s f (asks.Setup r) = refl
tokenless s f _ = refl

pub of_message : (users : Users) (L : Logons) (s : model.Server) (f : ℕ) (m : Message) → leaves_file s f (command_of m.command) ≡ true
    → leaves_waiters s f (heard_event users L s (events.Message m)) ≡ true
of_message users L s f m h = tokenless s f (command_of m.command) ∙ h

pub elsewhere : (f g h : ℕ) → g ≡ h → (f == g) ≡ false → not (f == h) ≡ true
elsewhere f g h e n = ap not (ap (λ x. f == x) (sym e) ∙ n)

pub is_not : (b : Bool) → not b ≡ true → b ≡ false
is_not true h = absurd (cc)
is_not false h = refl

-- ---- one that is known to be held up isn't free

pub settled_so : (s : model.Server) (k : Waiter) → IsSettled s k → false ≡ not (is_some (would_wait s (kept_message k)))
settled_so s k h = sym (ap not h.held)

mapped : (o : Option Range) → is_some (option_map range_of o) ≡ is_some o
mapped None = refl
mapped (Some r) = refl

twice : (b : Bool) → b ≡ not (not b)
twice true = refl
twice false = refl

pub free_where : (s : model.Server) (k : Waiter) (o : Option Range) (b : Bool) → option_map range_of o ≡ would_wait s (kept_message k)
    → is_some o ≡ not b → b ≡ not (is_some (would_wait s (kept_message k)))
free_where s k o b e n = twice b ∙ ap not (sym n ∙ sym (mapped o) ∙ ap is_some e)

pub free_there : (s : model.Server) (ws : List Waiter) (i : ℕ) (d : Waiter) → i < length ws
    → true ≡ not (is_some (would_wait s (kept_message (slice_index_or ws i d)))) → (e : Waiter)
    → is_some (would_wait s (kept_message (slice_index_or ws i e))) ≡ false
free_there s ws i d l h e =
    ap (λ k. is_some (would_wait s (kept_message k))) (index_any ws i l e d) ∙ is_not (is_some (would_wait s (kept_message (slice_index_or ws i d)))) (sym h)

-- ---- one that begins to wait, on its file

pub begun_so : (w r : Waiter) (n : ℕ) (m : model.Message) → r ≡ record w { on = n } → KeepsMessage w m 0 → KeepsMessage r m 0
begun_so w r n m e h =
    let P : Waiter → Type 0 = λ k. KeepsMessage k m 0 in
    let k : KeepsMessage (record w { on = n }) m 0 = record { message = h.message; id = h.id } in subst P (sym e) k

pub settled_on : (s : model.Server) (w r : Waiter) (n : ℕ) → r ≡ record w { on = n } → is_some (would_wait s (kept_message w)) ≡ true → n ≡ file_of s w.file
    → IsSettled s r
settled_on s w r n e h f =
    let P : Waiter → Type 0 = λ k. IsSettled s k in
    let k : IsSettled s (record w { on = n }) = record { held = h; on = f } in subst P (sym e) k
