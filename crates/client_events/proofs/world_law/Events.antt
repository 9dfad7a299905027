-- Each event.
use Rattle.std.proofs.Common.{◌≡◌, ℕ, ◌+◌, ◌<◌, ◌≤◌, ◌==◌, Bool, true, false, if◌then◌else◌, refl, sym, subst, arith}
use Rattle.std.proofs.lemmas.Bool.Decides.{nat_tests}
use Rattle.spec_exchange.specs.Operations.{Op, keeps_limits}
use Rattle.spec_exchange.specs.Client.{Client, Identity, begin_session, bind_channel, cut_channel, end_session, ends_at_cut, leave_dialog}
use Rattle.spec_exchange.specs.Client.{may_take, take_op}
use Rattle.spec_exchange.specs.ClientStep.{ClientEvent, Finishes, Hears, IsCut, IsReady, IsRefused, Pushes, TakesOp, becomes_ready}
use Rattle.spec_exchange.specs.ClientStep.{client_after, cut_after, ready_after}
use Rattle.spec_exchange.specs.Network.{new_client}
use Rattle.client_events.specs.world_law.Asking.{AsksFit}
use Rattle.client_events.proofs.world_law.Tests.{either, front_of, back_of}
use Rattle.client_events.proofs.world_law.Pushes.{pushed}
use Rattle.client_events.proofs.world_law.Responses.{responded, session_ends}

-- ---- an operation is taken

is_same : (n k : ℕ) → (n == k) ≡ true → n ≡ k
is_same n k h = grind (arith, nat_tests)

is_other : (n k : ℕ) → (n == k) ≡ false → n ≡ k → ⊥
is_other n k h e = grind (arith, nat_tests)

one_less : (x t g : ℕ) → (x ≡ g → ⊥) → g ≡ t + 1 → x ≤ g → x ≤ t
one_less x t g d e l = omega (arith, d, e, l)

limits_stay : (b : Bool) (new old : Op) → (b ≡ true → keeps_limits new ≡ true) → (b ≡ false → keeps_limits old ≡ true)
    → keeps_limits (if b then new else old) ≡ true
limits_stay true new old f g = f refl
limits_stay false new old f g = g refl

takes : (c : Client) (g : ℕ) (op : Op) → may_take c g op ≡ true → AsksFit c → AsksFit (take_op c g op)
takes c g op m f =
    let next : g ≡ c.taken + 1 = is_same g (c.taken + 1) (front_of (g == c.taken + 1) _ m) in
    let limits : keeps_limits op ≡ true = front_of (keeps_limits op) _ (back_of (g == c.taken + 1) _ m) in
    record {
      kept = λ x low high. limits_stay (x == g) op (c.op x) (λ e. limits)
          (λ e. f.kept x low (one_less x c.taken g (is_other x g e) next high));
      slots = f.slots;
      numbers = f.numbers;
    }

-- ---- channels

cuts : (c : Client) (k : ℕ) → AsksFit c → AsksFit (cut_after c k)
cuts c k f =
    either (c.ready k) (if ends_at_cut c then end_session c else cut_channel c k) c
    (λ e. either (ends_at_cut c) (end_session c) (cut_channel c k) (λ d. session_ends c f)
    (λ d. record { kept = f.kept; slots = f.slots; numbers = f.numbers })) (λ e. f)

readies : (c : Client) (k session tree : ℕ) → AsksFit c → AsksFit (ready_after c k session tree)
readies c k session tree f =
    either (becomes_ready c session) (if c.live then bind_channel c k else begin_session c k session tree) (leave_dialog c k)
    (λ e. either c.live (bind_channel c k) (begin_session c k session tree)
    (λ d. record { kept = f.kept; slots = f.slots; numbers = f.numbers })
    (λ d. record { kept = f.kept; slots = f.slots; numbers = f.numbers }))
    (λ e. record { kept = f.kept; slots = f.slots; numbers = f.numbers })

-- ---- all of them

pub asks_on : (c : Client) (e : ClientEvent) → AsksFit c → AsksFit (client_after c e)
asks_on c (TakesOp g op) f = either (may_take c g op) (take_op c g op) c (λ m. takes c g op m f) (λ m. f)
asks_on c (Pushes k slotless pick) f = pushed c k slotless pick f
asks_on c (Hears k g asking reply place) f = responded c k g asking reply place f
asks_on c (IsCut k) f = cuts c k f
asks_on c (IsReady k session tree) f = readies c k session tree f
asks_on c (IsRefused k why) f = record { kept = f.kept; slots = f.slots; numbers = f.numbers }
asks_on c (Finishes why) f = record { kept = f.kept; slots = f.slots; numbers = f.numbers }

none_taken : (g : ℕ) → 0 < g → g ≤ 0 → ⊥
none_taken g low high = omega (arith, low, high)

no_slot : 0 ≤ 64
no_slot = omega arith

no_number : 0 < 16
no_number = omega arith

pub asks_first : (who : Identity) → AsksFit (new_client who)
asks_first who = record {
  kept = λ g low high. absurd (none_taken g low high);
  slots = λ g. no_slot;
  numbers = λ g. no_number;
}

pub asks_alike : (c d : Client) → d.taken ≡ c.taken → d.op ≡ c.op → d.slot_of ≡ c.slot_of → d.number_of ≡ c.number_of → AsksFit c
    → AsksFit d
asks_alike c d t o s n f = record {
  kept = λ g low high.
      subst (λ (op : ℕ → Op). keeps_limits (op g) ≡ true) (sym o) (f.kept g low (subst (λ (x : ℕ). g ≤ x) t high));
  slots = λ g. subst (λ (slot : ℕ → ℕ). slot g ≤ 64) (sym s) (f.slots g);
  numbers = λ g. subst (λ (number : ℕ → ℕ). number g < 16) (sym n) (f.numbers g);
}
