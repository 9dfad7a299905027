-- The channels that were numbered, and the successes of bindings that come.
use Rattle.std.proofs.Common.{◌≡◌, ℕ, ◌≤◌, ◌==◌, true, List, [], ◌∷◌, refl, sym, ◌∙◌, arith, Some}
use Rattle.spec_exchange.specs.Table.{put}
use Rattle.spec_exchange.specs.Status.{success}
use Rattle.spec_exchange.specs.State.{Message}
use Rattle.spec_exchange.specs.Client.{Stage, SaidSecond}
use Rattle.spec_exchange.specs.ClientStep.{Act, Nothing, Sends, Asks, CloseChannel, CloseChannels, AllSettled}
use Rattle.spec_exchange.specs.Network.{Token}
use Rattle.spec_world.specs.Messages.{HeardMessage}
use Rattle.spec_world.specs.Ends.{ClientEnd}
use Rattle.spec_world.specs.Sending.{line_frame, spent, sealed_on}
use Rattle.spec_world.specs.Dialog.{response_in}
use Rattle.spec_world.specs.World.{World, Wires, with_client_end, queued, line_sent, client_end_off, all_off, one_off, closed_wires, off_by}
use Rattle.law_nonces.proofs.negotiation.Tables.{by_key}
use Rattle.law_runs.proofs.binding_room.Few.{IsFew, few_by}

-- ---- the success of a binding comes

abbrev pub Comes : Wires → Type 0
Comes u =
    (a : List ℕ) × (y : HeardMessage) × (u.client_end.stage ≡ SaidSecond true) × (u.down ≡ a ∷ []) × (response_in (Some a) ≡ Some y)
    × ((y.header.status == success) ≡ true)

pub none_comes : {X : Type 0} (u : Wires) → u.down ≡ [] → Comes u → X
none_comes u e (a, y, s, d, r, ok) = absurd (let h : [] ≡ a ∷ [] = sym e ∙ d in cc)

pub not_second : {X : Type 0} (u : Wires) (stage : Stage) → u.client_end.stage ≡ stage → (stage ≡ SaidSecond true → ⊥) → Comes u → X
not_second u stage e off (a, y, s, d, r, ok) = absurd (off (sym e ∙ s))

-- ---- the whole world

abbrev pub Rooms : (ℕ → ℕ) → ℕ → ℕ → (ℕ → Wires) → Type 0
Rooms drawn session numbers wires = IsFew (λ j. Comes (wires j)) numbers (drawn session)

abbrev pub RoomsOf : (ℕ → ℕ) → World → Type 0
RoomsOf drawn w = Rooms drawn w.keys.session w.numbers w.wires

pub same_low : (n : ℕ) → n ≤ n
same_low n = omega arith

pub one : (drawn : ℕ → ℕ) (session numbers : ℕ) (wires : ℕ → Wires) (k : ℕ) (u : Wires) → (Comes u → Comes (wires k))
    → Rooms drawn session numbers wires → Rooms drawn session numbers (put wires k u)
one drawn session numbers wires k u f h =
    few_by (λ j. Comes (wires j)) (λ j. Comes (put wires k u j)) numbers (drawn session) (drawn session)
    (by_key (λ j (v : Wires). Comes v → Comes (wires j)) wires k u f (λ j off c. c)) (same_low (drawn session)) h

-- ---- ends that close, and what goes up

pub one_closed : (drawn : ℕ → ℕ) (x : World) (k : ℕ) → RoomsOf drawn x → RoomsOf drawn (one_off x k)
one_closed drawn x k h =
    one drawn x.keys.session x.numbers x.wires k (client_end_off (x.wires k)) (λ c. none_comes (client_end_off (x.wires k)) refl c) h

pub all_closed : (drawn : ℕ → ℕ) (x : World) → RoomsOf drawn x → RoomsOf drawn (all_off x)
all_closed drawn x h =
    few_by (λ j. Comes (x.wires j)) (λ j. Comes (client_end_off (x.wires j))) x.numbers (drawn x.keys.session) (drawn x.keys.session)
    (λ j c. none_comes (client_end_off (x.wires j)) refl c) (same_low (drawn x.keys.session)) h

pub closed : (drawn : ℕ → ℕ) (x : World) (k : ℕ) (a : Act) → RoomsOf drawn x → RoomsOf drawn (closed_wires x k a)
closed drawn x k CloseChannels h = all_closed drawn x h
closed drawn x k CloseChannel h = one_closed drawn x k h
closed drawn x k Nothing h = h
closed drawn x k (Sends g) h = h
closed drawn x k (Asks g) h = h
closed drawn x k AllSettled h = h

pub off_closed : (drawn : ℕ → ℕ) (x : World) (k : ℕ) (a : Act) → RoomsOf drawn x → RoomsOf drawn (off_by x k a)
off_closed drawn x k CloseChannels h = all_closed drawn x h
off_closed drawn x k CloseChannel h = one_closed drawn x k h
off_closed drawn x k Nothing h = one_closed drawn x k h
off_closed drawn x k (Sends g) h = one_closed drawn x k h
off_closed drawn x k (Asks g) h = one_closed drawn x k h
off_closed drawn x k AllSettled h = one_closed drawn x k h

pub line : (drawn : ℕ → ℕ) (x : World) (k : ℕ) (token : Token) (m : Message) (n : ℕ) → RoomsOf drawn x
    → RoomsOf drawn (line_sent x k token m n)
line drawn x k token m n h =
    one drawn x.keys.session x.numbers x.wires k
    (queued (x.wires k) (sealed_on (spent (x.wires k).client_end n token)) (line_frame (x.wires k).client_end m n)) (λ c. c) h

pub moved : (drawn : ℕ → ℕ) (x : World) (k : ℕ) (n : ClientEnd)
    → (Comes (record (x.wires k) { client_end = n }) → Comes (x.wires k)) → RoomsOf drawn x → RoomsOf drawn (with_client_end x k n)
moved drawn x k n f h = one drawn x.keys.session x.numbers x.wires k (record (x.wires k) { client_end = n }) f h
