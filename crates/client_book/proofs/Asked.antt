-- The request of a message.
use Rattle.std.proofs.Common.{◌≡◌, ℕ, ◌<◌, ◌≤◌, ◌*◌, ◌+◌, ◌/◌, ◌%◌, ◌==◌, Bool, true, false, if◌then◌else◌, refl, sym}
use Rattle.std.proofs.Common.{ap, subst, ◌∙◌, arith}
use Rattle.std.proofs.Common.{length, List, None}
use Rattle.std.proofs.lemmas.Bool.Decides.{nat_tests}
use Rattle.client_steps.specs.declared.whole_client.client.Client.{Client as Core}
use Rattle.client_ends.specs.line_calls.Sending.{IsRequest}
use Rattle.spec_exchange.specs.Client.{Client, create_for, guid_for}
use Rattle.spec_exchange.specs.Commands.{Command}
use Rattle.spec_exchange.specs.Network.{ForAttach, ForDialog, ForOp, Token}
use Rattle.spec_exchange.specs.Operations.{reconnect_of, request_of}
use Rattle.spec_exchange.specs.State.{Message}
use Rattle.client_ends.specs.ends.Shown.{token_of}
use Rattle.client_ends.specs.operation_requests.Requesting.{IsHeading, IsRequestOf}
use Rattle.client_ends.specs.declared.operation_requests.request.Heading.{Heading}
use Rattle.wire_bytes.specs.declared.headers.request.Request.{Request}
use Rattle.client_book.specs.Asking.{Asks, Heads, IsCommandFor, IsShort, message_for}

-- ---- tokens

abbrev by_tests : Bool → Bool → ℕ → Token
by_tests a b n = if a then ForDialog else if b then ForOp n else ForAttach n

not_none : (g : ℕ) → 0 < g → (g * 2 == 0) ≡ false
not_none g p = grind (arith, nat_tests)

is_even : (g : ℕ) → ((g * 2) % 2 == 0) ≡ true
is_even g = let e : (g * 2) % 2 ≡ 0 = omega arith in ap (λ (n : ℕ). n == 0) e

half : (g : ℕ) → (g * 2) / 2 ≡ g
half g = omega arith

pub own_token : (g : ℕ) → 0 < g → token_of (g * 2) ≡ ForOp g
own_token g p =
    ap (λ (a : Bool). by_tests a ((g * 2) % 2 == 0) ((g * 2) / 2)) (not_none g p)
    ∙ (ap (λ (b : Bool). by_tests false b ((g * 2) / 2)) (is_even g) ∙ ap ForOp (half g))

one_more : (g : ℕ) → (g * 2 + 1 == 0) ≡ false
one_more g = grind (arith, nat_tests)

is_odd : (g : ℕ) → ((g * 2 + 1) % 2 == 0) ≡ false
is_odd g = let e : (g * 2 + 1) % 2 ≡ 1 = omega arith in ap (λ (n : ℕ). n == 0) e

half_less : (g : ℕ) → (g * 2 + 1) / 2 ≡ g
half_less g = omega arith

pub ask_token : (g : ℕ) → token_of (g * 2 + 1) ≡ ForAttach g
ask_token g =
    ap (λ (a : Bool). by_tests a ((g * 2 + 1) % 2 == 0) ((g * 2 + 1) / 2)) (one_more g)
    ∙ (ap (λ (b : Bool). by_tests false b ((g * 2 + 1) / 2)) (is_odd g) ∙ ap ForAttach (half_less g))

-- ---- a request that is short can be sent

abbrev some_message : Heading → Command → Message
some_message h command = record {
  connection = 0;
  client_guid = 0;
  session_id = h.session;
  tree_id = h.tree;
  message_id = 0;
  channel_sequence = h.sequence;
  replay = h.replay;
  fault = None;
  command = command;
}

is_its : (h : Heading) (command : Command) → IsHeading h (some_message h command)
is_its h command = record { session = refl; tree = refl; sequence = refl; replay = refl }

pub short_one : (h : Heading) (command : Command) (r : Request) → IsRequestOf h command r → length r.body ≤ 1113996
    → IsShort h command r
short_one h command r is short =
    let m = some_message h command in
    let body = (is.messages m (is_its h command) refl).body in
    record { request = is; sends = is.sends (subst (λ (b : List ℕ). length b ≤ 1113996) body short) }

-- ---- the command of a message

pub command_is : (c : Client) (k id g : ℕ) (asking : Bool)
    → (message_for c k id g asking).command
    ≡ (if asking then reconnect_of (c.op (create_for c g)) (guid_for c (create_for c g)) (c.file (create_for c g))
    else request_of (c.op g) (guid_for c g) (c.file (create_for c g)) (c.slot_of g) (c.number_of g))
command_is c k id g true = refl
command_is c k id g false = refl

pub asked_with : (x : Core) (salt g : ℕ) (asking : Bool) (h : Heading) (command : Command) (r : Request) → Heads x g asking h
    → IsCommandFor x salt g asking command → IsShort h command r → Asks x salt g asking r
asked_with x salt g asking h command r heads is s = record {
  sends = s.sends;
  token = λ p. ap token_of s.request.token ∙ heads.token p;
  request = λ c k id shown salted p l.
      subst (λ (n : ℕ). IsRequest r (message_for c k id g asking) n) (heads.costs c shown p l)
      (s.request.messages (message_for c k id g asking) (heads.told c k id shown)
      (command_is c k id g asking ∙ sym (is c shown salted)));
}

-- ---- a row that is there

pub same : (n : ℕ) → n ≤ n
same n = omega arith

pub not_past : (g n : ℕ) → n ≤ g → g < n → ⊥
not_past g n a b = omega (arith, a, b)
