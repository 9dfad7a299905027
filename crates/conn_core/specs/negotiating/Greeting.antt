-- What answers a NEGOTIATE in code: for a success what was chosen, and the response.
use Rattle.std.specs.Prelude.{◌≡◌, ◌≤◌, ℕ, true, List, length, Option, Some, None}
use Rattle.spec_wire.specs.messages.Negotiate.{NegotiateRequestValue, negotiate_request_in, negotiate_request_fault}
use Rattle.spec_exchange.specs.Status.{success}
use Rattle.spec_world.specs.Negotiate.{has_dialect, negotiate_status, negotiated, client_told, negotiate_response_body}
use Rattle.conn_core.specs.declared.negotiating.greeting.Hello.{Hello}

pub record IsHello (guid salt : List ℕ) (now : ℕ) (m : List ℕ) (h : Hello) : Type 0 where
  pub status : h.status ≡ negotiate_status m
  pub client : negotiate_status m ≡ success → h.client ≡ client_told m
  pub chosen : negotiate_status m ≡ success → h.chosen ≡ negotiated m
  pub body : negotiate_status m ≡ success → h.body ≡ negotiate_response_body guid salt now m

-- v is the request of the message m, which reads
pub record IsAsked (m : List ℕ) (v : NegotiateRequestValue) : Type 0 where
  pub is : v ≡ negotiate_request_in m
  pub whole : negotiate_request_fault m ≡ None

-- 0x0311 is among its dialects
abbrev pub HasDialect : List ℕ → Type 0
HasDialect m = has_dialect (negotiate_request_in m).dialects ≡ true

-- its response fits a frame
abbrev pub IsShortHello : Option Hello → Type 0
IsShortHello None = Unit {0}
IsShortHello (Some h) = length h.body ≤ 1113984
