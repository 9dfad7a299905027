-- A connection's end in code shows the end of the definitions: it keeps values of the chain where they keep the messages.
use Rattle.std.specs.Prelude.{◌≡◌, ℕ, ◌≤◌, List, [], Option, Some, None, vec_capacity, is_some, true, ⊤}
use Rattle.spec_crypto.specs.declared.sessions.material.Keys.{Keys}
use Rattle.spec_crypto.specs.sessions.Chain.{chain}
use Rattle.spec_world.specs.Ends as ends
use Rattle.spec_wire.specs.declared.messages.refusal.FrameError.{FrameError}
use Rattle.spec_wire.specs.declared.messages.refusal.FrameError.TheVariants as frames
use Rattle.conn_core.specs.declared.conn.Conn.{Conn}
use Rattle.conn_core.specs.declared.conn.Greeting.{Greeting}
use Rattle.conn_core.specs.declared.end.ConnEnd.{ConnEnd}
use Rattle.conn_core.specs.declared.end.ConnEnd.TheVariants.{BadFrame, OutsideWindow, SecondNegotiate, Unsealable}
use Rattle.conn_core.specs.declared.end.ConnEnd.TheVariants.{Spent, Full, LinkFault}
use Rattle.conn_core.specs.declared.end.ConnEnd.TheVariants.{Stopped, Memory}

abbrev pub ShowsGreeting : Option Greeting → Option ends.Greeting → Type 0
ShowsGreeting None None = ⊤
ShowsGreeting (Some g) (Some h) = (h.client ≡ g.client) × (h.chosen ≡ g.chosen) × (chain h.transcript ≡ g.chain)
ShowsGreeting None (Some h) = ⊥
ShowsGreeting (Some g) None = ⊥

-- the value behind the messages of what is in the making
abbrev pub ShowsMaking : Option (List ℕ) → Option (List (List ℕ)) → Type 0
ShowsMaking None None = ⊤
ShowsMaking (Some value) (Some messages) = chain messages ≡ value
ShowsMaking None (Some messages) = ⊥
ShowsMaking (Some value) None = ⊥

-- keys of a known cipher, or of none
abbrev pub AreKnown : Option Keys → Type 0
AreKnown None = ⊤
AreKnown (Some keys) = keys.cipher ≤ 4

-- keys that seal
abbrev pub MaySeal : Option Keys → Type 0
MaySeal None = ⊥
MaySeal (Some keys) = (1 ≤ keys.cipher) × (keys.cipher ≤ 4)

-- the room of the first reply that says that memory ran out: 4 bytes of length, 52 of a transform header, 64 and 9 of the reply
abbrev pub HasSpare : Conn → Type 0
HasSpare c = (c.spare.items ≡ []) × (129 ≤ vec_capacity c.spare)

-- k is the connection's number, guid the server's
pub record ShowsEnd (k : ℕ) (guid : List ℕ) (c : Conn) (f : ends.ServerEnd) : Type 0 where
  pub number : c.id ≡ k
  pub server : c.guid ≡ guid
  pub salt : f.salt ≡ c.salt
  pub window : f.window ≡ c.window
  pub asked : f.asked ≡ c.asked
  pub heard : is_some f.greeting ≡ true → f.asked ≡ true
  pub greeting : ShowsGreeting c.logon.greeting f.greeting
  pub making : ShowsMaking c.logon.making f.making
  pub keys : f.keys ≡ c.logon.keys
  pub known : AreKnown c.logon.keys
  pub encrypts : f.encrypts ≡ c.logon.encrypts
  pub channel : f.channel ≡ c.nonces.channel
  pub counter : f.counter ≡ c.nonces.counter

-- the end in code is the definitions'; what a link or memory brings about has none there
abbrev pub IsEnd : ConnEnd → ends.ConnEnd → Type 0
IsEnd BadFrame why = why ≡ ends.BadFrame
IsEnd (OutsideWindow id) why = why ≡ ends.OutsideWindow id
IsEnd SecondNegotiate why = why ≡ ends.SecondNegotiate
IsEnd Unsealable why = why ≡ ends.Unsealable
IsEnd Spent why = why ≡ ends.Spent
IsEnd Full why = why ≡ ends.Full
IsEnd (Stopped count) why = why ≡ ends.Stopped count
IsEnd (LinkFault count) why = ⊥
IsEnd Memory why = ⊥

-- a stream that breaks ends as a bad frame
abbrev pub IsFrontEnd : FrameError → ConnEnd → Type 0
IsFrontEnd frames.Memory e = e ≡ Memory
IsFrontEnd (frames.BadLead lead) e = e ≡ BadFrame
IsFrontEnd (frames.TooLong size) e = e ≡ BadFrame
