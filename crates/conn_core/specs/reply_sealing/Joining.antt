-- Replies put into frames in code.
use Rattle.std.specs.Prelude.{◌≡◌, ℕ, ◌+◌, ◌-◌, ◌<◌, ◌≤◌, nat_le, Bool, true, false, if◌then◌else◌, List, [], ◌∷◌, ◌++◌}
use Rattle.std.specs.Prelude.{take, drop}
use Rattle.std.specs.Prelude.{Option, Some, length, replicate}
use Rattle.std.specs.Prelude.{None, Result, Ok, Err}
use Rattle.spec_wire.specs.messages.Places.{gap_to_8}
use Rattle.spec_crypto.specs.declared.sessions.material.Keys.{Keys}
use Rattle.spec_crypto.specs.sessions.Nonces.{NonceState, nonce_of, last_counter}
use Rattle.spec_crypto.specs.sessions.Sealing.{sealed}
use Rattle.spec_crypto.specs.sessions.Signing.{signed}
use Rattle.spec_crypto.specs.declared.sessions.material.Signer.{Signer}
use Rattle.spec_world.specs.Answering as answering
use Rattle.conn_core.specs.declared.reply_sealing.frames.Frames.{Frames}
use Rattle.conn_core.specs.declared.reply_sealing.frames.Placed.{Placed}
use Rattle.conn_core.specs.declared.reply_sealing.said.Said.{Said}
use Rattle.conn_core.specs.declared.end.ConnEnd.{ConnEnd}
use Rattle.conn_core.specs.declared.end.ConnEnd.TheVariants.{Spent, Unsealable}
use Rattle.conn_core.specs.Shown.{MaySeal}
use Rattle.spec_exchange.specs.Table.{is_filled}
use Rattle.conn_core.specs.reply_sealing.Saying.{IsReplySaid, all_framed, front_size, framed}

-- whether the next reply has room behind this one, of a frame whose replies before have this size
abbrev pub ReplyJoins : ℕ → ℕ → answering.SaidReply → Option Said → Option answering.SaidReply → Bool → Type 0
ReplyJoins size limit r None n joins = joins ≡ false
ReplyJoins size limit r (Some s) (Some n) joins = IsReplySaid s n → joins
    ≡ nat_le (size + answering.whole_size r + answering.said_size n) limit
ReplyJoins size limit r (Some s) None joins = Unit {0}

-- the frame's text, and the frames in front of it
abbrev pub text_of : Frames → List ℕ
text_of x = drop x.text x.out.items

abbrev pub before : Frames → List ℕ
before x = take (x.text - front_size x.sealed) x.out.items

-- the frame's text becomes the frame behind its length, as it is or sealed under the next nonce
abbrev pub FinishedBy : Bool → Frames → NonceState → Option Keys → Frames → NonceState → Type 0
FinishedBy false x nonces keys y after = (y.out.items ≡ before x ++ framed (text_of x)) × (after ≡ nonces)
FinishedBy true x nonces (Some k) y after =
    (nonces.counter < last_counter) × (y.out.items ≡ before x ++ framed (sealed k false (nonce_of nonces) (text_of x)))
    × (after ≡ record nonces { counter = nonces.counter + 1 })
FinishedBy true x nonces None y after = ⊥

pub record Finished (x : Frames) (nonces : NonceState) (keys : Option Keys) (y : Frames) (after : NonceState) : Type 0 where
  pub closed : y.open ≡ false
  pub sealed_is : y.sealed ≡ x.sealed
  pub is : FinishedBy x.sealed x nonces keys y after

-- a frame that isn't ended: no nonce is left, or the keys don't seal
abbrev pub ReplyFinishes : Frames → NonceState → Option Keys → Frames → NonceState → Result Unit ConnEnd → Type 0
ReplyFinishes x nonces keys y after (Ok u) = Finished x nonces keys y after
ReplyFinishes x nonces keys y after (Err Spent) = (x.sealed ≡ true) × (nonces.counter ≡ last_counter)
ReplyFinishes x nonces keys y after (Err Unsealable) = (x.sealed ≡ true) × (MaySeal keys → ⊥)
ReplyFinishes x nonces keys y after (Err e) = ⊥

-- a message, as it is or with its signature
abbrev pub Signs : Option Signer → List ℕ → List ℕ
Signs None m = m
Signs (Some s) m = signed s m

-- a transform header's room and a text, sealed under the next nonce
abbrev pub SealsText : Keys → List ℕ → NonceState → List ℕ → NonceState → Result Unit ConnEnd → Type 0
SealsText k x nonces y after (Ok u) =
    (nonces.counter < last_counter) × (after ≡ record nonces { counter = nonces.counter + 1 })
    × (y ≡ sealed k false (nonce_of nonces) (drop 52 x))
SealsText k x nonces y after (Err Spent) = (nonces.counter ≡ last_counter) × (after ≡ nonces) × (y ≡ x)
SealsText k x nonces y after (Err e) = ⊥

-- the same of the bytes from a place on
abbrev pub SealsAt : ℕ → List ℕ → NonceState → Option Keys → List ℕ → NonceState → Result Unit ConnEnd → Type 0
SealsAt from x nonces (Some k) y after (Ok u) =
    (nonces.counter < last_counter) × (after ≡ record nonces { counter = nonces.counter + 1 })
    × (y ≡ take from x ++ sealed k false (nonce_of nonces) (drop (from + 52) x))
SealsAt from x nonces (Some k) y after (Err Spent) = (nonces.counter ≡ last_counter) × (after ≡ nonces) × (y ≡ x)
SealsAt from x nonces keys y after (Err Unsealable) = MaySeal keys → ⊥
SealsAt from x nonces keys y after result = ⊥

-- ---- replies as they are written one after the other: each knows whether the next one has room behind it

-- front are the texts of the frame that is open, of this size
unfoldable pub reply_rows : Bool → List (List ℕ) → ℕ → List answering.SaidReply → List (List (List ℕ))
reply_rows sealed front size [] = []
reply_rows sealed front size (r ∷ []) = (front ++ answering.said_text sealed false r ∷ []) ∷ []
reply_rows sealed front size (r ∷ next ∷ rs) =
    if nat_le (size + answering.whole_size r + answering.said_size next) (answering.text_limit sealed)
    then reply_rows sealed (front ++ answering.said_text sealed true r ∷ []) (size + answering.whole_size r) (next ∷ rs)
    else (front ++ answering.said_text sealed false r ∷ []) ∷ reply_rows sealed [] 0 (next ∷ rs)

-- ---- what is written so far: frames that are done, and the texts of one that is open

-- the frames of these texts, sealed under the nonces from the first on
abbrev pub frames_of : Bool → Option Keys → NonceState → List (List ℕ) → List (List ℕ)
frames_of false keys first texts = texts
frames_of true None first texts = []
frames_of true (Some keys) first texts = answering.sealed_each keys first.channel first.counter texts

abbrev pub nonces_behind : Bool → NonceState → ℕ → NonceState
nonces_behind sealed first count = if sealed then record first { counter = first.counter + count } else first

abbrev pub open_part : Bool → List (List ℕ) → List ℕ
open_part sealed [] = []
open_part sealed (t ∷ ts) = replicate (front_size sealed) 0 ++ answering.concatenated (t ∷ ts)

pub record IsWritten (keys : Option Keys) (first : NonceState) (x : Frames) (nonces : NonceState) (done : List (List ℕ))
    (front : List (List ℕ)) : Type 0 where
  pub out : x.out.items ≡ all_framed (frames_of x.sealed keys first done) ++ open_part x.sealed front
  pub is_open : x.open ≡ is_filled front
  pub text : x.open ≡ true → x.text + length (answering.concatenated front) ≡ length x.out.items
  pub nonces_are : nonces ≡ nonces_behind x.sealed first (length done)

-- one reply more, behind which another one goes on in its frame or not
abbrev pub ReplyAdds : Option Keys → NonceState → Frames → NonceState → List (List ℕ) → List (List ℕ) → Bool → List ℕ → Type 0
ReplyAdds keys first x nonces done front true text = IsWritten keys first x nonces done (front ++ text ∷ [])
ReplyAdds keys first x nonces done front false text = IsWritten keys first x nonces
    (done ++ answering.concatenated (front ++ text ∷ []) ∷ []) []

-- whether another reply has room behind this one, in a frame whose replies before have this size
abbrev pub joins_next : Bool → ℕ → answering.SaidReply → Option answering.SaidReply → Bool
joins_next sealed size r None = false
joins_next sealed size r (Some n) = nat_le (size + answering.whole_size r + answering.said_size n) (answering.text_limit sealed)

abbrev pub NextIs : Option Said → Option answering.SaidReply → Type 0
NextIs None None = Unit {0}
NextIs (Some s) (Some n) = IsReplySaid s n
NextIs None (Some n) = ⊥
NextIs (Some s) None = ⊥

-- room for so many bytes more in the frame that is open
abbrev pub HasReplyRoom : Frames → ℕ → Type 0
HasReplyRoom x more = (x.open ≡ true) × (front_size x.sealed ≤ x.text) × (x.text ≤ length x.out.items)
    × (length x.out.items + more ≤ x.text + answering.text_limit x.sealed)

abbrev pub FitsOpen : Frames → ℕ → Type 0
FitsOpen x more = x.open ≡ true → HasReplyRoom x more

-- behind a text of this size the next reply has room behind s
abbrev pub HasNext : ℕ → ℕ → Said → Option Said → Type 0
HasNext size limit s None = ⊥
HasNext size limit s (Some n) =
    size + (64 + length s.body.now + gap_to_8 (64 + length s.body.now)) + (64 + length n.body.now) ≤ limit

-- behind a reply the next one has room, or the frame may end
abbrev pub RoomBehind : Frames → Bool → Option Said → Type 0
RoomBehind x false next = HasReplyRoom x 0
RoomBehind x true None = ⊥
RoomBehind x true (Some s) = HasReplyRoom x (64 + length s.body.now)

-- a frame is open, front its texts
pub record IsReplyBegun (keys : Option Keys) (first : NonceState) (x : Frames) (nonces : NonceState) (done : List (List ℕ))
    (front : List (List ℕ)) : Type 0 where
  pub out : x.out.items ≡ all_framed (frames_of x.sealed keys first done)
      ++ (replicate (front_size x.sealed) 0 ++ answering.concatenated front)
  pub is_open : x.open ≡ true
  pub text : x.text + length (answering.concatenated front) ≡ length x.out.items
  pub nonces_are : nonces ≡ nonces_behind x.sealed first (length done)

-- the reply r was put, behind which n goes on or not
pub record IsPlaced (keys : Option Keys) (first : NonceState) (sealed : Bool) (x : Frames) (nonces : NonceState) (done : List (List ℕ))
    (front : List (List ℕ)) (r : answering.SaidReply) (n : Option answering.SaidReply) (p : Placed) : Type 0 where
  pub more : p.more ≡ joins_next sealed (length (answering.concatenated front)) r n
  pub text : take (p.span.end - p.span.start) (drop p.span.start x.out.items) ≡ answering.said_text sealed p.more r
  pub size : p.more ≡ true → length (answering.said_text sealed p.more r) ≡ answering.whole_size r
  pub written : IsReplyBegun keys first x nonces done (front ++ answering.said_text sealed p.more r ∷ [])

-- the frame goes on, or is ended; else no nonce is left, or the keys don't seal
abbrev pub ReplyEndsBy : Option Keys → NonceState → Bool → Bool → NonceState → Frames → NonceState → List (List ℕ) → List (List ℕ) → List ℕ
    → Result Unit ConnEnd → Type 0
ReplyEndsBy keys first sealed more nonces x after done front t (Ok u) =
    ReplyAdds keys first x after done front more t × (more ≡ false → sealed ≡ true → nonces.counter < last_counter)
ReplyEndsBy keys first sealed more nonces x after done front t (Err Spent) =
    (more ≡ false) × (sealed ≡ true) × (nonces.counter ≡ last_counter)
ReplyEndsBy keys first sealed more nonces x after done front t (Err Unsealable) = (sealed ≡ true) × (MaySeal keys → ⊥)
ReplyEndsBy keys first sealed more nonces x after done front t (Err e) = ⊥
