-- Frames that are done, and the texts of one that is open: it is begun, has one reply more, and ends.
use Rattle.std.proofs.Common.{◌≡◌, ℕ, ◌+◌, ◌-◌, ◌<◌, ◌≤◌, Bool, true, false, List, [], ◌∷◌, ◌++◌, append_assoc, length}
use Rattle.std.proofs.Common.{length-append, take, drop, replicate, Option, Some, None, Result, Ok, Err, OnOk, refl}
use Rattle.std.proofs.Common.{sym, ap, subst, ◌∙◌, arith}
use Rattle.std.proofs.lemmas.List.{append-nil, take_at, take_all, drop_at, length-replicate}
use Rattle.spec_wire.specs.messages.Places.{gap_to_8}
use Rattle.spec_exchange.specs.Table.{is_filled}
use Rattle.spec_crypto.specs.declared.sessions.material.Keys.{Keys}
use Rattle.spec_crypto.specs.sessions.Nonces.{NonceState, nonce_of, last_counter}
use Rattle.spec_crypto.specs.sessions.Sealing.{sealed}
use Rattle.spec_world.specs.Answering as answering
use Rattle.spec_world.specs.Answering.{concatenated, sealed_each}
use Rattle.spec_world.specs.Ends.{nonce_at}
use Rattle.conn_core.specs.declared.reply_sealing.frames.Frames.{Frames}
use Rattle.conn_core.specs.declared.reply_sealing.said.Said.{Said}
use Rattle.conn_core.specs.reply_sealing.Saying.{IsReplySaid, all_framed, framed, front_size}
use Rattle.conn_core.specs.reply_sealing.Joining.{ReplyEndsBy, Finished, FinishedBy, ReplyFinishes, HasNext}
use Rattle.conn_core.specs.reply_sealing.Joining.{HasReplyRoom, IsReplyBegun, IsPlaced, IsWritten, ReplyJoins}
use Rattle.conn_core.specs.reply_sealing.Joining.{NextIs, RoomBehind, before, frames_of, joins_next, nonces_behind, open_part, text_of}
use Rattle.conn_core.specs.declared.reply_sealing.frames.Placed.{Placed}
use Rattle.conn_core.specs.declared.end.ConnEnd.{ConnEnd}
use Rattle.conn_core.specs.declared.end.ConnEnd.TheVariants.{BadFrame, OutsideWindow, SecondNegotiate, Unsealable}
use Rattle.conn_core.specs.declared.end.ConnEnd.TheVariants.{Spent, Full, LinkFault, Stopped, Memory}
use Rattle.conn_core.proofs.reply_sealing.Sealings.{framed_more, sealed_more}

-- ---- lists

pub concatenated_more : (ts : List (List ℕ)) (t : List ℕ) → concatenated (ts ++ t ∷ []) ≡ concatenated ts ++ t
unfolding concatenated
concatenated_more [] t = append-nil t
concatenated_more (x ∷ xs) t =
    ap (λ (l : List ℕ). x ++ l) (concatenated_more xs t) ∙ sym (append_assoc x (concatenated xs) t)

filled_more : (ts : List (List ℕ)) (t : List ℕ) → is_filled (ts ++ t ∷ []) ≡ true
unfolding is_filled
filled_more [] t = refl
filled_more (x ∷ xs) t = refl

open_filled : (s : Bool) (front : List (List ℕ)) → is_filled front ≡ true
    → open_part s front ≡ replicate (front_size s) 0 ++ concatenated front
unfolding is_filled
open_filled s [] e = absurd (cc)
open_filled s (t ∷ ts) e = refl

none_filled : (front : List (List ℕ)) → is_filled front ≡ false → front ≡ []
unfolding is_filled
none_filled [] e = refl
none_filled (t ∷ ts) e = absurd (cc)

nothing : concatenated {X = ℕ} [] ≡ []
unfolding concatenated
nothing = refl

-- ---- a frame is begun

abbrev done_part : Option Keys → NonceState → List (List ℕ) → Bool → List ℕ
done_part keys first done s = all_framed (frames_of s keys first done)

abbrev whole_part : Option Keys → NonceState → List (List ℕ) → List (List ℕ) → Bool → List ℕ
whole_part keys first done front s = done_part keys first done s ++ (replicate (front_size s) 0 ++ concatenated front)

-- that was begun before
pub begun_before : (keys : Option Keys) (first : NonceState) (x : Frames) (nonces : NonceState) (done front : List (List ℕ)) → x.open ≡ true
    → IsWritten keys first x nonces done front → IsReplyBegun keys first x nonces done front
begun_before keys first x nonces done front shown w = record {
  out = w.out ∙ ap (λ (l : List ℕ). done_part keys first done x.sealed ++ l) (open_filled x.sealed front (sym w.is_open ∙ shown));
  is_open = shown;
  text = w.text shown;
  nonces_are = w.nonces_are;
}

-- a new one
pub begun_now : (keys : Option Keys) (first : NonceState) (x y : Frames) (nonces : NonceState) (done front : List (List ℕ))
    → x.open ≡ false → y.sealed ≡ x.sealed → y.open ≡ true → y.out.items ≡ x.out.items ++ replicate (front_size x.sealed) 0
    → y.text ≡ length y.out.items → IsWritten keys first x nonces done front → IsReplyBegun keys first y nonces done front
begun_now keys first x y nonces done front shut same opened e at w =
    let none : front ≡ [] = none_filled front (sym w.is_open ∙ shut) in
    let some : concatenated front ≡ [] = ap (λ (ts : List (List ℕ)). concatenated ts) none ∙ nothing in
    let zeros : List ℕ = replicate (front_size x.sealed) 0 in
    let part : List ℕ = done_part keys first done x.sealed in
    let old : x.out.items ≡ part =
    w.out ∙ (ap (λ (ts : List (List ℕ)). part ++ open_part x.sealed ts) none ∙ append-nil part) in
    let out : y.out.items ≡ part ++ (zeros ++ concatenated front) =
    e ∙ (ap (λ (l : List ℕ). l ++ zeros) old
    ∙ ap (λ (l : List ℕ). part ++ l) (sym (append-nil zeros) ∙ ap (λ (l : List ℕ). zeros ++ l) (sym some))) in
    let size : length (concatenated front) ≡ 0 = ap length some in
    record {
      out = out ∙ ap (λ (s : Bool). whole_part keys first done front s) (sym same);
      is_open = opened;
      text = omega (arith, at, size);
      nonces_are = w.nonces_are ∙ ap (λ (s : Bool). nonces_behind s first (length done)) (sym same);
    }

few_limit : (s : Bool) → 1114060 ≤ answering.text_limit s
few_limit true = omega arith
few_limit false = omega arith

pub room_now : (s : Bool) (out old : List ℕ) (text size : ℕ) → size ≤ 1114060 → out ≡ old ++ replicate (front_size s) 0
    → text ≡ length out → (front_size s ≤ text) × (text ≤ length out) × (length out + size ≤ text + answering.text_limit s)
room_now s out old text size few e at =
    let zeros : List ℕ = replicate (front_size s) 0 in
    let room : length zeros ≡ front_size s = length-replicate (front_size s) 0 in
    let long : length out ≡ length old + length zeros = ap length e ∙ length-append old zeros in
    let limit = few_limit s in
    (omega (arith, at, long, room), omega (arith, at), omega (arith, at, few, limit))

-- ---- one reply more

-- room behind it
pub room_behind : (x y : Frames) (s : Said) (next : Option Said) (more : Bool) → HasReplyRoom x (64 + length s.body.now)
    → y.sealed ≡ x.sealed
    → y.text ≡ x.text → y.open ≡ x.open
    → length y.out.items ≡ length x.out.items + (64 + length s.body.now + answering.padding_if more (64 + length s.body.now))
    → (more ≡ true → HasNext (length x.out.items - x.text) (answering.text_limit x.sealed) s next) → RoomBehind y more next
room_behind x y s next false room same at shown size fits =
    let front : front_size y.sealed ≡ front_size x.sealed = ap front_size same in
    let limit : answering.text_limit y.sealed ≡ answering.text_limit x.sealed = ap answering.text_limit same in
    let a = room.1 in
    let b = room.2 in
    let d = room.3 in
    (shown ∙ room.0, omega (arith, a, front, at), omega (arith, b, at, size), omega (arith, d, limit, at, size))
room_behind x y s None true room same at shown size fits = absurd (fits refl)
room_behind x y s (Some n) true room same at shown size fits =
    let front : front_size y.sealed ≡ front_size x.sealed = ap front_size same in
    let limit : answering.text_limit y.sealed ≡ answering.text_limit x.sealed = ap answering.text_limit same in
    let a = room.1 in
    let b = room.2 in
    let more = fits refl in
    (shown ∙ room.0, omega (arith, a, front, at), omega (arith, b, at, size), omega (arith, b, limit, at, size, more))

pub put_more : (keys : Option Keys) (first : NonceState) (x y : Frames) (nonces : NonceState) (done front : List (List ℕ)) (t : List ℕ)
    → y.sealed ≡ x.sealed → y.text ≡ x.text → y.open ≡ x.open → y.out.items ≡ x.out.items ++ t → IsReplyBegun keys first x nonces done front
    → IsReplyBegun keys first y nonces done (front ++ t ∷ [])
put_more keys first x y nonces done front t same at shown e b =
    let zeros : List ℕ = replicate (front_size x.sealed) 0 in
    let part : List ℕ = done_part keys first done x.sealed in
    let out : y.out.items ≡ part ++ (zeros ++ concatenated (front ++ t ∷ [])) =
    e ∙ (ap (λ (l : List ℕ). l ++ t) b.out
    ∙ (append_assoc part (zeros ++ concatenated front) t
    ∙ ap (λ (l : List ℕ). part ++ l) (append_assoc zeros (concatenated front) t
    ∙ ap (λ (l : List ℕ). zeros ++ l) (sym (concatenated_more front t))))) in
    let size : length y.out.items ≡ length x.out.items + length t = ap length e ∙ length-append x.out.items t in
    let more : length (concatenated (front ++ t ∷ [])) ≡ length (concatenated front) + length t =
    ap length (concatenated_more front t) ∙ length-append (concatenated front) t in
    let text = b.text in
    record {
      out = out ∙ ap (λ (s : Bool). whole_part keys first done (front ++ t ∷ []) s) (sym same);
      is_open = shown ∙ b.is_open;
      text = omega (arith, size, more, text, at);
      nonces_are = b.nonces_are ∙ ap (λ (s : Bool). nonces_behind s first (length done)) (sym same);
    }

-- the text of the reply that was put
pub put_text : (old new t : List ℕ) (start end : ℕ) → new ≡ old ++ t → start ≡ length old → end ≡ length new
    → take (end - start) (drop start new) ≡ t
put_text old new t start end e s n =
    let rest : drop start new ≡ t = ap (λ (l : List ℕ). drop start l) e ∙ drop_at old t start (sym s) in
    let size : length new ≡ length old + length t = ap length e ∙ length-append old t in
    let all : length t ≤ end - start = omega (arith, size, s, n) in
    ap (λ (l : List ℕ). take (end - start) l) rest ∙ take_all (end - start) t all

-- whether the next one goes on
pub joins_is : (s : Bool) (size : ℕ) (r : answering.SaidReply) (next : Option Said) (n : Option answering.SaidReply) (more : Bool)
    → NextIs next n → ReplyJoins size (answering.text_limit s) r next n more → more ≡ joins_next s size r n
joins_is s size r None None more follows h = h
joins_is s size r (Some x) (Some n) more follows h = h follows
joins_is s size r None (Some n) more follows h = absurd follows
joins_is s size r (Some x) None more follows h = absurd follows

-- all of it: y is the frame before the reply, z behind it
pub placed_is : (keys : Option Keys) (first : NonceState) (sealed : Bool) (y z : Frames) (nonces : NonceState)
    (done front : List (List ℕ)) (s : Said) (r : answering.SaidReply) (next : Option Said) (n : Option answering.SaidReply) (p : Placed)
    → y.sealed ≡ sealed → IsReplyBegun keys first y nonces done front → IsReplySaid s r → NextIs next n
    → ReplyJoins (length y.out.items - y.text) (answering.text_limit y.sealed) r next n p.more
    → z.sealed ≡ y.sealed → z.text ≡ y.text → z.open ≡ y.open
    → length z.out.items ≡ length y.out.items + (64 + length s.body.now + answering.padding_if p.more (64 + length s.body.now))
    → z.out.items ≡ y.out.items ++ answering.said_text y.sealed p.more r → p.span.start ≡ length y.out.items
    → p.span.end ≡ length z.out.items → IsPlaced keys first sealed z nonces done front r n p
placed_is keys first sealed y z nonces done front s r next n p is b said follows joins same at shown size e starts ends_at =
    let t : List ℕ = answering.said_text sealed p.more r in
    let put : z.out.items ≡ y.out.items ++ t =
    e ∙ ap (λ (b : Bool). y.out.items ++ answering.said_text b p.more r) is in
    let text = b.text in
    let before_it : length y.out.items - y.text ≡ length (concatenated front) = omega (arith, text) in
    let long : length z.out.items ≡ length y.out.items + length t = ap length put ∙ length-append y.out.items t in
    let body : length r.body ≡ length s.body.now = ap length said.body in
    let due : length t ≡ 64 + length s.body.now + answering.padding_if p.more (64 + length s.body.now) = omega (arith, long, size) in
    record {
      more = joins_is sealed (length (concatenated front)) r next n p.more follows
          (subst (λ (b : Bool). ReplyJoins (length (concatenated front)) (answering.text_limit b) r next n p.more) is
          (subst (λ (k : ℕ). ReplyJoins k (answering.text_limit y.sealed) r next n p.more) before_it joins));
      text = put_text y.out.items z.out.items t p.span.start p.span.end put starts ends_at;
      size = λ goes. due
          ∙ (ap (λ (b : Bool). 64 + length s.body.now + answering.padding_if b (64 + length s.body.now)) goes
          ∙ ap (λ (k : ℕ). 64 + k + gap_to_8 (64 + k)) (sym body));
      written = put_more keys first y z nonces done front t same at shown put b;
    }

-- the frame goes on
pub goes_on : (keys : Option Keys) (first : NonceState) (x : Frames) (nonces : NonceState) (done front : List (List ℕ)) (t : List ℕ)
    → IsReplyBegun keys first x nonces done (front ++ t ∷ []) → IsWritten keys first x nonces done (front ++ t ∷ [])
goes_on keys first x nonces done front t b = record {
  out = b.out
      ∙ ap (λ (l : List ℕ). done_part keys first done x.sealed ++ l) (sym (open_filled x.sealed (front ++ t ∷ []) (filled_more front t)));
  is_open = b.is_open ∙ sym (filled_more front t);
  text = λ _. b.text;
  nonces_are = b.nonces_are;
}

-- ---- the frame ends

-- its text, and the frames in front of it
parts_are : (keys : Option Keys) (first : NonceState) (x : Frames) (nonces : NonceState) (done front : List (List ℕ))
    → IsReplyBegun keys first x nonces done front
    → (before x ≡ done_part keys first done x.sealed) × (text_of x ≡ concatenated front)
parts_are keys first x nonces done front b =
    let zeros : List ℕ = replicate (front_size x.sealed) 0 in
    let part : List ℕ = done_part keys first done x.sealed in
    let text : List ℕ = concatenated front in
    let room : length zeros ≡ front_size x.sealed = length-replicate (front_size x.sealed) 0 in
    let size : length x.out.items ≡ length part + (length zeros + length text) =
    ap length b.out ∙ (length-append part (zeros ++ text) ∙ ap (λ (n : ℕ). length part + n) (length-append zeros text)) in
    let at = b.text in
    let place : length part ≡ x.text - front_size x.sealed = omega (arith, room, size, at) in
    let joined : x.out.items ≡ (part ++ zeros) ++ text = b.out ∙ sym (append_assoc part zeros text) in
    let front_long : length (part ++ zeros) ≡ x.text = omega (arith, length-append part zeros, room, size, at) in (
      ap (λ (l : List ℕ). take (x.text - front_size x.sealed) l) b.out ∙ take_at part (zeros ++ text) (x.text - front_size x.sealed) place,
      ap (λ (l : List ℕ). drop x.text l) joined ∙ drop_at (part ++ zeros) text x.text front_long,
    )

-- by the seal: the bytes, and the nonces behind them
ended_by : (s : Bool) (keys : Option Keys) (first : NonceState) (x y : Frames) (nonces after : NonceState) (done : List (List ℕ))
    (text : List ℕ) → before x ≡ done_part keys first done s → text_of x ≡ text → nonces ≡ nonces_behind s first (length done)
    → FinishedBy s x nonces keys y after
    → (y.out.items ≡ all_framed (frames_of s keys first (done ++ text ∷ []))) × (after ≡ nonces_behind s first (length (done ++ text ∷ [])))
ended_by false keys first x y nonces after done text e t n h = (
  h.0
      ∙ (ap (λ (l : List ℕ). l ++ framed (text_of x)) e
      ∙ (ap (λ (l : List ℕ). all_framed done ++ framed l) t ∙ sym (framed_more done text))),
  h.1 ∙ n,
)
ended_by true None first x y nonces after done text e t n h = absurd h
ended_by true (Some k) first x y nonces after done text e t n h =
    let each : List (List ℕ) = sealed_each k first.channel first.counter done in
    let nonce : nonce_of nonces ≡ nonce_at first.channel (first.counter + length done) = ap (λ (m : NonceState). nonce_of m) n in
    let frame : sealed k false (nonce_of nonces) (text_of x) ≡ sealed k false (nonce_at first.channel (first.counter + length done)) text =
    ap (λ (m : List ℕ). sealed k false m (text_of x)) nonce
    ∙ ap (λ (l : List ℕ). sealed k false (nonce_at first.channel (first.counter + length done)) l) t in
    let last : List ℕ = sealed k false (nonce_at first.channel (first.counter + length done)) text in
    let count : first.counter + length done + 1 ≡ first.counter + length (done ++ text ∷ []) =
    omega (arith, length-append done (text ∷ [])) in (
      h.1
          ∙ (ap (λ (l : List ℕ). l ++ framed (sealed k false (nonce_of nonces) (text_of x))) e
          ∙ (ap (λ (l : List ℕ). all_framed each ++ framed l) frame
          ∙ (sym (framed_more each last)
          ∙ ap (λ (l : List (List ℕ)). all_framed l) (sym (sealed_more k first.channel first.counter done text))))),
      h.2
          ∙ (ap (λ (m : NonceState). record m { counter = m.counter + 1 }) n
          ∙ ap (λ (c : ℕ). record first { counter = c }) count),
    )

pub ends : (keys : Option Keys) (first : NonceState) (x y : Frames) (nonces after : NonceState) (done front : List (List ℕ))
    → IsReplyBegun keys first x nonces done front → Finished x nonces keys y after
    → IsWritten keys first y after (done ++ concatenated front ∷ []) []
unfolding is_filled
ends keys first x y nonces after done front b f =
    let parts = parts_are keys first x nonces done front b in
    let text : List ℕ = concatenated front in
    let by = ended_by x.sealed keys first x y nonces after done text parts.0 parts.1 b.nonces_are f.is in
    let due : y.out.items ≡ all_framed (frames_of y.sealed keys first (done ++ text ∷ [])) =
    by.0 ∙ ap (λ (s : Bool). all_framed (frames_of s keys first (done ++ text ∷ []))) (sym f.sealed_is) in
    record {
      out = due ∙ sym (append-nil (all_framed (frames_of y.sealed keys first (done ++ text ∷ []))));
      is_open = f.closed;
      text = λ shown. absurd (let shut : y.open ≡ false = f.closed in cc);
      nonces_are = by.1 ∙ ap (λ (s : Bool). nonces_behind s first (length (done ++ text ∷ []))) (sym f.sealed_is);
    }

-- under a nonce that there was
counted : (s : Bool) (keys : Option Keys) (x y : Frames) (nonces after : NonceState) → s ≡ true → FinishedBy s x nonces keys y after
    → nonces.counter < last_counter
counted false keys x y nonces after e h = absurd (cc)
counted true None x y nonces after e h = absurd h
counted true (Some k) x y nonces after e h = h.0

never : true ≡ false → ⊥
never e = cc

-- a frame that goes on
pub goes_by : (keys : Option Keys) (first : NonceState) (sealed : Bool) (x : Frames) (nonces : NonceState) (done front : List (List ℕ))
    (t : List ℕ) (u : Unit) → IsReplyBegun keys first x nonces done (front ++ t ∷ [])
    → ReplyEndsBy keys first sealed true nonces x nonces done front t (Ok u)
goes_by keys first sealed x nonces done front t u b = (goes_on keys first x nonces done front t b, λ e s. absurd (never e))

-- by what ending it came to
pub ends_by : (keys : Option Keys) (first : NonceState) (x y : Frames) (nonces after : NonceState) (done front : List (List ℕ))
    (t : List ℕ) (result : Result Unit ConnEnd) → IsReplyBegun keys first x nonces done (front ++ t ∷ [])
    → ReplyFinishes x nonces keys y after result
    → ReplyEndsBy keys first x.sealed false nonces y after done front t result
ends_by keys first x y nonces after done front t (Ok u) b f =
    (ends keys first x y nonces after done (front ++ t ∷ []) b f, λ more s. counted x.sealed keys x y nonces after s f.is)
ends_by keys first x y nonces after done front t (Err Spent) b f = (refl, f.0, f.1)
ends_by keys first x y nonces after done front t (Err Unsealable) b f = (f.0, f.1)
ends_by keys first x y nonces after done front t (Err BadFrame) b f = absurd f
ends_by keys first x y nonces after done front t (Err (OutsideWindow id)) b f = absurd f
ends_by keys first x y nonces after done front t (Err SecondNegotiate) b f = absurd f
ends_by keys first x y nonces after done front t (Err Full) b f = absurd f
ends_by keys first x y nonces after done front t (Err (LinkFault count)) b f = absurd f
ends_by keys first x y nonces after done front t (Err (Stopped count)) b f = absurd f
ends_by keys first x y nonces after done front t (Err Memory) b f = absurd f

pub shut_by : (x y : Frames) (nonces after : NonceState) (keys : Option Keys) (result : Result Unit ConnEnd)
    → ReplyFinishes x nonces keys y after result → OnOk result ((y.open ≡ false) × (y.sealed ≡ x.sealed))
shut_by x y nonces after keys (Ok u) f = (f.closed, f.sealed_is)
shut_by x y nonces after keys (Err e) f = tt

pub not_both : (b : Bool) → b ≡ true → b ≡ false → ⊥
not_both true e f = cc
not_both false e f = cc
