-- A frame that is ended: as it is, or sealed.
use Rattle.std.proofs.Common.{◌≡◌, ℕ, ◌+◌, ◌-◌, ◌≤◌, Bool, true, false, List, ◌++◌, length, take, drop, Option, Some, None, Ok, Err}
use Rattle.std.proofs.Common.{refl, sym, ap, subst, ◌∙◌, arith}
use Rattle.spec_crypto.specs.declared.sessions.material.Keys.{Keys}
use Rattle.spec_crypto.specs.sessions.Nonces.{NonceState, nonce_of}
use Rattle.spec_crypto.specs.sessions.Sealing.{sealed}
use Rattle.conn_core.specs.declared.end.ConnEnd.{ConnEnd}
use Rattle.conn_core.specs.declared.end.ConnEnd.TheVariants.{BadFrame, OutsideWindow, SecondNegotiate, Unsealable}
use Rattle.conn_core.specs.declared.end.ConnEnd.TheVariants.{Spent, Full, LinkFault, Stopped, Memory}
use Rattle.conn_core.specs.declared.reply_sealing.frames.Frames.{Frames}
use Rattle.conn_core.specs.reply_sealing.Saying.{framed, front_size}
use Rattle.conn_core.specs.reply_sealing.Joining.{Finished, FinishedBy, ReplyFinishes, SealsAt, before, text_of}
use Rattle.conn_core.proofs.reply_sealing.Parts.{sealed_behind}

-- by the place of its length
pub closed_plain : (x y : Frames) (nonces : NonceState) (keys : Option Keys) (front : ℕ) → x.sealed ≡ false
    → front_size x.sealed ≤ x.text → front ≡ x.text - front_size x.sealed
    → y.out.items ≡ take front x.out.items ++ framed (drop (front + 4) x.out.items) → y.open ≡ false → y.sealed ≡ x.sealed
    → Finished x nonces keys y nonces
closed_plain x y nonces keys front plain fits at e shut same =
    let size : front_size x.sealed ≡ 4 = ap front_size plain in
    let place : front + 4 ≡ x.text = omega (arith, at, fits, size) in
    let out : y.out.items ≡ before x ++ framed (text_of x) =
    e ∙ (ap (λ (n : ℕ). take n x.out.items ++ framed (drop (front + 4) x.out.items)) at
    ∙ ap (λ (n : ℕ). before x ++ framed (drop n x.out.items)) place) in
    record {
      closed = shut;
      sealed_is = same;
      is = subst (λ (b : Bool). FinishedBy b x nonces keys y nonces) (sym plain) (out, refl);
    }

-- mid are its bytes behind the sealing
pub closed_sealed : (x y : Frames) (nonces after : NonceState) (keys : Option Keys) (front : ℕ) (mid : List ℕ) (u : Unit)
    → x.sealed ≡ true → x.text ≡ front + 56 → x.text ≤ length x.out.items
    → SealsAt (front + 4) x.out.items nonces keys mid after (Ok u)
    → y.out.items ≡ take front mid ++ framed (drop (front + 4) mid) → y.open ≡ false → y.sealed ≡ x.sealed
    → Finished x nonces keys y after
closed_sealed x y nonces after None front mid u sealing at inside h e shut same = absurd h
closed_sealed x y nonces after (Some k) front mid u sealing at inside h e shut same =
    let size : front_size x.sealed ≡ 56 = ap front_size sealing in
    let whole : front + 4 ≤ length x.out.items = omega (arith, at, inside) in
    let first : front ≡ x.text - front_size x.sealed = omega (arith, at, size) in
    let place : front + 4 + 52 ≡ x.text = omega (arith, at) in
    let text : List ℕ = sealed k false (nonce_of nonces) (drop (front + 4 + 52) x.out.items) in
    let out : y.out.items ≡ before x ++ framed (sealed k false (nonce_of nonces) (text_of x)) =
    sealed_behind front x.out.items mid y.out.items text whole h.2 e
    ∙ (ap (λ (n : ℕ). take n x.out.items ++ framed text) first
    ∙ ap (λ (n : ℕ). before x ++ framed (sealed k false (nonce_of nonces) (drop n x.out.items))) place) in
    record {
      closed = shut;
      sealed_is = same;
      is = subst (λ (b : Bool). FinishedBy b x nonces (Some k) y after) (sym sealing) (h.0, out, h.1);
    }

-- one that isn't
pub not_sealed : (x y : Frames) (nonces after : NonceState) (keys : Option Keys) (from : ℕ) (old mid : List ℕ) (cause : ConnEnd)
    → x.sealed ≡ true → SealsAt from old nonces keys mid after (Err cause) → ReplyFinishes x nonces keys y after (Err cause)
not_sealed x y nonces after None from old mid Unsealable sealing h = (sealing, h)
not_sealed x y nonces after None from old mid Spent sealing h = absurd h
not_sealed x y nonces after None from old mid BadFrame sealing h = absurd h
not_sealed x y nonces after None from old mid (OutsideWindow id) sealing h = absurd h
not_sealed x y nonces after None from old mid SecondNegotiate sealing h = absurd h
not_sealed x y nonces after None from old mid Full sealing h = absurd h
not_sealed x y nonces after None from old mid (LinkFault count) sealing h = absurd h
not_sealed x y nonces after None from old mid (Stopped count) sealing h = absurd h
not_sealed x y nonces after None from old mid Memory sealing h = absurd h
not_sealed x y nonces after (Some k) from old mid Unsealable sealing h = (sealing, h)
not_sealed x y nonces after (Some k) from old mid Spent sealing h = (sealing, h.0)
not_sealed x y nonces after (Some k) from old mid BadFrame sealing h = absurd h
not_sealed x y nonces after (Some k) from old mid (OutsideWindow id) sealing h = absurd h
not_sealed x y nonces after (Some k) from old mid SecondNegotiate sealing h = absurd h
not_sealed x y nonces after (Some k) from old mid Full sealing h = absurd h
not_sealed x y nonces after (Some k) from old mid (LinkFault count) sealing h = absurd h
not_sealed x y nonces after (Some k) from old mid (Stopped count) sealing h = absurd h
not_sealed x y nonces after (Some k) from old mid Memory sealing h = absurd h
