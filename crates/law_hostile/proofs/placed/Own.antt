-- A message that a server's end hears without a fault was signed for its opening, where nothing is forged.
use Rattle.std.proofs.Common.{◌≡◌, ℕ, Bool, true, false, List, inl, inr, refl, sym, ◌∙◌, ap, subst, None}
use Rattle.std.proofs.Common.{Result, Ok, Err}
use Rattle.law_server.proofs.tables.Logic.{both}
use Rattle.spec_exchange.specs.Commands.{has_bit}
use Rattle.spec_world.specs.Settings.{WorldSettings}
use Rattle.spec_world.specs.Ends.{ServerEnd, ConnEnd}
use Rattle.spec_world.specs.Hearing.{Checked, Frame, check_frame, signed_by, is_negotiate, is_setup, is_probe}
use Rattle.spec_world.specs.Statements.{IsGuarded}
use Rattle.law_nonces.proofs.negotiation.Guarded.{guarded}
use Rattle.law_nonces.proofs.server_nonces.Serving.{FrameSame, frame_same}
use Rattle.spec_hostile.specs.RepeatRuns.{RepeatEvent, Give}
use Rattle.spec_hostile.specs.SignedFor.{Watched, InSession, TakesUp, WasSigned, opening_of}
use Rattle.law_hostile.specs.unforged.Unforged.{EventSigned}
use Rattle.law_hostile.specs.placed.Placed.{WasPutFor, watched_to, GivesMessage, HeardIsOwn}
use Rattle.law_hostile.proofs.unforged.Deciding.{by_setup, up_entry, up_verifies, is_taken_up, taken_up, is_none_of}
use Rattle.law_hostile.proofs.placed.Requests.{signed_for_opening}

keys_same : (f : ServerEnd) (r : Result Frame ConnEnd) (x : Frame) → r ≡ Ok x → FrameSame f r → x.server_end.keys ≡ f.keys
keys_same f (Err why) x e s = absurd (let q : Err why ≡ Ok x = e in cc)
keys_same f (Ok y) x e s =
    let same : y ≡ x = (let q : Ok y ≡ Ok x = e in cc) in
    subst (λ (v : Frame). v.server_end.keys ≡ f.keys) same s.0

not_both : (b : Bool) → b ≡ true → b ≡ false → (P : Type 0) → P
not_both b e f P = absurd (cc)

-- of the ways to be guarded only the connection's own signature is left
only_signed : (f : ServerEnd) (x : Frame) (c : Checked) → IsGuarded f x c → x.sealed ≡ false → is_negotiate c.header ≡ false
    → is_setup c.header ≡ false → is_probe c.header c.raw ≡ false
    → (has_bit c.header.flags 8 ≡ true) × (signed_by f.keys c.raw ≡ true)
only_signed f x c (inl h) plain n s p = not_both x.sealed h plain _
only_signed f x c (inr (inl h)) plain n s p = (h.1, h.2)
only_signed f x c (inr (inr (inl h))) plain n s p = not_both (is_setup c.header) h s _
only_signed f x c (inr (inr (inr (inl h)))) plain n s p = not_both (is_negotiate c.header) h n _
only_signed f x c (inr (inr (inr (inr h)))) plain n s p = not_both (is_probe c.header c.raw) h p _

is_taken : (t : Watched) (f : ServerEnd) (c : Checked) → has_bit c.header.flags 8 ≡ true → c.fault ≡ None → is_setup c.header ≡ false
    → signed_by f.keys c.raw ≡ true → is_taken_up t f c ≡ true
is_taken t f c flag fine s signed =
    both (has_bit c.header.flags 8) _ flag
    (both _ (up_verifies t f c (is_setup c.header)) (is_none_of c.fault fine)
    (ap (λ b. up_verifies t f c b) s ∙ signed))

entry_place : (t : Watched) (k : ℕ) (c : Checked) → is_setup c.header ≡ false → (up_entry t k c).place ≡ opening_of t.repeating k
entry_place t k c s = ap (λ b. by_setup b (InSession c.header.session) (opening_of t.repeating k)) s

own_of : (z : WorldSettings) (es : List RepeatEvent) (k place : ℕ) (c : Checked) → EventSigned z (watched_to z es) (Give k true place)
    → GivesMessage (watched_to z es) k place c → c.fault ≡ None → is_setup c.header ≡ false
    → (has_bit c.header.flags 8 ≡ true) × (signed_by ((watched_to z es).repeating.world.wires k).server_end.keys c.raw ≡ true)
    → WasPutFor (watched_to z es).repeating k ((watched_to z es).repeating.openings k) c.raw
own_of z es k place c all h fine s signed =
    let t = watched_to z es in
    let f = (t.repeating.world.wires k).server_end in
    let x = h.frame in
    let keys = keys_same f (check_frame f h.put.frame) x h.heard (frame_same f h.put.frame) in
    let here = subst (λ o. signed_by o c.raw ≡ true) (sym keys) signed.1 in
    let taken = taken_up t k x.server_end c (is_taken t x.server_end c signed.0 fine s here) in
    let w : WasSigned t (up_entry t k c) =
    all (up_entry t k c) (TakesUp k place h.index h.put x c h.at h.served h.heard h.message taken) in
    signed_for_opening z es w.0 k (t.repeating.openings k) (up_entry t k c) w.1 refl (entry_place t k c s)

pub heard_is_own : HeardIsOwn
heard_is_own z es k place c all h fine n s p =
    let t = watched_to z es in
    let f = (t.repeating.world.wires k).server_end in
    own_of z es k place c all h fine s
    (only_signed f h.frame c (guarded f h.put.frame h.frame h.index c h.heard h.message fine) h.plain n s p)
