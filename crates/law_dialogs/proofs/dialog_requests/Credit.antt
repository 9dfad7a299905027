-- What the response to a dialog's request grants: a window that holds nothing gives all, and one that lacks 1 gives that back.
use Rattle.std.proofs.Common.{◌≡◌, ℕ, zero, suc, ◌+◌, ◌-◌, ◌^◌, nat_lt, min, max, sum, Bool, true, false, ◌||◌}
use Rattle.std.proofs.Common.{List, [], ◌∷◌, ◌++◌, length, length-append, refl, sym, ap, ◌∙◌, subst, arith}
use Rattle.spec_wire.specs.credits.Ids.{ids_from}
use Rattle.spec_wire.specs.credits.Window.{after_take, granted}
use Rattle.spec_wire.specs.credits.Purse.{Credits, after_add}
use Rattle.spec_wire.specs.credits.Exchange.{Line, IsBalanced, NothingIsRefused}
use Rattle.spec_exchange.specs.Client.{Stage, Apart, SaidNegotiate, SaidFirst, SaidSecond, AskedTree}
use Rattle.spec_wire.specs.declared.messages.header.Header.{Header}
use Rattle.spec_world.specs.Ends.{ClientEnd}
use Rattle.spec_world.specs.Dialog.{pays_next}
use Rattle.law_ties.specs.events.Links.{LinkReached, dialog_purse, dialog_grant, is_lined}
use Rattle.law_ties.proofs.requests.Linking.{line_less}

length_ids : (a n : ℕ) → length (ids_from a n) ≡ n
length_ids a zero = refl
length_ids a (suc n) = let e = length_ids (a + 1) n in omega (arith, e)

even_by : NothingIsRefused → (l : Line) → LinkReached l → IsBalanced l
even_by held l r = subst IsBalanced (sym r.is) (held r.steps).0

one_grant : (gs : List ℕ) (g : ℕ) → gs ≡ [] → sum (gs ++ g ∷ []) ≡ g
one_grant gs g e = ap (λ v. sum (v ++ g ∷ [])) e ∙ omega arith

-- behind the request the window holds what the purse holds
kept_length : (l : Line) (q : ℕ × ℕ) → l.grants ≡ [] → IsBalanced (line_less l q [])
    → length (after_take q.0 q.1 l.window).held ≡ l.purse.held
kept_length l q none even =
    let w = after_take q.0 q.1 l.window in
    let g = granted 512 w in
    let all = sum (l.grants ++ g ∷ []) in
    let e : length w.held + length (ids_from w.next g) ≡ l.purse.held + all =
    sym (length-append w.held (ids_from w.next g)) ∙ (ap length even.0 ∙ length_ids l.purse.next (l.purse.held + all)) in
    let f : length (ids_from w.next g) ≡ g = length_ids w.next g in
    let s : all ≡ g = one_grant l.grants g none in
    equal (length w.held) (length (ids_from w.next g)) l.purse.held all g e f s
  where
    equal : (a b c d g : ℕ) → a + b ≡ c + d → b ≡ g → d ≡ g → a ≡ c
    equal a b c d g e f s = omega (arith, e, f, s)

kept_next : (l : Line) → l.grants ≡ [] → IsBalanced l → l.window.next ≡ l.purse.next + l.purse.held
kept_next l none even = even.1 ∙ (ap (λ gs. l.purse.next + (l.purse.held + sum gs)) none ∙ omega arith)

-- what is granted hangs on how many ids are held and on the next one
abbrev grant_at : ℕ → ℕ → ℕ
grant_at count next = min (min (max 512 1) (512 - count)) (2 ^ 64 - 1 - next)

grant_of : (stage : Stage) → is_lined stage ≡ false → (count next : ℕ) → (p : Credits) → p ≡ dialog_purse stage → count ≡ p.held
    → next ≡ p.next + p.held → grant_at count next ≡ dialog_grant stage
grant_of Apart off count next p is e f = absurd (let h : true ≡ false = off in cc)
grant_of AskedTree off count next p is e f = absurd (let h : true ≡ false = off in cc)
grant_of (SaidNegotiate bound) off count next p is e f =
    ap (λ c. grant_at c next) (e ∙ ap (λ (v : Credits). v.held) is)
    ∙ ap (grant_at 0) (f ∙ ap (λ (v : Credits). v.next + v.held) is)
grant_of (SaidFirst bound) off count next p is e f =
    ap (λ c. grant_at c next) (e ∙ ap (λ (v : Credits). v.held) is)
    ∙ ap (grant_at 511) (f ∙ ap (λ (v : Credits). v.next + v.held) is)
grant_of (SaidSecond bound) off count next p is e f =
    ap (λ c. grant_at c next) (e ∙ ap (λ (v : Credits). v.held) is)
    ∙ ap (grant_at 511) (f ∙ ap (λ (v : Credits). v.next + v.held) is)

pub dialog_granted : NothingIsRefused → (l : Line) → LinkReached l → (q : ℕ × ℕ) → LinkReached (line_less l q [])
    → l.grants ≡ [] → (stage : Stage)
    → is_lined stage ≡ false → l.purse ≡ dialog_purse stage → granted 512 (after_take q.0 q.1 l.window) ≡ dialog_grant stage
dialog_granted held l r q behind none stage off purse =
    grant_of stage off (length (after_take q.0 q.1 l.window).held) l.window.next l.purse purse
    (kept_length l q none (even_by held (line_less l q []) behind)) (kept_next l none (even_by held l r))

-- the next request is paid for
paid_by : (stage : Stage) → is_lined stage ≡ false → nat_lt 0 (after_add (dialog_grant stage) (dialog_purse stage)).held ≡ true
paid_by Apart off = absurd (let h : true ≡ false = off in cc)
paid_by AskedTree off = absurd (let h : true ≡ false = off in cc)
paid_by (SaidNegotiate bound) off = refl
paid_by (SaidFirst bound) off = refl
paid_by (SaidSecond bound) off = refl

paid_now : (n : ClientEnd) (stage : Stage) (h : Header) → is_lined stage ≡ false → h.credits ≡ dialog_grant stage
    → n.purse ≡ dialog_purse stage → nat_lt 0 (after_add h.credits n.purse).held ≡ true
paid_now n stage h off e f =
    ap (λ g. nat_lt 0 (after_add g n.purse).held) e ∙ (ap (λ p. nat_lt 0 (after_add (dialog_grant stage) p).held) f ∙ paid_by stage off)

either_true : (a b : Bool) → b ≡ true → (a || b) ≡ true
either_true true b e = refl
either_true false b e = e

pub pays : (n : ClientEnd) (stage : Stage) (h : Header) → is_lined stage ≡ false → h.credits ≡ dialog_grant stage
    → n.purse ≡ dialog_purse stage → pays_next n stage h ≡ true
pays n Apart h off e f = absurd (let q : true ≡ false = off in cc)
pays n AskedTree h off e f = refl
pays n (SaidNegotiate bound) h off e f = paid_now n (SaidNegotiate bound) h off e f
pays n (SaidFirst bound) h off e f = paid_now n (SaidFirst bound) h off e f
pays n (SaidSecond bound) h off e f =
    either_true bound (nat_lt 0 (after_add h.credits n.purse).held) (paid_now n (SaidSecond bound) h off e f)
