-- Connections that are lost one behind the other: counts along them, and the state behind one more.
use Rattle.std.proofs.Common.{◌≡◌, ◌≤◌, ◌<◌, ℕ, ◌+◌, Bool, true, false, if◌then◌else◌, List, ◌∷◌, ◌++◌, length, take, drop}
use Rattle.std.proofs.Common.{get_or, sym, ap, subst, ◌∙◌, arith, Option, Some, None}
use Rattle.std.proofs.lemmas.List.{at_drop_all, at_drop_more, take_more}
use Rattle.spec_exchange.specs.State as model
use Rattle.spec_exchange.specs.Table.{has}
use Rattle.spec_exchange.specs.Records.{origin_at}
use Rattle.spec_exchange.specs.Effects.{plain_of, leave_all, leave_all_records}
use Rattle.spec_exchange.specs.Step.{take_all_out, take_all_records}
use Rattle.law_server.specs.tables.Fits.{Fits}
use Rattle.law_records.specs.leaving_opens.Out.{channel_left, channels_left, last_left, ends_left}
use Rattle.law_records.proofs.leaving_opens.Out.{stays_left, ended_there}
use Rattle.server_effects.specs.declared.leaving_opens.leaving.Leaving.{Leaving}
use Rattle.server_effects.specs.leaving_opens.Left.{HasLeft, opens_left, marked_by, went_with}
use Rattle.server_effects.proofs.leaving_opens.Each.{split_at}

-- ---- counts

pub left_more : (on : ℕ → Option ℕ) (lost ks : List ℕ) (x i n r t : ℕ) → i < length ks
    → n + channels_left on lost (drop i ks) x ≡ t → r ≡ channel_left (has (get_or ks i 0) lost) x (on (get_or ks i 0))
    → (n + r) + channels_left on lost (drop (i + 1) ks) x ≡ t
unfolding channels_left
left_more on lost ks x i n r t h e f =
    by n r (channel_left (has (get_or ks i 0) lost) x (on (get_or ks i 0))) (channels_left on lost (drop (i + 1) ks) x) t
    (channels_left on lost (drop i ks) x) (at_drop_more (λ (v : List ℕ). channels_left on lost v x) ks i 0 h) e f
  where
    by : (n r a b t d : ℕ) → d ≡ a + b → n + d ≡ t → r ≡ a → (n + r) + b ≡ t
    by n r a b t d g h i = omega (arith, g, h, i)

pub left_end : (on : ℕ → Option ℕ) (lost ks : List ℕ) (x i n t : ℕ) → length ks ≤ i
    → n + channels_left on lost (drop i ks) x ≡ t → n ≡ t
unfolding channels_left
left_end on lost ks x i n t h e =
    by n t (channels_left on lost (drop i ks) x) (at_drop_all (λ (v : List ℕ). channels_left on lost v x) ks i h) e
  where
    by : (n t d : ℕ) → d ≡ 0 → n + d ≡ t → n ≡ t
    by n t d g h = omega (arith, g, h)

-- ---- the session that ends with a connection

pub ends_lost : (s : model.Server) (ks : List ℕ) (i : ℕ) → has (get_or ks i 0) (take i ks) ≡ true
    → None ≡ ends_left s (take i ks) (get_or ks i 0) (drop (i + 1) ks)
ends_lost s ks i h =
    ap (λ (b : Bool). if b then None else last_left s (take i ks) (get_or ks i 0 ∷ drop (i + 1) ks) (s.session_on (get_or ks i 0))) (sym h)

pub ends_on : (s : model.Server) (ks : List ℕ) (i : ℕ) (o r : Option ℕ) → i < length ks → has (get_or ks i 0) (take i ks) ≡ false
    → o ≡ s.session_on (get_or ks i 0) → r ≡ last_left s (take i ks) (drop i ks) o
    → r ≡ ends_left s (take i ks) (get_or ks i 0) (drop (i + 1) ks)
ends_on s ks i o r h n e l =
    l ∙ at_drop_more (λ (v : List ℕ). last_left s (take i ks) v o) ks i 0 h
    ∙ ap (λ (a : Option ℕ). last_left s (take i ks) (get_or ks i 0 ∷ drop (i + 1) ks) a) e
    ∙ ap (λ (b : Bool). if b then None else last_left s (take i ks) (get_or ks i 0 ∷ drop (i + 1) ks)
    (s.session_on (get_or ks i 0))) (sym n)

-- ---- one connection more

-- the state behind the first i connections, with the records of all that ended by then
abbrev pub AreOut : Leaving → model.Server → ℕ → List ℕ → List model.Record → Type 0
AreOut l s now ks rs = HasLeft l s (take_all_out s ks now false) × (rs ≡ take_all_records s ks now false)

pub next_stays : (l : Leaving) (s : model.Server) (now i : ℕ) (rs : List model.Record) → Fits s → i < length s.connections
    → ends_left s (take i s.connections) (get_or s.connections i 0) (drop (i + 1) s.connections) ≡ None
    → AreOut l s now (take i s.connections) rs → AreOut l s now (take (i + 1) s.connections) rs
next_stays l s now i rs f h e a =
    let ks = take i s.connections in
    let b = stays_left (opens_left l) (marked_by l) (went_with l) s ks (get_or s.connections i 0) (drop (i + 1) s.connections) now f
    (split_at s.connections i h) e a.0 in
    subst (λ (v : List ℕ). AreOut l s now v rs) (sym (take_more s.connections i 0 h)) (b.0, a.1 ∙ sym b.1)

pub next_ended : (m : Leaving) (s : model.Server) (now i x : ℕ) (origin : model.Origin) (r1 r2 : List model.Record) → Fits s
    → i < length s.connections
    → ends_left s (take i s.connections) (get_or s.connections i 0) (drop (i + 1) s.connections) ≡ Some x
    → origin ≡ origin_at 0 → r1 ≡ take_all_records s (take i s.connections) now false
    → HasLeft m s (leave_all (take_all_out s (take i s.connections) now false) (plain_of s x))
    × (r2 ≡ r1 ++ leave_all_records (take_all_out s (take i s.connections) now false) origin (plain_of s x))
    → AreOut m s now (take (i + 1) s.connections) r2
next_ended m s now i x origin r1 r2 f h e o r a =
    let ks = take i s.connections in
    let u = take_all_out s ks now false in
    let b = ended_there (opens_left m) (marked_by m) (went_with m) s ks (get_or s.connections i 0) (drop (i + 1) s.connections) now x f
    (split_at s.connections i h) e a.0 in
    subst (λ (v : List ℕ). AreOut m s now v r2) (sym (take_more s.connections i 0 h)) (
      b.0,
      a.1 ∙ ap (λ (v : List model.Record). v ++ leave_all_records u origin (plain_of s x)) r
          ∙ ap (λ (z : model.Origin). take_all_records s ks now false ++ leave_all_records u z (plain_of s x)) o
          ∙ sym b.1,
    )
