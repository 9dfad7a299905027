-- Opens that leave one behind the other, as one more.
use Rattle.std.proofs.Common.{◌≡◌, ◌<◌, ℕ, ◌+◌, true, List, ◌∷◌, [], ◌++◌, length, take, drop, get_or, sym, ap, subst}
use Rattle.std.proofs.Common.{◌∙◌, append_assoc}
use Rattle.std.proofs.lemmas.List.{at_drop_more, take-append-drop, take_more, append-nil}
use Rattle.spec_exchange.specs.State as model
use Rattle.spec_exchange.specs.Opens.{leave_open, leave_records}
use Rattle.spec_exchange.specs.Effects.{leave_all, leave_all_records}
use Rattle.law_server.specs.tables.Fits.{is_ascending}
use Rattle.law_records.specs.leaving_opens.Since.{AllStand}
use Rattle.law_records.proofs.leaving_opens.All.{next_stands, one_more, one_more_records}
use Rattle.server_effects.specs.declared.leaving_opens.leaving.Leaving.{Leaving}
use Rattle.server_effects.specs.leaving_opens.Left.{HasLeft}

pub split_at : (ids : List ℕ) (i : ℕ) → i < length ids → ids ≡ take i ids ++ get_or ids i 0 ∷ drop (i + 1) ids
split_at ids i h = sym (take-append-drop i ids) ∙ at_drop_more (λ (v : List ℕ). take i ids ++ v) ids i 0 h

-- the next one stands yet
pub each_stands : (u : model.Server) (ids : List ℕ) (i : ℕ) → i < length ids → is_ascending ids ≡ true → AllStand u ids
    → (leave_all u (take i ids)).standing (get_or ids i 0) ≡ true
each_stands u ids i h a stand =
    next_stands u (take i ids) (get_or ids i 0) (drop (i + 1) ids)
    (subst (λ (v : List ℕ). is_ascending v ≡ true) (split_at ids i h) a)
    (subst (λ (v : List ℕ). AllStand u v) (split_at ids i h) stand)

-- these left, with their records
abbrev pub HaveLeft : Leaving → model.Server → model.Server → model.Origin → List ℕ → List model.Record → List model.Record → Type 0
HaveLeft m s u origin os old new = HasLeft m s (leave_all u os) × (new ≡ old ++ leave_all_records u origin os)

pub none_left : (l : Leaving) (s u : model.Server) (origin : model.Origin) (rs : List model.Record)
    → HasLeft l s u → HaveLeft l s u origin [] rs rs
unfolding leave_all leave_all_records
none_left l s u origin rs a = (a, sym (append-nil rs))

pub each_next : (m : Leaving) (s u : model.Server) (origin : model.Origin) (ids : List ℕ) (i : ℕ) (r0 r1 r2 : List model.Record)
    → i < length ids → r1 ≡ r0 ++ leave_all_records u origin (take i ids)
    → HasLeft m s (leave_open (leave_all u (take i ids)) (get_or ids i 0))
    × (r2 ≡ r1 ++ leave_records (leave_all u (take i ids)) origin (get_or ids i 0))
    → HaveLeft m s u origin (take (i + 1) ids) r0 r2
each_next m s u origin ids i r0 r1 r2 h e a =
    subst (λ (v : List ℕ). HaveLeft m s u origin v r0 r2) (sym (take_more ids i 0 h)) (
      subst (λ (t : model.Server). HasLeft m s t) (sym (one_more u (take i ids) (get_or ids i 0))) a.0,
      a.1
          ∙ ap (λ (v : List model.Record). v ++ leave_records (leave_all u (take i ids)) origin (get_or ids i 0)) e
          ∙ append_assoc r0 (leave_all_records u origin (take i ids)) (leave_records (leave_all u (take i ids)) origin (get_or ids i 0))
          ∙ ap (λ (v : List model.Record). r0 ++ v) (sym (one_more_records u origin (take i ids) (get_or ids i 0))),
    )
