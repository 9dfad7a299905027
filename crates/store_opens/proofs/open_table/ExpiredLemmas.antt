-- The table behind guids that expired, and one whose index has no deadline of an open any more.
use Rattle.std.proofs.Common.{◌≡◌, ℕ, ◌==◌, Bool, true, false, if◌then◌else◌}
use Rattle.std.proofs.Common.{Some, None, refl, sym, subst, ◌∙◌, eqb-true}
use Rattle.std.specs.HashSet as set
use Rattle.spec_exchange.specs.Table.{put2}
use Rattle.spec_exchange.specs.State as model
use Rattle.store_opens.specs.open_index.Index.{indexes}
use Rattle.store_opens.specs.declared.open_table.table.Opens.{Opens}
use Rattle.store_opens.specs.open_table.Shown.{pair_eq, ShowsOpens}

pub shows_expired : (t u : Opens) (s : model.Server) (guids : ℕ → ℕ → Bool) (n : ℕ) → u ≡ record t {
  expired = u.expired;
  expired_count = u.expired_count;
}
    → ((c g : ℕ) → guids c g ≡ set.contains pair_eq u.expired (c, g)) → n ≡ u.expired_count → ShowsOpens t s
    → ShowsOpens u (record s { expired_guids = guids; expired_count = n })
shows_expired t u s guids n e expired count h =
    subst (λ (v : Opens). ShowsOpens v (record s { expired_guids = guids; expired_count = n })) (sym e) (record {
      epoch_is = h.epoch_is;
      given_is = h.given_is;
      count_is = h.count_is;
      rows_are = h.rows_are;
      trees_are = h.trees_are;
      guids_are = h.guids_are;
      files_are = h.files_are;
      sessions_are = h.sessions_are;
      listed = h.listed;
      plain_listed = h.plain_listed;
      named = h.named;
      expired_are = expired;
      expired_count_is = count;
      indexed = h.indexed;
      undated = h.undated;
    })

pub put2_congr : (f e : ℕ → ℕ → Bool) (client guid c g : ℕ) (v : Bool) → f c g ≡ e c g → put2 f client guid v c g ≡ put2 e client guid v c g
put2_congr f e client guid c g v same = rw same refl

-- a guid that was put in comes out again, unless it was in before
pub taken_out : (f : ℕ → ℕ → Bool) (client guid c g : ℕ) (was : Bool) → was ≡ f client guid
    → f c g ≡ (if was then put2 f client guid true c g else put2 (put2 f client guid true) client guid false c g)
taken_out f client guid c g was e = by (c == client) refl (g == guid) refl was e
  where
    here : (c == client) ≡ true → (g == guid) ≡ true → f c g ≡ f client guid
    here p q = subst (λ (z : ℕ). f c g ≡ f z guid) (eqb-true c client p) (subst (λ (z : ℕ). f c g ≡ f c z) (eqb-true g guid q) refl)

    by : (a : Bool) → (c == client) ≡ a → (b : Bool) → (g == guid) ≡ b → (was : Bool) → was ≡ f client guid
        → f c g ≡ (if was then (if a then (if b then true else f c g) else f c g) else
        (if a then (if b then false else (if a then (if b then true else f c g) else f c g)) else
        (if a then (if b then true else f c g) else f c g)))
    by true p true q true e = here p q ∙ sym e
    by true p true q false e = here p q ∙ sym e
    by true p false q true e = refl
    by true p false q false e = refl
    by false p b q true e = refl
    by false p b q false e = refl

pub shows_forgot : (t u : Opens) (s : model.Server) (o : ℕ) → u ≡ record t {
  deadlines = u.deadlines;
} → u.deadlines.is_whole ≡ t.deadlines.is_whole
    → ((q d : ℕ) → (q == o) ≡ false → indexes t.deadlines d q ≡ true → indexes u.deadlines d q ≡ true) → ShowsOpens t s
    → s.deadline o ≡ None → ShowsOpens u s
shows_forgot t u s o e whole others h none =
    subst (λ (v : Opens). ShowsOpens v s) (sym e) (record {
      epoch_is = h.epoch_is;
      given_is = h.given_is;
      count_is = h.count_is;
      rows_are = h.rows_are;
      trees_are = h.trees_are;
      guids_are = h.guids_are;
      files_are = h.files_are;
      sessions_are = h.sessions_are;
      listed = h.listed;
      plain_listed = h.plain_listed;
      named = h.named;
      expired_are = h.expired_are;
      expired_count_is = h.expired_count_is;
      indexed = λ w q d k. others q d (by q d (q == o) refl k) (h.indexed (sym whole ∙ w) q d k);
      undated = h.undated;
    })
  where
    by : (q d : ℕ) (b : Bool) → (q == o) ≡ b → s.deadline q ≡ Some d → (q == o) ≡ false
    by q d true f k = absurd (let l = subst (λ (z : ℕ). s.deadline z ≡ Some d) (eqb-true q o f) k in cc)
    by q d false f k = f

pub taken_out_of : (f e : ℕ → ℕ → Bool) (client guid c g : ℕ) (was : Bool) → was ≡ f client guid
    → ((k h : ℕ) → put2 f client guid true k h ≡ e k h)
    → f c g ≡ (if was then e c g else put2 e client guid false c g)
taken_out_of f e client guid c g was k same = taken_out f client guid c g was k ∙ by was
  where
    by : (b : Bool) → (if b then put2 f client guid true c g else put2 (put2 f client guid true) client guid false c g)
        ≡ (if b then e c g else put2 e client guid false c g)
    by true = same c g
    by false = put2_congr (put2 f client guid true) e client guid c g false (same c g)
