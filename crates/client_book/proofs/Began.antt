-- What a channel without a connection is told.
use Rattle.std.proofs.Common.{◌≡◌, ℕ, Bool, true, false, nat_lt, ◌<◌, ◌≤◌, ◌&&◌, not, arith, inl, inr, refl, sym, ap, subst, ◌∙◌}
use Rattle.std.proofs.lemmas.Grind.{common_steps}
use Rattle.client_ends.specs.declared.ends.config.Bound.{Bound}
use Rattle.client_steps.specs.declared.whole_client.client.Client.{Client as Core}
use Rattle.client_steps.specs.whole_client.Shown.{ShowsClient}
use Rattle.spec_crypto.specs.declared.sessions.material.Keys.{Keys}
use Rattle.spec_exchange.specs.Client.{Client}
use Rattle.client_book.specs.Steps.{Fails, FailsBy, GivesUp, LeavesClient, StopsOr, failing, shared_of}
use Rattle.client_book.specs.Beginning.{Shared, is_settled, told_begun, told_none}
use Rattle.client_book.specs.declared.book.ClientBook.{ClientBook}
use Rattle.client_book.specs.declared.turn.Told.{Told}
use Rattle.client_book.specs.declared.turn.Told.TheVariants as tells
use Rattle.client_book.proofs.Turned.{happens_before, rests_before, rests_of}

pub bound_is : (b : Bound) (session tree : ℕ) (keys : Keys) → b.session ≡ session → b.tree ≡ tree → b.keys ≡ keys
    → b ≡ record { session = session; tree = tree; keys = keys }
bound_is b session tree keys s t k = λ i. record { session = s i; tree = t i; keys = k i }

gives_before : (old mid new : ClientBook) (s : Shared) (told : Told) → LeavesClient old mid → GivesUp mid s told new
    → GivesUp old s told new
gives_before old mid new s told l (inl (h, e, live)) =
    inl (happens_before old mid new _ told l h, e, λ c shown. live c (subst (λ (x : Core). ShowsClient x c) (sym l.client) shown))
gives_before old mid new s told l (inr (r, e, is, live)) =
    inr (rests_before old mid new l r, e, is, λ c shown. live c (subst (λ (x : Core). ShowsClient x c) (sym l.client) shown))

module _ (old mid : ClientBook) (channel : ℕ) (shared : shared_of mid ≡ failing channel (shared_of old)) where
  abbrev Behind : Shared
  Behind = failing channel (shared_of old)

  counted : (few : Bool) → nat_lt mid.failed 8 ≡ few → nat_lt Behind.failed 8 ≡ few
  counted few is = ap (λ (s : Shared). nat_lt s.failed 8) (sym shared) ∙ is

  is_few : mid.failed < 8 → nat_lt mid.failed 8 ≡ true
  is_few low = grind (arith, common_steps)

  is_many : 8 ≤ mid.failed → nat_lt mid.failed 8 ≡ false
  is_many high = grind (arith, common_steps)

  -- a connect failed that was not the last one
  pub fails_few : old.stopped ≡ false → LeavesClient old mid → mid.failed < 8 → Fails old channel tells.Nothing mid
  fails_few going l is =
      subst (λ (few : Bool). FailsBy few old Behind tells.Nothing mid) (sym (counted true (is_few is)))
      (rests_of old mid going l, shared, refl)

  -- it was the last one
  pub fails_last : (new : ClientBook) (told : Told) → LeavesClient old mid → 8 ≤ mid.failed
      → StopsOr told new (GivesUp mid (shared_of mid) told new) → StopsOr told new (Fails old channel told new)
  fails_last new told l is (inl s) = inl s
  fails_last new told l is (inr g) =
      inr (subst (λ (few : Bool). FailsBy few old Behind told new) (sym (counted false (is_many is)))
      (subst (λ (x : Shared). GivesUp old x told new) shared (gives_before old mid new (shared_of mid) told l g)))

-- none is live, and not everything is done
pub begun_waits : (d : Client) (s : Shared) (channel : ℕ) (first : Bool) (shuns : ℕ) → (is_settled d && not first) ≡ false → d.live ≡ false
    → told_none d s channel ≡ told_begun d s channel first shuns
begun_waits d s channel first shuns done live = rw (done, live) refl
