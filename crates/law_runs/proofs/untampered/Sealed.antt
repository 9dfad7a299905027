-- A logon seals only where the settings' client offers a cipher that is known.
use Rattle.std.proofs.Common.{◌≡◌, ℕ, ◌==◌, Bool, true, false, if◌then◌else◌, List, [], ◌∷◌, refl, sym, ap, ◌∙◌, subst, Option, Some, None}
use Rattle.spec_exchange.specs.State.{Body, Empty, SetUp, Connected, Created, Closed, Content, Count, Listing, FileInfo}
use Rattle.spec_exchange.specs.State.{VolumeInfo, Interfaces, ObjectId}
use Rattle.spec_exchange.specs.Network.{World as Values, Event, Sent, answer, run, start}
use Rattle.spec_crypto.specs.sessions.Choice.{is_cipher, chosen_with, cipher_of, signing_of}
use Rattle.spec_crypto.specs.sessions.Derivation.{known}
use Rattle.law_answers.specs.sealing_logons.Sealed.{seals, sets_up}
use Rattle.law_answers.proofs.sealing_logons.Runs.{seals_have_ciphers}
use Rattle.spec_world.specs.Settings.{WorldSettings, chosen_of, values_of}
use Rattle.spec_commands.specs.ReplyBody.{seals_in}

-- ---- the cipher that is chosen is known, or none

either_way : (n : ℕ) (b : Bool) → (if b then n else n) ≡ n
either_way n true = refl
either_way n false = refl

known_by : (c rest : ℕ) (b : Bool) → is_cipher c ≡ b → known rest ≡ rest → known (if b then c else rest) ≡ (if b then c else rest)
known_by c rest true e same = ap (λ b. if b then c else 0) e
known_by c rest false e same = same

is_known : (cs : List ℕ) → known (cipher_of cs) ≡ cipher_of cs
unfolding cipher_of
is_known [] = either_way 0 (is_cipher 0)
is_known (c ∷ cs) = known_by c (cipher_of cs) (is_cipher c) refl (is_known cs)

cipher_is : (cipher : ℕ) (signing : Option ℕ) → (chosen_with cipher signing).cipher ≡ cipher
cipher_is cipher None = refl
cipher_is cipher (Some s) = refl

chosen_known : (z : WorldSettings) → ((chosen_of z.client).cipher == 0) ≡ false → (known (chosen_of z.client).cipher == 0) ≡ false
chosen_known z some =
    let c = cipher_of z.client.ciphers in
    let is : (chosen_of z.client).cipher ≡ c = cipher_is c (signing_of z.client.signings) in
    ap (λ n. known n == 0) is ∙ (ap (λ n. n == 0) (is_known z.client.ciphers) ∙ (ap (λ n. n == 0) (sym is) ∙ some))

-- ---- the reply

same_seals : (b : Body) → seals_in b ≡ true → seals b ≡ true
same_seals (SetUp encrypts channel) e = e
same_seals Empty e = e
same_seals (Created reply) e = e
same_seals (Closed info) e = e
same_seals (Content bytes) e = e
same_seals (Count count) e = e
same_seals (Interfaces address) e = e
same_seals (ObjectId file) e = e
same_seals (Listing class entries) e = e
same_seals (FileInfo class path info access options position) e = e
same_seals (VolumeInfo class room used) e = e
same_seals (Connected kind capabilities access) e = e

pub seals_fit : (z : WorldSettings) (es : List Event) (v : Values) → v ≡ run es (start (values_of z)) → (k : ℕ) (x : Sent) (xs : List Sent)
    → (v.conns k).up ≡ x ∷ xs → sets_up x.message.command ≡ true → seals_in (answer v x).reply.body ≡ true
    → (known (chosen_of z.client).cipher == 0) ≡ false
seals_fit z es v e k x xs h up told =
    chosen_known z (seals_have_ciphers (values_of z) es k x xs (subst (λ (u : Values). (u.conns k).up ≡ x ∷ xs) e h) up
    (subst (λ (u : Values). seals (answer u x).reply.body ≡ true) e (same_seals (answer v x).reply.body told)))
