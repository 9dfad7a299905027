-- A step by what is told of the state before the first deadlines.
use Rattle.std.proofs.Common.{◌≡◌, ℕ, nat_le, Bool, true, false, if◌then◌else◌, List, ◌++◌, Option, Some, None, refl, sym, ap, ◌∙◌}
use Rattle.spec_exchange.specs.Records.{fits, origin_at}
use Rattle.spec_exchange.specs.State.{Answer, Origin, Record, Server, ServerEvent}
use Rattle.spec_exchange.specs.Step.{Ruling, behind_expiry, carried_out, connection_of, due, event_answer, expire, expire_records, expiring}
use Rattle.spec_exchange.specs.Step.{max_expired_guids, ruling, ruling_without_room, step, where_it_fits, with_deadlines, written_down}
use Rattle.law_records.proofs.expiry.Fit.{same_fits}

-- what `dated_law` says
pub record Dated : Type 0 where
  pub ruled : (s : Server) (now : ℕ) (e : ServerEvent) → ruling (with_deadlines s now) e ≡ ruling s e
  pub owed : (s : Server) (now : ℕ) (r : Ruling) → (carried_out (with_deadlines s now) now r).records ≡ (carried_out s now r).records
  pub front : (s : Server) (now : ℕ) (g : Origin) (o : ℕ) → expire_records (with_deadlines s now) g o ≡ expire_records s g o
  pub expired : (s : Server) (now o : ℕ) → expire (with_deadlines s now) o ≡ with_deadlines (expire s o) now

-- the ruling whose records fit
abbrev fitting : Server → ℕ → ServerEvent → Ruling
fitting s now e = if fits s (carried_out s now (ruling s e)).records then ruling s e else ruling_without_room (ruling s e)

by_fit : (d : Server) (now : ℕ) (r : Ruling) (b c : Bool) → b ≡ c
    → (if b then carried_out d now r else carried_out d now (ruling_without_room r))
    ≡ carried_out d now (if c then r else ruling_without_room r)
by_fit d now r b true e = ap (λ (v : Bool). if v then carried_out d now r else carried_out d now (ruling_without_room r)) e
by_fit d now r b false e = ap (λ (v : Bool). if v then carried_out d now r else carried_out d now (ruling_without_room r)) e

pub alone_by : Dated → (s : Server) (now : ℕ) (e : ServerEvent) → event_answer (with_deadlines s now) now e
    ≡ carried_out (with_deadlines s now) now (fitting s now e)
alone_by law s now e =
    let d = with_deadlines s now in
    ap (λ (r : Ruling). where_it_fits d now r (carried_out d now r)) (law.ruled s now e)
    ∙ by_fit d now (ruling s e) (fits d (carried_out d now (ruling s e)).records) (fits s (carried_out s now (ruling s e)).records)
    (same_fits s d (carried_out d now (ruling s e)).records refl refl ∙ ap (fits s) (law.owed s now (ruling s e)))

pub records_by : Dated → (s : Server) (now : ℕ) (e : ServerEvent) → (event_answer (with_deadlines s now) now e).records
    ≡ (event_answer s now e).records
records_by law s now e =
    ap (λ (A : Answer). A.records) (alone_by law s now e)
    ∙ (law.owed s now (fitting s now e)
    ∙ sym (ap (λ (A : Answer). A.records) (by_fit s now (ruling s e) (fits s (carried_out s now (ruling s e)).records)
    (fits s (carried_out s now (ruling s e)).records) refl)))

-- ---- none expires

full : (s : Server) (now : ℕ) (e : ServerEvent) (o : Option ℕ) → nat_le max_expired_guids s.expired_count ≡ true
    → expiring (with_deadlines s now) now e o ≡ event_answer (with_deadlines s now) now e
full s now e None k = refl
full s now e (Some o) k =
    let d = with_deadlines s now in
    ap (λ (b : Bool). if b then event_answer d now e else behind_expiry d now e (expire_records d (origin_at (connection_of e)) o)
    (carried_out (expire d o) now (ruling (expire d o) e))) k

none_if : (s : Server) (now : ℕ) (e : ServerEvent) (b : Bool) → nat_le max_expired_guids s.expired_count ≡ b
    → None ≡ (if b then None else due (with_deadlines s now) now) → step s now e ≡ written_down (event_answer (with_deadlines s now) now e)
none_if s now e true k h = ap written_down (full s now e (due (with_deadlines s now) now) k)
none_if s now e false k h = ap (λ (o : Option ℕ). written_down (expiring (with_deadlines s now) now e o)) (sym h)

pub none_by : (s : Server) (now : ℕ) (e : ServerEvent)
    → None ≡ (if nat_le max_expired_guids s.expired_count then None else due (with_deadlines s now) now)
    → step s now e ≡ written_down (event_answer (with_deadlines s now) now e)
none_by s now e h = none_if s now e (nat_le max_expired_guids s.expired_count) refl h

-- ---- one expires

-- the answer behind it, by the state that it leaves
abbrev behind_of : Server → ℕ → ServerEvent → ℕ → Answer
behind_of s now e o = carried_out (with_deadlines (expire s o) now) now (ruling (expire s o) e)

abbrev front_of : Server → ServerEvent → ℕ → List Record
front_of s e o = expire_records s (origin_at (connection_of e)) o

behind_is : Dated → (s : Server) (now o : ℕ) (e : ServerEvent) → (let x = expire (with_deadlines s now) o in carried_out x now (ruling x e))
    ≡ behind_of s now e o
behind_is law s now o e =
    ap (λ (x : Server). carried_out x now (ruling x e)) (law.expired s now o)
    ∙ ap (λ (r : Ruling). carried_out (with_deadlines (expire s o) now) now r) (law.ruled (expire s o) now e)

some_is : (s : Server) (now o : ℕ) (e : ServerEvent) → due (with_deadlines s now) now ≡ Some o
    → step s now e ≡ written_down (expiring (with_deadlines s now) now e (Some o))
some_is s now o e h = ap (λ (v : Option ℕ). written_down (expiring (with_deadlines s now) now e v)) h

kept_is : Dated → (s : Server) (now o : ℕ) (e : ServerEvent) → nat_le max_expired_guids s.expired_count ≡ false
    → expiring (with_deadlines s now) now e (Some o) ≡ behind_expiry (with_deadlines s now) now e (front_of s e o) (behind_of s now e o)
kept_is law s now o e k =
    let d = with_deadlines s now in
    ap (λ (b : Bool). if b then event_answer d now e else behind_expiry d now e (expire_records d (origin_at (connection_of e)) o)
    (carried_out (expire d o) now (ruling (expire d o) e))) k
    ∙ (ap (λ (rs : List Record). behind_expiry d now e rs (carried_out (expire d o) now (ruling (expire d o) e)))
    (law.front s now (origin_at (connection_of e)) o)
    ∙ ap (λ (A : Answer). behind_expiry d now e (front_of s e o) A) (behind_is law s now o e))

-- whether both fit is told by the state before
fit_is : Dated → (s : Server) (now o : ℕ) (e : ServerEvent)
    → fits (with_deadlines s now) (front_of s e o ++ (behind_of s now e o).records)
    ≡ fits s (front_of s e o ++ (carried_out (expire s o) now (ruling (expire s o) e)).records)
fit_is law s now o e =
    same_fits s (with_deadlines s now) (front_of s e o ++ (behind_of s now e o).records) refl refl
    ∙ ap (λ (rs : List Record). fits s (front_of s e o ++ rs)) (law.owed (expire s o) now (ruling (expire s o) e))

pub behind_by : Dated → (s : Server) (now o : ℕ) (e : ServerEvent) → due (with_deadlines s now) now ≡ Some o
    → nat_le max_expired_guids s.expired_count ≡ false
    → fits s (front_of s e o ++ (carried_out (expire s o) now (ruling (expire s o) e)).records) ≡ true
    → step s now e ≡ written_down (record (behind_of s now e o) {
      records = front_of s e o ++ (carried_out (expire s o) now (ruling (expire s o) e)).records;
    })
behind_by law s now o e h k f =
    let d = with_deadlines s now in let B = behind_of s now e o in
    some_is s now o e h
    ∙ ap written_down (kept_is law s now o e k
    ∙ (ap (λ (b : Bool). if b then record B { records = front_of s e o ++ B.records } else event_answer d now e) (fit_is law s now o e ∙ f)
    ∙ ap (λ (rs : List Record). record B { records = front_of s e o ++ rs }) (law.owed (expire s o) now (ruling (expire s o) e))))

-- the guids that are kept matter not, where both don't fit
unfit_if : Dated → (s : Server) (now o : ℕ) (e : ServerEvent) (b : Bool) → nat_le max_expired_guids s.expired_count ≡ b
    → fits s (front_of s e o ++ (carried_out (expire s o) now (ruling (expire s o) e)).records) ≡ false
    → expiring (with_deadlines s now) now e (Some o) ≡ event_answer (with_deadlines s now) now e
unfit_if law s now o e true k f = full s now e (Some o) k
unfit_if law s now o e false k f =
    let d = with_deadlines s now in let B = behind_of s now e o in
    kept_is law s now o e k
    ∙ ap (λ (b : Bool). if b then record B { records = front_of s e o ++ B.records } else event_answer d now e) (fit_is law s now o e ∙ f)

pub unfit_by : Dated → (s : Server) (now o : ℕ) (e : ServerEvent) → due (with_deadlines s now) now ≡ Some o
    → fits s (front_of s e o ++ (carried_out (expire s o) now (ruling (expire s o) e)).records) ≡ false
    → step s now e ≡ written_down (event_answer (with_deadlines s now) now e)
unfit_by law s now o e h f =
    some_is s now o e h ∙ ap written_down (unfit_if law s now o e (nat_le max_expired_guids s.expired_count) refl f)
